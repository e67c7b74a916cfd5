-- Labels: those of one form differ, and as many bindings as labels bind each of them once.
use Rattle.std.proofs.Common.{◌≡◌, ℕ, zero, suc, ◌+◌, ◌<◌, ◌≤◌, inl, inr, Bool, true, List, [], ◌∷◌, ◌++◌, length, take, map, slice_get, Some, refl, ap, sym, ◌∙◌, subst, arith, length-append}
use Rattle.std.specs.List.{AllByRecursion}
use Rattle.std.specs.Str.{bytes_eq}
use Rattle.std.proofs.lemmas.Slice.Eq.{bytes_eq-Decides}
use Rattle.text_core.specs.Names.{Text}
use Rattle.text_core.specs.Numbered.{text_or_empty}
use Rattle.text_core.specs.Lists.{IsAmong}
use Rattle.text_core.proofs.Laws.{each_map, each_member, among_front, among_back, among_append}
use Rattle.vernacular_tree.specs.Contexts.{counted}
use Rattle.coherent_form.specs.Labels.{how_many, label_of}
use Rattle.coherent_form.specs.declared.label.Label.{Label}
use Rattle.proof_text.specs.StandsFor.{labels_of}
use Rattle.proof_checker.specs.Checks.{EachBehind}

-- no member is one of those behind it
abbrev pub Differ : {X : Type 0} → List X → Type 0
Differ [] = Unit {0}
Differ (x ∷ xs) = (IsAmong x xs → ⊥) × Differ xs

-- a member, with what is before and behind it
record IsIn {X : Type 0} (x : X) (xs : List X) : Type 0 where
  before : List X
  behind : List X
  are : xs ≡ before ++ x ∷ behind

-- a member is somewhere
place_of : {X : Type 0} (x : X) (xs : List X) → IsAmong x xs → IsIn x xs
place_of x [] among = absurd among
place_of x (y ∷ ys) (inl e) = record { before = []; behind = ys; are = ap (λ z. z ∷ ys) e }
place_of x (y ∷ ys) (inr among) = let rest = place_of x ys among in
    record { before = y ∷ rest.before; behind = rest.behind; are = ap (λ zs. y ∷ zs) rest.are }

-- another member is before or behind it
without : {X : Type 0} (x y : X) (before behind : List X) → (x ≡ y → ⊥) → IsAmong y (before ++ x ∷ behind) → IsAmong y (before ++ behind)
without x y before behind other among = elim (among_append y before (x ∷ behind) among) [
  | inl front ↦ among_front y before behind front
  | inr back ↦ elim back [ inl same ↦ absurd (other same) | inr rest ↦ among_back y before behind rest ]
]

-- each of some that lack x is before or behind it
each_without : {X : Type 0} (x : X) (before behind ys : List X) → (IsAmong x ys → ⊥)
    → AllByRecursion (λ y. IsAmong y (before ++ x ∷ behind)) ys → AllByRecursion (λ y. IsAmong y (before ++ behind)) ys
each_without x before behind [] lacks all = tt
each_without x before behind (y ∷ ys) lacks all = (
  without x y before behind (λ same. lacks (inl (sym same))) all.0,
  each_without x before behind ys (λ among. lacks (inr among)) all.1,
)

-- P of each of some, with one more between
each_between : {X : Type 0} (P : X → Type 0) (x : X) (before behind : List X) → P x → AllByRecursion P (before ++ behind) → AllByRecursion P (before ++ x ∷ behind)
each_between P x [] behind here all = (here, all)
each_between P x (z ∷ before) behind here all = (all.0, each_between P x before behind here all.1)

-- a member between others that differ and are among some that lack it
between : {X : Type 0} (x : X) (before behind ys : List X) → (IsAmong x ys → ⊥)
    → AllByRecursion (λ y. IsAmong y ys) (before ++ behind) → Differ (before ++ behind) → Differ (before ++ x ∷ behind)
between x [] behind ys lacks all differ = ((λ among. lacks (each_member (λ y. IsAmong y ys) behind all x among)), differ)
between x (z ∷ before) behind ys lacks all differ = (
  (λ among. differ.0 (without x z before behind (λ same. lacks (subst (λ w. IsAmong w ys) (sym same) all.0)) among)),
  between x before behind ys lacks all.1 differ.1,
)

-- so many as there are in a list, each different and among them, are all of them, and these differ
pub covers : {X : Type 0} (xs ys : List X) → Differ xs → AllByRecursion (λ x. IsAmong x ys) xs → length ys ≡ length xs
    → AllByRecursion (λ y. IsAmong y xs) ys × Differ ys
covers [] [] differ all long = (tt, tt)
covers [] (y ∷ ys) differ all long = absurd (omega arith)
covers {X} (x ∷ xs) ys differ all long =
    let at = place_of x ys all.0 in
    let inside = each_without x at.before at.behind xs differ.0 (subst (λ (zs : List X). AllByRecursion (λ y. IsAmong y zs) xs) at.are all.1) in
    let total : length ys ≡ length at.before + length (x ∷ at.behind) = ap length at.are ∙ length-append at.before (x ∷ at.behind) in
    let both : length (at.before ++ at.behind) ≡ length at.before + length at.behind = length-append at.before at.behind in
    let rest = covers xs (at.before ++ at.behind) differ.1 inside (omega arith) in
    let among = each_between (λ y. IsAmong y (x ∷ xs)) x at.before at.behind (inl refl) (each_map (λ y h. inr h) (at.before ++ at.behind) rest.0) in
    let apart = between x at.before at.behind xs differ.0 rest.0 rest.1 in
    (subst (λ (zs : List X). AllByRecursion (λ y. IsAmong y (x ∷ xs)) zs) (sym at.are) among, subst Differ (sym at.are) apart)

-- a front that is longer by a member that passes has one more that passes
passes_more : {X : Type 0} (test : X → Bool) (xs : List X) (i j : ℕ) (x : X) → i < j → slice_get xs i ≡ Some x → test x ≡ true
    → how_many test (take i xs) + 1 ≤ how_many test (take j xs)
passes_more test [] i j x below at pass = absurd (cc)
passes_more test (y ∷ ys) i zero x below at pass = absurd (omega arith)
passes_more test (y ∷ ys) zero (suc j) x below at pass =
    let same : y ≡ x = cc in
    let one : test y ≡ true = ap test same ∙ pass in
    rw one (omega arith)
passes_more test (y ∷ ys) (suc i) (suc j) x below at pass =
    let rest : how_many test (take i ys) + 1 ≤ how_many test (take j ys) = passes_more test ys i j x (omega arith) at pass in
    omega arith

-- the member with a number that is below the length
record HasItem {X : Type 0} (xs : List X) (i : ℕ) : Type 0 where
  item : X
  is : slice_get xs i ≡ Some item

item_at : {X : Type 0} (xs : List X) (i : ℕ) → i < length xs → HasItem xs i
item_at [] i below = absurd (omega arith)
item_at (x ∷ xs) zero below = record { item = x; is = refl }
item_at (x ∷ xs) (suc i) below = let rest = item_at xs i (omega arith) in record { item = rest.item; is = rest.is }

-- the label of a later variable is another one
pub label_of-later : (names : List Text) (i j : ℕ) → i < j → j < length names → label_of names i ≡ label_of names j → ⊥
label_of-later names i j below within same =
    let here = item_at names i (omega arith) in
    let there = text_or_empty (slice_get names j) in
    let name : text_or_empty (slice_get names i) ≡ there = ap (λ (l : Label). l.name) same in
    let mine : here.item ≡ there = ap text_or_empty (sym here.is) ∙ name in
    let rank : how_many (λ other. bytes_eq other (text_or_empty (slice_get names i))) (take i names) + 1 ≡ how_many (λ other. bytes_eq other there) (take j names) + 1
    = ap (λ (l : Label). l.rank) same in
    let alike : how_many (λ other. bytes_eq other there) (take i names) + 1 ≡ how_many (λ other. bytes_eq other there) (take j names) + 1
    = ap (λ (n : Text). how_many (λ other. bytes_eq other n) (take i names) + 1) (sym name) ∙ rank in
    let more : how_many (λ other. bytes_eq other there) (take i names) + 1 ≤ how_many (λ other. bytes_eq other there) (take j names)
    = passes_more (λ other. bytes_eq other there) names i j here.item below here.is ((bytes_eq-Decides here.item there).1 mine) in
    omega arith

-- an image of numbers in a row is that of one of them
among_counted : {X : Type 0} (f : ℕ → X) (x : X) (first k : ℕ) → IsAmong x (map f (counted first k))
    → (j : ℕ) × (first ≤ j) × (j < first + k) × (f j ≡ x)
among_counted f x first zero among = absurd among
among_counted f x first (suc k) (inl e) = (first, omega arith, omega arith, e)
among_counted f x first (suc k) (inr among) = let rest = among_counted f x (first + 1) k among in
    let low : first + 1 ≤ rest.0 = rest.1 in
    let high : rest.0 < first + 1 + k = rest.2 in
    (rest.0, omega arith, omega arith, rest.3)

-- the images of numbers in a row differ, where none is that of a later one
differ_counted : {X : Type 0} (f : ℕ → X) (first k : ℕ) → ((i j : ℕ) → i < j → j < first + k → f i ≡ f j → ⊥) → Differ (map f (counted first k))
differ_counted f first zero apart = tt
differ_counted f first (suc k) apart = (
  (λ among. let later = among_counted f (f first) (first + 1) k among in
      let low : first + 1 ≤ later.0 = later.1 in
      let high : later.0 < first + 1 + k = later.2 in
      apart first later.0 (omega arith) (omega arith) (sym later.3)),
  differ_counted f (first + 1) k (λ i j below within. apart i j below (omega arith)),
)

-- the labels of a form's variables differ
pub labels_of-differ : (variables : List Text) → Differ (labels_of variables)
labels_of-differ variables = differ_counted (label_of variables) 0 (length variables)
    (λ i j below within same. label_of-later variables i j below (omega arith) same)

-- there are as many labels as variables
pub labels_of-long : (variables : List Text) → length (labels_of variables) ≡ length variables
labels_of-long variables = long (label_of variables) 0 (length variables)
  where
    long : {X : Type 0} (f : ℕ → X) (first k : ℕ) → length (map f (counted first k)) ≡ k
    long f first zero = refl
    long f first (suc k) = let rest = long f (first + 1) k in omega arith

-- a member behind others that all differ is none of them
apart_behind : {X : Type 0} (x : X) (before behind : List X) → Differ (before ++ x ∷ behind) → IsAmong x before → ⊥
apart_behind x [] behind differ among = absurd among
apart_behind x (z ∷ before) behind differ (inl e) = differ.0 (subst (λ w. IsAmong w (before ++ x ∷ behind)) (sym e) (among_back x before (x ∷ behind) (inl refl)))
apart_behind x (z ∷ before) behind differ (inr among) = apart_behind x before behind differ.1 among

-- where all images differ, that of each item is none of those before it
pub differ_behind : {X Y : Type 0} (f : X → Y) (before xs : List X) → Differ (map f before ++ map f xs)
    → EachBehind (λ front x. IsAmong (f x) (map f front) → ⊥) before xs
differ_behind f before [] differ = tt
differ_behind f before (x ∷ xs) differ = (
  apart_behind (f x) (map f before) (map f xs) differ,
  differ_behind f (before ++ x ∷ []) xs (subst Differ (sym (shifted f before x xs)) differ),
)
  where
    shifted : {X Y : Type 0} (f : X → Y) (before : List X) (x : X) (xs : List X) → map f (before ++ x ∷ []) ++ map f xs ≡ map f before ++ f x ∷ map f xs
    shifted f [] x xs = refl
    shifted f (z ∷ before) x xs = ap (λ zs. f z ∷ zs) (shifted f before x xs)
