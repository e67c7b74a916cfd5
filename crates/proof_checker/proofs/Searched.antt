-- Loops that look for an item.
use Rattle.std.proofs.Common.{◌≡◌, ℕ, zero, suc, ◌+◌, ◌<◌, ◌≤◌, inl, inr, List, [], ◌∷◌, ◌++◌, length, take, map, get_or, slice_get, Some, refl, ap, sym, ◌∙◌, subst, arith, add-one, append_assoc}
use Rattle.std.proofs.lemmas.List.{map-append}
use Rattle.text_core.specs.Names.{Text}
use Rattle.text_core.specs.Lists.{SomeOf, IsAmong}
use Rattle.text_core.proofs.Laws.{some_at, some_append, take_next, take_all, value_same}
use Rattle.logic_core.specs.declared.form.Form.{Form}
use Rattle.vernacular_tree.specs.Contexts.{counted}
use Rattle.coherent_form.specs.Labels.{label_of}
use Rattle.coherent_form.specs.Tasks.{CitedTask}
use Rattle.coherent_form.specs.declared.label.Label.{Label}
use Rattle.proof_checker.specs.Checks.{EachBehind, FailsAt}
use Rattle.proof_checker.specs.Running.{AreItsVariables}
use Rattle.proof_checker.proofs.Compared.{get_map}
use Rattle.proof_checker.proofs.Named.{item_read}
use Rattle.proof_checker.proofs.Ordered.{fails_at, behind_next}

-- an item that passes is found
pub found_here : {X Y : Type 0} (P : Y → Type 0) (f : X → Y) (xs : List X) (i : ℕ) (x : X) → i < length xs → x ≡ get_or xs i x → P (f x) → SomeOf P (map f xs)
found_here P f xs i x below is holds = some_at P (map f xs) i (f x) (get_map f xs i x (item_read xs i x below is)) holds

-- one more item does not pass
pub none_next : {X Y : Type 0} (P : Y → Type 0) (f : X → Y) (xs : List X) (i : ℕ) (x : X) → i < length xs → x ≡ get_or xs i x
    → (SomeOf P (map f (take i xs)) → ⊥) → (P (f x) → ⊥) → SomeOf P (map f (take (i + 1) xs)) → ⊥
none_next P f xs i x below is none not some =
    let next : map f (take (i + 1) xs) ≡ map f (take i xs) ++ f x ∷ []
    = ap (map f) (take_next xs i x (item_read xs i x below is)) ∙ map-append f (take i xs) (x ∷ []) in
    elim (some_append P (map f (take i xs)) (f x ∷ []) (subst (SomeOf P) next some)) [
      | inl front ↦ none front
      | inr back ↦ elim back [ inl here ↦ not here | inr nothing ↦ absurd nothing ]
    ]

-- no item passes
pub none_all : {X Y : Type 0} (P : Y → Type 0) (f : X → Y) (xs : List X) (i : ℕ) → length xs ≤ i → (SomeOf P (map f (take i xs)) → ⊥) → SomeOf P (map f xs) → ⊥
none_all {X} P f xs i whole none some = none (subst (λ (zs : List X). SomeOf P (map f zs)) (sym (take_all xs i whole)) some)

-- images by what does nothing are the list
pub map_same : {X : Type 0} (xs : List X) → map (λ x. x) xs ≡ xs
map_same [] = refl
map_same (x ∷ xs) = ap (λ ys. x ∷ ys) (map_same xs)

-- an item of a list, and one more that is none
pub is_here : {X : Type 0} (xs : List X) (i : ℕ) (x y : X) → i < length xs → x ≡ get_or xs i x → x ≡ y → IsAmong y xs
is_here xs i x y below is same = some_at (λ z. z ≡ y) xs i x (item_read xs i x below is) same

pub not_next : {X : Type 0} (xs : List X) (i : ℕ) (x y : X) → i < length xs → x ≡ get_or xs i x → (IsAmong y (take i xs) → ⊥) → (x ≡ y → ⊥)
    → IsAmong y (take (i + 1) xs) → ⊥
not_next xs i x y below is none not some =
    elim (some_append (λ z. z ≡ y) (take i xs) (x ∷ []) (subst (IsAmong y) (take_next xs i x (item_read xs i x below is)) some)) [
      | inl front ↦ none front
      | inr back ↦ elim back [ inl here ↦ not here | inr nothing ↦ absurd nothing ]
    ]

-- the first item that fails, in a loop
pub fails_here : {X : Type 0} (P : List X → X → Type 0) (xs : List X) (i : ℕ) (x : X) → i < length xs → x ≡ get_or xs i x
    → EachBehind P [] (take i xs) → (P (take i xs) x → ⊥) → FailsAt P [] xs (i + 1)
fails_here P xs i x below is all fails =
    subst (FailsAt P [] xs) (let e : 0 + i + 1 ≡ i + 1 = omega arith in e) (fails_at P [] xs i x all (item_read xs i x below is) fails)

-- one more item that passes
pub passes_here : {X : Type 0} (P : List X → X → Type 0) (xs : List X) (i : ℕ) (x : X) → i < length xs → x ≡ get_or xs i x
    → EachBehind P [] (take i xs) → P (take i xs) x → EachBehind P [] (take (i + 1) xs)
passes_here P xs i x below is all passes = behind_next P [] xs i x all (item_read xs i x below is) passes

-- numbers in a row with one more
counted_last : (first k : ℕ) → counted first (k + 1) ≡ counted first k ++ (first + k) ∷ []
counted_last first k = rw add-one (last first k)
  where
    last : (first k : ℕ) → counted first (suc k) ≡ counted first k ++ (first + k) ∷ []
    last first zero = let e : first ≡ first + 0 = omega arith in ap (λ n. n ∷ []) e
    last first (suc k) = let e : first + 1 + k ≡ first + suc k = omega arith in
        ap (λ ns. first ∷ ns) (last (first + 1) k ∙ ap (λ n. counted (first + 1) k ++ n ∷ []) e)

-- the labels of the first variables with one more
pub labels_next : (task : CitedTask) (form : ℕ) (f : Form) (variables : List Text) (labels longer : List Label) (label : Label) (k : ℕ)
    → AreItsVariables task form f variables → labels ≡ map (label_of variables) (counted 0 k)
    → (names : List Text) × (slice_get task.variables form ≡ Some names) × (label ≡ label_of names k)
    → longer ≡ labels ++ label ∷ [] → longer ≡ map (label_of variables) (counted 0 (k + 1))
labels_next task form f variables labels longer label k are so_far (names, at, is) grown =
    let same : names ≡ variables = value_same (sym at ∙ are.are) in
    let zeroth : 0 + k ≡ k = omega arith in
    let next : map (label_of variables) (counted 0 (k + 1)) ≡ map (label_of variables) (counted 0 k) ++ label_of variables (0 + k) ∷ []
    = ap (map (label_of variables)) (counted_last 0 k) ∙ map-append (label_of variables) (counted 0 k) ((0 + k) ∷ []) in
    let last : label ≡ label_of variables (0 + k) = is ∙ (λ i. label_of (same i) (sym zeroth i)) in
    grown ∙ (λ i. so_far i ++ last i ∷ []) ∙ sym next

-- elements and those in a row, with one more
pub counted_more : (elements all longer : List ℕ) (first k : ℕ) → all ≡ elements ++ counted first k → longer ≡ all ++ (first + k) ∷ []
    → longer ≡ elements ++ counted first (k + 1)
counted_more elements all longer first k so_far grown =
    grown ∙ ap (λ (ns : List ℕ). ns ++ (first + k) ∷ []) so_far ∙ append_assoc elements (counted first k) ((first + k) ∷ [])
    ∙ ap (λ (ns : List ℕ). elements ++ ns) (sym (counted_last first k))
