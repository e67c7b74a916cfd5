-- The labels of variables, by the numbers of their names, and that they differ.
use Rattle.std.proofs.Common.{◌≡◌, ℕ, zero, suc, ◌+◌, ◌^◌, ◌<◌, ◌≤◌, ◌==◌, ◌⊎◌, inl, inr, nat_eq, if◌then◌else◌, Bool, true, false, codes, List, [], ◌∷◌, ◌++◌, map, length, take, drop, get_or, slice_get, slice_index, Some, Result, Ok, Err, IfOk, refl, ap, sym, subst, ◌∙◌, arith}
use Rattle.std.proofs.lemmas.Bool.Decides.{nat_tests}
use Rattle.std.proofs.lemmas.Fmt.{decimal_injective}
use Rattle.std.proofs.lemmas.List.{length-map}
use Rattle.std.proofs.lemmas.Option.{slice_get_read, slice_get-get_or}
use Rattle.std.specs.Cmp.Lexicographic.{pointwise, bytes_decides}
use Rattle.std.specs.Fmt.{decimal}
use Rattle.std.specs.List.{AllByRecursion, IsDistinct}
use Rattle.std.specs.Str.{bytes_eq}
use Rattle.text_core.specs.Names.{Text}
use Rattle.text_core.specs.NameTexts.{is_upper_word}
use Rattle.text_core.specs.Numbered.{Tables, text_or_empty}
use Rattle.text_core.proofs.Laws.{number_same, value_same, each_get, each_index}
use Rattle.logic_core.specs.declared.form.Form.{Form}
use Rattle.vernacular_tree.specs.Contexts.{counted}
use Rattle.coherent_form.specs.BuiltIns.{built_in_names}
use Rattle.coherent_form.specs.Fitting.{FormFits}
use Rattle.coherent_form.specs.Kept.{name_at, variables_at, kept_task, AreVariables, AreVariablesOf, IsRight}
use Rattle.coherent_form.specs.Labels.{how_many, label_of}
use Rattle.coherent_form.specs.declared.label.Label.{Label}
use Rattle.coherent_form.specs.declared.source.Source as source
use Rattle.coherent_form.proofs.Distinct.{one_place}

-- the image with a number
pub map_get : {X Y : Type 0} (f : X → Y) (xs : List X) (i : ℕ) (x : X) → slice_get xs i ≡ Some x → slice_get (map f xs) i ≡ Some (f x)
map_get f [] i x at = absurd (cc)
map_get f (y ∷ xs) zero x at = let same : y ≡ x = value_same at in ap (λ z. Some (f z)) same
map_get f (y ∷ xs) (suc i) x at = map_get f xs i x at

-- a name that is there, by its number
pub name_there : (names : List Text) (n : ℕ) → n < length names → slice_get names n ≡ Some (name_at names n)
name_there [] n below = absurd (omega arith)
name_there (x ∷ names) zero below = refl
name_there (x ∷ names) (suc n) below = name_there names n (omega arith)

-- names that are there once are the same where their numbers are
pub names_one : (names : List Text) → IsDistinct (pointwise nat_eq) names → (m n : ℕ) → m < length names → n < length names
    → name_at names m ≡ name_at names n → m ≡ n
names_one names distinct m n below there same =
    one_place (pointwise nat_eq) (λ x y. (bytes_decides x y).0) (λ x. (bytes_decides x x).1 refl) names distinct m n (name_at names n)
    (name_there names m below ∙ ap (λ (x : Text). Some x) same) (name_there names n there)

module _ (names : List Text) (distinct : IsDistinct (pointwise nat_eq) names) (number : ℕ) (there : number < length names) where
  -- a name is that one where its number is
  name_agrees : (n : ℕ) → n < length names → bytes_eq (name_at names n) (name_at names number) ≡ (n == number)
  name_agrees n below = go (n == number) refl (bytes_eq (name_at names n) (name_at names number)) refl
    where
      go : (b : Bool) → (n == number) ≡ b → (e : Bool) → bytes_eq (name_at names n) (name_at names number) ≡ e → e ≡ b
      go true same true is = refl
      go false other false is = refl
      go true same false is =
          let equal : n ≡ number = number_same n number same in
          let passes : bytes_eq (name_at names n) (name_at names number) ≡ true = (bytes_decides (name_at names n) (name_at names number)).1 (ap (name_at names) equal) in cc
      go false other true is =
          let equal : n ≡ number = names_one names distinct n number below there ((bytes_decides (name_at names n) (name_at names number)).0 is) in
          absurd (let no : (n == number) ≡ true = grind (arith, nat_tests) in cc)

  -- it stands among the first names as often as its number does
  named_often : (numbers : List ℕ) → AllByRecursion (λ n. n < length names) numbers → (k : ℕ)
      → how_many (λ other. bytes_eq other (name_at names number)) (take k (map (name_at names) numbers)) ≡ how_many (λ other. other == number) (take k numbers)
  named_often [] all zero = refl
  named_often [] all (suc k) = refl
  named_often (n ∷ numbers) all zero = refl
  named_often (n ∷ numbers) all (suc k) = λ i. (if name_agrees n all.0 i then 1 else 0) + named_often numbers all.1 k i

-- a label by the number of its name, and how often that number stands before it
pub label_by_number : (names : List Text) → IsDistinct (pointwise nat_eq) names → (numbers : List ℕ) → AllByRecursion (λ n. n < length names) numbers
    → (variable number : ℕ) (name : Text) (often : ℕ) → slice_get numbers variable ≡ Some number → slice_get names number ≡ Some name → number < length names
    → often ≡ how_many (λ other. other == number) (take variable numbers)
    → record { name = name; rank = often + 1 } ≡ label_of (map (name_at names) numbers) variable
label_by_number names distinct numbers all variable number name often at named there count =
    let here : name_at names number ≡ name = ap text_or_empty named in
    let reads : text_or_empty (slice_get (map (name_at names) numbers) variable) ≡ name_at names number = ap text_or_empty (map_get (name_at names) numbers variable number at) in
    let same : often ≡ how_many (λ other. bytes_eq other (name_at names number)) (take variable (map (name_at names) numbers))
    = count ∙ sym (named_often names distinct number there numbers all variable) in
    (λ i. record { name = sym here i; rank = same i + 1 })
    ∙ (λ i. record { name = sym reads i; rank = how_many (λ other. bytes_eq other (sym reads i)) (take variable (map (name_at names) numbers)) + 1 })

-- so for what code reads at its places
pub label_by_index : (names slice : List Text) → slice ≡ names → IsDistinct (pointwise nat_eq) slice → (numbers : List ℕ) → AllByRecursion (λ n. n < length names) numbers
    → (variable : ℕ) (name : Text) (often : ℕ) → variable < length numbers → name ≡ get_or slice (slice_index numbers variable) name
    → often ≡ how_many (λ other. other == slice_index numbers variable) (take variable numbers)
    → record { name = name; rank = often + 1 } ≡ label_of (map (name_at names) numbers) variable
label_by_index names slice same distinct numbers all variable name often below read count =
    let there : slice_index numbers variable < length names = each_index (λ n. n < length names) numbers variable below all in
    let named : slice_get names (slice_index numbers variable) ≡ Some name
    = slice_get_read names (length names) (slice_index numbers variable) name refl there (subst (λ (xs : List Text). name ≡ get_or xs (slice_index numbers variable) name) same read) in
    label_by_number names (subst (IsDistinct (pointwise nat_eq)) same distinct) numbers all variable (slice_index numbers variable) name often
    (slice_get-get_or numbers variable 0 below) named there count

-- a number is found no more often than there are numbers
pub how_many_few : {X : Type 0} (test : X → Bool) (xs : List X) (k : ℕ) → how_many test (take k xs) ≤ k
how_many_few test [] zero = omega arith
how_many_few test [] (suc k) = omega arith
how_many_few test (x ∷ xs) zero = omega arith
how_many_few test (x ∷ xs) (suc k) = go (test x) (how_many_few test xs k)
  where
    go : (b : Bool) {n : ℕ} → n ≤ k → (if b then 1 else 0) + n ≤ suc k
    go true h = omega arith
    go false h = omega arith

-- the numbers of upper words are those of names that are there
pub numbers_there : (names : List Text) (numbers : List ℕ) → AllByRecursion (λ name. is_upper_word name ≡ true) (map (name_at names) numbers)
    → AllByRecursion (λ n. n < length names) numbers
numbers_there names [] words = tt
numbers_there names (n ∷ numbers) words = (there names n words.0, numbers_there names numbers words.1)
  where
    there : (names : List Text) (n : ℕ) → is_upper_word (name_at names n) ≡ true → n < length names
    there [] n word = absurd (cc)
    there (x ∷ names) zero word = omega arith
    there (x ∷ names) (suc n) word = let below = there names n word in omega arith

-- the variables of a kept form
pub variables_kept : (names : List Text) (kept : List (List ℕ)) (forms : List Form) (form : ℕ) (numbers : List ℕ) → slice_get kept form ≡ Some numbers
    → slice_get (variables_at names kept forms) form ≡ Some (map (name_at names) numbers)
variables_kept names kept forms form numbers at = front (map built_in_names (drop (length kept) forms)) kept form at
  where
    front : (more : List (List Text)) (kept : List (List ℕ)) (form : ℕ) → slice_get kept form ≡ Some numbers
        → slice_get (map (map (name_at names)) kept ++ more) form ≡ Some (map (name_at names) numbers)
    front more [] form at = absurd (cc)
    front more (x ∷ kept) zero at = let same : x ≡ numbers = value_same at in ap (λ (xs : List ℕ). Some (map (name_at names) xs)) same
    front more (x ∷ kept) (suc form) at = front more kept form at

-- the variables of a form that is built in
pub variables_built : (names : List Text) (kept : List (List ℕ)) (forms : List Form) (form : ℕ) (f : Form) → length kept ≤ form → slice_get forms form ≡ Some f
    → slice_get (variables_at names kept forms) form ≡ Some (built_in_names f)
variables_built names [] forms form f behind at = map_get built_in_names forms form f at
variables_built names (x ∷ kept) [] form f behind at = absurd (cc)
variables_built names (x ∷ kept) (g ∷ forms) zero f behind at = absurd (omega arith)
variables_built names (x ∷ kept) (g ∷ forms) (suc form) f behind at = variables_built names kept forms form f (omega arith) at

-- the variables of the form with a number
pub variables_get : (forms : List Form) (variables : List (List Text)) → AreVariables forms variables → (i : ℕ) (form : Form) (names : List Text)
    → slice_get forms i ≡ Some form → slice_get variables i ≡ Some names → AreVariablesOf form names
variables_get [] [] are i form names at also = absurd (cc)
variables_get [] (x ∷ variables) are i form names at also = absurd are
variables_get (g ∷ forms) [] are i form names at also = absurd are
variables_get (g ∷ forms) (x ∷ variables) are zero form names at also =
    let first : g ≡ form = value_same at in let second : x ≡ names = value_same also in
    subst (λ ns. AreVariablesOf form ns) second (subst (λ h. AreVariablesOf h x) first are.0)
variables_get (g ∷ forms) (x ∷ variables) are (suc i) form names at also = variables_get forms variables are.1 i form names at also

-- a task that is kept: a form with the numbers of its variables' names
module _ (tables : Tables) (names : List Text) (forms : List Form) (sources : List source.Source) (kept : List (List ℕ)) (goal : Form)
    (right : IsRight (kept_task tables names forms sources kept goal)) (number : ℕ) (form : Form) (at : slice_get forms number ≡ Some form) where
  -- a form has few variables
  pub form_few : form.universals ≤ 64
  form_few = let narrow = (each_get (FormFits tables) forms number form right.forms at).narrow.variables in omega arith

  module _ (numbers : List ℕ) (is : slice_get kept number ≡ Some numbers) where
    -- its variables are those
    kept_variables : AreVariablesOf form (map (name_at names) numbers)
    kept_variables = variables_get forms (variables_at names kept forms) right.variables number form (map (name_at names) numbers) at
        (variables_kept names kept forms number numbers is)

    -- their names are there
    pub kept_there : AllByRecursion (λ n. n < length names) numbers
    kept_there = numbers_there names numbers kept_variables.words

    -- and there is one for each
    pub kept_count : length numbers ≡ form.universals
    kept_count = sym (length-map numbers (name_at names)) ∙ kept_variables.count

-- an answer that is the label of a variable
pub labelled : {E : Type 0} (result : Result Label E) (variables : List (List Text)) (form variable : ℕ) (names : List Text) (label : Label)
    → slice_get variables form ≡ Some names → label ≡ label_of names variable → IfOk result (λ l. l ≡ label)
    → IfOk result (λ l. (ns : List Text) × (slice_get variables form ≡ Some ns) × (l ≡ label_of ns variable))
labelled (Ok l) variables form variable names label at same is = (names, at, is ∙ same)
labelled (Err e) variables form variable names label at same is = tt

-- the name of a built-in axiom's variable
abbrev pub built_in_name : ℕ → Text
built_in_name v = codes "V" ++ decimal v

-- a number in a row
counted_get : (first count i : ℕ) → i < count → slice_get (counted first count) i ≡ Some (first + i)
counted_get first zero i below = absurd (omega arith)
counted_get first (suc count) zero below = let same : first ≡ first + 0 = omega arith in ap (λ (n : ℕ). Some n) same
counted_get first (suc count) (suc i) below =
    let same : first + 1 + i ≡ first + suc i = omega arith in counted_get (first + 1) count i (omega arith) ∙ ap (λ (n : ℕ). Some n) same

-- two such names differ
built_in_apart : (m n : ℕ) → m < n → n < 2 ^ 64 → bytes_eq (built_in_name m) (built_in_name n) ≡ false
built_in_apart m n less small = go (bytes_eq (built_in_name m) (built_in_name n)) refl
  where
    go : (b : Bool) → bytes_eq (built_in_name m) (built_in_name n) ≡ b → b ≡ false
    go true e =
        let names : built_in_name m ≡ built_in_name n = (bytes_decides (built_in_name m) (built_in_name n)).0 e in
        let numbers : decimal m ≡ decimal n = cc in
        let same : m ≡ n = decimal_injective m n (omega arith) small numbers in absurd (omega arith)
    go false e = refl

-- so none before it has the same
none_before : (n first count k : ℕ) → first + k ≤ n → n < 2 ^ 64 → how_many (λ other. bytes_eq other (built_in_name n)) (take k (map built_in_name (counted first count))) ≡ 0
none_before n first zero zero within small = refl
none_before n first zero (suc k) within small = refl
none_before n first (suc count) zero within small = refl
none_before n first (suc count) (suc k) within small =
    (λ i. (if built_in_apart first n (omega arith) small i then 1 else 0) + how_many (λ other. bytes_eq other (built_in_name n)) (take k (map built_in_name (counted (first + 1) count))))
    ∙ (let rest = none_before n (first + 1) count k (omega arith) small in omega arith)

-- the label of a built-in axiom's variable
pub label_built_in : (form : Form) (v : ℕ) → v < form.universals → v < 2 ^ 64 → record { name = built_in_name v; rank = 1 } ≡ label_of (built_in_names form) v
label_built_in form v below small =
    let zero_and : 0 + v ≡ v = omega arith in
    let reads : text_or_empty (slice_get (built_in_names form) v) ≡ built_in_name v
    = ap text_or_empty (map_get built_in_name (counted 0 form.universals) v (0 + v) (counted_get 0 form.universals v below)) ∙ ap built_in_name zero_and in
    let none : how_many (λ other. bytes_eq other (built_in_name v)) (take v (built_in_names form)) ≡ 0 = none_before v 0 form.universals v (omega arith) small in
    (λ i. record { name = built_in_name v; rank = sym none i + 1 })
    ∙ (λ i. record { name = sym reads i; rank = how_many (λ other. bytes_eq other (sym reads i)) (take v (built_in_names form)) + 1 })

-- an item that passes is counted behind it
how_many_more : {X : Type 0} (test : X → Bool) (xs : List X) (i j : ℕ) (x : X) → slice_get xs i ≡ Some x → test x ≡ true → i < j
    → how_many test (take i xs) + 1 ≤ how_many test (take j xs)
how_many_more test [] i j x at passes less = absurd (cc)
how_many_more test (y ∷ xs) i zero x at passes less = absurd (omega arith)
how_many_more test (y ∷ xs) zero (suc j) x at passes less =
    let same : y ≡ x = value_same at in let is : test y ≡ true = ap test same ∙ passes in rw is (omega arith)
how_many_more test (y ∷ xs) (suc i) (suc j) x at passes less =
    let rest = how_many_more test xs i j x at passes (omega arith) in omega arith

-- the item with a number in a list of texts
text_there : (names : List Text) (i : ℕ) → i < length names → slice_get names i ≡ Some (text_or_empty (slice_get names i))
text_there = name_there

-- a later label with the same name has a higher rank
labels_apart : (names : List Text) (i j : ℕ) → i < length names → i < j → label_of names i ≡ label_of names j → ⊥
labels_apart names i j there less same =
    let name : text_or_empty (slice_get names i) ≡ text_or_empty (slice_get names j) = ap (λ (l : Label). l.name) same in
    let rank : (label_of names i).rank ≡ (label_of names j).rank = ap (λ (l : Label). l.rank) same in
    let passes : bytes_eq (text_or_empty (slice_get names i)) (text_or_empty (slice_get names j)) ≡ true
    = (bytes_decides (text_or_empty (slice_get names i)) (text_or_empty (slice_get names j))).1 name in
    let more = how_many_more (λ other. bytes_eq other (text_or_empty (slice_get names j))) names i j (text_or_empty (slice_get names i)) (text_there names i there) passes less in
    let moved : how_many (λ other. bytes_eq other (text_or_empty (slice_get names i))) (take i names) ≡ how_many (λ other. bytes_eq other (text_or_empty (slice_get names j))) (take i names)
    = ap (λ (t : Text). how_many (λ other. bytes_eq other t) (take i names)) name in
    omega arith

-- the labels of the variables of one form differ
pub labels_differ : (names : List Text) (i j : ℕ) → i < length names → j < length names → label_of names i ≡ label_of names j → i ≡ j
labels_differ names i j there also same = go (nat_order i j)
  where
    nat_order : (m n : ℕ) → (m < n) ⊎ ((n < m) ⊎ (m ≡ n))
    nat_order zero zero = inr (inr refl)
    nat_order zero (suc n) = inl (omega arith)
    nat_order (suc m) zero = inr (inl (omega arith))
    nat_order (suc m) (suc n) = elim (nat_order m n) [ inl a ↦ inl (omega arith) | inr b ↦ elim b [ inl c ↦ inr (inl (omega arith)) | inr d ↦ inr (inr (omega arith)) ] ]

    go : (i < j) ⊎ ((j < i) ⊎ (i ≡ j)) → i ≡ j
    go (inl a) = absurd (labels_apart names i j there a same)
    go (inr (inl b)) = absurd (labels_apart names j i also b (sym same))
    go (inr (inr e)) = e
