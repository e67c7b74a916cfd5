-- What an instance says stands for one list of elements, and then none of its checks fails.
use Rattle.std.proofs.Common.{◌≡◌, ℕ, zero, suc, ◌<◌, inl, inr, List, [], ◌∷◌, length, map, get_or, Some, refl, ap, sym, ◌∙◌, subst, arith}
use Rattle.std.specs.List.{AllByRecursion}
use Rattle.std.specs.Str.{bytes_eq}
use Rattle.std.proofs.lemmas.Slice.Eq.{bytes_eq-Decides}
use Rattle.std.proofs.lemmas.List.{length-map}
use Rattle.std.proofs.lemmas.List.Quantifiers.{position-Some}
use Rattle.text_core.specs.Names.{Text}
use Rattle.text_core.specs.Lists.{SomeOf, IsAmong}
use Rattle.text_core.proofs.Laws.{each_map, value_same}
use Rattle.coherent_form.specs.declared.label.Label.{Label}
use Rattle.proof_text.specs.declared.body.Binding.{Binding}
use Rattle.proof_text.specs.declared.body.ArgsText as ArgsText
use Rattle.proof_text.specs.declared.body.ArgsText.TheVariants.{Listed, Named}
use Rattle.proof_text.specs.StandsFor.{NamesStand, Gives, EachGiven, labels_of, ArgsStand}
use Rattle.proof_text.specs.Branches.{element_of}
use Rattle.proof_checker.specs.Faults.{AreNames, binds_in, values_in}
use Rattle.proof_checker.proofs.Labelled.{Differ, covers, differ_behind, labels_of-differ, labels_of-long}
use Rattle.proof_checker.specs.Checks.{EachBehind}

-- an item by its number is a member
get_or-among : {X : Type 0} (xs : List X) (i : ℕ) (d : X) → i < length xs → IsAmong (get_or xs i d) xs
get_or-among [] i d below = absurd (omega arith)
get_or-among (x ∷ xs) zero d below = inl refl
get_or-among (x ∷ xs) (suc i) d below = inr (get_or-among xs i d (omega arith))

-- a name of an element is one of the names
pub element_of-among : (names : List Text) (text : Text) (e : ℕ) → element_of names text ≡ Some e → IsAmong text names
element_of-among names text e is =
    let at = position-Some (bytes_eq text) names e [] is in
    let same : text ≡ get_or names e [] = (bytes_eq-Decides text (get_or names e [])).0 at.1 in
    subst (λ t. IsAmong t names) (sym same) (get_or-among names e [] at.0)

-- names stand for one list of elements
pub names_one : (names texts : List Text) (a b : List ℕ) → NamesStand names texts a → NamesStand names texts b → a ≡ b
names_one names texts a b x y = same a b (sym x ∙ y)
  where
    same : (a b : List ℕ) → map Some a ≡ map Some b → a ≡ b
    same [] [] e = refl
    same [] (n ∷ b) e = absurd (cc)
    same (m ∷ a) [] e = absurd (cc)
    same (m ∷ a) (n ∷ b) e =
        let first : Some m ≡ Some n = cc in
        let rest : map Some a ≡ map Some b = cc in
        λ i. value_same first i ∷ same a b rest i

-- there are as many elements as names for them
pub names_long : (names texts : List Text) (elements : List ℕ) → NamesStand names texts elements → length texts ≡ length elements
names_long names texts elements stand =
    sym (length-map texts (element_of names)) ∙ ap length stand ∙ length-map elements Some

-- names that stand for elements are names of elements
pub names_known : (names texts : List Text) (elements : List ℕ) → NamesStand names texts elements → AreNames names texts
names_known names [] elements stand = tt
names_known names (text ∷ texts) [] stand = absurd (cc)
names_known names (text ∷ texts) (e ∷ elements) stand =
    let first : element_of names text ≡ Some e = cc in
    (element_of-among names text e first, names_known names texts elements (let rest : map (element_of names) texts ≡ map Some elements = cc in rest))

-- the labels of bindings
abbrev pub bound_labels : List Binding → List Label
bound_labels binds = map (λ bind. bind.label) binds

-- a label that a binding gives an element is that of a binding
gives_label : (names : List Text) (label : Label) (e : ℕ) (binds : List Binding) → SomeOf (Gives names label e) binds → IsAmong label (bound_labels binds)
gives_label names label e [] some = absurd some
gives_label names label e (bind ∷ binds) (inl here) = inl here.label_is
gives_label names label e (bind ∷ binds) (inr later) = inr (gives_label names label e binds later)

-- bindings of which no two have one label give a label one element
gives_one : (names : List Text) (label : Label) (a b : ℕ) (binds : List Binding) → Differ (bound_labels binds)
    → SomeOf (Gives names label a) binds → SomeOf (Gives names label b) binds → a ≡ b
gives_one names label a b [] differ x y = absurd x
gives_one names label a b (bind ∷ binds) differ (inl x) (inl y) = value_same (sym x.value ∙ y.value)
gives_one names label a b (bind ∷ binds) differ (inl x) (inr y) =
    absurd (differ.0 (subst (λ l. IsAmong l (bound_labels binds)) (sym x.label_is) (gives_label names label b binds y)))
gives_one names label a b (bind ∷ binds) differ (inr x) (inl y) =
    absurd (differ.0 (subst (λ l. IsAmong l (bound_labels binds)) (sym y.label_is) (gives_label names label a binds x)))
gives_one names label a b (bind ∷ binds) differ (inr x) (inr y) = gives_one names label a b binds differ.1 x y

-- each label is that of a binding
given_labels : (names : List Text) (binds : List Binding) (labels : List Label) (elements : List ℕ) → EachGiven names binds labels elements
    → AllByRecursion (λ label. IsAmong label (bound_labels binds)) labels
given_labels names binds [] elements given = tt
given_labels names binds (label ∷ labels) [] given = absurd given
given_labels names binds (label ∷ labels) (e ∷ elements) given =
    (gives_label names label e binds given.0, given_labels names binds labels elements given.1)

-- there are as many elements as labels
pub given_long : (names : List Text) (binds : List Binding) (labels : List Label) (elements : List ℕ) → EachGiven names binds labels elements
    → length labels ≡ length elements
given_long names binds [] [] given = refl
given_long names binds [] (e ∷ elements) given = absurd given
given_long names binds (label ∷ labels) [] given = absurd given
given_long names binds (label ∷ labels) (e ∷ elements) given =
    let rest : length labels ≡ length elements = given_long names binds labels elements given.1 in omega arith

-- bindings of which no two have one label give labels one list of elements
given_one : (names : List Text) (binds : List Binding) (labels : List Label) (a b : List ℕ) → Differ (bound_labels binds)
    → EachGiven names binds labels a → EachGiven names binds labels b → a ≡ b
given_one names binds [] [] [] differ x y = refl
given_one names binds [] [] (n ∷ b) differ x y = absurd y
given_one names binds [] (m ∷ a) b differ x y = absurd x
given_one names binds (label ∷ labels) [] b differ x y = absurd x
given_one names binds (label ∷ labels) (m ∷ a) [] differ x y = absurd y
given_one names binds (label ∷ labels) (m ∷ a) (n ∷ b) differ x y =
    λ i. gives_one names label m n binds differ x.0 y.0 i ∷ given_one names binds labels a b differ x.1 y.1 i

-- the value of a binding whose label is given an element names it
given_known : (names : List Text) (label : Label) (binds : List Binding) (labels : List Label) (elements : List ℕ) → EachGiven names binds labels elements
    → IsAmong label labels → (e : ℕ) × SomeOf (Gives names label e) binds
given_known names label binds [] elements given among = absurd among
given_known names label binds (other ∷ labels) [] given among = absurd given
given_known names label binds (other ∷ labels) (e ∷ elements) given (inl same) = (e, subst (λ l. SomeOf (Gives names l e) binds) same given.0)
given_known names label binds (other ∷ labels) (e ∷ elements) given (inr among) = given_known names label binds labels elements given.1 among

-- where no two bindings have one label and each label is given an element, each value is a name
values_known : (names : List Text) (binds : List Binding) → Differ (bound_labels binds)
    → AllByRecursion (λ label. (e : ℕ) × SomeOf (Gives names label e) binds) (bound_labels binds)
    → AreNames names (map (λ bind. bind.value) binds)
values_known names [] differ given = tt
values_known names (bind ∷ binds) differ given = (first given.0.1, values_known names binds differ.1 (each_rest (bound_labels binds) differ.0 given.1))
  where
    first : {e : ℕ} → SomeOf (Gives names bind.label e) (bind ∷ binds) → IsAmong bind.value names
    first {e} (inl here) = element_of-among names bind.value e here.value
    first {e} (inr later) = absurd (differ.0 (gives_label names bind.label e binds later))

    each_rest : (labels : List Label) → (IsAmong bind.label labels → ⊥)
        → AllByRecursion (λ label. (e : ℕ) × SomeOf (Gives names label e) (bind ∷ binds)) labels
        → AllByRecursion (λ label. (e : ℕ) × SomeOf (Gives names label e) binds) labels
    each_rest [] lacks all = tt
    each_rest (label ∷ labels) lacks all = (
      (all.0.0, elim all.0.1 [ inl here ↦ absurd (lacks (inl (sym here.label_is))) | inr later ↦ later ]),
      each_rest labels (λ among. lacks (inr among)) all.1,
    )

-- as many bindings as labels that give each of these an element have these labels, no two the same
bound_are : (names variables : List Text) (binds : List Binding) (elements : List ℕ) → length binds ≡ length variables
    → EachGiven names binds (labels_of variables) elements
    → AllByRecursion (λ label. IsAmong label (labels_of variables)) (bound_labels binds) × Differ (bound_labels binds)
bound_are names variables binds elements long given = covers (labels_of variables) (bound_labels binds) (labels_of-differ variables)
    (given_labels names binds (labels_of variables) elements given)
    (length-map binds (λ bind. bind.label) ∙ long ∙ sym (labels_of-long variables))

-- an instance stands for one list of elements
pub args_one : (names variables : List Text) (text : ArgsText.ArgsText) (a b : List ℕ) → ArgsStand names variables text a → ArgsStand names variables text b → a ≡ b
args_one names variables (Listed texts) a b x y = names_one names texts a b x y
args_one names variables (Named binds) a b x y =
    given_one names binds (labels_of variables) a b (bound_are names variables binds a x.0 x.1).1 x.1 y.1

-- it has as many names as elements
pub args_long : (names variables : List Text) (text : ArgsText.ArgsText) (elements : List ℕ) → ArgsStand names variables text elements
    → length (values_in text) ≡ length elements
args_long names variables (Listed texts) elements stand = names_long names texts elements stand
args_long names variables (Named binds) elements stand = length-map binds (λ bind. bind.value) ∙ stand.0 ∙ sym (labels_of-long variables)
    ∙ given_long names binds (labels_of variables) elements stand.1

-- each binding's label is that of a variable
pub args_labels : (names variables : List Text) (text : ArgsText.ArgsText) (elements : List ℕ) → ArgsStand names variables text elements
    → AllByRecursion (λ bind. IsAmong bind.label (labels_of variables)) (binds_in text)
args_labels names variables (Listed texts) elements stand = tt
args_labels names variables (Named binds) elements stand = unmapped (labels_of variables) binds (bound_are names variables binds elements stand.0 stand.1).0
  where
    unmapped : (labels : List Label) (binds : List Binding) → AllByRecursion (λ label. IsAmong label labels) (bound_labels binds)
        → AllByRecursion (λ bind. IsAmong bind.label labels) binds
    unmapped labels [] all = tt
    unmapped labels (bind ∷ binds) all = (all.0, unmapped labels binds all.1)

-- no binding's label is that of an earlier one
pub args_differ : (names variables : List Text) (text : ArgsText.ArgsText) (elements : List ℕ) → ArgsStand names variables text elements
    → EachBehind (λ front (bind : Binding). IsAmong bind.label (bound_labels front) → ⊥) [] (binds_in text)
args_differ names variables (Listed texts) elements stand = tt
args_differ names variables (Named binds) elements stand =
    differ_behind (λ (bind : Binding). bind.label) [] binds (bound_are names variables binds elements stand.0 stand.1).1

-- each name in it is that of an element
pub args_known : (names variables : List Text) (text : ArgsText.ArgsText) (elements : List ℕ) → ArgsStand names variables text elements
    → AreNames names (values_in text)
args_known names variables (Listed texts) elements stand = names_known names texts elements stand
args_known names variables (Named binds) elements stand =
    let are = bound_are names variables binds elements stand.0 stand.1 in
    values_known names binds are.1 (each_map (λ label among. given_known names label binds (labels_of variables) elements stand.1 among) (bound_labels binds) are.0)
