-- An end by a disjunct of the goal is an instance of that disjunct's form.
use Rattle.std.proofs.Common.{◌≡◌, ℕ, zero, suc, ◌+◌, ◌-◌, ◌<◌, ◌≤◌, ◌^◌, inl, inr, true, false, nat_lt, List, [], ◌∷◌, ◌++◌, map, length, slice_get, slice_index, Some, refl, ap, sym, ◌∙◌, subst, arith, add-one}
use Rattle.std.specs.List.{AllByRecursion, sum_by}
use Rattle.std.proofs.lemmas.Bool.{cases_lt}
use Rattle.std.proofs.lemmas.List.Sums.{sum_by-cons}
use Rattle.std.proofs.lemmas.List.{length-map, get_or_append_left, get_or-append_right}
use Rattle.text_core.specs.declared.limits.TheConstants.{MOST_FORM_VARIABLES, MOST_FORM_ATOMS}
use Rattle.text_core.proofs.Laws.{each_get, each_map, each_index, value_same}
use Rattle.logic_core.specs.Forms.{SlotIsBelow, AtomIsBelow}
use Rattle.logic_core.specs.declared.form.Slot.{Slot}
use Rattle.logic_core.specs.declared.form.Slot.TheVariants.{Variable, Constant}
use Rattle.logic_core.specs.declared.form.Atom.{Atom}
use Rattle.logic_core.specs.declared.form.Form.{Form}
use Rattle.vernacular_tree.specs.Contexts.{counted, parameters, slot_at, atom_at, Stands}
use Rattle.vernacular_tree.specs.Rules.{IsInstance, IsAnswer}
use Rattle.vernacular_tree.specs.declared.context.Context.{Context}
use Rattle.vernacular_tree.proofs.Laws.{counted_length}
use Rattle.coherent_form.specs.Fitting.{AtomFits}
use Rattle.coherent_form.specs.Kept.{IsRight}
use Rattle.coherent_form.specs.Tasks.{CitedTask, proof_task, start_elements}
use Rattle.trail_search.specs.Answers.{slot_with, atom_with, answer_of, AreAnswers}

-- a slot with elements in place of the first variables, at the others' elements
slot_both : (first args : List ℕ) (slot : Slot) → slot_at args (slot_with first slot) ≡ slot_at (first ++ args) slot
slot_both first args (Constant c) = refl
slot_both first args (Variable i) = elim (cases_lt i (length first)) [
  | inl below ↦ let passes : nat_lt i (length first) ≡ true = grind (arith, below) in
      let read : slice_index (first ++ args) i ≡ slice_index first i = get_or_append_left first args 0 i below in
      rw passes (ap Constant (sym read))
  | inr past ↦ let fails : nat_lt i (length first) ≡ false = grind (arith, past) in
      let read : slice_index (first ++ args) i ≡ slice_index args (i - length first) = get_or-append_right first args (length first) i 0 refl past in
      rw fails (ap Constant (sym read))
]

slots_both : (first args : List ℕ) (slots : List Slot) → map (slot_at args) (map (slot_with first) slots) ≡ map (slot_at (first ++ args)) slots
slots_both first args [] = refl
slots_both first args (slot ∷ slots) = λ i. slot_both first args slot i ∷ slots_both first args slots i

-- so is an atom
pub atom_both : (first args : List ℕ) (atom : Atom) → atom_at args (atom_with first atom) ≡ atom_at (first ++ args) atom
atom_both first args atom = λ i. record { positive = atom.positive; symbol = atom.symbol; args = slots_both first args atom.args i }

module _ (context : Context) (first args : List ℕ) where
  -- atoms that stand with elements in place of variables
  stand_both : (atoms : List Atom) → AllByRecursion (λ atom. Stands context (atom_at args atom)) (map (atom_with first) atoms)
      → AllByRecursion (λ atom. Stands context (atom_at (first ++ args) atom)) atoms
  stand_both [] stand = tt
  stand_both (atom ∷ atoms) stand = (subst (Stands context) (atom_both first args atom) stand.0, stand_both atoms stand.1)

  -- and the other way round
  stand_with : (atoms : List Atom) → AllByRecursion (λ atom. Stands context (atom_at (first ++ args) atom)) atoms
      → AllByRecursion (λ atom. Stands context (atom_at args atom)) (map (atom_with first) atoms)
  stand_with [] stand = tt
  stand_with (atom ∷ atoms) stand = (subst (Stands context) (sym (atom_both first args atom)) stand.0, stand_with atoms stand.1)

-- the item with a number is the image of one
get_image : {X Y : Type 0} (f : X → Y) (xs : List X) (i : ℕ) (y : Y) → slice_get (map f xs) i ≡ Some y → (x : X) × (slice_get xs i ≡ Some x) × (f x ≡ y)
get_image f [] i y there = absurd (cc)
get_image f (x ∷ xs) zero y there = (x, refl, cc)
get_image f (x ∷ xs) (suc i) y there = get_image f xs i y there

-- and of each there is the image
get_mapped : {X Y : Type 0} (f : X → Y) (xs : List X) (i : ℕ) (x : X) → slice_get xs i ≡ Some x → slice_get (map f xs) i ≡ Some (f x)
get_mapped f [] i x there = absurd (let bad : _ = there in cc)
get_mapped f (y ∷ xs) zero x there = let same : y ≡ x = cc in ap (λ z. Some (f z)) same
get_mapped f (y ∷ xs) (suc i) x there = get_mapped f xs i x there

module _ (task : CitedTask) (forms : List Form) (are : AreAnswers task forms) where
  -- as many forms as disjuncts
  pub answer_count : length forms ≡ length task.goal.disjuncts
  answer_count = ap length are ∙ length-map task.goal.disjuncts (answer_of task)

  -- the disjunct of a form
  disjunct_of : (d : ℕ) (form : Form) → slice_get forms d ≡ Some form
      → (atoms : List Atom) × (slice_get task.goal.disjuncts d ≡ Some atoms) × (answer_of task atoms ≡ form)
  disjunct_of d form there = get_image (answer_of task) task.goal.disjuncts d form (ap (λ (fs : List Form). slice_get fs d) (sym are) ∙ there)

  -- an instance of a form is an end by its disjunct
  pub answer_is : (context : Context) (d : ℕ) (form : Form) (args : List ℕ) → slice_get forms d ≡ Some form → IsInstance context form args
      → IsAnswer (proof_task task) context (d + 1) args
  answer_is context d form args there instance =
      let found = disjunct_of d form there in
      let here = subst (λ (f : Form). IsInstance context f args) (sym found.2) instance in
      let number : d + 1 - 1 ≡ d = omega arith in record {
        atoms = found.0;
        from_one = omega arith;
        disjunct_is = ap (slice_get task.goal.disjuncts) number ∙ found.1;
        args_known = here.args_known;
        stand = stand_both context (parameters (proof_task task)) args found.0 here.premises;
      }

  -- an end by a disjunct is an instance of the disjunct's form
  pub answer_there : (context : Context) (disjunct : ℕ) (args : List ℕ) → IsAnswer (proof_task task) context disjunct args
      → (form : Form) × (slice_get forms (disjunct - 1) ≡ Some form) × IsInstance context form args
  answer_there context disjunct args answer = (
    answer_of task answer.atoms,
    ap (λ (fs : List Form). slice_get fs (disjunct - 1)) are ∙ get_mapped (answer_of task) task.goal.disjuncts (disjunct - 1) answer.atoms answer.disjunct_is,
    record { args_known = answer.args_known; premises = stand_with context (parameters (proof_task task)) args answer.atoms answer.stand },
  )

-- numbers in a row that end at a bound are below it
counted_below : (first k most : ℕ) → first + k ≤ most → AllByRecursion (λ x. x < most) (counted first k)
counted_below first zero most within = tt
counted_below first (suc k) most within = (omega arith, counted_below (first + 1) k most (omega arith))

-- the parameters are below the start elements, as many as the goal's universal variables
pub parameters_below : (task : CitedTask) (elements : ℕ) → start_elements task ≤ elements → AllByRecursion (λ x. x < elements) (parameters (proof_task task))
parameters_below task elements start =
    counted_below (start_elements task - task.goal.universals) task.goal.universals elements (omega arith)

pub parameters_length : (task : CitedTask) → length (parameters (proof_task task)) ≡ task.goal.universals
parameters_length task = counted_length (start_elements task - task.goal.universals) task.goal.universals

-- a slot with elements in place of variables names the other variables and elements
slot_below : (first : List ℕ) (variables constants elements : ℕ) (slot : Slot) → AllByRecursion (λ x. x < elements) first → constants ≤ elements
    → SlotIsBelow (length first + variables) constants slot → SlotIsBelow variables elements (slot_with first slot)
slot_below first variables constants elements (Constant c) known few below = omega arith
slot_below first variables constants elements (Variable i) known few below = elim (cases_lt i (length first)) [
  | inl small ↦ let passes : nat_lt i (length first) ≡ true = grind (arith, small) in
      rw passes (each_index (λ x. x < elements) first i small known)
  | inr past ↦ let fails : nat_lt i (length first) ≡ false = grind (arith, past) in rw fails (omega arith)
]

slots_below : (first : List ℕ) (variables constants elements : ℕ) → AllByRecursion (λ x. x < elements) first → constants ≤ elements → (slots : List Slot)
    → AllByRecursion (SlotIsBelow (length first + variables) constants) slots → AllByRecursion (SlotIsBelow variables elements) (map (slot_with first) slots)
slots_below first variables constants elements known few [] below = tt
slots_below first variables constants elements known few (slot ∷ slots) below =
    (slot_below first variables constants elements slot known few below.0, slots_below first variables constants elements known few slots below.1)

pub atoms_below : (first : List ℕ) (variables constants elements : ℕ) → AllByRecursion (λ x. x < elements) first → constants ≤ elements → (atoms : List Atom)
    → AllByRecursion (AtomIsBelow (length first + variables) constants) atoms → AllByRecursion (AtomIsBelow variables elements) (map (atom_with first) atoms)
atoms_below first variables constants elements known few [] below = tt
atoms_below first variables constants elements known few (atom ∷ atoms) below =
    (slots_below first variables constants elements known few atom.args below.0, atoms_below first variables constants elements known few atoms below.1)

-- what holds of each atom and does not speak of slots
pub each_with : (P : Atom → Type 0) (first : List ℕ) → ((atom : Atom) → P atom → P (atom_with first atom)) → (atoms : List Atom)
    → AllByRecursion P atoms → AllByRecursion P (map (atom_with first) atoms)
each_with P first keep [] all = tt
each_with P first keep (atom ∷ atoms) all = (keep atom all.0, each_with P first keep atoms all.1)

-- one list is no longer than all together
one_le : (lists : List (List Atom)) (i : ℕ) (atoms : List Atom) → slice_get lists i ≡ Some atoms → length atoms ≤ sum_by length lists
one_le [] i atoms there = absurd (cc)
one_le (x ∷ lists) zero atoms there =
    let same : length x ≡ length atoms = ap length (value_same there) in
    let sum = sum_by-cons length x lists in omega arith
one_le (x ∷ lists) (suc i) atoms there =
    let rest = one_le lists i atoms there in
    let sum = sum_by-cons length x lists in omega arith

module _ (task : CitedTask) (forms : List Form) (right : IsRight task) (are : AreAnswers task forms) (d : ℕ) (form : Form) (there : slice_get forms d ≡ Some form) where
  -- the form has not too many variables
  pub answer_variables : form.universals ≤ MOST_FORM_VARIABLES
  answer_variables =
      let found = disjunct_of task forms are d form there in
      let narrow = right.goal.narrow.variables in
      let same : task.goal.existentials ≡ form.universals = ap (λ (f : Form). f.universals) found.2 in omega arith

  -- nor too many premises
  pub answer_premises : length form.premises ≤ MOST_FORM_ATOMS
  answer_premises =
      let found = disjunct_of task forms are d form there in
      let narrow = right.goal.narrow.atoms in
      let one = one_le task.goal.disjuncts d found.0 found.1 in
      let long = length-map found.0 (atom_with (parameters (proof_task task))) in
      let same : length (map (atom_with (parameters (proof_task task))) found.0) ≡ length form.premises = ap (λ (f : Form). length f.premises) found.2 in omega arith

  -- its variables and elements are there
  pub answer_below : (elements : ℕ) → start_elements task ≤ elements → AllByRecursion (AtomIsBelow form.universals elements) form.premises
  answer_below elements start =
      let found = disjunct_of task forms are d form there in
      let constants = length task.tables.constants in
      let atoms = each_get (AllByRecursion (AtomIsBelow (task.goal.universals + task.goal.existentials) constants)) task.goal.disjuncts d found.0 right.goal.formed.disjuncts found.1 in
      let long = parameters_length task in
      let spelled = subst (λ n. AllByRecursion (AtomIsBelow (n + task.goal.existentials) constants) found.0) (sym long) atoms in
      subst (λ (f : Form). AllByRecursion (AtomIsBelow f.universals elements) f.premises) found.2
      (atoms_below (parameters (proof_task task)) task.goal.existentials constants elements (parameters_below task elements start) (omega arith) found.0 spelled)

  -- its symbols are there
  pub answer_small : AllByRecursion (λ (atom : Atom). atom.symbol < 2 ^ 31) form.premises
  answer_small =
      let found = disjunct_of task forms are d form there in
      let fits = each_get (AllByRecursion (AtomFits task.tables)) task.goal.disjuncts d found.0 right.goal.disjuncts found.1 in
      let few = right.few_symbols in
      let small = each_map {Q = λ (atom : Atom). atom.symbol < 2 ^ 31} (λ atom fit. let symbol = fit.there in omega arith) found.0 fits in
      subst (λ (f : Form). AllByRecursion (λ (atom : Atom). atom.symbol < 2 ^ 31) f.premises) found.2
      (each_with (λ (atom : Atom). atom.symbol < 2 ^ 31) (parameters (proof_task task)) (λ atom h. h) found.0 small)

-- one more number in a row
pub counted_next : (first k : ℕ) (all longer : List ℕ) → all ≡ counted first k → longer ≡ all ++ (first + k) ∷ [] → longer ≡ counted first (k + 1)
counted_next first k all longer so_far grown = grown ∙ ap (λ (ns : List ℕ). ns ++ (first + k) ∷ []) so_far ∙ rw add-one (sym (last first k))
  where
    last : (first k : ℕ) → counted first (suc k) ≡ counted first k ++ (first + k) ∷ []
    last first zero = let e : first ≡ first + 0 = omega arith in ap (λ n. n ∷ []) e
    last first (suc k) = let e : first + 1 + k ≡ first + suc k = omega arith in
        ap (λ ns. first ∷ ns) (last (first + 1) k ∙ ap (λ n. counted (first + 1) k ++ n ∷ []) e)
