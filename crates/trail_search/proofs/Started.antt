-- The start context is a context of the task, with few facts.
use Rattle.std.proofs.Common.{◌≡◌, ℕ, ◌+◌, ◌*◌, ◌≤◌, true, nat_lt, List, [], ◌∷◌, map, length, refl, ap, sym, ◌∙◌, subst, arith}
use Rattle.std.specs.List.{AllByRecursion, sum_by}
use Rattle.std.proofs.lemmas.List.{length-map}
use Rattle.std.proofs.lemmas.List.Sums.{sum_by-cons}
use Rattle.text_core.specs.declared.limits.TheConstants.{MOST_ARGUMENTS, MOST_FORM_ATOMS}
use Rattle.text_core.specs.Numbered.{Tables}
use Rattle.logic_core.specs.Forms.{SlotIsBelow, AtomIsBelow}
use Rattle.logic_core.specs.declared.form.Slot.{Slot}
use Rattle.logic_core.specs.declared.form.Slot.TheVariants.{Variable, Constant}
use Rattle.logic_core.specs.declared.form.Atom.{Atom}
use Rattle.vernacular_tree.specs.Contexts.{parameters, slot_at, atom_at, start_context}
use Rattle.vernacular_tree.specs.declared.context.Line as Line
use Rattle.vernacular_tree.specs.declared.context.Line.TheVariants.{Facts}
use Rattle.vernacular_tree.specs.declared.context.Context.{Context}
use Rattle.coherent_form.specs.Fitting.{AtomFits}
use Rattle.coherent_form.specs.Wide.{AtomIsNarrow}
use Rattle.coherent_form.specs.Kept.{IsRight}
use Rattle.coherent_form.specs.Tasks.{CitedTask, proof_task, start_elements}
use Rattle.kept_context.specs.Lent.{IsFact, IsContextOf, fact_count, arg_count}
use Rattle.trail_search.specs.Answers.{slot_with, atom_with}
use Rattle.trail_search.proofs.Disjuncts.{parameters_below, parameters_length, atoms_below, each_with}

-- where there are elements for all variables, an atom with them is the atom at them
slot_same : (first : List ℕ) (constants : ℕ) (slot : Slot) → SlotIsBelow (length first) constants slot → slot_with first slot ≡ slot_at first slot
slot_same first constants (Constant c) below = refl
slot_same first constants (Variable i) below = let passes : nat_lt i (length first) ≡ true = grind (arith, below) in rw passes refl

slots_same : (first : List ℕ) (constants : ℕ) (slots : List Slot) → AllByRecursion (SlotIsBelow (length first) constants) slots
    → map (slot_with first) slots ≡ map (slot_at first) slots
slots_same first constants [] below = refl
slots_same first constants (slot ∷ slots) below = λ i. slot_same first constants slot below.0 i ∷ slots_same first constants slots below.1 i

atoms_same : (first : List ℕ) (constants : ℕ) (atoms : List Atom) → AllByRecursion (AtomIsBelow (length first) constants) atoms
    → map (atom_with first) atoms ≡ map (atom_at first) atoms
atoms_same first constants [] below = refl
atoms_same first constants (atom ∷ atoms) below =
    λ i. record { positive = atom.positive; symbol = atom.symbol; args = slots_same first constants atom.args below.0 i } ∷ atoms_same first constants atoms below.1 i

-- atoms with elements are facts
are_facts : (tables : Tables) (elements : ℕ) (atoms : List Atom) → AllByRecursion (AtomFits tables) atoms → AllByRecursion AtomIsNarrow atoms
    → AllByRecursion (AtomIsBelow 0 elements) atoms → AllByRecursion (IsFact tables elements) atoms
are_facts tables elements [] fits narrow below = tt
are_facts tables elements (atom ∷ atoms) fits narrow below =
    (record { fits = fits.0; elements_known = below.0; narrow = narrow.0 }, are_facts tables elements atoms fits.1 narrow.1 below.1)

-- narrow facts have few arguments
narrow_sum : (atoms : List Atom) → AllByRecursion AtomIsNarrow atoms → sum_by (λ fact. length fact.args) atoms ≤ length atoms * MOST_ARGUMENTS
narrow_sum [] narrow = omega arith
narrow_sum (atom ∷ atoms) narrow =
    let rest = narrow_sum atoms narrow.1 in
    let first : length atom.args ≤ MOST_ARGUMENTS = narrow.0 in
    let sum = sum_by-cons (λ (fact : Atom). length fact.args) atom atoms in omega arith

module _ (task : CitedTask) (right : IsRight task) where
  -- the facts of the start context
  abbrev premises : List Atom
  premises = map (atom_with (parameters (proof_task task))) task.goal.premises

  abbrev pub started : Context
  started = record { elements = start_elements task; lines = Facts premises ∷ [] }

  few_premises : length premises ≤ MOST_FORM_ATOMS
  few_premises =
      let long = length-map task.goal.premises (atom_with (parameters (proof_task task))) in
      let narrow = right.goal.narrow.atoms in omega arith

  narrow_premises : AllByRecursion AtomIsNarrow premises
  narrow_premises = each_with AtomIsNarrow (parameters (proof_task task))
      (λ atom narrow. let long = length-map atom.args (slot_with (parameters (proof_task task))) in let n : length atom.args ≤ MOST_ARGUMENTS = narrow in omega arith)
      task.goal.premises right.goal.narrow.premises

  fit_premises : AllByRecursion (AtomFits task.tables) premises
  fit_premises = each_with (AtomFits task.tables) (parameters (proof_task task))
      (λ atom fits. record { there = fits.there; arity = length-map atom.args (slot_with (parameters (proof_task task))) ∙ fits.arity })
      task.goal.premises right.goal.premises

  below_premises : AllByRecursion (AtomIsBelow 0 (start_elements task)) premises
  below_premises =
      let long : task.goal.universals ≡ length (parameters (proof_task task)) + 0 = let n = parameters_length task in omega arith in
      atoms_below (parameters (proof_task task)) 0 (length task.tables.constants) (start_elements task) (parameters_below task (start_elements task) (omega arith)) (omega arith)
      task.goal.premises (subst (λ n. AllByRecursion (AtomIsBelow n (length task.tables.constants)) task.goal.premises) long right.goal.formed.premises)

  -- it begins every proof of the task
  pub started_is : started ≡ start_context (proof_task task)
  started_is =
      let below = subst (λ n. AllByRecursion (AtomIsBelow n (length task.tables.constants)) task.goal.premises) (sym (parameters_length task)) right.goal.formed.premises in
      let same = atoms_same (parameters (proof_task task)) (length task.tables.constants) task.goal.premises below in
      λ i. record { elements = start_elements task; lines = Facts (same i) ∷ [] }

  -- it is a context of the task
  pub started_lent : IsContextOf task started
  started_lent =
      let constants = right.few_constants in
      let variables = right.goal.narrow.variables in record {
        start = omega arith;
        few_elements = omega arith;
        few_lines = omega arith;
        lines = (record { each = are_facts task.tables (start_elements task) premises fit_premises narrow_premises below_premises; few = few_premises }, tt);
      }

  -- with few facts
  pub started_facts : fact_count started ≤ 1024
  started_facts = let few = few_premises in omega arith

  -- and few arguments
  pub started_args : arg_count started ≤ 32768
  started_args =
      let few = few_premises in
      let sum = narrow_sum premises narrow_premises in omega arith

  -- a context that is built so
  pub built : (elements : ℕ) (first : List ℕ) (atoms facts : List Atom) (lines : List Line.Line) → elements ≡ start_elements task → first ≡ parameters (proof_task task)
      → atoms ≡ task.goal.premises → facts ≡ map (atom_with first) atoms → lines ≡ Facts facts ∷ [] → started ≡ record { elements = elements; lines = lines }
  built elements first atoms facts lines count firsts_are atoms_are facts_are lines_are =
      let same : facts ≡ premises = facts_are ∙ (λ i. map (atom_with (firsts_are i)) (atoms_are i)) in
      let all : lines ≡ Facts premises ∷ [] = lines_are ∙ ap (λ (fs : List Atom). Facts fs ∷ []) same in
      sym (λ i. record { elements = count i; lines = all i })
