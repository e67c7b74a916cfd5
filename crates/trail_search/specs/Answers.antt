-- The goal's disjuncts as forms, so that an end by a disjunct is an instance of a form.
use Rattle.std.specs.Prelude.{ℕ, ◌-◌, ◌≡◌, nat_lt, if◌then◌else◌, List, [], map, length, slice_index}
use Rattle.logic_core.specs.declared.form.Slot.{Slot}
use Rattle.logic_core.specs.declared.form.Slot.TheVariants.{Variable, Constant}
use Rattle.logic_core.specs.declared.form.Atom.{Atom}
use Rattle.logic_core.specs.declared.form.Form.{Form}
use Rattle.vernacular_tree.specs.Contexts.{parameters}
use Rattle.coherent_form.specs.Tasks.{CitedTask, proof_task}

-- a slot with elements in place of the first variables; the others are numbered from 0
abbrev pub slot_with : List ℕ → Slot → Slot
slot_with elements (Variable i) = if nat_lt i (length elements) then Constant (slice_index elements i)
    else Variable (i - length elements)
slot_with elements (Constant c) = Constant c

abbrev pub atom_with : List ℕ → Atom → Atom
atom_with elements atom = record {
  positive = atom.positive;
  symbol = atom.symbol;
  args = map (slot_with elements) atom.args;
}

-- the form of a disjunct: its universal variables are the existential ones of the goal, and its
-- premises the disjunct's atoms with the parameters
abbrev pub answer_of : CitedTask → List Atom → Form
answer_of task atoms = record {
  universals = task.goal.existentials;
  premises = map (atom_with (parameters (proof_task task))) atoms;
  existentials = 0;
  disjuncts = [];
}

-- these are the forms of the goal's disjuncts
abbrev pub AreAnswers : CitedTask → List Form → Type 0
AreAnswers task forms = forms ≡ map (answer_of task) task.goal.disjuncts
