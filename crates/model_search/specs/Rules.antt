-- Forms at elements: instances, and the goal's parts as forms whose constants are the parameters.
use Rattle.std.specs.Prelude.{ℕ, ◌+◌, ◌-◌, ◌<◌, ◌≡◌, nat_lt, true, List, [], ◌∷◌, ◌++◌, map, length}
use Rattle.std.specs.Prelude.{if◌then◌else◌}
use Rattle.std.specs.List.{AllByRecursion}
use Rattle.text_core.specs.Lists.{SomeOf}
use Rattle.logic_core.specs.Forms.{AtomTrue, FormTrue}
use Rattle.logic_core.specs.declared.form.Atom.{Atom}
use Rattle.logic_core.specs.declared.form.Form.{Form}
use Rattle.logic_core.specs.declared.form.Slot.{Slot}
use Rattle.logic_core.specs.declared.form.Slot.TheVariants.{Variable, Constant}
use Rattle.model_search.specs.Candidates.{Candidate, world}
use Rattle.model_search.specs.Keys.{ground_true}
use Rattle.coherent_form.specs.Tasks.{CitedTask}
use Rattle.model_search.specs.declared.key.Ground.{Ground}
use Rattle.model_search.specs.declared.rule.Rule.{Rule}

-- an atom at values is true exactly where the atom at elements is
pub record Means (c : Candidate) (values : List ℕ) (atom : Atom) (g : Ground)
    : Type 0 where
  pub there : AtomTrue (world c) values atom → ground_true c g ≡ true
  pub back : ground_true c g ≡ true → AtomTrue (world c) values atom

-- every atom of some disjunct is true at these values
abbrev pub SomeTrue : Candidate → List ℕ → List (List Atom) → Type 0
SomeTrue c values disjuncts = SomeOf (AllByRecursion (AtomTrue (world c) values)) disjuncts

-- the candidate has so many elements, and each constant and parameter has one of them
pub record IsPlacedBelow (size : ℕ) (c : Candidate) : Type 0 where
  pub size_is : c.size ≡ size
  pub placed : (k : ℕ) → c.place k < size

-- the form is true of it besides
pub record SuitsForm (size : ℕ) (form : Form) (c : Candidate) : Type 0 where
  pub below : IsPlacedBelow size c
  pub holds : FormTrue (world c) form

-- a slot of the goal: a universal variable is a parameter, which is a constant, and the existential
-- variables are counted from 0
abbrev pub slot_moved : ℕ → ℕ → Slot → Slot
slot_moved constants universals (Variable v) =
    if nat_lt v universals then Constant (constants + v) else Variable (v - universals)
slot_moved constants universals (Constant k) = Constant k

abbrev pub atom_moved : ℕ → ℕ → Atom → Atom
atom_moved constants universals atom = record {
  positive = atom.positive;
  symbol = atom.symbol;
  args = map (slot_moved constants universals) atom.args;
}

-- a premise of the goal is true: a form without premises
abbrev pub premise_form : ℕ → ℕ → Atom → Form
premise_form constants universals atom = record {
  universals = 0;
  premises = [];
  existentials = 0;
  disjuncts = (atom_moved constants universals atom ∷ []) ∷ [];
}

-- a disjunct of the goal is true at no values: a form without disjuncts
abbrev pub disjunct_form : ℕ → Form → List Atom → Form
disjunct_form constants goal atoms = record {
  universals = goal.existentials;
  premises = map (atom_moved constants goal.universals) atoms;
  existentials = 0;
  disjuncts = [];
}

-- that the goal is not true at the parameters, as forms
abbrev pub goal_forms : CitedTask → List Form
goal_forms task = let constants = length task.tables.constants in
    map (premise_form constants task.goal.universals) task.goal.premises
    ++ map (disjunct_form constants task.goal) task.goal.disjuncts

-- the form of each rule is true of the candidate
abbrev pub AreTrueRules : Candidate → List Rule → Type 0
AreTrueRules c rules = AllByRecursion (λ rule. FormTrue (world c) rule.form.now) rules

-- and it has so many elements, and each constant and parameter has one of them
pub record SuitsRules (size : ℕ) (rules : List Rule) (c : Candidate) : Type 0 where
  pub below : IsPlacedBelow size c
  pub hold : AreTrueRules c rules
