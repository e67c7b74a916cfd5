-- Tasks and contexts, and what a rule does to a context. Source: the 2014 paper "A Vernacular for
-- Coherent Logic". Elements and lines are numbered from 0.
use Rattle.std.specs.Prelude.{ℕ, zero, suc, ◌+◌, ◌-◌, List, [], ◌∷◌, ◌++◌, map, slice_index}
use Rattle.text_core.specs.Lists.{SomeOf, IsAmong}
use Rattle.logic_core.specs.declared.form.Slot.{Slot}
use Rattle.logic_core.specs.declared.form.Slot.TheVariants.{Variable, Constant}
use Rattle.logic_core.specs.declared.form.Atom.{Atom}
use Rattle.logic_core.specs.declared.form.Form.{Form}
use Rattle.vernacular_tree.specs.declared.context.Line.{Line}
use Rattle.vernacular_tree.specs.declared.context.Line.TheVariants.{Facts, Cases, Falsum}
use Rattle.vernacular_tree.specs.declared.context.Context.{Context}

-- what is to be proved: the goal, from the forms. The start elements are the constants, then one
-- element for each universal variable of the goal, which are the parameters; or a single element
-- where there is neither
pub record Task : Type 0 where
  pub forms : List Form
  pub goal : Form
  pub start : ℕ

-- as many numbers in a row
abbrev pub counted : ℕ → ℕ → List ℕ
counted first zero = []
counted first (suc k) = first ∷ counted (first + 1) k

-- the parameters are the last start elements
abbrev pub parameters : Task → List ℕ
parameters task = counted (task.start - task.goal.universals) task.goal.universals

-- an atom of a form at elements for its variables; constant number c is element c
abbrev pub slot_at : List ℕ → Slot → Slot
slot_at elements (Variable i) = Constant (slice_index elements i)
slot_at elements (Constant c) = Constant c

abbrev pub atom_at : List ℕ → Atom → Atom
atom_at elements atom = record {
  positive = atom.positive;
  symbol = atom.symbol;
  args = map (slot_at elements) atom.args;
}

-- the line of a list of disjuncts: falsehood of none, facts of one, cases of more
abbrev pub line_of : List (List Atom) → Line
line_of [] = Falsum
line_of (facts ∷ []) = Facts facts
line_of (facts ∷ more ∷ rest) = Cases (facts ∷ more ∷ rest)

-- a fact stands in a context where some line of facts has it, with the same sign, symbol and
-- elements
abbrev pub LineHas : Atom → Line → Type 0
LineHas fact (Facts facts) = IsAmong fact facts
LineHas fact (Cases lists) = ⊥
LineHas fact Falsum = ⊥

abbrev pub Stands : Context → Atom → Type 0
Stands context fact = SomeOf (LineHas fact) context.lines

-- the context with which every proof of a task begins: the goal's premises at the parameters
abbrev pub start_context : Task → Context
start_context task = record {
  elements = task.start;
  lines = Facts (map (atom_at (parameters task)) task.goal.premises) ∷ [];
}

-- the context with a further line of facts, as a case has it
abbrev pub with_facts : Context → List Atom → Context
with_facts context facts = record {
  elements = context.elements;
  lines = context.lines ++ Facts facts ∷ [];
}

-- the context after a form was applied: a new element for each existential variable, and the line
-- of the form's disjuncts at the arguments and the new elements
abbrev pub after_mp : Context → Form → List ℕ → Context
after_mp context form args = record {
  elements = context.elements + form.existentials;
  lines = context.lines ++ line_of (map
      (map (atom_at (args ++ counted context.elements form.existentials))) form.disjuncts) ∷ [];
}
