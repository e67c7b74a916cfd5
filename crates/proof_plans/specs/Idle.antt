-- Premises without which a form makes nothing new unless their two arguments differ: those of
-- symmetry, transitivity and substitution where an equation says that an element is itself.
use Rattle.std.specs.Prelude.{ℕ, ◌≡◌, List, [], ◌∷◌}
use Rattle.std.specs.List.{AllByRecursion}
use Rattle.text_core.specs.Lists.{SomeOf}
use Rattle.logic_core.specs.declared.form.Slot.{Slot}
use Rattle.logic_core.specs.declared.form.Atom.{Atom}
use Rattle.logic_core.specs.declared.form.Form.{Form}
use Rattle.vernacular_tree.specs.Contexts.{slot_at, atom_at}

-- a fact is one of the premises wherever these two slots stand for one element
abbrev pub Repeats : Slot → Slot → List Atom → Atom → Type 0
Repeats left right premises fact =
    (values : List ℕ) → slot_at values left ≡ slot_at values right
    → SomeOf (λ premise. atom_at values premise ≡ atom_at values fact) premises

-- where the two arguments of a premise are one, each fact of the form's list is a premise
pub record IsIdle (form : Form) (facts : List Atom) (premise : Atom) : Type 0 where
  pub left : Slot
  pub right : Slot
  pub args_are : premise.args ≡ left ∷ right ∷ []
  pub none : form.existentials ≡ 0
  pub repeats : AllByRecursion (Repeats left right form.premises) facts
