-- Contexts that may be inside a proof of a task, and the steps that add nothing to one which its
-- own elements do not give already.
use Rattle.std.specs.Prelude.{ℕ, ◌≤◌, List, ◌++◌}
use Rattle.std.specs.List.{AllByRecursion}
use Rattle.text_core.specs.Lists.{SomeOf}
use Rattle.logic_core.specs.declared.form.Form.{Form}
use Rattle.vernacular_tree.specs.Contexts.{Task, atom_at, Stands}
use Rattle.vernacular_tree.specs.Rules.{AreKnown}
use Rattle.vernacular_tree.specs.Carries.{HasElements}
use Rattle.vernacular_tree.specs.declared.context.Line.{Line}
use Rattle.vernacular_tree.specs.declared.context.Line.TheVariants.{Facts, Cases, Falsum}
use Rattle.vernacular_tree.specs.declared.context.Context.{Context}

-- the elements of a line are below the number of elements
abbrev pub LineIsBelow : ℕ → Line → Type 0
LineIsBelow count (Facts facts) = AllByRecursion (HasElements count) facts
LineIsBelow count (Cases lists) = AllByRecursion (AllByRecursion (HasElements count)) lists
LineIsBelow count Falsum = Unit {0}

-- the context has the task's start elements, and speaks of its own elements alone
pub record IsContext (task : Task) (context : Context) : Type 0 where
  pub start : task.start ≤ context.elements
  pub lines : AllByRecursion (LineIsBelow context.elements) context.lines

-- some disjunct of the form, at the arguments and some elements of the context, has all its atoms
-- standing
pub record Witnessed (context : Context) (form : Form) (args : List ℕ) : Type 0 where
  pub witnesses : List ℕ
  pub known : AreKnown context form.existentials witnesses
  pub stand : SomeOf (AllByRecursion (λ atom. Stands context (atom_at (args ++ witnesses) atom)))
      form.disjuncts
