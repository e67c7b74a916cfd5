-- How the branches of a plan that is kept in place are closed.
use Rattle.std.specs.Prelude.{ℕ, zero, suc, ◌+◌, ◌<◌, ◌≡◌, false, List, [], ◌∷◌, ◌++◌, length, replicate, slice_get, Some, None}
use Rattle.text_core.specs.Lists.{IsAmong}
use Rattle.logic_core.specs.declared.form.Atom.{Atom}
use Rattle.logic_core.specs.declared.form.Form.{Form}
use Rattle.vernacular_tree.specs.Contexts.{counted}
use Rattle.vernacular_tree.specs.declared.context.Line.{Line}
use Rattle.proof_plans.specs.declared.draft.ListOf as ListOf
use Rattle.proof_plans.specs.declared.draft.ListOf.TheVariants as list
use Rattle.proof_plans.specs.declared.draft.Node.{Node}
use Rattle.proof_plans.specs.declared.draft.GoalOf.TheVariants as goal_of
use Rattle.proof_plans.specs.declared.draft.PlanTie.TheVariants as tie
use Rattle.proof_plans.specs.Runs.{given_lists}
use Rattle.proof_plans.specs.Drafts.{Drafted, goals_from, with_tie}

-- the list with this number of the same split
abbrev pub numbered_list : ListOf.ListOf → ℕ → ListOf.ListOf
numbered_list (list.Line line) number = list.Line line
numbered_list (list.Case line other) number = list.Case line number
numbered_list (list.Disjunct form base other) number = list.Disjunct form base number

-- a plan with one more branch, split out of another one
abbrev pub with_child : Node → Drafted → Drafted
with_child child d = record d {
  nodes = d.nodes ++ child ∷ [];
  branches = d.branches ++ length d.nodes ∷ [];
}

-- as many branches of a split, the first one with this number
abbrev pub children_from : ListOf.ListOf → ℕ → ℕ → ℕ → List Node
children_from of node first zero = []
children_from of node first (suc count) =
    record { parent = node; of = numbered_list of first } ∷ children_from of node (first + 1) count

abbrev pub with_children : ListOf.ListOf → ℕ → ℕ → Drafted → Drafted
with_children of node count d = record d {
  nodes = d.nodes ++ children_from of node 0 count;
  branches = d.branches ++ counted (length d.nodes) count;
}

-- a branch is split into so many
abbrev pub split_draft : ListOf.ListOf → ℕ → ℕ → Drafted → Drafted
split_draft of node count d = record (with_children of node count d) { closed = d.closed + 1 }

-- a branch is closed by a disjunct of the goal with so many existential variables and atoms
abbrev pub answered_draft : ℕ → ℕ → ℕ → ℕ → Drafted → Drafted
answered_draft disjunct existentials count node d =
    let base = d.start + length d.bound in
    record d {
      bound = d.bound ++ counted base existentials;
      fixed = d.fixed ++ replicate existentials false;
      closed = d.closed + 1;
      goals = d.goals ++ goals_from (goal_of.Disjunct disjunct base) None node 0 count;
    }

-- a branch is closed by one of the forms of the disjuncts
pub record IsAnsweredBy (answers : List Form) (disjunct node : ℕ) (old new : Drafted) : Type 0 where
  pub form : Form
  pub form_is : slice_get answers disjunct ≡ Some form
  pub new_is : new ≡ answered_draft disjunct form.universals (length form.premises) node old

-- a branch is split by a line
pub record IsSplitByLine (lines : List Line) (line node : ℕ) (old new : Drafted) : Type 0 where
  pub given : Line
  pub given_is : slice_get lines line ≡ Some given
  pub count : ℕ
  pub long : (lists : List (List Atom)) → IsAmong lists (given_lists given) → length lists ≡ count
  pub rooted : 0 < length old.nodes
  pub new_is : new ≡ split_draft (list.Case line 0) node count old

-- a branch is split by a step with this form and first variable
pub record IsSplitByStep (forms : List Form) (step form base node : ℕ) (old new : Drafted) : Type 0 where
  pub f : Form
  pub form_is : slice_get forms form ≡ Some f
  pub rooted : 0 < length old.nodes
  pub new_is : new
      ≡ split_draft (list.Disjunct form base 0) node (length f.disjuncts)
      (with_tie (tie.Over step node) old)
