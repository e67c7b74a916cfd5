-- Steps whose arguments are new elements of others.
use Rattle.std.specs.Prelude.{ℕ, ◌+◌, ◌<◌, ◌≤◌, ◌≡◌, List, ◌++◌, slice_get, Some}
use Rattle.logic_core.specs.declared.form.Form.{Form}
use Rattle.vernacular_tree.specs.Contexts.{Task}
use Rattle.vernacular_tree.specs.declared.context.Context.{Context}
use Rattle.proof_plans.specs.declared.draft.PlanStep.{PlanStep}
use Rattle.proof_plans.specs.declared.draft.PlanTie as PlanTie
use Rattle.proof_plans.specs.declared.finish.Span.{Span}
use Rattle.proof_plans.specs.declared.scene.Scene.{Scene}
use Rattle.proof_plans.specs.Drafts.{Drafted}
use Rattle.proof_plans.specs.Joining.{IsRoot}
use Rattle.proof_plans.specs.Hopes.{Hope}
use Rattle.proof_plans.specs.Scenes.{IsScene}

-- the variables of a step by a form
abbrev pub IsSpan : List Form → PlanStep → Span → Type 0
IsSpan forms step span = (f : Form) × (slice_get forms step.form ≡ Some f)
    × (span.first ≡ step.base) × (span.new ≡ step.base + f.universals)
    × (span.end ≡ step.base + f.universals + f.existentials)

-- a step has a variable as an argument, to which one of its own is bound in the end
pub record HasArgument (forms : List Form) (d : Drafted) (user argument : ℕ) : Type 0 where
  pub step : PlanStep
  pub step_is : slice_get d.steps user ≡ Some step
  pub f : Form
  pub f_is : slice_get forms step.form ≡ Some f
  pub variable : ℕ
  pub from : step.base ≤ variable
  pub below : variable < step.base + f.universals
  pub root_is : IsRoot d.start d.bound variable argument

-- more is known of where the steps of a plan stand, and it holds in each proof
pub record GetsTies (scene : Scene) (old new : Drafted) : Type 0 where
  pub more : List PlanTie.PlanTie
  pub new_is : new ≡ record old { ties = old.ties ++ more }
  pub hope : (task : Task) (lent : Context) (n : ℕ) → IsScene task lent scene
      → Hope task lent n old → Hope task lent n new

-- it does where a step has an argument
abbrev pub TiesArgument : Scene → Drafted → ℕ → ℕ → Drafted → Type 0
TiesArgument scene old user argument new =
    HasArgument scene.forms.now old user argument → GetsTies scene old new
