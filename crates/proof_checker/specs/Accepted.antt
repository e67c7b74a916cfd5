-- Which scripts are accepted: a script stands for a body, and the body is a proof of the task.
use Rattle.vernacular_tree.specs.Rules.{Proves}
use Rattle.vernacular_tree.specs.declared.tree.Body.{Body}
use Rattle.coherent_form.specs.Tasks.{CitedTask, proof_task}
use Rattle.proof_text.specs.StandsFor.{Stands}
use Rattle.proof_text.specs.Values.{Written}

-- a script is accepted as a body
pub record IsAcceptedAs (task : CitedTask) (script : Written) (body : Body) : Type 0 where
  pub stands : Stands task script body
  pub proves : Proves (proof_task task) body
