-- When a run does what it is asked for.
use Rattle.std.specs.Prelude.{◌≤◌, List}
use Rattle.text_core.specs.Names.{Text}
use Rattle.logic_core.specs.declared.problem.Fof.{Fof}
use Rattle.vernacular_tree.specs.declared.tree.Body.{Body}
use Rattle.vernacular_tree.specs.Rules.{Proves}
use Rattle.vernacular_tree.specs.Sizes.{size}
use Rattle.io_core.specs.Causes.{Rose}
use Rattle.io_core.specs.Known.{Known}
use Rattle.coherent_form.specs.Tasks.{CitedTask, proof_task}
use Rattle.proof_text.specs.Values.{Written}
use Rattle.model_text.specs.Structures.{Finite, IsSound}
use Rattle.finite_model.specs.Countermodels.{IsCountermodel}
use Rattle.larus_cli.specs.Words.{Aim, to_print, to_prove, to_judge, to_refute, to_confirm}
use Rattle.larus_cli.specs.Read.{ReadsProblem, ReadsTask, ReadsScript, ReadsProof, ReadsModel}
use Rattle.larus_cli.specs.Outcome.{Sinks}

-- what is asked for is there, in its grammar and within its limits: the problem is flat, has a task
-- where that is wanted, and the second file spells a script or a structure where there is one
abbrev pub IsReadable : Known → Text → Aim → Type 0
IsReadable files problem to_print = (formulas : List Fof) × ReadsProblem files problem formulas
IsReadable files problem (to_prove most) = (task : CitedTask) × ReadsTask files problem task
IsReadable files problem (to_judge wanted format second) =
    (task : CitedTask) × (script : Written) × ReadsScript format files problem second task script
IsReadable files problem (to_refute size) = (task : CitedTask) × ReadsTask files problem task
IsReadable files problem (to_confirm second) = (formulas : List Fof) × (task : CitedTask) ×
    (m : Finite) × ReadsModel files problem second formulas task m

-- besides, a proof that is sought is there within the bound, the script is accepted, a countermodel
-- that is sought is there with no more elements, and the structure is a countermodel
abbrev pub CanBeDone : Known → Text → Aim → Type 0
CanBeDone files problem to_print = (formulas : List Fof) × ReadsProblem files problem formulas
CanBeDone files problem (to_prove most) = (task : CitedTask) × ReadsTask files problem task ×
    ((body : Body) × Proves (proof_task task) body × (size body ≤ most))
CanBeDone files problem (to_judge wanted format second) = (task : CitedTask) × (script : Written) ×
    (body : Body) × ReadsProof format files problem second task script body
CanBeDone files problem (to_refute size) = (task : CitedTask) ×
    (reads : ReadsTask files problem task) × ((m : Finite) × IsSound m × (m.size ≤ size) ×
    IsCountermodel task.tables.constants reads.formulas m)
CanBeDone files problem (to_confirm second) = (formulas : List Fof) × (task : CitedTask) ×
    (m : Finite) × ReadsModel files problem second formulas task m ×
    IsCountermodel task.tables.constants formulas m

-- no call to the outside failed
pub record NoFault (files later : Known) (old new : Sinks) : Type 0 where
  pub fetches : ¬ (Rose files.faults later.faults)
  pub output : ¬ (Rose old.out.faults new.out.faults)
  pub errors : ¬ (Rose old.errs.faults new.errs.faults)
