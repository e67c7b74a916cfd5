use Rattle.std.proofs.Common.{◌≡◌, ◌++◌, drop}
use Rattle.proof_text.specs.ScriptOf.{after_steps}
use Rattle.proof_text.specs.Showing.{MaySteps}
use Rattle.isar_text.specs.Bodies.{steps_text}
use Rattle.isar_text.specs.Firsts.{Grows}
use Rattle.isar_text.specs.KeptBranch.{IsKept}
use Rattle.isar_text.proofs.steps.put_steps.Given as goal

-- what is appended, and what the other steps add, which may be taken
abbrev pub invariant-loop-step : goal.invariant-loop-step
invariant-loop-step l = record {
  kept : IsKept l.task l.branch;
  may : MaySteps l.task (drop l.step-index l.steps) l.branch.context;
  text : l.out ++ steps_text l.level l.task (drop l.step-index l.steps) l.branch.context ≡ l.fn.out ++ steps_text l.level l.task l.steps l.fn.branch.context;
  after : after_steps l.task (drop l.step-index l.steps) l.branch.context ≡ after_steps l.task l.steps l.fn.branch.context;
  grows : Grows l.fn.branch.firsts l.branch.firsts;
}
