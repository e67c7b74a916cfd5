use Rattle.std.proofs.Common.{◌≡◌, ◌++◌, drop}
use Rattle.proof_text.specs.ScriptOf.{steps_of, after_steps}
use Rattle.proof_text.specs.Showing.{IsInside, MaySteps}
use Rattle.proof_text.proofs.step.steps_of.Given as goal

-- the steps so far and those that follow, which may be taken
abbrev pub invariant-loop-step : goal.invariant-loop-step
invariant-loop-step l = record {
  inside : IsInside l.task l.context;
  may : MaySteps l.task (drop l.step-index l.steps) l.context;
  text : l.texts ++ steps_of l.edition l.task (drop l.step-index l.steps) l.context ≡ steps_of l.edition l.task l.steps l.fn.context;
  after : after_steps l.task (drop l.step-index l.steps) l.context ≡ after_steps l.task l.steps l.fn.context;
}
