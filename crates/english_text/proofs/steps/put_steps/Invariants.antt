use Rattle.std.proofs.Common.{◌≡◌, ◌++◌, drop}
use Rattle.proof_text.specs.ScriptOf.{after_steps}
use Rattle.proof_text.specs.Showing.{IsInside, MaySteps}
use Rattle.english_text.specs.English.{steps_text}
use Rattle.english_text.proofs.steps.put_steps.Given as goal

-- what is appended, and what the other steps add, which may be taken
abbrev pub invariant-loop-step : goal.invariant-loop-step
invariant-loop-step l = record {
  inside : IsInside l.task l.context;
  may : MaySteps l.task (drop l.step-index l.steps) l.context;
  text : l.out ++ steps_text l.task l.level (drop l.step-index l.steps) l.context ≡ l.fn.out ++ steps_text l.task l.level l.steps l.fn.context;
  after : after_steps l.task (drop l.step-index l.steps) l.context ≡ after_steps l.task l.steps l.fn.context;
}
