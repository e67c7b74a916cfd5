use Rattle.std.specs.List.{AllByRecursion}
use Rattle.proof_text.specs.Named.{StepIsNamed}
use Rattle.std.proofs.Common.{◌≡◌, ◌++◌, drop}
use Rattle.proof_text.specs.Canonical.{steps_text}
use Rattle.proof_text.proofs.step_text.put_steps.Given as goal

-- what is appended, and what the other steps add
abbrev pub invariant-loop-step : goal.invariant-loop-step
invariant-loop-step l = record {
  text : l.out ++ steps_text l.level (drop l.step-index l.steps) ≡ l.fn.out ++ steps_text l.level l.steps;
  named : AllByRecursion StepIsNamed (drop l.step-index l.steps) → AllByRecursion StepIsNamed l.steps;
}
