use Rattle.std.proofs.Common.{◌≡◌, ◌+◌, length, take}
use Rattle.proof_checker.specs.Running.{StepsRun}
use Rattle.proof_checker.proofs.checker.check_steps.Given as goal

-- the first steps stand and are taken
abbrev pub invariant-loop-step : goal.invariant-loop-step
invariant-loop-step l = record {
  run : StepsRun l.task (take l.step-index l.text.steps) l.fn.trail l.trail l.fn.nodes l.nodes;
  many : length l.nodes ≡ length l.fn.nodes + l.step-index;
}
