use Rattle.std.proofs.Common.{◌≡◌, take}
use Rattle.vernacular_tree.proofs.tree_copy.copy_steps.Given as goal

-- the copies so far are the first steps
abbrev pub invariant-loop-step : goal.invariant-loop-step
invariant-loop-step l = l.copies ≡ take l.step-index l.steps
