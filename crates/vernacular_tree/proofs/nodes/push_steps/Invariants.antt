use Rattle.std.proofs.Common.{◌≡◌, ◌++◌, map, take}
use Rattle.vernacular_tree.specs.Preorders.{mp_node}
use Rattle.vernacular_tree.proofs.nodes.push_steps.Given as goal

-- the nodes of the first steps are appended
abbrev pub invariant-loop-step : goal.invariant-loop-step
invariant-loop-step l = l.nodes ≡ l.fn.nodes ++ map mp_node (take l.step-index l.steps)
