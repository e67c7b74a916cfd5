use Rattle.std.proofs.Common.{◌≡◌, ◌++◌, map, length}
use Rattle.vernacular_tree.specs.Preorders.{mp_node}
use Rattle.vernacular_tree.proofs.nodes.read_steps.Given as goal

-- the nodes of the steps so far, then the rest
abbrev pub invariant-loop-rest : goal.invariant-loop-rest
invariant-loop-rest l = l.nodes ≡ map mp_node l.steps ++ l.rest

abbrev pub decreases-loop-rest : goal.decreases-loop-rest
decreases-loop-rest l = length l.rest
