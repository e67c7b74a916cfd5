use Rattle.std.proofs.Common.{◌≡◌, ◌++◌, length}
use Rattle.std.specs.Vec.Iter.{into_iter_items, into_iter_len}
use Rattle.proof_checker.specs.Running.{rules_in}
use Rattle.proof_checker.proofs.script_check.rules_of.Given as goal

-- the rule applications among the nodes so far
abbrev pub invariant-loop-node : goal.invariant-loop-node
invariant-loop-node l = record {
  rest : l.yielded ++ into_iter_items l.node-iterator ≡ l.fn.nodes;
  len : into_iter_len l.node-iterator ≡ length (into_iter_items l.node-iterator);
  so_far : l.rules ≡ rules_in l.yielded;
}
