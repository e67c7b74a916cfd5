use Rattle.std.proofs.Common.{◌≡◌}
use Rattle.base_tests.proofs.facts.as_a_list.Given as goal

abbrev pub invariant-loop-turn : goal.invariant-loop-turn
invariant-loop-turn g l = l.store.signed ≡ 2
