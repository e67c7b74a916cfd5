use Rattle.std.proofs.Common.{◌≡◌, ◌++◌, map, length}
use Rattle.std.specs.Vec.Iter.{into_iter_items, into_iter_len}
use Rattle.coherent_form.specs.Reading.{alternative_joined}
use Rattle.coherent_form.proofs.alternatives.each_preceded.Given as goal

-- the alternatives so far stand behind the first one
abbrev pub invariant-loop-second : goal.invariant-loop-second
invariant-loop-second l = record {
  rest : l.yielded ++ into_iter_items l.second-iterator ≡ l.fn.seconds;
  len : into_iter_len l.second-iterator ≡ length (into_iter_items l.second-iterator);
  so_far : l.all ≡ map (alternative_joined l.scope l.first) l.yielded;
}
