use Rattle.std.proofs.Common.{◌≡◌, ◌++◌, map, length}
use Rattle.std.specs.Vec.Iter.{into_iter_items, into_iter_len}
use Rattle.coherent_form.specs.Reading.{alternative_bound}
use Rattle.coherent_form.proofs.alternatives.bound.Given as goal

-- the alternatives so far have the variables in front
abbrev pub invariant-loop-alternative : goal.invariant-loop-alternative
invariant-loop-alternative l = record {
  rest : l.yielded ++ into_iter_items l.alternative-iterator ≡ l.fn.alternatives;
  len : into_iter_len l.alternative-iterator ≡ length (into_iter_items l.alternative-iterator);
  so_far : l.all ≡ map (alternative_bound l.count) l.yielded;
}
