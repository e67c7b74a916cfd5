use Rattle.std.proofs.Common.{◌≡◌, ◌++◌, map, length}
use Rattle.std.specs.Vec.Iter.{into_iter_items, into_iter_len}
use Rattle.coherent_form.proofs.variables.each_followed.Given as goal

-- the lists so far are followed by the other one
abbrev pub invariant-loop-first : goal.invariant-loop-first
invariant-loop-first l = record {
  rest : l.yielded ++ into_iter_items l.first-iterator ≡ l.fn.firsts;
  len : into_iter_len l.first-iterator ≡ length (into_iter_items l.first-iterator);
  so_far : l.all ≡ map (λ first. first ++ l.second) l.yielded;
}
