use Rattle.std.proofs.Common.{◌≡◌, ◌-◌, min, take}
use Rattle.std.specs.List.{sum_by}
use Rattle.coherent_form.proofs.problem_reading.places_from.Given as goal

-- the places of the symbols so far
abbrev pub invariant-loop-symbol : goal.invariant-loop-symbol
invariant-loop-symbol l = l.all ≡ min (sum_by (λ symbol. symbol.arity) (take (l.symbol - 1) l.tables.symbols)) 4294967295
