use Rattle.std.proofs.Common.{◌≡◌, take}
use Rattle.coherent_form.specs.NameNumbers.{lists_joined}
use Rattle.coherent_form.proofs.variables.product.Given as goal

-- the first lists are followed by each of the others
abbrev pub invariant-loop-first : goal.invariant-loop-first
invariant-loop-first l = l.all ≡ lists_joined (take l.first-index l.firsts) l.seconds
