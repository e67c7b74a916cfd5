use Rattle.std.proofs.Common.{◌≡◌, take}
use Rattle.coherent_form.specs.Reading.{alternatives_joined}
use Rattle.coherent_form.proofs.alternatives.product.Given as goal

-- the first alternatives are followed by each of the others
abbrev pub invariant-loop-first : goal.invariant-loop-first
invariant-loop-first l = l.all ≡ alternatives_joined l.scope (take l.first-index l.firsts) l.seconds
