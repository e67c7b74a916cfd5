use Rattle.std.proofs.Common.{◌≡◌, ◌++◌, map, take}
use Rattle.coherent_form.specs.Reading.{alternative_joined}
use Rattle.coherent_form.proofs.alternatives.push_followed.Given as goal

-- the first of the others are appended behind the alternative
abbrev pub invariant-loop-second : goal.invariant-loop-second
invariant-loop-second l = l.all ≡ l.fn.all ++ map (alternative_joined l.scope l.first) (take l.second-index l.seconds)
