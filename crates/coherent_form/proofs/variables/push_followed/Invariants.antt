use Rattle.std.proofs.Common.{◌≡◌, ◌++◌, map, take}
use Rattle.coherent_form.proofs.variables.push_followed.Given as goal

-- the first of the others are appended behind the list
abbrev pub invariant-loop-second : goal.invariant-loop-second
invariant-loop-second l = l.all ≡ l.fn.all ++ map (λ second. l.first ++ second) (take l.second-index l.seconds)
