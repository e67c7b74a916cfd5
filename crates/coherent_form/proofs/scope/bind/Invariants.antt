use Rattle.std.proofs.Common.{◌≡◌, ◌++◌, take}
use Rattle.coherent_form.proofs.scope.bind.Given as goal

-- the first names are in scope
abbrev pub invariant-loop-name : goal.invariant-loop-name
invariant-loop-name l = l.scope ≡ l.fn.scope ++ take l.name-index l.names
