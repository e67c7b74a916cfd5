use Rattle.std.proofs.Common.{◌≡◌, take}
use Rattle.model_search.proofs.sheet.copied.Given as goal

-- copies of the first atoms
abbrev pub invariant-loop-fact : goal.invariant-loop-fact
invariant-loop-fact l = l.copies.items ≡ take l.fact-index l.grounds
