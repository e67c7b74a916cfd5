use Rattle.std.proofs.Common.{◌≡◌, ◌++◌, drop}
use Rattle.isar_text.specs.Heads.{spaced}
use Rattle.isar_text.proofs.formula_text.put_spaced.Given as goal

-- what is appended, and what the other texts add
abbrev pub invariant-loop-text : goal.invariant-loop-text
invariant-loop-text l = l.out ++ spaced (drop l.text-index l.texts) ≡ l.fn.out ++ spaced l.texts
