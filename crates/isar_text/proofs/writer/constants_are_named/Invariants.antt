use Rattle.std.proofs.Common.{take}
use Rattle.std.specs.List.{AllByRecursion}
use Rattle.text_core.specs.NameTexts.{IsNameText}
use Rattle.isar_text.proofs.writer.constants_are_named.Given as goal

-- the first constants have names
abbrev pub invariant-loop-number : goal.invariant-loop-number
invariant-loop-number l = AllByRecursion IsNameText (take l.number l.tables.constants)
