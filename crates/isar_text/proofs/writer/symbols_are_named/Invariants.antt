use Rattle.std.proofs.Common.{◌-◌, ◌≤◌, take, length}
use Rattle.std.specs.List.{AllByRecursion}
use Rattle.isar_text.specs.Named.{SymbolIsNamed}
use Rattle.isar_text.proofs.writer.symbols_are_named.Given as goal

-- the first symbols have names
abbrev pub invariant-loop-number : goal.invariant-loop-number
invariant-loop-number l = record {
  named : AllByRecursion SymbolIsNamed (take (l.number - 1) l.tables.symbols);
  some : 1 ≤ l.number;
}
