use Rattle.std.proofs.Common.{◌≡◌, ◌++◌, drop, map, codes}
use Rattle.std.specs.List.{AllByRecursion}
use Rattle.text_core.specs.NameTexts.{IsNameText}
use Rattle.tptp_printer.specs.Canonical.{name_text, joined_texts}
use Rattle.tptp_lexer.proofs.Laws.{led}
use Rattle.tptp_printer.proofs.item.put_names.Given as goal

-- what is appended, and what the other names add
abbrev pub invariant-loop-name : goal.invariant-loop-name
invariant-loop-name l = record {
  text : l.out ++ led l.before (codes ",") (map name_text (drop l.name-index l.names)) ≡ l.fn.out ++ joined_texts (codes ",") (map name_text l.names);
  named : AllByRecursion IsNameText (drop l.name-index l.names) → AllByRecursion IsNameText l.names;
}
