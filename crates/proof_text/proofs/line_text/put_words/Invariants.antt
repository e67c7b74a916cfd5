use Rattle.std.specs.List.{AllByRecursion}
use Rattle.text_core.specs.NameTexts.{IsNameText}
use Rattle.std.proofs.Common.{◌≡◌, ◌++◌, drop, map}
use Rattle.tptp_lexer.specs.Written.{joined_texts, word_text}
use Rattle.tptp_lexer.proofs.Laws.{led}
use Rattle.proof_text.proofs.line_text.put_words.Given as goal

-- what is appended, and what the other words add
abbrev pub invariant-loop-name : goal.invariant-loop-name
invariant-loop-name l = record {
  text : l.out ++ led l.before l.separator (map word_text (drop l.name-index l.names)) ≡ l.fn.out ++ joined_texts l.separator (map word_text l.names);
  named : AllByRecursion IsNameText (drop l.name-index l.names) → AllByRecursion IsNameText l.names;
}
