use Rattle.std.proofs.Common.{take}
use Rattle.model_text.specs.Words.{AreNumbered}
use Rattle.model_text.proofs.word_tokens.WordTokens.new.Given as goal

-- the names and numbers of the first tokens
abbrev pub invariant-loop-number : goal.invariant-loop-number
invariant-loop-number l = AreNumbered (take l.number l.tokens.tokens) l.names.keys l.numbers.items
