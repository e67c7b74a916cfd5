use Rattle.std.proofs.Common.{subst, sym, take, ◌+◌, arith}
use Rattle.model_text.specs.Words.{AreNumbered}
use Rattle.model_text.proofs.WordNumbers.{next_numbered}
use Rattle.model_text.proofs.word_tokens.WordTokens.new.Goals as goal

pub loop-number-preserved : goal.loop-number-preserved
loop-number-preserved c =
    subst (AreNumbered (take (c.loop-number.number + 1) c.args.tokens.now.tokens) c.number_token.new.names.keys)
    (sym c.in_ok-push.ensures.items)
    (next_numbered c.args.tokens.now.tokens c.loop-number.number c.loop-number.names.keys c.number_token.new.names.keys
    c.loop-number.numbers.items c.in_ok-word.word (omega (arith, c.len-number-end.ensures)) c.loop-number.invariant c.in_ok-word.ensures.names
    c.in_ok-word.ensures.number)
