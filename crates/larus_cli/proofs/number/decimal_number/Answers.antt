use Rattle.std.proofs.Common.{◌<◌, length, arith}
use Rattle.larus_cli.proofs.Digits.{empty_none, signed_none, padded_none, zero_word}
use Rattle.larus_cli.proofs.number.decimal_number.Goals as goal

pub returns-then-word-eq0-clause-none : goal.returns-then-word-eq0-clause-none
returns-then-word-eq0-clause-none c number small is = empty_none c.args.word.now number (omega arith) c.if-word-eq0.true is

pub returns-then-word-eq43-clause-none : goal.returns-then-word-eq43-clause-none
returns-then-word-eq43-clause-none c number small is =
    let some : 0 < length c.args.word.now = omega (arith, c.if-word-eq0.false) in
    signed_none c.args.word.now number (omega arith) some c.if-word-eq43.true is

pub returns-then-word-eq1-clause-some : goal.returns-then-word-eq1-clause-some
returns-then-word-eq1-clause-some c = zero_word c.args.word.now c.if-word-eq1.true c.if-word-ne48.false

pub returns-else-word-eq1-clause-none : goal.returns-else-word-eq1-clause-none
returns-else-word-eq1-clause-none c number small is =
    let more : 1 < length c.args.word.now = omega (arith, c.if-word-eq0.false, c.if-word-eq1.false) in
    padded_none c.args.word.now number (omega arith) more c.if-word-ne48.false is
