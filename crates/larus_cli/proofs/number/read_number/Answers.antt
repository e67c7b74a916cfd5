use Rattle.std.proofs.Common.{◌<◌, ◌^◌, sym, arith, rules}
use Rattle.larus_cli.proofs.Digits.{number_some, number_none, read_within}
use Rattle.larus_cli.proofs.number.read_number.Goals as goal

pub returns-in-Some : goal.returns-in-Some
returns-in-Some c =
    let small : c.args.most < 2 ^ 32 = c.ranges.most.fits in
    sym (number_some c.args.most c.in-Some.number c.args.word.now (omega arith) c.if-number-most.true c.in-Some.ensures.some)

pub returns-in_default : goal.returns-in_default
returns-in_default c =
    let below : c.in-Some.number < 2 ^ 32 = search rules in
    sym (read_within c.args.most c.in-Some.number c.args.word.now c.ranges.most.fits c.in-Some.ensures.some below c.if-number-most.false)

pub returns-in_default-2 : goal.returns-in_default-2
returns-in_default-2 c =
    let small : c.args.most < 2 ^ 32 = c.ranges.most.fits in
    sym (number_none c.args.most c.args.word.now (λ number few is. c.in_default.ensures.none number (omega arith) is))
