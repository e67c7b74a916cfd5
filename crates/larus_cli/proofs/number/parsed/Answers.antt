use Rattle.std.proofs.Common.{arith}
use Rattle.larus_cli.proofs.Digits.{parsed_found, parsed_none, odd_none}
use Rattle.larus_cli.proofs.number.parsed.Goals as goal

pub returns-in-Ok-clause-some : goal.returns-in-Ok-clause-some
returns-in-Ok-clause-some c = parsed_found c.args.word.now c.in-Ok.text.now c.parse.result c.ok.result c.in-Ok.ensures.cases.0 c.parse.ensures.value.0
    c.ok.ensures.value c.requires.unsigned c.requires.unpadded

pub returns-in-Ok-clause-none : goal.returns-in-Ok-clause-none
returns-in-Ok-clause-none c = parsed_none c.args.word.now c.in-Ok.text.now c.parse.result c.ok.result c.in-Ok.ensures.cases.0 c.parse.ensures.value.0
    c.ok.ensures.value

pub returns-in-Err-clause-none : goal.returns-in-Err-clause-none
returns-in-Err-clause-none c number small is = odd_none c.args.word.now number (omega arith) c.in-Err.ensures.cases.0 is
