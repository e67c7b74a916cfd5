use Rattle.std.proofs.Common.{length, arith}
use Rattle.isar_text.proofs.TokenLaws.{marked_length}
use Rattle.isar_text.proofs.Excesses.{stopped_known}
use Rattle.isar_text.proofs.reader.told.Goals as goal

pub start-start-requires : goal.start-start-requires
start-start-requires c =
    let refused = rw c.in-Unexpected.is at c.requires in
    let within = refused.1.first.within in
    omega (arith, within, marked_length (length c.args.tokens.now.task.forms) 0 c.args.tokens.now.tokens)

pub start-requires : goal.start-requires
start-requires c =
    let refused = rw c.in-Stopped.is at c.requires in
    let known = stopped_known (length c.args.tokens.now.task.forms) c.args.tokens.now.tokens c.in-Stopped.number c.in-Stopped.fault refused.1 in
    let word = known.within in
    let within = refused.1.within in
    omega (arith, word, within, marked_length (length c.args.tokens.now.task.forms) 0 c.args.tokens.now.tokens)
