use Rattle.std.proofs.Common.{arith}
use Rattle.model_text.proofs.Marked.{marked_length}
use Rattle.model_text.proofs.reader.told.Goals as goal

pub start-requires : goal.start-requires
start-requires c =
    let refused = rw c.in-Unexpected.is at c.requires in
    let within = refused.1.first.within in
    omega (arith, within, marked_length c.args.tokens.now.tokens)

pub start-requires-in-Stopped : goal.start-requires-in-Stopped
start-requires-in-Stopped c =
    let refused = rw c.in-Stopped.is at c.requires in
    let within = refused.1.within in
    omega (arith, within, marked_length c.args.tokens.now.tokens)
