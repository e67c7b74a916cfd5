use Rattle.larus_cli.proofs.Naming.{refute_told}
use Rattle.larus_cli.proofs.command.refute_name.Goals as goal

pub returns-clause-asks : goal.returns-clause-asks
returns-clause-asks c = rw c.as_slice.ensures (refute_told c.args.words.now c.args.size c.problem-item.result c.requires c.in-len3.len_at_least
    c.in-len3.len_below c.problem-item.is).0

pub returns-clause-some : goal.returns-clause-some
returns-clause-some c = (refute_told c.args.words.now c.args.size c.problem-item.result c.requires c.in-len3.len_at_least
    c.in-len3.len_below c.problem-item.is).1.0

pub returns-clause-few : goal.returns-clause-few
returns-clause-few c = (refute_told c.args.words.now c.args.size c.problem-item.result c.requires c.in-len3.len_at_least
    c.in-len3.len_below c.problem-item.is).1.1
