use Rattle.larus_cli.proofs.Naming.{prove_told}
use Rattle.larus_cli.proofs.command.prove_name.Goals as goal

pub returns-clause-asks : goal.returns-clause-asks
returns-clause-asks c = rw c.as_slice.ensures (prove_told c.args.words.now c.args.most c.problem-item.result c.requires c.in-len3.len_at_least
    c.in-len3.len_below c.problem-item.is).0

pub returns-clause-few : goal.returns-clause-few
returns-clause-few c = (prove_told c.args.words.now c.args.most c.problem-item.result c.requires c.in-len3.len_at_least
    c.in-len3.len_below c.problem-item.is).1
