use Rattle.larus_cli.proofs.Standing.{read_back}
use Rattle.larus_cli.proofs.judge.text_for.Goals as goal

pub returns-clause-back : goal.returns-clause-back
returns-clause-back c =
    let stands = c.proof_scripts_stand.ensures c.args.edition c.args.task.now c.args.proof.now (rw c.tables.ensures at c.constants.ensures.distinct)
    c.goal.ensures.right c.body.ensures.bounded c.requires in
    read_back c.args.edition c.args.task.now c.args.proof.now c.in_ok-script.script c.write_script.result c.in_ok-script.ensures stands c.requires
    c.write_script.ensures.reads_back
