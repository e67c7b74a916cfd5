use Rattle.proof_text.specs.declared.part.Edition.TheVariants.{First}
use Rattle.larus_cli.proofs.Standing.{isar_back}
use Rattle.larus_cli.proofs.judge.isar_for.Goals as goal

pub returns-clause-back : goal.returns-clause-back
returns-clause-back c =
    let stands = c.proof_scripts_stand.ensures First c.args.task.now c.args.proof.now (rw c.tables.ensures at c.constants.ensures.distinct)
    c.goal.ensures.right c.body.ensures.bounded c.requires in
    isar_back c.args.task.now c.args.proof.now c.write_isar.result stands c.requires c.write_isar.ensures.reads_back
