use Rattle.std.proofs.Common.{◌≡◌, ◌++◌, ◌∙◌, ap}
use Rattle.text_core.specs.Names.{Text}
use Rattle.isar_text.specs.Bodies.{isar_proof}
use Rattle.isar_text.proofs.IsarSpells.{reads_back}
use Rattle.isar_text.proofs.writer.write_isar.Goals as goal

pub returns-clause-reads_back : goal.returns-clause-reads_back
returns-clause-reads_back c =
    let told = c.in_ok-put_proof.ensures in
    let is : c.put_proof.new.out ≡ isar_proof c.args.task.now c.args.proof.now
    = told.text ∙ ap (λ (b : Text). b ++ isar_proof c.args.task.now c.args.proof.now) c.new-out.ensures in
    reads_back c.args.task.now c.args.proof.now c.put_proof.new.out is told.right told.named told.bounded told.fits c.requires
