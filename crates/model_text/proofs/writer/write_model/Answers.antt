use Rattle.std.proofs.Common.{◌∙◌, ap, ◌++◌}
use Rattle.text_core.specs.Names.{Text}
use Rattle.model_text.specs.Canonical.{model_text}
use Rattle.model_text.proofs.ModelPieces.{spells}
use Rattle.model_text.proofs.writer.write_model.Goals as goal

pub returns-clause-reads_back : goal.returns-clause-reads_back
returns-clause-reads_back c =
    spells c.args.model.now c.put_model.new.out
    (c.in_ok-put_model.ensures.text ∙ ap (λ (t : Text). t ++ model_text c.args.model.now) c.new-out.ensures)
    c.in_ok-put_model.ensures.places c.in_ok-put_model.ensures.facts c.in_ok-put_model.ensures.sound
