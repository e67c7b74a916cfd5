use Rattle.std.proofs.Common.{sym, ◌∙◌}
use Rattle.proof_checker.proofs.Instances.{unnamed}
use Rattle.proof_checker.proofs.args.elements_of.Goals as goal

pub returns-in-None : goal.returns-in-None
returns-in-None c = unnamed c.args.trail.now.names c.args.texts.now c.loop-text.text-index c.text-item.result c.loop-text-test.true c.text-item.is
    (sym c.element.ensures ∙ c.in-None.is)
