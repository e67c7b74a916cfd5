use Rattle.std.proofs.Common.{◌∙◌, ap, sym}
use Rattle.std.specs.Option.{option_copied}
use Rattle.proof_plans.proofs.Repeats.{given_among}
use Rattle.proof_plans.proofs.barren.is_given.Goals as goal

pub returns-in-loop-number : goal.returns-in-loop-number
returns-in-loop-number c =
    given_among c.args.scene.now c.args.draft.now c.args.read.now.base c.args.read.now.atom.now c.loop-number.number c.in-Some.line.now
    (sym c.place_at.ensures ∙ ap option_copied c.in-Some.is) c.if-is_in_line.ensures
