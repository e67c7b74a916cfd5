use Rattle.std.proofs.Common.{sym, ◌∙◌}
use Rattle.model_text.proofs.Numbers.{number_fits, number_passes}
use Rattle.model_text.proofs.number.number_in.Goals as goal

pub returns-in_err-number : goal.returns-in_err-number
returns-in_err-number c =
    c.from_residual.ensures ∙
    number_passes c.args.text.now c.loop-byte.number c.loop-byte.byte-index c.loop-byte.invariant.0 c.loop-byte-test.true
    (sym c.number_after.ensures ∙ c.in_err-number.was)

pub returns : goal.returns
returns c =
    number_fits c.args.text.now c.loop-byte.number c.loop-byte.byte-index c.loop-byte.invariant.0 c.loop-byte-test.false
    c.loop-byte.invariant.1
