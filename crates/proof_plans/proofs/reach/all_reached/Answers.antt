use Rattle.std.proofs.Common.{◌∙◌, ap, sym}
use Rattle.std.specs.Option.{option_copied}
use Rattle.proof_plans.specs.Signs.{IsReached}
use Rattle.proof_plans.proofs.Repeats.{each_next}
use Rattle.proof_plans.proofs.reach.all_reached.Goals as goal

pub loop-number-preserved : goal.loop-number-preserved
loop-number-preserved c =
    each_next (IsReached c.args.row.now) c.args.atoms.now c.loop-number.number c.in-Some.atom.now
    (sym c.place_at.ensures ∙ ap option_copied c.in-Some.is) c.loop-number.invariant c.if-not-atom_reached.ensures
