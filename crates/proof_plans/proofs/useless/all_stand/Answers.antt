use Rattle.std.proofs.Common.{◌∙◌, ap, sym, subst}
use Rattle.std.specs.Option.{option_copied}
use Rattle.std.specs.List.{AllByRecursion}
use Rattle.text_core.proofs.Laws.{take_all}
use Rattle.proof_plans.specs.Repeats.{StandsAt}
use Rattle.proof_plans.proofs.Repeats.{each_next}
use Rattle.proof_plans.proofs.useless.all_stand.Goals as goal

pub loop-number-preserved : goal.loop-number-preserved
loop-number-preserved c =
    each_next (StandsAt c.args.scene.now c.args.draft.now c.args.node c.args.base) c.args.facts.now c.loop-number.number c.in-Some.atom.now
    (sym c.place_at.ensures ∙ ap option_copied c.in-Some.is) c.loop-number.invariant c.if-not-stands_at.ensures

pub returns : goal.returns
returns c = subst (AllByRecursion (StandsAt c.args.scene.now c.args.draft.now c.args.node c.args.base)) (take_all c.args.facts.now c.loop-number.number c.loop-number-test.false) c.loop-number.invariant
