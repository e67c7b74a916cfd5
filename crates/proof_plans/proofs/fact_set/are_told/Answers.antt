use Rattle.std.proofs.Common.{◌++◌, ◌∙◌, ap, sym, subst, Some}
use Rattle.std.specs.Option.{option_copied}
use Rattle.text_core.proofs.Laws.{take_all}
use Rattle.vernacular_tree.specs.Contexts.{atom_at}
use Rattle.proof_plans.specs.Landmarks.{IsTold, AreTold}
use Rattle.proof_plans.proofs.Repeats.{each_next}
use Rattle.proof_plans.proofs.fact_set.are_told.Goals as goal

pub loop-number-preserved : goal.loop-number-preserved
loop-number-preserved c = λ more.
    each_next (λ atom. IsTold c.args.set.now (atom_at (c.args.values.now ++ more) atom)) c.args.atoms.now c.loop-number.number c.in-Some.atom.now
    (sym c.place_at.ensures ∙ ap option_copied c.in-Some.is) (c.loop-number.invariant more) (c.in-Some-true.ensures more ∙ ap Some c.in-Some-true.field-0-test)

pub returns : goal.returns
returns c = λ more. subst (AreTold c.args.set.now (c.args.values.now ++ more)) (take_all c.args.atoms.now c.loop-number.number c.loop-number-test.false) (c.loop-number.invariant more)
