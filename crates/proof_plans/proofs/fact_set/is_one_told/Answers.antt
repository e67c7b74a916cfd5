use Rattle.std.proofs.Common.{◌++◌, ◌∙◌, ap, sym, subst}
use Rattle.std.specs.Option.{option_copied}
use Rattle.text_core.proofs.Laws.{some_at}
use Rattle.proof_plans.specs.Landmarks.{AreTold}
use Rattle.proof_plans.proofs.fact_set.is_one_told.Goals as goal

pub returns-then-are_told : goal.returns-then-are_told
returns-then-are_told c = λ more.
    some_at (AreTold c.args.set.now (c.args.values.now ++ more)) c.args.lists.now c.loop-number.number c.in-Some.facts.now
    (sym c.place_at.ensures ∙ ap option_copied c.in-Some.is) (subst (AreTold c.args.set.now (c.args.values.now ++ more)) c.as_slice.ensures (c.if-are_told.ensures more))
