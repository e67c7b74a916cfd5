use Rattle.std.proofs.Common.{◌≡◌, ◌∙◌, ap, sym}
use Rattle.std.specs.Option.{option_copied}
use Rattle.text_core.proofs.Laws.{some_at}
use Rattle.vernacular_tree.specs.Contexts.{atom_at}
use Rattle.proof_plans.proofs.idle.repeats_some.Goals as goal

pub returns-in-loop-number : goal.returns-in-loop-number
returns-in-loop-number c = λ values one.
    some_at (λ p. atom_at values p ≡ atom_at values c.args.fact.now) c.args.premises.now c.loop-number.number c.in-Some.premise.now
    (sym c.place_at.ensures ∙ ap option_copied c.in-Some.is) (c.if-is_repeated.ensures values one)
