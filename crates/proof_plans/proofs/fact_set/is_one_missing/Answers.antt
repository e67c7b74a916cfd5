use Rattle.std.proofs.Common.{◌≡◌, ◌++◌, ◌∙◌, ap, sym, Some, true, false}
use Rattle.std.specs.Option.{option_copied}
use Rattle.text_core.proofs.Laws.{each_get}
use Rattle.vernacular_tree.specs.Contexts.{atom_at}
use Rattle.proof_plans.specs.Landmarks.{IsTold}
use Rattle.proof_plans.proofs.fact_set.is_one_missing.Goals as goal

pub returns-in-Some-false : goal.returns-in-Some-false
returns-in-Some-false c = λ more all.
    let told = each_get (λ atom. IsTold c.args.set.now (atom_at (c.args.values.now ++ more) atom)) c.args.atoms.now c.loop-number.number c.in-Some.atom.now all
    (sym c.place_at.ensures ∙ ap option_copied c.in-Some.is) in
    let both : Some true ≡ Some false = sym told ∙ c.in-Some-false.ensures more ∙ ap Some c.in-Some-false.field-0-test in absurd (cc)
