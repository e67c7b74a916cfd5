use Rattle.std.proofs.Common.{◌≡◌, ◌∙◌, sym, ap, subst, slice_get, Some, List, ℕ}
use Rattle.logic_core.specs.declared.form.Atom.{Atom}
use Rattle.proof_plans.specs.Scenes.{Reads}
use Rattle.proof_plans.proofs.Reading.{goal_reads}
use Rattle.proof_plans.proofs.scene.goal_at.Goals as goal

pub returns : goal.returns
returns c = λ constants task lent nodes is right scene goal_is.
    let found = goal_reads constants task right lent nodes c.args.goal is goal_is c.in_ok-atoms.atoms (c.in_ok-atoms.ensures task lent scene) in
    let here : Some c.in_ok-place_at.field-0.now ≡ Some found.0
    = c.in_ok-place_at.ensures ∙ ap (λ (xs : List Atom). slice_get xs c.args.goal.number) c.as_slice.ensures ∙ found.1 in
    let same : c.in_ok-place_at.field-0.now ≡ found.0 = cc in
    subst (λ (a : Atom). Reads a c.goal_base.result is.atom) (sym same) (subst (λ (b : ℕ). Reads found.0 b is.atom) (sym c.goal_base.ensures) found.2)
