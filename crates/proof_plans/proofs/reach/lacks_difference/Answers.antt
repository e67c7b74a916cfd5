use Rattle.std.proofs.Common.{◌∙◌, ℕ, List, slice_get, ap, sym, subst}
use Rattle.std.specs.Option.{option_copied}
use Rattle.logic_core.specs.declared.form.Atom.{Atom}
use Rattle.proof_plans.specs.declared.draft.GoalOf.TheVariants as goal_of
use Rattle.proof_plans.specs.declared.draft.PlanStep.{PlanStep}
use Rattle.proof_plans.specs.Idle.{IsIdle}
use Rattle.proof_plans.proofs.Parted.{on_success}
use Rattle.proof_plans.proofs.Differing.{difference_lacks}
use Rattle.proof_plans.proofs.reach.lacks_difference.Goals as goal

pub returns : goal.returns
returns c = on_success c.is_idle.result c.is_idle.ensures (λ idle.
    difference_lacks c.args.row.now c.args.scene.now c.args.draft.now c.args.goal c.in-Premises-Some.user c.in-Some.step c.in-Some-place_at.form.now
    c.in-Some-place_at-2.premise.now c.in-Some-only_list.facts.now
    (c.in-Premises-Some.is-0 ∙ (λ i. goal_of.Premises (sym c.if-step-form.false i) (sym c.if-step-base.false i)))
    (ap (λ (steps : List PlanStep). slice_get steps c.in-Premises-Some.user) (sym c.steps.ensures) ∙ sym c.item_at.ensures ∙ c.in-Some.is)
    (ap (λ (k : ℕ). slice_get c.args.scene.now.forms.now k) c.if-step-form.false ∙ sym c.place_at.ensures ∙ ap option_copied c.in-Some-place_at.is)
    (ap (λ (atoms : List Atom). slice_get atoms c.args.goal.number) (sym c.as_slice.ensures) ∙ sym c.place_at-2.ensures ∙ ap option_copied c.in-Some-place_at-2.is)
    c.if-may_differ.ensures.out c.in-Some-only_list.ensures
    (subst (λ (facts : List Atom). IsIdle c.in-Some-place_at.form.now facts c.in-Some-place_at-2.premise.now) c.as_slice-2.ensures idle))
