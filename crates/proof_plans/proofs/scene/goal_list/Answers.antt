use Rattle.std.proofs.Common.{◌≡◌, ◌∙◌, ℕ, List, Bor, Option, slice_get, Some, IfSome, sym, ap, subst}
use Rattle.logic_core.specs.declared.form.Form.{Form}
use Rattle.logic_core.specs.declared.form.Atom.{Atom}
use Rattle.vernacular_tree.specs.Contexts.{Task}
use Rattle.proof_plans.specs.declared.draft.GoalOf as GoalOf
use Rattle.proof_plans.specs.declared.draft.GoalOf.TheVariants as goal_of
use Rattle.proof_plans.specs.Scenes.{IsAnswerForm, IsGoalList}
use Rattle.proof_plans.proofs.Hoped.{both_get}
use Rattle.proof_plans.proofs.scene.goal_list.Goals as goal

-- the atoms of a disjunct
by_disjunct : (task : Task) (of : GoalOf.GoalOf) (number base : ℕ) → of ≡ goal_of.Disjunct number base → (result : Option (Bor (List Atom)))
    → ((atoms : List Atom) → slice_get task.goal.disjuncts number ≡ Some atoms → IfSome result (λ read. (form : Form) × IsAnswerForm task form atoms × (read.now ≡ form.premises)))
    → IsGoalList task of result
by_disjunct task of number base is result told = subst (λ (o : GoalOf.GoalOf). IsGoalList task o result) (sym is) told

pub returns-in_ok-place_at-in-Disjunct : goal.returns-in_ok-place_at-in-Disjunct
returns-in_ok-place_at-in-Disjunct c = λ task lent scene.
    by_disjunct task c.args.of c.in-Disjunct.number c.in-Disjunct.base c.in-Disjunct.is _
    (λ atoms is.
    let found = both_get (IsAnswerForm task) c.args.scene.now.answers.now task.goal.disjuncts scene.answers_are c.in-Disjunct.number atoms is in
    let told : Some c.in_ok-place_at-in-Disjunct.field-0.now ≡ Some found.0 = c.in_ok-place_at-in-Disjunct.ensures ∙ found.1 in
    let same : c.in_ok-place_at-in-Disjunct.field-0.now ≡ found.0 = cc in
    (found.0, found.2, ap (λ (f : Form). f.premises) same))
