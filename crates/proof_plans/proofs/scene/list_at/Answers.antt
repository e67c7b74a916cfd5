use Rattle.std.proofs.Common.{◌≡◌, ◌∙◌, List, slice_get, Some, ap, subst}
use Rattle.vernacular_tree.specs.declared.context.Line.{Line}
use Rattle.vernacular_tree.specs.declared.context.Line.TheVariants.{Cases}
use Rattle.proof_plans.specs.declared.draft.ListOf as ListOf
use Rattle.proof_plans.specs.Drafts.{AreListed}
use Rattle.proof_plans.proofs.scene.list_at.Goals as goal

pub returns-in_ok-place_at-in-Case : goal.returns-in_ok-place_at-in-Case
returns-in_ok-place_at-in-Case c = λ task lent atoms variables scene listed.
    let l = subst (λ (of : ListOf.ListOf). AreListed task lent of atoms variables) c.in-Case.is listed in
    let told : Some c.in_ok-place_at-in-Case.field-0.now ≡ Some (Cases l.0)
    = c.in_ok-place_at-in-Case.ensures ∙ ap (λ (ls : List Line). slice_get ls c.in-Case.line) scene.lines_are ∙ l.1 in
    let same : c.in_ok-place_at-in-Case.field-0.now ≡ Cases l.0 = cc in
    c.case_at.ensures l.0 atoms same l.2
