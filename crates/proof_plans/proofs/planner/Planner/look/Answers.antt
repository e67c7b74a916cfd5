use Rattle.std.proofs.Common.{ap, sym, subst, ◌∙◌}
use Rattle.proof_plans.specs.Drafts.{Drafted, first_draft}
use Rattle.proof_plans.specs.Hopes.{IsHopeless}
use Rattle.proof_plans.specs.Landmarks.{AreLandmarks}
use Rattle.proof_plans.proofs.Searched.{first_hopeless}
use Rattle.proof_plans.proofs.planner.Planner.look.Goals as goal

pub returns-then-self : goal.returns-then-self
returns-then-self c = λ constants task lent right ok is same body proves small.
    first_hopeless constants task right lent ok c.args.within c.run.new.work.cut
    (subst (λ (d : Drafted). IsHopeless task lent c.args.within c.run.new.work.cut d) (c.if-not-begin.ensures ∙ ap first_draft (sym same)) (c.if-run.ensures.hopeless task lent is
    (subst (AreLandmarks task lent) (sym c.as_slice.ensures.value) (c.if-not-find_landmarks.ensures constants task lent right ok is same))))
    body proves (λ cut. small)

pub returns-else-self : goal.returns-else-self
returns-else-self c = λ constants task lent right ok is same body proves.
    first_hopeless constants task right lent ok c.args.within c.run.new.work.cut
    (subst (λ (d : Drafted). IsHopeless task lent c.args.within c.run.new.work.cut d) (c.if-not-begin.ensures ∙ ap first_draft (sym same)) (c.if-run.ensures.hopeless task lent is
    (subst (AreLandmarks task lent) (sym c.as_slice.ensures.value) (c.if-not-find_landmarks.ensures constants task lent right ok is same))))
    body proves (λ cut. absurd (let no = c.if-self.false in cc))
