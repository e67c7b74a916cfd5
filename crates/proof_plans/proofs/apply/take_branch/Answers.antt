use Rattle.std.proofs.Common.{◌∙◌, List, slice_get, ap, sym, subst}
use Rattle.proof_plans.specs.declared.draft.PlanStep.{PlanStep}
use Rattle.proof_plans.specs.Drafts.{Drafted}
use Rattle.proof_plans.specs.Hopes.{BranchBy}
use Rattle.proof_plans.specs.Splits.{IsSplitByStep}
use Rattle.proof_plans.proofs.Parted.{on_success, answered_hope, line_hope, old_hope, new_hope}
use Rattle.proof_plans.proofs.apply.take_branch.Goals as goal

pub returns-in-Answer-clause-hope : goal.returns-in-Answer-clause-hope
returns-in-Answer-clause-hope c =
    let d = c.args.draft.now in
    on_success c.answer.result c.answer.ensures (λ answered. λ task lent n scene h by.
    answered_hope task lent n c.args.node d h c.in-Answer.disjunct (subst (BranchBy task lent n d c.args.node h) c.in-Answer.is by) c.if-not-is_joined.ensures
    c.args.scene.now.answers.now scene.answers_are c.answer.new.draft answered)

pub returns-in-Line-clause-hope : goal.returns-in-Line-clause-hope
returns-in-Line-clause-hope c =
    let d = c.args.draft.now in
    on_success c.split_line.result c.split_line.ensures (λ parted. λ task lent n scene h by.
    line_hope task lent n c.args.node d h c.in-Line.line (subst (BranchBy task lent n d c.args.node h) c.in-Line.is by)
    c.args.scene.now.lines.now scene.lines_are c.split_line.new.draft parted)

pub returns-in-Some-clause-hope : goal.returns-in-Some-clause-hope
returns-in-Some-clause-hope c =
    let d = c.args.draft.now in
    on_success c.split_step.result c.split_step.ensures (λ parted. λ task lent n scene h by.
    old_hope task lent n c.args.node d h c.in-Old.step (subst (BranchBy task lent n d c.args.node h) c.in-Old.is by) c.in-Some.field-0
    (ap (λ (ss : List PlanStep). slice_get ss c.in-Old.step) (sym c.steps.ensures) ∙ sym c.in-Some.ensures)
    c.args.scene.now.forms.now scene.forms_are c.split_step.new.draft parted)

pub returns-in-Some-grow-clause-hope : goal.returns-in-Some-grow-clause-hope
returns-in-Some-grow-clause-hope c =
    let d = c.args.draft.now in
    let made = c.in-Some-grow.ensures in
    on_success c.split_step-in-Some-grow.result c.split_step-in-Some-grow.ensures (λ parted. λ task lent n scene h by.
    new_hope task lent n c.args.node d h c.in-New.form (subst (BranchBy task lent n d c.args.node h) c.in-New.is by) c.if-not-is_joined.ensures
    c.args.scene.now.forms.now scene.forms_are made.0 made.1 c.in-Some-grow.step c.in-Some-grow.base made.2 made.3 c.split_step-in-Some-grow.new.draft
    (subst (λ (old : Drafted). IsSplitByStep c.args.scene.now.forms.now c.in-Some-grow.step c.in-New.form c.in-Some-grow.base c.args.node old c.split_step-in-Some-grow.new.draft) made.4 parted))
