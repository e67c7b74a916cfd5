use Rattle.std.specs.List.{AllByRecursion}
use Rattle.std.proofs.Common.{subst, sym}
use Rattle.text_core.proofs.Laws.{take_all}
use Rattle.logic_core.specs.Forms.{FormTrue}
use Rattle.model_search.specs.Candidates.{world}
use Rattle.model_search.proofs.Sheets.{item_at}
use Rattle.model_search.proofs.Ruling.{rules_next}
use Rattle.model_search.proofs.find.rules_of_goal.Goals as goal

pub loop-form-preserved : goal.loop-form-preserved
loop-form-preserved c = λ candidate.
    let forms = c.args.goal.now in
    let i = c.loop-form.form-index in
    rules_next candidate forms i c.form-item.result c.loop-form.rules.items c.push.new.self.items c.in_ok-new.field-0
    (item_at forms i c.form-item.result c.loop-form-test.true c.form-item.is)
    c.in_ok-new.ensures c.in_ok-push.ensures.items (c.loop-form.invariant candidate)

pub returns : goal.returns
returns c = λ candidate all.
    c.loop-form.invariant candidate
    (subst (AllByRecursion (FormTrue (world candidate))) (sym (take_all c.args.goal.now c.loop-form.form-index c.loop-form-test.false)) all)
