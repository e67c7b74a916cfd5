use Rattle.std.proofs.Common.{◌∙◌, ◌++◌}
use Rattle.vernacular_tree.specs.Contexts.{counted}
use Rattle.proof_plans.proofs.Walked.{some_told}
use Rattle.proof_plans.proofs.landmarks.holds_at.Goals as goal

pub returns-clause-holds : goal.returns-clause-holds
returns-clause-holds c =
    some_told c.args.set.now c.as_slice.result.now (c.args.values.now.items ++ counted c.args.fresh c.args.form.now.existentials) c.as_slice-2.result.now c.args.form.now.disjuncts
    (c.as_slice.ensures.value ∙ c.if-not-count_if_room.ensures) c.as_slice-2.ensures c.if-not-is_one_told.ensures
