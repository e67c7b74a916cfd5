use Rattle.std.proofs.Common.{◌≡◌, ℕ, List, drop, arith, sym, ap, ◌∙◌, subst}
use Rattle.proof_plans.specs.Drafts.{IsBranch}
use Rattle.proof_plans.specs.Runs.{Case}
use Rattle.proof_plans.proofs.Climbs.{reached_more}
use Rattle.proof_plans.proofs.word.lifted.Goals as goal

pub loop-done-preserved : goal.loop-done-preserved
loop-done-preserved c = λ task lent branch is.
    reached_more task lent c.args.nodes.now c.args.node branch c.loop-done.done c.loop-done.at c.in_ok-at.field-0 c.if-at-eq0.false (sym c.item_at.ensures ∙ c.in_ok-at.was)
    (c.loop-done.invariant task lent branch is)

pub returns : goal.returns
returns c = λ task lent branch is.
    let up = c.loop-done.invariant task lent branch is in
    let all : c.loop-done.done ≡ c.args.count = omega (arith, c.loop-done.auto.done-end, c.loop-done-test.false) in
    subst (λ (b : List Case). IsBranch task lent c.args.nodes.now c.loop-done.at b) (up.dropped ∙ ap (λ (n : ℕ). drop n branch) all) up.upper_is
