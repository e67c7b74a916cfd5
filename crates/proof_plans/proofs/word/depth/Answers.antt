use Rattle.std.proofs.Common.{ℕ, sym, ◌∙◌, arith, subst}
use Rattle.proof_plans.specs.Drafts.{IsBranch}
use Rattle.proof_plans.proofs.Climbs.{root_long, reached_more}
use Rattle.proof_plans.proofs.word.depth.Goals as goal

pub returns-then-at-eq0 : goal.returns-then-at-eq0
returns-then-at-eq0 c = λ task lent branch is.
    let up = c.loop-done.invariant task lent branch is in
    let one = root_long task lent c.args.nodes.now up.upper (subst (λ (n : ℕ). IsBranch task lent c.args.nodes.now n up.upper) c.if-at-eq0.true up.upper_is) in
    let all = up.counted in omega arith

pub loop-done-preserved : goal.loop-done-preserved
loop-done-preserved c = λ task lent branch is.
    reached_more task lent c.args.nodes.now c.args.node branch c.loop-done.done c.loop-done.at c.in_ok-at.field-0 c.if-at-eq0.false (sym c.item_at.ensures ∙ c.in_ok-at.was)
    (c.loop-done.invariant task lent branch is)
