use Rattle.std.proofs.Common.{◌≡◌, ◌+◌, ◌-◌, drop, length, arith}
use Rattle.proof_plans.proofs.Climbs.{end_is_rest}
use Rattle.proof_plans.proofs.word.leads_to.Goals as goal

pub returns : goal.returns
returns c = λ told task lent one other is also end.
    let long : length one ≡ c.in_ok-above.above = c.in_ok-above.ensures task lent one is in
    let below : length other ≡ c.in_ok-below.below = c.in_ok-below.ensures task lent other also in
    let count : length other ≡ (c.in_ok-below.below - c.in_ok-above.above) + length one = omega (arith, c.if-above-below.false) in
    c.have_one_word.ensures told task lent one (drop (c.in_ok-below.below - c.in_ok-above.above) other) is (c.in_ok-lifted.ensures task lent other also)
    (end_is_rest one other (c.in_ok-below.below - c.in_ok-above.above) count end)
