use Rattle.std.proofs.Common.{sym, ◌∙◌}
use Rattle.proof_plans.proofs.Climbs.{words_above}
use Rattle.proof_plans.proofs.word.have_one_word.Goals as goal

pub returns-then-case_of : goal.returns-then-case_of
returns-then-case_of c = λ told task lent one other is also same.
    let up = c.loop-round.invariant task lent one other is also same in
    let above = words_above task lent c.args.nodes.now c.loop-round.a c.loop-round.b up.0 up.1 c.in_ok-one.one c.in_ok-other.other c.if-a-eq0.false c.if-b-eq0.false
    (sym c.item_at.ensures ∙ c.in_ok-one.was) (sym c.item_at-in-loop-round.ensures ∙ c.in_ok-other.was) up.2 up.3 up.4 in
    c.if-case_of.true (c.case_of.ensures ∙ above.0 ∙ sym c.case_of-in-loop-round.ensures)

pub loop-round-preserved : goal.loop-round-preserved
loop-round-preserved c = λ task lent one other is also same.
    let up = c.loop-round.invariant task lent one other is also same in
    (words_above task lent c.args.nodes.now c.loop-round.a c.loop-round.b up.0 up.1 c.in_ok-one.one c.in_ok-other.other c.if-a-eq0.false c.if-b-eq0.false
    (sym c.item_at.ensures ∙ c.in_ok-one.was) (sym c.item_at-in-loop-round.ensures ∙ c.in_ok-other.was) up.2 up.3 up.4).1
