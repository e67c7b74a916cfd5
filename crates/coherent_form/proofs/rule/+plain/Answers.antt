use Rattle.std.proofs.Common.{sym, ◌∙◌}
use Rattle.coherent_form.proofs.Opened.{one_not_plain, more_plain}
use Rattle.coherent_form.proofs.rule.+plain.Goals as goal

pub are_plain-returns-then-not-is_plain : goal.are_plain-returns-then-not-is_plain
are_plain-returns-then-not-is_plain t c =
    sym (one_not_plain c.args.members.now c.loop-member.member-index c.member-item.result c.loop-member-test.true c.member-item.is
    (sym c.is_plain.ensures ∙ c.if-not-is_plain.true))

pub are_plain-loop-member-preserved : goal.are_plain-loop-member-preserved
are_plain-loop-member-preserved t c =
    more_plain c.args.members.now c.loop-member.member-index c.member-item.result c.loop-member-test.true c.member-item.is c.loop-member.invariant
    (sym c.is_plain.ensures ∙ c.if-not-is_plain.false)
