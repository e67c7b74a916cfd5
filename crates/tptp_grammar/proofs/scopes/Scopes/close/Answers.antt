use Rattle.std.proofs.Common.{◌∙◌, ap}
use Rattle.tptp_grammar.specs.Limits.{open_at}
use Rattle.tptp_grammar.proofs.Closing.{closing_removed, closing_kept, closed_at_end, closed_in_order}
use Rattle.tptp_grammar.proofs.scopes.Scopes.close.Goals as goal

pub loop-number-preserved-then-get-level : goal.loop-number-preserved-then-get-level
loop-number-preserved-then-get-level c =
    rw c.remove.ensures
    (closing_removed c.args.level c.self.inside.bindings c.loop-number.self-inside.bindings c.loop-number.number
    c.loop-number.self-inside.in_order c.get.result c.loop-number.invariant c.loop-number-test.true c.get.ensures c.if-get-level.true)

pub loop-number-preserved : goal.loop-number-preserved
loop-number-preserved c =
    closing_kept c.args.level c.self.inside.bindings c.loop-number.self-inside.bindings c.loop-number.number
    c.loop-number.self-inside.in_order c.get.result c.loop-number.invariant c.loop-number-test.true c.get.ensures c.if-get-level.false

pub returns-after-loop-number : goal.returns-after-loop-number
returns-after-loop-number c =
    closed_at_end c.args.level c.self.inside.bindings c.loop-number.self-inside.bindings c.loop-number.number
    c.loop-number.self-inside.in_order c.loop-number.invariant c.loop-number-test.false
    ∙ ap (open_at c.args.level) c.self.view_is

pub returns-then-self : goal.returns-then-self
returns-then-self c =
    closed_in_order c.args.level c.self.inside.bindings c.loop-number.self-inside.bindings c.loop-number.number
    c.loop-number.self-inside.in_order c.get.result c.loop-number.invariant c.loop-number-test.true c.get.ensures c.if-get-level.false
    c.if-self.true
    ∙ ap (open_at c.args.level) c.self.view_is
