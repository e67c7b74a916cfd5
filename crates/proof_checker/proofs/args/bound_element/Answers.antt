use Rattle.std.proofs.Common.{◌≡◌}
use Rattle.coherent_form.specs.declared.label.Label.{Label}
use Rattle.proof_text.specs.declared.body.Binding.{Binding}
use Rattle.proof_checker.proofs.Compared.{failed}
use Rattle.proof_checker.proofs.Instances.{bound_some, bound_none}
use Rattle.proof_checker.proofs.Searched.{none_next}
use Rattle.proof_checker.proofs.args.bound_element.Goals as goal

pub returns-then-is_same_label-clause-some : goal.returns-then-is_same_label-clause-some
returns-then-is_same_label-clause-some c = bound_some c.args.trail.now.names c.args.label.now c.args.binds.now c.loop-bind.bind-index c.bind-item.result
    c.element.result c.loop-bind-test.true c.bind-item.is (c.is_same_label.ensures.0 c.if-is_same_label.true) c.element.ensures

pub returns-then-is_same_label-clause-none : goal.returns-then-is_same_label-clause-none
returns-then-is_same_label-clause-none c = bound_none c.args.trail.now.names c.args.label.now c.args.binds.now c.loop-bind.bind-index c.bind-item.result
    c.element.result c.loop-bind-test.true c.bind-item.is c.element.ensures

pub loop-bind-preserved : goal.loop-bind-preserved
loop-bind-preserved c = none_next (λ (l : Label). l ≡ c.args.label.now) (λ (b : Binding). b.label) c.args.binds.now c.loop-bind.bind-index c.bind-item.result
    c.loop-bind-test.true c.bind-item.is c.loop-bind.invariant (failed c.is_same_label.result _ c.is_same_label.ensures c.if-is_same_label.false)
