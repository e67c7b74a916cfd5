use Rattle.std.proofs.Common.{◌≡◌, refl}
use Rattle.coherent_form.specs.declared.label.Label.{Label}
use Rattle.proof_text.specs.declared.body.Binding.{Binding}
use Rattle.proof_checker.proofs.Compared.{failed, decides_no}
use Rattle.proof_checker.proofs.Searched.{found_here, none_next, none_all}
use Rattle.proof_checker.proofs.labels.is_bound.Goals as goal

pub returns-then-is_same_label : goal.returns-then-is_same_label
returns-then-is_same_label c = (
  (λ e. found_here (λ (l : Label). l ≡ c.args.label.now) (λ (b : Binding). b.label) c.args.binds.now c.loop-bind.bind-index c.bind-item.result
      c.loop-bind-test.true c.bind-item.is (c.is_same_label.ensures.0 c.if-is_same_label.true)),
  (λ h. refl),
)

pub loop-bind-preserved : goal.loop-bind-preserved
loop-bind-preserved c = none_next (λ (l : Label). l ≡ c.args.label.now) (λ (b : Binding). b.label) c.args.binds.now c.loop-bind.bind-index c.bind-item.result
    c.loop-bind-test.true c.bind-item.is c.loop-bind.invariant (failed c.is_same_label.result _ c.is_same_label.ensures c.if-is_same_label.false)

pub returns : goal.returns
returns c = decides_no _ (none_all (λ (l : Label). l ≡ c.args.label.now) (λ (b : Binding). b.label) c.args.binds.now c.loop-bind.bind-index
    c.loop-bind-test.false c.loop-bind.invariant)
