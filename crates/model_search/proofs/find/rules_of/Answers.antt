use Rattle.std.specs.Prelude.{◌≡◌, slice_get, Some}
use Rattle.std.proofs.Common.{subst, ◌∙◌}
use Rattle.model_search.proofs.Sheets.{item_at}
use Rattle.model_search.proofs.find.rules_of.Goals as goal

pub loop-number-init : goal.loop-number-init
loop-number-init c = λ candidate given. c.in_ok-rules.ensures candidate

pub add_given-requires : goal.add_given-requires
add_given-requires c =
    let forms = c.as_slice-form-items.result.now in
    let n = c.loop-number.number in
    let form = c.form-item.result in
    subst (λ list. slice_get list n ≡ Some form) (c.as_slice-form-items.ensures ∙ c.forms.ensures.value) (item_at forms n form c.loop-number-test.true c.form-item.is)
