use Rattle.std.proofs.Common.{◌++◌, [], ◌∷◌, ap, sym, subst, ◌∙◌, arith}
use Rattle.text_core.specs.NameTexts.{IsNameText}
use Rattle.coherent_form.proofs.Printed.{numbered_name}
use Rattle.coherent_form.proofs.variable_label.built_in_label.Goals as goal

pub from_bytes-requires : goal.from_bytes-requires
from_bytes-requires c =
    let letter = c.in_ok-push.ensures.ok ∙ ap (λ bytes. bytes ++ 86 ∷ []) c.new-bytes.ensures in
    let text = c.as_slice.ensures ∙ c.in_ok-extend_from_slice.ensures.ok ∙ (λ i. letter i ++ (c.as_bytes.ensures.value ∙ c.in_ok-digits.ensures.ok) i) in
    subst IsNameText (sym text) (numbered_name (86 ∷ []) c.args.variable (omega arith, omega arith, tt) (omega arith))
