use Rattle.std.proofs.Common.{◌++◌, [], ◌∷◌, ap, sym, subst, ◌∙◌, arith}
use Rattle.text_core.specs.NameTexts.{IsNameText}
use Rattle.coherent_form.specs.ElementNames.{letters}
use Rattle.coherent_form.proofs.Printed.{letters_more, letters_printable, numbered_name}
use Rattle.coherent_form.proofs.printed_element.numbered_element.Goals as goal

pub loop-preserved : goal.loop-preserved
loop-preserved c = c.in_ok-push.ensures.ok ∙ ap (λ bytes. bytes ++ 119 ∷ []) c.loop.invariant ∙ letters_more c.loop.counter

pub from_bytes-requires : goal.from_bytes-requires
from_bytes-requires c =
    let text = c.as_slice.ensures ∙ c.in_ok-extend_from_slice.ensures.ok ∙ (λ i. c.loop.invariant i ++ (c.as_bytes.ensures.value ∙ c.in_ok-digits.ensures.ok) i) in
    subst IsNameText (sym text) (numbered_name (letters c.loop.counter) c.args.number (letters_printable c.loop.counter) (omega arith))
