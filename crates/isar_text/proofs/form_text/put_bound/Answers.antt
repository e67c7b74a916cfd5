use Rattle.std.proofs.Common.{◌+◌, ◌++◌, ◌∙◌, ap, codes, append_assoc}
use Rattle.std.specs.Fmt.{decimal}
use Rattle.text_core.specs.Names.{Text}
use Rattle.vernacular_tree.specs.Contexts.{counted}
use Rattle.isar_text.specs.Formulas.{bound_text}
use Rattle.isar_text.proofs.HeadWritten.{next_bound}
use Rattle.isar_text.proofs.form_text.put_bound.Goals as goal

pub loop-number-preserved : goal.loop-number-preserved
loop-number-preserved c =
    let n = c.loop-number.number in
    next_bound c.loop-number.out c.put_number.new.out (c.args.out.now ++ bound_text (counted c.args.first c.args.count)) n (c.args.first + c.args.count)
    c.loop-number-test.true
    (c.in_ok-put_number.ensures.text ∙ ap (λ (t : Text). t ++ decimal n) c.in_ok-extend_from_slice.ensures.ok
    ∙ append_assoc c.loop-number.out (codes " X") (decimal n))
    c.loop-number.invariant
