use Rattle.std.proofs.Common.{◌≡◌, subst}
use Rattle.std.specs.Result.{IfOk}
use Rattle.vernacular_tree.specs.declared.context.Line as Line
use Rattle.proof_text.specs.Printing.{printed_line}
use Rattle.english_text.proofs.EndsRead.{line_read}
use Rattle.english_text.proofs.ends.split_line.Goals as goal

pub returns : goal.returns
returns c =
    subst (λ (l : Line.Line). IfOk c.named_line.result (λ shown. shown ≡ printed_line c.args.task.now l))
    (line_read c.as_slice.result.now c.args.context.now.lines c.args.line c.requires.there.0 c.index-as_slice-line.result c.requires.there.1
    c.as_slice.ensures c.index-as_slice-line.is)
    c.named_line.ensures
