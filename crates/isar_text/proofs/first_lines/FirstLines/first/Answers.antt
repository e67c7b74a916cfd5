use Rattle.std.proofs.Common.{ap, ◌∙◌}
use Rattle.isar_text.specs.Firsts.{Firsts}
use Rattle.isar_text.proofs.FirstFacts.{first_read}
use Rattle.isar_text.proofs.first_lines.FirstLines.first.Goals as goal

pub returns : goal.returns
returns c lines first =
    first_read lines c.args.self.now first c.args.elements.now c.args.atom.now c.signed_number.result c.as_slice.result.now c.self.inside.facts.facts
    c.number-number.result c.signed_number.ensures (c.as_slice.ensures ∙ c.in_ok-args.ensures) (ap (λ (f : Firsts). f.facts) c.self.view_is)
    c.number-number.ensures c.line_of.result c.line_of.ensures
