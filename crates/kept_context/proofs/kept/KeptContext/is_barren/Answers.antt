use Rattle.std.proofs.Common.{ap, sym, ◌∙◌}
use Rattle.kept_context.specs.Kept.{Kept}
use Rattle.kept_context.proofs.Lists.{single_item}
use Rattle.kept_context.proofs.Standing.{barren_told}
use Rattle.kept_context.proofs.kept.KeptContext.is_barren.Goals as goal

pub returns-in-len1 : goal.returns-in-len1
returns-in-len1 c task lent context is =
    let one = single_item c.as_slice.result.now c.atoms-item.result c.in-len1.len_at_least c.in-len1.len_below c.atoms-item.is in
    barren_told task lent c.args.self.now context is c.args.form.now c.args.args.now c.atoms-item.result c.are_standing.result c.if-form-eq0.true
    (sym c.as_slice.ensures ∙ one) (rw (c.as_slice-in-len1.ensures, ap (λ (k : Kept). k.store.facts) c.self.view_is) at c.are_standing.ensures)
