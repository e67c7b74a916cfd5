use Rattle.std.proofs.Common.{ap, ◌∙◌}
use Rattle.kept_context.specs.Kept.{Kept}
use Rattle.kept_context.proofs.Noting.{lines_small}
use Rattle.kept_context.proofs.kept.KeptContext.enter.Goals as goal

pub note_lines-requires-clause-small : goal.note_lines-requires-clause-small
note_lines-requires-clause-small c =
    rw c.as_slice.ensures (lines_small c.args.task.now.tables c.args.lent.now.elements c.self.inside.store.signed c.args.lent.now.lines
    (ap (λ (k : Kept). k.store.signed) c.self.view_is ∙ c.requires.spare.1.signed) c.requires.lent.lines)
