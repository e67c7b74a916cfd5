use Rattle.std.proofs.Common.{length, ◌∙◌, sym}
use Rattle.isar_text.proofs.Listed.{spans_seen}
use Rattle.isar_text.proofs.Marked.{marked_length}
use Rattle.isar_text.proofs.token_list.IsarTokensSourceToken.count.Goals as goal

pub returns : goal.returns
returns c =
    c.len.ensures ∙ (sym (spans_seen c.self.inside.task.now c.self.inside.source.now c.self.inside.spans c.args.self.now c.self.view_is) ∙
    sym (marked_length (length c.args.self.now.task.forms) 0 c.args.self.now.tokens))
