use Rattle.std.proofs.Common.{◌∙◌, sym}
use Rattle.proof_text.proofs.Marked.{marked_length}
use Rattle.proof_text.proofs.store.TokensSourceToken.count.Goals as goal

pub returns : goal.returns
returns c = c.len.ensures ∙ sym (marked_length 0 c.args.self.now.tokens)
