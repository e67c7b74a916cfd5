use Rattle.std.proofs.Common.{sym, ◌∙◌, ap, Some}
use Rattle.model_text.specs.declared.mark.Mark.{Mark}
use Rattle.model_text.proofs.Marked.{mark_made}
use Rattle.model_text.proofs.word_tokens.WordTokensSourceMark.mark.Goals as goal

pub returns : goal.returns
returns c =
    rw (← c.self.view_is)
    (mark_made c.self.inside.tokens.now.tokens c.self.inside.names.keys c.self.inside.numbers.items c.args.number c.index.result.now
    c.kind.result c.text.result.now c.self.invariant.names_are c.self.invariant.numbers_are c.index.ensures c.kind.ensures
    c.text.ensures.value ∙ ap (λ (m : Mark). Some m) (sym c.mark_of.ensures))
