use Rattle.std.proofs.Common.{subst, sym, length, ◌<◌}
use Rattle.model_text.specs.Words.{names_in}
use Rattle.model_text.proofs.Marked.{word_below}
use Rattle.model_text.proofs.builder.name_at.Goals as goal

pub name-requires : goal.name-requires
name-requires c =
    subst (λ n. n < length (names_in c.args.tokens.now)) (sym c.word.ensures)
    (word_below c.args.tokens.now c.args.number c.args.token c.requires.at c.requires.word)
