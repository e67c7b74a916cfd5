use Rattle.std.proofs.Common.{refl}
use Rattle.tptp_lexer.specs.declared.kind.Kind.TheVariants.{Comma}
use Rattle.tptp_grammar.specs.declared.mark.Mark.TheVariants.{Other}
use Rattle.tptp_grammar.specs.declared.item_part.ItemPart.TheVariants.{IncludeTail}
use Rattle.tptp_grammar.proofs.Expanding.{expanded}
use Rattle.tptp_grammar.proofs.item_steps.include_tail.Goals as goal

pub returns-in-Other-Comma : goal.returns-in-Other-Comma
returns-in-Other-Comma c =
    let comma = rw c.in-Other-Comma.is at c.in-Other-Comma.field-0-is in
    expanded IncludeTail c.args.token (Other Comma) _ _ _ c.expand-in-Other-Comma.result (rw (c.in-Other-Comma.is, comma) refl) refl
    c.expand-in-Other-Comma.ensures
