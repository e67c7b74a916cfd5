-- What the code of a part does at a token.
use Rattle.std.specs.Prelude.{List, Result, IfOk}
use Rattle.text_core.specs.declared.memory.Memory.{Memory}
use Rattle.token_grammar.specs.declared.part.Step.{Step}
use Rattle.token_grammar.specs.Step.{Steps}
use Rattle.tptp_grammar.specs.declared.mark.Mark.{Mark}
use Rattle.tptp_grammar.specs.declared.item_part.ItemPart.{ItemPart}
use Rattle.tptp_grammar.specs.Parts.{fof_items}
use Rattle.tptp_grammar.specs.Plan.{items_plan}

-- the part takes the token, pushes the alternative that the token asks for, or refuses; want of
-- memory may come instead
abbrev pub DoesStep : ItemPart → Mark → List ItemPart → List ItemPart → Result Step Memory → Type 0
DoesStep part token old new result =
    IfOk result (λ step. Steps fof_items items_plan part token old new step)
