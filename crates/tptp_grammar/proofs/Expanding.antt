-- A part whose alternative was pushed has done its step.
use Rattle.std.proofs.Common.{◌≡◌, List, Some, Result, Ok, Err, IfOk}
use Rattle.text_core.specs.declared.memory.Memory.{Memory}
use Rattle.token_grammar.specs.Plan.{predicted}
use Rattle.token_grammar.specs.Step.{IsExpand}
use Rattle.token_grammar.specs.declared.part.Step.{Step}
use Rattle.token_grammar.specs.declared.part.Step.TheVariants.{Take, Expand, Refuse}
use Rattle.tptp_grammar.specs.declared.mark.Mark.{Mark}
use Rattle.tptp_grammar.specs.declared.item_part.ItemPart.{ItemPart}
use Rattle.tptp_grammar.specs.Stepping.{DoesStep}
use Rattle.tptp_grammar.specs.Parts.{fof_items}
use Rattle.tptp_grammar.specs.Plan.{items_plan}

-- a part that pushed the row that its token asks for has done its step
pub expanded : (part : ItemPart) (token seen : Mark) (row old new : List ItemPart) (result : Result Step Memory) →
    token ≡ seen → predicted fof_items items_plan part seen ≡ Some row → IfOk result (λ step. IsExpand step row old new) →
    DoesStep part token old new result
expanded part token seen row old new (Ok Expand) is chosen pushed = rw (is, chosen) pushed
expanded part token seen row old new (Ok Take) is chosen pushed = absurd pushed
expanded part token seen row old new (Ok Refuse) is chosen pushed = absurd pushed
expanded part token seen row old new (Err memory) is chosen pushed = tt
