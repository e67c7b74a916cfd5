-- How the grammar of items is read: the rows that tokens ask for are computed from the rows, up to
-- five rows deep, one inside the other. That one token is enough is `PartsLaw`.
use Rattle.token_grammar.specs.Computed.{computed_plan}
use Rattle.token_grammar.specs.Plan.{Plan}
use Rattle.tptp_grammar.specs.declared.item_part.ItemPart.{ItemPart}
use Rattle.tptp_grammar.specs.declared.mark.Mark.{Mark}
use Rattle.tptp_grammar.specs.Parts.{fof_items}

-- the plan
abbrev pub items_plan : Plan ItemPart Mark
items_plan = computed_plan fof_items 5
