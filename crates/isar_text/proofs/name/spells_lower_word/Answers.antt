use Rattle.std.proofs.Common.{sym, ◌∙◌}
use Rattle.isar_text.proofs.NamesRead.{lower_spelled}
use Rattle.isar_text.proofs.name.spells_lower_word.Goals as goal

pub returns-then-is_lower : goal.returns-then-is_lower
returns-then-is_lower c =
    c.are_pairs.ensures ∙ lower_spelled c.args.text.now c.byte_of.result c.in-len2-up.len_at_least c.requires c.byte_of.ensures (sym c.is_lower.ensures ∙ c.if-is_lower.true)
