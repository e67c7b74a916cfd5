use Rattle.std.proofs.Common.{◌≡◌, not, false, sym, ap, ◌∙◌}
use Rattle.isar_text.proofs.NamesRead.{written_other, unwritten_pairs, prefix_alone}
use Rattle.isar_text.proofs.name.is_written_in_digits.Goals as goal
use Rattle.isar_text.proofs.name.is_written_in_digits.Goals.{then-not-is_empty, else-not-is_empty}

pub returns-then-are_pairs : goal.returns-then-are_pairs
returns-then-are_pairs c = elim c.if-not-is_empty.branch [
  | then-not-is_empty w ↦
      ap not c.spells_plain.ensures ∙ written_other c.args.text.now (sym c.is_empty.ensures ∙ w.if-not-is_empty.true)
      (sym w.are_pairs.ensures ∙ (sym w.value-is ∙ c.if-are_pairs.true))
  | else-not-is_empty w ↦
      let none : c.if-not-is_empty.value ≡ false = w.value-is ∙ ap not w.if-not-is_empty.false in
      let some = c.if-are_pairs.true in absurd (cc)
]

pub returns-else-are_pairs : goal.returns-else-are_pairs
returns-else-are_pairs c = elim c.if-not-is_empty.branch [
  | then-not-is_empty w ↦
      c.if-are_pairs.false ∙ unwritten_pairs c.args.text.now (sym w.are_pairs.ensures ∙ (sym w.value-is ∙ c.if-are_pairs.false))
  | else-not-is_empty w ↦ c.if-are_pairs.false ∙ prefix_alone c.args.text.now (sym c.is_empty.ensures ∙ w.if-not-is_empty.false)
]
