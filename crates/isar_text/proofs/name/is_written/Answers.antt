use Rattle.std.proofs.Common.{sym, ◌∙◌, ap}
use Rattle.isar_text.specs.Names.{is_written}
use Rattle.isar_text.proofs.NamesRead.{prefixed_whole, written_bare}
use Rattle.isar_text.proofs.name.is_written.Goals as goal

pub returns-then-has_prefix : goal.returns-then-has_prefix
returns-then-has_prefix c =
    c.is_written_in_digits.ensures ∙ ap is_written (prefixed_whole c.args.word.now (sym c.has_prefix.ensures.value ∙ c.if-has_prefix.true))

pub returns-else-has_prefix : goal.returns-else-has_prefix
returns-else-has_prefix c = c.is_plain.ensures ∙ written_bare c.args.word.now (sym c.has_prefix.ensures.value ∙ c.if-has_prefix.false)
