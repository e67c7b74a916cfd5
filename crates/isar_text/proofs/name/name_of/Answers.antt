use Rattle.std.proofs.Common.{sym, ◌∙◌, subst}
use Rattle.text_core.specs.NameTexts.{IsNameText}
use Rattle.isar_text.proofs.NamesRead.{digits_pairs, digits_named, bare_named}
use Rattle.isar_text.proofs.name.name_of.Goals as goal

pub unhexed-requires : goal.unhexed-requires
unhexed-requires c = digits_pairs c.args.word.now (sym c.has_prefix.ensures.value ∙ c.if-has_prefix.true) c.requires

pub from_bytes-requires : goal.from_bytes-requires
from_bytes-requires c =
    subst IsNameText (sym (c.as_slice.ensures ∙ c.in_ok-bytes.ensures))
    (digits_named c.args.word.now (sym c.has_prefix.ensures.value ∙ c.if-has_prefix.true) c.requires)

pub from_bytes-requires-else-has_prefix : goal.from_bytes-requires-else-has_prefix
from_bytes-requires-else-has_prefix c = bare_named c.args.word.now (sym c.has_prefix.ensures.value ∙ c.if-has_prefix.false) c.requires
