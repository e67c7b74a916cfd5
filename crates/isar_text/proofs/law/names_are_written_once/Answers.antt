use Rattle.std.proofs.Common.{sym, ap, ◌∙◌}
use Rattle.isar_text.specs.Names.{decoded}
use Rattle.isar_text.proofs.NamesRead.{name_decoded}
use Rattle.isar_text.proofs.law.names_are_written_once.Goals as goal

pub returns : goal.returns
returns c a b first second same = sym (name_decoded a first) ∙ (ap decoded same ∙ name_decoded b second)
