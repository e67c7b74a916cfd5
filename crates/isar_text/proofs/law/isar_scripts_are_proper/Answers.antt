use Rattle.isar_text.proofs.IsarOrRefusal.{isar_is_proper as told}
use Rattle.isar_text.proofs.law.isar_scripts_are_proper.Goals as goal

pub returns : goal.returns
returns c = told
