use Rattle.isar_text.proofs.IsarOrRefusal.{isar_same as told}
use Rattle.isar_text.proofs.law.isar_scripts_are_one.Goals as goal

pub returns : goal.returns
returns c = told
