use Rattle.isar_text.proofs.IsarOrRefusal.{isar_refusals_same as told}
use Rattle.isar_text.proofs.law.isar_refusals_are_one.Goals as goal

pub returns : goal.returns
returns c = told
