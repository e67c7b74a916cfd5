use Rattle.isar_text.proofs.IsarOrRefusal.{isar_not_refused as told}
use Rattle.isar_text.proofs.law.never_isar_script_and_refusal.Goals as goal

pub returns : goal.returns
returns c = told
