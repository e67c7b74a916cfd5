use Rattle.isar_text.proofs.IsarOrRefusal.{isar_or_refusal as told}
use Rattle.isar_text.proofs.law.isar_script_or_refusal.Goals as goal

pub returns : goal.returns
returns c = told
