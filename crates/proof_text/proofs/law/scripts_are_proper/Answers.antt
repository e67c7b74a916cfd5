use Rattle.proof_text.proofs.ScriptOrRefusal.{script_is_proper as told}
use Rattle.proof_text.proofs.law.scripts_are_proper.Goals as goal

pub returns : goal.returns
returns c = told
