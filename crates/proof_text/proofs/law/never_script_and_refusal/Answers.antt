use Rattle.proof_text.proofs.ScriptOrRefusal.{script_not_refused as told}
use Rattle.proof_text.proofs.law.never_script_and_refusal.Goals as goal

pub returns : goal.returns
returns c = told
