use Rattle.proof_text.proofs.ScriptOrRefusal.{script_or_refusal as told}
use Rattle.proof_text.proofs.law.script_or_refusal.Goals as goal

pub returns : goal.returns
returns c = told
