use Rattle.proof_text.proofs.ScriptOrRefusal.{scripts_same as told}
use Rattle.proof_text.proofs.law.scripts_are_one.Goals as goal

pub returns : goal.returns
returns c = told
