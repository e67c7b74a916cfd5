use Rattle.proof_text.proofs.ScriptOrRefusal.{refusals_same as told}
use Rattle.proof_text.proofs.law.refusals_are_one.Goals as goal

pub returns : goal.returns
returns c = told
