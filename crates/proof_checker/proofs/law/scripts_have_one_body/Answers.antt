use Rattle.proof_checker.proofs.Opening.{accepted_one}
use Rattle.proof_checker.proofs.law.scripts_have_one_body.Goals as goal

pub returns : goal.returns
returns c task script a b once = accepted_one task once script a b
