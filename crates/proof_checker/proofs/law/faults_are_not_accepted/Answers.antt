use Rattle.proof_checker.proofs.Opening.{accepted_none}
use Rattle.proof_checker.proofs.law.faults_are_not_accepted.Goals as goal

pub returns : goal.returns
returns c task script body refusal once = accepted_none task once script body refusal
