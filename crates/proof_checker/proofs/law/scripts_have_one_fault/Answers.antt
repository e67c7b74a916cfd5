use Rattle.proof_checker.proofs.Started.{fault_one}
use Rattle.proof_checker.proofs.law.scripts_have_one_fault.Goals as goal

pub returns : goal.returns
returns c task script a b once = fault_one task once script a b
