use Rattle.std.proofs.Common.{true}
use Rattle.proof_checker.proofs.OneFault.{first_one, opens_none}
use Rattle.proof_checker.proofs.OneList.{opens_one}
use Rattle.proof_checker.proofs.law.nodes_or_one_open_fault.Goals as goal

pub returns-clause-nodes : goal.returns-clause-nodes
returns-clause-nodes c task script a b once = opens_one task once true script a b

pub returns-clause-fault : goal.returns-clause-fault
returns-clause-fault c task script a b once = first_one task once true script a b

pub returns-clause-never_both : goal.returns-clause-never_both
returns-clause-never_both c task script nodes refusal once = opens_none task once true script nodes refusal
