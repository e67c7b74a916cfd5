use Rattle.vernacular_tree.proofs.Carrying.{proof_carries}
use Rattle.vernacular_tree.proofs.law.proof_carries_over.Goals as goal

pub returns : goal.returns
returns c constants task elements from to body right carries proves = proof_carries constants task right elements from to body carries proves
