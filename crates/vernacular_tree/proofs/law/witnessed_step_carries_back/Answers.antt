use Rattle.vernacular_tree.proofs.Kept.{witnessed_carries}
use Rattle.vernacular_tree.proofs.law.witnessed_step_carries_back.Goals as goal

pub returns : goal.returns
returns c constants task context form args witnessed right is formed inst = witnessed_carries constants task right context is form args formed inst witnessed
