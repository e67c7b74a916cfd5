use Rattle.include_flat.proofs.OneAnswer.{one_list}
use Rattle.include_flat.proofs.law.one_flat_problem.Goals as goal

pub returns : goal.returns
returns c = λ held name a b first second. one_list held name b a second first
