use Rattle.include_flat.proofs.OneAnswer.{one_refusal}
use Rattle.include_flat.proofs.law.one_deciding_refusal.Goals as goal

pub returns : goal.returns
returns c = one_refusal
