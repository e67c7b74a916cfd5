use Rattle.include_flat.proofs.OneAnswer.{never_both}
use Rattle.include_flat.proofs.law.never_flat_and_refused.Goals as goal

pub returns : goal.returns
returns c = never_both
