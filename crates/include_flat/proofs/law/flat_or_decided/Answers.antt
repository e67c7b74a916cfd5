use Rattle.include_flat.proofs.OneAnswer.{flat_or_decided}
use Rattle.include_flat.proofs.law.flat_or_decided.Goals as goal

pub returns : goal.returns
returns c = flat_or_decided
