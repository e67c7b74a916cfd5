use Rattle.larus_cli.proofs.OneOutcome.{one_outcome}
use Rattle.larus_cli.proofs.law.one_outcome.Goals as goal

pub returns : goal.returns
returns c = one_outcome
