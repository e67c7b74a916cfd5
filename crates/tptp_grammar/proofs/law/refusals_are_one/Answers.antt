use Rattle.tptp_grammar.proofs.Laws.{fault_same}
use Rattle.tptp_grammar.proofs.law.refusals_are_one.Goals as goal

pub returns : goal.returns
returns c = fault_same
