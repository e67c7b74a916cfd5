use Rattle.tptp_lexer.proofs.Exact.{one_fault}
use Rattle.tptp_lexer.proofs.law.one_first_refusal.Goals as goal

pub returns : goal.returns
returns c = one_fault
