use Rattle.tptp_lexer.proofs.Exact.{some_answer}
use Rattle.tptp_lexer.proofs.law.tokens_or_refusal.Goals as goal

pub returns : goal.returns
returns c = some_answer
