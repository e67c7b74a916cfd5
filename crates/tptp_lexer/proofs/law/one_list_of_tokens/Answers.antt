use Rattle.tptp_lexer.proofs.Exact.{one_list}
use Rattle.tptp_lexer.proofs.law.one_list_of_tokens.Goals as goal

pub returns : goal.returns
returns c = one_list
