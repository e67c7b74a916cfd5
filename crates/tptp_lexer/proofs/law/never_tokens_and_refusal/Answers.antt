use Rattle.tptp_lexer.proofs.Exact.{never_both}
use Rattle.tptp_lexer.proofs.law.never_tokens_and_refusal.Goals as goal

pub returns : goal.returns
returns c = never_both
