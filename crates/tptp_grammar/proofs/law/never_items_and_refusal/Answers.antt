use Rattle.tptp_grammar.proofs.Accepted.{text_no_fault}
use Rattle.tptp_grammar.proofs.law.never_items_and_refusal.Goals as goal

pub returns : goal.returns
returns c = text_no_fault
