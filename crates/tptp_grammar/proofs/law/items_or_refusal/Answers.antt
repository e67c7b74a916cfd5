use Rattle.tptp_grammar.proofs.ItemsOrRefusal.{items_or_refusal}
use Rattle.tptp_grammar.proofs.law.items_or_refusal.Goals as goal

pub returns : goal.returns
returns c = items_or_refusal
