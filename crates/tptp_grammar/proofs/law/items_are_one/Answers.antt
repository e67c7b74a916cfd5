use Rattle.tptp_grammar.proofs.Laws.{items_same}
use Rattle.tptp_grammar.proofs.law.items_are_one.Goals as goal

pub returns : goal.returns
returns c = items_same
