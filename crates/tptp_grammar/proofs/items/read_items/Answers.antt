use Rattle.tptp_grammar.proofs.Laws.{exact_items, exact_fault}
use Rattle.tptp_grammar.proofs.items.read_items.Goals as goal

pub returns-in_ok-read_accepted-in-Ok : goal.returns-in_ok-read_accepted-in-Ok
returns-in_ok-read_accepted-in-Ok c = exact_items c.args.tokens.now _ c.in_ok-read_accepted-in-Ok.ensures

pub returns-in-Err : goal.returns-in-Err
returns-in-Err c = exact_fault c.args.tokens.now c.in-Err.refusal c.in-Err.ensures.refused
