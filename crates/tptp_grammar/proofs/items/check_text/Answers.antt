use Rattle.tptp_grammar.proofs.Faults.{told_fault}
use Rattle.tptp_grammar.proofs.items.check_text.Goals as goal

pub told-requires-clause-refused : goal.told-requires-clause-refused
told-requires-clause-refused c = (_, rw (c.in_ok-numbered.ensures, c.new-scopes.ensures) at c.in-Err.ensures.refused)

pub returns-clause-refused : goal.returns-clause-refused
returns-clause-refused c =
    told_fault c.args.tokens.now c.in-Err.refusal c.told.result
    (_, rw (c.in_ok-numbered.ensures, c.new-scopes.ensures) at c.in-Err.ensures.refused) c.told.ensures
