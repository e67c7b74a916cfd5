use Rattle.signature.proofs.Symbols.{no_name, by_pair}
use Rattle.signature.proofs.tables.Tables.find_symbol.Goals as goal

pub returns-in_err-named : goal.returns-in_err-named
returns-in_err-named c =
    let tables = c.self.invariant in
    rw (c.from_residual.ensures, ← c.self.view_is) (no_name _ _ _ tables.names_distinct _ tables.named c.in_err-named.ensures)

pub returns-in_err-pair : goal.returns-in_err-pair
returns-in_err-pair c =
    let tables = c.self.invariant in
    rw (c.from_residual-in_err-pair.ensures, ← c.self.view_is)
    (by_pair _ _ _ tables.names_distinct _ tables.named c.in_ok-named.named c.in_ok-named.ensures _ c.in_err-pair.ensures.index)

pub returns : goal.returns
returns c =
    let tables = c.self.invariant in
    rw (← c.self.view_is) (by_pair _ _ _ tables.names_distinct _ tables.named c.in_ok-named.named c.in_ok-named.ensures _ c.in_ok-pair.ensures.index)
