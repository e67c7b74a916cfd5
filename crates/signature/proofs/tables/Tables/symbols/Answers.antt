use Rattle.signature.proofs.Symbols.{distinct_symbols}
use Rattle.signature.proofs.tables.Tables.symbols.Goals as goal

pub returns-clause-distinct : goal.returns-clause-distinct
returns-clause-distinct c =
    let tables = c.self.invariant in
    rw (← c.self.view_is) (distinct_symbols _ tables.names_distinct _ tables.named tables.pairs_distinct)
