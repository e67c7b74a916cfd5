use Rattle.std.proofs.Common.{◌≡◌, length, arith, ap}
use Rattle.signature.specs.Columns.{name_number, symbols_in}
use Rattle.signature.proofs.Symbols.{AreTables-symbol, number_by_pair, symbols_with_pair, length-symbols_in, with_pair}
use Rattle.signature.proofs.tables.Tables.symbol.Goals as goal
use Rattle.signature.proofs.tables.Tables.symbol.Goals.{In_ok-pair}

-- the pairs after the call
pairs_are : (c : In_ok-pair) → c.insert_full.new.self.keys ≡ with_pair c.self.inside.pairs.keys (name_number c.self.inside.names.keys c.args.name.now) c.args.arity
pairs_are c = rw (c.reserve.ensures.keys, c.in_ok-named.ensures.number) at c.in_ok-pair.ensures.keys

pub invariant_of-self-2 : goal.invariant_of-self-2
invariant_of-self-2 c =
    let inside = c.self.inside in
    let names_distinct = rw c.in_ok-named.ensures.ok at c.in_ok-named.ensures.distinct in
    let pairs_distinct = rw (pairs_are c) at c.in_ok-pair.ensures.unique in
    let symbols : symbols_in inside.names.keys inside.pairs.keys ≡ c.args.self.now.symbols = ap (λ tables. tables.symbols) c.self.view_is in
    let count = length-symbols_in inside.names.keys inside.pairs.keys in
    rw (c.in_ok-named.ensures.ok, pairs_are c)
    (AreTables-symbol _ _ _ _ _ c.self.invariant (omega (arith, c.requires, ap length symbols)) names_distinct pairs_distinct)

pub returns-clause-number : goal.returns-clause-number
returns-clause-number c =
    let number = rw (c.reserve.ensures.keys, c.in_ok-named.ensures.number) at c.in_ok-pair.ensures.index in
    rw (number, ← c.self.view_is) (number_by_pair _ _ _ c.self.invariant.names_distinct _ c.self.invariant.named)

pub returns-clause-ok : goal.returns-clause-ok
returns-clause-ok c =
    rw (c.in_ok-named.ensures.ok, pairs_are c, symbols_with_pair c.args.name.now c.args.arity _ c.self.invariant.names_distinct _ c.self.invariant.named, ← c.self.view_is)
