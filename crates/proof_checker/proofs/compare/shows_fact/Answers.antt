use Rattle.std.proofs.Common.{◌≡◌, arith}
use Rattle.proof_checker.proofs.Compared.{fact_told}
use Rattle.proof_checker.proofs.compare.shows_fact.Goals as goal

pub returns : goal.returns
returns c =
    let same : c.args.atom.now.positive ≡ c.args.fact.now.positive = grind (arith, c.if-atom-fact.false) in
    fact_told c.args.tables.now c.args.names.now c.args.atom.now c.args.fact.now c.are_named.result same
    (c.is_predicate.ensures.0 c.if-not-is_predicate.false) (rw (c.as_slice.ensures, c.as_slice-2.ensures) at c.are_named.ensures)
