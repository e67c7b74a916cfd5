use Rattle.proof_checker.proofs.Compared.{name_told, name_past, decides_no}
use Rattle.proof_checker.proofs.compare.is_named.Goals as goal

pub returns-in-Some : goal.returns-in-Some
returns-in-Some c = let found = c.in-Some.ensures.lookup in
    name_told c.args.names.now c.args.element c.args.name.now c.in-Some.other.now c.eq.result found.3.0 found.1 c.eq.ensures

pub returns-in-None : goal.returns-in-None
returns-in-None c = decides_no _ (name_past c.args.names.now c.args.element c.args.name.now c.in-None.ensures.lookup.3 c.bytes-bytes.ensures.printable)
