use Rattle.std.proofs.Common.{arith}
use Rattle.larus_cli.proofs.Proving.{smallest_found}
use Rattle.larus_cli.proofs.search.smallest.Goals as goal

pub returns-in-Some-clause-smallest : goal.returns-in-Some-clause-smallest
returns-in-Some-clause-smallest c = (smallest_found c.args.task.now c.in_ok-searcher.searcher.task c.in_ok-start.start c.in-Some.field-0 _
    c.in_ok-proof-in-Some.field-0 c.in_ok-searcher.ensures.task c.in_ok-start.ensures.value c.preorder_is_faithful.ensures c.in-Some.ensures.least
    c.in-Some.ensures.kept c.in_ok-proof-in-Some.ensures).0

pub returns-in-Some-clause-within : goal.returns-in-Some-clause-within
returns-in-Some-clause-within c =
    let sized = (smallest_found c.args.task.now c.in_ok-searcher.searcher.task c.in_ok-start.start c.in-Some.field-0 _
    c.in_ok-proof-in-Some.field-0 c.in_ok-searcher.ensures.task c.in_ok-start.ensures.value c.preorder_is_faithful.ensures c.in-Some.ensures.least
    c.in-Some.ensures.kept c.in_ok-proof-in-Some.ensures).1 in
    omega (arith, sized, c.in-Some.ensures.within)
