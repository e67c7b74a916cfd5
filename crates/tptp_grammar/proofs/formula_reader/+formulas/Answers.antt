use Rattle.tptp_grammar.specs.Reading.{unit_at}
use Rattle.tptp_lexer.proofs.Laws.{more-goes_on}
use Rattle.tptp_grammar.proofs.formula_reader.+formulas.Goals as goal

pub more_units-loop-preserved : goal.more_units-loop-preserved
more_units-loop-preserved t c =
    more-goes_on (unit_at c.args.depth) c.args.sign c.len-count.result c.loop.counter c.loop.rest c.in-Some.after c.in_ok-next.tail c.loop.units _ c.in_ok-next.next _ c.loop-test.true c.in_ok-push-2.ensures.ok c.in_ok-next.ensures c.in-Some.ensures c.loop.invariant
