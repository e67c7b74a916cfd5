use Rattle.tptp_lexer.specs.declared.kind.Kind.TheVariants as kind
use Rattle.tptp_lexer.proofs.Further.{more-goes_on}
use Rattle.tptp_lexer.proofs.reader.more_values.Goals as goal

pub loop-preserved : goal.loop-preserved
loop-preserved g c =
    more-goes_on (g.R.Reads.from c.args.reader.now) kind.Comma c.len-count.result c.loop.counter c.loop.rest c.in-Some.after c.in_ok-next.tail c.loop.values _ c.in_ok-next.next _ c.loop-test.true c.in_ok-push-2.ensures.ok c.in_ok-next.ensures c.in-Some.ensures c.loop.invariant
