use Rattle.tptp_lexer.proofs.Names.{shown_kept}
use Rattle.tptp_lexer.proofs.name.unescaped.Goals as goal

pub loop-at-preserved : goal.loop-at-preserved
loop-at-preserved c = shown_kept c.args.body.now c.loop-at.bytes c.push.new.self c.loop-at.at c.shown_at-shown.result c.loop-at.invariant c.loop-at-test.true c.shown_at-shown.ensures.value c.in_ok-push.ensures.ok
