use Rattle.std.proofs.Common.{sym, ◌∙◌, arith}
use Rattle.tptp_lexer.proofs.Comments.{told_start, told_close, told_more, told_end}
use Rattle.tptp_lexer.proofs.comment.block_end.Goals as goal

pub loop-at-init : goal.loop-at-init
loop-at-init c = record { read = told_start c.args.bytes.now; within = omega arith }

pub returns-then-is_close-clause-value : goal.returns-then-is_close-clause-value
returns-then-is_close-clause-value c = sym (told_close _ _ c.loop-at-test.true (sym c.is_close.ensures ∙ c.if-is_close.true)) ∙ c.loop-at.invariant.read

pub loop-at-preserved : goal.loop-at-preserved
loop-at-preserved c = record {
  read = sym (told_more c.args.bytes.now c.loop-at.at c.loop-at-test.true (sym c.is_close.ensures ∙ c.if-is_close.false)) ∙ c.loop-at.invariant.read;
  within = omega arith;
}

pub returns-clause-value : goal.returns-clause-value
returns-clause-value c = sym (told_end _ _ c.loop-at-test.false) ∙ c.loop-at.invariant.read
