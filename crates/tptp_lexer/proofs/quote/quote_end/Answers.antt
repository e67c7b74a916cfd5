use Rattle.std.proofs.Common.{sym, ◌∙◌, arith}
use Rattle.tptp_lexer.specs.Scanning.{quote_end}
use Rattle.tptp_lexer.proofs.Quotes.{further_zero, told_quote, told_plain, told_unprintable, told_last, told_escape, told_wrong, told_end}
use Rattle.tptp_lexer.proofs.quote.quote_end.Goals as goal

pub loop-at-init : goal.loop-at-init
loop-at-init c = further_zero (quote_end c.args.quote c.args.bytes.now)

pub returns-then-byte-quote-clause-value : goal.returns-then-byte-quote-clause-value
returns-then-byte-quote-clause-value c = sym (told_quote _ _ _ c.loop-at-test.true c.if-byte-quote.true) ∙ c.loop-at.invariant

pub returns-then-at-bytes-clause-value : goal.returns-then-at-bytes-clause-value
returns-then-at-bytes-clause-value c = sym (told_last _ _ _ c.loop-at-test.true c.if-byte-quote.false c.if-byte-eq92.true c.if-at-bytes.true) ∙ c.loop-at.invariant

pub returns-then-not-is_escapable-clause-value : goal.returns-then-not-is_escapable-clause-value
returns-then-not-is_escapable-clause-value c = sym (told_wrong _ _ _ c.loop-at-test.true (omega arith) c.if-byte-quote.false c.if-byte-eq92.true (sym c.is_escapable.ensures ∙ c.if-not-is_escapable.true)) ∙ c.loop-at.invariant

pub loop-at-preserved-then-byte-eq92 : goal.loop-at-preserved-then-byte-eq92
loop-at-preserved-then-byte-eq92 c = sym (told_escape c.args.quote c.args.bytes.now c.loop-at.at c.loop-at-test.true (omega arith) c.if-byte-quote.false c.if-byte-eq92.true (sym c.is_escapable.ensures ∙ c.if-not-is_escapable.false)) ∙ c.loop-at.invariant

pub returns-then-not-is_printable-clause-value : goal.returns-then-not-is_printable-clause-value
returns-then-not-is_printable-clause-value c = sym (told_unprintable _ _ _ c.loop-at-test.true c.if-byte-quote.false c.if-byte-eq92.false (sym c.is_printable.ensures ∙ c.if-not-is_printable.true)) ∙ c.loop-at.invariant

pub loop-at-preserved : goal.loop-at-preserved
loop-at-preserved c = sym (told_plain c.args.quote c.args.bytes.now c.loop-at.at c.loop-at-test.true c.if-byte-quote.false c.if-byte-eq92.false (sym c.is_printable.ensures ∙ c.if-not-is_printable.false)) ∙ c.loop-at.invariant

pub returns-clause-value : goal.returns-clause-value
returns-clause-value c = sym (told_end _ _ _ c.loop-at-test.false) ∙ c.loop-at.invariant
