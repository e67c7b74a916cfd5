use Rattle.std.proofs.Common.{sym, arith, subst, ◌+◌}
use Rattle.tptp_lexer.proofs.Scanned.{IsScanned, seen, scanned_start, scanned_gap, scanned_token, scanned_end, gap_bounds, found_bounds, bad_bounds, fault_bad, fault_open_quote, fault_open_comment, fault_empty_quote}
use Rattle.tptp_lexer.proofs.lexer.spans.Goals as goal

pub loop-spans-init : goal.loop-spans-init
loop-spans-init c = subst (λ xs. IsScanned c.args.source.now xs 0) (sym c.new-spans.ensures) (scanned_start c.args.source.now)

pub returns-in-End-clause-tokens : goal.returns-in-End-clause-tokens
returns-in-End-clause-tokens c = scanned_end _ _ _ c.loop-spans.invariant (seen c.args.source.now c.loop-spans.at _ _ c.piece_at.ensures c.in-End.is)

pub overflow_add-at : goal.overflow_add-at
overflow_add-at c = let b = gap_bounds _ _ _ c.loop-spans.invariant.below (seen c.args.source.now c.loop-spans.at _ _ c.piece_at.ensures c.in-Gap.is) in let high = b.1 in omega arith

pub loop-spans-smaller-in-Gap : goal.loop-spans-smaller-in-Gap
loop-spans-smaller-in-Gap c = let b = gap_bounds _ _ _ c.loop-spans.invariant.below (seen c.args.source.now c.loop-spans.at _ _ c.piece_at.ensures c.in-Gap.is) in let low = b.0 in let high = b.1 in omega arith

pub loop-spans-preserved-in-Gap : goal.loop-spans-preserved-in-Gap
loop-spans-preserved-in-Gap c = scanned_gap _ _ _ c.loop-spans.invariant _ (seen c.args.source.now c.loop-spans.at _ _ c.piece_at.ensures c.in-Gap.is)

pub overflow_add-end : goal.overflow_add-end
overflow_add-end c = let b = found_bounds _ _ _ _ c.loop-spans.invariant.below (seen c.args.source.now c.loop-spans.at _ _ c.piece_at.ensures c.in-Found.is) in let high = b.1 in omega arith

pub overflow_cast-end : goal.overflow_cast-end
overflow_cast-end c = let b = found_bounds _ _ _ _ c.loop-spans.invariant.below (seen c.args.source.now c.loop-spans.at _ _ c.piece_at.ensures c.in-Found.is) in let high = b.1 in omega arith

pub loop-spans-smaller : goal.loop-spans-smaller
loop-spans-smaller c = let b = found_bounds _ _ _ _ c.loop-spans.invariant.below (seen c.args.source.now c.loop-spans.at _ _ c.piece_at.ensures c.in-Found.is) in let low = b.0 in let high = b.1 in omega arith

pub loop-spans-preserved : goal.loop-spans-preserved
loop-spans-preserved c = subst (λ xs. IsScanned c.args.source.now xs (c.loop-spans.at + c.in-Found.len)) (sym c.in_ok-push-in-Found.ensures.ok)
    (scanned_token c.args.source.now c.loop-spans.spans c.loop-spans.at c.loop-spans.invariant c.in-Found.kind c.in-Found.len (seen c.args.source.now c.loop-spans.at _ _ c.piece_at.ensures c.in-Found.is))

pub overflow_add-result : goal.overflow_add-result
overflow_add-result c = let b = bad_bounds _ _ _ c.loop-spans.invariant.below (seen c.args.source.now c.loop-spans.at _ _ c.piece_at.ensures c.in-BadByte.is) in omega arith

pub overflow_cast-result : goal.overflow_cast-result
overflow_cast-result c = let b = bad_bounds _ _ _ c.loop-spans.invariant.below (seen c.args.source.now c.loop-spans.at _ _ c.piece_at.ensures c.in-BadByte.is) in omega arith

pub returns-in-BadByte-clause-refused : goal.returns-in-BadByte-clause-refused
returns-in-BadByte-clause-refused c = fault_bad _ _ _ c.loop-spans.invariant _ (seen c.args.source.now c.loop-spans.at _ _ c.piece_at.ensures c.in-BadByte.is)

pub returns-in-OpenQuote-clause-refused : goal.returns-in-OpenQuote-clause-refused
returns-in-OpenQuote-clause-refused c = fault_open_quote _ _ _ c.loop-spans.invariant (seen c.args.source.now c.loop-spans.at _ _ c.piece_at.ensures c.in-OpenQuote.is)

pub returns-in-OpenComment-clause-refused : goal.returns-in-OpenComment-clause-refused
returns-in-OpenComment-clause-refused c = fault_open_comment _ _ _ c.loop-spans.invariant (seen c.args.source.now c.loop-spans.at _ _ c.piece_at.ensures c.in-OpenComment.is)

pub returns-in-EmptyQuote-clause-refused : goal.returns-in-EmptyQuote-clause-refused
returns-in-EmptyQuote-clause-refused c = fault_empty_quote _ _ _ c.loop-spans.invariant (seen c.args.source.now c.loop-spans.at _ _ c.piece_at.ensures c.in-EmptyQuote.is)
