use Rattle.std.proofs.Common.{sym, arith, subst, ◌+◌}
use Rattle.isar_text.proofs.Scanned.{IsScanned, seen_at, scanned_start, scanned_blank, scanned_token, scanned_end, scanned_nothing, found_bounds, blank_bounds}
use Rattle.isar_text.proofs.lexer.spans.Goals as goal

pub loop-spans-init : goal.loop-spans-init
loop-spans-init c = subst (λ xs. IsScanned c.args.source.now c.args.start xs c.args.start) (sym c.new-spans.ensures) (scanned_start c.args.source.now c.args.start c.requires.within)

pub returns-in-End-clause-tokens : goal.returns-in-End-clause-tokens
returns-in-End-clause-tokens c = scanned_end _ _ _ _ c.loop-spans.invariant (seen_at c.args.source.now c.loop-spans.at _ _ c.piece_at.ensures c.in-End.is)

pub loop-spans-preserved-in-Blank : goal.loop-spans-preserved-in-Blank
loop-spans-preserved-in-Blank c = scanned_blank _ _ _ _ c.loop-spans.invariant (seen_at c.args.source.now c.loop-spans.at _ _ c.piece_at.ensures c.in-Blank.is)

pub overflow_add-at : goal.overflow_add-at
overflow_add-at c = let b = blank_bounds _ _ c.loop-spans.invariant.below (seen_at c.args.source.now c.loop-spans.at _ _ c.piece_at.ensures c.in-Blank.is) in omega arith

pub loop-spans-smaller-in-Blank : goal.loop-spans-smaller-in-Blank
loop-spans-smaller-in-Blank c = let b = blank_bounds _ _ c.loop-spans.invariant.below (seen_at c.args.source.now c.loop-spans.at _ _ c.piece_at.ensures c.in-Blank.is) in omega arith

pub overflow_add-end : goal.overflow_add-end
overflow_add-end c = let b = found_bounds _ _ _ c.loop-spans.invariant.below (seen_at c.args.source.now c.loop-spans.at _ _ c.piece_at.ensures c.in-Found.is) in let high = b.1 in omega arith

pub overflow_cast-end : goal.overflow_cast-end
overflow_cast-end c = let b = found_bounds _ _ _ c.loop-spans.invariant.below (seen_at c.args.source.now c.loop-spans.at _ _ c.piece_at.ensures c.in-Found.is) in let high = b.1 in omega arith

pub loop-spans-smaller : goal.loop-spans-smaller
loop-spans-smaller c = let b = found_bounds _ _ _ c.loop-spans.invariant.below (seen_at c.args.source.now c.loop-spans.at _ _ c.piece_at.ensures c.in-Found.is) in let low = b.0 in let high = b.1 in omega arith

pub loop-spans-preserved : goal.loop-spans-preserved
loop-spans-preserved c = subst (λ xs. IsScanned c.args.source.now c.args.start xs (c.loop-spans.at + c.in-Found.len)) (sym c.in_ok-push-in-Found.ensures.ok)
    (scanned_token c.args.source.now c.args.start c.loop-spans.spans c.loop-spans.at c.loop-spans.invariant c.in-Found.len (seen_at c.args.source.now c.loop-spans.at _ _ c.piece_at.ensures c.in-Found.is))

pub returns-in-Nothing-clause-tokens : goal.returns-in-Nothing-clause-tokens
returns-in-Nothing-clause-tokens c = scanned_nothing _ _ _ _ c.loop-spans.invariant (seen_at c.args.source.now c.loop-spans.at _ _ c.piece_at.ensures c.in-Nothing.is)
