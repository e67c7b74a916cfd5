-- An expression that the watcher lets pass has few pieces.
use Rattle.std.proofs.Common.{◌≡◌, sym, ◌+◌, ◌<◌, ◌≤◌, List, ap, subst, arith}
use Rattle.std.specs.Prelude.{Ok}
use Rattle.token_grammar.specs.Answers.{IsAccepted}
use Rattle.token_grammar.proofs.Laws.{sees_keep}
use Rattle.token_grammar_examples.specs.declared.expression.Expression.{Expression}
use Rattle.token_grammar_examples.specs.declared.mark.Mark as Mark
use Rattle.token_grammar_examples.specs.declared.watch.TheConstants.{MOST_PIECES}
use Rattle.token_grammar_examples.specs.declared.watch.Count.{Count}
use Rattle.token_grammar_examples.specs.declared.symbol.Symbol as Symbol
use Rattle.token_grammar_examples.specs.declared.symbol.Symbol.TheVariants.{Taken, Row}
use Rattle.token_grammar_examples.specs.declared.symbol.Taker.TheVariants as taker
use Rattle.token_grammar_examples.specs.declared.symbol.Rule.TheVariants.{Whole}
use Rattle.token_grammar_examples.specs.Grammar.{expressions}
use Rattle.token_grammar_examples.specs.Watching.{expression_watcher, look, closed, nothing_seen}
use Rattle.token_grammar_examples.specs.Pieces.{pieces_in}
use Rattle.token_grammar_examples.proofs.Seen.{with_more, seen_effect, counted_is, opened_is, row_opened_is}

-- a count has no more pieces than may be
abbrev IsWithin : Count → Type 0
IsWithin count = count.pieces ≤ MOST_PIECES

-- one piece more than a count below the bound is within it
more : (before after : Count) → (before.pieces < MOST_PIECES) × (after ≡ with_more 1 before) → IsWithin after
more before after (less, e) = subst IsWithin (sym e) (omega (arith, less))

-- one level more leaves a count within the bound
deeper : (before after : Count) → after ≡ record before { level = before.level + 1 } → IsWithin before → IsWithin after
deeper before after e within = subst IsWithin (sym e) within

-- a count that is within the bound stays so
look_within : (before after : Count) (p : Symbol.Symbol) (t : Mark.Mark) → look before p t ≡ Ok after → IsWithin before → IsWithin after
look_within before after (Taken taker.Number) t e within = more before after (counted_is before after e)
look_within before after (Taken taker.Open) t e within = deeper before after (opened_is before after e) within
look_within before after (Taken taker.OpenRow) t e within =
    let (between, counts, opens) = row_opened_is before after e in
    deeper between after (opened_is between after opens) (more before between (counted_is before between counts))
look_within before after (Taken taker.Close) t e within = let same : closed before ≡ after = cc in subst IsWithin same within
look_within before after (Taken taker.CloseRow) t e within = let same : closed before ≡ after = cc in subst IsWithin same within
look_within before after _ t e within = let same : before ≡ after = cc in subst IsWithin same within

-- the expression that is read has as many pieces as the watcher has counted
pub accepted_pieces : (ts : List Mark.Mark) (after : Count) (value : Expression) →
    IsAccepted expressions expression_watcher (Row Whole) nothing_seen ts after → after ≡ seen_effect (Row Whole) value nothing_seen →
    pieces_in value ≤ MOST_PIECES
accepted_pieces ts after value accepted told =
    let (takers, clean) = accepted.clean in
    let within = sees_keep expression_watcher IsWithin look_within takers ts nothing_seen after clean.seen (omega arith) in
    let pieces = ap (λ (count : Count). count.pieces) told in
    omega (arith, within, pieces)
