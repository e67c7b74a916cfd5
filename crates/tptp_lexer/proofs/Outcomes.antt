-- How the reading of a text ends, by the pieces at its offsets.
use Rattle.std.proofs.Common.{◌≡◌, ℕ, ◌+◌, inl, inr, ap, sym, ◌∙◌, arith, Option, Some, None}
use Rattle.text_core.specs.Names.{Text}
use Rattle.tptp_lexer.specs.declared.piece.Piece.{Piece}
use Rattle.tptp_lexer.specs.declared.piece.Piece.TheVariants as piece
use Rattle.tptp_lexer.specs.declared.refusal.LexRefusal.{LexRefusal}
use Rattle.tptp_lexer.specs.declared.refusal.LexRefusal.TheVariants as refusal
use Rattle.tptp_lexer.specs.Refused.{EndsBy}
use Rattle.tptp_lexer.specs.Scanning.{piece_at}
use Rattle.tptp_lexer.proofs.Complete.{nothing_piece, stray_piece, open_piece, open_comment_piece, empty_piece}

-- how reading ends at a piece at an offset; None where it goes on
abbrev pub outcome_at : ℕ → Piece → Option (Option LexRefusal)
outcome_at at piece.End = Some None
outcome_at at (piece.Gap n) = None
outcome_at at (piece.Found k n) = None
outcome_at at (piece.BadByte n) = Some (Some (refusal.BadByte (at + n)))
outcome_at at piece.OpenQuote = Some (Some (refusal.OpenQuote at))
outcome_at at piece.OpenComment = Some (Some (refusal.OpenComment at))
outcome_at at piece.EmptyQuote = Some (Some (refusal.EmptyQuote at))

-- a reading that ends ends so
pub ended : (o : Option LexRefusal) (at : ℕ) (bytes : Text) → EndsBy o at bytes → outcome_at at (piece_at bytes) ≡ Some o
ended None at bytes h = ap (λ (bs : Text). outcome_at at (piece_at bs)) h
ended (Some (refusal.BadByte offset)) at bytes (inl h) = ap (outcome_at at) (nothing_piece bytes h.0) ∙ ap (λ n. Some (Some (refusal.BadByte n))) (let e = h.1 in omega arith)
ended (Some (refusal.BadByte offset)) at bytes (inr h) = ap (outcome_at at) (stray_piece bytes h.0 h.1) ∙ ap (λ n. Some (Some (refusal.BadByte n))) (sym h.2)
ended (Some (refusal.OpenQuote offset)) at bytes h = ap (outcome_at at) (open_piece bytes h.0) ∙ ap (λ n. Some (Some (refusal.OpenQuote n))) (sym h.1)
ended (Some (refusal.OpenComment offset)) at bytes h = ap (outcome_at at) (open_comment_piece bytes h.0) ∙ ap (λ n. Some (Some (refusal.OpenComment n))) (sym h.1)
ended (Some (refusal.EmptyQuote offset)) at bytes h = ap (outcome_at at) (empty_piece bytes h.0) ∙ ap (λ n. Some (Some (refusal.EmptyQuote n))) (sym h.1)
ended (Some refusal.Memory) at bytes h = absurd h
