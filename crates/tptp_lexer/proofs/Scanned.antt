-- What the scanner has read of a source: some spans, up to an offset.
use Rattle.std.proofs.Common.{◌≡◌, ℕ, ◌+◌, ◌-◌, ◌<◌, ◌≤◌, List, [], ◌∷◌, ◌++◌, map, length, take, drop, ap, sym, ◌∙◌, subst, arith, Option, Some, None, append_assoc, length-drop, zero, suc}
use Rattle.std.specs.Prelude.{All, get_or}
use Rattle.std.proofs.lemmas.List.{append-nil, map-append, drop-drop, take_rest}
use Rattle.std.proofs.lemmas.List.Elements.{All-append}
use Rattle.text_core.specs.Names.{Text}
use Rattle.tptp_lexer.specs.declared.kind.Kind.{Kind}
use Rattle.tptp_lexer.specs.declared.piece.Piece.{Piece}
use Rattle.tptp_lexer.specs.declared.piece.Piece.TheVariants as piece
use Rattle.tptp_lexer.specs.declared.refusal.LexRefusal.{LexRefusal}
use Rattle.tptp_lexer.specs.declared.refusal.LexRefusal.TheVariants as refusal
use Rattle.tptp_lexer.specs.declared.token_list.Span.{Span}
use Rattle.tptp_lexer.specs.Spans.{token_of, IsWithin}
use Rattle.tptp_lexer.specs.Tokens.{Token, Reads, AreTokens}
use Rattle.tptp_lexer.specs.Refused.{EndsBy, LexFault}
use Rattle.tptp_lexer.specs.Scanning.{piece_at}
use Rattle.tptp_lexer.proofs.Steps.{over_gap, over_token, at_end, at_bad, at_open_quote, at_open_comment, at_empty_quote, piece_within, Within}

-- the spans are within the source, and each reading from the offset on is one of the whole source behind their tokens
pub record IsScanned (source : Text) (spans : List Span) (at : ℕ) : Type 0 where
  pub below : at ≤ length source
  pub within : All (IsWithin source) spans
  pub read : (o : Option LexRefusal) (us : List Token) → Reads (EndsBy o) at (drop at source) us → Reads (EndsBy o) 0 source (map (token_of source) spans ++ us)

-- what a call at the rest of the source answered
pub seen : (source : Text) (at : ℕ) (r p : Piece) → r ≡ piece_at (take (length source - at) (drop at source)) → r ≡ p → piece_at (drop at source) ≡ p
seen source at r p h e = ap piece_at (sym (take_rest source at)) ∙ sym h ∙ e

-- at the start nothing is read
pub scanned_start : (source : Text) → IsScanned source [] 0
scanned_start source = record { below = omega arith; within = λ k d h. absurd (omega arith); read = λ o us r. r }

-- the length of what is left bounds a piece
pub gap_bounds : (source : Text) (at n : ℕ) → at ≤ length source → piece_at (drop at source) ≡ piece.Gap n → (0 < n) × (at + n ≤ length source)
gap_bounds source at n h e = let w = subst (λ p. Within p (length (drop at source))) e (piece_within (drop at source)) in let low = w.0 in let high = w.1 in (low, omega (arith, length-drop at source))

-- a token is within what is left
pub found_bounds : (source : Text) (at n : ℕ) (kind : Kind) → at ≤ length source → piece_at (drop at source) ≡ piece.Found kind n → (0 < n) × (at + n ≤ length source)
found_bounds source at n kind h e = let w = subst (λ p. Within p (length (drop at source))) e (piece_within (drop at source)) in let low = w.0 in let high = w.1 in (low, omega (arith, length-drop at source))

-- a bad byte is within what is left
pub bad_bounds : (source : Text) (at n : ℕ) → at ≤ length source → piece_at (drop at source) ≡ piece.BadByte n → at + n < length source
bad_bounds source at n h e = let w = subst (λ p. Within p (length (drop at source))) e (piece_within (drop at source)) in omega (arith, length-drop at source)

module _ (source : Text) (spans : List Span) (at : ℕ) (s : IsScanned source spans at) where
  -- a gap is passed
  pub scanned_gap : (n : ℕ) → piece_at (drop at source) ≡ piece.Gap n → IsScanned source spans (at + n)
  scanned_gap n e = record {
    below = (gap_bounds source at n s.below e).1;
    within = s.within;
    read = λ o us r. s.read o us (over_gap o at (drop at source) us n e (subst (λ (xs : Text). Reads (EndsBy o) (at + n) xs us) (sym (drop-drop n at source)) r));
  }

  -- a token is added
  pub scanned_token : (kind : Kind) (n : ℕ) → piece_at (drop at source) ≡ piece.Found kind n → IsScanned source (spans ++ record { kind = kind; start = at; end = at + n } ∷ []) (at + n)
  scanned_token kind n e = record {
    below = (found_bounds source at n kind s.below e).1;
    within = All-append (IsWithin source) spans (span ∷ []) s.within (λ k d h. one k d h);
    read = λ o us r. subst (Reads (EndsBy o) 0 source) (sym (spelled us))
        (s.read o (token_of source span ∷ us)
        (subst (λ (xs : Text). Reads (EndsBy o) at (drop at source) (record { kind = kind; start = at; text = xs } ∷ us)) (ap (λ k. take k (drop at source)) (omega arith))
        (over_token o at (drop at source) us kind n e (subst (λ (xs : Text). Reads (EndsBy o) (at + n) xs us) (sym (drop-drop n at source)) r))));
  }
    where
      span : Span
      span = record { kind = kind; start = at; end = at + n }

      fits : IsWithin source span
      fits = (omega arith, (found_bounds source at n kind s.below e).1)

      one : (k : ℕ) (d : Span) → k < 1 → IsWithin source (get_or (span ∷ []) k d)
      one zero d h = fits
      one (suc k) d h = absurd (omega arith)

      spelled : (us : List Token) → map (token_of source) (spans ++ span ∷ []) ++ us ≡ map (token_of source) spans ++ token_of source span ∷ us
      spelled us = ap (λ (ts : List Token). ts ++ us) (map-append (token_of source) spans (span ∷ [])) ∙ append_assoc (map (token_of source) spans) (token_of source span ∷ []) us

  -- at the end all tokens are there
  pub scanned_end : piece_at (drop at source) ≡ piece.End → AreTokens source (map (token_of source) spans)
  scanned_end e = subst (AreTokens source) (append-nil (map (token_of source) spans)) (s.read None [] (at_end at (drop at source) e))

  -- what is refused here is the first refusal
  fault : (r : LexRefusal) → Reads (EndsBy (Some r)) at (drop at source) [] → LexFault source r
  fault r h = (map (token_of source) spans ++ [], s.read (Some r) [] h)

  -- a bad byte
  pub fault_bad : (n : ℕ) → piece_at (drop at source) ≡ piece.BadByte n → LexFault source (refusal.BadByte (at + n))
  fault_bad n e = fault (refusal.BadByte (at + n)) (at_bad at (drop at source) n e)

  -- an open quote
  pub fault_open_quote : piece_at (drop at source) ≡ piece.OpenQuote → LexFault source (refusal.OpenQuote at)
  fault_open_quote e = fault (refusal.OpenQuote at) (at_open_quote at (drop at source) e)

  -- an open comment
  pub fault_open_comment : piece_at (drop at source) ≡ piece.OpenComment → LexFault source (refusal.OpenComment at)
  fault_open_comment e = fault (refusal.OpenComment at) (at_open_comment at (drop at source) e)

  -- an empty quote
  pub fault_empty_quote : piece_at (drop at source) ≡ piece.EmptyQuote → LexFault source (refusal.EmptyQuote at)
  fault_empty_quote e = fault (refusal.EmptyQuote at) (at_empty_quote at (drop at source) e)
