-- The bytes have one reading.
use Rattle.std.proofs.Common.{◌≡◌, ℕ, ◌+◌, List, [], ◌∷◌, length, take, drop, refl, ap, sym, ◌∙◌, subst, Option, Some}
use Rattle.std.proofs.lemmas.List.{take_at, drop_at}
use Rattle.text_core.specs.Names.{Text}
use Rattle.tptp_lexer.specs.declared.piece.Piece.{Piece}
use Rattle.tptp_lexer.specs.declared.piece.Piece.TheVariants as piece
use Rattle.tptp_lexer.specs.declared.refusal.LexRefusal.{LexRefusal}
use Rattle.tptp_lexer.specs.Tokens.{Token, Reads, stop, blank, comment, token}
use Rattle.tptp_lexer.specs.Refused.{EndsBy}
use Rattle.tptp_lexer.specs.Scanning.{piece_at}
use Rattle.tptp_lexer.proofs.Complete.{blank_piece, comment_piece, token_piece}
use Rattle.tptp_lexer.proofs.Outcomes.{outcome_at, ended}

-- what a reading is behind the piece at its front
abbrev pub After : Option LexRefusal → ℕ → Text → List Token → Piece → Type 0
After o at bytes ts (piece.Gap n) = Reads (EndsBy o) (at + n) (drop n bytes) ts
After o at bytes ts (piece.Found kind n) = (us : List Token) × (ts ≡ record { kind = kind; start = at; text = take n bytes } ∷ us) × Reads (EndsBy o) (at + n) (drop n bytes) us
After o at bytes ts p = (outcome_at at p ≡ Some o) × (ts ≡ [])

-- a reading that ends here
stopped : (o : Option LexRefusal) (at : ℕ) (bytes : Text) (p : Piece) → outcome_at at p ≡ Some o → After o at bytes [] p
stopped o at bytes piece.End e = (e, refl)
stopped o at bytes (piece.Gap n) e = absurd (cc)
stopped o at bytes (piece.Found k n) e = absurd (cc)
stopped o at bytes (piece.BadByte n) e = (e, refl)
stopped o at bytes piece.OpenQuote e = (e, refl)
stopped o at bytes piece.OpenComment e = (e, refl)
stopped o at bytes piece.EmptyQuote e = (e, refl)

-- each reading goes on behind the piece at its front
pub after : (o : Option LexRefusal) (at : ℕ) (bytes : Text) (ts : List Token) → Reads (EndsBy o) at bytes ts → After o at bytes ts (piece_at bytes)
after o at bytes _ (stop h) = stopped o at bytes (piece_at bytes) (ended o at bytes h)
after o at _ ts (blank {b = b} {rest = rest} h r) = subst (After o at (b ∷ rest) ts) (sym (blank_piece b rest h)) r
after o at bytes ts (comment text rest e c r) =
    let p = ap piece_at e ∙ comment_piece text rest c in
    let left : rest ≡ drop (length text) bytes = sym (ap (drop (length text)) e ∙ drop_at text rest (length text) refl) in
    subst (After o at bytes ts) (sym p) (subst (λ (xs : Text). Reads (EndsBy o) (at + length text) xs ts) left r)
after o at bytes _ (token {ts = us} kind text rest e l r) =
    let p = token_piece kind text rest bytes e l in
    let left : rest ≡ drop (length text) bytes = sym (ap (drop (length text)) e ∙ drop_at text rest (length text) refl) in
    let front : text ≡ take (length text) bytes = sym (ap (take (length text)) e ∙ take_at text rest (length text) refl) in
    subst (After o at bytes (record { kind = kind; start = at; text = text } ∷ us)) (sym p)
    (us, ap (λ (xs : Text). record { kind = kind; start = at; text = xs } ∷ us) front, subst (λ (xs : Text). Reads (EndsBy o) (at + length text) xs us) left r)

-- two readings that end here
both_stop : (o p : Option LexRefusal) (at : ℕ) (bytes : Text) (us : List Token) (q : Piece) → outcome_at at q ≡ Some o → After p at bytes us q → (o ≡ p) × (◌≡◌ {A = List Token} [] us)
both_stop o p at bytes us piece.End e a = let f = a.0 in (cc, sym a.1)
both_stop o p at bytes us (piece.Gap n) e a = absurd (cc)
both_stop o p at bytes us (piece.Found k n) e a = absurd (cc)
both_stop o p at bytes us (piece.BadByte n) e a = let f = a.0 in (cc, sym a.1)
both_stop o p at bytes us piece.OpenQuote e a = let f = a.0 in (cc, sym a.1)
both_stop o p at bytes us piece.OpenComment e a = let f = a.0 in (cc, sym a.1)
both_stop o p at bytes us piece.EmptyQuote e a = let f = a.0 in (cc, sym a.1)

-- two readings are the same
pub one_reading : (o p : Option LexRefusal) (at : ℕ) (bytes : Text) (ts us : List Token) → Reads (EndsBy o) at bytes ts → Reads (EndsBy p) at bytes us → (o ≡ p) × (ts ≡ us)
one_reading o p at bytes _ us (stop h) s = both_stop o p at bytes us (piece_at bytes) (ended o at bytes h) (after p at bytes us s)
one_reading o p at _ ts us (blank {b = b} {rest = rest} h r) s = one_reading o p (at + 1) rest ts us r (subst (After p at (b ∷ rest) us) (blank_piece b rest h) (after p at (b ∷ rest) us s))
one_reading o p at bytes ts us (comment text rest e c r) s =
    one_reading o p (at + length text) rest ts us r
    (subst (λ (xs : Text). Reads (EndsBy p) (at + length text) xs us) (ap (drop (length text)) e ∙ drop_at text rest (length text) refl)
    (subst (After p at bytes us) (ap piece_at e ∙ comment_piece text rest c) (after p at bytes us s)))
one_reading o p at bytes _ us (token {ts = ts} kind text rest e l r) s =
    let a = subst (After p at bytes us) (token_piece kind text rest bytes e l) (after p at bytes us s) in
    let front : take (length text) bytes ≡ text = ap (take (length text)) e ∙ take_at text rest (length text) refl in
    let i = one_reading o p (at + length text) rest ts a.0 r (subst (λ (xs : Text). Reads (EndsBy p) (at + length text) xs a.0) (ap (drop (length text)) e ∙ drop_at text rest (length text) refl) a.2) in
    (i.0, sym (a.1 ∙ ap (λ (xs : Text). record { kind = kind; start = at; text = xs } ∷ a.0) front ∙ ap (λ (vs : List Token). record { kind = kind; start = at; text = text } ∷ vs) (sym i.1)))
