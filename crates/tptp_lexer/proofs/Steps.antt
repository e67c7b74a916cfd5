-- A reading goes on by the piece at its front.
use Rattle.std.proofs.Common.{◌≡◌, ℕ, zero, suc, ◌+◌, ◌<◌, ◌≤◌, ◌⊎◌, inl, inr, true, List, [], ◌∷◌, ◌++◌, length, take, drop, refl, ap, sym, ◌∙◌, subst, arith, Option, Some, None, length-append, length-drop}
use Rattle.std.proofs.lemmas.List.{take_at, drop_at}
use Rattle.text_core.specs.Names.{Text}
use Rattle.tptp_lexer.specs.declared.kind.Kind.{Kind}
use Rattle.tptp_lexer.specs.declared.piece.Piece.{Piece}
use Rattle.tptp_lexer.specs.declared.piece.Piece.TheVariants as piece
use Rattle.tptp_lexer.specs.declared.refusal.LexRefusal.{LexRefusal}
use Rattle.tptp_lexer.specs.declared.refusal.LexRefusal.TheVariants as refusal
use Rattle.tptp_lexer.specs.Kinds.{kind_of}
use Rattle.tptp_lexer.specs.Tokens.{Token, Reads, stop, blank, comment, token, IsComment, is_blank}
use Rattle.tptp_lexer.specs.Refused.{EndsBy, BeginsNothing, HasStray, is_stray}
use Rattle.tptp_lexer.specs.Scanning.{piece_at}
use Rattle.tptp_lexer.proofs.Heads.{empty_kind}
use Rattle.tptp_lexer.proofs.Fronts.{GapFront, FoundFront, Means}
use Rattle.tptp_lexer.proofs.Pieces.{piece_means}

module _ (o : Option LexRefusal) (at : ℕ) (bytes : Text) (ts : List Token) where
  -- a reading goes on before a gap
  gap_step : (n : ℕ) (g : GapFront n bytes) → Reads (EndsBy o) (at + n) g.rest ts → Reads (EndsBy o) at bytes ts
  gap_step n g r = go g.text g.rest g.split (subst (λ k. Reads (EndsBy o) (at + k) g.rest ts) g.count r) g.gap
    where
      go : (text rest : Text) → bytes ≡ text ++ rest → Reads (EndsBy o) (at + length text) rest ts → ((b : ℕ) × (text ≡ b ∷ []) × (is_blank b ≡ true)) ⊎ IsComment text rest → Reads (EndsBy o) at bytes ts
      go text rest s r (inl x) =
          let whole : x.0 ∷ rest ≡ bytes = sym (s ∙ ap (λ (xs : Text). xs ++ rest) x.1) in
          subst (λ (xs : Text). Reads (EndsBy o) at xs ts) whole (blank x.2 (subst (λ (xs : Text). Reads (EndsBy o) (at + length xs) rest ts) x.1 r))
      go text rest s r (inr c) = comment text rest s c r

  -- a reading goes on before a token
  found_step : (kind : Kind) (n : ℕ) (f : FoundFront kind n bytes) → Reads (EndsBy o) (at + n) f.rest ts → Reads (EndsBy o) at bytes (record { kind = kind; start = at; text = f.text } ∷ ts)
  found_step kind n f r = token kind f.text f.rest f.split f.longest (subst (λ k. Reads (EndsBy o) (at + k) f.rest ts) f.count r)

-- a token and a gap have a byte or more, and are among the bytes; a refused byte is one of them
abbrev pub Within : Piece → ℕ → Type 0
Within (piece.Gap n) len = (0 < n) × (n ≤ len)
Within (piece.Found k n) len = (0 < n) × (n ≤ len)
Within (piece.BadByte n) len = n < len
Within p len = Unit {0}

-- so it is with a token
found_within : (kind : Kind) (n : ℕ) (bytes : Text) → FoundFront kind n bytes → (0 < n) × (n ≤ length bytes)
found_within kind n bytes f = go f.text f.split f.count f.longest.token
  where
    go : (text : Text) → bytes ≡ text ++ f.rest → n ≡ length text → kind_of text ≡ Some kind → (0 < n) × (n ≤ length bytes)
    go [] s c k = let e = empty_kind in absurd (cc)
    go (b ∷ bs) s c k = let l = ap length s ∙ length-append (b ∷ bs) f.rest in (omega arith, omega arith)

-- so it is with a gap
gap_within : (n : ℕ) (bytes : Text) → GapFront n bytes → (0 < n) × (n ≤ length bytes)
gap_within n bytes g = go g.gap
  where
    whole : length bytes ≡ length g.text + length g.rest
    whole = ap length g.split ∙ length-append g.text g.rest

    close : 0 < length g.text → (0 < n) × (n ≤ length bytes)
    close h = let c = g.count in let w = whole in (omega arith, omega arith)

    go : ((b : ℕ) × (g.text ≡ b ∷ []) × (is_blank b ≡ true)) ⊎ IsComment g.text g.rest → (0 < n) × (n ≤ length bytes)
    go (inl x) = close (let l = ap length x.1 in omega arith)
    go (inr (inl x)) = close (let l = ap length x.1 in omega arith)
    go (inr (inr x)) = close (let l = ap length x.1 in omega arith)

-- so it is with a byte that may not be behind a quote
stray_within : (n : ℕ) (bytes : Text) → HasStray bytes n → n < length bytes
stray_within n bytes h = go h.2 h.3 h.6
  where
    go : (rest : Text) → bytes ≡ h.0 ∷ h.1 ++ rest → is_stray h.0 rest ≡ true → n < length bytes
    go [] s e = absurd (cc)
    go (b ∷ bs) s e = let l = ap length s ∙ ap suc (length-append h.1 (b ∷ bs)) in let c = h.7 in omega arith

-- so it is with a byte that begins nothing
nothing_within : (n : ℕ) (bytes : Text) → BeginsNothing bytes → n ≡ 0 → n < length bytes
nothing_within n [] h e = absurd h
nothing_within n (b ∷ bs) h e = omega arith

-- so it is with each piece that the bytes have
means_within : (p : Piece) (bytes : Text) → Means p bytes → Within p (length bytes)
means_within piece.End bytes m = tt
means_within (piece.Gap n) bytes m = gap_within n bytes m
means_within (piece.Found k n) bytes m = found_within k n bytes m
means_within (piece.BadByte n) bytes (inl m) = nothing_within n bytes m.0 m.1
means_within (piece.BadByte n) bytes (inr m) = stray_within n bytes m
means_within piece.OpenQuote bytes m = tt
means_within piece.OpenComment bytes m = tt
means_within piece.EmptyQuote bytes m = tt

-- so it is with the piece at the front
pub piece_within : (bytes : Text) → Within (piece_at bytes) (length bytes)
piece_within bytes = means_within (piece_at bytes) bytes (piece_means bytes)

-- a reading of what is left of the bytes from an offset on, as the scanner's answer cuts it
abbrev pub Left : Option LexRefusal → ℕ → Text → List Token → ℕ → Type 0
Left o at bytes ts n = Reads (EndsBy o) (at + n) (drop n bytes) ts

-- the rest behind a front of a length
rest_is : (bytes text rest : Text) (n : ℕ) → bytes ≡ text ++ rest → n ≡ length text → drop n bytes ≡ rest
rest_is bytes text rest n s c = ap (drop n) s ∙ drop_at text rest n (sym c)

-- the front of a length
text_is : (bytes text rest : Text) (n : ℕ) → bytes ≡ text ++ rest → n ≡ length text → take n bytes ≡ text
text_is bytes text rest n s c = ap (take n) s ∙ take_at text rest n (sym c)

module _ (o : Option LexRefusal) (at : ℕ) (bytes : Text) (ts : List Token) where
  -- a reading goes on before the gap that is answered
  pub over_gap : (n : ℕ) → piece_at bytes ≡ piece.Gap n → Left o at bytes ts n → Reads (EndsBy o) at bytes ts
  over_gap n e r = let g = subst (λ p. Means p bytes) e (piece_means bytes) in
      gap_step o at bytes ts n g (subst (λ (xs : Text). Reads (EndsBy o) (at + n) xs ts) (rest_is bytes g.text g.rest n g.split g.count) r)

  -- a reading goes on before the token that is answered
  pub over_token : (kind : Kind) (n : ℕ) → piece_at bytes ≡ piece.Found kind n → Left o at bytes ts n → Reads (EndsBy o) at bytes (record { kind = kind; start = at; text = take n bytes } ∷ ts)
  over_token kind n e r = let f = subst (λ p. Means p bytes) e (piece_means bytes) in
      subst (λ (xs : Text). Reads (EndsBy o) at bytes (record { kind = kind; start = at; text = xs } ∷ ts)) (sym (text_is bytes f.text f.rest n f.split f.count))
      (found_step o at bytes ts kind n f (subst (λ (xs : Text). Reads (EndsBy o) (at + n) xs ts) (rest_is bytes f.text f.rest n f.split f.count) r))

module _ (at : ℕ) (bytes : Text) where
  -- a reading ends where nothing is left
  pub at_end : piece_at bytes ≡ piece.End → Reads (EndsBy None) at bytes []
  at_end e = stop (subst (λ p. Means p bytes) e (piece_means bytes))

  -- a reading ends at a bad byte
  pub at_bad : (n : ℕ) → piece_at bytes ≡ piece.BadByte n → Reads (EndsBy (Some (refusal.BadByte (at + n)))) at bytes []
  at_bad n e = stop (go (subst (λ p. Means p bytes) e (piece_means bytes)))
    where
      go : Means (piece.BadByte n) bytes → EndsBy (Some (refusal.BadByte (at + n))) at bytes
      go (inl m) = inl (m.0, let z = m.1 in omega arith)
      go (inr m) = inr (n, m, refl)

  -- a reading ends at an open quote
  pub at_open_quote : piece_at bytes ≡ piece.OpenQuote → Reads (EndsBy (Some (refusal.OpenQuote at))) at bytes []
  at_open_quote e = stop (subst (λ p. Means p bytes) e (piece_means bytes), refl)

  -- a reading ends at an open comment
  pub at_open_comment : piece_at bytes ≡ piece.OpenComment → Reads (EndsBy (Some (refusal.OpenComment at))) at bytes []
  at_open_comment e = stop (subst (λ p. Means p bytes) e (piece_means bytes), refl)

  -- a reading ends at an empty quote
  pub at_empty_quote : piece_at bytes ≡ piece.EmptyQuote → Reads (EndsBy (Some (refusal.EmptyQuote at))) at bytes []
  at_empty_quote e = stop (subst (λ p. Means p bytes) e (piece_means bytes), refl)

-- some reading
abbrev pub Reading : ℕ → Text → Type 0
Reading at bytes = (o : Option LexRefusal) × (ts : List Token) × Reads (EndsBy o) at bytes ts

-- any bytes have a reading
pub some_reading : (n at : ℕ) (bytes : Text) → length bytes ≤ n → Reading at bytes
some_reading zero at [] h = (None, [], stop refl)
some_reading zero at (b ∷ bs) h = absurd (omega arith)
some_reading (suc n) at bytes h = go (piece_at bytes) refl (piece_within bytes) (some_reading n)
  where
    go : (p : Piece) → piece_at bytes ≡ p → Within (piece_at bytes) (length bytes) → ((from : ℕ) (bs : Text) → length bs ≤ n → Reading from bs) → Reading at bytes
    go piece.End e w more = (None, [], at_end at bytes e)
    go (piece.Gap k) e w more = let v = subst (λ p. Within p (length bytes)) e w in let low = v.0 in let r = more (at + k) (drop k bytes) (omega (arith, length-drop k bytes)) in (r.0, r.1, over_gap r.0 at bytes r.1 k e r.2)
    go (piece.Found kind k) e w more = let v = subst (λ p. Within p (length bytes)) e w in let low = v.0 in let r = more (at + k) (drop k bytes) (omega (arith, length-drop k bytes)) in (r.0, record { kind = kind; start = at; text = take k bytes } ∷ r.1, over_token r.0 at bytes r.1 kind k e r.2)
    go (piece.BadByte k) e w more = (Some (refusal.BadByte (at + k)), [], at_bad at bytes k e)
    go piece.OpenQuote e w more = (Some (refusal.OpenQuote at), [], at_open_quote at bytes e)
    go piece.OpenComment e w more = (Some (refusal.OpenComment at), [], at_open_comment at bytes e)
    go piece.EmptyQuote e w more = (Some (refusal.EmptyQuote at), [], at_empty_quote at bytes e)
