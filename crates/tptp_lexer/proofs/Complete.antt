-- What is at the front of bytes, by the definitions, is what the scanner's function answers.
use Rattle.std.proofs.Common.{◌≡◌, ℕ, ◌+◌, ◌⊎◌, inl, inr, Bool, true, false, not, cond, [], ◌∷◌, ◌++◌, length, refl, ap, sym, ◌∙◌, subst, arith, Some, None, append_assoc, length-append}
use Rattle.std.specs.Prelude.{bytes_eq}
use Rattle.std.specs.List.{prefix_len}
use Rattle.text_core.specs.Names.{Text}
use Rattle.text_core.proofs.Laws.{and_both, not_both}
use Rattle.tptp_lexer.specs.declared.kind.Kind.{Kind}
use Rattle.tptp_lexer.specs.declared.kind.Kind.TheVariants.{Quoted}
use Rattle.tptp_lexer.specs.declared.piece.Piece.{Piece}
use Rattle.tptp_lexer.specs.declared.piece.Piece.TheVariants.{End, Gap, Found, BadByte, OpenQuote, OpenComment, EmptyQuote}
use Rattle.tptp_lexer.specs.declared.quote.QuoteEnd.TheVariants.{Closed, Stray, Open}
use Rattle.tptp_lexer.specs.Kinds.{kind_of, is_quoted, is_quoted_word, inside}
use Rattle.tptp_lexer.specs.Tokens.{is_blank, IsComment, IsLineComment, IsBlockComment, IsLongest, is_end_of_line}
use Rattle.tptp_lexer.specs.Refused.{BeginsNothing, HasStray, IsOpenQuote, IsOpenComment, IsEmptyQuote, is_quote, begins_comment}
use Rattle.tptp_lexer.specs.Scanning.{piece_at, piece_from, other_from, slash_from, quoted_piece, distinct_piece, block_piece, quote_end, block_end, is_not_feed, further}
use Rattle.tptp_lexer.proofs.Heads.{empty_kind, blank_kind, percent_kind, slash_kind, single_kind}
use Rattle.tptp_lexer.proofs.Runs.{stops, counted}
use Rattle.tptp_lexer.proofs.Quotes.{at_quote, at_last}
use Rattle.tptp_lexer.proofs.Bodies.{body_end, quote_cases, quote_unescaped, stray_end}
use Rattle.tptp_lexer.proofs.Blocks.{block_close, block_open}
use Rattle.tptp_lexer.proofs.Quoted.{quoted_end, single_none, double_none}
use Rattle.tptp_lexer.proofs.Fronts.{GapFront, Means}
use Rattle.tptp_lexer.proofs.Pieces.{piece_means}
use Rattle.tptp_lexer.proofs.Longest.{one_longest}

-- a blank is a gap
pub blank_piece : (b : ℕ) (bs : Text) → is_blank b ≡ true → piece_at (b ∷ bs) ≡ Gap 1
unfolding piece_from
blank_piece b bs h = rw h

-- a comment up to the end of its line is a gap
percent_piece : (bs : Text) → piece_at (37 ∷ bs) ≡ Gap (1 + prefix_len is_not_feed bs)
unfolding piece_from other_from
percent_piece bs = refl

-- what begins with `/*` is what the offset of the first `*/` makes it
block_start : (bs : Text) → piece_at (47 ∷ 42 ∷ bs) ≡ block_piece (block_end bs)
unfolding piece_from other_from slash_from
block_start bs = refl

-- what begins with a single quote is what its end makes it
single_piece : (bs : Text) → piece_at (39 ∷ bs) ≡ quoted_piece (quote_end 39 bs)
unfolding piece_from other_from
single_piece bs = refl

-- what begins with a double quote is what its end makes it
double_piece : (bs : Text) → piece_at (34 ∷ bs) ≡ distinct_piece (quote_end 34 bs)
unfolding piece_from other_from
double_piece bs = refl

-- a line ends where its line feed is
line_stops : (rest : Text) → is_end_of_line rest ≡ true → stops is_not_feed rest ≡ true
line_stops [] h = refl
line_stops (b ∷ bs) h = rw h

-- a whole comment up to the end of its line is a gap
line_piece : (text rest : Text) → IsLineComment text rest → piece_at (text ++ rest) ≡ Gap (length text)
line_piece text rest c = ap (λ (xs : Text). piece_at (xs ++ rest)) c.1 ∙ percent_piece (c.0 ++ rest) ∙ ap (λ n. Gap (1 + n)) (counted is_not_feed c.0 rest c.2 (line_stops rest c.3)) ∙ ap Gap (let l = ap length c.1 in omega arith)

-- a whole comment in `/*` and `*/` is a gap
block_comment_piece : (text rest : Text) → IsBlockComment text → piece_at (text ++ rest) ≡ Gap (length text)
block_comment_piece text rest c =
    ap (λ (xs : Text). piece_at (xs ++ rest)) c.1 ∙ block_start ((c.0 ++ 42 ∷ 47 ∷ []) ++ rest) ∙ ap (λ (xs : Text). block_piece (block_end xs)) (append_assoc c.0 (42 ∷ 47 ∷ []) rest) ∙ ap block_piece (block_close c.0 rest c.2) ∙ ap Gap (let l = ap length c.1 in let k = length-append c.0 (42 ∷ 47 ∷ []) in omega arith)

-- a whole comment is a gap
pub comment_piece : (text rest : Text) → IsComment text rest → piece_at (text ++ rest) ≡ Gap (length text)
comment_piece text rest (inl c) = line_piece text rest c
comment_piece text rest (inr c) = block_comment_piece text rest c

-- a token and a byte that begins none do not go together
module _ (kind : Kind) (text rest bytes : Text) (split : bytes ≡ text ++ rest) (longest : IsLongest kind text rest) where
  -- no byte with which no token begins is at the front
  headed : (b : ℕ) (bs : Text) → bytes ≡ b ∷ bs → ((cs : Text) → kind_of (b ∷ cs) ≡ None) → ⊥
  headed b bs e none = go text split longest.token
    where
      go : (t : Text) → bytes ≡ t ++ rest → kind_of t ≡ Some kind → ⊥
      go [] s k = let n = empty_kind in absurd (cc)
      go (c ∷ cs) s k = let same : b ≡ c = cc in let n = none cs in let m = ap (λ x. kind_of (x ∷ cs)) same in absurd (cc)

  -- what follows the quote at the front of a token in quotes
  quoted_tail : (b : ℕ) (bs : Text) → bytes ≡ b ∷ bs → (cs : Text) × (text ≡ b ∷ cs) × (bs ≡ cs ++ rest)
  quoted_tail b bs e = go text split longest.token
    where
      go : (t : Text) → bytes ≡ t ++ rest → kind_of t ≡ Some kind → (cs : Text) × (t ≡ b ∷ cs) × (bs ≡ cs ++ rest)
      go [] s k = let n = empty_kind in absurd (cc)
      go (c ∷ cs) s k = (cs, cc, cc)

  -- a token that begins with a quote is quoted
  is_quoted_from : (q : ℕ) (cs : Text) → text ≡ q ∷ cs → (is_quoted q (q ∷ cs) ≡ false → kind_of (q ∷ cs) ≡ None) → is_quoted q (q ∷ cs) ≡ true
  is_quoted_from q cs e none = go (is_quoted q (q ∷ cs)) refl
    where
      go : (t : Bool) → is_quoted q (q ∷ cs) ≡ t → t ≡ true
      go true h = refl
      go false h = let n = none h in let k = longest.token in let m = ap kind_of e in absurd (cc)

  -- behind a quote at the front the bytes are closed
  closes : (q : ℕ) (bs : Text) → bytes ≡ q ∷ bs → (q ≡ 39) ⊎ (q ≡ 34) → (n : ℕ) × (quote_end q bs ≡ Closed n)
  closes q bs e c = let t = quoted_tail q bs e in
      let q_end = quoted_end q t.0 rest (quote_unescaped q c) (is_quoted_from q t.0 t.1 (none c t.0)) in
      (length (inside (q ∷ t.0)), ap (quote_end q) t.2 ∙ q_end.0)
    where
      none : (q ≡ 39) ⊎ (q ≡ 34) → (cs : Text) → is_quoted q (q ∷ cs) ≡ false → kind_of (q ∷ cs) ≡ None
      none (inl e) cs = subst (λ x. is_quoted x (x ∷ cs) ≡ false → kind_of (x ∷ cs) ≡ None) (sym e) (single_none cs)
      none (inr e) cs = subst (λ x. is_quoted x (x ∷ cs) ≡ false → kind_of (x ∷ cs) ≡ None) (sym e) (double_none cs)

  -- a token and a quote with no end do not go together
  unclosed : (q : ℕ) (bs : Text) → bytes ≡ q ∷ bs → is_quote q ≡ true → ((n : ℕ) → quote_end q bs ≡ Closed n → ⊥) → ⊥
  unclosed q bs e c none = let closed = closes q bs e (quote_cases q c) in none closed.0 closed.1

  -- a token and an empty quote do not go together
  filled : (bs : Text) → bytes ≡ 39 ∷ 39 ∷ bs → ⊥
  filled bs e = go (quoted_tail 39 (39 ∷ bs) e)
    where
      word : (cs : Text) → text ≡ 39 ∷ cs → (t : Bool) → is_quoted_word (39 ∷ cs) ≡ t → t ≡ true
      word cs e true h = refl
      word cs e false h = let n = single_kind cs ∙ ap (λ t. cond t (Some Quoted) None) h in let k = longest.token in let m = ap kind_of e in absurd (cc)

      empty : (xs : Text) → length xs ≡ 0 → not (bytes_eq xs []) ≡ true → ⊥
      empty [] l h = absurd (cc)
      empty (x ∷ xs) l h = absurd (omega arith)

      go : (cs : Text) × (text ≡ 39 ∷ cs) × (39 ∷ bs ≡ cs ++ rest) → ⊥
      go t =
          let w = word t.0 t.1 (is_quoted_word (39 ∷ t.0)) refl in
          let ends = quoted_end 39 t.0 rest (λ x. absurd (omega arith)) (and_both (is_quoted 39 (39 ∷ t.0)) (not (bytes_eq (inside (39 ∷ t.0)) [])) w).0 in
          let now : Closed (length (inside (39 ∷ t.0))) ≡ Closed 0 = sym ends.0 ∙ ap (quote_end 39) (sym t.2) ∙ at_quote 39 39 bs refl in
          let none : length (inside (39 ∷ t.0)) ≡ 0 = cc in
          empty (inside (39 ∷ t.0)) none (and_both (is_quoted 39 (39 ∷ t.0)) (not (bytes_eq (inside (39 ∷ t.0)) [])) w).1

-- behind a body the bytes end as the rest does
stray_ends : (bytes : Text) (n : ℕ) (h : HasStray bytes n) → quote_end h.0 (h.1 ++ h.2) ≡ Stray (length h.1)
stray_ends bytes n h = body_end h.0 h.1 h.2 (quote_unescaped h.0 (quote_cases h.0 h.4)) h.5 ∙ ap (further (length h.1)) (stray_end h.0 h.2 (quote_cases h.0 h.4) h.6) ∙ ap Stray (omega arith)

-- behind a body with nothing, or a backslash, behind it the bytes are open
open_ends : (bytes : Text) (h : IsOpenQuote bytes) → quote_end h.0 (h.1 ++ h.2) ≡ Open
open_ends bytes h = body_end h.0 h.1 h.2 (quote_unescaped h.0 (quote_cases h.0 h.4)) h.5 ∙ ap (further (length h.1)) (last h.2 h.6)
  where
    last : (rest : Text) → (rest ≡ []) ⊎ (rest ≡ 92 ∷ []) → quote_end h.0 rest ≡ Open
    last rest (inl e) = ap (quote_end h.0) e
    last rest (inr e) = ap (quote_end h.0) e ∙ at_last h.0 92 (λ s. quote_unescaped h.0 (quote_cases h.0 h.4) (sym s)) refl

module _ (kind : Kind) (text rest bytes : Text) (split : bytes ≡ text ++ rest) (longest : IsLongest kind text rest) where
  -- a token and a byte that begins nothing do not go together
  nothing_else : (bs : Text) → bytes ≡ bs → BeginsNothing bs → ⊥
  nothing_else [] e h = h
  nothing_else (b ∷ bs) e h = let n = h.3 text rest (sym e ∙ split) in let k = longest.token in absurd (cc)

  -- a token and no bytes do not go together
  no_end : (t : Text) → bytes ≡ t ++ rest → kind_of t ≡ Some kind → bytes ≡ [] → ⊥
  no_end [] s k e = let n = empty_kind in absurd (cc)
  no_end (c ∷ cs) s k e = absurd (cc)

  -- a token and a gap do not go together
  no_gap : (len : ℕ) → GapFront len bytes → ⊥
  no_gap len g = go g.text g.rest g.split g.gap
    where
      go : (t r : Text) → bytes ≡ t ++ r → ((b : ℕ) × (t ≡ b ∷ []) × (is_blank b ≡ true)) ⊎ IsComment t r → ⊥
      go t r s (inl x) = headed kind text rest bytes split longest x.0 r (s ∙ ap (λ (xs : Text). xs ++ r) x.1) (λ cs. blank_kind x.0 cs x.2)
      go t r s (inr (inl x)) = headed kind text rest bytes split longest 37 (x.0 ++ r) (s ∙ ap (λ (xs : Text). xs ++ r) x.1) percent_kind
      go t r s (inr (inr x)) = headed kind text rest bytes split longest 47 (42 ∷ (x.0 ++ 42 ∷ 47 ∷ []) ++ r) (s ∙ ap (λ (xs : Text). xs ++ r) x.1) slash_kind

  -- each piece that the bytes have is the token
  found_piece : (p : Piece) → Means p bytes → p ≡ Found kind (length text)
  found_piece End m = absurd (no_end text split longest.token m)
  found_piece (Gap len) m = absurd (no_gap len m)
  found_piece (Found k len) m = let s = one_longest kind k text rest m.text m.rest (sym split ∙ m.split) longest m.longest in let c = m.count in let k = s.0 in let t = ap length s.1 in cc
  found_piece (BadByte n) (inl m) = absurd (nothing_else bytes refl m.0)
  found_piece (BadByte n) (inr m) = absurd (unclosed kind text rest bytes split longest m.0 (m.1 ++ m.2) m.3 m.4 (λ k e. let s = stray_ends bytes n m in absurd (cc)))
  found_piece OpenQuote m = absurd (unclosed kind text rest bytes split longest m.0 (m.1 ++ m.2) m.3 m.4 (λ k e. let s = open_ends bytes m in absurd (cc)))
  found_piece OpenComment m = absurd (headed kind text rest bytes split longest 47 (42 ∷ m.0) m.1 slash_kind)
  found_piece EmptyQuote m = absurd (filled kind text rest bytes split longest m.0 m.1)

  -- the longest token is the piece
  pub token_piece : piece_at bytes ≡ Found kind (length text)
  token_piece = found_piece (piece_at bytes) (piece_means bytes)

-- the refusals

-- a byte that may not be behind a quote is a bad byte
pub stray_piece : (bytes : Text) (n : ℕ) → HasStray bytes n → piece_at bytes ≡ BadByte n
stray_piece bytes n h = ap piece_at h.3 ∙ go (quote_cases h.0 h.4) ∙ ap BadByte (sym h.7)
  where
    go : (h.0 ≡ 39) ⊎ (h.0 ≡ 34) → piece_at (h.0 ∷ h.1 ++ h.2) ≡ BadByte (1 + length h.1)
    go (inl e) = ap (λ q. piece_at (q ∷ h.1 ++ h.2)) e ∙ single_piece (h.1 ++ h.2) ∙ ap quoted_piece (ap (λ q. quote_end q (h.1 ++ h.2)) (sym e) ∙ stray_ends bytes n h)
    go (inr e) = ap (λ q. piece_at (q ∷ h.1 ++ h.2)) e ∙ double_piece (h.1 ++ h.2) ∙ ap distinct_piece (ap (λ q. quote_end q (h.1 ++ h.2)) (sym e) ∙ stray_ends bytes n h)

-- a quote that is still open is an open quote
pub open_piece : (bytes : Text) → IsOpenQuote bytes → piece_at bytes ≡ OpenQuote
open_piece bytes h = ap piece_at h.3 ∙ go (quote_cases h.0 h.4)
  where
    go : (h.0 ≡ 39) ⊎ (h.0 ≡ 34) → piece_at (h.0 ∷ h.1 ++ h.2) ≡ OpenQuote
    go (inl e) = ap (λ q. piece_at (q ∷ h.1 ++ h.2)) e ∙ single_piece (h.1 ++ h.2) ∙ ap quoted_piece (ap (λ q. quote_end q (h.1 ++ h.2)) (sym e) ∙ open_ends bytes h)
    go (inr e) = ap (λ q. piece_at (q ∷ h.1 ++ h.2)) e ∙ double_piece (h.1 ++ h.2) ∙ ap distinct_piece (ap (λ q. quote_end q (h.1 ++ h.2)) (sym e) ∙ open_ends bytes h)

-- a comment that nothing closes is an open comment
pub open_comment_piece : (bytes : Text) → IsOpenComment bytes → piece_at bytes ≡ OpenComment
open_comment_piece bytes h = ap piece_at h.1 ∙ block_start h.0 ∙ ap block_piece (block_open h.0 h.2)

-- two single quotes are an empty quote
pub empty_piece : (bytes : Text) → IsEmptyQuote bytes → piece_at bytes ≡ EmptyQuote
empty_piece bytes h = ap piece_at h.1 ∙ single_piece (39 ∷ h.0) ∙ ap quoted_piece (at_quote 39 39 h.0 refl)

-- a byte that begins nothing begins no piece
module _ (b : ℕ) (bs : Text) (nothing : BeginsNothing (b ∷ bs)) where
  -- it is no quote
  not_quoted : (q : ℕ) (more : Text) → b ∷ bs ≡ q ∷ more → is_quote q ≡ true → ⊥
  not_quoted q more e h = let same : b ≡ q = cc in not_both (is_quote b) (ap is_quote same ∙ h) nothing.2

  -- it begins no comment
  not_comment : (more : Text) → b ∷ bs ≡ more → begins_comment more ≡ true → ⊥
  not_comment more e h = not_both (begins_comment (b ∷ bs)) (ap begins_comment e ∙ h) nothing.1

  -- it begins no gap
  not_gap : (t r : Text) → b ∷ bs ≡ t ++ r → ((c : ℕ) × (t ≡ c ∷ []) × (is_blank c ≡ true)) ⊎ IsComment t r → ⊥
  not_gap t r s (inl x) = let whole : b ∷ bs ≡ x.0 ∷ r = s ∙ ap (λ (xs : Text). xs ++ r) x.1 in let same : b ≡ x.0 = cc in not_both (is_blank b) (ap is_blank same ∙ x.2) nothing.0
  not_gap t r s (inr (inl x)) = not_comment (37 ∷ x.0 ++ r) (s ∙ ap (λ (xs : Text). xs ++ r) x.1) refl
  not_gap t r s (inr (inr x)) = not_comment (47 ∷ 42 ∷ (x.0 ++ 42 ∷ 47 ∷ []) ++ r) (s ∙ ap (λ (xs : Text). xs ++ r) x.1) refl

  -- each piece that the bytes have is a bad byte
  bad_piece : (p : Piece) → Means p (b ∷ bs) → p ≡ BadByte 0
  bad_piece End m = absurd (cc)
  bad_piece (Gap len) m = absurd (not_gap m.text m.rest m.split m.gap)
  bad_piece (Found k len) m = let n = nothing.3 m.text m.rest m.split in let t = m.longest.token in absurd (cc)
  bad_piece (BadByte n) (inl m) = ap BadByte m.1
  bad_piece (BadByte n) (inr m) = absurd (not_quoted m.0 (m.1 ++ m.2) m.3 m.4)
  bad_piece OpenQuote m = absurd (not_quoted m.0 (m.1 ++ m.2) m.3 m.4)
  bad_piece OpenComment m = absurd (not_comment (47 ∷ 42 ∷ m.0) m.1 refl)
  bad_piece EmptyQuote m = absurd (not_quoted 39 (39 ∷ m.0) m.1 refl)

-- a byte that begins nothing is a bad byte
pub nothing_piece : (bytes : Text) → BeginsNothing bytes → piece_at bytes ≡ BadByte 0
nothing_piece [] h = absurd h
nothing_piece (b ∷ bs) h = bad_piece b bs h (piece_at (b ∷ bs)) (piece_means (b ∷ bs))
