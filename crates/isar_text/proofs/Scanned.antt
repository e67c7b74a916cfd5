-- What is at the front of bytes, and what the scanner has read of a source: some spans, up to an offset.
use Rattle.std.proofs.Common.{◌≡◌, ℕ, zero, suc, ◌+◌, ◌-◌, ◌<◌, ◌≤◌, ◌==◌, ◌⊎◌, inl, inr, Bool, true, false, ◌||◌, List, [], ◌∷◌, ◌++◌, map, length, take, drop, refl, ap, sym, ◌∙◌, subst, arith, Option, Some, None, append_assoc, length-append, length-drop, add-one}
use Rattle.std.specs.Prelude.{All, get_or, if◌then◌else◌}
use Rattle.std.specs.List.{prefix_len}
use Rattle.std.specs.Str.{bytes_eq}
use Rattle.std.proofs.lemmas.Bool.{cond_both, ne_eqb, eqb-false}
use Rattle.std.proofs.lemmas.List.{append-nil, map-append, drop-drop, take_rest, take_at, drop_at, length-take, take-append-drop}
use Rattle.std.proofs.lemmas.List.Elements.{All-append}
use Rattle.std.proofs.lemmas.List.Sums.{prefix_len-le-length}
use Rattle.std.proofs.lemmas.Slice.Eq.{bytes_eq-Decides}
use Rattle.text_core.specs.Names.{Text, is_lower, is_upper, is_digit, is_word}
use Rattle.text_core.proofs.Laws.{or_either, number_same, not_passes}
use Rattle.isar_text.specs.declared.lexer.Piece.{Piece}
use Rattle.isar_text.specs.declared.lexer.Piece.TheVariants as piece
use Rattle.isar_text.specs.declared.token_list.Span.{Span}
use Rattle.isar_text.specs.Scanning.{found, piece_at}
use Rattle.isar_text.specs.Spans.{token_of, IsWithin}
use Rattle.isar_text.specs.Tokens.{Token, is_blank, signs, is_front, sign_len, token_len, IsFirst, Reads, stop, blank, token, BeginsNothing, EndsBy, AreTokens}

-- bytes that begin with a text are as long
front_within : (text bytes : Text) → is_front text bytes ≡ true → length text ≤ length bytes
front_within text bytes h =
    let same : take (length text) bytes ≡ text = (bytes_eq-Decides (take (length text) bytes) text).0 h in
    let long = ap length same in omega (arith, length-take (length text) bytes, long)

-- shorter bytes do not begin with it
pub not_front : (text bytes : Text) → length bytes < length text → is_front text bytes ≡ false
not_front text bytes h = not_passes (is_front text bytes) (λ front. let long = front_within text bytes front in omega arith)

-- a sign at the front is among the bytes
sign_within : (texts : List Text) (bytes : Text) → sign_len texts bytes ≤ length bytes
sign_within [] bytes = omega arith
sign_within (text ∷ texts) bytes = go (is_front text bytes) refl (sign_within texts bytes)
  where
    go : (t : Bool) → is_front text bytes ≡ t → sign_len texts bytes ≤ length bytes → (if t then length text else sign_len texts bytes) ≤ length bytes
    go true e later = front_within text bytes e
    go false e later = later

-- a token at the front is among the bytes
pub token_within : (bytes : Text) → token_len bytes ≤ length bytes
unfolding token_len
token_within [] = omega arith
token_within (b ∷ bs) =
    cond_both (is_lower b || is_upper b) (1 + prefix_len is_word bs) _ (λ n. n ≤ length (b ∷ bs))
    (λ word. let few = prefix_len-le-length is_word bs in omega arith)
    (λ other. cond_both (is_digit b) (1 + prefix_len is_digit bs) (sign_len signs (b ∷ bs)) (λ n. n ≤ length (b ∷ bs))
    (λ digit. let few = prefix_len-le-length is_digit bs in omega arith)
    (λ sign. sign_within signs (b ∷ bs)))

-- no token begins with a blank
space_len : (bs : Text) → token_len (32 ∷ bs) ≡ 0
unfolding token_len
space_len bs = refl

feed_len : (bs : Text) → token_len (10 ∷ bs) ≡ 0
unfolding token_len
feed_len bs = refl

blank_len : (b : ℕ) (bs : Text) → is_blank b ≡ true → token_len (b ∷ bs) ≡ 0
blank_len b bs h = elim (or_either (b == 32) (b == 10) h) [
  | inl space ↦ ap (λ (c : ℕ). token_len (c ∷ bs)) (number_same b 32 space) ∙ space_len bs
  | inr feed ↦ ap (λ (c : ℕ). token_len (c ∷ bs)) (number_same b 10 feed) ∙ feed_len bs
]

-- nothing is no token
none_len : token_len [] ≡ 0
unfolding token_len
none_len = refl

-- what a piece says of the bytes at whose front it is
abbrev pub Means : Piece → Text → Type 0
Means piece.End bytes = bytes ≡ []
Means piece.Blank bytes = (b : ℕ) × (bs : Text) × (bytes ≡ b ∷ bs) × (is_blank b ≡ true)
Means (piece.Found n) bytes = (0 < n) × (n ≤ length bytes) × (token_len bytes ≡ n)
Means piece.Nothing bytes = BeginsNothing bytes

-- so it is at any bytes
pub piece_means : (bytes : Text) → Means (piece_at bytes) bytes
piece_means [] = refl
piece_means (b ∷ bs) =
    cond_both (is_blank b) piece.Blank (found (token_len (b ∷ bs))) (λ p. Means p (b ∷ bs)) (λ is. (b, bs, refl, is))
    (λ other. cond_both (token_len (b ∷ bs) == 0) piece.Nothing (piece.Found (token_len (b ∷ bs))) (λ p. Means p (b ∷ bs))
    (λ none. (other, number_same (token_len (b ∷ bs)) 0 none))
    (λ some. (let more = eqb-false (token_len (b ∷ bs)) 0 some in omega (arith, more), token_within (b ∷ bs), refl)))

-- a blank is one
pub blank_piece : (b : ℕ) (bs : Text) → is_blank b ≡ true → piece_at (b ∷ bs) ≡ piece.Blank
blank_piece b bs h = rw h

-- a token at the front is found
pub token_piece : (text rest : Text) → IsFirst text rest → piece_at (text ++ rest) ≡ piece.Found (length text)
token_piece [] rest f = let some = f.some in absurd (omega arith)
token_piece (b ∷ bs) rest f = go (is_blank b) refl
  where
    go : (t : Bool) → is_blank b ≡ t → (if t then piece.Blank else found (token_len (b ∷ (bs ++ rest)))) ≡ piece.Found (length (b ∷ bs))
    go true e =
        let none = blank_len b (bs ++ rest) e in
        let some = f.some in
        let len = f.len in absurd (omega arith)
    go false e = ap found f.len ∙ ap (λ (t : Bool). if t then piece.Nothing else piece.Found (length (b ∷ bs))) (ne_eqb (length (b ∷ bs)) 0 (λ same. omega (arith, same)))

-- where no token begins, none is found
pub nothing_piece : (bytes : Text) → BeginsNothing bytes → piece_at bytes ≡ piece.Nothing
nothing_piece [] h = absurd h
nothing_piece (b ∷ bs) h = rw (h.0, h.1) refl

-- the bytes have one reading

-- what a reading is behind the piece at its front
abbrev pub After : Option ℕ → ℕ → Text → List Token → Piece → Type 0
After bad at bytes ts piece.End = (bad ≡ None) × (ts ≡ [])
After bad at bytes ts piece.Blank = Reads (EndsBy bad) (at + 1) (drop 1 bytes) ts
After bad at bytes ts (piece.Found n) = (us : List Token) × (ts ≡ record { start = at; text = take n bytes } ∷ us) × Reads (EndsBy bad) (at + n) (drop n bytes) us
After bad at bytes ts piece.Nothing = (bad ≡ Some at) × (ts ≡ [])

-- a reading may end here, with this outcome
abbrev Ends : Option ℕ → ℕ → Piece → Type 0
Ends bad at piece.End = bad ≡ None
Ends bad at piece.Nothing = bad ≡ Some at
Ends bad at _ = ⊥

-- so does one that ends
ended : (bad : Option ℕ) (at : ℕ) (bytes : Text) → EndsBy bad at bytes → Ends bad at (piece_at bytes)
ended None at bytes e = subst (Ends None at) (sym (ap piece_at e)) refl
ended (Some offset) at bytes e = subst (Ends (Some offset) at) (sym (nothing_piece bytes e.0)) (ap Some e.1)

-- nothing is behind it
stopped : (bad : Option ℕ) (at : ℕ) (bytes : Text) (p : Piece) → Ends bad at p → After bad at bytes [] p
stopped bad at bytes piece.End e = (e, refl)
stopped bad at bytes piece.Nothing e = (e, refl)
stopped bad at bytes _ e = absurd e

-- each reading goes on behind the piece at its front
after : (bad : Option ℕ) (at : ℕ) (bytes : Text) (ts : List Token) → Reads (EndsBy bad) at bytes ts → After bad at bytes ts (piece_at bytes)
after bad at bytes _ (stop h) = stopped bad at bytes (piece_at bytes) (ended bad at bytes h)
after bad at _ ts (blank {b = b} {rest = rest} h r) = subst (After bad at (b ∷ rest) ts) (sym (blank_piece b rest h)) r
after bad at bytes _ (token {ts = us} text rest e f r) =
    let p = ap piece_at e ∙ token_piece text rest f in
    let left : rest ≡ drop (length text) bytes = sym (ap (drop (length text)) e ∙ drop_at text rest (length text) refl) in
    let front : text ≡ take (length text) bytes = sym (ap (take (length text)) e ∙ take_at text rest (length text) refl) in
    subst (After bad at bytes (record { start = at; text = text } ∷ us)) (sym p)
    (us, ap (λ (xs : Text). record { start = at; text = xs } ∷ us) front, subst (λ (xs : Text). Reads (EndsBy bad) (at + length text) xs us) left r)

-- two readings that end here
both_stop : (a b : Option ℕ) (at : ℕ) (bytes : Text) (us : List Token) (p : Piece) → Ends a at p → After b at bytes us p → (a ≡ b) × (◌≡◌ {A = List Token} [] us)
both_stop a b at bytes us piece.End x y = (x ∙ sym y.0, sym y.1)
both_stop a b at bytes us piece.Nothing x y = (x ∙ sym y.0, sym y.1)
both_stop a b at bytes us _ x y = absurd x

-- two readings are the same
pub one_reading : (a b : Option ℕ) (at : ℕ) (bytes : Text) (ts us : List Token) → AreTokens at bytes ts a → AreTokens at bytes us b → (a ≡ b) × (ts ≡ us)
one_reading a b at bytes _ us (stop h) s = both_stop a b at bytes us (piece_at bytes) (ended a at bytes h) (after b at bytes us s)
one_reading a b at _ ts us (blank {b = c} {rest = rest} h r) s = one_reading a b (at + 1) rest ts us r (subst (After b at (c ∷ rest) us) (blank_piece c rest h) (after b at (c ∷ rest) us s))
one_reading a b at bytes _ us (token {ts = ts} text rest e f r) s =
    let x = subst (After b at bytes us) (ap piece_at e ∙ token_piece text rest f) (after b at bytes us s) in
    let front : take (length text) bytes ≡ text = ap (take (length text)) e ∙ take_at text rest (length text) refl in
    let i = one_reading a b (at + length text) rest ts x.0 r (subst (λ (xs : Text). Reads (EndsBy b) (at + length text) xs x.0) (ap (drop (length text)) e ∙ drop_at text rest (length text) refl) x.2) in
    (i.0, sym (x.1 ∙ ap (λ (xs : Text). record { start = at; text = xs } ∷ x.0) front ∙ ap (λ (vs : List Token). record { start = at; text = text } ∷ vs) (sym i.1)))

-- a reading goes on by the piece at its front

-- before a blank
pub over_blank : (bad : Option ℕ) (at : ℕ) (bytes : Text) (ts : List Token) → piece_at bytes ≡ piece.Blank → Reads (EndsBy bad) (at + 1) (drop 1 bytes) ts → Reads (EndsBy bad) at bytes ts
over_blank bad at bytes ts e r =
    let (b, bs, split, is) = subst (λ p. Means p bytes) e (piece_means bytes) in
    subst (λ (xs : Text). Reads (EndsBy bad) at xs ts) (sym split)
    (blank is (subst (λ (xs : Text). Reads (EndsBy bad) (at + 1) xs ts) (ap (drop 1) split) r))

-- before a token
pub over_token : (bad : Option ℕ) (at : ℕ) (bytes : Text) (ts : List Token) (n : ℕ) → piece_at bytes ≡ piece.Found n → Reads (EndsBy bad) (at + n) (drop n bytes) ts →
    Reads (EndsBy bad) at bytes (record { start = at; text = take n bytes } ∷ ts)
over_token bad at bytes ts n e r =
    let (some, within, len) = subst (λ p. Means p bytes) e (piece_means bytes) in
    let split = take-append-drop n bytes in
    let long : length (take n bytes) ≡ n = omega (arith, length-take n bytes) in
    token (take n bytes) (drop n bytes) (sym split)
    (record { some = omega arith; len = ap token_len split ∙ (len ∙ sym long) })
    (subst (λ (k : ℕ). Reads (EndsBy bad) (at + k) (drop n bytes) ts) (sym long) r)

-- at the end
pub at_end : (at : ℕ) (bytes : Text) → piece_at bytes ≡ piece.End → Reads (EndsBy None) at bytes []
at_end at bytes e = stop (subst (λ p. Means p bytes) e (piece_means bytes))

-- where no token begins
pub at_nothing : (at : ℕ) (bytes : Text) → piece_at bytes ≡ piece.Nothing → Reads (EndsBy (Some at)) at bytes []
at_nothing at bytes e = stop (subst (λ p. Means p bytes) e (piece_means bytes), refl)

-- what a call at the rest of the source answered
pub seen_at : (source : Text) (at : ℕ) (r p : Piece) → r ≡ piece_at (take (length source - at) (drop at source)) → r ≡ p → piece_at (drop at source) ≡ p
seen_at source at r p h e = ap piece_at (sym (take_rest source at)) ∙ (sym h ∙ e)

-- a token is within what is left
pub found_bounds : (source : Text) (at n : ℕ) → at ≤ length source → piece_at (drop at source) ≡ piece.Found n → (0 < n) × (at + n ≤ length source)
found_bounds source at n h e =
    let w = subst (λ p. Means p (drop at source)) e (piece_means (drop at source)) in
    let low = w.0 in
    let high = w.1 in (low, omega (arith, length-drop at source))

-- a blank is within what is left
pub blank_bounds : (source : Text) (at : ℕ) → at ≤ length source → piece_at (drop at source) ≡ piece.Blank → at < length source
blank_bounds source at h e =
    let w = subst (λ p. Means p (drop at source)) e (piece_means (drop at source)) in
    let long = ap length w.2 in omega (arith, length-drop at source, long)

-- the spans are within the source, and each reading from the offset on is one from the start on behind their tokens
pub record IsScanned (source : Text) (start : ℕ) (spans : List Span) (at : ℕ) : Type 0 where
  pub below : at ≤ length source
  pub within : All (IsWithin source) spans
  pub read : (bad : Option ℕ) (us : List Token) → Reads (EndsBy bad) at (drop at source) us → Reads (EndsBy bad) start (drop start source) (map (token_of source) spans ++ us)

-- at the start nothing is read
pub scanned_start : (source : Text) (start : ℕ) → start ≤ length source → IsScanned source start [] start
scanned_start source start h = record { below = h; within = λ k d h. absurd (omega arith); read = λ bad us r. r }

module _ (source : Text) (start : ℕ) (spans : List Span) (at : ℕ) (s : IsScanned source start spans at) where
  -- a blank is passed
  pub scanned_blank : piece_at (drop at source) ≡ piece.Blank → IsScanned source start spans (at + 1)
  scanned_blank e = record {
    below = let more = blank_bounds source at s.below e in omega arith;
    within = s.within;
    read = λ bad us r. s.read bad us (over_blank bad at (drop at source) us e (subst (λ (xs : Text). Reads (EndsBy bad) (at + 1) xs us) (sym (drop-drop 1 at source)) r));
  }

  -- a token is added
  pub scanned_token : (n : ℕ) → piece_at (drop at source) ≡ piece.Found n → IsScanned source start (spans ++ record { start = at; end = at + n } ∷ []) (at + n)
  scanned_token n e = record {
    below = (found_bounds source at n s.below e).1;
    within = All-append (IsWithin source) spans (span ∷ []) s.within (λ k d h. one k d h);
    read = λ bad us r. subst (Reads (EndsBy bad) start (drop start source)) (sym (spelled us))
        (s.read bad (token_of source span ∷ us)
        (subst (λ (xs : Text). Reads (EndsBy bad) at (drop at source) (record { start = at; text = xs } ∷ us)) (ap (λ k. take k (drop at source)) (omega arith))
        (over_token bad at (drop at source) us n e (subst (λ (xs : Text). Reads (EndsBy bad) (at + n) xs us) (sym (drop-drop n at source)) r))));
  }
    where
      span : Span
      span = record { start = at; end = at + n }

      fits : IsWithin source span
      fits = (omega arith, (found_bounds source at n s.below e).1)

      one : (k : ℕ) (d : Span) → k < 1 → IsWithin source (get_or (span ∷ []) k d)
      one zero d h = fits
      one (suc k) d h = absurd (omega arith)

      spelled : (us : List Token) → map (token_of source) (spans ++ span ∷ []) ++ us ≡ map (token_of source) spans ++ token_of source span ∷ us
      spelled us = ap (λ (ts : List Token). ts ++ us) (map-append (token_of source) spans (span ∷ [])) ∙ append_assoc (map (token_of source) spans) (token_of source span ∷ []) us

  -- at the end all tokens are there
  pub scanned_end : piece_at (drop at source) ≡ piece.End → AreTokens start (drop start source) (map (token_of source) spans) None
  scanned_end e = subst (λ ts. AreTokens start (drop start source) ts None) (append-nil (map (token_of source) spans)) (s.read None [] (at_end at (drop at source) e))

  -- and where no token begins
  pub scanned_nothing : piece_at (drop at source) ≡ piece.Nothing → AreTokens start (drop start source) (map (token_of source) spans) (Some at)
  scanned_nothing e = subst (λ ts. AreTokens start (drop start source) ts (Some at)) (append-nil (map (token_of source) spans)) (s.read (Some at) [] (at_nothing at (drop at source) e))

-- a reading of some bytes from an offset on
abbrev Read : ℕ → Text → Type 0
Read at bytes = (bad : Option ℕ) × (ts : List Token) × AreTokens at bytes ts bad

-- bytes have a reading where those behind each front have one
reading_from : (at : ℕ) (bytes : Text) → ((n : ℕ) → 0 < n → n ≤ length bytes → Read (at + n) (drop n bytes)) → Read at bytes
reading_from at bytes further = go (piece_at bytes) refl
  where
    go : (p : Piece) → piece_at bytes ≡ p → Read at bytes
    go piece.End e = (None, [], at_end at bytes e)
    go piece.Nothing e = (Some at, [], at_nothing at bytes e)
    go piece.Blank e =
        let (b, bs, split, is) = subst (λ p. Means p bytes) e (piece_means bytes) in
        let long = ap length split in
        let (bad, ts, read) = further 1 (omega arith) (omega arith) in (bad, ts, over_blank bad at bytes ts e read)
    go (piece.Found n) e =
        let (some, within, len) = subst (λ p. Means p bytes) e (piece_means bytes) in
        let (bad, ts, read) = further n some within in
        (bad, record { start = at; text = take n bytes } ∷ ts, over_token bad at bytes ts n e read)

-- each text has a reading
reading_within : (most at : ℕ) (bytes : Text) → length bytes ≤ most → Read at bytes
reading_within zero at [] few = (None, [], stop refl)
reading_within zero at (b ∷ bs) few = absurd (omega arith)
reading_within (suc most) at bytes few =
    reading_from at bytes (λ n some within. reading_within most (at + n) (drop n bytes) (omega (arith, length-drop n bytes)))

pub some_reading : (at : ℕ) (bytes : Text) → (bad : Option ℕ) × (ts : List Token) × AreTokens at bytes ts bad
some_reading at bytes = reading_within (length bytes) at bytes (omega arith)
