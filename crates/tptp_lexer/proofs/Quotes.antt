-- How the bytes behind a quote end, a step at a time.
use Rattle.std.proofs.Common.{◌≡◌, ◌≢◌, ℕ, ◌+◌, ◌<◌, ◌≤◌, true, false, [], ◌∷◌, length, drop, get_or, refl, sym, ap, arith, add_assoc, zero-add}
use Rattle.std.proofs.lemmas.List.{drop_more, drop_all}
use Rattle.std.proofs.lemmas.Bool.{eq-eqb}
use Rattle.text_core.specs.Names.{Text}
use Rattle.tptp_lexer.specs.declared.quote.QuoteEnd.{QuoteEnd}
use Rattle.tptp_lexer.specs.declared.quote.QuoteEnd.TheVariants.{Closed, Stray, Open}
use Rattle.tptp_lexer.specs.Kinds.{is_printable, is_escapable}
use Rattle.tptp_lexer.specs.Scanning.{further, quote_end}
use Rattle.tptp_lexer.proofs.Apart.{number_other}

-- no bytes further on
pub further_zero : (e : QuoteEnd) → further 0 e ≡ e
further_zero (Closed n) = ap Closed (zero-add n)
further_zero (Stray n) = ap Stray (zero-add n)
further_zero Open = refl

-- two steps are one
pub further_more : (m n : ℕ) (e : QuoteEnd) → further m (further n e) ≡ further (m + n) e
further_more m n (Closed k) = ap Closed (sym (add_assoc m n k))
further_more m n (Stray k) = ap Stray (sym (add_assoc m n k))
further_more m n Open = refl

-- the quote at the front
pub at_quote : (q b : ℕ) (bs : Text) → b ≡ q → quote_end q (b ∷ bs) ≡ Closed 0
at_quote q b [] e = rw (eq-eqb b q e)
at_quote q b (c ∷ cs) e = rw (eq-eqb b q e)

-- a plain byte at the front
pub at_plain : (q b : ℕ) (bs : Text) → b ≢ q → b ≢ 92 → is_printable b ≡ true → quote_end q (b ∷ bs) ≡ further 1 (quote_end q bs)
at_plain q b [] n e p = rw (number_other b q n, p)
at_plain q b (c ∷ cs) n e p = rw (number_other b q n, number_other b 92 e, p)

-- a byte at the front that is not printable
pub at_unprintable : (q b : ℕ) (bs : Text) → b ≢ q → b ≢ 92 → is_printable b ≡ false → quote_end q (b ∷ bs) ≡ Stray 0
at_unprintable q b [] n e p = rw (number_other b q n, p)
at_unprintable q b (c ∷ cs) n e p = rw (number_other b q n, number_other b 92 e, p)

-- an escape at the front
pub at_escape : (q b c : ℕ) (cs : Text) → b ≢ q → b ≡ 92 → is_escapable q c ≡ true → quote_end q (b ∷ c ∷ cs) ≡ further 2 (quote_end q cs)
at_escape q b c cs n e p = rw (number_other b q n, eq-eqb b 92 e, p)

-- a wrong escape at the front
pub at_wrong : (q b c : ℕ) (cs : Text) → b ≢ q → b ≡ 92 → is_escapable q c ≡ false → quote_end q (b ∷ c ∷ cs) ≡ Stray 0
at_wrong q b c cs n e p = rw (number_other b q n, eq-eqb b 92 e, p)

-- a backslash that is the last byte
pub at_last : (q b : ℕ) → b ≢ q → b ≡ 92 → quote_end q (b ∷ []) ≡ Open
at_last q b n e = rw (number_other b q n, ap is_printable e)

-- the end of the bytes, told at an offset among them
abbrev pub told : ℕ → Text → ℕ → QuoteEnd
told q bytes at = further at (quote_end q (drop at bytes))

module _ (q : ℕ) (bytes : Text) (at : ℕ) (below : at < length bytes) where
  -- the bytes from the offset on, by their first
  front : drop at bytes ≡ get_or bytes at 0 ∷ drop (at + 1) bytes
  front = drop_more bytes at 0 below

  -- the quote at the offset
  pub told_quote : get_or bytes at 0 ≡ q → told q bytes at ≡ Closed at
  told_quote e = rw (front, at_quote q (get_or bytes at 0) (drop (at + 1) bytes) e) (ap Closed (omega arith))

  -- a plain byte at the offset
  pub told_plain : get_or bytes at 0 ≢ q → get_or bytes at 0 ≢ 92 → is_printable (get_or bytes at 0) ≡ true → told q bytes at ≡ told q bytes (at + 1)
  told_plain n e p = rw (front, at_plain q (get_or bytes at 0) (drop (at + 1) bytes) n e p) (further_more at 1 (quote_end q (drop (at + 1) bytes)))

  -- a byte at the offset that is not printable
  pub told_unprintable : get_or bytes at 0 ≢ q → get_or bytes at 0 ≢ 92 → is_printable (get_or bytes at 0) ≡ false → told q bytes at ≡ Stray at
  told_unprintable n e p = rw (front, at_unprintable q (get_or bytes at 0) (drop (at + 1) bytes) n e p) (ap Stray (omega arith))

  -- a backslash at the offset that is the last byte
  pub told_last : get_or bytes at 0 ≢ q → get_or bytes at 0 ≡ 92 → at + 1 ≡ length bytes → told q bytes at ≡ Open
  told_last n e l = rw (front, drop_all (at + 1) bytes (omega arith), at_last q (get_or bytes at 0) n e)

  module _ (more : at + 1 < length bytes) where
    -- the bytes behind the first
    second : drop (at + 1) bytes ≡ get_or bytes (at + 1) 0 ∷ drop (at + 2) bytes
    second = rw (← add_assoc at 1 1) (drop_more bytes (at + 1) 0 more)

    -- an escape at the offset
    pub told_escape : get_or bytes at 0 ≢ q → get_or bytes at 0 ≡ 92 → is_escapable q (get_or bytes (at + 1) 0) ≡ true → told q bytes at ≡ told q bytes (at + 2)
    told_escape n e p = rw (front, second, at_escape q (get_or bytes at 0) (get_or bytes (at + 1) 0) (drop (at + 2) bytes) n e p) (further_more at 2 (quote_end q (drop (at + 2) bytes)))

    -- a wrong escape at the offset
    pub told_wrong : get_or bytes at 0 ≢ q → get_or bytes at 0 ≡ 92 → is_escapable q (get_or bytes (at + 1) 0) ≡ false → told q bytes at ≡ Stray at
    told_wrong n e p = rw (front, second, at_wrong q (get_or bytes at 0) (get_or bytes (at + 1) 0) (drop (at + 2) bytes) n e p) (ap Stray (omega arith))

-- no bytes from the offset on
pub told_end : (q : ℕ) (bytes : Text) (at : ℕ) → length bytes ≤ at → told q bytes at ≡ Open
told_end q bytes at h = rw (drop_all at bytes h)
