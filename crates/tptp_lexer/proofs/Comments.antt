-- Where the first `*/` is, a step at a time.
use Rattle.std.proofs.Common.{◌≡◌, ℕ, ◌+◌, ◌==◌, ◌&&◌, ◌<◌, ◌≤◌, true, false, [], ◌∷◌, length, drop, get_or, refl, sym, ap, arith, add_assoc, zero-add, Option, Some, None, option_map, length-drop}
use Rattle.std.proofs.Math.Bool.{and-false}
use Rattle.std.proofs.lemmas.List.{drop_more}
use Rattle.text_core.specs.Names.{Text}
use Rattle.tptp_lexer.specs.Kinds.{begins_with}
use Rattle.tptp_lexer.specs.Scanning.{block_end}

-- the offset of the first `*/` from an offset on
abbrev pub told : Text → ℕ → Option ℕ
told bytes at = option_map (λ n. at + n) (block_end (drop at bytes))

-- from the front on it is the first of all
pub told_start : (bytes : Text) → told bytes 0 ≡ block_end bytes
told_start bytes = same (block_end bytes)
  where
    same : (o : Option ℕ) → option_map (λ n. 0 + n) o ≡ o
    same None = refl
    same (Some n) = ap Some (zero-add n)

-- two steps are one
shifted : (m : ℕ) (o : Option ℕ) → option_map (λ n. m + n) (option_map (λ n. 1 + n) o) ≡ option_map (λ n. m + 1 + n) o
shifted m None = refl
shifted m (Some n) = ap Some (sym (add_assoc m 1 n))

module _ (bytes : Text) (at : ℕ) (below : at + 1 < length bytes) where
  -- the bytes from the offset on, by their first
  front : drop at bytes ≡ get_or bytes at 0 ∷ drop (at + 1) bytes
  front = drop_more bytes at 0 (omega arith)

  -- the byte behind it
  second : begins_with 47 (drop (at + 1) bytes) ≡ (get_or bytes (at + 1) 0 == 47)
  second = ap (begins_with 47) (drop_more bytes (at + 1) 0 below)

  -- `*/` at the offset
  pub told_close : (get_or bytes at 0 == 42 && get_or bytes (at + 1) 0 == 47) ≡ true → told bytes at ≡ Some at
  told_close e = rw (front, second, e) (ap Some (omega arith))

  -- no `*/` at the offset
  pub told_more : (get_or bytes at 0 == 42 && get_or bytes (at + 1) 0 == 47) ≡ false → told bytes at ≡ told bytes (at + 1)
  told_more e = rw (front, second, e) (shifted at (block_end (drop (at + 1) bytes)))

-- fewer than two bytes hold no `*/`
short : (bs : Text) → length bs ≤ 1 → block_end bs ≡ None
short [] h = refl
short (b ∷ []) h = rw (and-false (b == 42))
short (b ∷ c ∷ cs) h = absurd (omega arith)

-- near the end there is none
pub told_end : (bytes : Text) (at : ℕ) → length bytes ≤ at + 1 → told bytes at ≡ None
told_end bytes at h = ap (option_map (λ n. at + n)) (short (drop at bytes) (omega (arith, length-drop at bytes)))
