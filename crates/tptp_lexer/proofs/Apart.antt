-- Bytes that are none of some.
use Rattle.std.proofs.Common.{◌≡◌, ◌≢◌, ℕ, ◌==◌, Bool, true, false, not, List, [], ◌∷◌, ap, sym, ◌∙◌}
use Rattle.std.specs.List.{list_all}
use Rattle.std.proofs.lemmas.Bool.{eqb-true}
use Rattle.text_core.proofs.Laws.{and_both, not_true, not_both, not_passes}

-- numbers that differ fail the test of equality
pub number_other : (a b : ℕ) → a ≢ b → (a == b) ≡ false
number_other a b h = not_passes (a == b) (λ e. h (eqb-true a b e))

-- the byte is none of these
abbrev pub Apart : ℕ → List ℕ → Type 0
Apart b [] = Unit {0}
Apart b (m ∷ ms) = ((b == m) ≡ false) × Apart b ms

-- a byte of a class is none of the bytes outside it
pub apart : (p : ℕ → Bool) (b : ℕ) (ms : List ℕ) → p b ≡ true → list_all (λ m. not (p m)) ms ≡ true → Apart b ms
apart p b [] h out = tt
apart p b (m ∷ ms) h out = (number_other b m (λ e. not_both (p m) (sym (ap p e) ∙ h) (not_true (p m) (and_both (not (p m)) (list_all (λ k. not (p k)) ms) out).0)), apart p b ms h (and_both (not (p m)) (list_all (λ k. not (p k)) ms) out).1)
