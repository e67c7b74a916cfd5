-- Texts of numbers in a row, appended one after another.
use Rattle.std.proofs.Common.{◌≡◌, ℕ, suc, ◌+◌, ◌-◌, ◌<◌, List, [], ◌∷◌, ◌++◌, ap, sym, ◌∙◌, arith, append_assoc}
use Rattle.std.specs.List.{flat_map, range_with_len}

-- the text of the next number moves from those that follow to those that are there
pub next_moves : (f : ℕ → List ℕ) (out longer all : List ℕ) (number end : ℕ) → number < end → longer ≡ out ++ f number
    → out ++ flat_map f (range_with_len number (end - number)) ≡ all
    → longer ++ flat_map f (range_with_len (number + 1) (end - (number + 1))) ≡ all
next_moves f out longer all number end below is so_far =
    let one : suc (end - (number + 1)) ≡ end - number = omega arith in
    ap (λ (t : List ℕ). t ++ flat_map f (range_with_len (number + 1) (end - (number + 1)))) is
    ∙ append_assoc out (f number) (flat_map f (range_with_len (number + 1) (end - (number + 1))))
    ∙ ap (λ (k : ℕ). out ++ flat_map f (range_with_len number k)) one
    ∙ so_far

-- four texts, appended one after another
pub four_appended : (old one two three all a b c d : List ℕ) → one ≡ old ++ a → two ≡ one ++ b → three ≡ two ++ c
    → all ≡ three ++ d → all ≡ old ++ (a ++ b ++ c ++ d)
four_appended old one two three all a b c d e f g h =
    let same : all ≡ ((old ++ a) ++ b) ++ c ++ d = cc in same ∙ simp append_assoc
