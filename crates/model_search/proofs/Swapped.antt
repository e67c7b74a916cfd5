-- Two elements exchanged.
use Rattle.std.proofs.Common.{◌≡◌, ℕ, ◌<◌, ◌==◌, Bool, true, false, if◌then◌else◌, refl, sym, ◌∙◌, eq-eqb}
use Rattle.text_core.proofs.Laws.{number_same}

-- two elements are exchanged
abbrev pub exchanged : ℕ → ℕ → ℕ → ℕ
exchanged a b x = if x == a then b else if x == b then a else x

pub exchanged_first : (a b : ℕ) → exchanged a b a ≡ b
exchanged_first a b = rw (eq-eqb a a refl)

-- what is neither stays
pub exchanged_other : (a b x : ℕ) → (x ≡ a → ⊥) → (x ≡ b → ⊥) → exchanged a b x ≡ x
exchanged_other a b x first second = by (x == a) (x == b) refl refl
  where
    by : (p q : Bool) → (x == a) ≡ p → (x == b) ≡ q → (if p then b else if q then a else x) ≡ x
    by true q e g = absurd (first (number_same x a e))
    by false true e g = absurd (second (number_same x b g))
    by false false e g = refl

exchanged_second : (a b : ℕ) → exchanged a b b ≡ a
exchanged_second a b = by (b == a) refl
  where
    by : (p : Bool) → (b == a) ≡ p → (if p then b else if b == b then a else b) ≡ a
    by true e = number_same b a e
    by false e = rw (eq-eqb b b refl)

-- twice it is undone
pub exchanged_twice : (a b x : ℕ) → exchanged a b (exchanged a b x) ≡ x
exchanged_twice a b x = by (x == a) (x == b) refl refl
  where
    by : (p q : Bool) → (x == a) ≡ p → (x == b) ≡ q → exchanged a b (if p then b else if q then a else x) ≡ x
    by true q e g = exchanged_second a b ∙ sym (number_same x a e)
    by false true e g = exchanged_first a b ∙ sym (number_same x b g)
    by false false e g = rw (e, g)

pub exchanged_within : (a b n x : ℕ) → a < n → b < n → x < n → exchanged a b x < n
exchanged_within a b n x first second third = by (x == a) (x == b)
  where
    by : (p q : Bool) → (if p then b else if q then a else x) < n
    by true q = second
    by false true = first
    by false false = third
