-- The bindings that are open at a level.
use Rattle.std.specs.Prelude.{◌≡◌, ◌≤◌, ℕ, Bool, true, false, cond, List, [], ◌∷◌, filter, nat_le}
use Rattle.std.proofs.Common.{refl, arith}
use Rattle.tptp_grammar.specs.Limits.{Bindings, open_at}
use Rattle.tptp_grammar.specs.declared.scopes.Binding.{Binding}

module _ {X : Type 0} (p q : X → Bool) (implies : (x : X) → p x ≡ true → q x ≡ true) where
  -- one element more, by what the tests say of it
  narrowed_at : (x : X) (xs : List X) (a b : Bool) → p x ≡ a → q x ≡ b → filter p (filter q xs) ≡ filter p xs →
      filter p (cond b (x ∷ filter q xs) (filter q xs)) ≡ cond a (x ∷ filter p xs) (filter p xs)
  narrowed_at x xs true true d e same = rw (d, same) refl
  narrowed_at x xs true false d e same = let true_too = implies x d in absurd (cc)
  narrowed_at x xs false true d e same = rw (d, same) refl
  narrowed_at x xs false false d e same = same

  -- what the stronger test keeps of what the weaker one keeps
  pub narrowed : (xs : List X) → filter p (filter q xs) ≡ filter p xs
  narrowed [] = refl
  narrowed (x ∷ xs) = narrowed_at x xs (p x) (q x) refl refl (narrowed xs)

  -- one element more, by what the stronger test says of it
  kept_at : (x : X) (xs : List X) (a : Bool) → p x ≡ a → filter q (filter p xs) ≡ filter p xs →
      filter q (cond a (x ∷ filter p xs) (filter p xs)) ≡ cond a (x ∷ filter p xs) (filter p xs)
  kept_at x xs true d same = rw (implies x d, same) refl
  kept_at x xs false d same = same

  -- the weaker test keeps all that the stronger one keeps
  pub kept : (xs : List X) → filter q (filter p xs) ≡ filter p xs
  kept [] = refl
  kept (x ∷ xs) = kept_at x xs (p x) refl (kept xs)

-- a level that is at most the lower one is at most the higher one
below : (k l : ℕ) → k ≤ l → (b : Binding) → nat_le b.level k ≡ true → nat_le b.level l ≡ true
below k l le b h = grind arith

-- what is open at a lower level, from what is open at a higher one
pub lower_open : (k l : ℕ) (s : Bindings) → k ≤ l → open_at k (open_at l s) ≡ open_at k s
lower_open k l s le = narrowed (λ (b : Binding). nat_le b.level k) (λ (b : Binding). nat_le b.level l) (below k l le) s

-- what is open at a lower level stays at a higher one
pub higher_open : (k l : ℕ) (s : Bindings) → k ≤ l → open_at l (open_at k s) ≡ open_at k s
higher_open k l s le = kept (λ (b : Binding). nat_le b.level k) (λ (b : Binding). nat_le b.level l) (below k l le) s
