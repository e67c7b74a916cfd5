-- How one row becomes another, as `Translates` wants it: a member stays, or an alternative of some number stands for it.
use Rattle.std.specs.Prelude.{ℕ, zero, suc, List, [], ◌∷◌, ◌++◌}
use Rattle.std.proofs.Common.{refl, inl, inr}
use Rattle.text_core.specs.Lists.{IsAmong}
use Rattle.token_grammar.specs.Grammar.{Grammar}
use Rattle.token_grammar.specs.Factored.{Becomes}
use Rattle.token_grammar.specs.Factored.Becomes.{done, keep, replace}

-- the row of this number has the property
abbrev pub At : {Q : Type 0} → List (List Q) → ℕ → (List Q → Type 0) → Type 0
At [] n P = ⊥
At (row ∷ rows) zero P = P row
At (row ∷ rows) (suc n) P = At rows n P

-- the row of a number is one of the rows
at_row : {Q : Type 0} (rows : List (List Q)) (n : ℕ) (P : List Q → Type 0) → At rows n P → (row : List Q) × IsAmong row rows × P row
at_row [] n P held = absurd held
at_row (row ∷ rows) zero P held = (row, inl refl, held)
at_row (row ∷ rows) (suc n) P held = let found = at_row rows n P held in (found.0, inr found.1, found.2)

-- a row whose first member is replaced by its alternative of this number
pub to : {Q T : Type 0} {h : Grammar Q T} {q : Q} {row other : List Q} (n : ℕ) →
    At (h.alternatives q) n (λ alternative. Becomes h (alternative ++ row) other) → Becomes h (q ∷ row) other
to n held = let found = at_row _ n _ held in replace found.0 found.1 found.2

-- a row all of whose members stay
pub kept : {Q T : Type 0} {h : Grammar Q T} {row : List Q} → Becomes h row row
kept {row = []} = done
kept {row = q ∷ row} = keep kept
