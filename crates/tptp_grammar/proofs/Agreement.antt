-- A scope and the bindings of the watcher, where they bind the same of a text's words.
use Rattle.std.specs.Prelude.{◌≡◌, ◌||◌, ◌⊎◌, ◌==◌, Decides, ℕ, Bool, true, false, List, [], ◌∷◌}
use Rattle.std.proofs.Common.{refl, sym, ap, inl, inr, arith}
use Rattle.text_core.proofs.Laws.{number_same}
use Rattle.text_core.specs.Lists.{IsAmong}
use Rattle.text_core.specs.Names.{Text}
use Rattle.tptp_lexer.specs.Tokens.{Token}
use Rattle.tptp_grammar.specs.Limits.{Bindings, is_bound}
use Rattle.tptp_lexer.specs.Numbering.{number_of}
use Rattle.tptp_lexer.proofs.Laws.{number_of_same}

-- a token's text is in scope exactly where its number is bound
abbrev pub Agrees : List Token → Bindings → List Text → Type 0
Agrees all bindings scope = (t : Token) → IsAmong t all → Decides (is_bound (number_of all t.text) bindings) (IsAmong t.text scope)

-- numbers that are the same pass the test
equal_numbers : (m n : ℕ) → m ≡ n → m == n ≡ true
equal_numbers m n e = grind arith

module _ (all : List Token) (bindings : Bindings) (scope : List Text) (x : Text) (t : Token) (among : IsAmong t all)
    (agrees : Decides (is_bound (number_of all t.text) bindings) (IsAmong t.text scope)) where
  -- a bound number is that of the new variable, or of one in scope
  found : (same : Bool) → number_of all x == number_of all t.text ≡ same → same || is_bound (number_of all t.text) bindings ≡ true →
      (x ≡ t.text) ⊎ IsAmong t.text scope
  found true e h = inl (sym (number_of_same all t x among (sym (number_same (number_of all x) (number_of all t.text) e))))
  found false e h = inr (agrees.0 h)

  -- a variable in the larger scope has a bound number
  covered : (same : Bool) → number_of all x == number_of all t.text ≡ same → (x ≡ t.text) ⊎ IsAmong t.text scope →
      same || is_bound (number_of all t.text) bindings ≡ true
  covered true e h = refl
  covered false e (inl here) = let equal = equal_numbers (number_of all x) (number_of all t.text) (ap (number_of all) here) in absurd (cc)
  covered false e (inr h) = agrees.1 h

-- a further variable is bound, and in scope
pub agrees_with : (all : List Token) (bindings : Bindings) (scope : List Text) (level : ℕ) (x : Text) → Agrees all bindings scope →
    Agrees all (record { level = level; variable = number_of all x } ∷ bindings) (x ∷ scope)
agrees_with all bindings scope level x agrees t among = (
  found all bindings scope x t among (agrees t among) (number_of all x == number_of all t.text) refl,
  covered all bindings scope x t among (agrees t among) (number_of all x == number_of all t.text) refl,
)

-- nothing is in scope, and nothing is bound
pub agrees_nowhere : (all : List Token) → Agrees all [] []
agrees_nowhere all t among = (λ h. absurd (cc), λ h. absurd h)
