-- When two grammars spell and begin the same tokens: each part of one stands for rows of the other.
use Rattle.std.specs.Prelude.{◌⊎◌, List, [], ◌∷◌, ◌++◌, IsTrue, IsFalse}
use Rattle.token_grammar.specs.Grammar.{Grammar, Spelled}
use Rattle.text_core.specs.Lists.{IsAmong}
use Rattle.token_grammar.specs.Plan.{is_empty}

-- each row with the first row before it
abbrev pub after_row : {Q : Type 0} → List Q → List (List Q) → List (List Q)
after_row first [] = []
after_row first (row ∷ rows) = (first ++ row) ∷ after_row first rows

-- each first row followed by each second row
abbrev pub joined_rows : {Q : Type 0} → List (List Q) → List (List Q) → List (List Q)
joined_rows [] seconds = []
joined_rows (first ∷ firsts) seconds = after_row first seconds ++ joined_rows firsts seconds

-- the rows that a row stands for: one of each member's rows, in order
abbrev pub stood_rows : {P Q : Type 0} → (P → List (List Q)) → List P → List (List Q)
stood_rows stands [] = [] ∷ []
stood_rows stands (p ∷ row) = joined_rows (stands p) (stood_rows stands row)

-- the first row becomes the second where some of its members are replaced by their alternatives,
-- and so on
pub data Becomes {Q T : Type 0} (h : Grammar Q T) : List Q → List Q → Type 0 where
  done : Becomes h [] []
  keep : {q : Q} {row other : List Q} → Becomes h row other → Becomes h (q ∷ row) (q ∷ other)
  replace : {q : Q} {row other : List Q} (alternative : List Q) →
      IsAmong alternative (h.alternatives q) →
      Becomes h (alternative ++ row) other → Becomes h (q ∷ row) other

-- one of the rows becomes the other row
abbrev pub OneBecomes : {Q T : Type 0} → Grammar Q T → List (List Q) → List Q → Type 0
OneBecomes h [] other = ⊥
OneBecomes h (row ∷ rows) other = Becomes h row other ⊎ OneBecomes h rows other

-- each of the other rows is what one of the rows becomes
abbrev pub EachIsMade : {Q T : Type 0} → Grammar Q T → List (List Q) → List (List Q) → Type 0
EachIsMade h rows [] = Unit {0}
EachIsMade h rows (other ∷ others) = OneBecomes h rows other × EachIsMade h rows others

-- each row that one of the alternatives stands for is what one of the rows becomes
abbrev pub AlternativesAreMade : {P Q T : Type 0} → Grammar Q T → (P → List (List Q)) →
    List (List Q) → List (List P) → Type 0
AlternativesAreMade h stands rows [] = Unit {0}
AlternativesAreMade h stands rows (alternative ∷ alternatives) =
    EachIsMade h rows (stood_rows stands alternative) ×
    AlternativesAreMade h stands rows alternatives

-- each part of the first grammar stands for rows of the second: one of them spells a token that the
-- part takes, and each row that one of its alternatives stands for is what one of them becomes
pub record Translates {P Q T : Type 0} (g : Grammar P T) (h : Grammar Q T) (stands : P →
    List (List Q)) : Type 0 where
  pub some : (p : P) → IsFalse (is_empty (stands p))
  pub takes : (p : P) (t : T) → IsTrue (g.takes p t) → (row : List Q) × IsAmong row (stands p) ×
      Spelled h row (t ∷ [])
  pub alternatives : (p : P) → AlternativesAreMade h stands (stands p) (g.alternatives p)
