-- Checks in order: which one is the first that fails.
use Rattle.std.specs.Prelude.{ℕ, ◌+◌, ◌≡◌, ◌⊎◌, List, [], ◌∷◌, ◌++◌, map, length}
use Rattle.text_core.specs.Lists.{IsAmong}
use Rattle.proof_checker.specs.declared.refusal.Why.{Why}

-- no check is left to fail
abbrev pub Nothing : Why → Type 0
Nothing why = ⊥

-- a check, and the others behind it: P does not hold, and this is why; or it holds, and another
-- one fails
abbrev pub Unless : Type 0 → Why → (Why → Type 0) → Why → Type 0
Unless P fault rest why = ((P → ⊥) × (why ≡ fault)) ⊎ (P × rest why)

module _ {X : Type 0} (fault : ℕ → Why) (P : List X → X → Type 0) (rest : Why → Type 0) where
  -- a check of each item in order, given the items before it: the first one of which P does not
  -- hold is told by its number, from 1
  abbrev pub UnlessEach : List X → List X → Why → Type 0
  UnlessEach before [] = rest
  UnlessEach before (x ∷ xs) =
      Unless (P before x) (fault (length before + 1)) (UnlessEach (before ++ x ∷ []) xs)

-- a check of each item
abbrev pub AtFirst : {X : Type 0} →
    (ℕ → Why) → (X → Type 0) → List X → (Why → Type 0) → Why → Type 0
AtFirst fault P items rest = UnlessEach fault (λ before x. P x) rest [] items

-- a check that each item differs from those before it, by what f tells of it
abbrev pub AtRepeated : {X Y : Type 0} →
    (ℕ → Why) → (X → Y) → List X → (Why → Type 0) → Why → Type 0
AtRepeated fault f items rest =
    UnlessEach fault (λ before x. IsAmong (f x) (map f before) → ⊥) rest [] items

-- P holds of each item, given the items before it
abbrev pub EachBehind : {X : Type 0} → (List X → X → Type 0) → List X → List X → Type 0
EachBehind P before [] = Unit {0}
EachBehind P before (x ∷ xs) = P before x × EachBehind P (before ++ x ∷ []) xs

-- the number of the first item of which P does not hold, from 1
abbrev pub FailsAt : {X : Type 0} → (List X → X → Type 0) → List X → List X → ℕ → Type 0
FailsAt P before [] number = ⊥
FailsAt P before (x ∷ xs) number = ((P before x → ⊥) × (number ≡ length before + 1))
    ⊎ (P before x × FailsAt P (before ++ x ∷ []) xs number)
