-- What a part may do at a token, and what the machine's stack becomes at one. A stack is told as a
-- row, its top first.
use Rattle.std.specs.Prelude.{◌≡◌, List, [], ◌∷◌, ◌++◌, reverse, Option, Some, None, IsTrue, IsFalse}
use Rattle.token_grammar.specs.Grammar.{Grammar}
use Rattle.token_grammar.specs.Plan.{Plan, predicted}
use Rattle.token_grammar.specs.declared.part.Step.{Step}
use Rattle.token_grammar.specs.declared.part.Step.TheVariants.{Take, Expand, Refuse}

-- the members of the row were pushed so that its first is on top
abbrev pub Pushes : {P : Type 0} → Option (List P) → List P → List P → Type 0
Pushes None old new = ⊥
Pushes (Some row) old new = new ≡ old ++ reverse row

-- the part does this at the token, with the stack below it before and after
abbrev pub Steps : {P T : Type 0} → Grammar P T → Plan P T → P → T → List P → List P → Step → Type 0
Steps g plan p t old new Take = IsTrue (g.takes p t) × new ≡ old
Steps g plan p t old new Expand = Pushes (predicted g plan p t) old new
Steps g plan p t old new Refuse = IsFalse (g.takes p t) × predicted g plan p t ≡ None

-- the row was pushed
abbrev pub IsExpand : {P : Type 0} → Step → List P → List P → List P → Type 0
IsExpand Expand row old new = new ≡ old ++ reverse row
IsExpand Take row old new = ⊥
IsExpand Refuse row old new = ⊥

-- the first part of the row was replaced by the alternative that the token asks for, some times
-- over
pub data Expanded {P T : Type 0} (g : Grammar P T) (plan : Plan P T) (t : T) : List P → List P →
    Type 0 where
  here : {row : List P} → Expanded g plan t row row
  further : {p : P} {row last : List P} (alternative : List P) →
      predicted g plan p t ≡ Some alternative →
      Expanded g plan t (alternative ++ row) last → Expanded g plan t (p ∷ row) last

-- the first part of the row can do nothing with the token
abbrev pub IsBlocked : {P T : Type 0} → Grammar P T → Plan P T → T → List P → Type 0
IsBlocked g plan t [] = Unit {0}
IsBlocked g plan t (p ∷ row) = IsFalse (g.takes p t) × predicted g plan p t ≡ None

-- at the token the row before becomes the row after: a part took the token, or none could
abbrev pub Moves : {P T : Type 0} → Grammar P T → Plan P T → T → List P → List P → Option P → Type 0
Moves g plan t before after (Some p) = Expanded g plan t before (p ∷ after) × IsTrue (g.takes p t)
Moves {P =
    P} g plan t before after None = (stuck : List P) × Expanded g plan t before stuck ×
    IsBlocked g plan t stuck
