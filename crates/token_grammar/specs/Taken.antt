-- Which part took which token, read from left to right.
use Rattle.std.specs.Prelude.{Bool, true, false, List, [], ◌∷◌, ◌++◌, IsTrue}
use Rattle.token_grammar.specs.Grammar.{Grammar}
use Rattle.text_core.specs.Lists.{IsAmong}

-- where the tokens end: a text leaves no part behind, the beginning of one may leave any
abbrev pub MayLeave : {P : Type 0} → Bool → List P → Type 0
MayLeave true [] = Unit {0}
MayLeave true (p ∷ row) = ⊥
MayLeave false row = Unit {0}

-- the row takes the tokens from left to right, each by the part beside it in the list of takers;
-- where `whole` holds, up to the row's end
pub data Taken {P T : Type 0} (g : Grammar P T) (whole : Bool) : List P → List T → List P →
    Type 0 where
  stop : {row : List P} → MayLeave whole row → Taken g whole row [] []
  token : {p : P} {row : List P} {t : T} {ts : List T} {takers : List P} → IsTrue (g.takes p t) →
      Taken g whole row ts takers →
      Taken g whole (p ∷ row) (t ∷ ts) (p ∷ takers)
  part : {p : P} {row : List P} {ts : List T} {takers : List P} (alternative : List P) →
      IsAmong alternative (g.alternatives p) →
      Taken g whole (alternative ++ row) ts takers → Taken g whole (p ∷ row) ts takers
