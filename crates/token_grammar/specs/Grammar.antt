-- A grammar as data, the tokens that it spells, and the tokens that begin what it spells.
-- Source: context-free grammars, with a test for each terminal in place of a set of tokens.
use Rattle.std.specs.Prelude.{◌≡◌, Bool, List, [], ◌∷◌, ◌++◌, IsTrue}
use Rattle.text_core.specs.Lists.{IsAmong}

-- a grammar over parts and tokens: a part takes a token that passes its test, or stands for one of
-- its rows of parts
pub record Grammar (P T : Type 0) : Type 0 where
  pub takes : P → T → Bool
  pub alternatives : P → List (List P)

-- the tokens are spelled by the members of the row, each whole and in order
pub data Spelled {P T : Type 0} (g : Grammar P T) : List P → List T → Type 0 where
  none : Spelled g [] []
  token : {p : P} {row : List P} {t : T} {ts : List T} → IsTrue (g.takes p t) → Spelled g row ts →
      Spelled g (p ∷ row) (t ∷ ts)
  part : {p : P} {row : List P} {all : List T} (alternative : List P) (us ts : List T) →
      IsAmong alternative (g.alternatives p) →
      Spelled g alternative us → Spelled g row ts → all ≡ us ++ ts → Spelled g (p ∷ row) all

mutual
  -- the tokens first spell some of the row's first members, whole and in order, and after them
  -- stands nothing, or what begins the next member
  pub data Begun {P T : Type 0} (g : Grammar P T) : List P → List T → Type 0 where
    whole : {row : List P} {ts : List T} (front back : List P) → row ≡ front ++ back →
        Spelled g front ts → Begun g row ts
    next : {row : List P} {ts : List T} (front : List P) (member : P) (back : List P)
        (us vs : List T) →
        row ≡ front ++ (member ∷ back) → ts ≡ us ++ vs → Spelled g front us →
        BegunPart g member vs → Begun g row ts

  -- the tokens begin the part: they are one token that it takes, or they begin one of its
  -- alternatives
  pub data BegunPart {P T : Type 0} (g : Grammar P T) : P → List T → Type 0 where
    token : {p : P} {t : T} → IsTrue (g.takes p t) → BegunPart g p (t ∷ [])
    inside : {p : P} {ts : List T} (alternative : List P) →
        IsAmong alternative (g.alternatives p) → Begun g alternative ts →
        BegunPart g p ts

-- the tokens are a text of the grammar
abbrev pub IsText : {P T : Type 0} → Grammar P T → P → List T → Type 0
IsText g start ts = Spelled g (start ∷ []) ts

-- the tokens begin a text of the grammar
abbrev pub BeginsText : {P T : Type 0} → Grammar P T → P → List T → Type 0
BeginsText g start ts = Begun g (start ∷ []) ts
