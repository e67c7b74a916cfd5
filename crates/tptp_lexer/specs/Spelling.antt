-- Which tokens spell a name, or a list of values with commas. Source: the TPTP syntax.
use Rattle.std.specs.Prelude.{◌≡◌, ◌⊎◌, List, [], ◌∷◌, ◌++◌}
use Rattle.text_core.specs.Names.{Text}
use Rattle.tptp_lexer.specs.declared.kind.Kind.{Kind}
use Rattle.tptp_lexer.specs.declared.kind.Kind.TheVariants as kind
use Rattle.tptp_lexer.specs.Tokens.{Token, name_of}

-- a lower word or a quoted one
abbrev pub IsWord : Token → Type 0
IsWord t = (t.kind ≡ kind.Lower) ⊎ (t.kind ≡ kind.Quoted)

-- the name of a formula is a word or an integer
abbrev pub IsNaming : Token → Type 0
IsNaming t = IsWord t ⊎ (t.kind ≡ kind.Integer)

-- one token, of which this holds, names the text
abbrev pub SpellsName : (Token → Type 0) → Text → List Token → Type 0
SpellsName P name ts = (t : Token) × P t × (name ≡ name_of t) × (ts ≡ t ∷ [])

-- a variable
abbrev pub SpellsVariable : Text → List Token → Type 0
SpellsVariable x ts = SpellsName (λ t. t.kind ≡ kind.Upper) x ts

-- further values, each behind a comma
pub data SpellsMore {X : Type 0} (spells : X → List Token → Type 0) :
    List X → List Token → Type 0 where
  none : SpellsMore spells [] []
  more : {x : X} {xs : List X} {all : List Token} (comma : Token) (us vs : List Token) →
      comma.kind ≡ kind.Comma → spells x us → SpellsMore spells xs vs → all ≡ comma ∷ (us ++ vs) →
      SpellsMore spells (x ∷ xs) all

-- one or more values with a comma between each two
abbrev pub SpellsListed : {X : Type 0} → (X → List Token → Type 0) → List X → List Token → Type 0
SpellsListed spells [] ts = ⊥
SpellsListed spells (x ∷ xs) ts =
    (us : List Token) × (vs : List Token) × spells x us × SpellsMore spells xs vs × (ts ≡ us ++ vs)

-- one or more values with a comma between each two, between brackets of these kinds
pub record SpellsBetween {X : Type 0} (before after : Kind) (spells : X → List Token → Type 0)
    (xs : List X) (ts : List Token) : Type 0 where
  pub first : Token
  pub inner : List Token
  pub last : Token
  pub opens : first.kind ≡ before
  pub listed : SpellsListed spells xs inner
  pub closes : last.kind ≡ after
  pub split : ts ≡ first ∷ (inner ++ (last ∷ []))
