-- Pieces of a text and the tokens that they give, in front of each rest that may follow.
use Rattle.std.proofs.Common.{◌≡◌, ℕ, ◌+◌, true, List, [], ◌∷◌, ◌++◌, length, refl, subst, arith, append_assoc, length-append, add-zero}
use Rattle.text_core.specs.Names.{Text, is_word}
use Rattle.tptp_lexer.specs.declared.kind.Kind.{Kind}
use Rattle.tptp_lexer.specs.Kinds.{begins_with}
use Rattle.tptp_lexer.specs.Tokens.{Token, IsLongest, Reads, IsEnd, is_blank, blank, token}
use Rattle.tptp_lexer.proofs.Runs.{stops}

-- any rest may follow
abbrev pub Any : Text → Type 0
Any rest = Unit {0}

-- a rest may follow that does not go on with a word
abbrev pub NoWord : Text → Type 0
NoWord rest = stops is_word rest ≡ true

-- a blank follows
abbrev pub BlankNext : Text → Type 0
BlankNext rest = begins_with 32 rest ≡ true

-- the piece gives tokens, of which S holds, in front of each rest that may follow
pub record Gives (may : Text → Type 0) (piece : Text) (S : List Token → Type 0) : Type 0 where
  pub give : (at : ℕ) (rest : Text) → may rest → (ts : List Token) × S ts × ((us : List Token) → Reads IsEnd (at + length piece) rest us → Reads IsEnd at (piece ++ rest) (ts ++ us))

-- the tokens of two pieces
abbrev pub Both : (List Token → Type 0) → (List Token → Type 0) → List Token → Type 0
Both S T ts = (us : List Token) × (vs : List Token) × S us × T vs × (ts ≡ us ++ vs)

-- a token of this kind
abbrev pub IsOne : Kind → List Token → Type 0
IsOne kind ts = (t : Token) × (t.kind ≡ kind) × (ts ≡ t ∷ [])

-- a token of this kind with this text
abbrev pub IsToken : Kind → Text → List Token → Type 0
IsToken kind text ts = (t : Token) × (t.kind ≡ kind) × (t.text ≡ text) × (ts ≡ t ∷ [])

-- no bytes give no tokens
pub nothing : Gives Any [] (λ ts. ts ≡ [])
nothing = record { give = λ at rest may. ([], refl, λ us r. subst (λ n. Reads IsEnd n rest us) (add-zero at) r) }

-- a blank gives no token
pub one_blank : (b : ℕ) → is_blank b ≡ true → Gives Any (b ∷ []) (λ ts. ts ≡ [])
one_blank b is = record { give = λ at rest may. ([], refl, λ us r. blank is r) }

-- the longest token gives itself
pub one_token : {may : Text → Type 0} (kind : Kind) (text : Text) → ((rest : Text) → may rest → IsLongest kind text rest) → Gives may text (IsToken kind text)
one_token kind text longest = record { give = λ at rest may. (record { kind = kind; start = at; text = text } ∷ [], (record { kind = kind; start = at; text = text }, refl, refl, refl), λ us r. token kind text rest refl (longest rest may) r) }

-- the same tokens, as other ones
pub seen : {may : Text → Type 0} {piece : Text} {S T : List Token → Type 0} → ((ts : List Token) → S ts → T ts) → Gives may piece S → Gives may piece T
seen f p = record { give = λ at rest may. let g = p.give at rest may in (g.0, f g.0 g.1, g.2) }

-- in front of fewer rests
pub before : {may fewer : Text → Type 0} {piece : Text} {S : List Token → Type 0} → ((rest : Text) → fewer rest → may rest) → Gives may piece S → Gives fewer piece S
before f p = record { give = λ at rest may. p.give at rest (f rest may) }

-- one piece and then another, which may follow it
pub followed : {first second : Text → Type 0} {x y : Text} {S T : List Token → Type 0} → Gives first x S → Gives second y T → ((rest : Text) → second rest → first (y ++ rest)) → Gives second (x ++ y) (Both S T)
followed {x = x} {y = y} p q follows = record {
  give = λ at rest may.
      let b = q.give (at + length x) rest may in
      let a = p.give at (y ++ rest) (follows rest may) in (
        a.0 ++ b.0,
        (a.0, b.0, a.1, b.1, refl),
        λ us r. rw (append_assoc x y rest, append_assoc a.0 b.0 us) (a.2 (b.0 ++ us) (b.2 us (subst (λ n. Reads IsEnd n rest us) (let l = length-append x y in omega arith) r))),
      );
}
