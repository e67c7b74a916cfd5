-- Which tokens end what is read.
use Rattle.std.specs.Prelude.{◌≡◌, Bool, true, false, List, [], ◌∷◌, Some, None, refl}
use Rattle.std.proofs.Common.{ap, ◌∙◌}
use Rattle.text_core.specs.Names.{Text}
use Rattle.logic_core.specs.declared.formula.Formula.{Formula, Pred}
use Rattle.tptp_lexer.specs.declared.kind.Kind.{Kind}
use Rattle.tptp_lexer.specs.declared.kind.Kind.TheVariants as kind
use Rattle.tptp_lexer.specs.Tokens.{Token}
use Rattle.tptp_lexer.proofs.Laws.{behind-other}
use Rattle.tptp_lexer.specs.Same.{same_kind}
use Rattle.tptp_grammar.specs.Reading.{atom_at, atom_from, rest_at, rest_from}
use Rattle.tptp_lexer.specs.Reading.{Read, behind}

-- a token of the kind does not go on with a unit formula
abbrev pub ends_unit : Kind → Bool
ends_unit kind.OpenParenthesis = false
ends_unit kind.Equal = false
ends_unit kind.NotEqual = false
ends_unit _ = true

-- a token of the kind does not go on with a formula
abbrev pub ends_formula : Kind → Bool
ends_formula kind.OpenParenthesis = false
ends_formula kind.Equal = false
ends_formula kind.NotEqual = false
ends_formula kind.Ampersand = false
ends_formula kind.Bar = false
ends_formula kind.Implies = false
ends_formula kind.Implied = false
ends_formula kind.Iff = false
ends_formula kind.Xor = false
ends_formula kind.Nor = false
ends_formula kind.Nand = false
ends_formula _ = true

-- the tokens are none, or the first ends what is before it
abbrev pub Ends : (Kind → Bool) → List Token → Type 0
Ends ends [] = Unit {0}
Ends ends (t ∷ ts) = ends t.kind ≡ true

-- what ends a formula ends a unit
unit_ended : (k : Kind) → ends_formula k ≡ true → ends_unit k ≡ true
unit_ended kind.OpenParenthesis e = e
unit_ended kind.Equal e = e
unit_ended kind.NotEqual e = e
unit_ended _ e = refl

-- tokens that end a formula end a unit
pub formula_ends_unit : (ts : List Token) → Ends ends_formula ts → Ends ends_unit ts
formula_ends_unit [] ends = tt
formula_ends_unit (t ∷ ts) ends = unit_ended t.kind ends

-- a token of a kind that ends
pub ends_at : (ends : Kind → Bool) (k : Kind) (t : Token) → t.kind ≡ k → ends k ≡ true → ends t.kind ≡ true
ends_at ends k t is e = ap ends is ∙ e

-- what ends a formula is no `&`
no_ampersand : (k : Kind) → ends_formula k ≡ true → same_kind k kind.Ampersand ≡ false
no_ampersand kind.Ampersand e = absurd (cc)
no_ampersand _ e = refl

-- what ends a formula is no `|`
no_bar : (k : Kind) → ends_formula k ≡ true → same_kind k kind.Bar ≡ false
no_bar kind.Bar e = absurd (cc)
no_bar _ e = refl

-- what ends a formula goes on with no chain
pub ampersand-none : (ts : List Token) → Ends ends_formula ts → behind kind.Ampersand ts ≡ None
ampersand-none [] ends = refl
ampersand-none (t ∷ ts) ends = behind-other kind.Ampersand t.kind t ts refl (no_ampersand t.kind ends)

-- nor is there a `|` behind it
pub bar-none : (ts : List Token) → Ends ends_formula ts → behind kind.Bar ts ≡ None
bar-none [] ends = refl
bar-none (t ∷ ts) ends = behind-other kind.Bar t.kind t ts refl (no_bar t.kind ends)

-- an atom is its word where the next token ends it
atom_ended : (k : Kind) (name : Text) (t : Token) (ts : List Token) → ends_unit k ≡ true → atom_at k name t ts ≡ Some (Pred name [], t ∷ ts)
atom_ended kind.OpenParenthesis name t ts e = absurd (cc)
atom_ended kind.Equal name t ts e = absurd (cc)
atom_ended kind.NotEqual name t ts e = absurd (cc)
atom_ended _ name t ts e = refl

-- an atom is its word where nothing goes on with it
pub atom-alone : (name : Text) (ts : List Token) → Ends ends_unit ts → atom_from name ts ≡ Some (Pred name [], ts)
unfolding atom_from
atom-alone name [] ends = refl
atom-alone name (t ∷ ts) ends = atom_ended t.kind name t ts ends

-- a formula is its unit where the next token ends it
rest_ended : (unit : List Token → Read Formula) (k : Kind) (g : Formula) (t : Token) (ts : List Token) → ends_formula k ≡ true →
    rest_at unit k g t ts ≡ Some (g, t ∷ ts)
rest_ended unit kind.Ampersand g t ts e = absurd (cc)
rest_ended unit kind.Bar g t ts e = absurd (cc)
rest_ended unit kind.Implies g t ts e = absurd (cc)
rest_ended unit kind.Implied g t ts e = absurd (cc)
rest_ended unit kind.Iff g t ts e = absurd (cc)
rest_ended unit kind.Xor g t ts e = absurd (cc)
rest_ended unit kind.Nor g t ts e = absurd (cc)
rest_ended unit kind.Nand g t ts e = absurd (cc)
rest_ended unit _ g t ts e = refl

-- a formula is its unit where nothing goes on with it
pub formula-alone : (unit : List Token → Read Formula) (g : Formula) (ts : List Token) → Ends ends_formula ts →
    rest_from unit g ts ≡ Some (g, ts)
unfolding rest_from
formula-alone unit g [] ends = refl
formula-alone unit g (t ∷ ts) ends = rest_ended unit t.kind g t ts ends
