-- The test of two kinds.
use Rattle.std.specs.Prelude.{◌≡◌, true, IsTrue, refl}
use Rattle.std.proofs.lemmas.Bool.{false≢true}
use Rattle.tptp_lexer.specs.declared.kind.Kind.{Kind}
use Rattle.tptp_lexer.specs.declared.kind.Kind.TheVariants as kind
use Rattle.tptp_lexer.specs.Same.{same_kind}

-- a kind is the same as itself
pub same_kind-self : (k : Kind) → same_kind k k ≡ true
same_kind-self kind.Lower = refl
same_kind-self _ = refl

-- kinds that pass the test are the same
pub same_kind-is : (a b : Kind) → IsTrue (same_kind a b) → a ≡ b
same_kind-is kind.Lower kind.Lower h = refl
same_kind-is kind.Upper kind.Upper h = refl
same_kind-is kind.Quoted kind.Quoted h = refl
same_kind-is kind.Distinct kind.Distinct h = refl
same_kind-is kind.Integer kind.Integer h = refl
same_kind-is kind.Dollar kind.Dollar h = refl
same_kind-is kind.OpenParenthesis kind.OpenParenthesis h = refl
same_kind-is kind.CloseParenthesis kind.CloseParenthesis h = refl
same_kind-is kind.OpenBracket kind.OpenBracket h = refl
same_kind-is kind.CloseBracket kind.CloseBracket h = refl
same_kind-is kind.Comma kind.Comma h = refl
same_kind-is kind.Dot kind.Dot h = refl
same_kind-is kind.Colon kind.Colon h = refl
same_kind-is kind.Exclamation kind.Exclamation h = refl
same_kind-is kind.Question kind.Question h = refl
same_kind-is kind.Tilde kind.Tilde h = refl
same_kind-is kind.Ampersand kind.Ampersand h = refl
same_kind-is kind.Bar kind.Bar h = refl
same_kind-is kind.Implies kind.Implies h = refl
same_kind-is kind.Implied kind.Implied h = refl
same_kind-is kind.Iff kind.Iff h = refl
same_kind-is kind.Xor kind.Xor h = refl
same_kind-is kind.Nor kind.Nor h = refl
same_kind-is kind.Nand kind.Nand h = refl
same_kind-is kind.Equal kind.Equal h = refl
same_kind-is kind.NotEqual kind.NotEqual h = refl
same_kind-is _ _ h = absurd (false≢true h)
