-- When two kinds of tokens are one.
use Rattle.std.specs.Prelude.{Bool, true, false}
use Rattle.tptp_lexer.specs.declared.kind.Kind.{Kind}
use Rattle.tptp_lexer.specs.declared.kind.Kind.TheVariants as kind

-- whether two kinds are one
abbrev pub same_kind : Kind → Kind → Bool
same_kind kind.Lower kind.Lower = true
same_kind kind.Upper kind.Upper = true
same_kind kind.Quoted kind.Quoted = true
same_kind kind.Distinct kind.Distinct = true
same_kind kind.Integer kind.Integer = true
same_kind kind.Dollar kind.Dollar = true
same_kind kind.OpenParenthesis kind.OpenParenthesis = true
same_kind kind.CloseParenthesis kind.CloseParenthesis = true
same_kind kind.OpenBracket kind.OpenBracket = true
same_kind kind.CloseBracket kind.CloseBracket = true
same_kind kind.Comma kind.Comma = true
same_kind kind.Dot kind.Dot = true
same_kind kind.Colon kind.Colon = true
same_kind kind.Exclamation kind.Exclamation = true
same_kind kind.Question kind.Question = true
same_kind kind.Tilde kind.Tilde = true
same_kind kind.Ampersand kind.Ampersand = true
same_kind kind.Bar kind.Bar = true
same_kind kind.Implies kind.Implies = true
same_kind kind.Implied kind.Implied = true
same_kind kind.Iff kind.Iff = true
same_kind kind.Xor kind.Xor = true
same_kind kind.Nor kind.Nor = true
same_kind kind.Nand kind.Nand = true
same_kind kind.Equal kind.Equal = true
same_kind kind.NotEqual kind.NotEqual = true
same_kind _ _ = false
