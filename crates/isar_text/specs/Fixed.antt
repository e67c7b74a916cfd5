-- The tokens that have one text each, and these texts.
use Rattle.std.specs.Prelude.{Bool, true, false, List, [], ◌∷◌, find, Option, codes}
use Rattle.std.specs.Str.{bytes_eq}
use Rattle.text_core.specs.Names.{Text}
use Rattle.isar_text.specs.declared.fixed.Fixed.{Fixed}
use Rattle.isar_text.specs.declared.fixed.Fixed.TheVariants.{Have, Obtain, Where, Using, By, Blast, Show, Proof, Elim, DisjE, Assume, Next, Qed, As, Efq, True, False, Thesis, Quote, Colon, OpenComment, CloseComment, OpenParenthesis, CloseParenthesis, OpenBracket, CloseBracket, Comma, Ampersand, Bar, Tilde, NotEqual, Equal}

-- the text of a token; the quote is 34
abbrev pub fixed_text : Fixed → Text
fixed_text Have = codes "have"
fixed_text Obtain = codes "obtain"
fixed_text Where = codes "where"
fixed_text Using = codes "using"
fixed_text By = codes "by"
fixed_text Blast = codes "blast"
fixed_text Show = codes "show"
fixed_text Proof = codes "proof"
fixed_text Elim = codes "elim"
fixed_text DisjE = codes "disjE"
fixed_text Assume = codes "assume"
fixed_text Next = codes "next"
fixed_text Qed = codes "qed"
fixed_text As = codes "as"
fixed_text Efq = codes "efq"
fixed_text True = codes "True"
fixed_text False = codes "False"
fixed_text Thesis = codes "?thesis"
fixed_text Quote = 34 ∷ []
fixed_text Colon = codes ":"
fixed_text OpenComment = codes "(*"
fixed_text CloseComment = codes "*)"
fixed_text OpenParenthesis = codes "("
fixed_text CloseParenthesis = codes ")"
fixed_text OpenBracket = codes "["
fixed_text CloseBracket = codes "]"
fixed_text Comma = codes ","
fixed_text Ampersand = codes "&"
fixed_text Bar = codes "|"
fixed_text Tilde = codes "~"
fixed_text NotEqual = codes "~="
fixed_text Equal = codes "="

-- all of them
abbrev pub all_fixed : List Fixed
all_fixed =
    Have ∷ Obtain ∷ Where ∷ Using ∷ By ∷ Blast ∷ Show ∷ Proof ∷ Elim ∷ DisjE ∷ Assume ∷ Next ∷ Qed ∷ As ∷ Efq ∷ True ∷ False ∷ Thesis ∷ Quote ∷ Colon ∷ OpenComment ∷ CloseComment ∷ OpenParenthesis ∷ CloseParenthesis ∷ OpenBracket ∷ CloseBracket ∷ Comma ∷ Ampersand ∷ Bar ∷ Tilde ∷ NotEqual ∷ Equal ∷ []

-- the token with this text
unfoldable pub fixed_of : Text → Option Fixed
fixed_of text = find (λ fixed. bytes_eq text (fixed_text fixed)) all_fixed

-- whether the two are the same
abbrev pub same_fixed : Fixed → Fixed → Bool
same_fixed Have Have = true
same_fixed Obtain Obtain = true
same_fixed Where Where = true
same_fixed Using Using = true
same_fixed By By = true
same_fixed Blast Blast = true
same_fixed Show Show = true
same_fixed Proof Proof = true
same_fixed Elim Elim = true
same_fixed DisjE DisjE = true
same_fixed Assume Assume = true
same_fixed Next Next = true
same_fixed Qed Qed = true
same_fixed As As = true
same_fixed Efq Efq = true
same_fixed True True = true
same_fixed False False = true
same_fixed Thesis Thesis = true
same_fixed Quote Quote = true
same_fixed Colon Colon = true
same_fixed OpenComment OpenComment = true
same_fixed CloseComment CloseComment = true
same_fixed OpenParenthesis OpenParenthesis = true
same_fixed CloseParenthesis CloseParenthesis = true
same_fixed OpenBracket OpenBracket = true
same_fixed CloseBracket CloseBracket = true
same_fixed Comma Comma = true
same_fixed Ampersand Ampersand = true
same_fixed Bar Bar = true
same_fixed Tilde Tilde = true
same_fixed NotEqual NotEqual = true
same_fixed Equal Equal = true
same_fixed _ _ = false
