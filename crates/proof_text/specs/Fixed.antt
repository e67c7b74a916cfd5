-- The tokens that have one text each, and these texts.
use Rattle.std.specs.Prelude.{Bool, true, false, List, [], ◌∷◌, find, Option, codes}
use Rattle.std.specs.Str.{bytes_eq}
use Rattle.text_core.specs.Names.{Text}
use Rattle.proof_text.specs.declared.fixed.Fixed.{Fixed}
use Rattle.proof_text.specs.declared.fixed.Fixed.TheVariants.{Vernacular, Take, Mp, With, New, Gives, As, Efq, Gap, Cs, Case, End, True, False, Refl, Sym, Trans, Sub, No, Or, OpenParenthesis, CloseParenthesis, OpenBracket, CloseBracket, Comma, Dot, Colon, Tilde, Ampersand, Bar, Equal, NotEqual}

-- the text of a token
abbrev pub fixed_text : Fixed → Text
fixed_text Vernacular = codes "vernacular"
fixed_text Take = codes "take"
fixed_text Mp = codes "mp"
fixed_text With = codes "with"
fixed_text New = codes "new"
fixed_text Gives = codes "gives"
fixed_text As = codes "as"
fixed_text Efq = codes "efq"
fixed_text Gap = codes "gap"
fixed_text Cs = codes "cs"
fixed_text Case = codes "case"
fixed_text End = codes "end"
fixed_text True = codes "$true"
fixed_text False = codes "$false"
fixed_text Refl = codes "$refl"
fixed_text Sym = codes "$sym"
fixed_text Trans = codes "$trans"
fixed_text Sub = codes "$sub"
fixed_text No = codes "$no"
fixed_text Or = codes "$or"
fixed_text OpenParenthesis = codes "("
fixed_text CloseParenthesis = codes ")"
fixed_text OpenBracket = codes "["
fixed_text CloseBracket = codes "]"
fixed_text Comma = codes ","
fixed_text Dot = codes "."
fixed_text Colon = codes ":"
fixed_text Tilde = codes "~"
fixed_text Ampersand = codes "&"
fixed_text Bar = codes "|"
fixed_text Equal = codes "="
fixed_text NotEqual = codes "!="

-- the words that a proof text is made of, which are lower words
abbrev pub keywords : List Fixed
keywords = Vernacular ∷ Take ∷ Mp ∷ With ∷ New ∷ Gives ∷
    As ∷ Efq ∷ Gap ∷ Cs ∷ Case ∷ End ∷ []

-- the words behind a dollar
abbrev pub dollar_words : List Fixed
dollar_words = True ∷ False ∷ Refl ∷ Sym ∷ Trans ∷ Sub ∷ No ∷ Or ∷ []

-- the keyword with this text
unfoldable pub keyword_of : Text → Option Fixed
keyword_of text = find (λ word. bytes_eq text (fixed_text word)) keywords

-- the word behind a dollar with this text
unfoldable pub dollar_of : Text → Option Fixed
dollar_of text = find (λ word. bytes_eq text (fixed_text word)) dollar_words

-- whether the token is a lower word, which may name something too
abbrev pub is_keyword : Fixed → Bool
is_keyword Vernacular = true
is_keyword Take = true
is_keyword Mp = true
is_keyword With = true
is_keyword New = true
is_keyword Gives = true
is_keyword As = true
is_keyword Efq = true
is_keyword Gap = true
is_keyword Cs = true
is_keyword Case = true
is_keyword End = true
is_keyword _ = false

-- whether the two are the same
abbrev pub same_fixed : Fixed → Fixed → Bool
same_fixed Vernacular Vernacular = true
same_fixed Take Take = true
same_fixed Mp Mp = true
same_fixed With With = true
same_fixed New New = true
same_fixed Gives Gives = true
same_fixed As As = true
same_fixed Efq Efq = true
same_fixed Gap Gap = true
same_fixed Cs Cs = true
same_fixed Case Case = true
same_fixed End End = true
same_fixed True True = true
same_fixed False False = true
same_fixed Refl Refl = true
same_fixed Sym Sym = true
same_fixed Trans Trans = true
same_fixed Sub Sub = true
same_fixed No No = true
same_fixed Or Or = true
same_fixed OpenParenthesis OpenParenthesis = true
same_fixed CloseParenthesis CloseParenthesis = true
same_fixed OpenBracket OpenBracket = true
same_fixed CloseBracket CloseBracket = true
same_fixed Comma Comma = true
same_fixed Dot Dot = true
same_fixed Colon Colon = true
same_fixed Tilde Tilde = true
same_fixed Ampersand Ampersand = true
same_fixed Bar Bar = true
same_fixed Equal Equal = true
same_fixed NotEqual NotEqual = true
same_fixed _ _ = false
