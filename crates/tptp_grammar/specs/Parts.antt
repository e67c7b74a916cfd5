-- The grammar of items, factored so that the next token chooses an alternative. A level counts the
-- brackets, negations and quantifiers that are open; it settles no choice. Source: the TPTP syntax,
-- FOF. The grammar as it is printed is in `Printed`.
use Rattle.std.specs.Prelude.{◌+◌, Bool, true, false, ◌||◌, List, [], ◌∷◌}
use Rattle.token_grammar.specs.Grammar.{Grammar}
use Rattle.tptp_lexer.specs.declared.kind.Kind.{Kind}
use Rattle.tptp_lexer.specs.declared.kind.Kind.TheVariants as kind
use Rattle.tptp_lexer.specs.Same.{same_kind}
use Rattle.tptp_grammar.specs.declared.mark.Mark.{Mark}
use Rattle.tptp_grammar.specs.declared.mark.Mark.TheVariants.{Fof, Include, Role, Truth, Upper, Connective as Operator, Other}
use Rattle.tptp_grammar.specs.declared.item_part.ItemPart.{ItemPart}
use Rattle.tptp_grammar.specs.declared.item_part.ItemPart.TheVariants.{Token, FofWord, IncludeWord, Name, RoleWord, Word, TruthWord, Connective, Variable, Binds, Opens, ClosesArguments, Plain, Items, Item, FofHead, FofTail, FofEnd, IncludeHead, IncludeTail, NamesRest, Formula, FormulaRest, AndRest, OrRest, Unitary, Quantified, BindsRest, AfterWord, Equation, Term, TermsRest, General, GeneralRest, GeneralsRest, Data, DataArguments, List as BracketList, ListBody}

-- the token is of a kind that no other mark tells
abbrev pub is_kind : Kind → Mark → Bool
is_kind k (Other other) = same_kind k other
is_kind k _ = false

-- a lower word
abbrev pub is_lower : Mark → Bool
is_lower Fof = true
is_lower Include = true
is_lower (Role role) = true
is_lower (Other kind.Lower) = true
is_lower _ = false

-- a lower word or a quoted one
abbrev pub is_word : Mark → Bool
is_word t = is_lower t || is_kind kind.Quoted t

-- a word or an integer
abbrev pub is_name : Mark → Bool
is_name t = is_word t || is_kind kind.Integer t

-- an upper word
abbrev pub is_upper : Mark → Bool
is_upper (Upper number) = true
is_upper _ = false

-- an upper word, an integer or a distinct object
abbrev pub is_plain : Mark → Bool
is_plain t = is_upper t || is_kind kind.Integer t || is_kind kind.Distinct t

-- which parts take which tokens
abbrev pub takes : ItemPart → Mark → Bool
takes (Token k) t = is_kind k t
takes FofWord Fof = true
takes IncludeWord Include = true
takes Name t = is_name t
takes RoleWord t = is_lower t
takes Word t = is_word t
takes TruthWord (Truth value) = true
takes Connective (Operator op) = true
takes (Variable level) t = is_upper t
takes (Binds level) t = is_upper t
takes (Opens level k) t = is_kind k t
takes ClosesArguments t = is_kind kind.CloseParenthesis t
takes Plain t = is_plain t
takes _ _ = false

-- the productions
abbrev pub alternatives : ItemPart → List (List ItemPart)
alternatives Items = [] ∷ (Item ∷ Items ∷ []) ∷ []
alternatives Item = (FofWord ∷ FofHead ∷ []) ∷ (IncludeWord ∷ IncludeHead ∷ []) ∷ []
alternatives FofHead =
    (Token kind.OpenParenthesis ∷ Name ∷ Token kind.Comma ∷ RoleWord ∷ Token kind.Comma ∷
    Formula 0 ∷ FofTail ∷ []) ∷ []
alternatives FofTail =
    (Token kind.CloseParenthesis ∷ Token kind.Dot ∷ []) ∷
    (Token kind.Comma ∷ General 0 ∷ FofEnd ∷ []) ∷ []
alternatives FofEnd =
    (Token kind.CloseParenthesis ∷ Token kind.Dot ∷ []) ∷
    (Token kind.Comma ∷ BracketList 0 ∷ Token kind.CloseParenthesis ∷ Token kind.Dot ∷ []) ∷ []
alternatives IncludeHead = (Token kind.OpenParenthesis ∷ Token kind.Quoted ∷ IncludeTail ∷ []) ∷ []
alternatives IncludeTail =
    (Token kind.CloseParenthesis ∷ Token kind.Dot ∷ []) ∷
    (Token kind.Comma ∷ Token kind.OpenBracket ∷ Name ∷ NamesRest ∷ Token kind.CloseBracket ∷
    Token kind.CloseParenthesis ∷ Token kind.Dot ∷ []) ∷ []
alternatives NamesRest = [] ∷ (Token kind.Comma ∷ Name ∷ NamesRest ∷ []) ∷ []
alternatives (Formula level) = (Unitary level ∷ FormulaRest level ∷ []) ∷ []
alternatives (FormulaRest level) =
    [] ∷ (Token kind.Ampersand ∷ Unitary level ∷ AndRest level ∷ []) ∷
    (Token kind.Bar ∷ Unitary level ∷ OrRest level ∷ []) ∷
    (Connective ∷ Unitary level ∷ []) ∷ []
alternatives (AndRest level) = [] ∷ (Token kind.Ampersand ∷ Unitary level ∷ AndRest level ∷ []) ∷ []
alternatives (OrRest level) = [] ∷ (Token kind.Bar ∷ Unitary level ∷ OrRest level ∷ []) ∷ []
alternatives (Unitary level) =
    (Opens (level + 1) kind.OpenParenthesis ∷ Formula (level + 1) ∷
    Token kind.CloseParenthesis ∷ []) ∷
    (Opens (level + 1) kind.Tilde ∷ Unitary (level + 1) ∷ []) ∷
    (Opens (level + 1) kind.Exclamation ∷ Quantified (level + 1) ∷ []) ∷
    (Opens (level + 1) kind.Question ∷ Quantified (level + 1) ∷ []) ∷
    (TruthWord ∷ []) ∷
    (Word ∷ AfterWord level ∷ []) ∷
    (Variable level ∷ Equation level ∷ []) ∷ []
alternatives (Quantified level) =
    (Token kind.OpenBracket ∷ Binds level ∷ BindsRest level ∷ Token kind.CloseBracket ∷
    Token kind.Colon ∷ Unitary level ∷ []) ∷ []
alternatives (BindsRest level) = [] ∷ (Token kind.Comma ∷ Binds level ∷ BindsRest level ∷ []) ∷ []
alternatives (AfterWord level) =
    [] ∷ (Token kind.OpenParenthesis ∷ Term level ∷ TermsRest level ∷ ClosesArguments ∷ []) ∷
    (Token kind.Equal ∷ Term level ∷ []) ∷
    (Token kind.NotEqual ∷ Term level ∷ []) ∷ []
alternatives (Equation level) =
    (Token kind.Equal ∷ Term level ∷ []) ∷
    (Token kind.NotEqual ∷ Term level ∷ []) ∷ []
alternatives (Term level) = (Variable level ∷ []) ∷ (Word ∷ []) ∷ []
alternatives (TermsRest level) = [] ∷ (Token kind.Comma ∷ Term level ∷ TermsRest level ∷ []) ∷ []
alternatives (General level) = (Data level ∷ GeneralRest level ∷ []) ∷ (BracketList level ∷ []) ∷ []
alternatives (GeneralRest level) = [] ∷ (Token kind.Colon ∷ General level ∷ []) ∷ []
alternatives (GeneralsRest level) =
    [] ∷ (Token kind.Comma ∷ General level ∷ GeneralsRest level ∷ []) ∷ []
alternatives (Data level) = (Plain ∷ []) ∷ (Word ∷ DataArguments level ∷ []) ∷ []
alternatives (DataArguments level) =
    [] ∷
    (Opens (level + 1) kind.OpenParenthesis ∷ General (level + 1) ∷ GeneralsRest (level + 1) ∷
    Token kind.CloseParenthesis ∷ []) ∷ []
alternatives (BracketList level) =
    (Opens (level + 1) kind.OpenBracket ∷ ListBody (level + 1) ∷ []) ∷ []
alternatives (ListBody level) =
    (Token kind.CloseBracket ∷ []) ∷
    (General level ∷ GeneralsRest level ∷ Token kind.CloseBracket ∷ []) ∷ []
alternatives _ = []

-- the grammar of items
abbrev pub fof_items : Grammar ItemPart Mark
fof_items = record { takes = takes; alternatives = alternatives }
