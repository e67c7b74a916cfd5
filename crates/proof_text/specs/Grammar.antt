-- The grammar of proof texts, of both versions.
--
--   script  ::= `vernacular` `1` `.` `take` names `.` body
--             | `vernacular` `2` `.` `take` names `.` body2
--   names   ::= `[` `]` | `[` word,.. `]`
--   body    ::= step* finish                          body2   ::= step2* finish2
--   step    ::= `mp` cite names `new` names `gives` line `.`
--   step2   ::= `mp` cite `with` binds `new` names [ `gives` line ] `.`
--   finish  ::= `as` number names `.` | `efq` `.` | `cs` number `.` case+ `end` `.`
--   finish2 ::= `as` number names `.` | `efq` `.` | `cs` number `.` case2+ `end` `.`
--             | `gap` number `.`
--   case    ::= `case` facts `.` body                 case2   ::= `case` [ facts ] `.` body2
--   binds   ::= `[` `]` | `[` bind,.. `]`             bind    ::= Upper [ `:` number ] `=` word
--   line    ::= `$false` | facts | part (`|` part)+
--   facts   ::= `$true` | atom (`&` atom)*
--   part    ::= `$true` | atom | `(` atom (`&` atom)+ `)`
--   atom    ::= [`~`] word [ `(` word,.. `)` ] | word `=` word | word `!=` word
--   cite    ::= name [ `:` number ] | `$refl` | `$sym` | `$trans`
--             | `$sub` `(` [`~`] symbol `,` number `,` number `)`
--             | `$no` `(` symbol `,` number `)` | `$or` `(` symbol `,` number `)`
--   symbol  ::= word | `=`
--
-- A word is a lower word or a quoted one, and a name is a word or an integer. A number is an
-- integer without a sign, up to 2 ^ 32 - 1; behind the symbol `=` it is 2, and behind `gap` from 1
-- to 200. Here the productions are factored, so that the next token chooses the row.
use Rattle.std.specs.Prelude.{Bool, true, false, List, [], ◌∷◌}
use Rattle.token_grammar.specs.Grammar.{Grammar}
use Rattle.token_grammar.specs.Plan.{Plan}
use Rattle.token_grammar.specs.Computed.{computed_plan}
use Rattle.proof_text.specs.declared.fixed.Fixed as Fixed
use Rattle.proof_text.specs.declared.fixed.Fixed.TheVariants as fixed
use Rattle.proof_text.specs.declared.mark.Integer.TheVariants as integer
use Rattle.proof_text.specs.declared.mark.Mark as Mark
use Rattle.proof_text.specs.declared.mark.Mark.TheVariants as mark
use Rattle.proof_text.specs.declared.mark.Token.{Token}
use Rattle.proof_text.specs.declared.part.Edition.TheVariants.{First, Second}
use Rattle.proof_text.specs.declared.part.TextPart as TextPart
use Rattle.proof_text.specs.declared.part.TextPart.TheVariants.{Taken, Row}
use Rattle.proof_text.specs.declared.part.Taker as Taker
use Rattle.proof_text.specs.declared.part.Taker.TheVariants as taker
use Rattle.proof_text.specs.declared.part.Naming as Naming
use Rattle.proof_text.specs.declared.part.Naming.TheVariants as naming
use Rattle.proof_text.specs.declared.part.Counting as Counting
use Rattle.proof_text.specs.declared.part.Counting.TheVariants as counting
use Rattle.proof_text.specs.declared.part.Rule as Rule
use Rattle.proof_text.specs.declared.part.Rule.TheVariants as rule
use Rattle.proof_text.specs.declared.part.Act as Act
use Rattle.proof_text.specs.declared.part.Act.TheVariants as act
use Rattle.proof_text.specs.declared.part.Pass.TheVariants as pass
use Rattle.proof_text.specs.Fixed.{same_fixed, is_keyword}

-- a word, which may be a keyword
abbrev pub is_word : Mark.Mark → Bool
is_word (mark.Fixed f) = is_keyword f
is_word mark.Word = true
is_word _ = false

-- a word or an integer
abbrev pub is_name : Mark.Mark → Bool
is_name (mark.Integer i) = true
is_name m = is_word m

-- whether the token names what is named here
abbrev pub names : Naming.Naming → Mark.Mark → Bool
names naming.Cited m = is_name m
names naming.Label mark.Upper = true
names naming.Label m = false
names _ m = is_word m

-- a number from 1 to the most that a gap may have
abbrev pub is_few : Mark.Mark → Bool
is_few (mark.Integer integer.One) = true
is_few (mark.Integer integer.Two) = true
is_few (mark.Integer (integer.Few n)) = true
is_few _ = false

-- a number
abbrev pub is_number : Mark.Mark → Bool
is_number (mark.Integer (integer.Number n)) = true
is_number m = is_few m

-- whether the token tells what is counted here
abbrev pub counts : Counting.Counting → Mark.Mark → Bool
counts counting.Within m = is_few m
counts _ m = is_number m

-- an integer other than 1 and 2
abbrev pub is_wrong_version : Mark.Mark → Bool
is_wrong_version (mark.Integer (integer.Few n)) = true
is_wrong_version (mark.Integer (integer.Number n)) = true
is_wrong_version (mark.Integer integer.NoNumber) = true
is_wrong_version _ = false

-- whether the token has this text
abbrev pub is_fixed : Fixed.Fixed → Mark.Mark → Bool
is_fixed f (mark.Fixed g) = same_fixed f g
is_fixed f _ = false

-- which token is taken
abbrev pub mark_taken : Taker.Taker → Mark.Mark → Bool
mark_taken (taker.Fixed f does) m = is_fixed f m
mark_taken (taker.Name what) m = names what m
mark_taken (taker.Number what) m = counts what m
mark_taken (taker.One does) (mark.Integer integer.One) = true
mark_taken (taker.Two does) (mark.Integer integer.Two) = true
mark_taken taker.WrongVersion m = is_wrong_version m
mark_taken _ _ = false

-- a rule takes no token itself
abbrev pub takes : TextPart.TextPart → Token → Bool
takes (Taken t) token = mark_taken t token.mark
takes (Row r) token = false

-- a token with this text, at which nothing is done, or this
abbrev pub sign : Fixed.Fixed → TextPart.TextPart
sign f = Taken (taker.Fixed f act.Nothing)

abbrev pub sign_does : Fixed.Fixed → Act.Act → TextPart.TextPart
sign_does f does = Taken (taker.Fixed f does)

abbrev pub name : Naming.Naming → TextPart.TextPart
name what = Taken (taker.Name what)

abbrev pub number : Counting.Counting → TextPart.TextPart
number what = Taken (taker.Number what)

-- further parts of a line
abbrev pub further_parts : List TextPart.TextPart
further_parts = sign_does fixed.Bar act.BeginParts ∷ Row rule.LinePart ∷ Row rule.Bars ∷ []

-- arguments in brackets, and what is done behind them
abbrev pub arguments : Act.Act → List TextPart.TextPart
arguments does =
    sign_does fixed.OpenParenthesis act.BeginNames ∷ name naming.Listed ∷ Row rule.MoreNames ∷
    sign_does fixed.CloseParenthesis does ∷ []

-- `$sub`, a symbol with its sign, and a place
abbrev pub sub_row : List TextPart.TextPart
sub_row =
    sign fixed.Sub ∷ sign fixed.OpenParenthesis ∷ Row rule.SignedSymbol ∷ sign fixed.Comma ∷
    number counting.Place ∷ sign fixed.CloseParenthesis ∷ []

-- a step of the first version, and one of the second
abbrev pub first_step_row : List TextPart.TextPart
first_step_row =
    sign fixed.Mp ∷ Row rule.Cite ∷ Row rule.Names ∷ sign_does fixed.New act.KeepArgs ∷
    Row rule.Names ∷ Row (rule.Given First) ∷ []

abbrev pub second_step_row : List TextPart.TextPart
second_step_row =
    sign fixed.Mp ∷ Row rule.Cite ∷ Row rule.Binds ∷ sign fixed.New ∷ Row rule.Names ∷
    Row (rule.Given Second) ∷ []

-- two or more atoms in brackets
abbrev pub group_row : List TextPart.TextPart
group_row =
    sign_does fixed.OpenParenthesis act.BeginAtoms ∷ Row rule.Atom ∷ sign fixed.Ampersand ∷
    Row rule.Atom ∷ Row rule.MoreAtoms ∷ sign fixed.CloseParenthesis ∷ []

-- the rows of the rules
abbrev pub rows : Rule.Rule → List (List TextPart.TextPart)
rows rule.Text = (sign fixed.Vernacular ∷ Row rule.Version ∷ []) ∷ []
rows rule.Version =
    (Taken (taker.One act.BeginFirst) ∷ Row rule.Head ∷ Row (rule.Body First) ∷ []) ∷
    (Taken (taker.Two act.BeginSecond) ∷ Row rule.Head ∷ Row (rule.Body Second) ∷ []) ∷
    (Taken taker.WrongVersion ∷ Row rule.Never ∷ []) ∷ []
rows rule.Never = []
rows rule.Head =
    (sign fixed.Dot ∷ sign fixed.Take ∷ Row rule.Names ∷
    sign_does fixed.Dot act.TakeNames ∷ []) ∷ []
rows rule.Names =
    (sign_does fixed.OpenBracket act.BeginNames ∷ Row rule.ListedNames ∷
    sign fixed.CloseBracket ∷ []) ∷ []
rows rule.ListedNames = [] ∷ (name naming.Listed ∷ Row rule.MoreNames ∷ []) ∷ []
rows rule.MoreNames =
    [] ∷ (sign fixed.Comma ∷ name naming.Listed ∷ Row rule.MoreNames ∷ []) ∷ []
rows (rule.Body e) = (Row (rule.Step e) ∷ Row (rule.Body e) ∷ []) ∷ (Row (rule.Finish e) ∷ []) ∷ []
rows (rule.Step First) = first_step_row ∷ []
rows (rule.Step Second) = second_step_row ∷ []
rows (rule.Given First) =
    (sign_does fixed.Gives act.KeepFresh ∷ Row rule.Line ∷
    sign_does fixed.Dot act.EndStep ∷ []) ∷ []
rows (rule.Given Second) =
    (sign_does fixed.Gives act.KeepFresh ∷ Row rule.Line ∷ sign_does fixed.Dot act.EndStep ∷ []) ∷
    (sign_does fixed.Dot act.EndBareStep ∷ []) ∷ []
rows (rule.Finish First) =
    (sign fixed.As ∷ number counting.Disjunct ∷ Row rule.Names ∷
    sign_does fixed.Dot act.EndAs ∷ []) ∷
    (sign fixed.Efq ∷ sign_does fixed.Dot act.EndEfq ∷ []) ∷
    (sign fixed.Cs ∷ number counting.Line ∷ sign_does fixed.Dot act.BeginSplit ∷
    Row (rule.Case First) ∷ Row (rule.MoreCases First) ∷ Row rule.SplitEnd ∷ []) ∷ []
rows (rule.Finish Second) =
    (sign fixed.As ∷ number counting.Disjunct ∷ Row rule.Names ∷
    sign_does fixed.Dot act.EndAs ∷ []) ∷
    (sign fixed.Efq ∷ sign_does fixed.Dot act.EndEfq ∷ []) ∷
    (sign fixed.Cs ∷ number counting.Line ∷ sign_does fixed.Dot act.BeginSplit ∷
    Row (rule.Case Second) ∷ Row (rule.MoreCases Second) ∷ Row rule.SplitEnd ∷ []) ∷
    (sign fixed.Gap ∷ number counting.Within ∷ sign_does fixed.Dot act.EndGap ∷ []) ∷ []
rows rule.SplitEnd = (sign fixed.End ∷ sign_does fixed.Dot act.EndSplit ∷ []) ∷ []
rows (rule.Case e) =
    (sign_does fixed.Case act.BeginCase ∷ Row (rule.CaseHead e) ∷ Row (rule.Body e) ∷
    Row (rule.Does pass.AddCase) ∷ []) ∷ []
rows (rule.MoreCases e) = [] ∷ (Row (rule.Case e) ∷ Row (rule.MoreCases e) ∷ []) ∷ []
rows (rule.CaseHead First) = (Row rule.Facts ∷ sign_does fixed.Dot act.ShowCase ∷ []) ∷ []
rows (rule.CaseHead Second) =
    (Row rule.Facts ∷ sign_does fixed.Dot act.ShowCase ∷ []) ∷
    (sign_does fixed.Dot act.BareCase ∷ []) ∷ []
rows rule.Cite =
    (name naming.Cited ∷ Row rule.Rank ∷ Row (rule.Does pass.CiteName) ∷ []) ∷
    (sign_does fixed.Refl act.CiteRefl ∷ []) ∷
    (sign_does fixed.Sym act.CiteSym ∷ []) ∷
    (sign_does fixed.Trans act.CiteTrans ∷ []) ∷
    sub_row ∷
    (sign fixed.No ∷ sign fixed.OpenParenthesis ∷ Row rule.Symbol ∷
    sign_does fixed.CloseParenthesis act.CiteNo ∷ []) ∷
    (sign fixed.Or ∷ sign fixed.OpenParenthesis ∷ Row rule.Symbol ∷
    sign_does fixed.CloseParenthesis act.CiteOr ∷ []) ∷ []
rows rule.Rank = [] ∷ (sign fixed.Colon ∷ number counting.Rank ∷ []) ∷ []
rows rule.SignedSymbol =
    (sign_does fixed.Tilde act.SetNegative ∷ Row rule.Symbol ∷ []) ∷
    (Row (rule.Does pass.SetPositive) ∷ Row rule.Symbol ∷ []) ∷ []
rows rule.Symbol =
    (name naming.Symbol ∷ sign fixed.Comma ∷ number counting.Arity ∷ []) ∷
    (sign fixed.Equal ∷ sign fixed.Comma ∷ Taken (taker.Two act.SetEquality) ∷ []) ∷ []
rows rule.Binds =
    (sign fixed.With ∷ sign_does fixed.OpenBracket act.BeginBinds ∷ Row rule.ListedBinds ∷
    sign_does fixed.CloseBracket act.KeepBinds ∷ []) ∷ []
rows rule.ListedBinds = [] ∷ (Row rule.Bind ∷ Row rule.MoreBinds ∷ []) ∷ []
rows rule.MoreBinds = [] ∷ (sign fixed.Comma ∷ Row rule.Bind ∷ Row rule.MoreBinds ∷ []) ∷ []
rows rule.Bind =
    (name naming.Label ∷ Row rule.Rank ∷ sign fixed.Equal ∷ name naming.Bound ∷ []) ∷ []
rows rule.Line =
    (sign_does fixed.False act.ShowFalsum ∷ []) ∷
    (sign_does fixed.True act.BeginAtoms ∷ Row rule.AfterTrue ∷ []) ∷
    (Row (rule.Does pass.BeginAtoms) ∷ Row rule.Atom ∷ Row rule.AfterAtom ∷ []) ∷
    (Row rule.Group ∷ Row rule.AfterGroup ∷ []) ∷ []
rows rule.AfterTrue = [] ∷ further_parts ∷ []
rows rule.AfterAtom =
    [] ∷
    (sign fixed.Ampersand ∷ Row rule.Atom ∷ Row rule.MoreAtoms ∷ Row (rule.Does pass.ShowFacts) ∷
    []) ∷ further_parts ∷ []
rows rule.AfterGroup = further_parts ∷ []
rows rule.Bars =
    [] ∷ (sign_does fixed.Bar act.AddPart ∷ Row rule.LinePart ∷ Row rule.Bars ∷ []) ∷ []
rows rule.LinePart =
    (sign_does fixed.True act.BeginAtoms ∷ []) ∷
    (Row (rule.Does pass.BeginAtoms) ∷ Row rule.Atom ∷ []) ∷
    (Row rule.Group ∷ []) ∷ []
rows rule.Group = group_row ∷ []
rows rule.MoreAtoms =
    [] ∷ (sign fixed.Ampersand ∷ Row rule.Atom ∷ Row rule.MoreAtoms ∷ []) ∷ []
rows rule.Facts =
    (sign_does fixed.True act.BeginAtoms ∷ []) ∷
    (Row (rule.Does pass.BeginAtoms) ∷ Row rule.Atom ∷ Row rule.MoreAtoms ∷ []) ∷ []
rows rule.Atom =
    (name naming.Predicate ∷ Row rule.AfterWord ∷ []) ∷
    (sign fixed.Tilde ∷ name naming.Predicate ∷ Row rule.AfterNegated ∷ []) ∷ []
rows rule.AfterWord =
    [] ∷ arguments act.AddAtom ∷
    (sign fixed.Equal ∷ name naming.Equal ∷ []) ∷
    (sign fixed.NotEqual ∷ name naming.Unequal ∷ []) ∷ []
rows rule.AfterNegated = [] ∷ arguments act.AddNegated ∷ []
rows (rule.Does does) = [] ∷ []

-- the productions
abbrev pub alternatives : TextPart.TextPart → List (List TextPart.TextPart)
alternatives (Taken t) = []
alternatives (Row r) = rows r

-- the grammar of proof texts
abbrev pub proof_texts : Grammar TextPart.TextPart Token
proof_texts = record { takes = takes; alternatives = alternatives }

-- how the grammar is read: the rows that tokens ask for are computed from the rows, up to five rows
-- deep, one inside the other
abbrev pub proof_text_plan : Plan TextPart.TextPart Token
proof_text_plan = computed_plan proof_texts 5
