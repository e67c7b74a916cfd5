-- The grammar of what follows the head of a text.
--
--   rest   ::= body `qed`
--   body   ::= step* finish
--   step   ::= `have` Ln `:` `"` line `"` using `by` `blast`
--            | `obtain` name+ `where` Ln `:` `"` line `"` using `by` `blast`
--   using  ::= `using` Ai Lm* `(*` names `*)`
--   finish ::= `show` `?thesis` [`using` Lm+] `(*` `as` number names `*)` `by` `blast`
--            | `show` `?thesis` [`using` Lm+] `(*` `efq` `*)` `by` `blast`
--            | `show` `?thesis` `using` Lm `proof` `(` `elim` `disjE` `)`
--              case (`next` case)* `qed`
--   case   ::= `assume` Ln `:` `"` facts `"` body
--   names  ::= `[` `]` | `[` name,.. `]`
--   line   ::= `False` | facts | part (`|` part)+
--   facts  ::= `True` | atom (`&` atom)*
--   part   ::= `True` | atom | `(` atom (`&` atom)+ `)`
--   atom   ::= [`~`] name name* | name `=` name | name `~=` name
--
-- Ln is the label of a line whose number is the number of lines of the branch so far, and Lm that
-- of an earlier line. Ai is the label of a form, and a name a word that is the written form of a
-- name; which words these are, the marks of tokens tell. A branch begins with one line, a step adds
-- one from its end on, and a case one from its facts on. Here the productions are factored, so that
-- the next token chooses the row.
use Rattle.std.specs.Prelude.{ℕ, ◌+◌, ◌==◌, nat_lt, Bool, true, false, List, [], ◌∷◌}
use Rattle.token_grammar.specs.Grammar.{Grammar}
use Rattle.token_grammar.specs.Plan.{Plan}
use Rattle.token_grammar.specs.Computed.{computed_plan}
use Rattle.proof_text.specs.declared.part.Act as Act
use Rattle.proof_text.specs.declared.part.Act.TheVariants as act
use Rattle.proof_text.specs.declared.part.Naming as Naming
use Rattle.proof_text.specs.declared.part.Naming.TheVariants as naming
use Rattle.proof_text.specs.declared.part.Pass.TheVariants as pass
use Rattle.isar_text.specs.declared.fixed.Fixed as Fixed
use Rattle.isar_text.specs.declared.fixed.Fixed.TheVariants as fixed
use Rattle.isar_text.specs.declared.mark.Mark as Mark
use Rattle.isar_text.specs.declared.mark.Mark.TheVariants as mark
use Rattle.isar_text.specs.declared.mark.Token.{Token}
use Rattle.isar_text.specs.declared.part.IsarPart as IsarPart
use Rattle.isar_text.specs.declared.part.IsarPart.TheVariants.{Taken, Row}
use Rattle.isar_text.specs.declared.part.Taker as Taker
use Rattle.isar_text.specs.declared.part.Taker.TheVariants as taker
use Rattle.isar_text.specs.declared.part.Rule as Rule
use Rattle.isar_text.specs.declared.part.Rule.TheVariants as rule
use Rattle.isar_text.specs.Fixed.{same_fixed}

-- whether the token has this text
abbrev pub is_fixed : Fixed.Fixed → Mark.Mark → Bool
is_fixed f (mark.Fixed g) = same_fixed f g
is_fixed f _ = false

-- whether the token is the label of a line with the number that is asked for
abbrev pub is_line : (ℕ → Bool) → Mark.Mark → Bool
is_line asked (mark.Line m) = asked m
is_line asked _ = false

-- which token is taken
abbrev pub mark_taken : Taker.Taker → Mark.Mark → Bool
mark_taken (taker.Fixed f does) m = is_fixed f m
mark_taken (taker.Name what) mark.Name = true
mark_taken taker.Form (mark.Form i) = true
mark_taken taker.Disjunct (mark.Number n) = true
mark_taken (taker.NextLine n) m = is_line (λ line. n == line) m
mark_taken (taker.OldLine n) m = is_line (λ line. nat_lt line n) m
mark_taken (taker.SplitLine n) m = is_line (λ line. nat_lt line n) m
mark_taken _ _ = false

-- a rule takes no token itself
abbrev pub takes : IsarPart.IsarPart → Token → Bool
takes (Taken t) token = mark_taken t token.mark
takes (Row r) token = false

-- a token with this text, at which nothing is done, or this
abbrev pub sign : Fixed.Fixed → IsarPart.IsarPart
sign f = Taken (taker.Fixed f act.Nothing)

abbrev pub sign_does : Fixed.Fixed → Act.Act → IsarPart.IsarPart
sign_does f does = Taken (taker.Fixed f does)

abbrev pub name : Naming.Naming → IsarPart.IsarPart
name what = Taken (taker.Name what)

-- further parts of a line
abbrev pub further_parts : List IsarPart.IsarPart
further_parts = sign_does fixed.Bar act.BeginParts ∷ Row rule.LinePart ∷ Row rule.Bars ∷ []

-- the arguments of an atom, and what is done behind them
abbrev pub arguments : Act.Act → List IsarPart.IsarPart
arguments does =
    Row (rule.Acts act.BeginNames) ∷ name naming.Listed ∷ Row rule.MoreWords ∷
    Row (rule.Acts does) ∷ []

-- two or more atoms in brackets
abbrev pub group_row : List IsarPart.IsarPart
group_row =
    sign_does fixed.OpenParenthesis act.BeginAtoms ∷ Row rule.Atom ∷ sign fixed.Ampersand ∷
    Row rule.Atom ∷ Row rule.MoreAtoms ∷ sign fixed.CloseParenthesis ∷ []

-- the rows of the rules
abbrev pub rows : Rule.Rule → List (List IsarPart.IsarPart)
rows rule.Rest =
    (Row (rule.Acts act.BeginFirst) ∷ Row (rule.Body 1) ∷ sign fixed.Qed ∷ []) ∷ []
rows (rule.Body n) =
    (Row (rule.Step n) ∷ Row (rule.Body (n + 1)) ∷ []) ∷ (Row (rule.Finish n) ∷ []) ∷ []
rows (rule.Step n) =
    (sign_does fixed.Have act.BeginNames ∷ Row (rule.Given n) ∷ []) ∷
    (sign_does fixed.Obtain act.BeginNames ∷ name naming.Listed ∷ Row rule.MoreWords ∷
    sign fixed.Where ∷ Row (rule.Given n) ∷ []) ∷ []
rows (rule.Given n) =
    (Taken (taker.NextLine n) ∷ sign_does fixed.Colon act.KeepFresh ∷ Row rule.QuotedLine ∷
    Row (rule.Using n) ∷ []) ∷ []
rows rule.QuotedLine = (sign fixed.Quote ∷ Row rule.Line ∷ sign fixed.Quote ∷ []) ∷ []
rows (rule.Using n) =
    (sign fixed.Using ∷ Taken taker.Form ∷ Row (rule.MoreLines n) ∷ Row rule.Instance ∷
    Row rule.StepEnd ∷ []) ∷ []
rows (rule.MoreLines n) =
    [] ∷ (Taken (taker.OldLine n) ∷ Row (rule.MoreLines n) ∷ []) ∷ []
rows rule.Instance =
    (sign fixed.OpenComment ∷ Row rule.Names ∷ sign_does fixed.CloseComment act.KeepArgs ∷ []) ∷ []
rows rule.StepEnd = (sign fixed.By ∷ sign_does fixed.Blast act.EndStep ∷ []) ∷ []
rows (rule.Finish n) =
    (sign fixed.Show ∷ sign fixed.Thesis ∷ Row (rule.AfterThesis n) ∷ []) ∷ []
rows (rule.AfterThesis n) =
    (sign fixed.Using ∷ Taken (taker.SplitLine n) ∷ Row (rule.AfterLine n) ∷ []) ∷
    (Row rule.Reason ∷ []) ∷ []
rows (rule.AfterLine n) =
    (sign_does fixed.Proof act.BeginSplit ∷ Row rule.ByCases ∷ Row (rule.Case n) ∷
    Row (rule.MoreCases n) ∷ sign_does fixed.Qed act.EndSplit ∷ []) ∷
    (Row (rule.MoreLines n) ∷ Row rule.Reason ∷ []) ∷ []
rows rule.ByCases =
    (sign fixed.OpenParenthesis ∷ sign fixed.Elim ∷ sign fixed.DisjE ∷
    sign fixed.CloseParenthesis ∷ []) ∷ []
rows rule.Reason = (sign fixed.OpenComment ∷ Row rule.Inside ∷ []) ∷ []
rows rule.Inside =
    (sign fixed.As ∷ Taken taker.Disjunct ∷ Row rule.Names ∷
    sign_does fixed.CloseComment act.EndAs ∷ Row rule.ByBlast ∷ []) ∷
    (sign fixed.Efq ∷ sign_does fixed.CloseComment act.EndEfq ∷ Row rule.ByBlast ∷ []) ∷ []
rows rule.ByBlast = (sign fixed.By ∷ sign fixed.Blast ∷ []) ∷ []
rows (rule.Case n) =
    (sign_does fixed.Assume act.BeginCase ∷ Row (rule.CaseHead n) ∷ Row (rule.Body (n + 1)) ∷
    Row (rule.Does pass.AddCase) ∷ []) ∷ []
rows (rule.CaseHead n) =
    (Taken (taker.NextLine n) ∷ sign fixed.Colon ∷ Row rule.QuotedFacts ∷ []) ∷ []
rows rule.QuotedFacts =
    (sign fixed.Quote ∷ Row rule.Facts ∷ sign_does fixed.Quote act.ShowCase ∷ []) ∷ []
rows (rule.MoreCases n) =
    [] ∷ (sign fixed.Next ∷ Row (rule.Case n) ∷ Row (rule.MoreCases n) ∷ []) ∷ []
rows rule.Names =
    (sign_does fixed.OpenBracket act.BeginNames ∷ Row rule.ListedNames ∷
    sign fixed.CloseBracket ∷ []) ∷ []
rows rule.ListedNames = [] ∷ (name naming.Listed ∷ Row rule.MoreNames ∷ []) ∷ []
rows rule.MoreNames =
    [] ∷ (sign fixed.Comma ∷ name naming.Listed ∷ Row rule.MoreNames ∷ []) ∷ []
rows rule.MoreWords = [] ∷ (name naming.Listed ∷ Row rule.MoreWords ∷ []) ∷ []
rows rule.Line =
    (sign_does fixed.False act.ShowFalsum ∷ []) ∷
    (sign_does fixed.True act.BeginAtoms ∷ Row rule.AfterTrue ∷ []) ∷
    (Row (rule.Does pass.BeginAtoms) ∷ Row rule.Atom ∷ Row rule.AfterAtom ∷ []) ∷
    (Row rule.Group ∷ Row rule.AfterGroup ∷ []) ∷ []
rows rule.AfterTrue = [] ∷ further_parts ∷ []
rows rule.AfterAtom =
    [] ∷
    (sign fixed.Ampersand ∷ Row rule.Atom ∷ Row rule.MoreAtoms ∷ Row (rule.Does pass.ShowFacts) ∷
    []) ∷ further_parts ∷ []
rows rule.AfterGroup = further_parts ∷ []
rows rule.Bars =
    [] ∷ (sign_does fixed.Bar act.AddPart ∷ Row rule.LinePart ∷ Row rule.Bars ∷ []) ∷ []
rows rule.LinePart =
    (sign_does fixed.True act.BeginAtoms ∷ []) ∷
    (Row (rule.Does pass.BeginAtoms) ∷ Row rule.Atom ∷ []) ∷
    (Row rule.Group ∷ []) ∷ []
rows rule.Group = group_row ∷ []
rows rule.MoreAtoms =
    [] ∷ (sign fixed.Ampersand ∷ Row rule.Atom ∷ Row rule.MoreAtoms ∷ []) ∷ []
rows rule.Facts =
    (sign_does fixed.True act.BeginAtoms ∷ []) ∷
    (Row (rule.Does pass.BeginAtoms) ∷ Row rule.Atom ∷ Row rule.MoreAtoms ∷ []) ∷ []
rows rule.Atom =
    (name naming.Predicate ∷ Row rule.AfterName ∷ []) ∷
    (sign fixed.Tilde ∷ name naming.Predicate ∷ Row rule.AfterNegated ∷ []) ∷ []
rows rule.AfterName =
    [] ∷ arguments act.AddAtom ∷
    (sign fixed.Equal ∷ name naming.Equal ∷ []) ∷
    (sign fixed.NotEqual ∷ name naming.Unequal ∷ []) ∷ []
rows rule.AfterNegated = [] ∷ arguments act.AddNegated ∷ []
rows (rule.Acts does) = [] ∷ []
rows (rule.Does does) = [] ∷ []

-- the productions
abbrev pub alternatives : IsarPart.IsarPart → List (List IsarPart.IsarPart)
alternatives (Taken t) = []
alternatives (Row r) = rows r

-- the grammar
abbrev pub isar_rests : Grammar IsarPart.IsarPart Token
isar_rests = record { takes = takes; alternatives = alternatives }

-- the same, where each label of a line is taken whatever its number
abbrev pub marks_alone : Taker.Taker → Mark.Mark → Bool
marks_alone (taker.NextLine n) m = is_line (λ line. true) m
marks_alone (taker.OldLine n) m = is_line (λ line. true) m
marks_alone (taker.SplitLine n) m = is_line (λ line. true) m
marks_alone t m = mark_taken t m

abbrev pub takes_marks : IsarPart.IsarPart → Token → Bool
takes_marks (Taken t) token = marks_alone t token.mark
takes_marks (Row r) token = false

-- how the grammar is read: a row is chosen by the mark alone, and computed from the rows, up to
-- five rows deep, one inside the other
abbrev pub isar_plan : Plan IsarPart.IsarPart Token
isar_plan = computed_plan (record { takes = takes_marks; alternatives = alternatives }) 5
