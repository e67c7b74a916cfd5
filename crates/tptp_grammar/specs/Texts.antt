-- Which of tokens that are no text of items is refused, and why.
use Rattle.std.specs.Prelude.{ℕ, ◌≡◌, Bool, true, false, ◌||◌, List, [], length, slice_get, Option, Some}
use Rattle.token_grammar.specs.Answers.{IsUnexpected, IsStopped, IsEarlyEnd}
use Rattle.tptp_lexer.specs.declared.kind.Kind.TheVariants as kind
use Rattle.tptp_lexer.specs.Tokens.{Token}
use Rattle.tptp_lexer.specs.Columns.{Lexed, starts_of}
use Rattle.tptp_grammar.specs.declared.limit.Limit.{Limit}
use Rattle.tptp_grammar.specs.declared.limit.Limit.TheVariants as limit
use Rattle.tptp_grammar.specs.declared.mark.Mark.{Mark}
use Rattle.tptp_grammar.specs.declared.refusal.SyntaxRefusal.{SyntaxRefusal}
use Rattle.tptp_grammar.specs.declared.refusal.SyntaxRefusal.TheVariants.{Unexpected, FunctionTerm, EndOfText, TooDeep, Role, FreeVariable, Memory}
use Rattle.tptp_grammar.specs.declared.item_part.ItemPart.{ItemPart}
use Rattle.tptp_grammar.specs.declared.item_part.ItemPart.TheVariants.{Items, Word, ClosesArguments}
use Rattle.tptp_grammar.specs.Parts.{fof_items, is_kind}
use Rattle.tptp_grammar.specs.Limits.{Bindings, items_watcher}
use Rattle.tptp_grammar.specs.Marks.{marks_of}

-- whether a token that is refused would make a term with arguments: a `(` behind a word that is
-- read as a term, or an `=` or `!=` behind the arguments of an atom. A `(` is refused behind no
-- other word
abbrev pub makes_function : Option ItemPart → Mark → Bool
makes_function (Some Word) t = is_kind kind.OpenParenthesis t
makes_function (Some ClosesArguments) t = is_kind kind.Equal t || is_kind kind.NotEqual t
makes_function _ t = false

-- the token with this number is the first with which the tokens begin no text, and none before it
-- is refused for another reason
abbrev pub IsUnexpectedAt : List Mark → ℕ → Bool → Type 0
IsUnexpectedAt ms n function = (after : Bindings) × (last : Option ItemPart) × (t : Mark) ×
    IsUnexpected fof_items items_watcher Items [] ms after n last × (slice_get ms n ≡ Some t) ×
    (makes_function last t ≡ function)

-- the tokens up to the one with this number begin a text, and it is the first that is refused for
-- such a reason
abbrev pub IsStoppedAt : List Mark → ℕ → Limit → Type 0
IsStoppedAt ms n why = IsStopped fof_items items_watcher Items [] ms n why

-- all tokens begin a text and are none, and none is refused for another reason
abbrev pub IsUnfinishedText : List Mark → Type 0
IsUnfinishedText ms = (after : Bindings) × IsEarlyEnd fof_items items_watcher Items [] ms after

-- a token of this number is at this offset of the source, and it is refused in this way
abbrev pub RefusesAt : List Token → ℕ → (List Mark → ℕ → Type 0) → Type 0
RefusesAt ts offset refuses = (n : ℕ) × (slice_get (starts_of ts) n ≡ Some offset) ×
    refuses (marks_of ts) n

-- the refusal of the first refused token, or of the end, of tokens that are no text of items
abbrev pub SyntaxFault : Lexed → SyntaxRefusal → Type 0
SyntaxFault lexed (Unexpected offset) =
    RefusesAt lexed.tokens offset (λ ms n. IsUnexpectedAt ms n false)
SyntaxFault lexed (FunctionTerm offset) =
    RefusesAt lexed.tokens offset (λ ms n. IsUnexpectedAt ms n true)
SyntaxFault lexed (EndOfText offset) = (offset ≡ length lexed.source) ×
    IsUnfinishedText (marks_of lexed.tokens)
SyntaxFault lexed (TooDeep offset) =
    RefusesAt lexed.tokens offset (λ ms n. IsStoppedAt ms n limit.TooDeep)
SyntaxFault lexed (Role offset) =
    RefusesAt lexed.tokens offset (λ ms n. IsStoppedAt ms n limit.UnknownRole)
SyntaxFault lexed (FreeVariable offset) =
    RefusesAt lexed.tokens offset (λ ms n. IsStoppedAt ms n limit.FreeVariable)
SyntaxFault lexed Memory = ⊥
