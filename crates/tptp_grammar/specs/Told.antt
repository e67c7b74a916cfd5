-- How the machine's answer is told as a refusal of tokens.
use Rattle.std.specs.Prelude.{ℕ, ◌≡◌, Bool, true, false, length, slice_get, List, [], Some}
use Rattle.token_grammar.specs.Answers.{IsAccepted, IsRefused}
use Rattle.token_grammar.specs.declared.refusal.Refusal.{Refusal}
use Rattle.token_grammar.specs.declared.refusal.Refusal.TheVariants as machine
use Rattle.tptp_lexer.specs.Columns.{Lexed, starts_of}
use Rattle.tptp_grammar.specs.declared.limit.Limit.{Limit}
use Rattle.tptp_grammar.specs.declared.limit.Limit.TheVariants as limit
use Rattle.tptp_grammar.specs.declared.mark.Mark.{Mark}
use Rattle.tptp_grammar.specs.declared.refusal.SyntaxRefusal.{SyntaxRefusal}
use Rattle.tptp_grammar.specs.declared.refusal.SyntaxRefusal.TheVariants.{Unexpected, FunctionTerm, EndOfText, TooDeep, Role, FreeVariable, Memory}
use Rattle.tptp_grammar.specs.declared.item_part.ItemPart.{ItemPart}
use Rattle.tptp_grammar.specs.declared.item_part.ItemPart.TheVariants.{Items}
use Rattle.tptp_grammar.specs.Parts.{fof_items}
use Rattle.tptp_grammar.specs.Limits.{Bindings, items_watcher}
use Rattle.tptp_grammar.specs.Marks.{marks_of}
use Rattle.tptp_grammar.specs.Texts.{makes_function}

-- a refused token, which would make a term with arguments or not
abbrev pub unexpected : Bool → ℕ → SyntaxRefusal
unexpected true offset = FunctionTerm offset
unexpected false offset = Unexpected offset

-- a token that the watcher refuses
abbrev pub limited : Limit → ℕ → SyntaxRefusal
limited limit.TooDeep offset = TooDeep offset
limited limit.UnknownRole offset = Role offset
limited limit.FreeVariable offset = FreeVariable offset

-- the answer of the machine is told as this refusal
abbrev pub Tells : Lexed → Refusal ItemPart Limit → SyntaxRefusal → Type 0
Tells lexed machine.Memory refusal = refusal ≡ Memory
Tells lexed (machine.Unexpected n last) refusal = (t : Mark) × (offset : ℕ) ×
    (slice_get (marks_of lexed.tokens) n ≡ Some t) ×
    (slice_get (starts_of lexed.tokens) n ≡ Some offset) ×
    (refusal ≡ unexpected (makes_function last t) offset)
Tells lexed (machine.Stopped n why) refusal = (offset : ℕ) ×
    (slice_get (starts_of lexed.tokens) n ≡ Some offset) × (refusal ≡ limited why offset)
Tells lexed machine.EndsEarly refusal = refusal ≡ EndOfText (length lexed.source)

-- the machine's refusal of the tokens, with what its watcher keeps
abbrev pub IsMachineRefusal : Lexed → Refusal ItemPart Limit → Type 0
IsMachineRefusal lexed refusal = (after : Bindings) ×
    IsRefused fof_items items_watcher Items [] (marks_of lexed.tokens) after refusal

-- the machine accepts the marks
abbrev pub IsAcceptedText : List Mark → Type 0
IsAcceptedText ms = (after : Bindings) × IsAccepted fof_items items_watcher Items [] ms after
