-- A text has one refusal at most, and none where the machine accepts it.
use Rattle.std.specs.Prelude.{ℕ, ◌≡◌, ◌≢◌, ◌⊎◌, Bool, true, false, slice_get, Some, []}
use Rattle.std.proofs.Common.{inl, inr, refl, sym, ◌∙◌, ap, subst}
use Rattle.token_grammar.specs.Answers.{IsAccepted}
use Rattle.token_grammar.specs.declared.refusal.Refusal.{Refusal}
use Rattle.token_grammar.specs.declared.refusal.Refusal.TheVariants as machine
use Rattle.token_grammar.proofs.Laws.{refusals_agree, accepted_not_refused, computed_decided}
use Rattle.tptp_lexer.specs.Columns.{Lexed, starts_of}
use Rattle.tptp_grammar.specs.declared.limit.Limit.{Limit}
use Rattle.tptp_grammar.specs.declared.limit.Limit.TheVariants as limit
use Rattle.tptp_grammar.specs.declared.refusal.SyntaxRefusal.{SyntaxRefusal}
use Rattle.tptp_grammar.specs.declared.refusal.SyntaxRefusal.TheVariants.{Unexpected, FunctionTerm, EndOfText, TooDeep, Role, FreeVariable, Memory}
use Rattle.tptp_grammar.specs.declared.item_part.ItemPart.{ItemPart}
use Rattle.tptp_grammar.specs.declared.item_part.ItemPart.TheVariants.{Items}
use Rattle.tptp_grammar.specs.Parts.{fof_items}
use Rattle.tptp_grammar.specs.Plan.{items_plan}
use Rattle.tptp_grammar.specs.PartsLaw.{items_law}
use Rattle.tptp_grammar.specs.Limits.{Bindings, items_watcher, look}
use Rattle.tptp_grammar.specs.Marks.{marks_of}
use Rattle.tptp_grammar.specs.Texts.{SyntaxFault, IsUnexpectedAt, IsStoppedAt, makes_function}
use Rattle.tptp_grammar.specs.Told.{Tells, IsMachineRefusal, unexpected, limited}

-- an unexpected token is a fault, whether it would make a term with arguments or not
pub unexpected_told : (lexed : Lexed) (n offset : ℕ) (function : Bool) → slice_get (starts_of lexed.tokens) n ≡ Some offset →
    IsUnexpectedAt (marks_of lexed.tokens) n function → SyntaxFault lexed (unexpected function offset)
unexpected_told lexed n offset true at found = (n, at, found)
unexpected_told lexed n offset false at found = (n, at, found)

-- a token at which the watcher stops is a fault, whatever it finds
pub stopped_told : (lexed : Lexed) (n offset : ℕ) (why : Limit) → slice_get (starts_of lexed.tokens) n ≡ Some offset →
    IsStoppedAt (marks_of lexed.tokens) n why → SyntaxFault lexed (limited why offset)
stopped_told lexed n offset limit.TooDeep at found = (n, at, found)
stopped_told lexed n offset limit.UnknownRole at found = (n, at, found)
stopped_told lexed n offset limit.FreeVariable at found = (n, at, found)

-- what the machine's refusal is told as is want of memory, or the refusal of the tokens
pub told_fault : (lexed : Lexed) (answer : Refusal ItemPart Limit) (refusal : SyntaxRefusal) → IsMachineRefusal lexed answer →
    Tells lexed answer refusal → (refusal ≡ Memory) ⊎ SyntaxFault lexed refusal
told_fault lexed machine.Memory refusal refused e = inl e
told_fault lexed (machine.Unexpected n last) refusal (after, found) (t, offset, here, at, e) =
    inr (subst (SyntaxFault lexed) (sym e)
    (unexpected_told lexed n offset (makes_function last t) at (after, last, t, found, here, refl)))
told_fault lexed (machine.Stopped n why) refusal (after, stopped) (offset, at, e) =
    inr (subst (SyntaxFault lexed) (sym e) (stopped_told lexed n offset why at stopped))
told_fault lexed machine.EndsEarly refusal (after, early) e = inr (subst (SyntaxFault lexed) (sym e) (refl, (after, early)))

-- an answer of the machine that is told as this refusal
abbrev Machine : Lexed → SyntaxRefusal → Type 0
Machine lexed refusal = (answer : Refusal ItemPart Limit) × IsMachineRefusal lexed answer × Tells lexed answer refusal × (answer ≢ machine.Memory)

-- a token with which no text begins is refused by the machine
of_unexpected : (lexed : Lexed) (n offset : ℕ) (function : Bool) → slice_get (starts_of lexed.tokens) n ≡ Some offset →
    IsUnexpectedAt (marks_of lexed.tokens) n function → Machine lexed (unexpected function offset)
of_unexpected lexed n offset function at (after, last, t, found, here, e) =
    (machine.Unexpected n last, (after, found), (t, offset, here, at, ap (λ b. unexpected b offset) (sym e)), λ h. cc)

-- a refusal of the tokens is what some refusal of the machine is told as
fault_told : (lexed : Lexed) (refusal : SyntaxRefusal) → SyntaxFault lexed refusal → Machine lexed refusal
fault_told lexed (Unexpected offset) (n, at, found) = of_unexpected lexed n offset false at found
fault_told lexed (FunctionTerm offset) (n, at, found) = of_unexpected lexed n offset true at found
fault_told lexed (EndOfText offset) (e, (after, early)) = (machine.EndsEarly, (after, early), ap EndOfText e, λ h. cc)
fault_told lexed (TooDeep offset) (n, at, stopped) = (machine.Stopped n limit.TooDeep, ([], stopped), (offset, at, refl), λ h. cc)
fault_told lexed (Role offset) (n, at, stopped) = (machine.Stopped n limit.UnknownRole, ([], stopped), (offset, at, refl), λ h. cc)
fault_told lexed (FreeVariable offset) (n, at, stopped) = (machine.Stopped n limit.FreeVariable, ([], stopped), (offset, at, refl), λ h. cc)
fault_told lexed Memory fault = absurd fault

-- one answer is told in one way
told_once : (lexed : Lexed) (answer : Refusal ItemPart Limit) (a b : SyntaxRefusal) → Tells lexed answer a → Tells lexed answer b → a ≡ b
told_once lexed machine.Memory a b e f = e ∙ sym f
told_once lexed (machine.Unexpected n last) a b (t, offset, here, at, e) (u, other, there, also, f) =
    let same : t ≡ u = cc in
    let one : offset ≡ other = cc in
    cc
told_once lexed (machine.Stopped n why) a b (offset, at, e) (other, also, f) =
    let one : offset ≡ other = cc in
    cc
told_once lexed machine.EndsEarly a b e f = e ∙ sym f

-- two refusals of the machine, neither of them want of memory, are one
one_answer : (lexed : Lexed) (a b : Refusal ItemPart Limit) → IsMachineRefusal lexed a → IsMachineRefusal lexed b →
    a ≢ machine.Memory → b ≢ machine.Memory → a ≡ b
one_answer lexed a b (after, first) (later, second) some also =
    refusals_agree fof_items items_plan items_watcher items_law (computed_decided look) Items [] (marks_of lexed.tokens) after later a b
    first second some also

-- two refusals of the same tokens are one
pub fault_same : (lexed : Lexed) (a b : SyntaxRefusal) → SyntaxFault lexed a → SyntaxFault lexed b → a ≡ b
fault_same lexed a b first second =
    let (x, refused, told, some) = fault_told lexed a first in
    let (y, also, tells, other) = fault_told lexed b second in
    let same = one_answer lexed x y refused also some other in
    told_once lexed y a b (subst (λ z. Tells lexed z a) same told) tells

-- what the machine accepts has no refusal
pub accepted_no_fault : (lexed : Lexed) (after : Bindings) (a : SyntaxRefusal) →
    IsAccepted fof_items items_watcher Items [] (marks_of lexed.tokens) after → SyntaxFault lexed a → ⊥
accepted_no_fault lexed after a accepted fault =
    let (x, (later, refused), told, some) = fault_told lexed a fault in
    accepted_not_refused fof_items items_plan items_watcher items_law (computed_decided look) Items [] (marks_of lexed.tokens) after later
    x accepted refused some
