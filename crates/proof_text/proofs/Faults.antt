-- A text has one refusal at most, and none where the machine accepts it.
use Rattle.std.specs.Prelude.{ℕ, ◌≡◌, ◌≢◌, ◌⊎◌, length, slice_get, Some}
use Rattle.std.proofs.Common.{inl, inr, refl, sym, ◌∙◌, ap, subst}
use Rattle.text_core.proofs.Laws.{value_same}
use Rattle.token_grammar.specs.declared.refusal.Refusal.{Refusal}
use Rattle.token_grammar.specs.declared.refusal.Refusal.TheVariants as machine
use Rattle.token_grammar.proofs.Laws.{refusals_agree, accepted_not_refused, computed_decided}
use Rattle.tptp_lexer.specs.Columns.{Lexed, starts_of}
use Rattle.proof_text.specs.declared.refusal.ScriptRefusal.{ScriptRefusal}
use Rattle.proof_text.specs.declared.refusal.ScriptRefusal.TheVariants.{Lex, ProofSyntax, ProofVersion, ProofTooLarge, CasesTooDeep, Memory}
use Rattle.proof_text.specs.declared.part.TextPart as TextPart
use Rattle.proof_text.specs.declared.part.TextPart.TheVariants.{Row}
use Rattle.proof_text.specs.declared.part.Rule.TheVariants.{Text as WholeText}
use Rattle.proof_text.specs.declared.watch.Limit as Limit
use Rattle.proof_text.specs.declared.watch.Limit.TheVariants as limit
use Rattle.proof_text.specs.Marks.{marked}
use Rattle.proof_text.specs.Grammar.{proof_texts, proof_text_plan}
use Rattle.proof_text.specs.GrammarLaw.{proof_text_law}
use Rattle.proof_text.specs.Watching.{proof_text_watcher, nothing_seen, look}
use Rattle.proof_text.specs.Scripts.{TokensFault, IsStoppedAt}
use Rattle.proof_text.specs.Told.{Tells, IsMachineRefusal, IsAcceptedText, limited}

-- the refusal of the tokens of a source
abbrev pub Fault : Lexed → ScriptRefusal → Type 0
Fault lexed refusal = TokensFault lexed.tokens (length lexed.source) refusal

-- a token at which the watcher stops is a fault, whatever it finds
pub stopped_told : (lexed : Lexed) (n offset : ℕ) (why : Limit.Limit) → slice_get (starts_of lexed.tokens) n ≡ Some offset →
    IsStoppedAt why (marked lexed.tokens) n → Fault lexed (limited why offset)
stopped_told lexed n offset limit.Version at found = (n, at, found)
stopped_told lexed n offset limit.TooLarge at found = (n, at, found)
stopped_told lexed n offset limit.TooDeep at found = (n, at, found)

-- what the machine's refusal is told as is want of memory, or the refusal of the tokens
pub told_fault : (lexed : Lexed) (answer : Refusal TextPart.TextPart Limit.Limit) (refusal : ScriptRefusal) →
    IsMachineRefusal lexed.tokens answer → Tells lexed answer refusal → (refusal ≡ Memory) ⊎ Fault lexed refusal
told_fault lexed machine.Memory refusal refused e = inl e
told_fault lexed (machine.Unexpected n last) refusal (after, found) (offset, at, e) =
    inr (subst (Fault lexed) (sym e) (inl (n, at, (after, last, found))))
told_fault lexed (machine.Stopped n why) refusal (after, stopped) (offset, at, e) =
    inr (subst (Fault lexed) (sym e) (stopped_told lexed n offset why at stopped))
told_fault lexed machine.EndsEarly refusal (after, early) e =
    inr (subst (Fault lexed) (sym e) (inr (refl, (after, early))))

-- an answer of the machine that is told as this refusal
abbrev Machine : Lexed → ScriptRefusal → Type 0
Machine lexed refusal = (answer : Refusal TextPart.TextPart Limit.Limit) × IsMachineRefusal lexed.tokens answer ×
    Tells lexed answer refusal × (answer ≢ machine.Memory)

-- a refusal of the tokens is what some refusal of the machine is told as
fault_told : (lexed : Lexed) (refusal : ScriptRefusal) → Fault lexed refusal → Machine lexed refusal
fault_told lexed (Lex refusal) fault = absurd fault
fault_told lexed (ProofSyntax offset) (inl (n, at, (after, last, found))) =
    (machine.Unexpected n last, (after, found), (offset, at, refl), λ h. cc)
fault_told lexed (ProofSyntax offset) (inr (e, (after, early))) =
    (machine.EndsEarly, (after, early), ap ProofSyntax e, λ h. cc)
fault_told lexed (ProofVersion offset) (n, at, stopped) =
    (machine.Stopped n limit.Version, (nothing_seen, stopped), (offset, at, refl), λ h. cc)
fault_told lexed (ProofTooLarge offset) (n, at, stopped) =
    (machine.Stopped n limit.TooLarge, (nothing_seen, stopped), (offset, at, refl), λ h. cc)
fault_told lexed (CasesTooDeep offset) (n, at, stopped) =
    (machine.Stopped n limit.TooDeep, (nothing_seen, stopped), (offset, at, refl), λ h. cc)
fault_told lexed Memory fault = absurd fault

-- one answer is told in one way
told_once : (lexed : Lexed) (answer : Refusal TextPart.TextPart Limit.Limit) (a b : ScriptRefusal) →
    Tells lexed answer a → Tells lexed answer b → a ≡ b
told_once lexed machine.Memory a b e f = e ∙ sym f
told_once lexed (machine.Unexpected n last) a b (offset, at, e) (other, also, f) =
    let one : offset ≡ other = value_same (sym at ∙ also) in
    e ∙ ap ProofSyntax one ∙ sym f
told_once lexed (machine.Stopped n why) a b (offset, at, e) (other, also, f) =
    let one : offset ≡ other = value_same (sym at ∙ also) in
    e ∙ ap (limited why) one ∙ sym f
told_once lexed machine.EndsEarly a b e f = e ∙ sym f

-- two refusals of the same tokens are one
pub one_fault : (lexed : Lexed) (a b : ScriptRefusal) → Fault lexed a → Fault lexed b → a ≡ b
one_fault lexed a b first second =
    let (x, (after, refused), told, some) = fault_told lexed a first in
    let (y, (later, also), tells, other) = fault_told lexed b second in
    let same = refusals_agree proof_texts proof_text_plan proof_text_watcher proof_text_law (computed_decided look) (Row WholeText)
    nothing_seen (marked lexed.tokens) after later x y refused also some other in
    told_once lexed y a b (subst (λ z. Tells lexed z a) same told) tells

-- what the machine accepts has no refusal
pub accepted_no_fault : (lexed : Lexed) (a : ScriptRefusal) → IsAcceptedText lexed.tokens → Fault lexed a → ⊥
accepted_no_fault lexed a (after, accepted) fault =
    let (x, (later, refused), told, some) = fault_told lexed a fault in
    accepted_not_refused proof_texts proof_text_plan proof_text_watcher proof_text_law (computed_decided look) (Row WholeText)
    nothing_seen (marked lexed.tokens) after later x accepted refused some
