-- A text has one refusal at most, and none where the machine accepts it.
use Rattle.std.specs.Prelude.{ℕ, ◌≡◌, ◌≢◌, ◌⊎◌, length, slice_get, Some}
use Rattle.std.proofs.Common.{inl, inr, refl, sym, ◌∙◌, ap, subst}
use Rattle.text_core.proofs.Laws.{value_same}
use Rattle.token_grammar.specs.declared.refusal.Refusal.{Refusal}
use Rattle.token_grammar.specs.declared.refusal.Refusal.TheVariants as machine
use Rattle.token_grammar.proofs.Laws.{refusals_agree, accepted_not_refused, computed_decided}
use Rattle.tptp_lexer.specs.Columns.{Lexed, starts_of}
use Rattle.model_text.specs.declared.refusal.ModelRefusal.{ModelRefusal}
use Rattle.model_text.specs.declared.refusal.ModelRefusal.TheVariants.{Lex, ModelSyntax, ModelRange, ModelTwice, Memory}
use Rattle.model_text.specs.declared.part.ModelPart as ModelPart
use Rattle.model_text.specs.declared.part.ModelPart.TheVariants.{Row}
use Rattle.model_text.specs.declared.part.Rule.TheVariants as rule
use Rattle.model_text.specs.declared.watch.Fault as Why
use Rattle.model_text.specs.declared.watch.Fault.TheVariants as why
use Rattle.model_text.specs.Marks.{marked}
use Rattle.model_text.specs.Grammar.{models, model_plan}
use Rattle.model_text.specs.GrammarLaw.{model_law}
use Rattle.model_text.specs.Watching.{model_watcher, nothing_seen, look}
use Rattle.model_text.specs.Texts.{TokensFault, IsStoppedAt}
use Rattle.model_text.specs.Told.{Tells, IsMachineRefusal, IsAcceptedText, faulty}

-- the refusal of the tokens of a source
abbrev pub Fault : Lexed → ModelRefusal → Type 0
Fault lexed refusal = TokensFault lexed.tokens (length lexed.source) refusal

-- a token at which the watcher stops is a fault, whatever it finds
pub stopped_told : (lexed : Lexed) (n offset : ℕ) (reason : Why.Fault) → slice_get (starts_of lexed.tokens) n ≡ Some offset →
    IsStoppedAt reason (marked lexed.tokens) n → Fault lexed (faulty reason offset)
stopped_told lexed n offset why.Range at found = (n, at, found)
stopped_told lexed n offset why.Twice at found = (n, at, found)

-- what the machine's refusal is told as is want of memory, or the refusal of the tokens
pub told_fault : (lexed : Lexed) (answer : Refusal ModelPart.ModelPart Why.Fault) (refusal : ModelRefusal) →
    IsMachineRefusal lexed.tokens answer → Tells lexed answer refusal → (refusal ≡ Memory) ⊎ Fault lexed refusal
told_fault lexed machine.Memory refusal refused e = inl e
told_fault lexed (machine.Unexpected n last) refusal (after, found) (offset, at, e) =
    inr (subst (Fault lexed) (sym e) (inl (n, at, (after, last, found))))
told_fault lexed (machine.Stopped n reason) refusal (after, stopped) (offset, at, e) =
    inr (subst (Fault lexed) (sym e) (stopped_told lexed n offset reason at stopped))
told_fault lexed machine.EndsEarly refusal (after, early) e =
    inr (subst (Fault lexed) (sym e) (inr (refl, (after, early))))

-- an answer of the machine that is told as this refusal
abbrev Machine : Lexed → ModelRefusal → Type 0
Machine lexed refusal = (answer : Refusal ModelPart.ModelPart Why.Fault) × IsMachineRefusal lexed.tokens answer ×
    Tells lexed answer refusal × (answer ≢ machine.Memory)

-- a refusal of the tokens is what some refusal of the machine is told as
fault_told : (lexed : Lexed) (refusal : ModelRefusal) → Fault lexed refusal → Machine lexed refusal
fault_told lexed (Lex refusal) fault = absurd fault
fault_told lexed (ModelSyntax offset) (inl (n, at, (after, last, found))) =
    (machine.Unexpected n last, (after, found), (offset, at, refl), λ h. cc)
fault_told lexed (ModelSyntax offset) (inr (e, (after, early))) =
    (machine.EndsEarly, (after, early), ap ModelSyntax e, λ h. cc)
fault_told lexed (ModelRange offset) (n, at, stopped) =
    (machine.Stopped n why.Range, (nothing_seen, stopped), (offset, at, refl), λ h. cc)
fault_told lexed (ModelTwice offset) (n, at, stopped) =
    (machine.Stopped n why.Twice, (nothing_seen, stopped), (offset, at, refl), λ h. cc)
fault_told lexed Memory fault = absurd fault

-- one answer is told in one way
told_once : (lexed : Lexed) (answer : Refusal ModelPart.ModelPart Why.Fault) (a b : ModelRefusal) →
    Tells lexed answer a → Tells lexed answer b → a ≡ b
told_once lexed machine.Memory a b e f = e ∙ sym f
told_once lexed (machine.Unexpected n last) a b (offset, at, e) (other, also, f) =
    let one : offset ≡ other = value_same (sym at ∙ also) in
    e ∙ ap ModelSyntax one ∙ sym f
told_once lexed (machine.Stopped n reason) a b (offset, at, e) (other, also, f) =
    let one : offset ≡ other = value_same (sym at ∙ also) in
    e ∙ ap (faulty reason) one ∙ sym f
told_once lexed machine.EndsEarly a b e f = e ∙ sym f

-- two refusals of the same tokens are one
pub one_fault : (lexed : Lexed) (a b : ModelRefusal) → Fault lexed a → Fault lexed b → a ≡ b
one_fault lexed a b first second =
    let (x, (after, refused), told, some) = fault_told lexed a first in
    let (y, (later, also), tells, other) = fault_told lexed b second in
    let same = refusals_agree models model_plan model_watcher model_law (computed_decided look) (Row rule.Text)
    nothing_seen (marked lexed.tokens) after later x y refused also some other in
    told_once lexed y a b (subst (λ z. Tells lexed z a) same told) tells

-- what the machine accepts has no refusal
pub accepted_no_fault : (lexed : Lexed) (a : ModelRefusal) → IsAcceptedText lexed.tokens → Fault lexed a → ⊥
accepted_no_fault lexed a (after, accepted) fault =
    let (x, (later, refused), told, some) = fault_told lexed a fault in
    accepted_not_refused models model_plan model_watcher model_law (computed_decided look) (Row rule.Text)
    nothing_seen (marked lexed.tokens) after later x accepted refused some
