-- What follows the head has one refusal at most, and none where it spells a body.
use Rattle.std.specs.Prelude.{ℕ, ◌≡◌, ◌≢◌, ◌⊎◌, List, length, slice_get, unwrap_or, Option, Some, None, Result, Ok, Err}
use Rattle.std.proofs.Common.{inl, inr, refl, sym, ◌∙◌, ap, subst, arith}
use Rattle.text_core.proofs.Laws.{value_same}
use Rattle.token_grammar.specs.Answers.{IsAnswer, IsStopped}
use Rattle.token_grammar.specs.Answered.{HasAnswer}
use Rattle.token_grammar.specs.declared.refusal.Refusal.{Refusal}
use Rattle.token_grammar.specs.declared.refusal.Refusal.TheVariants as machine
use Rattle.token_grammar.proofs.Laws.{refusals_agree, accepted_not_refused, computed_decided, tokens_answered}
use Rattle.proof_text.specs.declared.watch.Limit as Limit
use Rattle.proof_text.specs.declared.watch.Limit.TheVariants as limit
use Rattle.isar_text.specs.declared.refusal.IsarRefusal.{IsarRefusal}
use Rattle.isar_text.specs.declared.refusal.IsarRefusal.TheVariants.{Head, Syntax, TooLarge, TooDeep, Memory}
use Rattle.isar_text.specs.declared.mark.Token.{Token as Seen}
use Rattle.isar_text.specs.declared.part.IsarPart as IsarPart
use Rattle.isar_text.specs.declared.part.IsarPart.TheVariants.{Row}
use Rattle.isar_text.specs.declared.part.Rule.TheVariants.{Rest}
use Rattle.isar_text.specs.declared.watch.RuleWords.{RuleWords}
use Rattle.isar_text.specs.declared.watch.Excess.{Excess}
use Rattle.isar_text.specs.Grammar.{isar_rests, isar_plan}
use Rattle.isar_text.specs.GrammarLaw.{isar_law}
use Rattle.isar_text.specs.Watching.{isar_watcher, nothing_seen, look}
use Rattle.isar_text.specs.Values.{Lexed}
use Rattle.isar_text.specs.Scripts.{RestFault, PassesLimit, starts_of, seen_in}
use Rattle.isar_text.specs.Told.{Tells, LimitTold, IsMachineRefusal, IsAcceptedRest}
use Rattle.isar_text.proofs.TokenLaws.{marked_length}
use Rattle.isar_text.proofs.Excesses.{start_at}

-- an answer of the machine
abbrev pub Answer : Type 0
Answer = Result (Unit {0}) (Refusal IsarPart.IsarPart Excess)

-- two refusals of the machine for the same tokens are one
refusals_one : (ms : List Seen) (a b : Refusal IsarPart.IsarPart Excess) → IsMachineRefusal ms a → IsMachineRefusal ms b →
    a ≢ machine.Memory → b ≢ machine.Memory → a ≡ b
refusals_one ms a b (after, first) (later, second) some also =
    refusals_agree isar_rests isar_plan isar_watcher isar_law (computed_decided look) (Row Rest) nothing_seen ms after later a b
    first second some also

-- what the machine accepts it does not refuse
accepted_known : (ms : List Seen) (a : Refusal IsarPart.IsarPart Excess) → IsAcceptedRest ms → IsMachineRefusal ms a → a ≢ machine.Memory → ⊥
accepted_known ms a (after, accepted) (later, refused) some =
    accepted_not_refused isar_rests isar_plan isar_watcher isar_law (computed_decided look) (Row Rest) nothing_seen ms after later a
    accepted refused some

-- where the machine accepts tokens no limit is passed
pub accepted_passes_none : (ms : List Seen) → IsAcceptedRest ms → (excess : Excess) → PassesLimit ms excess → ⊥
accepted_passes_none ms accepted excess (n, stopped) =
    accepted_known ms (machine.Stopped n excess) accepted (nothing_seen, stopped) (λ h. cc)

-- where the machine finds a token unexpected no limit is passed
unexpected_passes_none : (ms : List Seen) (n : ℕ) (last : Option IsarPart.IsarPart) → IsMachineRefusal ms (machine.Unexpected n last) →
    (excess : Excess) → PassesLimit ms excess → ⊥
unexpected_passes_none ms n last refused excess (m, stopped) =
    let same = refusals_one ms (machine.Unexpected n last) (machine.Stopped m excess) refused (nothing_seen, stopped) (λ h. cc) (λ h. cc) in
    absurd (cc)

-- where the tokens end early no limit is passed
early_passes_none : (ms : List Seen) → IsMachineRefusal ms machine.EndsEarly → (excess : Excess) → PassesLimit ms excess → ⊥
early_passes_none ms refused excess (m, stopped) =
    let same = refusals_one ms machine.EndsEarly (machine.Stopped m excess) refused (nothing_seen, stopped) (λ h. cc) (λ h. cc) in
    absurd (cc)

module _ (lexed : Lexed) (end : ℕ) (bad : Option ℕ) where
  -- the refusal of what follows the head
  abbrev pub Fault : IsarRefusal → Type 0
  Fault refusal = RestFault lexed end bad refusal

  -- a limit that is passed is a fault, whichever it is
  pub stopped_fault : (why : Limit.Limit) (word n offset : ℕ) (refusal : IsarRefusal) → slice_get (starts_of lexed.tokens) word ≡ Some offset →
      IsStopped isar_rests isar_watcher (Row Rest) nothing_seen (seen_in lexed) n (record { limit = why; word = word }) →
      LimitTold why offset refusal → Fault refusal
  stopped_fault limit.Version word n offset refusal at stopped told = absurd told
  stopped_fault limit.TooLarge word n offset refusal at stopped told = subst Fault (sym told) (word, at, (n, stopped))
  stopped_fault limit.TooDeep word n offset refusal at stopped told = subst Fault (sym told) (word, at, (n, stopped))

-- an unexpected token is a fault
pub unexpected_fault : (lexed : Lexed) (end : ℕ) (bad : Option ℕ) (n offset : ℕ) (last : Option IsarPart.IsarPart) →
    IsMachineRefusal (seen_in lexed) (machine.Unexpected n last) → slice_get (starts_of lexed.tokens) n ≡ Some offset →
    RestFault lexed end bad (Syntax (unwrap_or bad offset))
unexpected_fault lexed end None n offset last (after, found) at = inl (n, at, (after, last, found))
unexpected_fault lexed end (Some bad) n offset last refused at = (refl, unexpected_passes_none (seen_in lexed) n last refused)

-- an early end is a fault
pub early_fault : (lexed : Lexed) (end : ℕ) (bad : Option ℕ) → IsMachineRefusal (seen_in lexed) machine.EndsEarly →
    RestFault lexed end bad (Syntax (unwrap_or bad end))
early_fault lexed end None refused = inr (refl, refused)
early_fault lexed end (Some bad) refused = (refl, early_passes_none (seen_in lexed) refused)

-- a byte that begins no token is a fault behind tokens that the machine accepts
pub accepted_fault : (lexed : Lexed) (end bad : ℕ) → IsAcceptedRest (seen_in lexed) → RestFault lexed end (Some bad) (Syntax bad)
accepted_fault lexed end bad accepted = (refl, accepted_passes_none (seen_in lexed) accepted)

-- what the machine's refusal is told as is want of memory, or the refusal of what follows the head
pub told_fault : (lexed : Lexed) (end : ℕ) (bad : Option ℕ) (answer : Refusal IsarPart.IsarPart Excess) (refusal : IsarRefusal) →
    IsMachineRefusal (seen_in lexed) answer → Tells lexed end bad answer refusal → (refusal ≡ Memory) ⊎ RestFault lexed end bad refusal
told_fault lexed end bad machine.Memory refusal refused e = inl e
told_fault lexed end bad (machine.Unexpected n last) refusal refused (offset, at, e) =
    inr (subst (RestFault lexed end bad) (sym e) (unexpected_fault lexed end bad n offset last refused at))
told_fault lexed end bad (machine.Stopped n excess) refusal (after, stopped) (offset, at, told) =
    inr (stopped_fault lexed end bad excess.limit excess.word n offset refusal at stopped told)
told_fault lexed end bad machine.EndsEarly refusal refused e =
    inr (subst (RestFault lexed end bad) (sym e) (early_fault lexed end bad refused))

-- how an answer of the machine is told: accepted tokens are refused where a byte behind them begins no token
abbrev AnswerTold : Lexed → ℕ → Option ℕ → Answer → IsarRefusal → Type 0
AnswerTold lexed end None (Ok done) refusal = ⊥
AnswerTold lexed end (Some bad) (Ok done) refusal = refusal ≡ Syntax bad
AnswerTold lexed end bad (Err answer) refusal = Tells lexed end bad answer refusal

-- an answer of the machine that is told as this refusal
record Machine (lexed : Lexed) (end : ℕ) (bad : Option ℕ) (refusal : IsarRefusal) : Type 0 where
  answer : Answer
  after : RuleWords
  is : IsAnswer isar_rests isar_watcher (Row Rest) nothing_seen (seen_in lexed) after answer
  told : AnswerTold lexed end bad answer refusal
  some : answer ≢ Err machine.Memory

-- what is told at a byte that begins no token, where no limit is passed
syntax_told : (lexed : Lexed) (end bad : ℕ) (refusal : IsarRefusal) (answer : Answer) (after : RuleWords) →
    IsAnswer isar_rests isar_watcher (Row Rest) nothing_seen (seen_in lexed) after answer → answer ≢ Err machine.Memory →
    refusal ≡ Syntax bad → ((excess : Excess) → PassesLimit (seen_in lexed) excess → ⊥) → Machine lexed end (Some bad) refusal
syntax_told lexed end bad refusal (Ok done) after is some e none = record { answer = Ok done; after = after; is = is; told = e; some = some }
syntax_told lexed end bad refusal (Err machine.Memory) after is some e none = absurd (some refl)
syntax_told lexed end bad refusal (Err (machine.Unexpected n last)) after is some e none =
    let within = is.first.within in
    let (offset, at) = start_at lexed.tokens n (omega (arith, within, marked_length (length lexed.task.forms) 0 lexed.tokens)) in
    record { answer = Err (machine.Unexpected n last); after = after; is = is; told = (offset, at, e); some = some }
syntax_told lexed end bad refusal (Err (machine.Stopped n excess)) after is some e none = absurd (none excess (n, is))
syntax_told lexed end bad refusal (Err machine.EndsEarly) after is some e none =
    record { answer = Err machine.EndsEarly; after = after; is = is; told = e; some = some }

-- a refusal of what follows the head is what some answer of the machine is told as
fault_told : (lexed : Lexed) (end : ℕ) (bad : Option ℕ) (refusal : IsarRefusal) → RestFault lexed end bad refusal → Machine lexed end bad refusal
fault_told lexed end bad (Head offset) fault = absurd fault
fault_told lexed end None (Syntax offset) (inl (n, at, (after, last, found))) =
    record { answer = Err (machine.Unexpected n last); after = after; is = found; told = (offset, at, refl); some = λ h. cc }
fault_told lexed end None (Syntax offset) (inr (e, (after, early))) =
    record { answer = Err machine.EndsEarly; after = after; is = early; told = ap Syntax e; some = λ h. cc }
fault_told lexed end (Some bad) (Syntax offset) (e, none) =
    let answered : HasAnswer isar_rests isar_watcher (Row Rest) nothing_seen (seen_in lexed) =
    tokens_answered isar_rests isar_plan isar_watcher isar_law (computed_decided look) (Row Rest) nothing_seen (seen_in lexed) in
    syntax_told lexed end bad (Syntax offset) answered.answer answered.after answered.is_answer answered.known (ap Syntax e) none
fault_told lexed end bad (TooLarge offset) (word, at, (n, stopped)) = record {
  answer = Err (machine.Stopped n (record { limit = limit.TooLarge; word = word }));
  after = nothing_seen;
  is = stopped;
  told = (offset, at, refl);
  some = λ h. cc;
}
fault_told lexed end bad (TooDeep offset) (word, at, (n, stopped)) = record {
  answer = Err (machine.Stopped n (record { limit = limit.TooDeep; word = word }));
  after = nothing_seen;
  is = stopped;
  told = (offset, at, refl);
  some = λ h. cc;
}
fault_told lexed end bad Memory fault = absurd fault

-- a limit is told in one way
limit_once : (why : Limit.Limit) (offset : ℕ) (a b : IsarRefusal) → LimitTold why offset a → LimitTold why offset b → a ≡ b
limit_once limit.Version offset a b e f = absurd e
limit_once limit.TooLarge offset a b e f = e ∙ sym f
limit_once limit.TooDeep offset a b e f = e ∙ sym f

-- one answer is told in one way
told_once : (lexed : Lexed) (end : ℕ) (bad : Option ℕ) (answer : Answer) (a b : IsarRefusal) →
    AnswerTold lexed end bad answer a → AnswerTold lexed end bad answer b → a ≡ b
told_once lexed end None (Ok done) a b e f = absurd e
told_once lexed end (Some bad) (Ok done) a b e f = e ∙ sym f
told_once lexed end bad (Err machine.Memory) a b e f = e ∙ sym f
told_once lexed end bad (Err (machine.Unexpected n last)) a b (offset, at, e) (other, also, f) =
    let one : offset ≡ other = value_same (sym at ∙ also) in
    e ∙ ap (λ (k : ℕ). Syntax (unwrap_or bad k)) one ∙ sym f
told_once lexed end bad (Err (machine.Stopped n excess)) a b (offset, at, e) (other, also, f) =
    let one : offset ≡ other = value_same (sym at ∙ also) in
    limit_once excess.limit other a b (subst (λ (k : ℕ). LimitTold excess.limit k a) one e) f
told_once lexed end bad (Err machine.EndsEarly) a b e f = e ∙ sym f

-- two answers of the machine for the same tokens are one
answers_one : (ms : List Seen) (x y : Answer) (after later : RuleWords) →
    IsAnswer isar_rests isar_watcher (Row Rest) nothing_seen ms after x →
    IsAnswer isar_rests isar_watcher (Row Rest) nothing_seen ms later y →
    x ≢ Err machine.Memory → y ≢ Err machine.Memory → x ≡ y
answers_one ms (Ok done) (Ok also) after later first second some other = refl
answers_one ms (Ok done) (Err y) after later first second some other =
    absurd (accepted_known ms y (after, first) (later, second) (λ e. other (ap Err e)))
answers_one ms (Err x) (Ok also) after later first second some other =
    absurd (accepted_known ms x (later, second) (after, first) (λ e. some (ap Err e)))
answers_one ms (Err x) (Err y) after later first second some other =
    ap Err (refusals_one ms x y (after, first) (later, second) (λ e. some (ap Err e)) (λ e. other (ap Err e)))

-- two refusals of what follows the head are one
pub one_rest_fault : (lexed : Lexed) (end : ℕ) (bad : Option ℕ) (a b : IsarRefusal) → RestFault lexed end bad a → RestFault lexed end bad b → a ≡ b
one_rest_fault lexed end bad a b first second =
    let x = fault_told lexed end bad a first in
    let y = fault_told lexed end bad b second in
    let same = answers_one (seen_in lexed) x.answer y.answer x.after y.after x.is y.is x.some y.some in
    told_once lexed end bad y.answer a b (subst (λ answer. AnswerTold lexed end bad answer a) same x.told) y.told

-- what the machine accepts has no refusal, where all bytes are tokens
pub accepted_no_fault : (lexed : Lexed) (end : ℕ) (a : IsarRefusal) → IsAcceptedRest (seen_in lexed) → RestFault lexed end None a → ⊥
accepted_no_fault lexed end a (after, accepted) fault =
    let x = fault_told lexed end None a fault in
    let same = answers_one (seen_in lexed) (Ok tt) x.answer after x.after accepted x.is (λ h. cc) x.some in
    subst (λ answer. AnswerTold lexed end None answer a) (sym same) x.told
