-- Bytes spell one script of a task as Isar, or have one refusal.
use Rattle.std.specs.Prelude.{ℕ, ◌≡◌, ◌≢◌, ◌⊎◌, ◌<◌, nat_lt, Bool, true, false, ◌++◌, length, drop, List, unwrap_or, Option, Some, None, Result, Ok, Err}
use Rattle.std.proofs.Common.{inl, inr, refl, sym, ◌∙◌, ap, subst, arith}
use Rattle.std.specs.Result.{IsErr, IsErrAnd}
use Rattle.std.proofs.lemmas.Bool.{ltb-true, ltb-false, false≢true}
use Rattle.std.proofs.lemmas.List.{append_cancel_left}
use Rattle.text_core.specs.Names.{Text}
use Rattle.text_core.specs.Exact.{Exact}
use Rattle.text_core.proofs.Laws.{exact_value, exact_refusal}
use Rattle.token_grammar.specs.Answers.{IsAnswer}
use Rattle.token_grammar.specs.Answered.{HasAnswer}
use Rattle.token_grammar.specs.declared.refusal.Refusal.TheVariants as machine
use Rattle.token_grammar.proofs.Laws.{tokens_answered, computed_decided, part_value}
use Rattle.coherent_form.specs.Tasks.{CitedTask}
use Rattle.proof_text.specs.declared.body.BodyText.{BodyText}
use Rattle.proof_text.specs.declared.watch.Limit as Limit
use Rattle.proof_text.specs.declared.watch.Limit.TheVariants as limit
use Rattle.proof_text.specs.Proper.{IsProper}
use Rattle.proof_text.specs.Values.{Written}
use Rattle.isar_text.specs.declared.refusal.IsarRefusal.{IsarRefusal}
use Rattle.isar_text.specs.declared.refusal.IsarRefusal.TheVariants.{Head, Syntax, TooLarge, TooDeep, Memory}
use Rattle.isar_text.specs.declared.part.IsarPart.TheVariants.{Row}
use Rattle.isar_text.specs.declared.part.Rule.TheVariants.{Rest}
use Rattle.isar_text.specs.declared.watch.RuleWords.{RuleWords}
use Rattle.isar_text.specs.Grammar.{isar_rests, isar_plan}
use Rattle.isar_text.specs.GrammarLaw.{isar_law}
use Rattle.isar_text.specs.Heads.{isar_head}
use Rattle.isar_text.specs.Tokens.{Token, AreTokens}
use Rattle.isar_text.specs.Values.{Lexed, Value, isar_making}
use Rattle.isar_text.specs.Watching.{isar_watcher, nothing_seen, look}
use Rattle.isar_text.specs.Scripts.{AreBodyOf, IsIsarOf, IsRestFault, IsarFault, RestFault, common, script_with, seen_in}
use Rattle.isar_text.specs.Told.{LimitTold}
use Rattle.isar_text.proofs.Excesses.{start_at, stopped_known}
use Rattle.isar_text.proofs.Faults.{Answer, one_rest_fault, unexpected_fault, early_fault, stopped_fault, accepted_fault}
use Rattle.isar_text.proofs.Fronts.{common_front, front_whole}
use Rattle.isar_text.proofs.Read.{IsRest, body_read, script_proper, one_body, body_no_fault}
use Rattle.isar_text.proofs.TokenLaws.{marked_length, one_reading, some_reading}

-- what stands behind a head
abbrev Lexing : CitedTask → List Token → Lexed
Lexing task tokens = record { task = task; tokens = tokens }

-- two readings of the same bytes behind the head
record AreSame (tokens others : List Token) (bad left : Option ℕ) : Type 0 where
  tokens_same : tokens ≡ others
  bad_same : bad ≡ left

behind_same : (head bytes rest more : Text) (tokens others : List Token) (bad left : Option ℕ) →
    bytes ≡ head ++ rest → bytes ≡ head ++ more → AreTokens (length head) rest tokens bad → AreTokens (length head) more others left →
    AreSame tokens others bad left
behind_same head bytes rest more tokens others bad left e f are also =
    let same : rest ≡ more = append_cancel_left head rest more (sym e ∙ f) in
    let (bads, lists) = one_reading bad left (length head) more tokens others
    (subst (λ text. AreTokens (length head) text tokens bad) same are) also in
    record { tokens_same = lists; bad_same = bads }

-- bytes spell one script
pub isar_same : (task : CitedTask) (bytes : Text) (a b : Written) → IsIsarOf task bytes a → IsIsarOf task bytes b → a ≡ b
isar_same task bytes a b first second =
    let same = behind_same (isar_head task) bytes first.rest second.rest first.tokens second.tokens None None
    first.bytes_are second.bytes_are first.tokens_are second.tokens_are in
    let of = subst (λ ts. AreBodyOf (Lexing task ts) first.body) same.tokens_same first.body_is in
    let one : first.body ≡ second.body = one_body (Lexing task second.tokens) first.body second.body of second.body_is in
    first.script_is ∙ ap (script_with task) one ∙ sym second.script_is

-- a refusal is that of the head, or of what follows it
fault_is : (task : CitedTask) (bytes : Text) (refusal : IsarRefusal) → IsarFault task bytes refusal →
    ((refusal ≡ Head (common (isar_head task) bytes)) × (common (isar_head task) bytes < length (isar_head task))) ⊎
    IsRestFault task bytes refusal
fault_is task bytes (Head offset) (is, short) = inl (ap Head is, subst (λ (n : ℕ). n < length (isar_head task)) is short)
fault_is task bytes (Syntax offset) fault = inr fault
fault_is task bytes (TooLarge offset) fault = inr fault
fault_is task bytes (TooDeep offset) fault = inr fault
fault_is task bytes Memory fault = inr fault

-- what follows the head is refused, whatever the refusal
pub rest_refused : (task : CitedTask) (bytes : Text) (refusal : IsarRefusal) → IsRestFault task bytes refusal → IsarFault task bytes refusal
rest_refused task bytes (Head offset) fault = absurd fault.fault
rest_refused task bytes (Syntax offset) fault = fault
rest_refused task bytes (TooLarge offset) fault = fault
rest_refused task bytes (TooDeep offset) fault = fault
rest_refused task bytes Memory fault = fault

-- bytes that begin with the head have it in common whole
never_short : (head bytes rest : Text) → bytes ≡ head ++ rest → common head bytes < length head → ⊥
never_short head bytes rest e short =
    let whole : common head bytes ≡ length head = ap (common head) e ∙ common_front head rest in
    omega (arith, whole, short)

-- two refusals of what follows the head are one
rest_same : (task : CitedTask) (bytes : Text) (a b : IsarRefusal) → IsRestFault task bytes a → IsRestFault task bytes b → a ≡ b
rest_same task bytes a b first second =
    let same = behind_same (isar_head task) bytes first.rest second.rest first.tokens second.tokens first.bad second.bad
    first.bytes_are second.bytes_are first.tokens_are second.tokens_are in
    let tokens : RestFault (Lexing task second.tokens) (length bytes) first.bad a =
    subst (λ ts. RestFault (Lexing task ts) (length bytes) first.bad a) same.tokens_same first.fault in
    one_rest_fault (Lexing task second.tokens) (length bytes) second.bad a b
    (subst (λ bad. RestFault (Lexing task second.tokens) (length bytes) bad a) same.bad_same tokens) second.fault

-- bytes have one refusal
pub isar_refusals_same : (task : CitedTask) (bytes : Text) (a b : IsarRefusal) → IsarFault task bytes a → IsarFault task bytes b → a ≡ b
isar_refusals_same task bytes a b first second = elim (fault_is task bytes a first) [
  | inl head ↦
      elim (fault_is task bytes b second) [
        | inl also ↦ head.0 ∙ sym also.0
        | inr rest ↦ absurd (never_short (isar_head task) bytes rest.rest rest.bytes_are head.1)
      ]
  | inr fault ↦
      elim (fault_is task bytes b second) [
        | inl head ↦ absurd (never_short (isar_head task) bytes fault.rest fault.bytes_are head.1)
        | inr also ↦ rest_same task bytes a b fault also
      ]
]

-- bytes that spell a script are not refused
pub isar_not_refused : (task : CitedTask) (bytes : Text) (script : Written) (refusal : IsarRefusal) → IsIsarOf task bytes script →
    IsarFault task bytes refusal → ⊥
isar_not_refused task bytes script refusal is fault = elim (fault_is task bytes refusal fault) [
  | inl head ↦ never_short (isar_head task) bytes is.rest is.bytes_are head.1
  | inr rest ↦
      let same = behind_same (isar_head task) bytes is.rest rest.rest is.tokens rest.tokens None rest.bad
      is.bytes_are rest.bytes_are is.tokens_are rest.tokens_are in
      let of = subst (λ ts. AreBodyOf (Lexing task ts) is.body) same.tokens_same is.body_is in
      body_no_fault (Lexing task rest.tokens) (length bytes) rest.bad is.body refusal (sym same.bad_same, of) rest.fault
]

-- a script that bytes spell is proper
pub isar_is_proper : (task : CitedTask) (bytes : Text) (script : Written) → IsIsarOf task bytes script → IsProper script
isar_is_proper task bytes script is =
    subst IsProper (sym is.script_is) (script_proper (Lexing task is.tokens) is.body is.body_is)

module _ (task : CitedTask) (bytes : Text) where
  -- a script at hand is the exact answer
  pub exact_isar : (script : Written) → IsIsarOf task bytes script → Exact (IsIsarOf task bytes) (IsarFault task bytes) Memory (Ok script)
  exact_isar script is =
      exact_value (IsIsarOf task bytes) (IsarFault task bytes) Memory (isar_same task bytes) (isar_refusals_same task bytes)
      (isar_not_refused task bytes) script is

  -- a refusal at hand is the exact answer
  pub exact_isar_fault : (refusal : IsarRefusal) → (refusal ≡ Memory) ⊎ IsarFault task bytes refusal →
      Exact (IsIsarOf task bytes) (IsarFault task bytes) Memory (Err refusal)
  exact_isar_fault refusal told =
      exact_refusal (IsIsarOf task bytes) (IsarFault task bytes) Memory (isar_same task bytes) (isar_refusals_same task bytes)
      (isar_not_refused task bytes) refusal told

-- a limit is told in some way
limit_some : (why : Limit.Limit) (offset : ℕ) → why ≢ limit.Version → (refusal : IsarRefusal) × LimitTold why offset refusal
limit_some limit.Version offset known = absurd (known refl)
limit_some limit.TooLarge offset known = (TooLarge offset, refl)
limit_some limit.TooDeep offset known = (TooDeep offset, refl)

module _ (task : CitedTask) (ts : List Token) (end : ℕ) where
  -- the tokens have a body, or a refusal
  abbrev HasReading : Option ℕ → Type 0
  HasReading bad = ((body : BodyText) × IsRest (Lexing task ts) bad body) ⊎
      ((refusal : IsarRefusal) × RestFault (Lexing task ts) end bad refusal)

  -- what an answer of the machine other than want of memory tells of the tokens
  of_answer : (bad : Option ℕ) (answer : Answer) (after : RuleWords) → answer ≢ Err machine.Memory →
      IsAnswer isar_rests isar_watcher (Row Rest) nothing_seen (seen_in (Lexing task ts)) after answer → HasReading bad
  of_answer None (Ok done) after known accepted =
      let (body, spelled) = part_value isar_rests Value (isar_making (Lexing task ts)) (Row Rest) (seen_in (Lexing task ts)) accepted.text in
      inl (body, (refl, body_read (Lexing task ts) body (after, accepted) spelled))
  of_answer (Some bad) (Ok done) after known accepted = inr (Syntax bad, accepted_fault (Lexing task ts) end bad (after, accepted))
  of_answer bad (Err machine.Memory) after known refused = absurd (known refl)
  of_answer bad (Err (machine.Unexpected n last)) after known found =
      let within = found.first.within in
      let (offset, at) = start_at ts n (omega (arith, within, marked_length (length task.forms) 0 ts)) in
      inr (Syntax (unwrap_or bad offset), unexpected_fault (Lexing task ts) end bad n offset last (after, found) at)
  of_answer bad (Err (machine.Stopped n excess)) after known found =
      let is = stopped_known (length task.forms) ts n excess found in
      let (offset, at) = start_at ts excess.word is.within in
      let (refusal, told) = limit_some excess.limit offset is.known in
      inr (refusal, stopped_fault (Lexing task ts) end bad excess.limit excess.word n offset refusal at found told)
  of_answer bad (Err machine.EndsEarly) after known early =
      inr (Syntax (unwrap_or bad end), early_fault (Lexing task ts) end bad (after, early))

  -- tokens have a body, or a refusal
  has_reading : (bad : Option ℕ) → HasReading bad
  has_reading bad =
      let answered : HasAnswer isar_rests isar_watcher (Row Rest) nothing_seen (seen_in (Lexing task ts)) =
      tokens_answered isar_rests isar_plan isar_watcher isar_law (computed_decided look) (Row Rest) nothing_seen (seen_in (Lexing task ts)) in
      of_answer bad answered.answer answered.after answered.known answered.is_answer

-- bytes spell a script, or are refused
abbrev Decided : CitedTask → Text → Type 0
Decided task bytes =
    ((script : Written) × IsIsarOf task bytes script) ⊎ ((refusal : IsarRefusal) × IsarFault task bytes refusal)

-- where the bytes behind the head are these
behind_decided : (task : CitedTask) (bytes rest : Text) → bytes ≡ isar_head task ++ rest → Decided task bytes
behind_decided task bytes rest e =
    let (bad, ts, are) = some_reading (length (isar_head task)) rest in
    elim (has_reading task ts (length bytes) bad) [
      | inl read ↦ inl (
        script_with task read.0,
        record {
          rest = rest;
          tokens = ts;
          body = read.0;
          bytes_are = e;
          tokens_are = subst (λ left. AreTokens (length (isar_head task)) rest ts left) read.1.0 are;
          body_is = read.1.1;
          script_is = refl;
        },
      )
      | inr refused ↦ inr (
        refused.0,
        rest_refused task bytes refused.0 (record {
          rest = rest;
          tokens = ts;
          bad = bad;
          bytes_are = e;
          tokens_are = are;
          fault = refused.1;
        }),
      )
    ]

pub isar_or_refusal : (task : CitedTask) (bytes : Text) → Decided task bytes
isar_or_refusal task bytes = by_test (nat_lt (common (isar_head task) bytes) (length (isar_head task))) refl
  where
    by_test : (short : Bool) → nat_lt (common (isar_head task) bytes) (length (isar_head task)) ≡ short → Decided task bytes
    by_test true is =
        inr (Head (common (isar_head task) bytes), (refl, ltb-true (common (isar_head task) bytes) (length (isar_head task)) is))
    by_test false is =
        behind_decided task bytes (drop (length (isar_head task)) bytes)
        (front_whole (isar_head task) bytes (ltb-false (common (isar_head task) bytes) (length (isar_head task)) is))

-- bytes with fewer in common with the head than it has are refused
pub head_fault : (task : CitedTask) (bytes head : Text) (offset : ℕ) → head ≡ isar_head task → offset ≡ common head bytes → offset < length head →
    IsarFault task bytes (Head offset)
head_fault task bytes head offset same e short =
    subst (λ text. (offset ≡ common text bytes) × (offset < length text)) same (e, short)

-- what is behind the head, and its tokens
pub record IsBehind (task : CitedTask) (bytes : Text) (at : ℕ) (lexed : Lexed) (bad : Option ℕ) : Type 0 where
  pub head : at ≡ length (isar_head task)
  pub front : bytes ≡ isar_head task ++ drop at bytes
  pub task_is : lexed.task ≡ task
  pub tokens_are : AreTokens at (drop at bytes) lexed.tokens bad

-- the refusal of what is behind the head is that of the bytes
pub behind_fault : (task : CitedTask) (bytes : Text) (at : ℕ) (lexed : Lexed) (bad : Option ℕ) (refusal : IsarRefusal) →
    IsBehind task bytes at lexed bad → (refusal ≡ Memory) ⊎ RestFault lexed (length bytes) bad refusal →
    (refusal ≡ Memory) ⊎ IsarFault task bytes refusal
behind_fault task bytes at lexed bad refusal behind told = elim told [
  | inl none ↦ inl none
  | inr fault ↦ inr (rest_refused task bytes refusal (record {
    rest = drop at bytes;
    tokens = lexed.tokens;
    bad = bad;
    bytes_are = behind.front;
    tokens_are = subst (λ (n : ℕ). AreTokens n (drop at bytes) lexed.tokens bad) behind.head behind.tokens_are;
    fault = subst (λ (t : CitedTask). RestFault (Lexing t lexed.tokens) (length bytes) bad refusal) behind.task_is fault;
  }))
]

-- the body that what is behind the head spells is that of the script of the bytes
pub behind_script : (task : CitedTask) (bytes : Text) (at : ℕ) (lexed : Lexed) (bad : Option ℕ) (body : BodyText) →
    IsBehind task bytes at lexed bad → IsRest lexed bad body → IsIsarOf task bytes (script_with task body)
behind_script task bytes at lexed bad body behind (all, of) = record {
  rest = drop at bytes;
  tokens = lexed.tokens;
  body = body;
  bytes_are = behind.front;
  tokens_are = subst (λ (n : ℕ). AreTokens n (drop at bytes) lexed.tokens None) behind.head
      (subst (λ left. AreTokens at (drop at bytes) lexed.tokens left) all behind.tokens_are);
  body_is = subst (λ (t : CitedTask). AreBodyOf (Lexing t lexed.tokens) body) behind.task_is of;
  script_is = refl;
}

-- that script is proper
pub behind_proper : (task : CitedTask) (lexed : Lexed) (bad : Option ℕ) (body : BodyText) → lexed.task ≡ task → IsRest lexed bad body →
    IsProper (script_with task body)
behind_proper task lexed bad body same (all, of) =
    subst (λ (t : CitedTask). IsProper (script_with t body)) same (script_proper lexed body of)

-- a refusal that is handed on is the exact answer
pub handed_on : (task : CitedTask) (bytes : Text) (result : Result Written IsarRefusal) (why : IsarRefusal) →
    IsErr result × IsErrAnd result (λ reason. reason ≡ why) → (why ≡ Memory) ⊎ IsarFault task bytes why →
    Exact (IsIsarOf task bytes) (IsarFault task bytes) Memory result
handed_on task bytes (Ok script) why is told = absurd (false≢true is.0)
handed_on task bytes (Err reason) why is told =
    subst (λ other. Exact (IsIsarOf task bytes) (IsarFault task bytes) Memory (Err other)) (sym is.1) (exact_isar_fault task bytes why told)
