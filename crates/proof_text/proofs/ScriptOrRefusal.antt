-- Bytes spell one script, or have one refusal.
use Rattle.std.specs.Prelude.{ℕ, ◌≡◌, ◌≢◌, ◌⊎◌, ◌<◌, length, List, slice_get, option_map, Some, Result, Ok, Err}
use Rattle.std.proofs.Common.{inl, inr, refl, sym, ◌∙◌, ap, arith}
use Rattle.std.proofs.lemmas.Option.{slice_get-map, slice_get_cases}
use Rattle.text_core.specs.Names.{Text}
use Rattle.token_grammar.specs.Answers.{IsAnswer}
use Rattle.token_grammar.specs.Answered.{HasAnswer}
use Rattle.token_grammar.specs.declared.refusal.Refusal.{Refusal}
use Rattle.token_grammar.specs.declared.refusal.Refusal.TheVariants as machine
use Rattle.token_grammar.proofs.Laws.{tokens_answered, computed_decided, part_value}
use Rattle.tptp_lexer.specs.Tokens.{Token as LexToken, AreTokens}
use Rattle.tptp_lexer.specs.Columns.{starts_of}
use Rattle.tptp_lexer.proofs.Laws.{some_answer}
use Rattle.proof_text.specs.declared.refusal.ScriptRefusal.{ScriptRefusal}
use Rattle.proof_text.specs.declared.refusal.ScriptRefusal.TheVariants.{Lex, ProofSyntax}
use Rattle.proof_text.specs.declared.part.TextPart as TextPart
use Rattle.proof_text.specs.declared.part.TextPart.TheVariants.{Row}
use Rattle.proof_text.specs.declared.part.Rule.TheVariants.{Text as WholeText}
use Rattle.proof_text.specs.declared.watch.Limit as Limit
use Rattle.proof_text.specs.declared.watch.Tally.{Tally}
use Rattle.proof_text.specs.Marks.{marked}
use Rattle.proof_text.specs.Grammar.{proof_texts, proof_text_plan}
use Rattle.proof_text.specs.GrammarLaw.{proof_text_law}
use Rattle.proof_text.specs.Values.{Value, Written, proof_text_making}
use Rattle.proof_text.specs.Watching.{proof_text_watcher, nothing_seen, look}
use Rattle.proof_text.specs.Proper.{IsProper}
use Rattle.proof_text.specs.Scripts.{AreScriptOf, IsScriptOf, TokensFault, ProofFault}
use Rattle.proof_text.specs.Told.{limited}
use Rattle.proof_text.proofs.Faults.{stopped_told, one_fault}
use Rattle.proof_text.proofs.Marked.{marked_length}
use Rattle.proof_text.proofs.Read.{script_read, script_proper, one_script, script_no_fault, of_tokens, of_bytes, script_of_bytes, lexical_only}

-- the start of the token with a number
start_at : (ts : List LexToken) (n : ℕ) → n < length (marked ts) → (offset : ℕ) × slice_get (starts_of ts) n ≡ Some offset
start_at ts n within = elim ((slice_get_cases ts n).1) [
  | inl there ↦
      let t : LexToken = there.0 in
      (t.start, slice_get-map (λ (t : LexToken). t.start) ts n ∙ ap (option_map (λ (t : LexToken). t.start)) there.2)
  | inr past ↦ let few = past.0 in absurd (omega (arith, few, within, marked_length 0 ts))
]

module _ (bytes : Text) (ts : List LexToken) where
  -- the tokens have a script, or a refusal
  abbrev HasReading : Type 0
  HasReading = ((script : Written) × AreScriptOf ts script) ⊎ ((refusal : ScriptRefusal) × TokensFault ts (length bytes) refusal)

  -- what an answer of the machine other than want of memory tells of the tokens
  of_answer : (answer : Result (Unit {0}) (Refusal TextPart.TextPart Limit.Limit)) (after : Tally) → answer ≢ Err machine.Memory →
      IsAnswer proof_texts proof_text_watcher (Row WholeText) nothing_seen (marked ts) after answer → HasReading
  of_answer (Ok done) after known accepted =
      let (script, spelled) = part_value proof_texts Value (proof_text_making ts) (Row WholeText) (marked ts) accepted.text in
      inl (script, script_read ts script (after, accepted) spelled)
  of_answer (Err machine.Memory) after known refused = absurd (known refl)
  of_answer (Err (machine.Unexpected n last)) after known found =
      let (offset, at) = start_at ts n found.first.within in
      inr (ProofSyntax offset, inl (n, at, (after, last, found)))
  of_answer (Err (machine.Stopped n why)) after known found =
      let (offset, at) = start_at ts n found.within in
      inr (limited why offset, stopped_told (record { source = bytes; tokens = ts }) n offset why at found)
  of_answer (Err machine.EndsEarly) after known early = inr (ProofSyntax (length bytes), inr (refl, (after, early)))

  -- tokens have a script, or a refusal
  has_reading : HasReading
  has_reading =
      let answered : HasAnswer proof_texts proof_text_watcher (Row WholeText) nothing_seen (marked ts) =
      tokens_answered proof_texts proof_text_plan proof_text_watcher proof_text_law (computed_decided look) (Row WholeText)
      nothing_seen (marked ts) in
      of_answer answered.answer answered.after answered.known answered.is_answer

-- bytes spell a script, or are refused
pub script_or_refusal : (bytes : Text) →
    ((script : Written) × IsScriptOf bytes script) ⊎ ((refusal : ScriptRefusal) × ProofFault bytes refusal)
script_or_refusal bytes = elim (some_answer bytes) [
  | inl found ↦
      elim (has_reading bytes found.0) [
        | inl script ↦ inl (script.0, (found.0, found.1, script.1))
        | inr refused ↦ inr (refused.0, of_tokens bytes found.0 found.1 refused.0 refused.1)
      ]
  | inr refused ↦ inr (Lex refused.0, refused.1)
]

-- bytes spell one script
pub scripts_same : (bytes : Text) (a b : Written) → IsScriptOf bytes a → IsScriptOf bytes b → a ≡ b
scripts_same bytes a b (ts, are, of) also = one_script ts a b of (script_of_bytes bytes ts are b also)

-- bytes that spell a script are not refused
pub script_not_refused : (bytes : Text) (script : Written) (refusal : ScriptRefusal) → IsScriptOf bytes script → ProofFault bytes refusal → ⊥
script_not_refused bytes script refusal (ts, are, of) fault =
    script_no_fault (record { source = bytes; tokens = ts }) script refusal of (of_bytes bytes ts are refusal fault)

-- a script that bytes spell is proper
pub script_is_proper : (bytes : Text) (script : Written) → IsScriptOf bytes script → IsProper script
script_is_proper bytes script (ts, are, of) = script_proper bytes ts script are of

-- bytes have one refusal, where they have tokens
of_tokens_same : (bytes : Text) (ts : List LexToken) → AreTokens bytes ts → (a b : ScriptRefusal) → ProofFault bytes a → ProofFault bytes b → a ≡ b
of_tokens_same bytes ts are a b first second =
    one_fault (record { source = bytes; tokens = ts }) a b (of_bytes bytes ts are a first) (of_bytes bytes ts are b second)

-- bytes have one refusal
pub refusals_same : (bytes : Text) (a b : ScriptRefusal) → ProofFault bytes a → ProofFault bytes b → a ≡ b
refusals_same bytes a b first second = elim (some_answer bytes) [
  | inl found ↦ of_tokens_same bytes found.0 found.1 a b first second
  | inr refused ↦ sym (lexical_only bytes refused.0 refused.1 a first) ∙ lexical_only bytes refused.0 refused.1 b second
]
