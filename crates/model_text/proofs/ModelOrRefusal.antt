-- Bytes spell one structure, or have one refusal.
use Rattle.std.specs.Prelude.{ℕ, ◌≡◌, ◌≢◌, ◌⊎◌, ◌<◌, length, List, slice_get, option_map, Some, Result, Ok, Err}
use Rattle.std.proofs.Common.{inl, inr, refl, sym, ◌∙◌, ap, arith}
use Rattle.std.proofs.lemmas.Option.{slice_get-map, slice_get_cases}
use Rattle.text_core.specs.Names.{Text}
use Rattle.token_grammar.specs.Answers.{IsAnswer}
use Rattle.token_grammar.specs.Answered.{HasAnswer}
use Rattle.token_grammar.specs.declared.refusal.Refusal.{Refusal}
use Rattle.token_grammar.specs.declared.refusal.Refusal.TheVariants as machine
use Rattle.token_grammar.proofs.Laws.{tokens_answered, computed_decided, part_value}
use Rattle.tptp_lexer.specs.Tokens.{Token as LexToken, AreTokens}
use Rattle.tptp_lexer.specs.Columns.{starts_of}
use Rattle.tptp_lexer.proofs.Laws.{some_answer}
use Rattle.model_text.specs.declared.refusal.ModelRefusal.{ModelRefusal}
use Rattle.model_text.specs.declared.refusal.ModelRefusal.TheVariants.{Lex, ModelSyntax}
use Rattle.model_text.specs.declared.part.ModelPart as ModelPart
use Rattle.model_text.specs.declared.part.ModelPart.TheVariants.{Row}
use Rattle.model_text.specs.declared.part.Rule.TheVariants as rule
use Rattle.model_text.specs.declared.watch.Fault as Why
use Rattle.model_text.specs.Seen.{Seen}
use Rattle.model_text.specs.Marks.{marked}
use Rattle.model_text.specs.Grammar.{models, model_plan}
use Rattle.model_text.specs.GrammarLaw.{model_law}
use Rattle.model_text.specs.Values.{Value, model_making}
use Rattle.model_text.specs.Watching.{model_watcher, nothing_seen, look}
use Rattle.model_text.specs.Structures.{Finite, IsSound}
use Rattle.model_text.specs.Texts.{AreModelOf, IsModelOf, TokensFault, ModelFault}
use Rattle.model_text.specs.Told.{faulty}
use Rattle.model_text.proofs.Faults.{stopped_told, one_fault}
use Rattle.model_text.proofs.Marked.{marked_length}
use Rattle.model_text.proofs.Read.{model_read, one_model, model_no_fault, of_tokens, of_bytes, model_of_bytes, lexical_only}

-- the start of the token with a number
start_at : (ts : List LexToken) (n : ℕ) → n < length (marked ts) → (offset : ℕ) × slice_get (starts_of ts) n ≡ Some offset
start_at ts n within = elim ((slice_get_cases ts n).1) [
  | inl there ↦
      let t : LexToken = there.0 in
      (t.start, slice_get-map (λ (t : LexToken). t.start) ts n ∙ ap (option_map (λ (t : LexToken). t.start)) there.2)
  | inr past ↦ let few = past.0 in absurd (omega (arith, few, within, marked_length ts))
]

module _ (bytes : Text) (ts : List LexToken) where
  -- the tokens have a structure, or a refusal
  abbrev HasReading : Type 0
  HasReading = ((m : Finite) × AreModelOf ts m) ⊎ ((refusal : ModelRefusal) × TokensFault ts (length bytes) refusal)

  -- what an answer of the machine other than want of memory tells of the tokens
  of_answer : (answer : Result (Unit {0}) (Refusal ModelPart.ModelPart Why.Fault)) (after : Seen) → answer ≢ Err machine.Memory →
      IsAnswer models model_watcher (Row rule.Text) nothing_seen (marked ts) after answer → HasReading
  of_answer (Ok done) after known accepted =
      let (m, spelled) = part_value models Value (model_making ts) (Row rule.Text) (marked ts) accepted.text in
      inl (m, model_read ts m (after, accepted) spelled)
  of_answer (Err machine.Memory) after known refused = absurd (known refl)
  of_answer (Err (machine.Unexpected n last)) after known found =
      let (offset, at) = start_at ts n found.first.within in
      inr (ModelSyntax offset, inl (n, at, (after, last, found)))
  of_answer (Err (machine.Stopped n why)) after known found =
      let (offset, at) = start_at ts n found.within in
      inr (faulty why offset, stopped_told (record { source = bytes; tokens = ts }) n offset why at found)
  of_answer (Err machine.EndsEarly) after known early = inr (ModelSyntax (length bytes), inr (refl, (after, early)))

  -- tokens have a structure, or a refusal
  has_reading : HasReading
  has_reading =
      let answered : HasAnswer models model_watcher (Row rule.Text) nothing_seen (marked ts) =
      tokens_answered models model_plan model_watcher model_law (computed_decided look) (Row rule.Text)
      nothing_seen (marked ts) in
      of_answer answered.answer answered.after answered.known answered.is_answer

-- bytes spell a structure, or are refused
pub model_or_refusal : (bytes : Text) →
    ((m : Finite) × IsModelOf bytes m) ⊎ ((refusal : ModelRefusal) × ModelFault bytes refusal)
model_or_refusal bytes = elim (some_answer bytes) [
  | inl found ↦
      elim (has_reading bytes found.0) [
        | inl m ↦ inl (m.0, (found.0, found.1, m.1))
        | inr refused ↦ inr (refused.0, of_tokens bytes found.0 found.1 refused.0 refused.1)
      ]
  | inr refused ↦ inr (Lex refused.0, refused.1)
]

-- bytes spell one structure
pub models_same : (bytes : Text) (a b : Finite) → IsModelOf bytes a → IsModelOf bytes b → a ≡ b
models_same bytes a b (ts, are, of) also = one_model ts a b of (model_of_bytes bytes ts are b also)

-- bytes that spell a structure are not refused
pub model_not_refused : (bytes : Text) (m : Finite) (refusal : ModelRefusal) → IsModelOf bytes m → ModelFault bytes refusal → ⊥
model_not_refused bytes m refusal (ts, are, of) fault =
    model_no_fault (record { source = bytes; tokens = ts }) m refusal of (of_bytes bytes ts are refusal fault)

-- a structure that bytes spell is sound
pub model_is_sound : (bytes : Text) (m : Finite) → IsModelOf bytes m → IsSound m
model_is_sound bytes m (ts, are, of) = of.sound

-- bytes have one refusal, where they have tokens
of_tokens_same : (bytes : Text) (ts : List LexToken) → AreTokens bytes ts → (a b : ModelRefusal) → ModelFault bytes a → ModelFault bytes b → a ≡ b
of_tokens_same bytes ts are a b first second =
    one_fault (record { source = bytes; tokens = ts }) a b (of_bytes bytes ts are a first) (of_bytes bytes ts are b second)

-- bytes have one refusal
pub refusals_same : (bytes : Text) (a b : ModelRefusal) → ModelFault bytes a → ModelFault bytes b → a ≡ b
refusals_same bytes a b first second = elim (some_answer bytes) [
  | inl found ↦ of_tokens_same bytes found.0 found.1 a b first second
  | inr refused ↦ sym (lexical_only bytes refused.0 refused.1 a first) ∙ lexical_only bytes refused.0 refused.1 b second
]
