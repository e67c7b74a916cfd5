-- What is read of bytes is exactly their structure or their refusal.
use Rattle.std.specs.Prelude.{◌≡◌, ◌⊎◌, ◌++◌, length, List, Result, Ok, Err}
use Rattle.std.proofs.Common.{inl, inr, refl, sym, ◌∙◌, ap, subst}
use Rattle.text_core.specs.Names.{Text}
use Rattle.text_core.specs.Exact.{Exact}
use Rattle.text_core.proofs.Laws.{exact_value, exact_refusal}
use Rattle.token_grammar.specs.SpelledAs.{SpelledAs}
use Rattle.token_grammar.specs.Answers.{IsAccepted, IsRefused}
use Rattle.token_grammar.specs.declared.refusal.Refusal.{Refusal}
use Rattle.token_grammar.proofs.Laws.{one_value}
use Rattle.tptp_lexer.specs.declared.refusal.LexRefusal.{LexRefusal}
use Rattle.tptp_lexer.specs.declared.refusal.LexRefusal.TheVariants as refusals
use Rattle.tptp_lexer.specs.Tokens.{Token as LexToken, AreTokens}
use Rattle.tptp_lexer.specs.Columns.{Lexed}
use Rattle.tptp_lexer.specs.Refused.{LexFault, IsExplained}
use Rattle.tptp_lexer.proofs.Laws.{one_list, one_fault as one_lexical, never_both}
use Rattle.model_text.specs.declared.refusal.ModelRefusal.{ModelRefusal}
use Rattle.model_text.specs.declared.refusal.ModelRefusal.TheVariants.{Lex, ModelSyntax, ModelRange, ModelTwice, Memory}
use Rattle.model_text.specs.declared.builder.ModelBuilder.{ModelBuilder}
use Rattle.model_text.specs.declared.part.ModelPart as ModelPart
use Rattle.model_text.specs.declared.part.ModelPart.TheVariants.{Row}
use Rattle.model_text.specs.declared.watch.Fault as Why
use Rattle.model_text.specs.declared.part.Rule.TheVariants as rule
use Rattle.model_text.specs.Marks.{marked}
use Rattle.model_text.specs.Grammar.{models, model_plan}
use Rattle.model_text.specs.GrammarLaw.{model_law}
use Rattle.model_text.specs.Values.{Value, model_making}
use Rattle.model_text.specs.Structures.{Finite}
use Rattle.model_text.specs.Words.{names_in}
use Rattle.model_text.specs.Effects.{effect, rule_effect, held_in, nothing_held}
use Rattle.model_text.specs.Seen.{Seen}
use Rattle.model_text.specs.Watching.{model_watcher, nothing_seen}
use Rattle.model_text.specs.Texts.{AreModelOf, IsModelOf, TokensFault, ModelFault}
use Rattle.model_text.specs.Told.{IsAcceptedText, IsMachineRefusal, lexical}
use Rattle.model_text.proofs.Faults.{Fault, one_fault, accepted_no_fault}
use Rattle.model_text.proofs.Watched.{accepted_sound, model_accepted}

-- a structure that accepted tokens spell is theirs
pub model_read : (ts : List LexToken) (m : Finite) → IsAcceptedText ts →
    SpelledAs models Value (model_making ts) (Row rule.Text) m (marked ts) → AreModelOf ts m
model_read ts m accepted spelled = record { spelled = spelled; sound = accepted_sound ts m accepted spelled }

-- a builder that held nothing holds the structure that is read
held : (m : Finite) (b : ModelBuilder) → held_in b ≡ nothing_held → held_in (rule_effect rule.Text m b) ≡ m
held m b e = ap (λ (f : Finite). record { size = m.size; places = f.places ++ m.places; facts = f.facts ++ m.facts }) e

module _ (ts ws : List LexToken) (before after : Seen) (same : ws ≡ ts) (begun : before ≡ nothing_seen) where
  -- what is read and held is the structure of the tokens
  pub held_read : (m : Finite) (b c : ModelBuilder) → IsAccepted models model_watcher (Row rule.Text) before (marked ws) after →
      SpelledAs models Value (model_making ws) (Row rule.Text) m (marked ws) → held_in b ≡ nothing_held →
      c ≡ effect (names_in ws) (Row rule.Text) m b → AreModelOf ts (held_in c)
  held_read m b c accepted spelled empty built =
      let of : AreModelOf ws m =
      model_read ws m (after, subst (λ s. IsAccepted models model_watcher (Row rule.Text) s (marked ws) after) begun accepted) spelled in
      let is : held_in c ≡ m = ap held_in built ∙ held m b empty in
      subst (AreModelOf ts) (sym is) (subst (λ us. AreModelOf us m) same of)

  -- what is refused is refused of the tokens
  pub refusal_told : (refusal : Refusal ModelPart.ModelPart Why.Fault) →
      IsRefused models model_watcher (Row rule.Text) before (marked ws) after refusal → IsMachineRefusal ts refusal
  refusal_told refusal refused = (
    after,
    subst (λ us. IsRefused models model_watcher (Row rule.Text) nothing_seen (marked us) after refusal) same
        (subst (λ s. IsRefused models model_watcher (Row rule.Text) s (marked ws) after refusal) begun refused),
  )

-- tokens have one structure
pub one_model : (ts : List LexToken) (a b : Finite) → AreModelOf ts a → AreModelOf ts b → a ≡ b
one_model ts a b first second =
    one_value models model_plan model_law Value (model_making ts) (Row rule.Text) (marked ts) a b
    first.spelled second.spelled

-- tokens that have a structure are not refused
pub model_no_fault : (lexed : Lexed) (m : Finite) (refusal : ModelRefusal) → AreModelOf lexed.tokens m → Fault lexed refusal → ⊥
model_no_fault lexed m refusal of fault = accepted_no_fault lexed refusal (model_accepted lexed.tokens m of) fault

-- a structure at hand is the exact answer
pub exact_model : (lexed : Lexed) (m : Finite) → AreModelOf lexed.tokens m →
    Exact (AreModelOf lexed.tokens) (Fault lexed) Memory (Ok m)
exact_model lexed m of =
    exact_value (AreModelOf lexed.tokens) (Fault lexed) Memory (one_model lexed.tokens) (one_fault lexed) (model_no_fault lexed) m of

-- a refusal at hand is the exact answer
pub exact_fault : (lexed : Lexed) (refusal : ModelRefusal) → (refusal ≡ Memory) ⊎ Fault lexed refusal →
    Exact (AreModelOf lexed.tokens) (Fault lexed) Memory (Err refusal)
exact_fault lexed refusal told =
    exact_refusal (AreModelOf lexed.tokens) (Fault lexed) Memory (one_model lexed.tokens) (one_fault lexed) (model_no_fault lexed) refusal told

module _ (bytes : Text) (ts : List LexToken) (are : AreTokens bytes ts) where
  -- the refusal of the tokens is that of the bytes
  pub of_tokens : (refusal : ModelRefusal) → TokensFault ts (length bytes) refusal → ModelFault bytes refusal
  of_tokens (Lex refusal) fault = absurd fault
  of_tokens (ModelSyntax offset) fault = (ts, are, fault)
  of_tokens (ModelRange offset) fault = (ts, are, fault)
  of_tokens (ModelTwice offset) fault = (ts, are, fault)
  of_tokens Memory fault = absurd fault

  -- a refusal of the same tokens, found otherwise
  of_others : (us : List LexToken) (refusal : ModelRefusal) → AreTokens bytes us → TokensFault us (length bytes) refusal →
      TokensFault ts (length bytes) refusal
  of_others us refusal also fault = subst (λ vs. TokensFault vs (length bytes) refusal) (one_list bytes us ts also are) fault

  -- the refusal of the bytes is that of the tokens
  pub of_bytes : (refusal : ModelRefusal) → ModelFault bytes refusal → TokensFault ts (length bytes) refusal
  of_bytes (Lex refusal) fault = absurd (never_both bytes ts refusal are fault)
  of_bytes (ModelSyntax offset) (us, also, fault) = of_others us (ModelSyntax offset) also fault
  of_bytes (ModelRange offset) (us, also, fault) = of_others us (ModelRange offset) also fault
  of_bytes (ModelTwice offset) (us, also, fault) = of_others us (ModelTwice offset) also fault
  of_bytes Memory (us, also, fault) = absurd fault

  -- the structure of the bytes is that of the tokens
  pub model_of_bytes : (m : Finite) → IsModelOf bytes m → AreModelOf ts m
  model_of_bytes m (us, also, of) = subst (λ vs. AreModelOf vs m) (one_list bytes us ts also are) of

  -- an exact answer for the tokens is one for the bytes
  pub exact_bytes : (result : Result Finite ModelRefusal) → Exact (AreModelOf ts) (TokensFault ts (length bytes)) Memory result →
      Exact (IsModelOf bytes) (ModelFault bytes) Memory result
  exact_bytes (Ok m) exact = record {
    ok = (ts, are, exact.ok);
    err = tt;
    found = λ value is. exact.found value (model_of_bytes value is);
    told = λ reason is. exact.told reason (of_bytes reason is);
  }
  exact_bytes (Err why) exact = record {
    ok = tt;
    err = elim exact.err [ inl none ↦ inl none | inr fault ↦ inr (of_tokens why fault) ];
    found = λ value is. exact.found value (model_of_bytes value is);
    told = λ reason is. exact.told reason (of_bytes reason is);
  }

-- the lexer's refusal is the only one
pub lexical_only : (bytes : Text) (refusal : LexRefusal) → LexFault bytes refusal → (reason : ModelRefusal) → ModelFault bytes reason →
    Lex refusal ≡ reason
lexical_only bytes refusal fault (Lex other) is = ap Lex (one_lexical bytes refusal other fault is)
lexical_only bytes refusal fault (ModelSyntax offset) (ts, are, is) = absurd (never_both bytes ts refusal are fault)
lexical_only bytes refusal fault (ModelRange offset) (ts, are, is) = absurd (never_both bytes ts refusal are fault)
lexical_only bytes refusal fault (ModelTwice offset) (ts, are, is) = absurd (never_both bytes ts refusal are fault)
lexical_only bytes refusal fault Memory (ts, are, is) = absurd is

-- the lexer's first refusal is the exact answer
of_lexer : (bytes : Text) (refusal : LexRefusal) → LexFault bytes refusal → Exact (IsModelOf bytes) (ModelFault bytes) Memory (Err (Lex refusal))
of_lexer bytes refusal fault = record {
  ok = tt;
  err = inr fault;
  found = λ value (ts, are, of). absurd (never_both bytes ts refusal are fault);
  told = λ reason also. inl (lexical_only bytes refusal fault reason also);
}

-- want of memory may come in place of any answer
of_memory : (bytes : Text) → Exact (IsModelOf bytes) (ModelFault bytes) Memory (Err Memory)
of_memory bytes = record { ok = tt; err = inl refl; found = λ value is. refl; told = λ reason also. inr refl }

-- the lexer's refusal, as it is told, is the exact answer
pub exact_lexical : (bytes : Text) (refusal : LexRefusal) → IsExplained refusal bytes →
    Exact (IsModelOf bytes) (ModelFault bytes) Memory (Err (lexical refusal))
exact_lexical bytes (refusals.BadByte offset) is = of_lexer bytes (refusals.BadByte offset) is
exact_lexical bytes (refusals.OpenQuote offset) is = of_lexer bytes (refusals.OpenQuote offset) is
exact_lexical bytes (refusals.OpenComment offset) is = of_lexer bytes (refusals.OpenComment offset) is
exact_lexical bytes (refusals.EmptyQuote offset) is = of_lexer bytes (refusals.EmptyQuote offset) is
exact_lexical bytes refusals.Memory is = of_memory bytes
