-- What is read of bytes is exactly their script or their refusal.
use Rattle.std.specs.Prelude.{◌≡◌, ◌⊎◌, length, List, Result, Ok, Err}
use Rattle.std.proofs.Common.{inl, inr, refl, ap, subst}
use Rattle.text_core.specs.Names.{Text}
use Rattle.text_core.specs.Exact.{Exact}
use Rattle.text_core.proofs.Laws.{exact_value, exact_refusal}
use Rattle.token_grammar.specs.SpelledAs.{SpelledAs}
use Rattle.token_grammar.proofs.Laws.{one_value}
use Rattle.tptp_lexer.specs.declared.refusal.LexRefusal.{LexRefusal}
use Rattle.tptp_lexer.specs.declared.refusal.LexRefusal.TheVariants as refusals
use Rattle.tptp_lexer.specs.Tokens.{Token as LexToken, AreTokens}
use Rattle.tptp_lexer.specs.Columns.{Lexed}
use Rattle.tptp_lexer.specs.Refused.{LexFault, IsExplained}
use Rattle.tptp_lexer.proofs.Laws.{one_list, one_fault as one_lexical, never_both}
use Rattle.proof_text.specs.declared.refusal.ScriptRefusal.{ScriptRefusal}
use Rattle.proof_text.specs.declared.refusal.ScriptRefusal.TheVariants.{Lex, ProofSyntax, ProofVersion, ProofTooLarge, CasesTooDeep, Memory}
use Rattle.proof_text.specs.declared.part.TextPart.TheVariants.{Row}
use Rattle.proof_text.specs.declared.part.Rule.TheVariants.{Text as WholeText}
use Rattle.proof_text.specs.Marks.{marked}
use Rattle.proof_text.specs.Grammar.{proof_texts, proof_text_plan}
use Rattle.proof_text.specs.GrammarLaw.{proof_text_law}
use Rattle.proof_text.specs.Values.{Value, Written, proof_text_making}
use Rattle.proof_text.specs.Proper.{IsProper}
use Rattle.proof_text.specs.Scripts.{AreScriptOf, IsScriptOf, TokensFault, ProofFault}
use Rattle.proof_text.specs.Told.{IsAcceptedText, lexical}
use Rattle.proof_text.proofs.Faults.{Fault, one_fault, accepted_no_fault}
use Rattle.proof_text.proofs.Spelled.{spelled_proper}
use Rattle.proof_text.proofs.Watched.{accepted_bounded, script_accepted}

-- a script that accepted tokens spell is theirs
pub script_read : (ts : List LexToken) (script : Written) → IsAcceptedText ts →
    SpelledAs proof_texts Value (proof_text_making ts) (Row WholeText) script (marked ts) → AreScriptOf ts script
script_read ts script accepted spelled = record { spelled = spelled; bounded = accepted_bounded ts script accepted spelled }

-- the script of the tokens of a source is proper
pub script_proper : (bytes : Text) (ts : List LexToken) (script : Written) → AreTokens bytes ts → AreScriptOf ts script → IsProper script
script_proper bytes ts script are of =
    let (e, version, body) = spelled_proper bytes ts script are of.spelled in
    record { edition = e; version = version; body = body; bounded = of.bounded }

-- tokens have one script
pub one_script : (ts : List LexToken) (a b : Written) → AreScriptOf ts a → AreScriptOf ts b → a ≡ b
one_script ts a b first second =
    one_value proof_texts proof_text_plan proof_text_law Value (proof_text_making ts) (Row WholeText) (marked ts) a b
    first.spelled second.spelled

-- tokens that have a script are not refused
pub script_no_fault : (lexed : Lexed) (script : Written) (refusal : ScriptRefusal) → AreScriptOf lexed.tokens script → Fault lexed refusal → ⊥
script_no_fault lexed script refusal of fault = accepted_no_fault lexed refusal (script_accepted lexed.tokens script of) fault

-- a script at hand is the exact answer
pub exact_script : (lexed : Lexed) (script : Written) → AreScriptOf lexed.tokens script →
    Exact (AreScriptOf lexed.tokens) (Fault lexed) Memory (Ok script)
exact_script lexed script of =
    exact_value (AreScriptOf lexed.tokens) (Fault lexed) Memory (one_script lexed.tokens) (one_fault lexed) (script_no_fault lexed) script of

-- a refusal at hand is the exact answer
pub exact_fault : (lexed : Lexed) (refusal : ScriptRefusal) → (refusal ≡ Memory) ⊎ Fault lexed refusal →
    Exact (AreScriptOf lexed.tokens) (Fault lexed) Memory (Err refusal)
exact_fault lexed refusal told =
    exact_refusal (AreScriptOf lexed.tokens) (Fault lexed) Memory (one_script lexed.tokens) (one_fault lexed) (script_no_fault lexed) refusal told

module _ (bytes : Text) (ts : List LexToken) (are : AreTokens bytes ts) where
  -- the refusal of the tokens is that of the bytes
  pub of_tokens : (refusal : ScriptRefusal) → TokensFault ts (length bytes) refusal → ProofFault bytes refusal
  of_tokens (Lex refusal) fault = absurd fault
  of_tokens (ProofSyntax offset) fault = (ts, are, fault)
  of_tokens (ProofVersion offset) fault = (ts, are, fault)
  of_tokens (ProofTooLarge offset) fault = (ts, are, fault)
  of_tokens (CasesTooDeep offset) fault = (ts, are, fault)
  of_tokens Memory fault = absurd fault

  -- a refusal of the same tokens, found otherwise
  of_others : (us : List LexToken) (refusal : ScriptRefusal) → AreTokens bytes us → TokensFault us (length bytes) refusal →
      TokensFault ts (length bytes) refusal
  of_others us refusal also fault = subst (λ vs. TokensFault vs (length bytes) refusal) (one_list bytes us ts also are) fault

  -- the refusal of the bytes is that of the tokens
  pub of_bytes : (refusal : ScriptRefusal) → ProofFault bytes refusal → TokensFault ts (length bytes) refusal
  of_bytes (Lex refusal) fault = absurd (never_both bytes ts refusal are fault)
  of_bytes (ProofSyntax offset) (us, also, fault) = of_others us (ProofSyntax offset) also fault
  of_bytes (ProofVersion offset) (us, also, fault) = of_others us (ProofVersion offset) also fault
  of_bytes (ProofTooLarge offset) (us, also, fault) = of_others us (ProofTooLarge offset) also fault
  of_bytes (CasesTooDeep offset) (us, also, fault) = of_others us (CasesTooDeep offset) also fault
  of_bytes Memory (us, also, fault) = absurd fault

  -- the script of the bytes is that of the tokens
  pub script_of_bytes : (script : Written) → IsScriptOf bytes script → AreScriptOf ts script
  script_of_bytes script (us, also, of) = subst (λ vs. AreScriptOf vs script) (one_list bytes us ts also are) of

  -- an exact answer for the tokens is one for the bytes
  pub exact_bytes : (result : Result Written ScriptRefusal) → Exact (AreScriptOf ts) (TokensFault ts (length bytes)) Memory result →
      Exact (IsScriptOf bytes) (ProofFault bytes) Memory result
  exact_bytes (Ok script) exact = record {
    ok = (ts, are, exact.ok);
    err = tt;
    found = λ value is. exact.found value (script_of_bytes value is);
    told = λ reason is. exact.told reason (of_bytes reason is);
  }
  exact_bytes (Err why) exact = record {
    ok = tt;
    err = elim exact.err [ inl none ↦ inl none | inr fault ↦ inr (of_tokens why fault) ];
    found = λ value is. exact.found value (script_of_bytes value is);
    told = λ reason is. exact.told reason (of_bytes reason is);
  }

-- the lexer's refusal is the only one
pub lexical_only : (bytes : Text) (refusal : LexRefusal) → LexFault bytes refusal → (reason : ScriptRefusal) → ProofFault bytes reason →
    Lex refusal ≡ reason
lexical_only bytes refusal fault (Lex other) is = ap Lex (one_lexical bytes refusal other fault is)
lexical_only bytes refusal fault (ProofSyntax offset) (ts, are, is) = absurd (never_both bytes ts refusal are fault)
lexical_only bytes refusal fault (ProofVersion offset) (ts, are, is) = absurd (never_both bytes ts refusal are fault)
lexical_only bytes refusal fault (ProofTooLarge offset) (ts, are, is) = absurd (never_both bytes ts refusal are fault)
lexical_only bytes refusal fault (CasesTooDeep offset) (ts, are, is) = absurd (never_both bytes ts refusal are fault)
lexical_only bytes refusal fault Memory (ts, are, is) = absurd is

-- the lexer's first refusal is the exact answer
of_lexer : (bytes : Text) (refusal : LexRefusal) → LexFault bytes refusal → Exact (IsScriptOf bytes) (ProofFault bytes) Memory (Err (Lex refusal))
of_lexer bytes refusal fault = record {
  ok = tt;
  err = inr fault;
  found = λ value (ts, are, of). absurd (never_both bytes ts refusal are fault);
  told = λ reason also. inl (lexical_only bytes refusal fault reason also);
}

-- want of memory may come in place of any answer
of_memory : (bytes : Text) → Exact (IsScriptOf bytes) (ProofFault bytes) Memory (Err Memory)
of_memory bytes = record { ok = tt; err = inl refl; found = λ value is. refl; told = λ reason also. inr refl }

-- the lexer's refusal, as it is told, is the exact answer
pub exact_lexical : (bytes : Text) (refusal : LexRefusal) → IsExplained refusal bytes →
    Exact (IsScriptOf bytes) (ProofFault bytes) Memory (Err (lexical refusal))
exact_lexical bytes (refusals.BadByte offset) is = of_lexer bytes (refusals.BadByte offset) is
exact_lexical bytes (refusals.OpenQuote offset) is = of_lexer bytes (refusals.OpenQuote offset) is
exact_lexical bytes (refusals.OpenComment offset) is = of_lexer bytes (refusals.OpenComment offset) is
exact_lexical bytes (refusals.EmptyQuote offset) is = of_lexer bytes (refusals.EmptyQuote offset) is
exact_lexical bytes refusals.Memory is = of_memory bytes
