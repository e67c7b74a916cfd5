-- Which script the bytes of a proof text spell, and where other bytes are refused.
use Rattle.std.specs.Prelude.{ℕ, ◌≡◌, ◌⊎◌, List, length, slice_get, Option, Some}
use Rattle.text_core.specs.Names.{Text}
use Rattle.token_grammar.specs.SpelledAs.{SpelledAs}
use Rattle.token_grammar.specs.Answers.{IsUnexpected, IsStopped, IsEarlyEnd}
use Rattle.tptp_lexer.specs.Tokens.{Token as LexToken, AreTokens}
use Rattle.tptp_lexer.specs.Columns.{starts_of}
use Rattle.tptp_lexer.specs.Refused.{LexFault}
use Rattle.proof_text.specs.declared.refusal.ScriptRefusal.{ScriptRefusal}
use Rattle.proof_text.specs.declared.refusal.ScriptRefusal.TheVariants.{Lex, ProofSyntax, ProofVersion, ProofTooLarge, CasesTooDeep, Memory}
use Rattle.proof_text.specs.declared.mark.Token.{Token}
use Rattle.proof_text.specs.declared.part.TextPart as TextPart
use Rattle.proof_text.specs.declared.part.TextPart.TheVariants.{Row}
use Rattle.proof_text.specs.declared.part.Rule.TheVariants.{Text as WholeText}
use Rattle.proof_text.specs.declared.watch.Limit as Limit
use Rattle.proof_text.specs.declared.watch.Limit.TheVariants as limit
use Rattle.proof_text.specs.declared.watch.Tally.{Tally}
use Rattle.proof_text.specs.Marks.{marked}
use Rattle.proof_text.specs.Grammar.{proof_texts}
use Rattle.proof_text.specs.Values.{Value, Written, proof_text_making}
use Rattle.proof_text.specs.Watching.{proof_text_watcher, nothing_seen}
use Rattle.proof_text.specs.Proper.{IsBounded}

-- the tokens spell the script, and it is within the bounds
pub record AreScriptOf (ts : List LexToken) (script : Written) : Type 0 where
  pub spelled :
      SpelledAs proof_texts Value (proof_text_making ts) (Row WholeText) script (marked ts)
  pub bounded : IsBounded script.body

-- the bytes spell the script
abbrev pub IsScriptOf : Text → Written → Type 0
IsScriptOf bytes script = (ts : List LexToken) × AreTokens bytes ts × AreScriptOf ts script

-- the token of this number is the first with which the tokens begin no proof text, and none before
-- it is refused for another reason
abbrev pub IsUnexpectedAt : List Token → ℕ → Type 0
IsUnexpectedAt ms n = (after : Tally) × (last : Option TextPart.TextPart) ×
    IsUnexpected proof_texts proof_text_watcher (Row WholeText) nothing_seen ms after n last

-- the tokens up to the one of this number begin a proof text, and it is the first that is refused,
-- for this reason
abbrev pub IsStoppedAt : Limit.Limit → List Token → ℕ → Type 0
IsStoppedAt why ms n =
    IsStopped proof_texts proof_text_watcher (Row WholeText) nothing_seen ms n why

-- all tokens begin a proof text and are none, and none is refused for another reason
abbrev pub IsUnfinishedText : List Token → Type 0
IsUnfinishedText ms = (after : Tally) ×
    IsEarlyEnd proof_texts proof_text_watcher (Row WholeText) nothing_seen ms after

-- a token of this number is at this offset, and it is refused in this way
abbrev pub RefusesAt : List LexToken → ℕ → (List Token → ℕ → Type 0) → Type 0
RefusesAt ts offset refuses =
    (n : ℕ) × (slice_get (starts_of ts) n ≡ Some offset) × refuses (marked ts) n

-- the refusal of tokens of so many bytes that are no proof text
abbrev pub TokensFault : List LexToken → ℕ → ScriptRefusal → Type 0
TokensFault ts bytes (Lex refusal) = ⊥
TokensFault ts bytes (ProofSyntax offset) =
    RefusesAt ts offset IsUnexpectedAt ⊎ (offset ≡ bytes × IsUnfinishedText (marked ts))
TokensFault ts bytes (ProofVersion offset) = RefusesAt ts offset (IsStoppedAt limit.Version)
TokensFault ts bytes (ProofTooLarge offset) = RefusesAt ts offset (IsStoppedAt limit.TooLarge)
TokensFault ts bytes (CasesTooDeep offset) = RefusesAt ts offset (IsStoppedAt limit.TooDeep)
TokensFault ts bytes Memory = ⊥

-- the refusal of bytes that are no proof text: of those that have no tokens that of the lexer, else
-- that of the first token that is refused, or of the end
abbrev pub ProofFault : Text → ScriptRefusal → Type 0
ProofFault bytes (Lex refusal) = LexFault bytes refusal
ProofFault bytes refusal =
    (ts : List LexToken) × AreTokens bytes ts × TokensFault ts (length bytes) refusal
