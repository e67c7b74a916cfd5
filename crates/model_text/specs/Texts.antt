-- Which structure the bytes of a model's text spell, and where other bytes are refused.
use Rattle.std.specs.Prelude.{ℕ, ◌≡◌, ◌⊎◌, List, length, slice_get, Option, Some}
use Rattle.text_core.specs.Names.{Text}
use Rattle.token_grammar.specs.SpelledAs.{SpelledAs}
use Rattle.token_grammar.specs.Answers.{IsUnexpected, IsStopped, IsEarlyEnd}
use Rattle.tptp_lexer.specs.Tokens.{Token as LexToken, AreTokens}
use Rattle.tptp_lexer.specs.Columns.{starts_of}
use Rattle.tptp_lexer.specs.Refused.{LexFault}
use Rattle.model_text.specs.declared.refusal.ModelRefusal.{ModelRefusal}
use Rattle.model_text.specs.declared.refusal.ModelRefusal.TheVariants.{Lex, ModelSyntax, ModelRange, ModelTwice, Memory}
use Rattle.model_text.specs.declared.mark.Mark as Mark
use Rattle.model_text.specs.declared.part.ModelPart as ModelPart
use Rattle.model_text.specs.declared.part.ModelPart.TheVariants.{Row}
use Rattle.model_text.specs.declared.part.Rule.TheVariants as rule
use Rattle.model_text.specs.declared.watch.Fault as Fault
use Rattle.model_text.specs.declared.watch.Fault.TheVariants.{Range, Twice}
use Rattle.model_text.specs.Structures.{Finite, IsSound}
use Rattle.model_text.specs.Marks.{marked}
use Rattle.model_text.specs.Grammar.{models}
use Rattle.model_text.specs.Values.{Value, model_making}
use Rattle.model_text.specs.Seen.{Seen}
use Rattle.model_text.specs.Watching.{model_watcher, nothing_seen}

-- the tokens spell the structure, and it is sound
pub record AreModelOf (ts : List LexToken) (m : Finite) : Type 0 where
  pub spelled : SpelledAs models Value (model_making ts) (Row rule.Text) m (marked ts)
  pub sound : IsSound m

-- the bytes spell the structure
abbrev pub IsModelOf : Text → Finite → Type 0
IsModelOf bytes m = (ts : List LexToken) × AreTokens bytes ts × AreModelOf ts m

-- the token of this number is the first with which the tokens begin no text of a model, and none
-- before it is refused for another reason
abbrev pub IsUnexpectedAt : List Mark.Mark → ℕ → Type 0
IsUnexpectedAt ms n = (after : Seen) × (last : Option ModelPart.ModelPart) ×
    IsUnexpected models model_watcher (Row rule.Text) nothing_seen ms after n last

-- the tokens up to the one of this number begin a text of a model, and it is the first that is
-- refused, for this reason
abbrev pub IsStoppedAt : Fault.Fault → List Mark.Mark → ℕ → Type 0
IsStoppedAt why ms n = IsStopped models model_watcher (Row rule.Text) nothing_seen ms n why

-- all tokens begin a text of a model and are none, and none is refused for another reason
abbrev pub IsUnfinishedText : List Mark.Mark → Type 0
IsUnfinishedText ms = (after : Seen) ×
    IsEarlyEnd models model_watcher (Row rule.Text) nothing_seen ms after

-- a token of this number is at this offset, and it is refused in this way
abbrev pub RefusesAt : List LexToken → ℕ → (List Mark.Mark → ℕ → Type 0) → Type 0
RefusesAt ts offset refuses =
    (n : ℕ) × (slice_get (starts_of ts) n ≡ Some offset) × refuses (marked ts) n

-- the refusal of tokens of so many bytes that are no text of a model
abbrev pub TokensFault : List LexToken → ℕ → ModelRefusal → Type 0
TokensFault ts bytes (Lex refusal) = ⊥
TokensFault ts bytes (ModelSyntax offset) =
    RefusesAt ts offset IsUnexpectedAt ⊎ (offset ≡ bytes × IsUnfinishedText (marked ts))
TokensFault ts bytes (ModelRange offset) = RefusesAt ts offset (IsStoppedAt Range)
TokensFault ts bytes (ModelTwice offset) = RefusesAt ts offset (IsStoppedAt Twice)
TokensFault ts bytes Memory = ⊥

-- the refusal of bytes that are no text of a model: of those that have no tokens that of the lexer,
-- else that of the first token that is refused, or of the end
abbrev pub ModelFault : Text → ModelRefusal → Type 0
ModelFault bytes (Lex refusal) = LexFault bytes refusal
ModelFault bytes refusal =
    (ts : List LexToken) × AreTokens bytes ts × TokensFault ts (length bytes) refusal
