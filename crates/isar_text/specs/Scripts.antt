-- Which script the bytes of an Isar text of a task spell, and where other bytes are refused.
use Rattle.std.specs.Prelude.{ℕ, ◌≡◌, ◌<◌, ◌==◌, ◌+◌, ◌⊎◌, List, [], ◌∷◌, ◌++◌, map, length, slice_get, Option, Some, None, if◌then◌else◌}
use Rattle.text_core.specs.Names.{Text}
use Rattle.token_grammar.specs.SpelledAs.{SpelledAs}
use Rattle.token_grammar.specs.Answers.{IsUnexpected, IsStopped, IsEarlyEnd}
use Rattle.vernacular_tree.specs.Contexts.{parameters}
use Rattle.coherent_form.specs.Tasks.{CitedTask, proof_task}
use Rattle.proof_text.specs.declared.body.BodyText.{BodyText}
use Rattle.proof_text.specs.declared.watch.Limit as Limit
use Rattle.proof_text.specs.declared.watch.Limit.TheVariants as limit
use Rattle.proof_text.specs.Proper.{IsBounded}
use Rattle.proof_text.specs.Printing.{printed}
use Rattle.proof_text.specs.Values.{Written}
use Rattle.isar_text.specs.declared.refusal.IsarRefusal.{IsarRefusal}
use Rattle.isar_text.specs.declared.refusal.IsarRefusal.TheVariants.{Head, Syntax, TooLarge, TooDeep, Memory}
use Rattle.isar_text.specs.declared.mark.Token.{Token as Seen}
use Rattle.isar_text.specs.declared.part.IsarPart as IsarPart
use Rattle.isar_text.specs.declared.part.IsarPart.TheVariants.{Row}
use Rattle.isar_text.specs.declared.part.Rule.TheVariants.{Rest}
use Rattle.isar_text.specs.declared.watch.RuleWords.{RuleWords}
use Rattle.isar_text.specs.declared.watch.Excess.{Excess}
use Rattle.isar_text.specs.Grammar.{isar_rests}
use Rattle.isar_text.specs.Heads.{isar_head}
use Rattle.isar_text.specs.Marks.{marked}
use Rattle.isar_text.specs.Tokens.{Token, AreTokens}
use Rattle.isar_text.specs.Values.{Lexed, Value, isar_making}
use Rattle.isar_text.specs.Watching.{isar_watcher, nothing_seen}

-- the offsets of tokens
abbrev pub starts_of : List Token → List ℕ
starts_of ts = map (λ (t : Token). t.start) ts

-- the tokens of a text, as the grammar sees them
abbrev pub seen_in : Lexed → List Seen
seen_in lexed = marked (length lexed.task.forms) lexed.tokens

-- the tokens behind the head spell the body, and it is within the bounds
pub record AreBodyOf (lexed : Lexed) (body : BodyText) : Type 0 where
  pub spelled :
      SpelledAs isar_rests Value (isar_making lexed) (Row Rest) body (seen_in lexed)
  pub bounded : IsBounded body

-- the script of a body: of version 1, and it takes the parameters' printed names
abbrev pub script_with : CitedTask → BodyText → Written
script_with task body = record {
  version = 1;
  take = map (printed task) (parameters (proof_task task));
  body = body;
}

-- the bytes are the head and what spells the script
pub record IsIsarOf (task : CitedTask) (bytes : Text) (script : Written) : Type 0 where
  pub rest : Text
  pub tokens : List Token
  pub body : BodyText
  pub bytes_are : bytes ≡ isar_head task ++ rest
  pub tokens_are : AreTokens (length (isar_head task)) rest tokens None
  pub body_is : AreBodyOf (record { task = task; tokens = tokens }) body
  pub script_is : script ≡ script_with task body

-- how many bytes two texts have in common at their fronts
abbrev pub common : Text → Text → ℕ
common [] bytes = 0
common (b ∷ bs) [] = 0
common (b ∷ bs) (c ∷ cs) = if b == c then 1 + common bs cs else 0

-- the token of this number is the first with which the tokens begin no text, and no limit is passed
-- before it
abbrev pub IsUnexpectedAt : List Seen → ℕ → Type 0
IsUnexpectedAt ms n = (after : RuleWords) × (last : Option IsarPart.IsarPart) ×
    IsUnexpected isar_rests isar_watcher (Row Rest) nothing_seen ms after n last

-- all tokens begin a text and are none, and no limit is passed
abbrev pub IsUnfinishedText : List Seen → Type 0
IsUnfinishedText ms = (after : RuleWords) ×
    IsEarlyEnd isar_rests isar_watcher (Row Rest) nothing_seen ms after

-- a limit is passed, at a token up to which the tokens begin a text
abbrev pub PassesLimit : List Seen → Excess → Type 0
PassesLimit ms excess =
    (n : ℕ) × IsStopped isar_rests isar_watcher (Row Rest) nothing_seen ms n excess

-- this limit is passed, which is told of the rule word at this offset
abbrev pub PassesAt : Lexed → Limit.Limit → ℕ → Type 0
PassesAt lexed why offset = (word : ℕ) × (slice_get (starts_of lexed.tokens) word ≡ Some offset) ×
    PassesLimit (seen_in lexed) (record { limit = why; word = word })

-- 42 of bytes that end behind these tokens is at the first token with which they begin no text, or
-- at the end; where some byte begins no token, it is at that byte
abbrev pub SyntaxAt : Lexed → ℕ → Option ℕ → ℕ → Type 0
SyntaxAt lexed end None offset =
    ((n : ℕ) × (slice_get (starts_of lexed.tokens) n ≡ Some offset) ×
    IsUnexpectedAt (seen_in lexed) n) ⊎
    ((offset ≡ end) × IsUnfinishedText (seen_in lexed))
SyntaxAt lexed end (Some bad) offset =
    (offset ≡ bad) × ((excess : Excess) → PassesLimit (seen_in lexed) excess → ⊥)

-- the refusal of what follows the head: a limit that is passed comes before what is told of a later
-- token, of a later byte or of the end
abbrev pub RestFault : Lexed → ℕ → Option ℕ → IsarRefusal → Type 0
RestFault lexed end bad (Head offset) = ⊥
RestFault lexed end bad (Syntax offset) = SyntaxAt lexed end bad offset
RestFault lexed end bad (TooLarge offset) = PassesAt lexed limit.TooLarge offset
RestFault lexed end bad (TooDeep offset) = PassesAt lexed limit.TooDeep offset
RestFault lexed end bad Memory = ⊥

-- what follows the head is refused
pub record IsRestFault (task : CitedTask) (bytes : Text) (refusal : IsarRefusal) : Type 0 where
  pub rest : Text
  pub tokens : List Token
  pub bad : Option ℕ
  pub bytes_are : bytes ≡ isar_head task ++ rest
  pub tokens_are : AreTokens (length (isar_head task)) rest tokens bad
  pub fault : RestFault (record { task = task; tokens = tokens }) (length bytes) bad refusal

-- the refusal of bytes that are no Isar text of the task
abbrev pub IsarFault : CitedTask → Text → IsarRefusal → Type 0
IsarFault task bytes (Head offset) =
    (offset ≡ common (isar_head task) bytes) × (offset < length (isar_head task))
IsarFault task bytes refusal = IsRestFault task bytes refusal
