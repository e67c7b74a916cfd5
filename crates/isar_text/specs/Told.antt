-- What the watcher's code does, and how the machine's answer is told as a refusal of a text.
use Rattle.std.specs.Prelude.{ℕ, ◌≡◌, slice_get, List, Option, Some, unwrap_or, Result, Ok, Err}
use Rattle.token_grammar.specs.Answers.{IsAccepted, IsRefused}
use Rattle.token_grammar.specs.declared.refusal.Refusal.{Refusal}
use Rattle.token_grammar.specs.declared.refusal.Refusal.TheVariants as machine
use Rattle.proof_text.specs.declared.watch.Limit as Limit
use Rattle.proof_text.specs.declared.watch.Limit.TheVariants as limit
use Rattle.isar_text.specs.declared.refusal.IsarRefusal.{IsarRefusal}
use Rattle.isar_text.specs.declared.refusal.IsarRefusal.TheVariants.{Syntax, TooLarge, TooDeep, Memory}
use Rattle.isar_text.specs.declared.mark.Token.{Token as Seen}
use Rattle.isar_text.specs.declared.part.IsarPart as IsarPart
use Rattle.isar_text.specs.declared.part.IsarPart.TheVariants.{Row}
use Rattle.isar_text.specs.declared.part.Rule.TheVariants.{Rest}
use Rattle.isar_text.specs.declared.watch.RuleWords.{RuleWords}
use Rattle.isar_text.specs.declared.watch.Excess.{Excess}
use Rattle.isar_text.specs.Grammar.{isar_rests}
use Rattle.isar_text.specs.Scripts.{starts_of}
use Rattle.isar_text.specs.Values.{Lexed}
use Rattle.isar_text.specs.Watching.{isar_watcher, nothing_seen}

-- the outcome is the one that the watcher's rule gives
abbrev pub GoesOn : Result RuleWords Excess → RuleWords → Result (Unit {0}) Excess → Type 0
GoesOn outcome after (Ok _) = outcome ≡ Ok after
GoesOn outcome after (Err excess) = outcome ≡ Err excess

-- a limit that is passed is told so, of the rule word at this offset; a text has no version
abbrev pub LimitTold : Limit.Limit → ℕ → IsarRefusal → Type 0
LimitTold limit.Version offset refusal = ⊥
LimitTold limit.TooLarge offset refusal = refusal ≡ TooLarge offset
LimitTold limit.TooDeep offset refusal = refusal ≡ TooDeep offset

-- the refusal of the machine is told as this refusal; where the tokens end at a byte that begins
-- none, a refused token, or the end, is told at that byte
abbrev pub Tells : Lexed → ℕ → Option ℕ → Refusal IsarPart.IsarPart Excess → IsarRefusal → Type 0
Tells lexed end bad machine.Memory refusal = refusal ≡ Memory
Tells lexed end bad (machine.Unexpected n last) refusal = (offset : ℕ) ×
    (slice_get (starts_of lexed.tokens) n ≡ Some offset) ×
    (refusal ≡ Syntax (unwrap_or bad offset))
Tells lexed end bad (machine.Stopped n excess) refusal = (offset : ℕ) ×
    (slice_get (starts_of lexed.tokens) excess.word ≡ Some offset) ×
    LimitTold excess.limit offset refusal
Tells lexed end bad machine.EndsEarly refusal = refusal ≡ Syntax (unwrap_or bad end)

-- the machine's refusal of tokens, with what its watcher keeps
abbrev pub IsMachineRefusal : List Seen → Refusal IsarPart.IsarPart Excess → Type 0
IsMachineRefusal ms refusal = (after : RuleWords) ×
    IsRefused isar_rests isar_watcher (Row Rest) nothing_seen ms after refusal

-- the machine accepts the tokens
abbrev pub IsAcceptedRest : List Seen → Type 0
IsAcceptedRest ms = (after : RuleWords) ×
    IsAccepted isar_rests isar_watcher (Row Rest) nothing_seen ms after
