-- How the machine's answer is told as a refusal of tokens.
use Rattle.std.specs.Prelude.{ℕ, ◌≡◌, length, slice_get, List, Some}
use Rattle.token_grammar.specs.Answers.{IsAccepted, IsRefused}
use Rattle.token_grammar.specs.declared.refusal.Refusal.{Refusal}
use Rattle.token_grammar.specs.declared.refusal.Refusal.TheVariants as machine
use Rattle.tptp_lexer.specs.declared.refusal.LexRefusal.{LexRefusal}
use Rattle.tptp_lexer.specs.declared.refusal.LexRefusal.TheVariants as refusals
use Rattle.tptp_lexer.specs.Tokens.{Token as LexToken}
use Rattle.tptp_lexer.specs.Columns.{Lexed, starts_of}
use Rattle.model_text.specs.declared.refusal.ModelRefusal.{ModelRefusal}
use Rattle.model_text.specs.declared.refusal.ModelRefusal.TheVariants.{Lex, ModelSyntax, ModelRange, ModelTwice, Memory}
use Rattle.model_text.specs.declared.part.ModelPart as ModelPart
use Rattle.model_text.specs.declared.part.ModelPart.TheVariants.{Row}
use Rattle.model_text.specs.declared.part.Rule.TheVariants as rule
use Rattle.model_text.specs.declared.watch.Fault as Fault
use Rattle.model_text.specs.declared.watch.Fault.TheVariants.{Range, Twice}
use Rattle.model_text.specs.Marks.{marked}
use Rattle.model_text.specs.Grammar.{models}
use Rattle.model_text.specs.Seen.{Seen}
use Rattle.model_text.specs.Watching.{model_watcher, nothing_seen}

-- how the lexer's refusal is told
abbrev pub lexical : LexRefusal → ModelRefusal
lexical refusals.Memory = Memory
lexical refusal = Lex refusal

-- a token that the watcher refuses
abbrev pub faulty : Fault.Fault → ℕ → ModelRefusal
faulty Range offset = ModelRange offset
faulty Twice offset = ModelTwice offset

-- the answer of the machine is told as this refusal
abbrev pub Tells : Lexed → Refusal ModelPart.ModelPart Fault.Fault → ModelRefusal → Type 0
Tells lexed machine.Memory refusal = refusal ≡ Memory
Tells lexed (machine.Unexpected n last) refusal = (offset : ℕ) ×
    (slice_get (starts_of lexed.tokens) n ≡ Some offset) × (refusal ≡ ModelSyntax offset)
Tells lexed (machine.Stopped n why) refusal = (offset : ℕ) ×
    (slice_get (starts_of lexed.tokens) n ≡ Some offset) × (refusal ≡ faulty why offset)
Tells lexed machine.EndsEarly refusal = refusal ≡ ModelSyntax (length lexed.source)

-- the machine's refusal of the tokens, with what its watcher has seen
abbrev pub IsMachineRefusal : List LexToken → Refusal ModelPart.ModelPart Fault.Fault → Type 0
IsMachineRefusal ts refusal = (after : Seen) × IsRefused models model_watcher
    (Row rule.Text) nothing_seen (marked ts) after refusal

-- the machine accepts the tokens
abbrev pub IsAcceptedText : List LexToken → Type 0
IsAcceptedText ts = (after : Seen) ×
    IsAccepted models model_watcher (Row rule.Text) nothing_seen (marked ts) after
