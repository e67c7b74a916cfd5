-- How the machine's answer is told as a refusal of tokens.
use Rattle.std.specs.Prelude.{ℕ, ◌≡◌, length, slice_get, List, Some}
use Rattle.token_grammar.specs.Answers.{IsAccepted, IsRefused}
use Rattle.token_grammar.specs.declared.refusal.Refusal.{Refusal}
use Rattle.token_grammar.specs.declared.refusal.Refusal.TheVariants as machine
use Rattle.tptp_lexer.specs.declared.refusal.LexRefusal.{LexRefusal}
use Rattle.tptp_lexer.specs.declared.refusal.LexRefusal.TheVariants as refusals
use Rattle.tptp_lexer.specs.Tokens.{Token as LexToken}
use Rattle.tptp_lexer.specs.Columns.{Lexed, starts_of}
use Rattle.proof_text.specs.declared.refusal.ScriptRefusal.{ScriptRefusal}
use Rattle.proof_text.specs.declared.refusal.ScriptRefusal.TheVariants.{Lex, ProofSyntax, ProofVersion, ProofTooLarge, CasesTooDeep, Memory}
use Rattle.proof_text.specs.declared.part.TextPart as TextPart
use Rattle.proof_text.specs.declared.part.TextPart.TheVariants.{Row}
use Rattle.proof_text.specs.declared.part.Rule.TheVariants.{Text as WholeText}
use Rattle.proof_text.specs.declared.watch.Limit as Limit
use Rattle.proof_text.specs.declared.watch.Limit.TheVariants as limit
use Rattle.proof_text.specs.declared.watch.Tally.{Tally}
use Rattle.proof_text.specs.Marks.{marked}
use Rattle.proof_text.specs.Grammar.{proof_texts}
use Rattle.proof_text.specs.Watching.{proof_text_watcher, nothing_seen}

-- how the lexer's refusal is told
abbrev pub lexical : LexRefusal → ScriptRefusal
lexical refusals.Memory = Memory
lexical refusal = Lex refusal

-- a token that the watcher refuses
abbrev pub limited : Limit.Limit → ℕ → ScriptRefusal
limited limit.Version offset = ProofVersion offset
limited limit.TooLarge offset = ProofTooLarge offset
limited limit.TooDeep offset = CasesTooDeep offset

-- the answer of the machine is told as this refusal
abbrev pub Tells : Lexed → Refusal TextPart.TextPart Limit.Limit → ScriptRefusal → Type 0
Tells lexed machine.Memory refusal = refusal ≡ Memory
Tells lexed (machine.Unexpected n last) refusal = (offset : ℕ) ×
    (slice_get (starts_of lexed.tokens) n ≡ Some offset) × (refusal ≡ ProofSyntax offset)
Tells lexed (machine.Stopped n why) refusal = (offset : ℕ) ×
    (slice_get (starts_of lexed.tokens) n ≡ Some offset) × (refusal ≡ limited why offset)
Tells lexed machine.EndsEarly refusal = refusal ≡ ProofSyntax (length lexed.source)

-- the machine's refusal of the tokens, with what its watcher keeps
abbrev pub IsMachineRefusal : List LexToken → Refusal TextPart.TextPart Limit.Limit → Type 0
IsMachineRefusal ts refusal = (after : Tally) × IsRefused proof_texts proof_text_watcher
    (Row WholeText) nothing_seen (marked ts) after refusal

-- the machine accepts the tokens
abbrev pub IsAcceptedText : List LexToken → Type 0
IsAcceptedText ts = (after : Tally) ×
    IsAccepted proof_texts proof_text_watcher (Row WholeText) nothing_seen (marked ts) after
