-- What the code of a part does at a token.
use Rattle.std.specs.Prelude.{List, Result, IfOk}
use Rattle.text_core.specs.declared.memory.Memory.{Memory}
use Rattle.token_grammar.specs.declared.part.Step.{Step}
use Rattle.token_grammar.specs.Step.{Steps}
use Rattle.proof_text.specs.declared.mark.Token.{Token}
use Rattle.proof_text.specs.declared.part.TextPart as TextPart
use Rattle.proof_text.specs.declared.part.TextPart.TheVariants.{Row}
use Rattle.proof_text.specs.declared.part.Rule.{Rule}
use Rattle.proof_text.specs.Grammar.{proof_texts, proof_text_plan}

-- the rule pushes the row that the token asks for, or refuses; want of memory may come instead
abbrev pub DoesStep : Rule → Token → List TextPart.TextPart → List TextPart.TextPart →
    Result Step Memory → Type 0
DoesStep rule token old new result =
    IfOk result (λ step. Steps proof_texts proof_text_plan (Row rule) token old new step)
