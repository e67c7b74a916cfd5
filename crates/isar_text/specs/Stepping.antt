-- What the code of a part does at a token.
use Rattle.std.specs.Prelude.{ℕ, ◌+◌, List, [], ◌∷◌, Result, IfOk}
use Rattle.text_core.specs.declared.memory.Memory.{Memory}
use Rattle.token_grammar.specs.declared.part.Step.{Step}
use Rattle.token_grammar.specs.Step.{Steps}
use Rattle.proof_text.specs.declared.part.Act.TheVariants as act
use Rattle.proof_text.specs.declared.part.Pass.TheVariants as pass
use Rattle.isar_text.specs.declared.fixed.Fixed.TheVariants as fixed
use Rattle.isar_text.specs.declared.mark.Token.{Token}
use Rattle.isar_text.specs.declared.part.IsarPart as IsarPart
use Rattle.isar_text.specs.declared.part.IsarPart.TheVariants.{Row}
use Rattle.isar_text.specs.declared.part.Rule as Rule
use Rattle.isar_text.specs.declared.part.Rule.TheVariants as rule
use Rattle.isar_text.specs.Grammar.{isar_rests, isar_plan, sign_does}

-- the rule pushes the row that the token asks for, or refuses; want of memory may come instead
abbrev pub DoesStep : Rule.Rule → Token → List IsarPart.IsarPart → List IsarPart.IsarPart →
    Result Step Memory → Type 0
DoesStep r token old new result =
    IfOk result (λ step. Steps isar_rests isar_plan (Row r) token old new step)

-- a step in front of a body with a line more
abbrev pub step_row : ℕ → List IsarPart.IsarPart
step_row n = Row (rule.Step n) ∷ Row (rule.Body (n + 1)) ∷ []

-- a case, whose body has a line more
abbrev pub case_row : ℕ → List IsarPart.IsarPart
case_row n =
    sign_does fixed.Assume act.BeginCase ∷ Row (rule.CaseHead n) ∷ Row (rule.Body (n + 1)) ∷
    Row (rule.Does pass.AddCase) ∷ []
