-- One token is enough to read the text of a model: a line for each rule, since every case computes.
use Rattle.std.specs.Prelude.{IsTrue}
use Rattle.std.proofs.Common.{refl}
use Rattle.token_grammar.specs.Plan.{IsPredictive, part_test, token_test}
use Rattle.model_text.specs.declared.mark.Mark as Mark
use Rattle.model_text.specs.declared.mark.Mark.TheVariants as mark
use Rattle.model_text.specs.declared.part.ModelPart as ModelPart
use Rattle.model_text.specs.declared.part.ModelPart.TheVariants.{Taken, Row}
use Rattle.model_text.specs.declared.part.Rule.TheVariants as rule
use Rattle.model_text.specs.Grammar.{models, model_plan}

part_law : (p : ModelPart.ModelPart) → IsTrue (part_test models model_plan p)
part_law (Taken taker) = refl
part_law (Row rule.Text) = refl
part_law (Row _) = refl

token_law : (p : ModelPart.ModelPart) (m : Mark.Mark) → IsTrue (token_test models model_plan p m)
token_law (Taken taker) m = refl
token_law (Row rule.Text) mark.Dot = refl
token_law (Row rule.Sized) mark.Dot = refl
token_law (Row rule.Places) mark.Dot = refl
token_law (Row rule.Facts) mark.Dot = refl
token_law (Row rule.Arguments) mark.Dot = refl
token_law (Row rule.Others) mark.Dot = refl
token_law _ _ = refl

pub model_law : IsPredictive models model_plan
model_law = record { at_part = part_law; at_token = token_law }
