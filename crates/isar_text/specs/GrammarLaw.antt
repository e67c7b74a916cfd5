-- One token is enough to read a text: a line for each rule, since every case computes.
use Rattle.std.specs.Prelude.{ℕ, IsTrue}
use Rattle.std.proofs.Common.{refl}
use Rattle.token_grammar.specs.Plan.{IsPredictive, part_test, token_test}
use Rattle.isar_text.specs.declared.fixed.Fixed.TheVariants as fixed
use Rattle.isar_text.specs.declared.mark.Mark as Mark
use Rattle.isar_text.specs.declared.mark.Mark.TheVariants as mark
use Rattle.isar_text.specs.declared.mark.Token.{Token}
use Rattle.isar_text.specs.declared.part.IsarPart as IsarPart
use Rattle.isar_text.specs.declared.part.IsarPart.TheVariants.{Taken, Row}
use Rattle.isar_text.specs.declared.part.Rule as Rule
use Rattle.isar_text.specs.declared.part.Rule.TheVariants as rule
use Rattle.isar_text.specs.Grammar.{isar_rests, isar_plan}

-- each part costs more than the first members of its rows, of which one may be empty
part_law : (p : IsarPart.IsarPart) → IsTrue (part_test isar_rests isar_plan p)
part_law (Taken t) = refl
part_law (Row rule.Rest) = refl
part_law (Row (rule.Body n)) = refl
part_law (Row (rule.Step n)) = refl
part_law (Row (rule.Given n)) = refl
part_law (Row rule.QuotedLine) = refl
part_law (Row (rule.Using n)) = refl
part_law (Row (rule.MoreLines n)) = refl
part_law (Row rule.Instance) = refl
part_law (Row rule.StepEnd) = refl
part_law (Row (rule.Finish n)) = refl
part_law (Row (rule.AfterThesis n)) = refl
part_law (Row (rule.AfterLine n)) = refl
part_law (Row rule.ByCases) = refl
part_law (Row rule.Reason) = refl
part_law (Row rule.Inside) = refl
part_law (Row rule.ByBlast) = refl
part_law (Row (rule.Case n)) = refl
part_law (Row (rule.CaseHead n)) = refl
part_law (Row rule.QuotedFacts) = refl
part_law (Row (rule.MoreCases n)) = refl
part_law (Row rule.Names) = refl
part_law (Row rule.ListedNames) = refl
part_law (Row rule.MoreNames) = refl
part_law (Row rule.MoreWords) = refl
part_law (Row rule.Line) = refl
part_law (Row rule.AfterTrue) = refl
part_law (Row rule.AfterAtom) = refl
part_law (Row rule.AfterGroup) = refl
part_law (Row rule.Bars) = refl
part_law (Row rule.LinePart) = refl
part_law (Row rule.Group) = refl
part_law (Row rule.MoreAtoms) = refl
part_law (Row rule.Facts) = refl
part_law (Row rule.Atom) = refl
part_law (Row rule.AfterName) = refl
part_law (Row rule.AfterNegated) = refl
part_law (Row (rule.Acts does)) = refl
part_law (Row (rule.Does does)) = refl

-- what a rule reads at a token with this mark
mark_law : (r : Rule.Rule) (m : Mark.Mark) (k : ℕ) →
    IsTrue (token_test isar_rests isar_plan (Row r) (record { mark = m; number = k }))
mark_law rule.Rest (mark.Fixed fixed.Have) k = refl
mark_law (rule.Body n) (mark.Fixed fixed.Have) k = refl
mark_law (rule.Step n) (mark.Fixed fixed.Have) k = refl
mark_law (rule.Given n) (mark.Fixed fixed.Have) k = refl
mark_law rule.QuotedLine (mark.Fixed fixed.Have) k = refl
mark_law (rule.Using n) (mark.Fixed fixed.Have) k = refl
mark_law (rule.MoreLines n) (mark.Fixed fixed.Have) k = refl
mark_law rule.Instance (mark.Fixed fixed.Have) k = refl
mark_law rule.StepEnd (mark.Fixed fixed.Have) k = refl
mark_law (rule.Finish n) (mark.Fixed fixed.Have) k = refl
mark_law (rule.AfterThesis n) (mark.Fixed fixed.Have) k = refl
mark_law (rule.AfterLine n) (mark.Fixed fixed.Have) k = refl
mark_law rule.ByCases (mark.Fixed fixed.Have) k = refl
mark_law rule.Reason (mark.Fixed fixed.Have) k = refl
mark_law rule.Inside (mark.Fixed fixed.Have) k = refl
mark_law rule.ByBlast (mark.Fixed fixed.Have) k = refl
mark_law (rule.Case n) (mark.Fixed fixed.Have) k = refl
mark_law (rule.CaseHead n) (mark.Fixed fixed.Have) k = refl
mark_law rule.QuotedFacts (mark.Fixed fixed.Have) k = refl
mark_law (rule.MoreCases n) (mark.Fixed fixed.Have) k = refl
mark_law rule.Names (mark.Fixed fixed.Have) k = refl
mark_law rule.ListedNames (mark.Fixed fixed.Have) k = refl
mark_law rule.MoreNames (mark.Fixed fixed.Have) k = refl
mark_law rule.MoreWords (mark.Fixed fixed.Have) k = refl
mark_law rule.Line (mark.Fixed fixed.Have) k = refl
mark_law rule.AfterTrue (mark.Fixed fixed.Have) k = refl
mark_law rule.AfterAtom (mark.Fixed fixed.Have) k = refl
mark_law rule.AfterGroup (mark.Fixed fixed.Have) k = refl
mark_law rule.Bars (mark.Fixed fixed.Have) k = refl
mark_law rule.LinePart (mark.Fixed fixed.Have) k = refl
mark_law rule.Group (mark.Fixed fixed.Have) k = refl
mark_law rule.MoreAtoms (mark.Fixed fixed.Have) k = refl
mark_law rule.Facts (mark.Fixed fixed.Have) k = refl
mark_law rule.Atom (mark.Fixed fixed.Have) k = refl
mark_law rule.AfterName (mark.Fixed fixed.Have) k = refl
mark_law rule.AfterNegated (mark.Fixed fixed.Have) k = refl
mark_law (rule.Acts does) m k = refl
mark_law (rule.Does does) m k = refl
mark_law _ _ _ = refl

token_law : (p : IsarPart.IsarPart) (t : Token) → IsTrue (token_test isar_rests isar_plan p t)
token_law (Taken t) token = refl
token_law (Row r) token = mark_law r token.mark token.number

pub isar_law : IsPredictive isar_rests isar_plan
isar_law = record { at_part = part_law; at_token = token_law }
