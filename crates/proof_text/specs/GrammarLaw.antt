-- One token is enough to read a proof text: a line for each rule, since every case computes.
use Rattle.std.specs.Prelude.{ℕ, IsTrue}
use Rattle.std.proofs.Common.{refl}
use Rattle.token_grammar.specs.Plan.{IsPredictive, part_test, token_test}
use Rattle.proof_text.specs.declared.fixed.Fixed.TheVariants as fixed
use Rattle.proof_text.specs.declared.mark.Integer.TheVariants as integer
use Rattle.proof_text.specs.declared.mark.Mark as Mark
use Rattle.proof_text.specs.declared.mark.Mark.TheVariants as mark
use Rattle.proof_text.specs.declared.mark.Token.{Token}
use Rattle.proof_text.specs.declared.part.Edition.TheVariants.{First, Second}
use Rattle.proof_text.specs.declared.part.TextPart as TextPart
use Rattle.proof_text.specs.declared.part.TextPart.TheVariants.{Taken, Row}
use Rattle.proof_text.specs.declared.part.Rule as Rule
use Rattle.proof_text.specs.declared.part.Rule.TheVariants as rule
use Rattle.proof_text.specs.Grammar.{proof_texts, proof_text_plan}

-- each part costs more than the first members of its rows, of which one may be empty
part_law : (p : TextPart.TextPart) → IsTrue (part_test proof_texts proof_text_plan p)
part_law (Taken t) = refl
part_law (Row rule.Text) = refl
part_law (Row rule.Version) = refl
part_law (Row rule.Never) = refl
part_law (Row rule.Head) = refl
part_law (Row rule.Names) = refl
part_law (Row rule.ListedNames) = refl
part_law (Row rule.MoreNames) = refl
part_law (Row (rule.Body First)) = refl
part_law (Row (rule.Body Second)) = refl
part_law (Row (rule.Step First)) = refl
part_law (Row (rule.Step Second)) = refl
part_law (Row (rule.Given First)) = refl
part_law (Row (rule.Given Second)) = refl
part_law (Row (rule.Finish First)) = refl
part_law (Row (rule.Finish Second)) = refl
part_law (Row rule.SplitEnd) = refl
part_law (Row (rule.Case First)) = refl
part_law (Row (rule.Case Second)) = refl
part_law (Row (rule.MoreCases First)) = refl
part_law (Row (rule.MoreCases Second)) = refl
part_law (Row (rule.CaseHead First)) = refl
part_law (Row (rule.CaseHead Second)) = refl
part_law (Row rule.Cite) = refl
part_law (Row rule.Rank) = refl
part_law (Row rule.SignedSymbol) = refl
part_law (Row rule.Symbol) = refl
part_law (Row rule.Binds) = refl
part_law (Row rule.ListedBinds) = refl
part_law (Row rule.MoreBinds) = refl
part_law (Row rule.Bind) = refl
part_law (Row rule.Line) = refl
part_law (Row rule.AfterTrue) = refl
part_law (Row rule.AfterAtom) = refl
part_law (Row rule.AfterGroup) = refl
part_law (Row rule.Bars) = refl
part_law (Row rule.LinePart) = refl
part_law (Row rule.Group) = refl
part_law (Row rule.MoreAtoms) = refl
part_law (Row rule.Facts) = refl
part_law (Row rule.Atom) = refl
part_law (Row rule.AfterWord) = refl
part_law (Row rule.AfterNegated) = refl
part_law (Row (rule.Does does)) = refl

-- what a rule reads at a token with this mark
mark_law : (r : Rule.Rule) (m : Mark.Mark) (n : ℕ) →
    IsTrue (token_test proof_texts proof_text_plan (Row r) (record { mark = m; number = n }))
mark_law rule.Text (mark.Fixed fixed.Mp) n = refl
mark_law rule.Text (mark.Integer integer.One) n = refl
mark_law rule.Version (mark.Fixed fixed.Mp) n = refl
mark_law rule.Version (mark.Integer integer.One) n = refl
mark_law rule.Never (mark.Fixed fixed.Mp) n = refl
mark_law rule.Never (mark.Integer integer.One) n = refl
mark_law rule.Head (mark.Fixed fixed.Mp) n = refl
mark_law rule.Head (mark.Integer integer.One) n = refl
mark_law rule.Names (mark.Fixed fixed.Mp) n = refl
mark_law rule.Names (mark.Integer integer.One) n = refl
mark_law rule.ListedNames (mark.Fixed fixed.Mp) n = refl
mark_law rule.ListedNames (mark.Integer integer.One) n = refl
mark_law rule.MoreNames (mark.Fixed fixed.Mp) n = refl
mark_law rule.MoreNames (mark.Integer integer.One) n = refl
mark_law (rule.Body First) (mark.Fixed fixed.Mp) n = refl
mark_law (rule.Body First) (mark.Integer integer.One) n = refl
mark_law (rule.Body Second) (mark.Fixed fixed.Mp) n = refl
mark_law (rule.Body Second) (mark.Integer integer.One) n = refl
mark_law (rule.Step First) (mark.Fixed fixed.Mp) n = refl
mark_law (rule.Step First) (mark.Integer integer.One) n = refl
mark_law (rule.Step Second) (mark.Fixed fixed.Mp) n = refl
mark_law (rule.Step Second) (mark.Integer integer.One) n = refl
mark_law (rule.Given First) (mark.Fixed fixed.Mp) n = refl
mark_law (rule.Given First) (mark.Integer integer.One) n = refl
mark_law (rule.Given Second) (mark.Fixed fixed.Mp) n = refl
mark_law (rule.Given Second) (mark.Integer integer.One) n = refl
mark_law (rule.Finish First) (mark.Fixed fixed.Mp) n = refl
mark_law (rule.Finish First) (mark.Integer integer.One) n = refl
mark_law (rule.Finish Second) (mark.Fixed fixed.Mp) n = refl
mark_law (rule.Finish Second) (mark.Integer integer.One) n = refl
mark_law rule.SplitEnd (mark.Fixed fixed.Mp) n = refl
mark_law rule.SplitEnd (mark.Integer integer.One) n = refl
mark_law (rule.Case First) (mark.Fixed fixed.Mp) n = refl
mark_law (rule.Case First) (mark.Integer integer.One) n = refl
mark_law (rule.Case Second) (mark.Fixed fixed.Mp) n = refl
mark_law (rule.Case Second) (mark.Integer integer.One) n = refl
mark_law (rule.MoreCases First) (mark.Fixed fixed.Mp) n = refl
mark_law (rule.MoreCases First) (mark.Integer integer.One) n = refl
mark_law (rule.MoreCases Second) (mark.Fixed fixed.Mp) n = refl
mark_law (rule.MoreCases Second) (mark.Integer integer.One) n = refl
mark_law (rule.CaseHead First) (mark.Fixed fixed.Mp) n = refl
mark_law (rule.CaseHead First) (mark.Integer integer.One) n = refl
mark_law (rule.CaseHead Second) (mark.Fixed fixed.Mp) n = refl
mark_law (rule.CaseHead Second) (mark.Integer integer.One) n = refl
mark_law rule.Cite (mark.Fixed fixed.Mp) n = refl
mark_law rule.Cite (mark.Integer integer.One) n = refl
mark_law rule.Rank (mark.Fixed fixed.Mp) n = refl
mark_law rule.Rank (mark.Integer integer.One) n = refl
mark_law rule.SignedSymbol (mark.Fixed fixed.Mp) n = refl
mark_law rule.SignedSymbol (mark.Integer integer.One) n = refl
mark_law rule.Symbol (mark.Fixed fixed.Mp) n = refl
mark_law rule.Symbol (mark.Integer integer.One) n = refl
mark_law rule.Binds (mark.Fixed fixed.Mp) n = refl
mark_law rule.Binds (mark.Integer integer.One) n = refl
mark_law rule.ListedBinds (mark.Fixed fixed.Mp) n = refl
mark_law rule.ListedBinds (mark.Integer integer.One) n = refl
mark_law rule.MoreBinds (mark.Fixed fixed.Mp) n = refl
mark_law rule.MoreBinds (mark.Integer integer.One) n = refl
mark_law rule.Bind (mark.Fixed fixed.Mp) n = refl
mark_law rule.Bind (mark.Integer integer.One) n = refl
mark_law rule.Line (mark.Fixed fixed.Mp) n = refl
mark_law rule.Line (mark.Integer integer.One) n = refl
mark_law rule.AfterTrue (mark.Fixed fixed.Mp) n = refl
mark_law rule.AfterTrue (mark.Integer integer.One) n = refl
mark_law rule.AfterAtom (mark.Fixed fixed.Mp) n = refl
mark_law rule.AfterAtom (mark.Integer integer.One) n = refl
mark_law rule.AfterGroup (mark.Fixed fixed.Mp) n = refl
mark_law rule.AfterGroup (mark.Integer integer.One) n = refl
mark_law rule.Bars (mark.Fixed fixed.Mp) n = refl
mark_law rule.Bars (mark.Integer integer.One) n = refl
mark_law rule.LinePart (mark.Fixed fixed.Mp) n = refl
mark_law rule.LinePart (mark.Integer integer.One) n = refl
mark_law rule.Group (mark.Fixed fixed.Mp) n = refl
mark_law rule.Group (mark.Integer integer.One) n = refl
mark_law rule.MoreAtoms (mark.Fixed fixed.Mp) n = refl
mark_law rule.MoreAtoms (mark.Integer integer.One) n = refl
mark_law rule.Facts (mark.Fixed fixed.Mp) n = refl
mark_law rule.Facts (mark.Integer integer.One) n = refl
mark_law rule.Atom (mark.Fixed fixed.Mp) n = refl
mark_law rule.Atom (mark.Integer integer.One) n = refl
mark_law rule.AfterWord (mark.Fixed fixed.Mp) n = refl
mark_law rule.AfterWord (mark.Integer integer.One) n = refl
mark_law rule.AfterNegated (mark.Fixed fixed.Mp) n = refl
mark_law rule.AfterNegated (mark.Integer integer.One) n = refl
mark_law (rule.Does does) m n = refl
mark_law _ _ _ = refl

token_law : (p : TextPart.TextPart) (t : Token) →
    IsTrue (token_test proof_texts proof_text_plan p t)
token_law (Taken t) token = refl
token_law (Row r) token = mark_law r token.mark token.number

pub proof_text_law : IsPredictive proof_texts proof_text_plan
proof_text_law = record { at_part = part_law; at_token = token_law }
