-- What tokens spell is a proper body but for its bounds: a line for each row.
use Rattle.std.specs.Prelude.{ℕ, List, [], ◌∷◌, IsTrue}
use Rattle.std.specs.List.{AllByRecursion}
use Rattle.std.proofs.Common.{refl}
use Rattle.std.proofs.lemmas.Bool.{false≢true}
use Rattle.text_core.specs.Names.{Text}
use Rattle.text_core.proofs.Laws.{each_append}
use Rattle.token_grammar.specs.SpelledAs.{SpelledAs}
use Rattle.proof_text.specs.declared.body.NamedAtom.{NamedAtom}
use Rattle.proof_text.specs.declared.body.BodyText.{BodyText}
use Rattle.proof_text.specs.declared.part.Edition.TheVariants.{First}
use Rattle.proof_text.specs.Proper.{AtomIsProper, AtomsAreProper, LineIsProper, StepIsProper, EndIsProper, BodyIsProper}
use Rattle.proof_text.proofs.Laws.{CaseIsProper, Cs_proper, RowsHold, value_holds}
use Rattle.isar_text.specs.declared.mark.Token.{Token}
use Rattle.isar_text.specs.declared.part.IsarPart as IsarPart
use Rattle.isar_text.specs.declared.part.IsarPart.TheVariants.{Taken, Row}
use Rattle.isar_text.specs.declared.part.Rule as Rule
use Rattle.isar_text.specs.declared.part.Rule.TheVariants as rule
use Rattle.isar_text.specs.Grammar.{isar_rests, takes, alternatives}
use Rattle.isar_text.specs.Scripts.{seen_in}
use Rattle.isar_text.specs.Values.{Lexed, RuleValue, Value, of_token, makers, name_in, number_in, isar_making}

-- what holds of the value of each rule
abbrev RuleHolds : (r : Rule.Rule) → RuleValue r → Type 0
RuleHolds rule.Rest body = BodyIsProper First body
RuleHolds (rule.Body n) body = BodyIsProper First body
RuleHolds (rule.Step n) step = StepIsProper First step
RuleHolds (rule.Given n) step = (fresh : List Text) → StepIsProper First (step fresh)
RuleHolds rule.QuotedLine line = LineIsProper line
RuleHolds (rule.Finish n) end = EndIsProper First end
RuleHolds (rule.AfterThesis n) end = EndIsProper First end
RuleHolds (rule.AfterLine n) end = (line : ℕ) → EndIsProper First (end line)
RuleHolds rule.Reason end = EndIsProper First end
RuleHolds rule.Inside end = EndIsProper First end
RuleHolds (rule.Case n) case = CaseIsProper First case
RuleHolds (rule.CaseHead n) facts = AtomsAreProper facts
RuleHolds rule.QuotedFacts facts = AtomsAreProper facts
RuleHolds (rule.MoreCases n) cases = AllByRecursion (CaseIsProper First) cases
RuleHolds rule.Line line = LineIsProper line
RuleHolds rule.AfterTrue line = (first : List NamedAtom) → AtomsAreProper first → LineIsProper (line first)
RuleHolds rule.AfterAtom line = (first : List NamedAtom) → AtomsAreProper first → LineIsProper (line first)
RuleHolds rule.AfterGroup line = (first : List NamedAtom) → AtomsAreProper first → LineIsProper (line first)
RuleHolds rule.Bars parts = AllByRecursion AtomsAreProper parts
RuleHolds rule.LinePart atoms = AtomsAreProper atoms
RuleHolds rule.Group atoms = AtomsAreProper atoms
RuleHolds rule.MoreAtoms atoms = AtomsAreProper atoms
RuleHolds rule.Facts atoms = AtomsAreProper atoms
RuleHolds rule.Atom atom = AtomIsProper atom
RuleHolds rule.AfterName atom = (word : Text) → AtomIsProper (atom word)
RuleHolds _ value = Unit {0}

-- what holds of the value of each part
abbrev Holds : (p : IsarPart.IsarPart) → Value p → Type 0
Holds (Taken by) t = Unit {0}
Holds (Row r) value = RuleHolds r value

module _ (lexed : Lexed) where
  -- it holds of what each row makes
  proper_rows : (p : IsarPart.IsarPart) → RowsHold Value Holds p (alternatives p) (makers lexed p)
  proper_rows (Taken by) = tt
  proper_rows (Row rule.Rest) = ((λ values each. each.1.0), tt)
  proper_rows (Row (rule.Body n)) = ((λ values each. ((each.0, each.1.0.0), each.1.0.1)), ((λ values each. (tt, each.0)), tt))
  proper_rows (Row (rule.Step n)) = ((λ values each. each.1.0 []), ((λ values each. each.1.1.1.1.0 (name_in lexed.tokens values.1.0 ∷ values.1.1.0)), tt))
  proper_rows (Row (rule.Given n)) = ((λ values each. λ fresh. (tt, each.1.1.0)), tt)
  proper_rows (Row rule.QuotedLine) = ((λ values each. each.1.0), tt)
  proper_rows (Row (rule.Using n)) = ((λ values each. tt), tt)
  proper_rows (Row (rule.MoreLines n)) = ((λ values each. tt), ((λ values each. tt), tt))
  proper_rows (Row rule.Instance) = ((λ values each. tt), tt)
  proper_rows (Row rule.StepEnd) = ((λ values each. tt), tt)
  proper_rows (Row (rule.Finish n)) = ((λ values each. each.1.1.0), tt)
  proper_rows (Row (rule.AfterThesis n)) = ((λ values each. each.1.1.0 (number_in values.1.0)), ((λ values each. each.0), tt))
  proper_rows (Row (rule.AfterLine n)) = ((λ values each. λ line. Cs_proper First line values.1.1.0 values.1.1.1.0 (each.1.1.0, each.1.1.1.0)), ((λ values each. λ line. each.1.0), tt))
  proper_rows (Row rule.ByCases) = ((λ values each. tt), tt)
  proper_rows (Row rule.Reason) = ((λ values each. each.1.0), tt)
  proper_rows (Row rule.Inside) = ((λ values each. tt), ((λ values each. tt), tt))
  proper_rows (Row rule.ByBlast) = ((λ values each. tt), tt)
  proper_rows (Row (rule.Case n)) = ((λ values each. (each.1.0, each.1.1.0)), tt)
  proper_rows (Row (rule.CaseHead n)) = ((λ values each. each.1.1.0), tt)
  proper_rows (Row rule.QuotedFacts) = ((λ values each. each.1.0), tt)
  proper_rows (Row (rule.MoreCases n)) = ((λ values each. tt), ((λ values each. (each.1.0, each.1.1.0)), tt))
  proper_rows (Row rule.Names) = ((λ values each. tt), tt)
  proper_rows (Row rule.ListedNames) = ((λ values each. tt), ((λ values each. tt), tt))
  proper_rows (Row rule.MoreNames) = ((λ values each. tt), ((λ values each. tt), tt))
  proper_rows (Row rule.MoreWords) = ((λ values each. tt), ((λ values each. tt), tt))
  proper_rows (Row rule.Line) = ((λ values each. tt), ((λ values each. each.1.0 [] tt), ((λ values each. each.1.1.0 (values.1.0 ∷ []) (each.1.0, tt)), ((λ values each. each.1.0 values.0 each.0), tt))))
  proper_rows (Row rule.AfterTrue) = ((λ values each. λ first proper. proper), ((λ values each. λ first proper. (tt, (proper, (each.1.0, each.1.1.0)))), tt))
  proper_rows (Row rule.AfterAtom) = ((λ values each. λ first proper. proper), ((λ values each. λ first proper. each_append AtomIsProper first (values.1.0 ∷ values.1.1.0) proper (each.1.0, each.1.1.0)), ((λ values each. λ first proper. (tt, (proper, (each.1.0, each.1.1.0)))), tt)))
  proper_rows (Row rule.AfterGroup) = ((λ values each. λ first proper. (tt, (proper, (each.1.0, each.1.1.0)))), tt)
  proper_rows (Row rule.Bars) = ((λ values each. tt), ((λ values each. (each.1.0, each.1.1.0)), tt))
  proper_rows (Row rule.LinePart) = ((λ values each. tt), ((λ values each. (each.1.0, tt)), ((λ values each. each.0), tt)))
  proper_rows (Row rule.Group) = ((λ values each. (each.1.0, (each.1.1.1.0, each.1.1.1.1.0))), tt)
  proper_rows (Row rule.MoreAtoms) = ((λ values each. tt), ((λ values each. (each.1.0, each.1.1.0)), tt))
  proper_rows (Row rule.Facts) = ((λ values each. tt), ((λ values each. (each.1.0, each.1.1.0)), tt))
  proper_rows (Row rule.Atom) = ((λ values each. each.1.0 (name_in lexed.tokens values.0)), ((λ values each. tt), tt))
  proper_rows (Row rule.AfterName) = ((λ values each. λ word. tt), ((λ values each. λ word. tt), ((λ values each. λ word. refl), ((λ values each. λ word. refl), tt))))
  proper_rows (Row rule.AfterNegated) = ((λ values each. tt), ((λ values each. tt), tt))
  proper_rows (Row (rule.Acts does)) = ((λ values each. tt), tt)
  proper_rows (Row (rule.Does does)) = ((λ values each. tt), tt)

  -- it holds of the value of each token
  proper_tokens : (p : IsarPart.IsarPart) (t : Token) (taken : IsTrue (takes p t)) → Unit {0} → Holds p (of_token p t taken)
  proper_tokens (Taken by) t taken h = tt
  proper_tokens (Row r) t taken h = absurd (false≢true taken)

-- nothing has to hold of tokens
each_of : (ts : List Token) → AllByRecursion (λ t. Unit {0}) ts
each_of [] = tt
each_of (t ∷ ts) = (tt, each_of ts)

-- what tokens spell is proper, but for its bounds
pub spelled_proper : (lexed : Lexed) (body : BodyText) →
    SpelledAs isar_rests Value (isar_making lexed) (Row rule.Rest) body (seen_in lexed) → BodyIsProper First body
spelled_proper lexed body spelled =
    value_holds isar_rests Value of_token (makers lexed) Holds (λ t. Unit {0}) (proper_tokens lexed) (proper_rows lexed) spelled
    (each_of (seen_in lexed))
