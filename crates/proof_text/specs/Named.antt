-- Scripts whose names are texts of names and whose numbers are below 2 ^ 32, as those of all values
-- in code are.
use Rattle.std.specs.Prelude.{◌≤◌, List, Option, Some, None}
use Rattle.std.specs.List.{AllByRecursion}
use Rattle.text_core.specs.Names.{Text}
use Rattle.text_core.specs.NameTexts.{IsNameText}
use Rattle.coherent_form.specs.declared.citation.Citation as Citation
use Rattle.coherent_form.specs.declared.citation.Citation.TheVariants.{Axiom, Sub, No, Or}
use Rattle.coherent_form.specs.declared.citation.Symbol as Symbol
use Rattle.coherent_form.specs.declared.citation.Symbol.TheVariants.{Equality, Named as NamedSymbol}
use Rattle.proof_text.specs.declared.body.NamedAtom.{NamedAtom}
use Rattle.proof_text.specs.declared.body.Shown as Shown
use Rattle.proof_text.specs.declared.body.Shown.TheVariants.{Falsum, Facts, Cases}
use Rattle.proof_text.specs.declared.body.Binding.{Binding}
use Rattle.proof_text.specs.declared.body.ArgsText as ArgsText
use Rattle.proof_text.specs.declared.body.ArgsText.TheVariants.{Listed, Named}
use Rattle.proof_text.specs.declared.body.MpText.{MpText}
use Rattle.proof_text.specs.declared.body.CaseText.{CaseText}
use Rattle.proof_text.specs.declared.body.BodyText.{BodyText}
use Rattle.proof_text.specs.declared.body.EndText.{EndText, As, Efq, Gap, Cs', Row_of-CaseText, end_of-CaseText, more_of-CaseText}
use Rattle.proof_text.specs.Marks.{most_number}
use Rattle.proof_text.specs.Values.{Written}

abbrev pub NamesAreNamed : List Text → Type 0
NamesAreNamed names = AllByRecursion IsNameText names

-- a predicate has a name; equality has none
abbrev pub PredicateIsNamed : Option Text → Type 0
PredicateIsNamed None = Unit {0}
PredicateIsNamed (Some p) = IsNameText p

abbrev pub AtomIsNamed : NamedAtom → Type 0
AtomIsNamed atom = PredicateIsNamed atom.predicate × NamesAreNamed atom.args

abbrev pub AtomsAreNamed : List NamedAtom → Type 0
AtomsAreNamed atoms = AllByRecursion AtomIsNamed atoms

abbrev pub LineIsNamed : Shown.Shown → Type 0
LineIsNamed Falsum = Unit {0}
LineIsNamed (Facts atoms) = AtomsAreNamed atoms
LineIsNamed (Cases parts) = AllByRecursion AtomsAreNamed parts

abbrev pub SymbolIsNamed : Symbol.Symbol → Type 0
SymbolIsNamed Equality = Unit {0}
SymbolIsNamed (NamedSymbol name arity) = IsNameText name × (arity ≤ most_number)

abbrev pub CiteIsNamed : Citation.Citation → Type 0
CiteIsNamed (Axiom name rank) = IsNameText name × (rank ≤ most_number)
CiteIsNamed (Sub positive symbol place) = SymbolIsNamed symbol × (place ≤ most_number)
CiteIsNamed (No symbol) = SymbolIsNamed symbol
CiteIsNamed (Or symbol) = SymbolIsNamed symbol
CiteIsNamed _ = Unit {0}

abbrev pub BindIsNamed : Binding → Type 0
BindIsNamed bind = (bind.label.rank ≤ most_number) × IsNameText bind.value

abbrev pub ArgsAreNamed : ArgsText.ArgsText → Type 0
ArgsAreNamed (Listed names) = NamesAreNamed names
ArgsAreNamed (Named binds) = AllByRecursion BindIsNamed binds

-- what is shown
abbrev pub ShownIsNamed : {X : Type 0} → (X → Type 0) → Option X → Type 0
ShownIsNamed P None = Unit {0}
ShownIsNamed P (Some x) = P x

abbrev pub StepIsNamed : MpText → Type 0
StepIsNamed step = CiteIsNamed step.cite × ArgsAreNamed step.args × NamesAreNamed step.fresh ×
    ShownIsNamed LineIsNamed step.shown

abbrev mutual
  pub EndIsNamed : EndText → Type 0
  EndIsNamed (As disjunct args) = (disjunct ≤ most_number) × NamesAreNamed args
  EndIsNamed Efq = Unit {0}
  EndIsNamed (Gap within) = within ≤ most_number
  EndIsNamed (Cs' line _ cases) = (line ≤ most_number) × CasesAreNamed cases

  pub CasesAreNamed : {n : _} → Row_of-CaseText n → Type 0
  CasesAreNamed end_of-CaseText = Unit {0}
  CasesAreNamed (more_of-CaseText facts steps end rest) =
      ShownIsNamed AtomsAreNamed facts × AllByRecursion StepIsNamed steps × EndIsNamed end ×
      CasesAreNamed rest

abbrev pub BodyIsNamed : BodyText → Type 0
BodyIsNamed body = AllByRecursion StepIsNamed body.steps × EndIsNamed body.end

abbrev pub CaseIsNamed : CaseText → Type 0
CaseIsNamed case = ShownIsNamed AtomsAreNamed case.shown × BodyIsNamed case.body

abbrev pub ScriptIsNamed : Written → Type 0
ScriptIsNamed script = NamesAreNamed script.take × BodyIsNamed script.body
