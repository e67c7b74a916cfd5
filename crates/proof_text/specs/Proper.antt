-- What holds of each script: what its version may have, and its bounds.
use Rattle.std.specs.Prelude.{ℕ, ◌≡◌, ◌≤◌, true, List, [], ◌∷◌, length, Option, Some, None}
use Rattle.std.specs.List.{AllByRecursion}
use Rattle.text_core.specs.Names.{Text}
use Rattle.text_core.specs.NameTexts.{is_upper_word}
use Rattle.text_core.specs.declared.limits.TheConstants.{MOST_APPLICATIONS, MOST_SPLITS}
use Rattle.proof_text.specs.declared.limits.TheConstants.{MOST_WITHIN}
use Rattle.proof_text.specs.declared.body.NamedAtom.{NamedAtom}
use Rattle.proof_text.specs.declared.body.Shown as Shown
use Rattle.proof_text.specs.declared.body.Shown.TheVariants.{Falsum, Facts, Cases}
use Rattle.proof_text.specs.declared.body.Binding.{Binding}
use Rattle.proof_text.specs.declared.body.ArgsText as ArgsText
use Rattle.proof_text.specs.declared.body.ArgsText.TheVariants.{Listed, Named}
use Rattle.proof_text.specs.declared.body.MpText.{MpText}
use Rattle.proof_text.specs.declared.body.BodyText.{BodyText}
use Rattle.proof_text.specs.declared.body.EndText.{EndText, As, Efq, Gap, Cs', Row_of-CaseText, end_of-CaseText, more_of-CaseText}
use Rattle.proof_text.specs.declared.part.Edition as Edition
use Rattle.proof_text.specs.declared.part.Edition.TheVariants.{First, Second}
use Rattle.proof_text.specs.Sizes.{size, nesting}
use Rattle.proof_text.specs.Values.{Written}

-- the number of a version
abbrev pub version_number : Edition.Edition → ℕ
version_number First = 1
version_number Second = 2

-- equality has two arguments
abbrev pub HasArguments : Option Text → List Text → Type 0
HasArguments None args = length args ≡ 2
HasArguments (Some predicate) args = Unit {0}

abbrev pub AtomIsProper : NamedAtom → Type 0
AtomIsProper atom = HasArguments atom.predicate atom.args

abbrev pub AtomsAreProper : List NamedAtom → Type 0
AtomsAreProper atoms = AllByRecursion AtomIsProper atoms

-- a list has two members or more
abbrev pub HasTwo : {X : Type 0} → List X → Type 0
HasTwo [] = ⊥
HasTwo (x ∷ []) = ⊥
HasTwo (x ∷ y ∷ ys) = Unit {0}

-- a line of cases has two or more
abbrev pub LineIsProper : Shown.Shown → Type 0
LineIsProper Falsum = Unit {0}
LineIsProper (Facts atoms) = AtomsAreProper atoms
LineIsProper (Cases parts) = HasTwo parts × AllByRecursion AtomsAreProper parts

-- what the second version alone may leave out
abbrev pub IsShownIn : {X : Type 0} → Edition.Edition → (X → Type 0) → Option X → Type 0
IsShownIn e P (Some x) = P x
IsShownIn First P None = ⊥
IsShownIn Second P None = Unit {0}

-- a label is an upper word
abbrev pub BindIsProper : Binding → Type 0
BindIsProper bind = is_upper_word bind.label.name ≡ true

-- the first version lists names, and the second gives values by labels
abbrev pub ArgsAreProper : Edition.Edition → ArgsText.ArgsText → Type 0
ArgsAreProper First (Listed names) = Unit {0}
ArgsAreProper First (Named binds) = ⊥
ArgsAreProper Second (Listed names) = ⊥
ArgsAreProper Second (Named binds) = AllByRecursion BindIsProper binds

abbrev pub StepIsProper : Edition.Edition → MpText → Type 0
StepIsProper e step = ArgsAreProper e step.args × IsShownIn e LineIsProper step.shown

-- a gap is in the second version alone
abbrev pub GapIsProper : Edition.Edition → ℕ → Type 0
GapIsProper First within = ⊥
GapIsProper Second within = (1 ≤ within) × (within ≤ MOST_WITHIN)

-- a split has a case
abbrev pub HasCase : {n : _} → Row_of-CaseText n → Type 0
HasCase end_of-CaseText = ⊥
HasCase (more_of-CaseText facts steps end rest) = Unit {0}

abbrev mutual
  -- what is in the cases of a split is proper too
  pub EndIsProper : Edition.Edition → EndText → Type 0
  EndIsProper e (As disjunct args) = Unit {0}
  EndIsProper e Efq = Unit {0}
  EndIsProper e (Gap within) = GapIsProper e within
  EndIsProper e (Cs' line _ cases) = HasCase cases × CasesAreProper e cases

  pub CasesAreProper : {n : _} → Edition.Edition → Row_of-CaseText n → Type 0
  CasesAreProper e end_of-CaseText = Unit {0}
  CasesAreProper e (more_of-CaseText facts steps end rest) =
      IsShownIn e AtomsAreProper facts × AllByRecursion (StepIsProper e) steps ×
      EndIsProper e end × CasesAreProper e rest

abbrev pub BodyIsProper : Edition.Edition → BodyText → Type 0
BodyIsProper e body = AllByRecursion (StepIsProper e) body.steps × EndIsProper e body.end

-- the body has at most so many rule applications, and splits around any of them
pub record IsBounded (body : BodyText) : Type 0 where
  pub small : size body ≤ MOST_APPLICATIONS
  pub shallow : nesting body ≤ MOST_SPLITS

-- what holds of each script
pub record IsProper (script : Written) : Type 0 where
  pub edition : Edition.Edition
  pub version : script.version ≡ version_number edition
  pub body : BodyIsProper edition script.body
  pub bounded : IsBounded script.body
