-- Where a script is refused: at its first step with a check that fails, and for the first such
-- check. The header is step 0; the others are numbered from 1, each before those that it leads to.
use Rattle.std.specs.Prelude.{ℕ, ◌+◌, ◌-◌, ◌<◌, ◌≤◌, ◌≡◌, ◌⊎◌, Bool, true, false, List, [], ◌∷◌, ◌++◌, map, length, slice_get, Option, Some, zip}
use Rattle.std.specs.List.{AllByRecursion}
use Rattle.text_core.specs.Names.{Text}
use Rattle.text_core.specs.Lists.{SomeOf, IsAmong}
use Rattle.logic_core.specs.declared.form.Atom.{Atom}
use Rattle.logic_core.specs.declared.form.Form.{Form}
use Rattle.vernacular_tree.specs.Contexts.{parameters, atom_at, Stands as HasFact}
use Rattle.vernacular_tree.specs.Rules.{IsInstance}
use Rattle.vernacular_tree.specs.declared.context.Line.TheVariants.{Cases, Falsum}
use Rattle.vernacular_tree.specs.declared.tree.Mp.{Mp}
use Rattle.coherent_form.specs.Tasks.{CitedTask, proof_task}
use Rattle.proof_text.specs.declared.body.NamedAtom.{NamedAtom}
use Rattle.proof_text.specs.declared.body.Binding.{Binding}
use Rattle.proof_text.specs.declared.body.ArgsText as ArgsText
use Rattle.proof_text.specs.declared.body.ArgsText.TheVariants.{Listed, Named}
use Rattle.proof_text.specs.declared.body.MpText.{MpText}
use Rattle.proof_text.specs.declared.body.EndText.{EndText, As, Efq, Gap, Cs', Row_of-CaseText, end_of-CaseText, more_of-CaseText}
use Rattle.proof_text.specs.Sizes.{end_size}
use Rattle.proof_text.specs.Values.{Written}
use Rattle.proof_checker.specs.declared.refusal.Rule as Rule
use Rattle.proof_checker.specs.declared.refusal.Rule.TheVariants as rule
use Rattle.proof_checker.specs.declared.refusal.Why.{Why}
use Rattle.proof_checker.specs.declared.refusal.Why.TheVariants as why
use Rattle.proof_checker.specs.declared.refusal.StepRefusal.{StepRefusal}
use Rattle.proof_checker.specs.declared.refusal.CheckRefusal as CheckRefusal
use Rattle.proof_checker.specs.declared.refusal.CheckRefusal.TheVariants as check
use Rattle.proof_text.specs.Branches.{Branch, named_facts, shown_line, start_branch, after_step, with_case, given_line, AreNew}
use Rattle.proof_text.specs.StandsFor.{Shows, NamesStand, labels_of, ArgsStand, IsFormOf, TakesStand, StepStands}
use Rattle.proof_checker.specs.Checks.{Nothing, Unless, AtFirst, AtRepeated}

-- the bindings of an instance
abbrev pub binds_in : ArgsText.ArgsText → List Binding
binds_in (Listed texts) = []
binds_in (Named binds) = binds

-- the names of elements in it
abbrev pub values_in : ArgsText.ArgsText → List Text
values_in (Listed texts) = texts
values_in (Named binds) = map (λ bind. bind.value) binds

-- each name is that of an element
abbrev pub AreNames : List Text → List Text → Type 0
AreNames names texts = AllByRecursion (λ text. IsAmong text names) texts

-- the facts that the cases of a split show
abbrev pub shown_in : {n : _} → Row_of-CaseText n → List (Option (List NamedAtom))
shown_in end_of-CaseText = []
shown_in (more_of-CaseText shown steps end rest) = shown ∷ shown_in rest

-- a step by this rule is refused, for one of these reasons
pub record IsRefusedAt (step : ℕ) (by : Rule.Rule) (Reason : Why → Type 0)
    (refusal : StepRefusal) : Type 0 where
  pub step_is : refusal.step ≡ step
  pub rule_is : refusal.rule ≡ by
  pub why_is : Reason refusal.why

-- the checks of an instance, and those behind them
abbrev pub ArgsFault : List Text → Form → List Text → ArgsText.ArgsText
    → (Why → Type 0) → Why → Type 0
ArgsFault names form variables args rest =
    Unless (length (values_in args) ≡ form.universals) why.InstanceCount
    (AtFirst why.VariableUnknown
    (λ bind. IsAmong bind.label (labels_of variables)) (binds_in args)
    (AtRepeated why.VariableTwice (λ bind. bind.label) (binds_in args)
    (Unless (AreNames names (values_in args)) why.InstanceUnknown rest)))

module _ (task : CitedTask) where
  -- why the names that a script takes are refused
  abbrev pub TakesFault : List Text → Why → Type 0
  TakesFault take = Unless (length take ≡ task.goal.universals) why.ParameterCount
      (Unless (AreNew task.tables.constants take) why.NameTaken Nothing)

  -- why a step is refused whose premises stand at these elements
  abbrev pub WitnessFault : Branch → MpText → Form → List ℕ → Why → Type 0
  WitnessFault branch text form args =
      Unless (length text.fresh ≡ form.existentials) why.WitnessCount
      (Unless (AreNew branch.names text.fresh) why.WitnessTaken
      (Unless (Shows text.shown (shown_line task.tables (branch.names ++ text.fresh)
      (given_line branch.context form args))) why.ShownDiffers
      Nothing))

  -- why a step is refused that applies this form to these elements
  abbrev pub InstanceFault : Branch → MpText → Form → List ℕ → Why → Type 0
  InstanceFault branch text form args =
      AtFirst why.PremiseMissing (λ atom. HasFact branch.context (atom_at args atom)) form.premises
      (WitnessFault branch text form args)

  -- why a step is refused that cites this form
  abbrev pub FormFault : Branch → MpText → Form → List Text → Why → Type 0
  FormFault branch text form variables = ArgsFault branch.names form variables text.args
      (λ reason. (args : List ℕ) × ArgsStand branch.names variables text.args args
      × InstanceFault branch text form args reason)

  -- why a step is refused
  abbrev pub StepFault : Branch → MpText → Why → Type 0
  StepFault branch text = Unless (IsAmong text.cite task.citations) why.UnknownAxiom
      (λ reason. (number : ℕ) × (form : Form) × (variables : List Text)
      × IsFormOf task text.cite number form variables
      × FormFault branch text form variables reason)

  -- why an end by these atoms, a disjunct of the goal, is refused at these elements
  abbrev pub AtomsFault : Branch → List Atom → List ℕ → Why → Type 0
  AtomsFault branch atoms args = AtFirst why.AtomMissing
      (λ atom. HasFact branch.context (atom_at (parameters (proof_task task) ++ args) atom)) atoms
      Nothing

  -- why an end by a disjunct of the goal is refused
  abbrev pub AnswerFault : Branch → ℕ → List Text → Why → Type 0
  AnswerFault branch disjunct texts =
      Unless ((0 < disjunct) × (disjunct ≤ length task.goal.disjuncts)) why.NoSuchDisjunct
      (Unless (length texts ≡ task.goal.existentials) why.AnswerCount
      (Unless (AreNames branch.names texts) why.AnswerUnknown
      (λ reason. (atoms : List Atom) × (args : List ℕ)
      × (slice_get task.goal.disjuncts (disjunct - 1) ≡ Some atoms)
      × NamesStand branch.names texts args × AtomsFault branch atoms args reason)))

  -- why an end by falsehood is refused
  abbrev pub FalsumFault : Branch → Why → Type 0
  FalsumFault branch =
      Unless (SomeOf (λ line. line ≡ Falsum) branch.context.lines) why.NoFalsum Nothing

  -- a case shows its list of facts, where it shows facts
  abbrev pub CaseShows : Branch → Option (List NamedAtom) × List Atom → Type 0
  CaseShows branch case = Shows case.0 (named_facts task.tables branch.names case.1)

  -- why a split into these lists is refused, whose cases show this
  abbrev pub CasesDiffer : Branch → List (Option (List NamedAtom)) → List (List Atom) → Why → Type 0
  CasesDiffer branch shown lists = Unless (length shown ≡ length lists) why.BranchCount
      (AtFirst why.CaseDiffers (CaseShows branch) (zip shown lists) Nothing)

  -- why a split is refused, whose cases show this
  abbrev pub SplitFault : Branch → ℕ → List (Option (List NamedAtom)) → Why → Type 0
  SplitFault branch line shown = Unless (line < length branch.context.lines) why.NoSuchLine
      (Unless ((lists : List (List Atom))
      × (slice_get branch.context.lines line ≡ Some (Cases lists))) why.NotCases
      (λ reason. (lists : List (List Atom))
      × (slice_get branch.context.lines line ≡ Some (Cases lists))
      × CasesDiffer branch shown lists reason))

  -- a line of cases is split into cases that show this
  pub record IsSplit (branch : Branch) (line : ℕ) (shown : List (Option (List NamedAtom)))
      (lists : List (List Atom)) : Type 0 where
    pub line_is : slice_get branch.context.lines line ≡ Some (Cases lists)
    pub as_many : length shown ≡ length lists
    pub shows : AllByRecursion (CaseShows branch) (zip shown lists)

  -- the first fault of steps that begin with this number: it is at this step, or the step stands
  -- and is taken, and the fault is later; P tells of what is behind the steps
  abbrev pub StepsFault : List MpText → (ℕ → Branch → StepRefusal → Type 0)
      → ℕ → Branch → StepRefusal → Type 0
  StepsFault [] P number branch refusal = P number branch refusal
  StepsFault (text ∷ texts) P number branch refusal =
      IsRefusedAt number rule.Mp (StepFault branch text) refusal
      ⊎ ((step : Mp) × (stands : StepStands task branch text step)
      × IsInstance branch.context stands.form step.args
      × StepsFault texts P (number + 1)
      (after_step branch stands.form step.args text.fresh) refusal)

-- gaps tells whether a gap may stand
module _ (task : CitedTask) (gaps : Bool) where
  abbrev mutual
    -- the first fault of an end: it is at the end, or in a case of a split
    pub EndFault : EndText → ℕ → Branch → StepRefusal → Type 0
    EndFault (As disjunct texts) number branch refusal =
        IsRefusedAt number rule.As (AnswerFault task branch disjunct texts) refusal
    EndFault Efq number branch refusal =
        IsRefusedAt number rule.Efq (FalsumFault task branch) refusal
    EndFault (Gap within) number branch refusal =
        IsRefusedAt number rule.Gap (Unless (gaps ≡ true) why.GapOpen Nothing) refusal
    EndFault (Cs' line _ cases) number branch refusal =
        IsRefusedAt number rule.Cs (SplitFault task branch line (shown_in cases)) refusal
        ⊎ ((lists : List (List Atom)) × IsSplit task branch line (shown_in cases) lists
        × CasesFault cases lists (number + 1) branch refusal)

    -- the first fault of cases: it is in the first case, or there is none in it, and the fault is
    -- in a later one
    pub CasesFault : {n : _} → Row_of-CaseText n → List (List Atom)
        → ℕ → Branch → StepRefusal → Type 0
    CasesFault end_of-CaseText lists number branch refusal = ⊥
    CasesFault (more_of-CaseText shown steps end rest) [] number branch refusal = ⊥
    CasesFault (more_of-CaseText shown steps end rest) (facts ∷ more) number branch refusal =
        StepsFault task steps (EndFault end) number (with_case branch facts) refusal
        ⊎ (((other : StepRefusal)
        → StepsFault task steps (EndFault end) number (with_case branch facts) other → ⊥)
        × CasesFault rest more (number + length steps + end_size end) branch refusal)

  -- the first fault of a script
  abbrev pub FirstFault : Written → StepRefusal → Type 0
  FirstFault script refusal = IsRefusedAt 0 rule.Take (TakesFault task script.take) refusal
      ⊎ (TakesStand task script.take
      × StepsFault task script.body.steps (EndFault script.body.end)
      1 (start_branch task script.take) refusal)

-- the first fault of a script, in which no gap may stand
abbrev pub IsFault : CitedTask → Written → StepRefusal → Type 0
IsFault task = FirstFault task false

-- the first fault of a script whose gaps may stand
abbrev pub IsOpenFault : CitedTask → Written → StepRefusal → Type 0
IsOpenFault task = FirstFault task true

-- a refusal tells such a fault
abbrev pub Tells : (StepRefusal → Type 0) → CheckRefusal.CheckRefusal → Type 0
Tells Fault (check.Step refusal) = Fault refusal
Tells Fault check.Memory = ⊥

-- a refusal of a script tells its first fault
abbrev pub IsRefusalOf : CitedTask → Written → CheckRefusal.CheckRefusal → Type 0
IsRefusalOf task script = Tells (IsFault task script)

-- a refusal of a script whose gaps may stand
abbrev pub IsOpenRefusalOf : CitedTask → Written → CheckRefusal.CheckRefusal → Type 0
IsOpenRefusalOf task script = Tells (IsOpenFault task script)
