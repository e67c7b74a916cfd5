-- What private functions of the checker answer.
use Rattle.std.specs.Prelude.{ℕ, ◌+◌, ◌≡◌, ◌⊎◌, Bool, List, [], ◌∷◌, ◌++◌, map, slice_get, Some, length}
use Rattle.std.specs.List.{sum_by}
use Rattle.text_core.specs.Names.{Text}
use Rattle.logic_core.specs.declared.form.Atom.{Atom}
use Rattle.logic_core.specs.declared.form.Form.{Form}
use Rattle.vernacular_tree.specs.Preorders.{mp_node}
use Rattle.vernacular_tree.specs.Rules.{IsInstance}
use Rattle.vernacular_tree.specs.declared.tree.Mp.{Mp}
use Rattle.vernacular_tree.specs.declared.tree.Node.{Node}
use Rattle.coherent_form.specs.Tasks.{CitedTask}
use Rattle.proof_text.specs.declared.body.MpText.{MpText}
use Rattle.proof_text.specs.declared.body.CaseText.{CaseText}
use Rattle.proof_text.specs.declared.body.BodyText.{BodyText}
use Rattle.proof_text.specs.Sizes.{size}
use Rattle.proof_checker.specs.declared.halt.Halt as Halt
use Rattle.proof_checker.specs.declared.halt.Halt.TheVariants as halt
use Rattle.proof_checker.specs.declared.refusal.CheckRefusal as CheckRefusal
use Rattle.proof_checker.specs.declared.refusal.CheckRefusal.TheVariants as check
use Rattle.proof_checker.specs.declared.refusal.StepRefusal.{StepRefusal}
use Rattle.proof_checker.specs.declared.refusal.Rule.{Rule}
use Rattle.proof_checker.specs.declared.refusal.Why.{Why}
use Rattle.proof_text.specs.StandsFor.{Shows, StepStands}
use Rattle.proof_text.specs.Branches.{Branch, AreNew, shown_line, given_line, after_step, with_case}
use Rattle.proof_checker.specs.Faults.{StepsFault, EndFault}
use Rattle.proof_checker.specs.Kept.{Kept, IsKept, Grows, branch_of}
use Rattle.proof_checker.specs.Opened.{BodyOpens}
use Rattle.proof_checker.specs.declared.open_node.OpenNode.{OpenNode}
use Rattle.proof_checker.specs.declared.open_node.OpenNode.TheVariants as open_node

-- it stopped for one of these reasons, or for want of memory
abbrev pub HaltsBy : (Why → Type 0) → Halt.Halt → Type 0
HaltsBy Reason (halt.Fault why) = Reason why
HaltsBy Reason halt.Memory = Unit {0}

-- these are the names of a form's universal variables
pub record AreItsVariables (task : CitedTask) (number : ℕ) (form : Form) (variables : List Text)
    : Type 0 where
  pub form_is : slice_get task.forms number ≡ Some form
  pub are : slice_get task.variables number ≡ Some variables
  pub as_many : length variables ≡ form.universals

-- the elements are named, and the line is given
pub record IsTaken (task : CitedTask) (text : MpText) (form : Form) (args : List ℕ)
    (old new : Kept) : Type 0 where
  pub as_many : length text.fresh ≡ form.existentials
  pub fresh : AreNew old.names text.fresh
  pub shown : Shows text.shown (shown_line task.tables (old.names ++ text.fresh)
      (given_line (branch_of old).context form args))
  pub branch_is : branch_of new ≡ after_step (branch_of old) form args text.fresh
  pub kept : IsKept task new
  pub grows : Grows old new

-- a step stands and is taken
pub record IsStep (task : CitedTask) (text : MpText) (step : Mp) (old new : Kept) : Type 0 where
  pub stands : StepStands task (branch_of old) text step
  pub instance : IsInstance (branch_of old).context stands.form step.args
  pub branch_is : branch_of new
      ≡ after_step (branch_of old) stands.form step.args text.fresh
  pub kept : IsKept task new
  pub grows : Grows old new

-- a refusal is one of these, or want of memory
abbrev pub RefusesBy : (StepRefusal → Type 0) → CheckRefusal.CheckRefusal → Type 0
RefusesBy P (check.Step refusal) = P refusal
RefusesBy P check.Memory = Unit {0}

-- how a step is refused that stopped
abbrev pub refusal_of : ℕ → Rule → Halt.Halt → CheckRefusal.CheckRefusal
refusal_of step rule (halt.Fault why) =
    check.Step (record { step = step; rule = rule; why = why })
refusal_of step rule halt.Memory = check.Memory

-- a step as a node
abbrev pub step_node : Mp → OpenNode
step_node step = open_node.Rule (mp_node step)

module _ (task : CitedTask) where
  -- steps stand and are taken in order, and lead from a branch to another one
  abbrev pub Runs : List MpText → List Mp → Branch → Branch → Type 0
  Runs [] [] branch after = branch ≡ after
  Runs [] (step ∷ steps) branch after = ⊥
  Runs (text ∷ texts) [] branch after = ⊥
  Runs (text ∷ texts) (step ∷ steps) branch after = (stands : StepStands task branch text step)
      × IsInstance branch.context stands.form step.args
      × Runs texts steps (after_step branch stands.form step.args text.fresh) after

  -- steps stand and are taken, and are told as nodes
  pub record StepsRun (texts : List MpText) (old new : Kept) (before after : List OpenNode)
      : Type 0 where
    pub steps : List Mp
    pub run : Runs texts steps (branch_of old) (branch_of new)
    pub nodes_are : after ≡ before ++ map step_node steps
    pub kept : IsKept task new
    pub grows : Grows old new

module _ (task : CitedTask) (gaps : Bool) where
  -- the first fault of a body of a script
  abbrev pub BodyFault : BodyText → ℕ → Branch → StepRefusal → Type 0
  BodyFault text number branch refusal =
      StepsFault task text.steps (EndFault task gaps text.end) number branch refusal

  -- the nodes of each case in order
  abbrev pub CasesAre : List CaseText → List (List Atom) → List OpenNode → Branch → Type 0
  CasesAre [] lists nodes branch = nodes ≡ []
  CasesAre (case ∷ cases) [] nodes branch = ⊥
  CasesAre (case ∷ cases) (facts ∷ lists) nodes branch =
      (first : List OpenNode) × (others : List OpenNode) × (nodes ≡ first ++ others)
      × BodyOpens task gaps case.body first (with_case branch facts)
      × CasesAre cases lists others branch

  -- the first fault of cases
  abbrev pub CasesFail : List CaseText → List (List Atom) → ℕ → Branch → StepRefusal → Type 0
  CasesFail [] lists number branch refusal = ⊥
  CasesFail (case ∷ cases) [] number branch refusal = ⊥
  CasesFail (case ∷ cases) (facts ∷ lists) number branch refusal =
      BodyFault case.body number (with_case branch facts) refusal
      ⊎ (((other : StepRefusal) → BodyFault case.body number (with_case branch facts) other → ⊥)
      × CasesFail cases lists (number + size case.body) branch refusal)

-- nodes were added behind others, and P holds of them
pub record Adds (P : List OpenNode → Type 0) (old new : List OpenNode) : Type 0 where
  pub more : List OpenNode
  pub are : new ≡ old ++ more
  pub hold : P more

-- the rule applications among nodes
abbrev pub rules_in : List OpenNode → List Node
rules_in [] = []
rules_in (open_node.Rule rule ∷ nodes) = rule ∷ rules_in nodes
rules_in (open_node.Gap within ∷ nodes) = rules_in nodes

-- the rule applications of cases
abbrev pub sizes_of : List CaseText → ℕ
sizes_of cases = sum_by (λ (case : CaseText). size case.body) cases
