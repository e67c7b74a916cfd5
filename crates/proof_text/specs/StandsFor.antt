-- Which body a script stands for.
use Rattle.std.specs.Prelude.{ℕ, ◌≡◌, List, [], ◌∷◌, ◌++◌, map, length, slice_get, Option, Some, None}
use Rattle.text_core.specs.Names.{Text}
use Rattle.text_core.specs.Lists.{SomeOf}
use Rattle.logic_core.specs.declared.form.Atom.{Atom}
use Rattle.logic_core.specs.declared.form.Form.{Form}
use Rattle.vernacular_tree.specs.Contexts.{counted}
use Rattle.vernacular_tree.specs.declared.context.Line.TheVariants.{Cases}
use Rattle.vernacular_tree.specs.declared.tree.Mp.{Mp}
use Rattle.vernacular_tree.specs.declared.tree.Body.{Body}
use Rattle.vernacular_tree.specs.declared.tree.End as tree
use Rattle.coherent_form.specs.Labels.{label_of}
use Rattle.coherent_form.specs.Tasks.{CitedTask}
use Rattle.coherent_form.specs.declared.citation.Citation.{Citation}
use Rattle.coherent_form.specs.declared.label.Label.{Label}
use Rattle.proof_text.specs.declared.body.Binding.{Binding}
use Rattle.proof_text.specs.declared.body.ArgsText as ArgsText
use Rattle.proof_text.specs.declared.body.ArgsText.TheVariants.{Listed, Named}
use Rattle.proof_text.specs.declared.body.MpText.{MpText}
use Rattle.proof_text.specs.declared.body.EndText.{EndText, As, Efq, Gap, Cs', Row_of-CaseText, end_of-CaseText, more_of-CaseText}
use Rattle.proof_text.specs.Values.{Written}
use Rattle.proof_text.specs.Branches.{Branch, element_of, named_facts, shown_line, start_branch, after_step, with_case, given_line, AreNew}

-- what is shown is this, where something is shown
abbrev pub Shows : {X : Type 0} → Option X → X → Type 0
Shows None x = Unit {0}
Shows (Some shown) x = shown ≡ x

-- names stand for elements, one for each in order
abbrev pub NamesStand : List Text → List Text → List ℕ → Type 0
NamesStand names texts elements = map (element_of names) texts ≡ map Some elements

-- a binding gives the variable with this label this element
pub record Gives (names : List Text) (label : Label) (element : ℕ) (bind : Binding) : Type 0 where
  pub label_is : bind.label ≡ label
  pub value : element_of names bind.value ≡ Some element

-- some binding gives each label its element, in order
abbrev pub EachGiven : List Text → List Binding → List Label → List ℕ → Type 0
EachGiven names binds [] [] = Unit {0}
EachGiven names binds [] (element ∷ elements) = ⊥
EachGiven names binds (label ∷ labels) [] = ⊥
EachGiven names binds (label ∷ labels) (element ∷ elements) =
    SomeOf (Gives names label element) binds × EachGiven names binds labels elements

-- the labels of variables with these names
abbrev pub labels_of : List Text → List Label
labels_of variables = map (label_of variables) (counted 0 (length variables))

-- what a step says of its instance stands for elements, one for each variable: a name for each in
-- order, or a binding for each and no other one
abbrev pub ArgsStand : List Text → List Text → ArgsText.ArgsText → List ℕ → Type 0
ArgsStand names variables (Listed texts) elements = NamesStand names texts elements
ArgsStand names variables (Named binds) elements =
    (length binds ≡ length variables) × EachGiven names binds (labels_of variables) elements

-- a form of the task, and what is told of it: its number, how it is cited, the names of its
-- universal variables
pub record IsFormOf (task : CitedTask) (cite : Citation) (number : ℕ) (form : Form)
    (variables : List Text) : Type 0 where
  pub cited : slice_get task.citations number ≡ Some cite
  pub form_is : slice_get task.forms number ≡ Some form
  pub variables_are : slice_get task.variables number ≡ Some variables

-- no two forms are cited in the same way
abbrev pub AreCitedOnce : CitedTask → Type 0
AreCitedOnce task = (cite : Citation) (a b : ℕ) → slice_get task.citations a ≡ Some cite
    → slice_get task.citations b ≡ Some cite → a ≡ b

-- the names that a script takes are as many as the parameters, and are new behind the constants
pub record TakesStand (task : CitedTask) (take : List Text) : Type 0 where
  pub as_many : length take ≡ task.goal.universals
  pub new : AreNew task.tables.constants take

module _ (task : CitedTask) where
  -- a step of the script stands for an application of a form
  pub record StepStands (branch : Branch) (text : MpText) (step : Mp) : Type 0 where
    pub form : Form
    pub variables : List Text
    pub is : IsFormOf task text.cite step.form form variables
    pub args : ArgsStand branch.names variables text.args step.args
    pub as_many : length text.fresh ≡ form.existentials
    pub new : AreNew branch.names text.fresh
    pub shown : Shows text.shown (shown_line task.tables (branch.names ++ text.fresh)
        (given_line branch.context form step.args))

  -- steps stand for applications in order, and P holds of the branch after them
  abbrev pub StepsStand : List MpText → List Mp → (Branch → Type 0) → Branch → Type 0
  StepsStand [] [] P branch = P branch
  StepsStand [] (step ∷ steps) P branch = ⊥
  StepsStand (text ∷ texts) [] P branch = ⊥
  StepsStand (text ∷ texts) (step ∷ steps) P branch = (stands : StepStands branch text step)
      × StepsStand texts steps P (after_step branch stands.form step.args text.fresh)

  abbrev mutual
    -- an end stands for the end of a body; a gap stands for none
    pub EndStands : EndText → tree.End → Branch → Type 0
    EndStands (As disjunct texts) end branch = (args : List ℕ)
        × (end ≡ tree.As disjunct args) × NamesStand branch.names texts args
    EndStands Efq end branch = end ≡ tree.Efq
    EndStands (Gap within) end branch = ⊥
    EndStands (Cs' line _ cases) end branch = (bodies : List Body) × (lists : List (List Atom))
        × (end ≡ tree.Cs line bodies)
        × (slice_get branch.context.lines line ≡ Some (Cases lists))
        × CasesStand cases bodies lists branch

    -- each case stands for a body behind the list of facts that it may show; there are as many of
    -- each
    pub CasesStand : {n : _} → Row_of-CaseText n
        → List Body → List (List Atom) → Branch → Type 0
    CasesStand end_of-CaseText bodies lists branch = (bodies ≡ []) × (lists ≡ [])
    CasesStand (more_of-CaseText shown steps end rest) bodies lists branch =
        (body : Body) × (others : List Body) × (facts : List Atom) × (more : List (List Atom))
        × (bodies ≡ body ∷ others) × (lists ≡ facts ∷ more)
        × Shows shown (named_facts task.tables branch.names facts)
        × StepsStand steps body.steps (EndStands end body.end) (with_case branch facts)
        × CasesStand rest others more branch

  -- a script stands for a body
  pub record Stands (script : Written) (body : Body) : Type 0 where
    pub takes : TakesStand task script.take
    pub body_is : StepsStand script.body.steps body.steps
        (EndStands script.body.end body.end) (start_branch task script.take)
