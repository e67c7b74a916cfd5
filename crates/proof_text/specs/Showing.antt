-- How the parts of a proof are written one after another, and what holds of a context inside it.
use Rattle.std.specs.Prelude.{◌≡◌, List, [], ◌∷◌, slice_get, Some}
use Rattle.std.specs.List.{AllByRecursion}
use Rattle.text_core.specs.Numbered.{Tables}
use Rattle.logic_core.specs.declared.form.Slot.{Slot}
use Rattle.logic_core.specs.declared.form.Slot.TheVariants.{Variable, Constant}
use Rattle.logic_core.specs.declared.form.Atom.{Atom}
use Rattle.logic_core.specs.declared.form.Form.{Form}
use Rattle.vernacular_tree.specs.Contexts.{with_facts}
use Rattle.vernacular_tree.specs.Rules.{IsInstance, IsProof, StepsThen}
use Rattle.vernacular_tree.specs.Witnessed.{IsContext}
use Rattle.vernacular_tree.specs.declared.context.Line as Line
use Rattle.vernacular_tree.specs.declared.context.Line.TheVariants as line
use Rattle.vernacular_tree.specs.declared.context.Context.{Context}
use Rattle.vernacular_tree.specs.declared.tree.Mp.{Mp}
use Rattle.vernacular_tree.specs.declared.tree.Body.{Body}
use Rattle.coherent_form.specs.Fitting.{AtomFits}
use Rattle.coherent_form.specs.Tasks.{CitedTask, proof_task}
use Rattle.proof_text.specs.declared.body.CaseText.{CaseText}
use Rattle.proof_text.specs.declared.part.Edition as Edition
use Rattle.proof_text.specs.Branches.{named_facts}
use Rattle.proof_text.specs.Proper.{HasTwo}
use Rattle.proof_text.specs.ScriptOf.{names_in, first_list, other_lists, body_of}

-- an argument of a line's atom is an element
abbrev pub IsElement : Slot → Type 0
IsElement (Variable i) = ⊥
IsElement (Constant e) = Unit {0}

-- an atom has elements for arguments, as many as its symbol asks for
pub record FactFits (tables : Tables) (fact : Atom) : Type 0 where
  pub fits : AtomFits tables fact
  pub elements : AllByRecursion IsElement fact.args

-- the atoms of a line do, and cases are two or more
abbrev pub LineFits : Tables → Line.Line → Type 0
LineFits tables (line.Facts facts) = AllByRecursion (FactFits tables) facts
LineFits tables (line.Cases lists) =
    HasTwo lists × AllByRecursion (AllByRecursion (FactFits tables)) lists
LineFits tables line.Falsum = Unit {0}

-- a context inside a proof of the task
pub record IsInside (task : CitedTask) (context : Context) : Type 0 where
  pub is : IsContext (proof_task task) context
  pub lines : AllByRecursion (LineFits task.tables) context.lines

-- a step may be taken, and steps in order
abbrev pub MayStep : CitedTask → Context → Mp → Type 0
MayStep task context step = (form : Form) × (slice_get task.forms step.form ≡ Some form)
    × IsInstance context form step.args

abbrev pub MaySteps : CitedTask → List Mp → Context → Type 0
MaySteps task steps context = StepsThen (proof_task task) steps (λ after. Unit {0}) context

-- there are as many bodies as lists, and each is a proof from the context with its list
abbrev pub ListProves : CitedTask → List Body → List (List Atom) → Context → Type 0
ListProves task [] lists context = lists ≡ []
ListProves task (body ∷ bodies) lists context = (facts : List Atom) × (more : List (List Atom))
    × (lists ≡ facts ∷ more) × IsProof (proof_task task) (with_facts context facts) body
    × ListProves task bodies more context

-- the case of a body behind a list of facts, and the cases of bodies
abbrev pub case_of : Edition.Edition → CitedTask → Context → Body → List Atom → CaseText
case_of e task context body facts = record {
  shown = Some (named_facts task.tables (names_in task context) facts);
  body = body_of e task body (with_facts context facts);
}

abbrev pub each_case : Edition.Edition → CitedTask → Context → List Body → List (List Atom)
    → List CaseText
each_case e task context [] lists = []
each_case e task context (body ∷ bodies) lists =
    case_of e task context body (first_list lists)
    ∷ each_case e task context bodies (other_lists lists)
