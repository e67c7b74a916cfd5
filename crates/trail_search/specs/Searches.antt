-- What a search needs, what it notes where it finds a proof, and what it shows where it finds none.
use Rattle.std.specs.Prelude.{ℕ, ◌+◌, ◌^◌, ◌<◌, ◌≤◌, ◌≡◌, ◌⊎◌, List, ◌++◌, length, slice_get, Some, reverse}
use Rattle.std.specs.List.{AllByRecursion}
use Rattle.text_core.specs.Lists.{SomeOf}
use Rattle.text_core.specs.declared.limits.TheConstants.{MOST_FORM_ATOMS, MOST_FORM_VARIABLES}
use Rattle.logic_core.specs.declared.form.Form.{Form}
use Rattle.vernacular_tree.specs.Barren.{Barren}
use Rattle.vernacular_tree.specs.Contexts.{Task, after_mp}
use Rattle.vernacular_tree.specs.Preorders.{preorder}
use Rattle.vernacular_tree.specs.Rules.{IsInstance, IsAnswer, IsProof}
use Rattle.vernacular_tree.specs.Sizes.{size}
use Rattle.vernacular_tree.specs.declared.context.Context.{Context}
use Rattle.vernacular_tree.specs.declared.context.Line.TheVariants.{Falsum}
use Rattle.vernacular_tree.specs.declared.tree.Body.{Body}
use Rattle.coherent_form.specs.Kept.{IsRight}
use Rattle.coherent_form.specs.Tasks.{CitedTask, start_elements}
use Rattle.instance_cursor.specs.Cursors.{Place}
use Rattle.kept_context.specs.Kept.{Kept, Represents, HasRoom}
use Rattle.kept_context.specs.Lent.{IsContextOf}
use Rattle.trail_search.specs.Answers.{AreAnswers}
use Rattle.trail_search.specs.Least.{HasNone}
use Rattle.trail_search.specs.Recorded.{Recorded}

-- what is kept is a context of the task, behind the one that was lent, with room for so many lines
pub record IsReady (task : CitedTask) (answers : List Form) (lent : Context) (more : ℕ)
    (kept : Kept) : Type 0 where
  pub task_is : IsRight task
  pub answers_are : AreAnswers task answers
  pub lent_is : IsContextOf task lent
  pub context : Context
  pub represents : Represents task lent kept context
  pub start : start_elements task ≤ kept.elements
  pub room : HasRoom task more kept
  pub few_lines : length lent.lines + length kept.lines + more < 2 ^ 32
  pub few_answers : length answers < 2 ^ 32

-- a cursor for the greatest forms
pub record IsWide (cursor : Place) : Type 0 where
  pub variables : MOST_FORM_VARIABLES ≤ cursor.variables
  pub premises : MOST_FORM_ATOMS ≤ cursor.premises

-- there are so many cursors for the greatest forms
pub record HasCursors (count : ℕ) (cursors : List Place) : Type 0 where
  pub enough : count ≤ length cursors
  pub wide : AllByRecursion IsWide cursors

-- there is room to note so many rule applications
abbrev pub CanNote : ℕ → Recorded → Type 0
CanNote more found = length found.nodes + more ≤ found.room

-- a proof from the context with at most so many rule applications was noted, the innermost first
pub record IsNoted (task : Task) (context : Context) (most : ℕ) (before after : Recorded)
    : Type 0 where
  pub body : Body
  pub proves : IsProof task context body
  pub small : size body ≤ most
  pub nodes_are : after.nodes ≡ before.nodes ++ reverse (preorder body)
  pub room_is : after.room ≡ before.room

-- no rule closes the context: no line is falsehood, and no disjunct of the goal stands
pub record IsOpen (task : Task) (context : Context) : Type 0 where
  pub no_falsum : SomeOf (λ line. line ≡ Falsum) context.lines → ⊥
  pub no_answer : (disjunct : ℕ) (args : List ℕ) → IsAnswer task context disjunct args → ⊥

-- an instance of a form adds nothing, or leads to no proof with so many rule applications or fewer
abbrev pub InstanceHasNone : Task → Context → Form → ℕ → List ℕ → Type 0
InstanceHasNone task context form most args =
    Barren context form args ⊎ HasNone task (after_mp context form args) most

-- so does each instance of the form with this number
abbrev pub FormHasNone : Task → Context → ℕ → ℕ → Type 0
FormHasNone task context number most = (form : Form) (args : List ℕ)
    → slice_get task.forms number ≡ Some form → IsInstance context form args
    → InstanceHasNone task context form most args
