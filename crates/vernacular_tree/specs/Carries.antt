-- How one context carries over to another: each of its elements stands for an element of the other,
-- and what is known in it is known there.
use Rattle.std.specs.Prelude.{ℕ, ◌<◌, ◌≤◌, ◌≡◌, ◌⊎◌, List, map, length, slice_get, slice_index, Some}
use Rattle.std.specs.List.{AllByRecursion}
use Rattle.text_core.specs.Lists.{SomeOf}
use Rattle.logic_core.specs.Forms.{AtomIsBelow}
use Rattle.logic_core.specs.declared.form.Slot.{Slot}
use Rattle.logic_core.specs.declared.form.Slot.TheVariants.{Variable, Constant}
use Rattle.logic_core.specs.declared.form.Atom.{Atom}
use Rattle.vernacular_tree.specs.Contexts.{Task, Stands}
use Rattle.vernacular_tree.specs.Rules.{IsProof}
use Rattle.vernacular_tree.specs.Sizes.{size, nesting}
use Rattle.vernacular_tree.specs.declared.context.Line.{Line}
use Rattle.vernacular_tree.specs.declared.context.Line.TheVariants.{Facts, Cases, Falsum}
use Rattle.vernacular_tree.specs.declared.context.Context.{Context}
use Rattle.vernacular_tree.specs.declared.tree.Body.{Body}

-- a fact at other elements: for element a, number a of the list
abbrev pub slot_image : List ℕ → Slot → Slot
slot_image elements (Variable i) = Variable i
slot_image elements (Constant a) = Constant (slice_index elements a)

abbrev pub image : List ℕ → Atom → Atom
image elements fact = record {
  positive = fact.positive;
  symbol = fact.symbol;
  args = map (slot_image elements) fact.args;
}

-- the elements of a fact are below the number of elements
abbrev pub HasElements : ℕ → Atom → Type 0
HasElements count fact = AtomIsBelow 0 count fact

-- the image of each fact stands
abbrev pub ImagesStand : List ℕ → Context → List Atom → Type 0
ImagesStand elements to facts = AllByRecursion (λ fact. Stands to (image elements fact)) facts

-- what is known by a line is known in the other context: its facts' images stand; for cases there
-- is a line of their images, or the images of one of them stand; for falsehood there is falsehood
abbrev pub LineCarries : List ℕ → Context → Line → Type 0
LineCarries elements to (Facts facts) = AllByRecursion (HasElements (length elements)) facts
    × ImagesStand elements to facts
LineCarries elements to (Cases lists) =
    AllByRecursion (AllByRecursion (HasElements (length elements))) lists
    × (((line : ℕ) × (slice_get to.lines line ≡ Some (Cases (map (map (image elements)) lists))))
    ⊎ SomeOf (ImagesStand elements to) lists)
LineCarries elements to Falsum = SomeOf (λ line. line ≡ Falsum) to.lines

-- the elements of a context stand for elements of another; the task's start elements stand for
-- themselves
pub record Carries (task : Task) (elements : List ℕ) (from to : Context) : Type 0 where
  pub length_is : length elements ≡ from.elements
  pub known : AllByRecursion (λ e. e < to.elements) elements
  pub start_fixed : (a : ℕ) → a < task.start → (a < from.elements) × (slice_index elements a ≡ a)
  pub lines : AllByRecursion (LineCarries elements to) from.lines

-- there is a proof from the context with no more applications, and no deeper splits, than told
pub record HasProof (task : Task) (context : Context) (most deepest : ℕ) : Type 0 where
  pub body : Body
  pub proves : IsProof task context body
  pub small : size body ≤ most
  pub shallow : nesting body ≤ deepest
