-- How a context is kept in place: the facts that stand in a store, and what each line is behind the
-- lines of the context that was lent.
use Rattle.std.specs.Prelude.{ℕ, ◌+◌, ◌*◌, ◌^◌, ◌<◌, ◌≤◌, ◌≡◌, Bool, List, [], ◌++◌, map, take, drop, length, slice_get, Option, Some, None, false}
use Rattle.std.specs.Bool.{Decides}
use Rattle.std.specs.List.{AllByRecursion, sum_by}
use Rattle.text_core.specs.Lists.{SomeOf}
use Rattle.text_core.specs.declared.limits.TheConstants.{MOST_FORM_ATOMS, MOST_ARGUMENTS, MOST_FORM_VARIABLES}
use Rattle.logic_core.specs.declared.form.Slot.TheVariants.{Constant}
use Rattle.logic_core.specs.declared.form.Atom.{Atom}
use Rattle.logic_core.specs.declared.form.Form.{Form}
use Rattle.fact_store.specs.Facts as store
use Rattle.vernacular_tree.specs.Contexts.{Stands, atom_at}
use Rattle.vernacular_tree.specs.declared.context.Line as Line
use Rattle.vernacular_tree.specs.declared.context.Line.TheVariants as line
use Rattle.vernacular_tree.specs.declared.context.Context.{Context}
use Rattle.coherent_form.specs.Tasks.{CitedTask}
use Rattle.instance_cursor.specs.Facts.{signed_number}
use Rattle.kept_context.specs.declared.kept.OwnLine as OwnLine
use Rattle.kept_context.specs.declared.kept.OwnLine.TheVariants.{Facts, Cases, Falsum}
use Rattle.kept_context.specs.declared.kept.Point.{Point}

-- what is kept: the store, the lines behind the lent ones, the elements at which forms were
-- applied, the number of elements, whether some line is falsehood, and room for lines and for such
-- elements
pub record Kept : Type 0 where
  pub store : store.Facts
  pub lines : List OwnLine.OwnLine
  pub values : List ℕ
  pub elements : ℕ
  pub falsum : Bool
  pub line_room : ℕ
  pub value_room : ℕ

-- a fact of these elements
abbrev pub fact_of : Bool → ℕ → List ℕ → Atom
fact_of positive symbol args =
    record { positive = positive; symbol = symbol; args = map Constant args }

-- the lists of a form at elements
abbrev pub lists_at : Option Form → List ℕ → List (List Atom)
lists_at (Some form) elements = map (map (atom_at elements)) form.disjuncts
lists_at None elements = []

-- a line without its facts, which stand in the store
abbrev pub without_facts : Line.Line → Line.Line
without_facts (line.Facts facts) = line.Facts []
without_facts (line.Cases lists) = line.Cases lists
without_facts line.Falsum = line.Falsum

abbrev pub line_seen : CitedTask → List ℕ → OwnLine.OwnLine → Line.Line
line_seen task values Facts = line.Facts []
line_seen task values (Cases form start count) =
    line.Cases (lists_at (slice_get task.forms form) (take count (drop start values)))
line_seen task values Falsum = line.Falsum

-- the elements of a line's cases are among the first that are kept
abbrev pub IsWithin : ℕ → OwnLine.OwnLine → Type 0
IsWithin kept Facts = Unit {0}
IsWithin kept (Cases form start count) = start + count ≤ kept
IsWithin kept Falsum = Unit {0}

-- what is kept, behind the context that was lent, is this context
pub record Represents (task : CitedTask) (lent : Context) (kept : Kept) (context : Context)
    : Type 0 where
  pub elements_are : kept.elements ≡ context.elements
  pub facts : (positive : Bool) (symbol : ℕ) (args : List ℕ)
      → Decides (store.stands (signed_number (fact_of positive symbol args)) args kept.store.facts)
      (Stands context (fact_of positive symbol args))
  pub lines_are : map without_facts context.lines
      ≡ map without_facts lent.lines ++ map (line_seen task kept.values) kept.lines
  pub within : AllByRecursion (IsWithin (length kept.values)) kept.lines
  pub falsum : Decides kept.falsum (SomeOf (λ l. l ≡ line.Falsum) context.lines)

-- nothing is kept
pub record IsEmpty (kept : Kept) : Type 0 where
  pub facts : kept.store.facts ≡ []
  pub lines : kept.lines ≡ []
  pub values : kept.values ≡ []
  pub elements : kept.elements ≡ 0
  pub falsum : kept.falsum ≡ false

-- besides the facts of so many lines, there is room for so many facts with so many arguments
pub record HasSpare (more facts args : ℕ) (kept : Kept) : Type 0 where
  pub facts_fit : facts + more * MOST_FORM_ATOMS ≤ kept.store.spare_facts
  pub args_fit : args + more * MOST_FORM_ATOMS * MOST_ARGUMENTS ≤ kept.store.spare_args

-- there is room for so many lines more, each with facts and elements within the limits of a form,
-- and the store has the task's symbols
pub record HasRoom (task : CitedTask) (more : ℕ) (kept : Kept) : Type 0 where
  pub facts : more * MOST_FORM_ATOMS ≤ kept.store.spare_facts
  pub args : more * MOST_FORM_ATOMS * MOST_ARGUMENTS ≤ kept.store.spare_args
  pub lines : length kept.lines + more ≤ kept.line_room
  pub values : length kept.values + more * MOST_FORM_VARIABLES ≤ kept.value_room
  pub elements : kept.elements + more * MOST_FORM_VARIABLES < 2 ^ 32
  pub signed : kept.store.signed ≡ 2 * (length task.tables.symbols + 1)

-- what is kept has grown into this
pub record Grows (old new : Kept) : Type 0 where
  pub facts : List store.Fact
  pub lines : List OwnLine.OwnLine
  pub values : List ℕ
  pub facts_are : new.store.facts ≡ old.store.facts ++ facts
  pub spare_facts : old.store.spare_facts ≡ new.store.spare_facts + length facts
  pub spare_args : old.store.spare_args
      ≡ new.store.spare_args + sum_by (λ fact. length fact.args) facts
  pub signed_is : new.store.signed ≡ old.store.signed
  pub lines_are : new.lines ≡ old.lines ++ lines
  pub values_are : new.values ≡ old.values ++ values
  pub line_room_is : new.line_room ≡ old.line_room
  pub value_room_is : new.value_room ≡ old.value_room

-- the point at which it is
abbrev pub point_of : Kept → Point
point_of kept = record {
  facts = length kept.store.facts;
  lines = length kept.lines;
  values = length kept.values;
  elements = kept.elements;
  falsum = kept.falsum;
}
