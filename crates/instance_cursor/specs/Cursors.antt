-- What a cursor is seen as, and what it has still to give.
use Rattle.std.specs.Prelude.{ℕ, ◌+◌, ◌<◌, ◌≤◌, ◌^◌, ◌≡◌, List, [], map, length}
use Rattle.std.specs.List.{AllByRecursion}
use Rattle.logic_core.specs.declared.form.Atom.{Atom}
use Rattle.logic_core.specs.declared.form.Form.{Form}
use Rattle.fact_store.specs.Facts.{Fact}
use Rattle.instance_cursor.specs.declared.origin.Origin.{Origin}
use Rattle.instance_cursor.specs.declared.stage.Stage.{Stage}
use Rattle.instance_cursor.specs.declared.stage.Stage.TheVariants.{Before, Given, Over}
use Rattle.instance_cursor.specs.Origins.{origins_of}
use Rattle.instance_cursor.specs.Picks.{all_picks, picks_after}
use Rattle.instance_cursor.specs.Fitting.{Searched, fits, bound, instance_at, AreFitting}

-- a cursor: the instance that it gave last, how many variables and premises a form may have for
-- it, and its place: the origins of the variables, what is picked, and whether that was given
pub record Place : Type 0 where
  pub args : List ℕ
  pub variables : ℕ
  pub premises : ℕ
  pub origins : List Origin
  pub picks : List ℕ
  pub stage : Stage

-- what a cursor goes through for a form
abbrev pub searched : Form → List Fact → ℕ → Searched
searched form facts elements = record {
  premises = form.premises;
  origins = origins_of form.premises form.universals;
  facts = facts;
  elements = elements;
}

-- the lists of picks that are still to come
abbrev pub picks_left : Searched → Stage → List ℕ → List (List ℕ)
picks_left s Before picks = all_picks (fits s) (bound s) (length picks) []
picks_left s Given picks = picks_after (fits s) (bound s) [] picks
picks_left s Over picks = []

-- where an instance was given last, its picks fit
abbrev pub IsStanding : Searched → Stage → List ℕ → Type 0
IsStanding s Before picks = Unit {0}
IsStanding s Given picks = AreFitting s [] picks
IsStanding s Over picks = Unit {0}

-- the cursor is at a place among the instances of a form over facts
pub record IsAt (place : Place) (form : Form) (facts : List Fact) (elements : ℕ) : Type 0 where
  pub variables : form.universals ≤ place.variables
  pub premises : length form.premises ≤ place.premises
  pub small : AllByRecursion (λ (atom : Atom). atom.symbol < 2 ^ 31) form.premises
  pub origins : place.origins ≡ origins_of form.premises form.universals
  pub args : length place.args ≡ form.universals
  pub standing : IsStanding (searched form facts elements) place.stage place.picks

-- the instances that it has still to give
unfoldable pub rest_of : Place → Form → List Fact → ℕ → List (List ℕ)
rest_of place form facts elements = let s = searched form facts elements in
    map (instance_at s) (picks_left s place.stage place.picks)

-- a cursor has the room that was taken for it
pub record HasRoom (most_variables most_premises args_room origins_room picks_room : ℕ)
    : Type 0 where
  pub few_variables : most_variables ≤ 64
  pub few_premises : most_premises ≤ 1024
  pub args_fit : most_variables ≤ args_room
  pub origins_fit : most_variables ≤ origins_room
  pub picks_fit : most_premises + most_variables ≤ picks_room
