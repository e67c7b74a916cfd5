-- Candidates: what a countermodel is for the forms of a task, in which symbols and constants are
-- numbers. The parameters, which are the goal's universal variables, have the numbers behind those
-- of the constants.
use Rattle.std.specs.Prelude.{ℕ, zero, suc, ◌<◌, ◌≡◌, Bool, List, length, map, slice_get, Some}
use Rattle.std.specs.List.{AllByRecursion}
use Rattle.text_core.specs.Names.{Text}
use Rattle.logic_core.specs.Forms.{Interpretation, are_equal, AtomTrue, ConclusionTrue, FormTrue}
use Rattle.logic_core.specs.declared.form.Form.{Form}
use Rattle.vernacular_tree.specs.Contexts.{counted}
use Rattle.coherent_form.specs.Tasks.{CitedTask}
use Rattle.coherent_form.specs.declared.citation.Citation.TheVariants.{Axiom}

-- how many elements there are, of which elements a named symbol holds, by its number in the list of
-- symbols, and the element of each constant and parameter
pub record Candidate : Type 0 where
  pub size : ℕ
  pub holds : ℕ → List ℕ → Bool
  pub place : ℕ → ℕ

-- symbol 0 is equality, symbol n + 1 is number n of the list
abbrev pub holds_in : Candidate → ℕ → List ℕ → Bool
holds_in c zero xs = are_equal xs
holds_in c (suc n) xs = c.holds n xs

-- a candidate as a structure for numbers
abbrev pub world : Candidate → Interpretation
world c = record { element = λ x. x < c.size; holds = holds_in c; place = c.place }

-- the elements of the parameters
abbrev pub parameters : CitedTask → Candidate → List ℕ
parameters task c = map c.place (counted (length task.tables.constants) task.goal.universals)

-- each form of a formula of the problem, which is cited as an axiom, is true
abbrev pub GivenFormsTrue : CitedTask → Candidate → Type 0
GivenFormsTrue task c = (n : ℕ) (form : Form) (name : Text) (rank : ℕ)
    → slice_get task.citations n ≡ Some (Axiom name rank)
    → slice_get task.forms n ≡ Some form → FormTrue (world c) form

-- each constant and each parameter has an element, each form of the problem's premises is true, and
-- at the parameters the goal's premises are true and its conclusion is not
pub record Refutes (task : CitedTask) (c : Candidate) : Type 0 where
  pub placed : (k : ℕ) → c.place k < c.size
  pub given : GivenFormsTrue task c
  pub premises : AllByRecursion (AtomTrue (world c) (parameters task c)) task.goal.premises
  pub conclusion : ConclusionTrue (world c) task.goal (parameters task c) → ⊥
