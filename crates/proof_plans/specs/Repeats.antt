-- Facts that are known to stand before a step, or in a branch, in each proof that has a plan as a part.
use Rattle.std.specs.Prelude.{ℕ, ◌≡◌, List, [], ◌∷◌, map, length, slice_get, slice_index, Some}
use Rattle.text_core.specs.Lists.{SomeOf, IsAmong}
use Rattle.logic_core.specs.declared.form.Slot.{Slot}
use Rattle.logic_core.specs.declared.form.Slot.TheVariants.{Constant}
use Rattle.logic_core.specs.declared.form.Atom.{Atom}
use Rattle.vernacular_tree.specs.Contexts.{Task}
use Rattle.vernacular_tree.specs.declared.context.Context.{Context}
use Rattle.proof_plans.specs.declared.scene.Scene.{Scene}
use Rattle.proof_plans.specs.Runs.{Case, Fire, lists_of, Has, all_facts}
use Rattle.proof_plans.specs.Embeds.{branch_image}
use Rattle.proof_plans.specs.Moves.{Agrees}
use Rattle.proof_plans.specs.Drafts.{Drafted, IsBranch}
use Rattle.proof_plans.specs.Hopes.{Hope}
use Rattle.proof_plans.specs.Scenes.{IsScene, slot_variable}

-- the fact of an atom of a form whose variables are those in a row from a first one on
abbrev pub fact_of : List ℕ → ℕ → Atom → Atom
fact_of values base atom = record {
  positive = atom.positive;
  symbol = atom.symbol;
  args = map (λ slot. Constant (slice_index values (slot_variable base slot))) atom.args;
}

-- two slots stand for one element
abbrev pub AreOne : Drafted → ℕ → Slot → ℕ → Slot → Type 0
AreOne d base slot other_base other = (values : List ℕ) → Agrees d.start d.bound values
    → slice_index values (slot_variable other_base other) ≡ slice_index values (slot_variable base slot)

-- two atoms stand for one fact
abbrev pub AreSame : Drafted → ℕ → Atom → ℕ → Atom → Type 0
AreSame d base atom other_base other = (values : List ℕ) → Agrees d.start d.bound values
    → fact_of values other_base other ≡ fact_of values base atom

-- an atom stands for one of these facts
pub record HasSame (d : Drafted) (base : ℕ) (atom : Atom) (other_base : ℕ) (facts : List Atom)
    : Type 0 where
  pub number : ℕ
  pub fact : Atom
  pub fact_is : slice_get facts number ≡ Some fact
  pub same : AreSame d base atom other_base fact

module _ (scene : Scene) (d : Drafted) where
  -- a fact is one of the context
  abbrev pub IsGiven : ℕ → Atom → Type 0
  IsGiven base atom = (task : Task) (lent : Context) (n : ℕ) → IsScene task lent scene
      → (h : Hope task lent n d) → IsAmong (fact_of h.values base atom) (all_facts lent.lines)

  -- a fact is one of a case of a branch
  abbrev pub IsInCases : ℕ → Atom → ℕ → Type 0
  IsInCases base atom node = (task : Task) (lent : Context) (n : ℕ) → IsScene task lent scene
      → (h : Hope task lent n d) (branch : List Case) → IsBranch task lent d.nodes node branch
      → SomeOf (λ case. IsAmong (fact_of h.values base atom) case.facts) (branch_image h.values branch)

  -- a fact is one that a step makes
  abbrev pub IsOfStep : ℕ → Atom → ℕ → Type 0
  IsOfStep base atom step = (task : Task) (lent : Context) (n : ℕ) → IsScene task lent scene
      → (h : Hope task lent n d) (index : ℕ) (fire : Fire) → slice_get h.indices step ≡ Some index
      → slice_get h.fires index ≡ Some fire
      → (facts : List Atom) × (lists_of fire ≡ facts ∷ []) × IsAmong (fact_of h.values base atom) facts

  -- a fact stands before a step
  abbrev pub StandsBefore : ℕ → ℕ → Atom → Type 0
  StandsBefore step base atom = (task : Task) (lent : Context) (n : ℕ) → IsScene task lent scene
      → (h : Hope task lent n d) (index : ℕ) (fire : Fire) → slice_get h.indices step ≡ Some index
      → slice_get h.fires index ≡ Some fire
      → Has h.fires (fact_of h.values base atom) index fire.branch

  -- a fact stands in a branch behind all applications
  abbrev pub StandsAt : ℕ → ℕ → Atom → Type 0
  StandsAt node base atom = (task : Task) (lent : Context) (n : ℕ) → IsScene task lent scene
      → (h : Hope task lent n d) (branch : List Case) → IsBranch task lent d.nodes node branch
      → Has h.fires (fact_of h.values base atom) (length h.fires) (branch_image h.values branch)
