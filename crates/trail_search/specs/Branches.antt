-- Proofs of the cases of a line, one for each case.
use Rattle.std.specs.Prelude.{ℕ, ◌+◌, ◌≤◌, ◌≡◌, List, [], ◌∷◌, ◌++◌, slice_get, Some, reverse, flat_map}
use Rattle.std.specs.List.{sum_by}
use Rattle.logic_core.specs.declared.form.Atom.{Atom}
use Rattle.vernacular_tree.specs.Contexts.{Task, with_facts}
use Rattle.vernacular_tree.specs.Preorders.{preorder}
use Rattle.vernacular_tree.specs.Rules.{IsProof}
use Rattle.vernacular_tree.specs.Sizes.{size}
use Rattle.vernacular_tree.specs.declared.context.Context.{Context}
use Rattle.vernacular_tree.specs.declared.context.Line.TheVariants.{Cases}
use Rattle.vernacular_tree.specs.declared.tree.Body.{Body}
use Rattle.trail_search.specs.Recorded.{Recorded}

-- as many bodies as lists, and each is a proof from the context with its list
abbrev pub AreProofs : Task → Context → List (List Atom) → List Body → Type 0
AreProofs task context [] [] = Unit {0}
AreProofs task context [] (body ∷ bodies) = ⊥
AreProofs task context (facts ∷ lists) [] = ⊥
AreProofs task context (facts ∷ lists) (body ∷ bodies) =
    IsProof task (with_facts context facts) body × AreProofs task context lists bodies

-- no proofs of the lists have so many rule applications in all, or fewer
abbrev pub HaveNone : Task → Context → List (List Atom) → ℕ → Type 0
HaveNone task context lists most = (bodies : List Body)
    → AreProofs task context lists bodies → sum_by size bodies ≤ most → ⊥

-- no proof that begins with a split of this line has so many rule applications or fewer
abbrev pub SplitHasNone : Task → Context → ℕ → ℕ → Type 0
SplitHasNone task context line most = (lists : List (List Atom)) (bodies : List Body)
    → slice_get context.lines line ≡ Some (Cases lists) → AreProofs task context lists bodies
    → 1 + sum_by size bodies ≤ most → ⊥

-- proofs of the lists with at most so many rule applications in all were noted
pub record AreNoted (task : Task) (context : Context) (lists : List (List Atom)) (most : ℕ)
    (before after : Recorded) : Type 0 where
  pub bodies : List Body
  pub prove : AreProofs task context lists bodies
  pub small : sum_by size bodies ≤ most
  pub nodes_are : after.nodes ≡ before.nodes ++ reverse (flat_map preorder bodies)
  pub room_is : after.room ≡ before.room
