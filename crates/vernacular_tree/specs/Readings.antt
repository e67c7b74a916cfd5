-- Words for reading a tree from its nodes.
use Rattle.std.specs.Prelude.{ℕ, ◌≤◌, List, [], ◌∷◌}
use Rattle.std.specs.List.{AllByRecursion}
use Rattle.vernacular_tree.specs.Sizes.{nesting}
use Rattle.vernacular_tree.specs.declared.tree.Body.{Body}
use Rattle.vernacular_tree.specs.declared.tree.Node.{Node}
use Rattle.vernacular_tree.specs.declared.tree.Node.TheVariants.{Mp, Cs, As, Efq}

-- no application of modus ponens comes next
abbrev pub StopsSteps : List Node → Type 0
StopsSteps [] = Unit {0}
StopsSteps (Mp form args ∷ nodes) = ⊥
StopsSteps (Cs line branches ∷ nodes) = Unit {0}
StopsSteps (As disjunct args ∷ nodes) = Unit {0}
StopsSteps (Efq ∷ nodes) = Unit {0}

-- in no body is an application within more splits
abbrev pub AreShallow : ℕ → List Body → Type 0
AreShallow most bodies = AllByRecursion (λ body. nesting body ≤ most) bodies
