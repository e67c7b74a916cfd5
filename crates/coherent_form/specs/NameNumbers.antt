-- Lists of names as lists of their numbers, and the names of universal variables of a list of
-- formulas, as code has the members of a formula.
use Rattle.std.specs.Prelude.{ℕ, ◌≡◌, ◌<◌, List, [], ◌∷◌, ◌++◌, map, length}
use Rattle.std.specs.List.{AllByRecursion, flat_map}
use Rattle.text_core.specs.Names.{Text}
use Rattle.logic_core.specs.declared.formula.Formula.{Formula}
use Rattle.coherent_form.specs.Kept.{name_at}
use Rattle.coherent_form.specs.Labels.{names_joined, alternative_names, universal_names}

-- each of some lists followed by each of others, the first one changing slowest
abbrev pub lists_joined : {X : Type 0} → List (List X) → List (List X) → List (List X)
lists_joined firsts seconds = flat_map (λ first. map (λ second. first ++ second) seconds) firsts

-- names with further ones behind them
abbrev pub IsLonger : List Text → List Text → Type 0
IsLonger names longer = (more : List Text) × (longer ≡ names ++ more)

-- the numbers of some names
pub record AreNumbers (names : List Text) (numbers : List ℕ) (texts : List Text) : Type 0 where
  pub named : map (name_at names) numbers ≡ texts
  pub there : AllByRecursion (λ n. n < length names) numbers

-- the numbers of the names in each of some lists
pub record AreListsOf (names : List Text) (lists : List (List ℕ)) (texts : List (List Text))
    : Type 0 where
  pub named : map (map (name_at names)) lists ≡ texts
  pub there : AllByRecursion (AllByRecursion (λ n. n < length names)) lists

-- every choice of the variables of an alternative of each
abbrev pub choice_names_in : List Formula → List (List Text)
choice_names_in [] = [] ∷ []
choice_names_in (g ∷ gs) = names_joined (alternative_names g) (choice_names_in gs)

-- the variables of the alternatives of each
abbrev pub offer_names_in : List Formula → List (List Text)
offer_names_in [] = []
offer_names_in (g ∷ gs) = alternative_names g ++ offer_names_in gs

-- the universal variables of the forms of each
abbrev pub universal_names_in : List Formula → List (List Text)
universal_names_in [] = []
universal_names_in (g ∷ gs) = universal_names g ++ universal_names_in gs
