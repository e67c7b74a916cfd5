-- The names of universal variables, and the labels that tell the variables of one form apart. Each
-- function on formulas here goes by the cases of the one in `Reading` that gives the forms.
use Rattle.std.specs.Prelude.{ℕ, ◌+◌, Bool, if◌then◌else◌, List, [], ◌∷◌, ◌++◌, map, take, slice_get}
use Rattle.std.specs.List.{flat_map}
use Rattle.std.specs.Str.{bytes_eq}
use Rattle.text_core.specs.Names.{Text}
use Rattle.text_core.specs.Numbered.{text_or_empty}
use Rattle.logic_core.specs.declared.formula.Op.TheVariants.{Implies, Implied, Iff}
use Rattle.logic_core.specs.declared.formula.Formula.{Formula, And', Or', Binary', ForAll', Exists', Row_of-Formula, end_of-Formula, more_of-Formula}
use Rattle.coherent_form.specs.Offending.{are_plain}
use Rattle.coherent_form.specs.declared.label.Label.{Label}

-- variables in front of those of each
abbrev pub names_bound : List Text → List (List Text) → List (List Text)
names_bound xs each = map (λ names. xs ++ names) each

-- every choice of a list from each of two, the first one changing slowest
abbrev pub names_joined : List (List Text) → List (List Text) → List (List Text)
names_joined firsts seconds = flat_map (λ names. names_bound names seconds) firsts

abbrev mutual
  -- the variables of each alternative of a premise
  pub alternative_names : Formula → List (List Text)
  alternative_names (And' _ members) = choice_names members
  alternative_names (Or' _ members) = offer_names members
  alternative_names (Exists' xs _ (more_of-Formula g _)) = names_bound xs (alternative_names g)
  alternative_names f = [] ∷ []

  pub choice_names : {n : _} → Row_of-Formula n → List (List Text)
  choice_names end_of-Formula = [] ∷ []
  choice_names (more_of-Formula g rest) = names_joined (alternative_names g) (choice_names rest)

  pub offer_names : {n : _} → Row_of-Formula n → List (List Text)
  offer_names end_of-Formula = []
  offer_names (more_of-Formula g rest) = alternative_names g ++ offer_names rest

abbrev mutual
  -- the universal variables of each form of a rule
  pub universal_names : Formula → List (List Text)
  universal_names (ForAll' xs _ (more_of-Formula g _)) = names_bound xs (universal_names g)
  universal_names (Binary' Implies _ (more_of-Formula g _) _ (more_of-Formula h _)) =
      names_joined (alternative_names g) (universal_names h)
  universal_names (Binary' Implied _ (more_of-Formula g _) _ (more_of-Formula h _)) =
      names_joined (alternative_names h) (universal_names g)
  universal_names (Binary' Iff _ (more_of-Formula g _) _ (more_of-Formula h _)) =
      names_joined (alternative_names g) (universal_names h)
      ++ names_joined (alternative_names h) (universal_names g)
  universal_names (And' _ members) =
      if are_plain members then [] ∷ [] else universal_names_of members
  universal_names f = [] ∷ []

  pub universal_names_of : {n : _} → Row_of-Formula n → List (List Text)
  universal_names_of end_of-Formula = []
  universal_names_of (more_of-Formula g rest) = universal_names g ++ universal_names_of rest

-- how many members pass a test
abbrev pub how_many : {X : Type 0} → (X → Bool) → List X → ℕ
how_many test [] = 0
how_many test (x ∷ xs) = (if test x then 1 else 0) + how_many test xs

-- the label of a variable: its name, and how many variables up to it have that name
abbrev pub label_of : List Text → ℕ → Label
label_of names variable = let name = text_or_empty (slice_get names variable) in record {
  name = name;
  rank = how_many (λ other. bytes_eq other name) (take variable names) + 1;
}
