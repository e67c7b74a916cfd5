-- The structure that a finite one is: its elements are the numbers below its size, a predicate holds
-- where a fact says so, and each constant with a place stands for its element.
use Rattle.std.specs.Prelude.{ℕ, ◌<◌, Bool, ◌&&◌, List, [], ◌∷◌, Option, None, Some, if◌then◌else◌, unwrap_or}
use Rattle.std.specs.List.{list_any}
use Rattle.std.specs.Str.{bytes_eq}
use Rattle.text_core.specs.Names.{Text}
use Rattle.logic_core.specs.Truth.{Structure, structure}
use Rattle.model_text.specs.declared.structure.Place.{Place}
use Rattle.model_text.specs.declared.structure.Fact.{Fact}
use Rattle.model_text.specs.Structures.{Finite}

-- whether a fact is that of this predicate with these arguments
abbrev pub is_fact : Text → List ℕ → Fact → Bool
is_fact predicate xs fact = bytes_eq predicate fact.predicate && bytes_eq xs fact.arguments

-- whether some fact is
abbrev pub has_fact : List Fact → Text → List ℕ → Bool
has_fact facts predicate xs = list_any (is_fact predicate xs) facts

-- the element of the first place of a constant
abbrev pub found_place : List Place → Text → Option ℕ
found_place [] constant = None
found_place (p ∷ places) constant =
    if bytes_eq p.constant constant then Some p.element else found_place places constant

-- the same, and 0 where there is none
abbrev pub place_in : List Place → Text → ℕ
place_in places constant = unwrap_or (found_place places constant) 0

-- a finite structure as a structure
abbrev pub finite : Finite → Structure
finite m = structure (λ x. x < m.size) (has_fact m.facts) (place_in m.places)
