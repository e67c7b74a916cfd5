-- The tables of a finite structure.
use Rattle.std.specs.Prelude.{ℕ, ◌≡◌, Bool, ◌&&◌, List, Option, None, Some, if◌then◌else◌}
use Rattle.std.specs.Borrow.{Bor}
use Rattle.std.specs.HashMap.{HashMap, get_by}
use Rattle.std.specs.List.{list_any}
use Rattle.std.specs.Str.{bytes_eq}
use Rattle.text_core.specs.Names.{Text}
use Rattle.model_text.specs.declared.structure.Place.{Place}
use Rattle.model_text.specs.declared.structure.Fact.{Fact}
use Rattle.model_text.specs.Structures.{Finite}
use Rattle.finite_model.specs.Structures.{found_place, has_fact}

-- the element that a table has for a constant
abbrev pub place_found : {S : Type 0} → HashMap (Bor Text) ℕ S → Text → Option ℕ
place_found table constant = get_by (λ key. bytes_eq constant key.now) table

-- the element that was found, or that of one more place
abbrev pub place_with : Option ℕ → Place → Text → Option ℕ
place_with (Some element) p constant = Some element
place_with None p constant = if bytes_eq p.constant constant then Some p.element else None

-- the table has the elements of the places
abbrev pub HasPlaces : {S : Type 0} → List Place → HashMap (Bor Text) ℕ S → Type 0
HasPlaces places table = (constant : Text) → place_found table constant ≡ found_place places constant

-- whether a table's entry is a fact of this predicate with these arguments
abbrev pub is_entry : Text → List ℕ → Bor Text × Bor (List ℕ) → Bool
is_entry predicate xs entry = bytes_eq predicate entry.0.now && bytes_eq xs entry.1.now

-- whether some entry is
abbrev pub fact_found : List (Bor Text × Bor (List ℕ)) → Text → List ℕ → Bool
fact_found entries predicate xs = list_any (is_entry predicate xs) entries

-- the entries are the facts
abbrev pub HasFacts : List Fact → List (Bor Text × Bor (List ℕ)) → Type 0
HasFacts facts entries =
    (predicate : Text) (xs : List ℕ) → fact_found entries predicate xs ≡ has_fact facts predicate xs

-- both tables are those of the structure
pub record AreTabled {S : Type 0} (m : Finite) (places : HashMap (Bor Text) ℕ S)
    (entries : List (Bor Text × Bor (List ℕ))) : Type 0 where
  pub placed : HasPlaces m.places places
  pub facts : HasFacts m.facts entries
