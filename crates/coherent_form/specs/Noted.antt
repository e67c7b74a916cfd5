-- What is noted of the atoms of forms, and which built-in axioms follow from it.
use Rattle.std.specs.Prelude.{ℕ, ◌+◌, ◌≡◌, ◌==◌, nat_eq, Bool, true, false, ◌||◌, if◌then◌else◌, List, [], ◌∷◌, ◌++◌, map, length}
use Rattle.std.specs.List.{list_any, flat_map}
use Rattle.text_core.specs.Numbered.{Tables}
use Rattle.logic_core.specs.declared.form.Atom.{Atom}
use Rattle.vernacular_tree.specs.Contexts.{counted}
use Rattle.coherent_form.specs.BuiltIns.{arity_in, is_equation, is_complement}
use Rattle.coherent_form.specs.declared.occurrences.Occurrences.{Occurrences}
use Rattle.coherent_form.specs.declared.source.BuiltIn.{BuiltIn}
use Rattle.coherent_form.specs.declared.source.BuiltIn.TheVariants.{Refl, Sym, Trans, Sub, No, Or}

-- a symbol was noted as one that occurs negated
abbrev pub is_noted : Occurrences → ℕ → Bool
is_noted seen symbol = list_any (nat_eq symbol) seen.negated.keys

-- what some atoms added, where a test of atoms passes for some of them: whether one is an equation,
-- and which symbols occur negated
pub record AreNoted (before after : Occurrences) (some : (Atom → Bool) → Bool) : Type 0 where
  pub equality : after.equality ≡ (before.equality || some is_equation)
  pub negated : (symbol : ℕ) →
      is_noted after symbol ≡ (is_noted before symbol || some (is_complement symbol))

-- a symbol, or its complement, keeps to equality in each place
abbrev pub places_kept : Tables → Bool → ℕ → List BuiltIn
places_kept tables positive symbol = map (Sub positive symbol) (counted 1 (arity_in tables symbol))

module _ (tables : Tables) (seen : Occurrences) where
  -- the symbol, unless it is equality itself, and then its complement, where it occurs
  abbrev pub symbol_kept : ℕ → List BuiltIn
  symbol_kept symbol = (if symbol == 0 then [] else places_kept tables true symbol)
      ++ (if is_noted seen symbol then places_kept tables false symbol else [])

  -- a symbol that occurs negated excludes its complement, and one of them holds
  abbrev pub complement_axioms : ℕ → List BuiltIn
  complement_axioms symbol = if is_noted seen symbol then No symbol ∷ Or symbol ∷ [] else []

  -- the axioms of equality
  abbrev pub equality_axioms : List BuiltIn
  equality_axioms =
      Refl ∷ Sym ∷ Trans ∷ flat_map symbol_kept (counted 0 (length tables.symbols + 1))

  -- all of them
  abbrev pub axioms_noted : List BuiltIn
  axioms_noted = (if seen.equality then equality_axioms else [])
      ++ flat_map complement_axioms (counted 0 (length tables.symbols + 1))
