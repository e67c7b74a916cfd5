-- The built-in axioms: what they say, which of them a problem has, in which order, and how they are
-- cited.
use Rattle.std.specs.Prelude.{ℕ, zero, suc, ◌+◌, ◌-◌, ◌==◌, Bool, true, false, not, ◌&&◌, ◌||◌, if◌then◌else◌, List, [], ◌∷◌, ◌++◌, map, length, slice_get, Option, Some, None, codes}
use Rattle.std.specs.List.{list_any, flat_map}
use Rattle.std.specs.Fmt.{decimal}
use Rattle.text_core.specs.Names.{Text}
use Rattle.text_core.specs.Numbered.{Symbol, Tables}
use Rattle.logic_core.specs.declared.form.Slot.TheVariants.{Variable}
use Rattle.logic_core.specs.declared.form.Atom.{Atom}
use Rattle.logic_core.specs.declared.form.Form.{Form}
use Rattle.vernacular_tree.specs.Contexts.{counted}
use Rattle.coherent_form.specs.declared.citation.Symbol as Cited
use Rattle.coherent_form.specs.declared.citation.Symbol.TheVariants as cited
use Rattle.coherent_form.specs.declared.citation.Citation.{Citation}
use Rattle.coherent_form.specs.declared.citation.Citation.TheVariants as cite
use Rattle.coherent_form.specs.declared.source.BuiltIn.{BuiltIn}
use Rattle.coherent_form.specs.declared.source.BuiltIn.TheVariants.{Refl, Sym, Trans, Sub, No, Or}

-- the arity of a symbol; equality is symbol 0
abbrev pub arity_or_zero : Option Symbol → ℕ
arity_or_zero (Some symbol) = symbol.arity
arity_or_zero None = 0

abbrev pub arity_in : Tables → ℕ → ℕ
arity_in tables zero = 2
arity_in tables (suc n) = arity_or_zero (slice_get tables.symbols n)

-- an atom, or its complement, of variables
abbrev pub atom_of : Bool → ℕ → List ℕ → Atom
atom_of positive symbol variables =
    record { positive = positive; symbol = symbol; args = map Variable variables }

abbrev pub equation : ℕ → ℕ → Atom
equation left right = atom_of true 0 (left ∷ right ∷ [])

-- variables in a row, with another one in this place, counted from 0
abbrev pub with_place : ℕ → ℕ → List ℕ → List ℕ
with_place place other variables = map (λ v. if v == place then other else v) variables

-- premises lead to disjuncts, for all values of so many variables
abbrev pub rule : ℕ → List Atom → List (List Atom) → Form
rule variables premises disjuncts = record {
  universals = variables;
  premises = premises;
  existentials = 0;
  disjuncts = disjuncts;
}

-- what a built-in axiom says
abbrev pub built_in_form : Tables → BuiltIn → Form
built_in_form tables Refl = rule 1 [] ((equation 0 0 ∷ []) ∷ [])
built_in_form tables Sym = rule 2 (equation 0 1 ∷ []) ((equation 1 0 ∷ []) ∷ [])
built_in_form tables Trans = rule 3 (equation 0 1 ∷ equation 1 2 ∷ []) ((equation 0 2 ∷ []) ∷ [])
built_in_form tables (Sub positive symbol place) = let n = arity_in tables symbol in
    rule (n + 1)
    (atom_of positive symbol (counted 0 n) ∷ equation (place - 1) n ∷ [])
    ((atom_of positive symbol (with_place (place - 1) n (counted 0 n)) ∷ []) ∷ [])
built_in_form tables (No symbol) = let variables = counted 0 (arity_in tables symbol) in
    rule (arity_in tables symbol)
    (atom_of true symbol variables ∷ atom_of false symbol variables ∷ []) []
built_in_form tables (Or symbol) = let variables = counted 0 (arity_in tables symbol) in
    rule (arity_in tables symbol) []
    ((atom_of true symbol variables ∷ []) ∷ (atom_of false symbol variables ∷ []) ∷ [])

-- the variables of a built-in axiom are V0, V1 and so on
abbrev pub built_in_names : Form → List Text
built_in_names form = map (λ v. codes "V" ++ decimal v) (counted 0 form.universals)

-- some atom of some form passes a test
abbrev pub occurs : (Atom → Bool) → List Form → Bool
occurs test forms =
    list_any (λ form. list_any test form.premises || list_any (list_any test) form.disjuncts) forms

abbrev pub is_equation : Atom → Bool
is_equation atom = atom.symbol == 0

abbrev pub is_complement : ℕ → Atom → Bool
is_complement symbol atom = atom.symbol == symbol && not atom.positive

module _ (tables : Tables) (forms : List Form) where
  -- a symbol occurs negated
  abbrev pub is_negated : ℕ → Bool
  is_negated symbol = occurs (is_complement symbol) forms

  -- a symbol, or its complement, keeps to equality in each place
  abbrev pub subs_of : Bool → ℕ → List BuiltIn
  subs_of positive symbol = map (Sub positive symbol) (counted 1 (arity_in tables symbol))

  -- the symbol, unless it is equality itself, and then its complement, where it occurs
  abbrev pub subs : ℕ → List BuiltIn
  subs symbol = (if symbol == 0 then [] else subs_of true symbol)
      ++ (if is_negated symbol then subs_of false symbol else [])

  -- a symbol that occurs negated excludes its complement, and one of them holds
  abbrev pub complements : ℕ → List BuiltIn
  complements symbol = if is_negated symbol then No symbol ∷ Or symbol ∷ [] else []

  -- all symbols in order
  abbrev pub symbol_numbers : List ℕ
  symbol_numbers = counted 0 (length tables.symbols + 1)

  -- the built-in axioms of forms in order: those of equality where it occurs, and those of
  -- complements
  abbrev pub built_ins : List BuiltIn
  built_ins =
      (if occurs is_equation forms then Refl ∷ Sym ∷ Trans ∷ flat_map subs symbol_numbers else [])
      ++ flat_map complements symbol_numbers

-- how a symbol is cited
abbrev pub named_or_equality : Option Symbol → Cited.Symbol
named_or_equality (Some symbol) = cited.Named symbol.name symbol.arity
named_or_equality None = cited.Equality

abbrev pub cited_symbol : Tables → ℕ → Cited.Symbol
cited_symbol tables zero = cited.Equality
cited_symbol tables (suc n) = named_or_equality (slice_get tables.symbols n)

-- how a built-in axiom is cited
abbrev pub built_in_citation : Tables → BuiltIn → Citation
built_in_citation tables Refl = cite.Refl
built_in_citation tables Sym = cite.Sym
built_in_citation tables Trans = cite.Trans
built_in_citation tables (Sub positive symbol place) =
    cite.Sub positive (cited_symbol tables symbol) place
built_in_citation tables (No symbol) = cite.No (cited_symbol tables symbol)
built_in_citation tables (Or symbol) = cite.Or (cited_symbol tables symbol)
