-- What is noted of a context's lines: a store of the facts that stand, and whether some line is
-- falsehood.
use Rattle.std.specs.Prelude.{ℕ, ◌+◌, ◌<◌, ◌≤◌, ◌≡◌, Bool, ◌||◌, List, [], ◌∷◌, ◌++◌, map, length}
use Rattle.std.specs.Bool.{Decides}
use Rattle.std.specs.List.{AllByRecursion, sum_by, list_any}
use Rattle.text_core.specs.Lists.{SomeOf}
use Rattle.text_core.specs.declared.limits.TheConstants.{MOST_FORM_ATOMS, MOST_ARGUMENTS}
use Rattle.logic_core.specs.declared.form.Atom.{Atom}
use Rattle.fact_store.specs.Facts as store
use Rattle.vernacular_tree.specs.Contexts.{LineHas, atom_at}
use Rattle.vernacular_tree.specs.declared.context.Line as Line
use Rattle.vernacular_tree.specs.declared.context.Line.TheVariants as line
use Rattle.instance_cursor.specs.Facts.{signed_number, elements_at}
use Rattle.kept_context.specs.Kept.{fact_of}

-- the arguments of atoms
abbrev pub args_of : List Atom → ℕ
args_of atoms = sum_by (λ (atom : Atom). length atom.args) atoms

-- an atom's symbol is in range, and it has few arguments
pub record IsSmall (signed : ℕ) (atom : Atom) : Type 0 where
  pub in_range : signed_number atom < signed
  pub narrow : length atom.args ≤ MOST_ARGUMENTS

-- an atom at elements is the fact with this number and these elements
abbrev pub is_numbered : ℕ → List ℕ → List ℕ → Atom → Bool
is_numbered number args elements atom = store.is_fact number args
    (record { signed = signed_number atom; args = elements_at elements atom })

-- at most so many facts with so many arguments are added
pub record Adds (most most_args : ℕ) (old new : store.Facts) : Type 0 where
  pub added : List store.Fact
  pub facts_are : new.facts ≡ old.facts ++ added
  pub few : length added ≤ most
  pub few_args : sum_by (λ (fact : store.Fact). length fact.args) added ≤ most_args
  pub spare_facts : old.spare_facts ≡ new.spare_facts + length added
  pub spare_args : old.spare_args
      ≡ new.spare_args + sum_by (λ (fact : store.Fact). length fact.args) added
  pub signed_is : new.signed ≡ old.signed

-- the store has these atoms at elements too
pub record HasAlso (elements : List ℕ) (atoms : List Atom) (old new : store.Facts) : Type 0 where
  pub stands : (number : ℕ) (args : List ℕ) → store.stands number args new.facts
      ≡ (store.stands number args old.facts || list_any (is_numbered number args elements) atoms)
  pub adds : Adds (length atoms) (args_of atoms) old new

-- the store has exactly the facts of the lines, and falsehood is told
pub record AreNoted (facts : List store.Fact) (falsum : Bool) (lines : List Line.Line)
    : Type 0 where
  pub facts_told : (positive : Bool) (symbol : ℕ) (args : List ℕ)
      → Decides (store.stands (signed_number (fact_of positive symbol args)) args facts)
      (SomeOf (LineHas (fact_of positive symbol args)) lines)
  pub falsum_told : Decides falsum (SomeOf (λ l. l ≡ line.Falsum) lines)

-- one more line is noted, whichever were
abbrev pub IsNoted : Line.Line → store.Facts → Bool → store.Facts → Bool → Type 0
IsNoted line old falsum new after = (lines : List Line.Line) → AreNoted old.facts falsum lines
    → AreNoted new.facts after (lines ++ line ∷ [])

-- few small facts, of elements alone
pub record ListIsSmall (signed : ℕ) (facts : List Atom) : Type 0 where
  pub small : AllByRecursion (IsSmall signed) facts
  pub known : map (atom_at []) facts ≡ facts
  pub few : length facts ≤ MOST_FORM_ATOMS

abbrev pub LineIsSmall : ℕ → Line.Line → Type 0
LineIsSmall signed (line.Facts facts) = ListIsSmall signed facts
LineIsSmall signed (line.Cases lists) = AllByRecursion (ListIsSmall signed) lists
LineIsSmall signed line.Falsum = Unit {0}
