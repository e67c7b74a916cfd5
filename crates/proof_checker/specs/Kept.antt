-- How a branch is kept while a script is checked: the names of its elements, its lines, and a store
-- of the facts of its lines.
use Rattle.std.specs.Prelude.{ℕ, ◌+◌, ◌*◌, ◌^◌, ◌<◌, ◌≡◌, Bool, true, false, ◌||◌, if◌then◌else◌, List, [], ◌∷◌, ◌++◌, map, take, length, slice_get, slice_index, Some}
use Rattle.std.specs.List.{AllByRecursion, list_any}
use Rattle.std.specs.Bool.{Decides}
use Rattle.text_core.specs.Names.{Text}
use Rattle.text_core.specs.Lists.{SomeOf}
use Rattle.text_core.specs.Numbered.{Tables}
use Rattle.logic_core.specs.declared.form.Slot.{Slot}
use Rattle.logic_core.specs.declared.form.Slot.TheVariants.{Variable, Constant}
use Rattle.logic_core.specs.declared.form.Atom.{Atom}
use Rattle.vernacular_tree.specs.Contexts.{Stands}
use Rattle.vernacular_tree.specs.declared.context.Line as Line
use Rattle.vernacular_tree.specs.declared.context.Line.TheVariants as line
use Rattle.coherent_form.specs.Tasks.{CitedTask}
use Rattle.fact_store.specs.Facts as store
use Rattle.proof_text.specs.Branches.{Branch}
use Rattle.proof_checker.specs.declared.fact.Fact.{Fact}
use Rattle.proof_checker.specs.declared.trail.Point.{Point}
use Rattle.proof_checker.specs.declared.fact.HeldLine as HeldLine
use Rattle.proof_checker.specs.declared.fact.HeldLine.TheVariants.{Facts, Cases, Falsum}

-- a branch as it is kept: besides names and lines, the facts of the store, whether some line is
-- falsehood, and the bound of the store's symbols
pub record Kept : Type 0 where
  pub names : List Text
  pub lines : List HeldLine.HeldLine
  pub facts : List store.Fact
  pub falsum : Bool
  pub signed : ℕ

-- a fact as an atom of a line
abbrev pub atom_seen : Fact → Atom
atom_seen fact =
    record { positive = fact.positive; symbol = fact.symbol; args = map Constant fact.args }

abbrev pub line_seen : HeldLine.HeldLine → Line.Line
line_seen (Facts facts) = line.Facts (map atom_seen facts)
line_seen (Cases lists) = line.Cases (map (map atom_seen) lists)
line_seen Falsum = line.Falsum

-- the branch that is kept
abbrev pub branch_of : Kept → Branch
branch_of kept = record {
  context = record { elements = length kept.names; lines = map line_seen kept.lines };
  names = kept.names;
}

-- an atom of a form at elements for its variables
abbrev pub element_at : List ℕ → Slot → ℕ
element_at elements (Variable i) = slice_index elements i
element_at elements (Constant c) = c

abbrev pub fact_at : List ℕ → Atom → Fact
fact_at elements atom = record {
  positive = atom.positive;
  symbol = atom.symbol;
  args = map (element_at elements) atom.args;
}

-- the line of a list of disjuncts
abbrev pub held_line : List (List Fact) → HeldLine.HeldLine
held_line [] = Falsum
held_line (facts ∷ []) = Facts facts
held_line (facts ∷ more ∷ rest) = Cases (facts ∷ more ∷ rest)

-- the number of a fact's symbol, or of its complement, in the store
abbrev pub signed_number : Fact → ℕ
signed_number fact = 2 * fact.symbol + (if fact.positive then 0 else 1)

-- these numbers are below a bound
abbrev pub FactsFit : ℕ → List Fact → Type 0
FactsFit signed facts = AllByRecursion (λ fact. signed_number fact < signed) facts

abbrev pub LineFits : ℕ → HeldLine.HeldLine → Type 0
LineFits signed (Facts facts) = FactsFit signed facts
LineFits signed (Cases lists) = AllByRecursion (FactsFit signed) lists
LineFits signed Falsum = Unit {0}

-- the store has exactly the facts that stand, falsehood is told, and the symbols are the task's
pub record IsKept (task : CitedTask) (kept : Kept) : Type 0 where
  pub facts : (fact : Fact) → Decides (store.stands (signed_number fact) fact.args kept.facts)
      (Stands (branch_of kept).context (atom_seen fact))
  pub falsum : Decides kept.falsum (SomeOf (λ line. line ≡ Falsum) kept.lines)
  pub lines : AllByRecursion (LineFits kept.signed) kept.lines
  pub signed : kept.signed ≡ 2 * (length task.tables.symbols + 1)
  pub small : kept.signed < 2 ^ 32
  pub few : length kept.names < 2 ^ 32

-- a branch has grown into another one
pub record Grows (old new : Kept) : Type 0 where
  pub names : List Text
  pub lines : List HeldLine.HeldLine
  pub facts : List store.Fact
  pub names_are : new.names ≡ old.names ++ names
  pub lines_are : new.lines ≡ old.lines ++ lines
  pub facts_are : new.facts ≡ old.facts ++ facts
  pub signed_is : new.signed ≡ old.signed

-- the point at which a branch is
abbrev pub point_of : Kept → Point
point_of kept = record {
  names = length kept.names;
  lines = length kept.lines;
  facts = length kept.facts;
  falsum = kept.falsum;
}

-- a branch that goes back to a point
abbrev pub cut : Point → Kept → Kept
cut point kept = record {
  names = take point.names kept.names;
  lines = take point.lines kept.lines;
  facts = take point.facts kept.facts;
  falsum = point.falsum;
  signed = kept.signed;
}

-- the facts of a line
abbrev pub facts_of : HeldLine.HeldLine → List Fact
facts_of (Facts facts) = facts
facts_of (Cases lists) = []
facts_of Falsum = []

abbrev pub is_falsum : HeldLine.HeldLine → Bool
is_falsum Falsum = true
is_falsum _ = false

-- a fact is the one with this number and these elements
abbrev pub is_numbered : ℕ → List ℕ → Fact → Bool
is_numbered number args fact =
    store.is_fact number args (record { signed = signed_number fact; args = fact.args })

-- a store has these facts too, behind those that it had
pub record HasAlso (more : List Fact) (old new : store.Facts) : Type 0 where
  pub stands : (number : ℕ) (args : List ℕ) → store.stands number args new.facts
      ≡ (store.stands number args old.facts || list_any (is_numbered number args) more)
  pub added : List store.Fact
  pub facts_are : new.facts ≡ old.facts ++ added
  pub signed_is : new.signed ≡ old.signed

-- a branch has one more line
pub record HasLine (line : HeldLine.HeldLine) (old new : Kept) : Type 0 where
  pub names_are : new.names ≡ old.names
  pub lines_are : new.lines ≡ old.lines ++ line ∷ []
  pub added : List store.Fact
  pub facts_are : new.facts ≡ old.facts ++ added
  pub signed_is : new.signed ≡ old.signed
  pub kept : (task : CitedTask) → IsKept task old → IsKept task new

-- a branch goes on with a case of a line
abbrev pub HasCase : ℕ → ℕ → Kept → Kept → Type 0
HasCase number case old new = (lists : List (List Fact)) × (facts : List Fact)
    × (slice_get old.lines number ≡ Some (Cases lists)) × (slice_get lists case ≡ Some facts)
    × HasLine (Facts facts) old new

-- the constants are the elements, and there are no lines
abbrev pub kept_constants : Tables → Kept
kept_constants tables = record {
  names = tables.constants;
  lines = [];
  facts = [];
  falsum = false;
  signed = 2 * (length tables.symbols + 1);
}
