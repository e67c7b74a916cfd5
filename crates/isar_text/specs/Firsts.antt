-- How the first lines of the facts of a branch are kept, beside a store of the facts.
use Rattle.std.specs.Prelude.{◌≡◌, ℕ, ◌<◌, List, [], ◌∷◌, ◌++◌, length, take, slice_get, position, Option, Some, None, unwrap_or, if◌then◌else◌}
use Rattle.std.specs.List.{AllByRecursion}
use Rattle.std.specs.Option.{option_and_then}
use Rattle.logic_core.specs.declared.form.Atom.{Atom}
use Rattle.vernacular_tree.specs.declared.context.Line.{Line}
use Rattle.vernacular_tree.specs.declared.context.Line.TheVariants as line
use Rattle.fact_store.specs.Facts as store
use Rattle.instance_cursor.specs.Facts.{signed_number, elements_at}
use Rattle.proof_text.specs.Showing.{IsElement}
use Rattle.isar_text.specs.FirstLines.{has_fact, is_falsum}
use Rattle.isar_text.specs.declared.first_lines.Point.{Point}

-- what is kept: the facts of the lines, the first line of each, the first line that is falsehood,
-- and the bound of the facts' symbols
pub record Firsts : Type 0 where
  pub facts : List store.Fact
  pub lines : List ℕ
  pub falsum : Option ℕ
  pub signed : ℕ

-- before the first line
abbrev pub no_firsts : ℕ → Firsts
no_firsts signed = record { facts = []; lines = []; falsum = None; signed = signed }

-- a fact of a line, as the store has it
abbrev pub stored : Atom → store.Fact
stored fact = record { signed = signed_number fact; args = elements_at [] fact }

-- the arguments of a fact are elements
abbrev pub IsOfElements : Atom → Type 0
IsOfElements fact = AllByRecursion IsElement fact.args

-- what is found of a fact is its first line, or nothing where no line has it
pub record AreFirst (lines : List Line) (firsts : Firsts) : Type 0 where
  pub facts : (fact : Atom) → IsOfElements fact → (number : Option ℕ) →
      store.IsNumberOf (signed_number fact) (elements_at [] fact) firsts.facts number →
      position (has_fact fact) lines ≡ option_and_then (slice_get firsts.lines) number
  pub falsum : position is_falsum lines ≡ firsts.falsum
  pub one_each : length firsts.lines ≡ length firsts.facts

-- the symbols of facts, and of a line of facts, are below a bound
abbrev pub FactsAreBelow : ℕ → List Atom → Type 0
FactsAreBelow signed facts = AllByRecursion (λ fact. signed_number fact < signed) facts

abbrev pub LineIsLow : ℕ → Line → Type 0
LineIsLow signed (line.Facts facts) = FactsAreBelow signed facts
LineIsLow signed (line.Cases lists) = Unit {0}
LineIsLow signed line.Falsum = Unit {0}

-- behind a line with a number: what is new there has it as its first
abbrev pub with_fact : ℕ → Atom → Firsts → Firsts
with_fact number fact firsts =
    if store.stands (signed_number fact) (elements_at [] fact) firsts.facts then firsts
    else record {
      facts = firsts.facts ++ stored fact ∷ [];
      lines = firsts.lines ++ number ∷ [];
      falsum = firsts.falsum;
      signed = firsts.signed;
    }

abbrev pub with_facts : ℕ → List Atom → Firsts → Firsts
with_facts number [] firsts = firsts
with_facts number (fact ∷ facts) firsts =
    with_facts number facts (with_fact number fact firsts)

abbrev pub with_line : ℕ → Line → Firsts → Firsts
with_line number (line.Facts facts) firsts = with_facts number facts firsts
with_line number (line.Cases lists) firsts = firsts
with_line number line.Falsum firsts = record {
  facts = firsts.facts;
  lines = firsts.lines;
  falsum = Some (unwrap_or firsts.falsum number);
  signed = firsts.signed;
}

-- what is kept has grown
pub record Grows (old new : Firsts) : Type 0 where
  pub facts : List store.Fact
  pub lines : List ℕ
  pub facts_are : new.facts ≡ old.facts ++ facts
  pub lines_are : new.lines ≡ old.lines ++ lines
  pub signed_is : new.signed ≡ old.signed

-- the point at which it is, and how it goes back to a point
abbrev pub point_of : Firsts → Point
point_of firsts = record {
  facts = length firsts.facts;
  lines = length firsts.lines;
  falsum = firsts.falsum;
}

abbrev pub cut : Point → Firsts → Firsts
cut point firsts = record {
  facts = take point.facts firsts.facts;
  lines = take point.lines firsts.lines;
  falsum = point.falsum;
  signed = firsts.signed;
}
