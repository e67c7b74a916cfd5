-- How what the formulas of a problem gave so far is kept, and what holds of it.
use Rattle.std.specs.Prelude.{ℕ, ◌<◌, ◌≤◌, ◌≡◌, ◌⊎◌, ◌++◌, nat_eq, Bool, false, List, map, length, Option, unwrap_or}
use Rattle.std.specs.List.{AllByRecursion, IsDistinct, sum_by}
use Rattle.std.specs.Cmp.Lexicographic.{pointwise}
use Rattle.indexmap.specs.IndexMap.{get}
use Rattle.text_core.specs.Names.{Text}
use Rattle.text_core.specs.Numbered.{Tables}
use Rattle.text_core.specs.declared.limits.TheConstants.{MOST_PLACES}
use Rattle.logic_core.specs.Allowed.{FofIsAllowed}
use Rattle.logic_core.specs.declared.form.Form.{Form}
use Rattle.logic_core.specs.declared.formula.Formula.{Formula}
use Rattle.logic_core.specs.declared.problem.Fof.{Fof}
use Rattle.coherent_form.specs.Kept.{name_at, citation_at}
use Rattle.coherent_form.specs.Labels.{how_many, universal_names}
use Rattle.coherent_form.specs.Reading.{with_names}
use Rattle.coherent_form.specs.Tasks.{Progress, AreFew, AreTaken, after_formulas, atoms_in, further, nothing_read, places}
use Rattle.coherent_form.specs.Wide.{IsReadable, IsRefused}
use Rattle.coherent_form.specs.declared.problem_reading.Reading.{Reading}
use Rattle.coherent_form.specs.declared.refusal.FormRefusal.{FormRefusal}
use Rattle.coherent_form.specs.declared.refusal.FormRefusal.TheVariants as form
use Rattle.coherent_form.specs.declared.source.Source.{Source}
use Rattle.coherent_form.specs.declared.source.Source.TheVariants as source
use Rattle.coherent_form.specs.declared.task_refusal.TaskRefusal.{TaskRefusal}
use Rattle.coherent_form.specs.declared.task_refusal.TaskWhy.{TaskWhy}
use Rattle.coherent_form.specs.declared.task_refusal.TaskWhy.TheVariants.{NotCoherent, TooWide, Memory}

-- a form of a formula whose name has this number
abbrev pub is_of : ℕ → Source → Bool
is_of name (source.Formula other rank) = nat_eq other name
is_of name (source.BuiltIn built) = false

-- its rank is at most the number of forms under its name
abbrev pub HasRank : List Source → Source → Type 0
HasRank sources (source.Formula name rank) = rank ≤ how_many (is_of name) sources
HasRank sources (source.BuiltIn built) = ⊥

-- how many forms there are under each name
pub record AreRanked (ranks : ℕ → Option ℕ) (sources : List Source) : Type 0 where
  pub counts : (name : ℕ) → unwrap_or (ranks name) 0 ≡ how_many (is_of name) sources
  pub each : AllByRecursion (HasRank sources) sources

-- the number of its name is below this one
abbrev pub IsNamedBelow : ℕ → Source → Type 0
IsNamedBelow names (source.Formula name rank) = name < names
IsNamedBelow names (source.BuiltIn built) = ⊥

-- names are there once, and those of formulas and variables are there
pub record AreNamed (names : List Text) (sources : List Source) (variables : List (List ℕ))
    : Type 0 where
  pub distinct : IsDistinct (pointwise nat_eq) names
  pub of_forms : AllByRecursion (IsNamedBelow (length names)) sources
  pub of_variables : AllByRecursion (AllByRecursion (λ name. name < length names)) variables

-- what holds of it: each form has a source, and what is counted is counted right
pub record IsReading (r : Reading) : Type 0 where
  pub named : AreNamed r.names.keys r.sources.keys r.variables
  pub ranked : AreRanked (get nat_eq r.ranks) r.sources.keys
  pub sources : length r.sources.keys ≡ length r.forms
  pub few : AreFew r.forms
  pub atoms : r.atoms ≡ sum_by atoms_in r.forms
  pub places : r.places ≡ places r.tables

-- what was read
abbrev pub progress_of : Reading → Progress
progress_of r = record {
  tables = r.tables;
  forms = r.forms;
  citations = map (citation_at r.names.keys r.tables) r.sources.keys;
  variables = map (map (name_at r.names.keys)) r.variables;
  goal = r.goal;
}

-- with the forms of a premise, whose symbols and constants are there
abbrev pub given : Progress → Fof → List Form → Progress
given p fof forms = record {
  tables = p.tables;
  forms = p.forms ++ forms;
  citations = p.citations ++ further fof.name p.citations (length forms);
  variables = p.variables ++ universal_names fof.formula;
  goal = p.goal;
}

-- the greatest number to which atoms are counted
abbrev pub most_counted : ℕ
most_counted = 18446744073709551615

-- the formulas of some problem gave this
pub record IsReadFrom (p : Progress) : Type 0 where
  pub problem : List Fof
  pub allowed : AllByRecursion FofIsAllowed problem
  pub taken : AreTaken nothing_read problem
  pub is : p ≡ after_formulas nothing_read problem

-- why a formula of a problem is refused that is refused by itself
abbrev pub why_of : FormRefusal → TaskWhy
why_of (form.NotCoherent node) = NotCoherent node
why_of form.TooWide = TooWide
why_of form.Memory = Memory

-- the refusal of a formula; want of memory has the number 0
abbrev pub refusal_at : ℕ → TaskWhy → TaskRefusal
refusal_at formula Memory = record { formula = 0; why = Memory }
refusal_at formula why = record { formula = formula; why = why }

-- why a formula is not read behind tables: it is refused, or the symbols have too many argument
-- places with it
abbrev pub IsUnread : Tables → Formula → TaskWhy → Type 0
IsUnread tables f (NotCoherent node) = IsRefused f (form.NotCoherent node)
IsUnread tables f TooWide = IsRefused f form.TooWide
    ⊎ (IsReadable f × (places (with_names f tables) ≤ MOST_PLACES → ⊥))
IsUnread tables f _ = ⊥
