-- The limits of the forms that a formula is read as, and when a formula is read as these forms.
use Rattle.std.specs.Prelude.{ℕ, ◌+◌, ◌≤◌, ◌≡◌, min, List, [], length}
use Rattle.std.specs.List.{AllByRecursion, sum_by}
use Rattle.text_core.specs.declared.limits.TheConstants.{MOST_FORMULA_FORMS, MOST_FORM_VARIABLES, MOST_FORM_ATOMS, MOST_ARGUMENTS}
use Rattle.text_core.specs.Numbered.{Tables}
use Rattle.logic_core.specs.declared.formula.Formula.{Formula}
use Rattle.logic_core.specs.declared.form.Atom.{Atom}
use Rattle.logic_core.specs.declared.form.Form.{Form}
use Rattle.coherent_form.specs.Offending.{IsCoherent, Offends}
use Rattle.coherent_form.specs.Reading.{with_names, forms_of}
use Rattle.coherent_form.specs.declared.refusal.FormRefusal.{FormRefusal}
use Rattle.coherent_form.specs.declared.refusal.FormRefusal.TheVariants.{NotCoherent, TooWide, Memory}

abbrev pub AtomIsNarrow : Atom → Type 0
AtomIsNarrow atom = length atom.args ≤ MOST_ARGUMENTS

-- a form is within the limits
pub record FormIsNarrow (form : Form) : Type 0 where
  pub variables : form.universals + form.existentials ≤ MOST_FORM_VARIABLES
  pub atoms : length form.premises + sum_by length form.disjuncts ≤ MOST_FORM_ATOMS
  pub premises : AllByRecursion AtomIsNarrow form.premises
  pub disjuncts : AllByRecursion (AllByRecursion AtomIsNarrow) form.disjuncts

-- the forms of a formula are within the limits
pub record AreNarrow (forms : List Form) : Type 0 where
  pub few : length forms ≤ MOST_FORMULA_FORMS
  pub each : AllByRecursion FormIsNarrow forms

-- a coherent formula gives forms that are not within the limits, in whatever way the symbols and
-- constants are numbered
pub record IsWide (f : Formula) : Type 0 where
  pub coherent : IsCoherent f
  pub wide : (tables : Tables) → AreNarrow (forms_of tables [] f) → ⊥

-- a formula is read as these forms, from these tables to those after it
pub record Reads (tables : Tables) (f : Formula) (forms : List Form) (after : Tables) : Type 0 where
  pub coherent : IsCoherent f
  pub after_is : after ≡ with_names f tables
  pub forms_are : forms ≡ forms_of after [] f
  pub narrow : AreNarrow forms

-- a formula is read as some forms, in whatever way the symbols and constants are numbered
pub record IsReadable (f : Formula) : Type 0 where
  pub coherent : IsCoherent f
  pub narrow : (tables : Tables) → AreNarrow (forms_of tables [] f)

-- a node's number as it is told
abbrev pub told : ℕ → ℕ
told node = min node 4294967295

-- why a formula is refused
abbrev pub IsRefused : Formula → FormRefusal → Type 0
IsRefused f (NotCoherent node) = (first : ℕ) × Offends f first × (node ≡ told first)
IsRefused f TooWide = IsWide f
IsRefused f Memory = ⊥
