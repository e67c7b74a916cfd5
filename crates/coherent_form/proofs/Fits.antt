-- Forms fit the tables after the reading that gives them, and longer tables.
use Rattle.std.proofs.Common.{◌≡◌, ℕ, zero, suc, ◌+◌, ◌<◌, ◌≤◌, Bool, true, List, [], ◌∷◌, ◌++◌, length, slice_get, refl, sym, ap, subst, ◌∙◌, arith, length-append}
use Rattle.std.proofs.lemmas.List.{length-map}
use Rattle.std.specs.List.{AllByRecursion}
use Rattle.text_core.specs.Names.{Text}
use Rattle.text_core.specs.Numbered.{Symbol, Tables}
use Rattle.text_core.proofs.Laws.{each_map, each_both}
use Rattle.logic_core.specs.Allowed.{IsBoundIn}
use Rattle.logic_core.specs.Forms.{SlotIsBelow, AtomIsBelow, IsWellFormed}
use Rattle.logic_core.specs.declared.formula.Formula.{Formula, True, False, Pred, Equal, Not', And', Or', Binary', ForAll', Exists'}
use Rattle.logic_core.specs.declared.form.Slot.{Slot}
use Rattle.logic_core.specs.declared.form.Slot.TheVariants as slot
use Rattle.logic_core.specs.declared.form.Atom.{Atom}
use Rattle.logic_core.specs.declared.form.Form.{Form}
use Rattle.coherent_form.specs.BuiltIns.{arity_or_zero, arity_in}
use Rattle.coherent_form.specs.Fitting.{AtomFits, FormFits}
use Rattle.coherent_form.specs.Offending.{is_atom}
use Rattle.coherent_form.specs.Reading.{Extends, slot_moved, atom_moved, slot_of, symbol_of, atom_of}
use Rattle.coherent_form.specs.Wide.{FormIsNarrow, Reads}
use Rattle.coherent_form.proofs.Below.{Covers, FormHas, forms_have}
use Rattle.coherent_form.proofs.Names.{HasNames, extends_same, symbol_found}
use Rattle.coherent_form.proofs.Readings.{names_there, forms_formed}

-- an item keeps its number where the list grows
get_kept : {X : Type 0} (xs ys : List X) (i : ℕ) → i < length xs → slice_get (xs ++ ys) i ≡ slice_get xs i
get_kept [] ys i h = absurd (omega arith)
get_kept (x ∷ xs) ys zero h = refl
get_kept (x ∷ xs) ys (suc i) h = get_kept xs ys i (omega arith)

module _ (tables longer : Tables) (extends : Extends tables longer) where
  -- a list that is longer is no shorter
  constants_more : length tables.constants ≤ length longer.constants
  constants_more =
      let count : length longer.constants ≡ length tables.constants + length (extends.constants).0
      = ap length (extends.constants).1 ∙ length-append tables.constants (extends.constants).0 in omega arith

  -- nor are the symbols
  symbols_more : length tables.symbols ≤ length longer.symbols
  symbols_more =
      let count : length longer.symbols ≡ length tables.symbols + length (extends.symbols).0
      = ap length (extends.symbols).1 ∙ length-append tables.symbols (extends.symbols).0 in omega arith

  -- a slot stays below
  slot_longer : (n : ℕ) (s : Slot) → SlotIsBelow n (length tables.constants) s → SlotIsBelow n (length longer.constants) s
  slot_longer n (slot.Variable v) h = h
  slot_longer n (slot.Constant c) h = let more = constants_more in omega arith

  -- an atom stays below
  atom_longer : (n : ℕ) (a : Atom) → AtomIsBelow n (length tables.constants) a → AtomIsBelow n (length longer.constants) a
  atom_longer n a h = each_map (slot_longer n) a.args h

  -- a form stays well-formed
  pub formed_longer : (form : Form) → IsWellFormed (length tables.constants) form → IsWellFormed (length longer.constants) form
  formed_longer form h = record {
    premises = each_map {Q = AtomIsBelow form.universals (length longer.constants)} (atom_longer form.universals) form.premises h.premises;
    disjuncts = each_map {Q = AllByRecursion (AtomIsBelow (form.universals + form.existentials) (length longer.constants))}
        (λ atoms all. each_map {Q = AtomIsBelow (form.universals + form.existentials) (length longer.constants)}
        (atom_longer (form.universals + form.existentials)) atoms all) form.disjuncts h.disjuncts;
  }

  -- a symbol that is there keeps its arity
  arity_longer : (symbol : ℕ) → symbol < length tables.symbols + 1 → arity_in longer symbol ≡ arity_in tables symbol
  arity_longer zero h = refl
  arity_longer (suc n) h = ap (λ (symbols : List Symbol). arity_or_zero (slice_get symbols n)) (extends.symbols).1
      ∙ ap arity_or_zero (get_kept tables.symbols (extends.symbols).0 n (omega arith))

  -- an atom still fits
  fits_longer : (a : Atom) → AtomFits tables a → AtomFits longer a
  fits_longer a h =
      let more = symbols_more in let there = h.there in record {
        there = omega arith;
        arity = h.arity ∙ sym (arity_longer a.symbol h.there);
      }

-- a form that fits tables fits longer ones
pub fit_longer : (tables longer : Tables) (form : Form) → Extends tables longer → FormFits tables form → FormFits longer form
fit_longer tables longer form extends h = record {
  formed = formed_longer tables longer extends form h.formed;
  narrow = h.narrow;
  premises = each_map {Q = AtomFits longer} (fits_longer tables longer extends) form.premises h.premises;
  disjuncts = each_map {Q = AllByRecursion (AtomFits longer)}
      (λ atoms all. each_map {Q = AtomFits longer} (fits_longer tables longer extends) atoms all) form.disjuncts h.disjuncts;
}

module _ (tables : Tables) where
  -- an atom fits, however many variables there are
  abbrev Fits : ℕ → Atom → Type 0
  Fits n atom = AtomFits tables atom

  -- it fits among more variables
  fits_grows : (m most : ℕ) (a : Atom) → m ≤ most → Fits m a → Fits most a
  fits_grows m most a le h = h

  -- and where its variables are moved
  fits_moves : (n m k most : ℕ) (a : Atom) → m + k ≤ most → Fits m a → Fits most (atom_moved n k a)
  fits_moves n m k most a le h = record { there = h.there; arity = length-map a.args (slot_moved n k) ∙ h.arity }

  -- the atom of a predicate that is found fits
  predicate_fits : (scope : List Text) (positive : Bool) (f : Formula) (number : ℕ) → symbol_of tables f ≡ suc number → number < length tables.symbols
      → (arity : ℕ) → arity_or_zero (slice_get tables.symbols number) ≡ arity → length (atom_of tables scope positive f).args ≡ arity
      → AtomFits tables (atom_of tables scope positive f)
  predicate_fits scope positive f number is below arity at count = record {
    there = omega arith;
    arity = count ∙ sym at ∙ ap (arity_in tables) (sym is);
  }

  -- an atom of a formula whose names are there fits
  fits_base : (bound scope : List Text) (positive : Bool) (f : Formula) → is_atom f ≡ true → Covers bound scope → IsBoundIn bound f → HasNames tables f
      → Fits (length scope) (atom_of tables scope positive f)
  fits_base bound scope positive (Pred p ts) is covers closed names =
      let found = symbol_found tables tables (extends_same tables) p (length ts) names.0 in
      predicate_fits scope positive (Pred p ts) found.number found.is found.below (length ts) (ap arity_or_zero found.at) (length-map ts (slot_of tables scope))
  fits_base bound scope positive (Equal t u) is covers closed names = record { there = omega arith; arity = refl }
  fits_base bound scope positive True is covers closed names = absurd (cc)
  fits_base bound scope positive False is covers closed names = absurd (cc)
  fits_base bound scope positive (Not' _ row) is covers closed names = absurd (cc)
  fits_base bound scope positive (And' _ row) is covers closed names = absurd (cc)
  fits_base bound scope positive (Or' _ row) is covers closed names = absurd (cc)
  fits_base bound scope positive (Binary' op _ row _ more) is covers closed names = absurd (cc)
  fits_base bound scope positive (ForAll' xs _ row) is covers closed names = absurd (cc)
  fits_base bound scope positive (Exists' xs _ row) is covers closed names = absurd (cc)

  -- a form is within the limits, its atoms fit, and its variables and constants are there
  abbrev HasFitting : Form → Type 0
  HasFitting form = FormHas Fits fits_grows fits_moves 0 form

  -- such a form fits
  form_fits : (form : Form) → FormIsNarrow form → HasFitting form × IsWellFormed (length tables.constants) form → FormFits tables form
  form_fits form narrow h = record { formed = h.1; narrow = narrow; premises = h.0.premises; disjuncts = h.0.disjuncts }

-- the forms that a closed formula is read as fit the tables after the reading
pub reads_fit : (tables after : Tables) (f : Formula) (forms : List Form) → IsBoundIn [] f → Reads tables f forms after → AllByRecursion (FormFits after) forms
reads_fit tables after f forms closed reads =
    let names = names_there tables after f forms reads in
    let have = forms_have (Fits after) (fits_grows after) (fits_moves after) after (fits_base after) f [] [] reads.coherent (λ x among. among) closed names in
    let fitting : AllByRecursion (HasFitting after) forms = subst (AllByRecursion (HasFitting after)) (sym reads.forms_are) have in
    each_both {R = FormFits after} (form_fits after) forms reads.narrow.each
    (each_both {R = λ form. HasFitting after form × IsWellFormed (length after.constants) form} (λ form a b. (a, b)) forms fitting (forms_formed tables after f forms reads closed))
