-- The atoms of a form that fits can be written.
use Rattle.std.proofs.Common.{◌≡◌, ℕ, ◌+◌, List, [], ◌∷◌, ◌++◌, map, length, slice_get, Some, refl, ap, sym, ◌∙◌, subst}
use Rattle.std.specs.List.{AllByRecursion}
use Rattle.text_core.specs.Numbered.{Tables}
use Rattle.text_core.proofs.Laws.{each_map, each_both}
use Rattle.logic_core.specs.Forms.{SlotIsBelow, AtomIsBelow}
use Rattle.logic_core.specs.declared.form.Slot.{Slot}
use Rattle.logic_core.specs.declared.form.Slot.TheVariants.{Variable, Constant}
use Rattle.logic_core.specs.declared.form.Atom.{Atom}
use Rattle.logic_core.specs.declared.form.Form.{Form}
use Rattle.coherent_form.specs.Fitting.{AtomFits, FormFits}
use Rattle.isar_text.specs.FormTexts.{SlotIsNamed, AtomIsThere}

module _ (tables : Tables) where
  slot_named : (n : ℕ) (s : Slot) → SlotIsBelow n (length tables.constants) s → SlotIsNamed (length tables.constants) s
  slot_named n (Variable i) h = tt
  slot_named n (Constant c) h = h

  atom_there : (n : ℕ) (atom : Atom) → AtomFits tables atom → AtomIsBelow n (length tables.constants) atom → AtomIsThere tables atom
  atom_there n atom fits below = record { symbol = fits.there; args = each_map (slot_named n) atom.args below }

  -- the premises
  pub premises_there : (form : Form) → FormFits tables form → (seen : List Atom) → seen ≡ form.premises → AllByRecursion (AtomIsThere tables) seen
  premises_there form h seen is =
      subst (AllByRecursion (AtomIsThere tables)) (sym is) (each_both {R = AtomIsThere tables} (atom_there form.universals) form.premises h.premises h.formed.premises)

  -- the disjuncts
  pub disjuncts_there : (form : Form) → FormFits tables form → (seen : List (List Atom)) → seen ≡ form.disjuncts
      → AllByRecursion (AllByRecursion (AtomIsThere tables)) seen
  disjuncts_there form h seen is =
      subst (AllByRecursion (AllByRecursion (AtomIsThere tables))) (sym is)
      (each_both {R = AllByRecursion (AtomIsThere tables)}
      (λ atoms fits below. each_both {R = AtomIsThere tables} (atom_there (form.universals + form.existentials)) atoms fits below)
      form.disjuncts h.disjuncts h.formed.disjuncts)
