-- Two structures for numbers in which the same holds, and in which the first constants have the same elements.
use Rattle.std.proofs.Common.{◌≡◌, ℕ, ◌+◌, ◌<◌, Bool, List, [], ◌∷◌, ◌++◌, map, refl, sym, ◌∙◌, ap}
use Rattle.std.specs.List.{AllByRecursion}
use Rattle.text_core.proofs.Laws.{each_both, some_both}
use Rattle.logic_core.specs.Forms.{SlotIsBelow, AtomIsBelow, IsWellFormed, AtomTrue, ConclusionTrue, FormTrue, slot_value}
use Rattle.logic_core.specs.declared.form.Slot.{Slot}
use Rattle.logic_core.specs.declared.form.Slot.TheVariants.{Variable, Constant}
use Rattle.logic_core.specs.declared.form.Atom.{Atom}
use Rattle.logic_core.specs.declared.form.Form.{Form}
use Rattle.model_search.proofs.Decisions.{numbers_below}

module _ (n : ℕ) (holds other : ℕ → List ℕ → Bool) (same_holds : (symbol : ℕ) (xs : List ℕ) → holds symbol xs ≡ other symbol xs)
    (place moved : ℕ → ℕ) (constants : ℕ) (same_place : (k : ℕ) → k < constants → place k ≡ moved k) where
  -- a slot of the first constants has the same value in both
  slot_agrees : (values : List ℕ) (count : ℕ) (slot : Slot) → SlotIsBelow count constants slot
      → slot_value (numbers_below n holds place) values slot ≡ slot_value (numbers_below n other moved) values slot
  slot_agrees values count (Variable v) below = refl
  slot_agrees values count (Constant k) below = same_place k below

  slots_agree : (values : List ℕ) (count : ℕ) (slots : List Slot) → AllByRecursion (SlotIsBelow count constants) slots
      → map (slot_value (numbers_below n holds place) values) slots ≡ map (slot_value (numbers_below n other moved) values) slots
  slots_agree values count [] below = refl
  slots_agree values count (slot ∷ slots) below = (λ i. slot_agrees values count slot below.0 i ∷ slots_agree values count slots below.1 i)

  -- an atom is true in the first where it is in the second
  pub atom_agrees : (values : List ℕ) (count : ℕ) (atom : Atom) → AtomIsBelow count constants atom
      → AtomTrue (numbers_below n other moved) values atom → AtomTrue (numbers_below n holds place) values atom
  atom_agrees values count atom below h =
      ap (holds atom.symbol) (slots_agree values count atom.args below)
      ∙ same_holds atom.symbol (map (slot_value (numbers_below n other moved) values) atom.args) ∙ h

  -- and in the second where it is in the first
  pub atom_back : (values : List ℕ) (count : ℕ) (atom : Atom) → AtomIsBelow count constants atom
      → AtomTrue (numbers_below n holds place) values atom → AtomTrue (numbers_below n other moved) values atom
  atom_back values count atom below h =
      sym (ap (holds atom.symbol) (slots_agree values count atom.args below)
      ∙ same_holds atom.symbol (map (slot_value (numbers_below n other moved) values) atom.args)) ∙ h

  -- a conclusion is
  pub conclusion_agrees : (form : Form) → IsWellFormed constants form → (xs : List ℕ)
      → ConclusionTrue (numbers_below n other moved) form xs → ConclusionTrue (numbers_below n holds place) form xs
  conclusion_agrees form formed xs c = record {
    existentials = c.existentials;
    values = record { length_is = c.values.length_is; are = c.values.are };
    holds = some_both (λ atoms below true_atoms. each_both (atom_agrees (xs ++ c.existentials) (form.universals + form.existentials)) atoms below true_atoms)
        form.disjuncts formed.disjuncts c.holds;
  }

  -- a form is
  pub form_agrees : (form : Form) → IsWellFormed constants form
      → FormTrue (numbers_below n other moved) form → FormTrue (numbers_below n holds place) form
  form_agrees form formed h = λ xs are premises. conclusion_agrees form formed xs
      (h xs (record { length_is = are.length_is; are = are.are })
      (each_both (atom_back xs form.universals) form.premises formed.premises premises))
