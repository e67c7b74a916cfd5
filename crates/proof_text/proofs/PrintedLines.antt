-- Lines shown with the names of a context's elements are shown with printed names.
use Rattle.std.proofs.Common.{◌≡◌, ℕ, zero, suc, ◌+◌, ◌<◌, List, map, slice_get, Some, refl, ap, arith}
use Rattle.std.specs.List.{AllByRecursion}
use Rattle.text_core.specs.Names.{Text}
use Rattle.text_core.specs.Numbered.{text_or_empty}
use Rattle.text_core.proofs.Laws.{each_map, each_same}
use Rattle.logic_core.specs.Forms.{SlotIsBelow}
use Rattle.logic_core.specs.declared.form.Slot.{Slot}
use Rattle.logic_core.specs.declared.form.Slot.TheVariants.{Variable, Constant}
use Rattle.logic_core.specs.declared.form.Atom.{Atom}
use Rattle.vernacular_tree.specs.Carries.{HasElements}
use Rattle.vernacular_tree.specs.Contexts.{counted}
use Rattle.vernacular_tree.specs.Witnessed.{LineIsBelow}
use Rattle.vernacular_tree.specs.declared.context.Line as Line
use Rattle.vernacular_tree.specs.declared.context.Line.TheVariants as line
use Rattle.coherent_form.specs.Tasks.{CitedTask}
use Rattle.proof_text.specs.declared.body.Shown.TheVariants as shown
use Rattle.proof_text.specs.Branches.{slot_name, predicate_of, named_atom, named_facts, shown_line}
use Rattle.proof_text.specs.Printing.{printed, printed_slot, printed_atom, printed_facts, printed_line}

-- the image of a number of a row
get_image : (f : ℕ → Text) (first n i e : ℕ) → e ≡ first + i → i < n → slice_get (map f (counted first n)) i ≡ Some (f e)
get_image f first zero i e is below = absurd (omega arith)
get_image f first (suc n) zero e is below = let same : first ≡ e = omega arith in ap (λ (k : ℕ). Some (f k)) same
get_image f first (suc n) (suc i) e is below = get_image f (first + 1) n i e (omega arith) (omega arith)

module _ (task : CitedTask) (n : ℕ) where
  -- the names of so many elements
  abbrev names : List Text
  names = map (printed task) (counted 0 n)

  -- an argument is shown by its printed name
  slot_shown : (s : Slot) → SlotIsBelow 0 n s → slot_name names s ≡ printed_slot task s
  slot_shown (Variable i) h = refl
  slot_shown (Constant e) h = ap text_or_empty (get_image (printed task) 0 n e e (omega arith) h)

  -- an atom is shown with printed names
  atom_shown : (atom : Atom) → HasElements n atom → named_atom task.tables names atom ≡ printed_atom task atom
  atom_shown atom h =
      ap (λ (args : List Text). record { positive = atom.positive; predicate = predicate_of task.tables atom.symbol; args = args })
      (each_same (slot_name names) (printed_slot task) atom.args (each_map slot_shown atom.args h))

  -- facts are shown with printed names
  pub facts_shown : (facts : List Atom) → AllByRecursion (HasElements n) facts → named_facts task.tables names facts ≡ printed_facts task facts
  facts_shown facts h = each_same (named_atom task.tables names) (printed_atom task) facts (each_map atom_shown facts h)

  -- a line is shown with printed names
  pub line_shown : (l : Line.Line) → LineIsBelow n l → shown_line task.tables names l ≡ printed_line task l
  line_shown (line.Facts facts) h = ap shown.Facts (facts_shown facts h)
  line_shown (line.Cases lists) h =
      ap shown.Cases (each_same (named_facts task.tables names) (printed_facts task) lists (each_map facts_shown lists h))
  line_shown line.Falsum h = refl
