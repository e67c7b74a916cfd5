-- The printed names of elements, and how lines are shown with them.
use Rattle.std.specs.Prelude.{ℕ, List, [], map}
use Rattle.text_core.specs.Names.{Text}
use Rattle.logic_core.specs.declared.form.Slot.{Slot}
use Rattle.logic_core.specs.declared.form.Slot.TheVariants.{Variable, Constant}
use Rattle.logic_core.specs.declared.form.Atom.{Atom}
use Rattle.vernacular_tree.specs.declared.context.Line as Line
use Rattle.vernacular_tree.specs.declared.context.Line.TheVariants as line
use Rattle.coherent_form.specs.ElementNames.{element_name}
use Rattle.coherent_form.specs.Tasks.{CitedTask}
use Rattle.proof_text.specs.declared.body.NamedAtom.{NamedAtom}
use Rattle.proof_text.specs.declared.body.Shown as Shown
use Rattle.proof_text.specs.declared.body.Shown.TheVariants as shown
use Rattle.proof_text.specs.Branches.{predicate_of}

-- the printed name of an element
abbrev pub printed : CitedTask → ℕ → Text
printed task element = element_name task.tables.constants element

-- that of an argument of a line's atom, which is an element
abbrev pub printed_slot : CitedTask → Slot → Text
printed_slot task (Variable i) = []
printed_slot task (Constant e) = printed task e

-- an atom of a line, facts and a line
abbrev pub printed_atom : CitedTask → Atom → NamedAtom
printed_atom task atom = record {
  positive = atom.positive;
  predicate = predicate_of task.tables atom.symbol;
  args = map (printed_slot task) atom.args;
}

abbrev pub printed_facts : CitedTask → List Atom → List NamedAtom
printed_facts task facts = map (printed_atom task) facts

abbrev pub printed_line : CitedTask → Line.Line → Shown.Shown
printed_line task (line.Facts facts) = shown.Facts (printed_facts task facts)
printed_line task (line.Cases lists) = shown.Cases (map (printed_facts task) lists)
printed_line task line.Falsum = shown.Falsum
