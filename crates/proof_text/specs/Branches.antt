-- What is known at a point of a branch of a script: the context, and a name for each element. How
-- the lines of a context are shown with these names.
use Rattle.std.specs.Prelude.{ℕ, zero, suc, List, [], ◌∷◌, ◌++◌, map, slice_get, Option, None, position, codes}
use Rattle.std.specs.Option.{option_map}
use Rattle.std.specs.Str.{bytes_eq}
use Rattle.text_core.specs.Names.{Text}
use Rattle.text_core.specs.Numbered.{Tables}
use Rattle.text_core.specs.Lists.{IsAmong}
use Rattle.logic_core.specs.declared.form.Slot.{Slot}
use Rattle.logic_core.specs.declared.form.Slot.TheVariants.{Variable, Constant}
use Rattle.logic_core.specs.declared.form.Atom.{Atom}
use Rattle.logic_core.specs.declared.form.Form.{Form}
use Rattle.vernacular_tree.specs.Contexts.{counted, atom_at, line_of, start_context, with_facts, after_mp}
use Rattle.vernacular_tree.specs.declared.context.Line as Line
use Rattle.vernacular_tree.specs.declared.context.Line.TheVariants as line
use Rattle.vernacular_tree.specs.declared.context.Context.{Context}
use Rattle.coherent_form.specs.Kept.{name_at}
use Rattle.coherent_form.specs.Tasks.{CitedTask, proof_task}
use Rattle.proof_text.specs.declared.body.NamedAtom.{NamedAtom}
use Rattle.proof_text.specs.declared.body.Shown as Shown
use Rattle.proof_text.specs.declared.body.Shown.TheVariants as shown

-- a context, in which the name with a number is that of the element with this number
pub record Branch : Type 0 where
  pub context : Context
  pub names : List Text

-- the element with a name
abbrev pub element_of : List Text → Text → Option ℕ
element_of names name = position (bytes_eq name) names

-- the name of an argument of a line's atom, which is an element
abbrev pub slot_name : List Text → Slot → Text
slot_name names (Variable i) = []
slot_name names (Constant e) = name_at names e

-- the name of a symbol; equality has none
abbrev pub predicate_of : Tables → ℕ → Option Text
predicate_of tables zero = None
predicate_of tables (suc n) = option_map (λ symbol. symbol.name) (slice_get tables.symbols n)

-- how an atom of a line is shown
abbrev pub named_atom : Tables → List Text → Atom → NamedAtom
named_atom tables names atom = record {
  positive = atom.positive;
  predicate = predicate_of tables atom.symbol;
  args = map (slot_name names) atom.args;
}

abbrev pub named_facts : Tables → List Text → List Atom → List NamedAtom
named_facts tables names facts = map (named_atom tables names) facts

-- how a line is shown
abbrev pub shown_line : Tables → List Text → Line.Line → Shown.Shown
shown_line tables names (line.Facts facts) = shown.Facts (named_facts tables names facts)
shown_line tables names (line.Cases lists) = shown.Cases (map (named_facts tables names) lists)
shown_line tables names line.Falsum = shown.Falsum

-- a single element is named w0
abbrev pub or_single : List Text → List Text
or_single [] = codes "w0" ∷ []
or_single (name ∷ names) = name ∷ names

-- the names of the start elements: the constants and the taken names
abbrev pub start_names : CitedTask → List Text → List Text
start_names task take = or_single (task.tables.constants ++ take)

-- where the proof begins
abbrev pub start_branch : CitedTask → List Text → Branch
start_branch task take =
    record { context = start_context (proof_task task); names = start_names task take }

-- where it goes on after a form was applied, with these names for the new elements
abbrev pub after_step : Branch → Form → List ℕ → List Text → Branch
after_step branch form args fresh =
    record { context = after_mp branch.context form args; names = branch.names ++ fresh }

-- where the proof of a case begins
abbrev pub with_case : Branch → List Atom → Branch
with_case branch facts =
    record { context = with_facts branch.context facts; names = branch.names }

-- the line that a form gives
abbrev pub given_line : Context → Form → List ℕ → Line.Line
given_line context form args = line_of (map
    (map (atom_at (args ++ counted context.elements form.existentials))) form.disjuncts)

-- further names differ from those that there are, and from one another
abbrev pub AreNew : List Text → List Text → Type 0
AreNew names [] = Unit {0}
AreNew names (name ∷ fresh) = (IsAmong name names → ⊥) × AreNew (names ++ name ∷ []) fresh
