-- How atoms, lines and forms are written in Isar.
use Rattle.std.specs.Prelude.{ℕ, zero, suc, ◌+◌, Bool, true, false, List, [], ◌∷◌, ◌++◌, map, Option, Some, None, codes, unwrap_or, slice_get}
use Rattle.std.specs.Fmt.{decimal}
use Rattle.text_core.specs.Names.{Text}
use Rattle.text_core.specs.Numbered.{Tables}
use Rattle.tptp_lexer.specs.Written.{joined_texts}
use Rattle.logic_core.specs.declared.form.Slot.{Slot}
use Rattle.logic_core.specs.declared.form.Slot.TheVariants.{Variable, Constant}
use Rattle.logic_core.specs.declared.form.Atom.{Atom}
use Rattle.logic_core.specs.declared.form.Form.{Form}
use Rattle.vernacular_tree.specs.Contexts.{counted}
use Rattle.coherent_form.specs.Kept.{name_at}
use Rattle.proof_text.specs.declared.body.NamedAtom.{NamedAtom}
use Rattle.proof_text.specs.declared.body.Shown as Shown
use Rattle.proof_text.specs.declared.body.Shown.TheVariants.{Falsum, Facts, Cases}
use Rattle.proof_text.specs.Branches.{predicate_of}
use Rattle.isar_text.specs.Names.{isar_name}

-- a predicate with its arguments, which are written already, or an equation
abbrev pub applied_text : Bool → Option Text → List Text → Text
applied_text true (Some p) args = joined_texts (codes " ") (isar_name p ∷ args)
applied_text false (Some p) args = codes "~ " ++ joined_texts (codes " ") (isar_name p ∷ args)
applied_text true None args = joined_texts (codes " = ") args
applied_text false None args = joined_texts (codes " ~= ") args

-- facts, by the texts of their atoms
abbrev pub facts_text : List Text → Text
facts_text [] = codes "True"
facts_text (a ∷ atoms) = joined_texts (codes " & ") (a ∷ atoms)

-- a part of a line of cases: in brackets where it has two atoms or more
abbrev pub part_text : List Text → Text
part_text [] = codes "True"
part_text (a ∷ []) = a
part_text (a ∷ b ∷ atoms) = codes "(" ++ joined_texts (codes " & ") (a ∷ b ∷ atoms) ++ codes ")"

-- a line of lists of atoms: falsehood of none, facts of one, cases of more
abbrev pub lists_text : List (List Text) → Text
lists_text [] = codes "False"
lists_text (facts ∷ []) = facts_text facts
lists_text (facts ∷ more ∷ rest) = joined_texts (codes " | ") (map part_text (facts ∷ more ∷ rest))

-- an atom of a line
abbrev pub atom_text : NamedAtom → Text
atom_text atom = applied_text atom.positive atom.predicate (map isar_name atom.args)

-- a line
abbrev pub lists_in : Shown.Shown → List (List NamedAtom)
lists_in Falsum = []
lists_in (Facts atoms) = atoms ∷ []
lists_in (Cases parts) = parts

abbrev pub line_text : Shown.Shown → Text
line_text line = lists_text (map (map atom_text) (lists_in line))

-- a variable by its number
abbrev pub variable_text : ℕ → Text
variable_text i = codes "X" ++ decimal i

-- a quantifier with as many variables from this number on; nothing where there are none
abbrev pub bound_text : List ℕ → Text
bound_text [] = []
bound_text (i ∷ more) = codes " " ++ variable_text i ++ bound_text more

abbrev pub quantified : Text → ℕ → ℕ → Text
quantified sign first zero = []
quantified sign first (suc count) = sign ++ bound_text (counted first (suc count)) ++ codes ". "

module _ (tables : Tables) (variable : ℕ → Text) where
  -- an argument of a form's atom
  abbrev pub slot_text : Slot → Text
  slot_text (Variable i) = variable i
  slot_text (Constant c) = isar_name (name_at tables.constants c)

  -- an atom of a form
  abbrev pub form_atom : Atom → Text
  form_atom atom =
      applied_text atom.positive (predicate_of tables atom.symbol) (map slot_text atom.args)

  -- the line of a form's disjuncts
  abbrev pub disjuncts_text : List (List Atom) → Text
  disjuncts_text disjuncts = lists_text (map (map form_atom) disjuncts)

  -- the same behind the existential variables, in brackets where there are some
  abbrev pub conclusion_text : ℕ → ℕ → List (List Atom) → Text
  conclusion_text first zero disjuncts = disjuncts_text disjuncts
  conclusion_text first (suc count) disjuncts =
      codes "(" ++ quantified (codes "EX") first (suc count) ++ disjuncts_text disjuncts ++
      codes ")"

  -- the premises in front of the conclusion; nothing where there are none
  abbrev pub premises_text : List Atom → Text
  premises_text [] = []
  premises_text (a ∷ atoms) =
      joined_texts (codes " & ") (map form_atom (a ∷ atoms)) ++ codes " --> "

-- a form
abbrev pub form_text : Tables → Form → Text
form_text tables form =
    quantified (codes "ALL") 0 form.universals ++
    premises_text tables variable_text form.premises ++
    conclusion_text tables variable_text form.universals form.existentials form.disjuncts

-- the goal's conclusion, with these names for its universal variables
abbrev pub goal_text : Tables → List Text → Form → Text
goal_text tables names goal =
    conclusion_text tables (λ i. unwrap_or (slice_get names i) (variable_text i))
    goal.universals goal.existentials goal.disjuncts
