-- The head of the Isar text of a task: its start elements, its forms, line 0 and the goal.
use Rattle.std.specs.Prelude.{ℕ, ◌+◌, List, [], ◌∷◌, ◌++◌, map, codes}
use Rattle.std.specs.Fmt.{decimal}
use Rattle.text_core.specs.Names.{Text}
use Rattle.text_core.specs.Numbered.{Tables}
use Rattle.logic_core.specs.declared.form.Atom.{Atom}
use Rattle.logic_core.specs.declared.form.Form.{Form}
use Rattle.vernacular_tree.specs.Contexts.{counted, parameters, atom_at, start_context}
use Rattle.coherent_form.specs.Tasks.{CitedTask, proof_task, start_elements}
use Rattle.proof_text.specs.Branches.{named_facts}
use Rattle.proof_text.specs.Printing.{printed}
use Rattle.proof_text.specs.ScriptOf.{names_in}
use Rattle.isar_text.specs.Names.{isar_name}
use Rattle.isar_text.specs.Formulas.{atom_text, facts_text, form_text, goal_text}

-- the label of a line, and of the form with a number from 0
abbrev pub line_label : ℕ → Text
line_label line = codes "L" ++ decimal line

abbrev pub form_label : ℕ → Text
form_label form = codes "A" ++ decimal (form + 1)

-- a line feed (10)
abbrev pub line_feed : Text
line_feed = 10 ∷ []

-- what stands in quotes (34)
abbrev pub quoted : Text → Text
quoted text = 34 ∷ (text ++ 34 ∷ [])

-- an element by its printed name
abbrev pub element_text : CitedTask → ℕ → Text
element_text task element = isar_name (printed task element)

-- texts with a blank before each
abbrev pub spaced : List Text → Text
spaced [] = []
spaced (text ∷ texts) = codes " " ++ text ++ spaced texts

-- a line of the head, behind two blanks
abbrev pub assumption_line : Text → Text → Text
assumption_line label text =
    codes "  assumes " ++ label ++ codes ": " ++ quoted text ++ line_feed

-- the forms from this number on
abbrev pub forms_text : Tables → ℕ → List Form → Text
forms_text tables number [] = []
forms_text tables number (form ∷ forms) =
    assumption_line (form_label number) (form_text tables form) ++
    forms_text tables (number + 1) forms

-- line 0: the goal's premises at the parameters
abbrev pub start_facts : CitedTask → List Text
start_facts task = map atom_text (named_facts task.tables
    (names_in task (start_context (proof_task task)))
    (map (atom_at (parameters (proof_task task))) task.goal.premises))

-- the head
abbrev pub isar_head : CitedTask → Text
isar_head task =
    codes "lemma larus:" ++ line_feed ++
    codes "  fixes" ++ spaced (map (element_text task) (counted 0 (start_elements task))) ++
    line_feed ++ forms_text task.tables 0 task.forms ++
    assumption_line (line_label 0) (facts_text (start_facts task)) ++
    codes "  shows " ++
    quoted (goal_text task.tables (map (element_text task) (parameters (proof_task task)))
    task.goal) ++ line_feed ++ codes "proof -" ++ line_feed
