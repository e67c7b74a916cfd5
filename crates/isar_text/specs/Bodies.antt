-- The Isar text of a proof of a task.
use Rattle.std.specs.Prelude.{ℕ, zero, suc, ◌+◌, ◌-◌, List, [], ◌∷◌, ◌++◌, map, length, slice_get, unwrap_or, Option, Some, None, codes}
use Rattle.std.specs.Fmt.{decimal}
use Rattle.text_core.specs.Names.{Text}
use Rattle.tptp_lexer.specs.Written.{joined_texts}
use Rattle.logic_core.specs.declared.form.Atom.{Atom}
use Rattle.vernacular_tree.specs.Contexts.{parameters, atom_at, start_context, with_facts}
use Rattle.vernacular_tree.specs.declared.context.Context.{Context}
use Rattle.vernacular_tree.specs.declared.tree.Mp.{Mp}
use Rattle.vernacular_tree.specs.declared.tree.Body.{Body}
use Rattle.vernacular_tree.specs.declared.tree.End as tree
use Rattle.vernacular_tree.specs.declared.tree.End.{Row_of-Body, end_of-Body, more_of-Body}
use Rattle.coherent_form.specs.Tasks.{CitedTask, proof_task}
use Rattle.proof_text.specs.declared.body.NamedAtom.{NamedAtom}
use Rattle.proof_text.specs.declared.body.Shown as Shown
use Rattle.proof_text.specs.declared.body.ArgsText as ArgsText
use Rattle.proof_text.specs.declared.body.ArgsText.TheVariants.{Listed, Named}
use Rattle.proof_text.specs.declared.body.MpText.{MpText}
use Rattle.proof_text.specs.declared.part.Edition.TheVariants.{First}
use Rattle.proof_text.specs.Branches.{named_facts}
use Rattle.proof_text.specs.Canonical.{indent}
use Rattle.proof_text.specs.Printing.{printed}
use Rattle.proof_text.specs.ScriptOf.{names_in, form_of, step_of, after_step_of, after_steps, lists_in, first_list, other_lists}
use Rattle.isar_text.specs.Names.{isar_name}
use Rattle.isar_text.specs.Formulas.{atom_text, facts_text, line_text}
use Rattle.isar_text.specs.FirstLines.{first_with, first_falsum}
use Rattle.isar_text.specs.Heads.{line_label, form_label, line_feed, quoted, spaced, isar_head}

-- the end of most lines
abbrev pub by_blast : Text
by_blast = codes " by blast" ++ line_feed

-- names in brackets
abbrev pub names_text : List Text → Text
names_text names = codes "[" ++ joined_texts (codes ",") (map isar_name names) ++ codes "]"

-- the labels of lines, a blank before each
abbrev pub labels_text : List ℕ → Text
labels_text lines = spaced (map line_label lines)

-- the labels that an end uses; nothing where there are none
abbrev pub used_text : List ℕ → Text
used_text [] = []
used_text (line ∷ lines) = codes " using" ++ labels_text (line ∷ lines)

-- where the word of a step is, and its new names
abbrev pub opening_text : List Text → Text
opening_text [] = codes "have "
opening_text (name ∷ names) = codes "obtain" ++ spaced (map isar_name (name ∷ names)) ++
    codes " where "

-- the line of a step, where it is shown, and its instance, where names are listed
abbrev pub shown_text : Option Shown.Shown → Text
shown_text None = []
shown_text (Some line) = line_text line

abbrev pub args_text : ArgsText.ArgsText → Text
args_text (Listed names) = names_text names
args_text (Named binds) = []

-- a step so many cases deep that gives the line with this number, by the form with this number and
-- by these lines
abbrev pub step_text : ℕ → ℕ → ℕ → List ℕ → MpText → Text
step_text level number form used step =
    indent (level + 1) ++ opening_text step.fresh ++ line_label number ++ codes ": " ++
    quoted (shown_text step.shown) ++ codes " using " ++ form_label form ++ labels_text used ++
    codes " (* " ++ args_text step.args ++ codes " *)" ++ by_blast

-- the first lines with these atoms of a form at elements
abbrev pub lines_with : Context → List ℕ → List Atom → List ℕ
lines_with context elements atoms =
    map (λ atom. first_with context.lines (atom_at elements atom)) atoms

-- steps in order
abbrev pub steps_text : ℕ → CitedTask → List Mp → Context → Text
steps_text level task [] context = []
steps_text level task (step ∷ steps) context =
    step_text level (length context.lines) step.form
    (lines_with context step.args (form_of task step.form).premises)
    (step_of First task context step) ++
    steps_text level task steps (after_step_of task context step)

-- the first words of an end
abbrev pub thesis_text : ℕ → Text
thesis_text level = indent (level + 1) ++ codes "show ?thesis"

-- the atoms of the goal's disjunct with a number from 1
abbrev pub disjunct_of : CitedTask → ℕ → List Atom
disjunct_of task disjunct = unwrap_or (slice_get task.goal.disjuncts (disjunct - 1)) []

-- the end by a disjunct of the goal, which uses these lines
abbrev pub as_text : ℕ → List ℕ → ℕ → List Text → Text
as_text level used disjunct names =
    thesis_text level ++ used_text used ++ codes " (* as " ++ decimal disjunct ++ codes " " ++
    names_text names ++ codes " *)" ++ by_blast

-- the end by falsehood
abbrev pub efq_text : ℕ → ℕ → Text
efq_text level line =
    thesis_text level ++ used_text (line ∷ []) ++ codes " (* efq *)" ++ by_blast

-- what is before the cases of a split, between two of them, and behind them
abbrev pub split_text : ℕ → ℕ → Text
split_text level line = thesis_text level ++ used_text (line ∷ []) ++ line_feed ++
    indent (level + 1) ++ codes "proof (elim disjE)" ++ line_feed

abbrev pub next_text : ℕ → Text
next_text level = indent (level + 1) ++ codes "next" ++ line_feed

abbrev pub qed_text : ℕ → Text
qed_text level = indent level ++ codes "qed" ++ line_feed

-- the first line of a case, with its facts
abbrev pub case_line : ℕ → ℕ → List NamedAtom → Text
case_line level number facts =
    indent (level + 1) ++ codes "assume " ++ line_label number ++ codes ": " ++
    quoted (facts_text (map atom_text facts)) ++ line_feed

abbrev mutual
  -- an end
  pub end_text : ℕ → CitedTask → tree.End → Context → Text
  end_text level task (tree.As disjunct args) context =
      as_text level (lines_with context (parameters (proof_task task) ++ args)
      (disjunct_of task disjunct)) disjunct (map (printed task) args)
  end_text level task tree.Efq context = efq_text level (first_falsum context.lines)
  end_text level task (tree.Cs' line _ branches) context =
      split_text level line ++
      joined_texts (next_text level) (case_texts (level + 1) task branches
      (lists_in (slice_get context.lines line)) context) ++ qed_text (level + 1)

  -- a case for each branch, with its list of facts
  pub case_texts : {n : _} → ℕ → CitedTask → Row_of-Body n → List (List Atom) → Context → List Text
  case_texts level task end_of-Body lists context = []
  case_texts level task (more_of-Body steps end rest) lists context =
      let inner = with_facts context (first_list lists) in
      (case_line level (length context.lines)
      (named_facts task.tables (names_in task context) (first_list lists)) ++
      steps_text level task steps inner ++
      end_text level task end (after_steps task steps inner)) ∷
      case_texts level task rest (other_lists lists) context

-- a body, so many cases deep
abbrev pub body_text : ℕ → CitedTask → Body → Context → Text
body_text level task body context =
    steps_text level task body.steps context ++
    end_text level task body.end (after_steps task body.steps context)

-- the text of a proof
abbrev pub isar_proof : CitedTask → Body → Text
isar_proof task body =
    isar_head task ++ body_text 0 task body (start_context (proof_task task)) ++ qed_text 0
