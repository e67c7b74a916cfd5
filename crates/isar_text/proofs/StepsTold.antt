-- How code writes the steps of a body one after another.
use Rattle.std.proofs.Common.{◌≡◌, ℕ, zero, suc, ◌+◌, ◌<◌, List, [], ◌∷◌, ◌++◌, map, length, take, drop, get_or, slice_get, Some, ap, sym, ◌∙◌, subst, arith, append_assoc}
use Rattle.std.proofs.lemmas.List.{map-append}
use Rattle.std.specs.List.{AllByRecursion}
use Rattle.text_core.specs.Names.{Text}
use Rattle.text_core.proofs.Laws.{each_back, take_next}
use Rattle.logic_core.specs.declared.form.Atom.{Atom}
use Rattle.vernacular_tree.specs.Contexts.{atom_at}
use Rattle.vernacular_tree.specs.Witnessed.{LineIsBelow}
use Rattle.vernacular_tree.specs.declared.context.Line as Line
use Rattle.vernacular_tree.specs.declared.context.Context.{Context}
use Rattle.vernacular_tree.specs.declared.tree.Mp.{Mp}
use Rattle.coherent_form.specs.Kept.{IsRight}
use Rattle.coherent_form.specs.Tasks.{CitedTask}
use Rattle.proof_text.specs.declared.body.Shown as Shown
use Rattle.proof_text.specs.Printing.{printed}
use Rattle.proof_text.specs.ScriptOf.{form_of, fresh_of, line_by, after_step_of}
use Rattle.proof_text.specs.Showing.{IsInside, MayStep}
use Rattle.proof_text.proofs.Inside.{step_inside}
use Rattle.proof_text.proofs.Laws.{dropped}
use Rattle.proof_text.proofs.PrintedLines.{line_shown}
use Rattle.isar_text.specs.FirstLines.{first_with}
use Rattle.isar_text.specs.Bodies.{lines_with, steps_text}
use Rattle.isar_text.specs.Telling.{line_of_step, step_line, mp_text}
use Rattle.isar_text.specs.declared.proof_lines.StepLine.{StepLine}

-- the line that is written for a step is the one that the script shows
mp_written : (level : ℕ) (task : CitedTask) (context : Context) (step : Mp) → IsRight task → IsInside task context → MayStep task context step
    → line_of_step level (step_line task context step) ≡ mp_text level task context step
mp_written level task context step right inside may =
    let after = step_inside task right context step inside may in
    let given : Line.Line = line_by task context step in
    let below = each_back (LineIsBelow (after_step_of task context step).elements) context.lines (given ∷ []) after.is.lines in
    ap (λ (l : Shown.Shown). line_of_step level (record {
      number = length context.lines;
      fresh = map (printed task) (fresh_of task context step);
      line = l;
      form = step.form;
      used = lines_with context step.args (form_of task step.form).premises;
      args = map (printed task) step.args;
    }))
    (sym (line_shown task (after_step_of task context step).elements given below.0))

-- what is appended for a step
pub mp_put : (level : ℕ) (task : CitedTask) (context : Context) (step : Mp) → IsRight task → IsInside task context → MayStep task context step
    → (line : StepLine) → line ≡ step_line task context step → (out all : Text) → all ≡ out ++ line_of_step level line → all ≡ out ++ mp_text level task context step
mp_put level task context step right inside may line is out all all_is =
    all_is ∙ ap (λ (l : StepLine). out ++ line_of_step level l) is ∙ ap (λ (t : Text). out ++ t) (mp_written level task context step right inside may)

-- the line of the first of the steps that are left is behind those before
pub next_line : (task : CitedTask) (level : ℕ) (step : Mp) (rest left : List Mp) → left ≡ step ∷ rest → (before after : Context)
    → after ≡ after_step_of task before step → (out longer all : Text) → longer ≡ out ++ mp_text level task before step
    → out ++ steps_text level task left before ≡ all → longer ++ steps_text level task rest after ≡ all
next_line task level step rest left left_is before after after_is out longer all longer_is so_far =
    (λ i. longer_is i ++ steps_text level task rest (after_is i))
    ∙ append_assoc out (mp_text level task before step) (steps_text level task rest (after_step_of task before step))
    ∙ ap (λ (ss : List Mp). out ++ steps_text level task ss before) (sym left_is)
    ∙ so_far

-- an item that is read by its number
item_read : {X : Type 0} (xs : List X) (n : ℕ) (x : X) → n < length xs → x ≡ get_or xs n x → slice_get xs n ≡ Some x
item_read [] n x below is = absurd (omega arith)
item_read (y ∷ xs) zero x below is = ap (λ z. Some z) (sym is)
item_read (y ∷ xs) (suc n) x below is = item_read xs n x (omega arith) is

-- those that are left behind it
pub others_left : {X : Type 0} (P : X → Type 0) (xs : List X) (n : ℕ) (x : X) → n < length xs → x ≡ get_or xs n x → AllByRecursion P (drop n xs)
    → AllByRecursion P (drop (n + 1) xs)
others_left P xs n x below is h = (subst (AllByRecursion P) (dropped xs n x below is) h).1

-- the first line with one more of the atoms
pub next_with : (context : Context) (elements : List ℕ) (atoms : List Atom) (n : ℕ) (atom : Atom) → n < length atoms → atom ≡ get_or atoms n atom
    → (lines longer : List ℕ) (number : ℕ) → number ≡ first_with context.lines (atom_at elements atom) → longer ≡ lines ++ number ∷ []
    → lines ≡ lines_with context elements (take n atoms) → longer ≡ lines_with context elements (take (n + 1) atoms)
next_with context elements atoms n atom below is lines longer number number_is longer_is lines_are =
    longer_is ∙ (λ i. lines_are i ++ number_is i ∷ [])
    ∙ sym (map-append (λ (a : Atom). first_with context.lines (atom_at elements a)) (take n atoms) (atom ∷ []))
    ∙ ap (lines_with context elements) (sym (take_next atoms n atom (item_read atoms n atom below is)))
