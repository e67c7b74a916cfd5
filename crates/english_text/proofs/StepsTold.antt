-- How code writes the sentences of steps one after another.
use Rattle.std.proofs.Common.{◌≡◌, ℕ, List, ◌∷◌, ◌++◌, map, slice_get, Some, ap, sym, ◌∙◌, append_assoc}
use Rattle.text_core.specs.Names.{Text}
use Rattle.vernacular_tree.specs.declared.context.Context.{Context}
use Rattle.vernacular_tree.specs.declared.tree.Mp.{Mp}
use Rattle.coherent_form.specs.Tasks.{CitedTask}
use Rattle.coherent_form.specs.declared.citation.Citation.{Citation}
use Rattle.proof_text.specs.declared.body.Shown.{Shown}
use Rattle.proof_text.specs.Printing.{printed, printed_line}
use Rattle.proof_text.specs.ScriptOf.{fresh_of, line_by, after_step_of}
use Rattle.proof_text.proofs.Laws.{cite_same}
use Rattle.english_text.specs.English.{mp_text, steps_text}
use Rattle.english_text.specs.Sentences.{step_text}

-- the sentence of the first of the steps that are left is behind those before
pub next_sentence : (task : CitedTask) (level : ℕ) (step : Mp) (rest left : List Mp) → left ≡ step ∷ rest → (before after : Context)
    → after ≡ after_step_of task before step → (out longer all : Text) → longer ≡ out ++ mp_text task level before step
    → out ++ steps_text task level left before ≡ all → longer ++ steps_text task level rest after ≡ all
next_sentence task level step rest left left_is before after after_is out longer all longer_is so_far =
    (λ i. longer_is i ++ steps_text task level rest (after_is i))
    ∙ append_assoc out (mp_text task level before step) (steps_text task level rest (after_step_of task before step))
    ∙ ap (λ (ss : List Mp). out ++ steps_text task level ss before) (sym left_is)
    ∙ so_far

-- the sentence of what a step tells is that of the step
pub step_told : (task : CitedTask) (level : ℕ) (context : Context) (step : Mp) (cite : Citation) (args fresh : List Text) (line : Shown) (out longer : Text)
    → slice_get task.citations step.form ≡ Some cite → args ≡ map (printed task) step.args → line ≡ printed_line task (line_by task context step)
    → fresh ≡ map (printed task) (fresh_of task context step) → longer ≡ out ++ step_text level cite args line fresh
    → longer ≡ out ++ mp_text task level context step
step_told task level context step cite args fresh line out longer cite_is args_are line_is fresh_are longer_is =
    let cited = cite_same task step.form cite cite_is in
    longer_is ∙ (λ i. out ++ step_text level (cited i) (args_are i) (line_is i) (fresh_are i))
