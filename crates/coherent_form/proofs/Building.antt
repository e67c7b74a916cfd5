-- The formulas of a problem are read in order: one more is taken, or it is the first that is refused.
use Rattle.std.proofs.Common.{◌≡◌, ℕ, suc, ◌+◌, ◌<◌, ◌≤◌, ◌⊎◌, inl, inr, List, [], ◌∷◌, ◌++◌, take, drop, length, slice_index_or, Ok, Err, refl, ap, sym, ◌∙◌, subst, arith}
use Rattle.std.proofs.Math.Seq.{split_at}
use Rattle.text_core.specs.Exact.{Exact}
use Rattle.text_core.proofs.Laws.{take_all}
use Rattle.logic_core.specs.declared.problem.Fof.{Fof}
use Rattle.coherent_form.specs.Gathered.{refusal_at}
use Rattle.coherent_form.specs.Tasks.{CitedTask, Progress, AreTaken, IsRefusedBehind, IsTaken, IsTaskFault, IsTaskOf, after_formula, after_formulas, nothing_read, task_of}
use Rattle.coherent_form.specs.declared.task_refusal.TaskRefusal.{TaskRefusal}
use Rattle.coherent_form.specs.declared.task_refusal.TaskWhy.{TaskWhy}
use Rattle.coherent_form.specs.declared.task_refusal.TaskWhy.TheVariants.{NotCoherent, TooWide, TooManyConjectures, TooManyForms, ManyGoals, Memory}
use Rattle.coherent_form.proofs.OneTask.{after_formulas-append, taken_more, want, exact_task, exact_fault}
use Rattle.coherent_form.proofs.Steps.{front_more}
use Rattle.coherent_form.proofs.Values.{length_of_front}

-- one formula behind some of a problem's
module _ (problem : List Fof) (i : ℕ) (fof : Fof) (within : i < length problem) (at : fof ≡ slice_index_or problem i fof) (p : Progress)
    (so_far : p ≡ after_formulas nothing_read (take i problem)) (taken : AreTaken nothing_read (take i problem)) where
  -- what is given with it
  pub progress_more : (q : Progress) → q ≡ after_formula p fof → q ≡ after_formulas nothing_read (take (i + 1) problem)
  progress_more q next =
      next ∙ ap (λ r. after_formula r fof) so_far ∙ sym (after_formulas-append nothing_read (take i problem) (fof ∷ []))
      ∙ ap (after_formulas nothing_read) (sym (front_more problem i fof within at))

  -- it is taken
  pub fofs_more : IsTaken p fof → AreTaken nothing_read (take (i + 1) problem)
  fofs_more h = subst (AreTaken nothing_read) (sym (front_more problem i fof within at))
      (taken_more nothing_read (take i problem) fof taken (subst (λ r. IsTaken r fof) so_far h))

  -- its refusal is told with its number
  refusal_told : (formula : ℕ) (why : TaskWhy) → IsRefusedBehind p fof why → refusal_at formula why ≡ record { formula = formula; why = why }
  refusal_told formula (NotCoherent node) h = refl
  refusal_told formula TooWide h = refl
  refusal_told formula TooManyConjectures h = refl
  refusal_told formula TooManyForms h = refl
  refusal_told formula ManyGoals h = refl
  refusal_told formula Memory h = absurd h

  -- it is the first that is refused
  first_fault : (formula : ℕ) (why : TaskWhy) → formula ≡ i + 1 → IsRefusedBehind p fof why → IsTaskFault problem (record { formula = formula; why = why })
  first_fault formula why is h = record {
    front = take i problem;
    fof = fof;
    rest = drop (suc i) problem;
    problem_is = split_at problem i fof within ∙ ap (λ x. take i problem ++ x ∷ drop (suc i) problem) (sym at);
    taken = taken;
    formula = is ∙ ap (λ (n : ℕ). n + 1) (sym (length_of_front i problem (omega arith)));
    why = subst (λ r. IsRefusedBehind r fof why) so_far h;
  }

  -- the refusal is the exact answer
  pub refusal_exact : (formula : ℕ) (why : TaskWhy) (refusal : TaskRefusal) → formula ≡ i + 1 → refusal ≡ refusal_at formula why → (why ≡ Memory) ⊎ IsRefusedBehind p fof why
      → Exact (IsTaskOf problem) (IsTaskFault problem) want (Err refusal)
  refusal_exact formula why refusal is told (inl memory) = exact_fault problem refusal (inl (told ∙ ap (refusal_at formula) memory))
  refusal_exact formula why refusal is told (inr h) =
      exact_fault problem refusal (inr (subst (IsTaskFault problem) (sym (told ∙ refusal_told formula why h)) (first_fault formula why is h)))

-- the task of all formulas is the exact answer
pub task_exact : (problem : List Fof) (i : ℕ) (p : Progress) (task : CitedTask) → length problem ≤ i → AreTaken nothing_read (take i problem)
    → p ≡ after_formulas nothing_read (take i problem) → task ≡ task_of p → Exact (IsTaskOf problem) (IsTaskFault problem) want (Ok task)
task_exact problem i p task end taken so_far is =
    let all = take_all problem i end in
    exact_task problem task (record { taken = subst (AreTaken nothing_read) all taken; task_is = is ∙ ap task_of (so_far ∙ ap (after_formulas nothing_read) all) })
