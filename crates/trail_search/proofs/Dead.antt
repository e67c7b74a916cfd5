-- Where no end closes a context, no split does, and no step leads on, there is no proof from it.
use Rattle.std.proofs.Common.{◌≡◌, ℕ, zero, suc, ◌+◌, ◌-◌, ◌<◌, ◌≤◌, ◌⊎◌, inl, inr, List, [], ◌∷◌, ◌++◌, length, slice_get, Some, refl, sym, ap, ◌∙◌, subst, arith}
use Rattle.std.specs.List.{sum_by}
use Rattle.text_core.specs.Lists.{SomeOf}
use Rattle.logic_core.specs.declared.form.Form.{Form}
use Rattle.vernacular_tree.specs.Barren.{Barren, HasBarren, without, lowered}
use Rattle.vernacular_tree.specs.Contexts.{Task, after_mp}
use Rattle.vernacular_tree.specs.Rules.{IsInstance, IsAnswer, IsProof, Closes, StepsThen}
use Rattle.vernacular_tree.specs.Sizes.{size, sizes, end_size}
use Rattle.vernacular_tree.specs.declared.context.Context.{Context}
use Rattle.vernacular_tree.specs.declared.context.Line.TheVariants.{Cases, Falsum}
use Rattle.vernacular_tree.specs.declared.tree.Body.{Body}
use Rattle.vernacular_tree.specs.declared.tree.Mp.{Mp}
use Rattle.vernacular_tree.specs.declared.tree.End.{End, As, Efq, Cs'}
use Rattle.vernacular_tree.proofs.Laws.{bodies_of}
use Rattle.vernacular_tree.proofs.Rows.{end_counts, row_sizes}
use Rattle.trail_search.specs.Branches.{AreProofs, SplitHasNone}
use Rattle.trail_search.specs.Least.{HasNone}
use Rattle.trail_search.specs.Searches.{IsOpen, FormHasNone}
use Rattle.trail_search.proofs.Branching.{row_proofs}

-- a proof that begins with a barren step is a proof without it
abbrev pub LeavesOut : Task → Context → Type 0
LeavesOut task context = (body : Body) → IsProof task context body → HasBarren task body [] 0 context
    → (shorter : Body) × IsProof task context shorter × (size shorter + 1 ≡ size body)

module _ (task : Task) (context : Context) (most : ℕ) (leaves_out : LeavesOut task context) (stays : IsOpen task context)
    (splits : (line : ℕ) → SplitHasNone task context line (most + 1)) (forms : (number : ℕ) → FormHasNone task context number most) where
  -- no end closes the context
  end_none : (end : End) → Closes task end context → end_size end ≤ most + 1 → ⊥
  end_none (As disjunct args) closes small = stays.no_answer disjunct args closes
  end_none Efq closes small = stays.no_falsum closes
  end_none (Cs' line s row) closes small =
      let sum : sizes row ≡ sum_by size (bodies_of row) = row_sizes row in
      splits line closes.0 (bodies_of row) closes.1 (row_proofs task context row closes.0 closes.2) (omega arith)

  -- no steps and an end, of a size that the first number bounds too, are a proof
  steps_none : (m : ℕ) (steps : List Mp) (end : End) → StepsThen task steps (Closes task end) context
      → length steps + end_size end ≤ m → length steps + end_size end ≤ most + 1 → ⊥
  steps_none m [] end proves low small = end_none end proves (omega arith)
  steps_none zero (step ∷ steps) end proves low small = absurd (omega arith)
  steps_none (suc m) (step ∷ steps) end proves low small =
      elim (forms step.form proves.0 step.args proves.1 proves.2) [
        | inl barren ↦ let shorter = leaves_out (record { steps = step ∷ steps; end = end }) proves (proves.0, proves.1, barren) in
            let less : size shorter.0 + 1 ≡ length (step ∷ steps) + end_size end = shorter.2 in
            steps_none m shorter.0.steps shorter.0.end shorter.1 (omega arith) (omega arith)
        | inr none ↦ none (record { steps = steps; end = end }) proves.3 (omega arith)
      ]

  -- there is no proof from the context
  pub none_here : HasNone task context (most + 1)
  none_here body proves small = steps_none (most + 1) body.steps body.end proves small small

-- with one rule application there are no steps
pub none_in_one : (task : Task) (context : Context) → IsOpen task context → ((line : ℕ) → SplitHasNone task context line 1) → HasNone task context 1
none_in_one task context stays splits body proves small = go body.steps body.end proves small
  where
    go : (steps : List Mp) (end : End) → StepsThen task steps (Closes task end) context → length steps + end_size end ≤ 1 → ⊥
    go [] (As disjunct args) closes small = stays.no_answer disjunct args closes
    go [] Efq closes small = stays.no_falsum closes
    go [] (Cs' line s row) closes small =
        let sum : sizes row ≡ sum_by size (bodies_of row) = row_sizes row in
        splits line closes.0 (bodies_of row) closes.1 (row_proofs task context row closes.0 closes.2) (omega arith)
    go (step ∷ steps) end proves small = let counts = end_counts end in absurd (omega arith)

-- each proof has a rule application
pub none_in_zero : (task : Task) (context : Context) → HasNone task context 0
none_in_zero task context body proves small = let counts = end_counts body.end in omega arith

-- where there is none with so many rule applications, there is none with fewer
pub none_less : (task : Task) (context : Context) (most less : ℕ) → less ≤ most → HasNone task context most → HasNone task context less
none_less task context most less le none body proves small = none body proves (omega arith)
