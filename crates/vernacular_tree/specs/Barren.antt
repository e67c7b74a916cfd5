-- Barren steps: applications of modus ponens that add only facts that stand already. A step in a
-- body is told by a path, the numbers of the branches that lead to it from the outermost split on,
-- and its number there, all counted from 0.
use Rattle.std.specs.Prelude.{ℕ, zero, suc, ◌+◌, ◌-◌, ◌≡◌, ◌≤◌, nat_lt, if◌then◌else◌, List, [], ◌∷◌, length, slice_get, Some}
use Rattle.std.specs.List.{AllByRecursion}
use Rattle.logic_core.specs.declared.form.Atom.{Atom}
use Rattle.logic_core.specs.declared.form.Form.{Form}
use Rattle.vernacular_tree.specs.Contexts.{Task, atom_at, Stands, with_facts, after_mp}
use Rattle.vernacular_tree.specs.Rules.{IsProof}
use Rattle.vernacular_tree.specs.Sizes.{size}
use Rattle.vernacular_tree.specs.declared.context.Line.TheVariants.{Cases}
use Rattle.vernacular_tree.specs.declared.context.Context.{Context}
use Rattle.vernacular_tree.specs.declared.tree.Mp.{Mp}
use Rattle.vernacular_tree.specs.declared.tree.Body.{Body}
use Rattle.vernacular_tree.specs.declared.tree.End.{End, As, Efq, Cs', Row_of-Body, end_of-Body, more_of-Body}

-- the form has one disjunct and no existential variable, and every atom of the disjunct at the
-- arguments stands
pub record Barren (context : Context) (form : Form) (args : List ℕ) : Type 0 where
  pub atoms : List Atom
  pub one : form.disjuncts ≡ atoms ∷ []
  pub none_new : form.existentials ≡ 0
  pub stand : AllByRecursion (λ atom. Stands context (atom_at args atom)) atoms

module _ (task : Task) where
  -- the step with this number is barren in its context
  abbrev pub StepIsBarren : ℕ → List Mp → Context → Type 0
  StepIsBarren j [] context = ⊥
  StepIsBarren zero (step ∷ steps) context = (form : Form)
      × (slice_get task.forms step.form ≡ Some form) × Barren context form step.args
  StepIsBarren (suc j) (step ∷ steps) context = (form : Form)
      × (slice_get task.forms step.form ≡ Some form)
      × StepIsBarren j steps (after_mp context form step.args)

  -- P holds of the context after the steps
  abbrev pub AfterSteps : List Mp → (Context → Type 0) → Context → Type 0
  AfterSteps [] P context = P context
  AfterSteps (step ∷ steps) P context = (form : Form) × (slice_get task.forms step.form ≡ Some form)
      × AfterSteps steps P (after_mp context form step.args)

  abbrev mutual
    -- the step with this path in the branches of the end is barren in its context
    pub EndHasBarren : End → List ℕ → ℕ → Context → Type 0
    EndHasBarren (Cs' line _ branches) (i ∷ path) j context = (lists : List (List Atom))
        × (slice_get context.lines line ≡ Some (Cases lists))
        × BranchHasBarren branches i path j lists context
    EndHasBarren _ path j context = ⊥

    pub BranchHasBarren : {n : _} → Row_of-Body n → ℕ → List ℕ → ℕ → List (List Atom) → Context
        → Type 0
    BranchHasBarren (more_of-Body steps end rest) zero [] j (facts ∷ lists) context =
        StepIsBarren j steps (with_facts context facts)
    BranchHasBarren (more_of-Body steps end rest) zero (i ∷ path) j (facts ∷ lists) context =
        AfterSteps steps (EndHasBarren end (i ∷ path) j) (with_facts context facts)
    BranchHasBarren (more_of-Body steps end rest) (suc i) path j (facts ∷ lists) context =
        BranchHasBarren rest i path j lists context
    BranchHasBarren _ i path j lists context = ⊥

  -- the step with this path in a body is barren in its context
  abbrev pub HasBarren : Body → List ℕ → ℕ → Context → Type 0
  HasBarren body [] j context = StepIsBarren j body.steps context
  HasBarren body (i ∷ path) j context =
      AfterSteps body.steps (EndHasBarren body.end (i ∷ path) j) context

-- the steps without one of them
abbrev pub without_step : ℕ → List Mp → List Mp
without_step j [] = []
without_step zero (step ∷ steps) = steps
without_step (suc j) (step ∷ steps) = step ∷ without_step j steps

-- the number of a line where one line is left out
abbrev pub lower : ℕ → ℕ → ℕ
lower gone line = if nat_lt gone line then line - 1 else line

abbrev mutual
  -- the end where one line is left out: each split of a later line names a number smaller by 1
  pub lowered : ℕ → End → End
  lowered gone (As disjunct args) = As disjunct args
  lowered gone Efq = Efq
  lowered gone (Cs' line shape branches) =
      Cs' (lower gone line) shape (lowered_branches gone branches)

  pub lowered_branches : {n : _} → ℕ → Row_of-Body n → Row_of-Body n
  lowered_branches gone end_of-Body = end_of-Body
  lowered_branches gone (more_of-Body steps end rest) =
      more_of-Body steps (lowered gone end) (lowered_branches gone rest)

abbrev mutual
  -- the end, with so many lines before it, without a step in its branches
  pub end_without : ℕ → List ℕ → ℕ → End → End
  end_without lines (i ∷ path) j (Cs' line shape branches) =
      Cs' line shape (branch_without lines i path j branches)
  end_without lines path j end = end

  pub branch_without : {n : _} → ℕ → ℕ → List ℕ → ℕ → Row_of-Body n → Row_of-Body n
  branch_without lines zero [] j (more_of-Body steps end rest) =
      more_of-Body (without_step j steps) (lowered (lines + 1 + j) end) rest
  branch_without lines zero (i ∷ path) j (more_of-Body steps end rest) =
      more_of-Body steps (end_without (lines + 1 + length steps) (i ∷ path) j end) rest
  branch_without lines (suc i) path j (more_of-Body steps end rest) =
      more_of-Body steps end (branch_without lines i path j rest)
  branch_without lines i path j end_of-Body = end_of-Body

-- a body, in a context with so many lines, without a step
abbrev pub without : ℕ → List ℕ → ℕ → Body → Body
without lines [] j body = record {
  steps = without_step j body.steps;
  end = lowered (lines + j) body.end;
}
without lines (i ∷ path) j body = record {
  steps = body.steps;
  end = end_without (lines + length body.steps) (i ∷ path) j body.end;
}

-- a proof from a context with the fewest rule applications of all
pub record IsLeast (task : Task) (context : Context) (body : Body) : Type 0 where
  pub proves : IsProof task context body
  pub least : (other : Body) → IsProof task context other → size body ≤ size other
