-- When a task is one that a problem with so many constants can give.
use Rattle.std.specs.Prelude.{ℕ, ◌+◌, ◌≡◌, max}
use Rattle.std.specs.List.{AllByRecursion}
use Rattle.logic_core.specs.Forms.{IsWellFormed}
use Rattle.vernacular_tree.specs.Contexts.{Task}

-- the goal and each form are well-formed, and the start elements are the constants and the
-- parameters, or a single element where there is neither
pub record IsTask (constants : ℕ) (task : Task) : Type 0 where
  pub forms : AllByRecursion (IsWellFormed constants) task.forms
  pub goal : IsWellFormed constants task.goal
  pub start : task.start ≡ max 1 (constants + task.goal.universals)
