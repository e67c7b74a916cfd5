-- Which proofs of a task are smallest, and when it has none with few rule applications.
use Rattle.std.specs.Prelude.{ℕ}
use Rattle.vernacular_tree.specs.Contexts.{start_context}
use Rattle.vernacular_tree.specs.Barren.{IsLeast}
use Rattle.vernacular_tree.specs.declared.tree.Body.{Body}
use Rattle.coherent_form.specs.Tasks.{CitedTask, proof_task}
use Rattle.trail_search.specs.Least.{HasNone}

-- a proof of the task with the fewest rule applications of all its proofs
abbrev pub IsSmallest : CitedTask → Body → Type 0
IsSmallest task body = IsLeast (proof_task task) (start_context (proof_task task)) body

-- no proof of the task has so many rule applications or fewer
abbrev pub HasNoProof : CitedTask → ℕ → Type 0
HasNoProof task most = HasNone (proof_task task) (start_context (proof_task task)) most
