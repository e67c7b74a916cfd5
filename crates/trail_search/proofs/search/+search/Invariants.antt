use Rattle.std.proofs.Common.{◌≡◌, ℕ, ◌+◌, ◌-◌, ◌*◌, ◌<◌, ◌⊎◌, List, length}
use Rattle.std.specs.List.{AllByRecursion}
use Rattle.text_core.specs.Lists.{IsAmong}
use Rattle.vernacular_tree.specs.declared.context.Context.{Context}
use Rattle.coherent_form.specs.Tasks.{proof_task}
use Rattle.instance_cursor.specs.Cursors.{IsAt, rest_of}
use Rattle.instance_cursor.specs.Instances.{IsInstanceOver}
use Rattle.kept_context.specs.Kept.{Represents}
use Rattle.trail_search.specs.Branches.{SplitHasNone}
use Rattle.trail_search.specs.Least.{HasNone}
use Rattle.trail_search.specs.Searches.{IsWide, HasCursors, FormHasNone, InstanceHasNone}
use Rattle.trail_search.proofs.search.+search.Given as goal

-- no proof begins with one of the first forms
abbrev pub invariant-search-loop-form : goal.invariant-search-loop-form
invariant-search-loop-form l = record {
  same : l.kept ≡ l.fn.kept;
  cursors : HasCursors l.budget l.cursors;
  found : l.found ≡ l.fn.found;
  none : (context : Context) → Represents l.scene.task.now l.scene.lent.now l.fn.kept context
      → (number : ℕ) → number < l.form → FormHasNone (proof_task l.scene.task.now) context number (l.budget - 1);
}

-- each instance is still to come, or leads to no proof
abbrev pub invariant-try_form-instances : goal.invariant-try_form-instances
invariant-try_form-instances l = record {
  same : l.kept ≡ l.fn.kept;
  wide : IsWide l.cursor;
  deeper : HasCursors (l.budget - 1) l.deeper;
  found : l.found ≡ l.fn.found;
  at : IsAt l.cursor l.form l.fn.kept.store.facts l.fn.kept.elements;
  each : AllByRecursion (IsInstanceOver l.form l.fn.kept.store.facts l.fn.kept.elements)
      (rest_of l.cursor l.form l.fn.kept.store.facts l.fn.kept.elements);
  rest : (context : Context) → Represents l.scene.task.now l.scene.lent.now l.fn.kept context
      → (args : List ℕ) → IsInstanceOver l.form l.fn.kept.store.facts l.fn.kept.elements args
      → IsAmong args (rest_of l.cursor l.form l.fn.kept.store.facts l.fn.kept.elements)
      ⊎ InstanceHasNone (proof_task l.scene.task.now) context l.form (l.budget - 1) args;
}

abbrev pub decreases-try_form-instances : goal.decreases-try_form-instances
decreases-try_form-instances l = length (rest_of l.cursor l.form l.fn.kept.store.facts l.fn.kept.elements)

-- no proof is a split of one of the first lines
abbrev pub invariant-split-loop-line : goal.invariant-split-loop-line
invariant-split-loop-line l = record {
  same : l.kept ≡ l.fn.kept;
  cursors : HasCursors l.budget l.cursors;
  found : l.found ≡ l.fn.found;
  none : (context : Context) → Represents l.scene.task.now l.scene.lent.now l.fn.kept context
      → (line : ℕ) → line < l.line → SplitHasNone (proof_task l.scene.task.now) context line l.budget;
}

-- there is no proof with so many rule applications
abbrev pub invariant-search_least-loop-smaller : goal.invariant-search_least-loop-smaller
invariant-search_least-loop-smaller l = record {
  same : l.kept ≡ l.fn.kept;
  cursors : HasCursors l.within l.cursors;
  found : l.found ≡ l.fn.found;
  none : (context : Context) → Represents l.scene.task.now l.scene.lent.now l.fn.kept context
      → HasNone (proof_task l.scene.task.now) context l.smaller;
}

abbrev pub decreases-search : goal.decreases-search
decreases-search l = 4 * l.budget + 1

abbrev pub decreases-split : goal.decreases-split
decreases-split l = 4 * l.budget

abbrev pub decreases-try_form : goal.decreases-try_form
decreases-try_form l = 4 * l.budget

abbrev pub decreases-take_step : goal.decreases-take_step
decreases-take_step l = 4 * l.left + 2

abbrev pub decreases-close_cases : goal.decreases-close_cases
decreases-close_cases l = 4 * l.left + 3

abbrev pub decreases-search_least : goal.decreases-search_least
decreases-search_least l = 4 * l.within + 2
