-- What a searcher keeps between two searches.
use Rattle.std.specs.Prelude.{ℕ, ◌^◌, ◌<◌, ◌≤◌, List, length, reverse, Option, IfSome}
use Rattle.logic_core.specs.declared.form.Form.{Form}
use Rattle.vernacular_tree.specs.Preorders.{IsTree}
use Rattle.coherent_form.specs.Tasks.{CitedTask}
use Rattle.instance_cursor.specs.Cursors.{Place}
use Rattle.kept_context.specs.Kept.{Kept, IsEmpty, HasRoom, HasSpare}
use Rattle.trail_search.specs.Answers.{AreAnswers}
use Rattle.trail_search.specs.Recorded.{Recorded}
use Rattle.trail_search.specs.Searches.{HasCursors}

-- the forms of the goal's disjuncts; an empty context that is kept in place, with room for as many
-- lines as the greatest bound and for the facts of a context that is lent; a cursor for each line;
-- room to note a proof; and where one was found, what is noted is a proof's
pub record IsPrepared (task : CitedTask) (most facts args : ℕ) (answers : List Form) (kept : Kept)
    (cursors : List Place) (recorded : Recorded) (found : Option ℕ) : Type 0 where
  pub few : most ≤ 200
  pub answers_are : AreAnswers task answers
  pub few_answers : length answers < 2 ^ 32
  pub empty : IsEmpty kept
  pub room : HasRoom task most kept
  pub spare : HasSpare most facts args kept
  pub levels : HasCursors most cursors
  pub noted : most ≤ recorded.room
  pub tree : IfSome found (λ n. IsTree (reverse recorded.nodes))
