-- What holds of a branch while its proof is written, and how it goes back to a place.
use Rattle.std.specs.Prelude.{◌≡◌, ◌+◌, ◌*◌, ◌<◌, ◌^◌, take, length}
use Rattle.coherent_form.specs.Tasks.{CitedTask}
use Rattle.proof_text.specs.Showing.{IsInside}
use Rattle.isar_text.specs.Firsts.{AreFirst, point_of, cut}
use Rattle.isar_text.specs.declared.branch.Branch.{Branch}
use Rattle.isar_text.specs.declared.branch.Place.{Place}

-- its context is inside a proof of the task, and the first line of each fact is kept
pub record IsKept (task : CitedTask) (branch : Branch) : Type 0 where
  pub inside : IsInside task branch.context
  pub first : AreFirst branch.context.lines branch.firsts
  pub signed : branch.firsts.signed ≡ 2 * (length task.tables.symbols + 1)
  pub small : branch.firsts.signed < 2 ^ 32

-- the place at which it is, and the branch that goes back to a place
abbrev pub place_of : Branch → Place
place_of branch = record {
  elements = branch.context.elements;
  lines = length branch.context.lines;
  firsts = point_of branch.firsts;
}

abbrev pub taken_back : Place → Branch → Branch
taken_back place branch = record {
  context =
      record { elements = place.elements; lines = take place.lines branch.context.lines };
  firsts = cut place.firsts branch.firsts;
}
