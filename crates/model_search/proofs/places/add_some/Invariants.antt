use Rattle.std.proofs.Common.{◌<◌}
use Rattle.model_search.specs.Candidates.{Candidate}
use Rattle.model_search.specs.Sheets.{IsSuited, Covers}
use Rattle.model_search.proofs.places.add_some.Given as goal

-- a candidate in which the constant stands for one of the first elements makes the clause true
abbrev pub invariant-loop-element : goal.invariant-loop-element
invariant-loop-element l = record {
  suited : (c : Candidate) → IsSuited c l.fn.sheet → IsSuited c l.sheet;
  covers : (c : Candidate) → c.place l.constant < l.element → Covers c l.sheet;
}
