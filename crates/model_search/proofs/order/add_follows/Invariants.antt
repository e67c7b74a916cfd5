use Rattle.std.proofs.Common.{◌≡◌, ℕ, ◌<◌}
use Rattle.model_search.specs.Candidates.{Candidate}
use Rattle.model_search.specs.Sheets.{Covers, Goes}
use Rattle.model_search.proofs.order.add_follows.Given as goal

-- the clause is true where an earlier constant, of those so far, stands for the element
abbrev pub invariant-loop-earlier : goal.invariant-loop-earlier
invariant-loop-earlier l = Goes l.initial.sheet l.sheet
    × ((c : Candidate) (k : ℕ) → k < l.earlier → c.place k ≡ l.element → Covers c l.sheet)
