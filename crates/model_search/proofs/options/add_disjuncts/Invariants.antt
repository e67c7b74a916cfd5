use Rattle.std.proofs.Common.{take}
use Rattle.model_search.specs.Candidates.{Candidate}
use Rattle.model_search.specs.Rules.{SomeTrue}
use Rattle.model_search.specs.Sheets.{Covers, Goes}
use Rattle.model_search.proofs.options.add_disjuncts.Given as goal

-- some of the first disjuncts is true only where the clause is
abbrev pub invariant-loop-disjunct : goal.invariant-loop-disjunct
invariant-loop-disjunct l = record {
  goes : Goes l.fn.sheet l.sheet;
  covers : (c : Candidate) → SomeTrue c l.values (take l.disjunct-index l.disjuncts) → Covers c l.sheet;
}
