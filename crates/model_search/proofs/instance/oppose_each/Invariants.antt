use Rattle.std.proofs.Common.{◌⊎◌, take}
use Rattle.std.specs.List.{AllByRecursion}
use Rattle.logic_core.specs.Forms.{AtomTrue}
use Rattle.model_search.specs.Candidates.{Candidate, world}
use Rattle.model_search.specs.Sheets.{Covers, Goes}
use Rattle.model_search.proofs.instance.oppose_each.Given as goal

-- the first premises are true, or the clause is
abbrev pub invariant-loop-premise : goal.invariant-loop-premise
invariant-loop-premise l = record {
  goes : Goes l.fn.sheet l.sheet;
  covers : (c : Candidate) → AllByRecursion (AtomTrue (world c) l.values) (take l.premise-index l.premises) ⊎ Covers c l.sheet;
}
