use Rattle.std.proofs.Common.{◌⊎◌, take}
use Rattle.std.specs.List.{AllByRecursion}
use Rattle.logic_core.specs.Forms.{AtomTrue}
use Rattle.model_search.specs.Candidates.{Candidate, world}
use Rattle.model_search.specs.Keys.{AllTrue}
use Rattle.model_search.specs.Sheets.{Covers, Goes}
use Rattle.model_search.proofs.options.atoms_left.Given as goal

-- the first atoms are true where those that are left are
abbrev pub invariant-loop-atom : goal.invariant-loop-atom
invariant-loop-atom l = record {
  goes : Goes l.fn.sheet l.sheet;
  covers : (c : Candidate) → AllByRecursion (AtomTrue (world c) l.values) (take l.atom-index l.disjunct) → AllTrue c l.left.items ⊎ Covers c l.sheet;
}
