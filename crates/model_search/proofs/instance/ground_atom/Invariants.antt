use Rattle.std.proofs.Common.{◌≡◌, ◌⊎◌, map, take}
use Rattle.logic_core.specs.Forms.{slot_value}
use Rattle.model_search.specs.Candidates.{Candidate, world}
use Rattle.model_search.specs.Sheets.{Covers, Goes}
use Rattle.model_search.proofs.instance.ground_atom.Given as goal

-- the elements of the first slots
abbrev pub invariant-loop-slot : goal.invariant-loop-slot
invariant-loop-slot l = record {
  goes : Goes l.fn.sheet l.sheet;
  elements : (c : Candidate) → (map (slot_value (world c) l.values) (take l.slot-index l.atom.args) ≡ l.elements) ⊎ Covers c l.sheet;
}
