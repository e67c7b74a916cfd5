use Rattle.std.proofs.Common.{◌≡◌, ◌-◌, length, take}
use Rattle.fact_store.proofs.chains.Chains.cut.Given as goal

abbrev pub invariant-loop-self : goal.invariant-loop-self
invariant-loop-self l = record {
  first : take l.kept l.self.keys ≡ take l.kept l.fn.self.keys;
  width : l.self.width ≡ l.fn.self.width;
  room : l.self.room ≡ l.fn.self.room;
}

abbrev pub decreases-loop-self : goal.decreases-loop-self
decreases-loop-self l = length l.self.keys - l.kept
