use Rattle.std.proofs.Common.{◌≡◌, ◌++◌, ◌<◌, ◌^◌, length, take}
use Rattle.proof_text.specs.Branches.{AreNew}
use Rattle.proof_checker.proofs.trail.add_new.Given as goal

-- the first names are added and were new
abbrev pub invariant-loop-name : goal.invariant-loop-name
invariant-loop-name l = record {
  added : l.names.keys ≡ l.fn.names.keys ++ take l.name-index l.fresh;
  new : AreNew l.fn.names.keys (take l.name-index l.fresh);
  few : length l.names.keys < 2 ^ 32;
}
