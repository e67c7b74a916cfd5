use Rattle.std.proofs.Common.{◌≡◌, map, take}
use Rattle.proof_text.specs.Branches.{named_facts}
use Rattle.proof_checker.specs.Kept.{atom_seen}
use Rattle.proof_checker.proofs.compare.shows_facts.Given as goal

-- the first atoms show the first facts
abbrev pub invariant-loop-at : goal.invariant-loop-at
invariant-loop-at l = take l.at l.atoms ≡ named_facts l.tables l.names (map atom_seen (take l.at l.facts))
