use Rattle.std.proofs.Common.{◌≡◌, map, take}
use Rattle.proof_text.specs.Branches.{named_facts}
use Rattle.proof_checker.specs.Kept.{atom_seen}
use Rattle.proof_checker.proofs.compare.shows_lists.Given as goal

-- the first lists are shown
abbrev pub invariant-loop-at : goal.invariant-loop-at
invariant-loop-at l = take l.at l.shown ≡ map (named_facts l.tables l.names) (map (map atom_seen) (take l.at l.lists))
