use Rattle.std.proofs.Common.{◌≡◌, ◌+◌, ◌-◌, drop, length}
use Rattle.isar_text.specs.Scripts as scripts
use Rattle.isar_text.proofs.reader.common.Given as goal

-- the bytes that are counted, and those that the rest has in common, are all that is in common
abbrev pub invariant-loop-count : goal.invariant-loop-count
invariant-loop-count l =
    l.count + scripts.common (drop l.count l.first) (drop l.count l.second) ≡ scripts.common l.first l.second

abbrev pub decreases-loop-count : goal.decreases-loop-count
decreases-loop-count l = length l.first - l.count
