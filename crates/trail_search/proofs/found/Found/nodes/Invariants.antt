use Rattle.std.proofs.Common.{◌≡◌, reverse, map, drop}
use Rattle.trail_search.specs.Entries.{node_in}
use Rattle.trail_search.proofs.found.Found.nodes.Given as goal

-- the last ones, in reverse
abbrev pub invariant-loop-at : goal.invariant-loop-at
invariant-loop-at l = l.nodes ≡ reverse (drop l.at (map (node_in l.self-inside.args.items) l.self-inside.entries.items))
