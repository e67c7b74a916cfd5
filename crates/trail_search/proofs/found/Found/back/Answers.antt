use Rattle.std.proofs.Common.{ap, arith}
use Rattle.trail_search.proofs.Laid.{front_end, entries_front, nodes_front}
use Rattle.trail_search.proofs.found.Found.back.Goals as goal

pub end_of-end-requires : goal.end_of-end-requires
end_of-end-requires c =
    let inside = c.self.inside in
    let front = front_end inside.entries.items inside.args.items _ _ _ c.self.invariant c.args.point in
    let le = front.2 in
    let long = inside.args.ok in
    let one = long.0 in
    let two = long.1 in
    let small = inside.args.small in
    (front.0, rw (c.as_slice.ensures.value, c.truncate.ensures.items) front.1, omega arith)

pub invariant_of-self : goal.invariant_of-self
invariant_of-self c =
    let inside = c.self.inside in
    let laid = rw (c.as_slice.ensures.value, c.truncate.ensures.items) at c.end_of-end.ensures in
    rw (c.truncate.ensures.items, c.truncate-2.ensures.items, c.truncate.ensures.capacity, c.truncate-2.ensures.capacity)
    (entries_front inside.entries.items inside.args.items _ _ _ c.self.invariant c.args.point c.end_of-end.result laid)

pub returns-clause-nodes : goal.returns-clause-nodes
returns-clause-nodes c =
    let inside = c.self.inside in
    let laid = rw (c.as_slice.ensures.value, c.truncate.ensures.items) at c.end_of-end.ensures in
    rw (c.truncate.ensures.items, c.truncate-2.ensures.items, ← (ap (λ r. r.nodes) c.self.view_is))
    (nodes_front inside.entries.items inside.args.items _ _ _ c.self.invariant c.args.point c.end_of-end.result laid)
