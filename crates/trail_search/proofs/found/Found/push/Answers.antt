use Rattle.std.proofs.Common.{length, ap, ◌∙◌, arith}
use Rattle.trail_search.proofs.Laid.{args_room_left, entries_more, nodes_more, noted_length}
use Rattle.trail_search.proofs.found.Found.push.Goals as goal

pub extend_within-requires : goal.extend_within-requires
extend_within-requires c =
    let inside = c.self.inside in
    let noted = noted_length inside.entries.items inside.args.items c.args.self.now.nodes (ap (λ r. r.nodes) c.self.view_is) in
    let room = ap (λ r. r.room) c.self.view_is in
    let less = c.requires.room in
    let left = args_room_left inside.entries.items inside.args.items _ _ _ c.self.invariant (omega arith) in
    let long = inside.args.ok.0 in
    let narrow = c.requires.narrow in omega arith

pub invariant_of-self : goal.invariant_of-self
invariant_of-self c =
    let inside = c.self.inside in
    let noted = noted_length inside.entries.items inside.args.items c.args.self.now.nodes (ap (λ r. r.nodes) c.self.view_is) in
    let room = ap (λ r. r.room) c.self.view_is in
    let less = c.requires.room in
    rw (c.push_within.ensures.items, c.extend_within.ensures.items)
    (entries_more inside.entries.items inside.args.items _ _ _ c.self.invariant (record { rule = c.args.rule; start = c.len.result; count = length c.args.args.now }) c.args.args.now
    (c.len.ensures ∙ inside.args.ok.0) (λ _. length c.args.args.now) c.requires.narrow _ _ c.push_within.ensures.capacity c.extend_within.ensures.capacity (omega arith))

pub returns-clause-nodes : goal.returns-clause-nodes
returns-clause-nodes c =
    let inside = c.self.inside in
    rw (c.push_within.ensures.items, c.extend_within.ensures.items, ← (ap (λ r. r.nodes) c.self.view_is))
    (nodes_more inside.entries.items inside.args.items _ _ _ c.self.invariant (record { rule = c.args.rule; start = c.len.result; count = length c.args.args.now }) c.args.args.now
    (c.len.ensures ∙ inside.args.ok.0) (λ _. length c.args.args.now) c.requires.narrow)
