use Rattle.std.proofs.Common.{ℕ, ◌-◌, List, [], ◌∷◌, ◌++◌, length, ap, ◌∙◌, arith}
use Rattle.vernacular_tree.specs.declared.tree.Node.{Node}
use Rattle.trail_search.specs.Entries.{node_in}
use Rattle.trail_search.proofs.Laid.{read_within, reverse_next}
use Rattle.trail_search.proofs.found.Found.nodes.Goals as goal

pub node_in-requires : goal.node_in-requires
node_in-requires c =
    let inside = c.self.inside in
    let most = c.loop-at.auto.at in
    let count = c.len-at.ensures in
    let long = inside.entries.ok.0 in
    let within = read_within inside.entries.items inside.args.items _ _ _ c.self.invariant (c.loop-at.at - 1) c.index.result.now (omega arith) c.index.ensures in
    let args = ap length c.as_slice.ensures.value in omega arith

pub loop-at-preserved : goal.loop-at-preserved
loop-at-preserved c =
    let inside = c.self.inside in
    let most = c.loop-at.auto.at in
    let count = c.len-at.ensures in
    let long = inside.entries.ok.0 in
    let node = c.in_ok-node_in.ensures ∙ ap (λ (args : List ℕ). node_in args c.index.result.now) c.as_slice.ensures.value in
    reverse_next inside.entries.items inside.args.items c.loop-at.at c.index.result.now c.loop-at.nodes c.push.new.self c.loop-at-test.true (omega arith) c.index.ensures
    c.loop-at.invariant (c.in_ok-push.ensures.ok ∙ ap (λ (n : Node). c.loop-at.nodes ++ n ∷ []) node)
