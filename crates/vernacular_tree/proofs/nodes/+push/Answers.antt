use Rattle.std.proofs.Common.{◌≡◌, ◌≤◌, ◌+◌, ◌++◌, ◌∷◌, [], map, length, List, sum_by, flat_map, ap, sym, ◌∙◌, arith, append_assoc}
use Rattle.std.proofs.lemmas.Result.{on_ok_weaker}
use Rattle.vernacular_tree.specs.Sizes.{size, end_size}
use Rattle.vernacular_tree.specs.Preorders.{mp_node, end_nodes, preorder}
use Rattle.vernacular_tree.specs.declared.tree.Node.{Node}
use Rattle.vernacular_tree.specs.declared.tree.Node.TheVariants as node
use Rattle.vernacular_tree.proofs.Rows.{Cs_size, Cs_nodes, branches_count}
use Rattle.vernacular_tree.proofs.nodes.+push.Goals as goal

-- the parts that were appended, one after another
appended : (old one two all steps branches : List Node) (split split2 : Node) → one ≡ old ++ steps → two ≡ one ++ split2 ∷ [] → split2 ≡ split
    → all ≡ two ++ branches → all ≡ old ++ (steps ++ split ∷ branches)
appended old one two all steps branches split split2 a b s c =
    let x : all ≡ ((old ++ steps) ++ split ∷ []) ++ branches = rw (← s, ← a, ← b) c in
    let y : ((old ++ steps) ++ split ∷ []) ++ branches ≡ old ++ (steps ++ split ∷ branches) = simp append_assoc in
    x ∙ y

pub push_body-overflow_cast-len : goal.push_body-overflow_cast-len
push_body-overflow_cast-len t c =
    let end : end_size c.args.body.now.end ≡ 1 + sum_by size c.in-Cs.branches = ap end_size c.in-Cs.is ∙ Cs_size c.in-Cs.line c.in-Cs.branches in
    let count : length c.in-Cs.branches ≤ sum_by size c.in-Cs.branches = branches_count c.in-Cs.branches in
    omega arith

pub push_body-push_branches-requires : goal.push_body-push_branches-requires
push_body-push_branches-requires t c =
    let end : end_size c.args.body.now.end ≡ 1 + sum_by size c.in-Cs.branches = ap end_size c.in-Cs.is ∙ Cs_size c.in-Cs.line c.in-Cs.branches in
    let items : sum_by size c.as_slice-in-Cs.result.now ≡ sum_by size c.in-Cs.branches = ap (sum_by size) c.as_slice-in-Cs.ensures in
    (omega arith, omega arith)

pub push_body-returns-in_ok-push-in-Cs : goal.push_body-returns-in_ok-push-in-Cs
push_body-returns-in_ok-push-in-Cs t c =
    let end : end_nodes c.args.body.now.end ≡ node.Cs c.in-Cs.line (length c.in-Cs.branches) ∷ flat_map preorder c.in-Cs.branches
    = ap end_nodes c.in-Cs.is ∙ Cs_nodes c.in-Cs.line c.in-Cs.branches in
    let steps : c.push_steps.new.nodes ≡ c.args.nodes.now ++ map mp_node c.args.body.now.steps
    = c.in_ok-push_steps.ensures ∙ ap (λ (s : _). c.args.nodes.now ++ map mp_node s) c.as_slice.ensures in
    let more = λ (e : c.push_branches.new.nodes ≡ c.push-in-Cs.new.self ++ flat_map preorder c.as_slice-in-Cs.result.now).
    appended c.args.nodes.now c.push_steps.new.nodes c.push-in-Cs.new.self c.push_branches.new.nodes (map mp_node c.args.body.now.steps)
    (flat_map preorder c.in-Cs.branches) (node.Cs c.in-Cs.line (length c.in-Cs.branches)) (node.Cs c.in-Cs.line c.len.result) steps c.in_ok-push-in-Cs.ensures.ok
    (ap (node.Cs c.in-Cs.line) c.len.ensures) (e ∙ ap (λ (s : _). c.push-in-Cs.new.self ++ flat_map preorder s) c.as_slice-in-Cs.ensures)
    ∙ ap (λ (ns : List Node). c.args.nodes.now ++ (map mp_node c.args.body.now.steps ++ ns)) (sym end) in
    on_ok_weaker c.push_branches.result more c.push_branches.ensures
