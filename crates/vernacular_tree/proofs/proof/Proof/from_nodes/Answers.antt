use Rattle.std.proofs.Common.{◌≡◌, length, ◌<◌, arith, sym, ◌∙◌, eqb-true, false-eqb}
use Rattle.vernacular_tree.proofs.Trees.{long_refused, rest_refused, whole_is}
use Rattle.vernacular_tree.proofs.proof.Proof.from_nodes.Goals as goal

pub returns-then-len-clause-not_a_tree : goal.returns-then-len-clause-not_a_tree
returns-then-len-clause-not_a_tree c err = long_refused c.args.nodes.now (omega arith)

pub returns-then-not-is_empty-clause-not_a_tree : goal.returns-then-not-is_empty-clause-not_a_tree
returns-then-not-is_empty-clause-not_a_tree c err =
    let more : 0 < length c.in_ok-body.rest.now = grind (arith, false-eqb) in
    rest_refused c.args.nodes.now c.in_ok-body.rest.now c.in_ok-body.body (sym c.as_slice.ensures ∙ (c.in_ok-body.ensures).ok.0) more

pub invariant_of-result : goal.invariant_of-result
invariant_of-result c =
    let none : length c.in_ok-body.rest.now ≡ 0 = grind (arith, eqb-true) in
    let read = (c.in_ok-body.ensures).ok in
    let whole = whole_is c.args.nodes.now c.in_ok-body.rest.now c.in_ok-body.body (sym c.as_slice.ensures ∙ read.0) none in
    (record { small = omega (arith, whole); shallow = read.1 }, omega (arith, whole))

pub returns-clause-bounded : goal.returns-clause-bounded
returns-clause-bounded c =
    let none : length c.in_ok-body.rest.now ≡ 0 = grind (arith, eqb-true) in
    let read = (c.in_ok-body.ensures).ok in
    let whole = whole_is c.args.nodes.now c.in_ok-body.rest.now c.in_ok-body.body (sym c.as_slice.ensures ∙ read.0) none in
    record { small = omega (arith, whole); shallow = read.1 }
