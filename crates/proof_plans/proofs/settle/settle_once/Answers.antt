use Rattle.std.proofs.Common.{◌∙◌, ◌-◌, sym}
use Rattle.proof_plans.proofs.Placed.{tie_at, settled_hold, settled_again}
use Rattle.proof_plans.proofs.settle.settle_once.Goals as goal

pub returns-in-Dead : goal.returns-in-Dead
returns-in-Dead c = λ task lent values fires indices holding both all places.
    let held = settled_hold task lent c.args.nodes.now values fires indices _ _ (c.loop-number.invariant task lent values fires indices holding both all places) in
    let t = tie_at task lent c.args.nodes.now values fires indices c.args.ties.now holding both all (c.loop-number.number - 1) c.in-Some.tie (sym c.item_at.ensures ∙ c.in-Some.is) in
    c.in-Dead.ensures task lent values fires indices t.0 t.1 t.2 held

pub loop-number-preserved-in-Same : goal.loop-number-preserved-in-Same
loop-number-preserved-in-Same c = λ task lent values fires indices holding both all places.
    let old = c.loop-number.invariant task lent values fires indices holding both all places in
    let held = settled_hold task lent c.args.nodes.now values fires indices c.loop-number.places.items c.loop-number.settled old in
    let t = tie_at task lent c.args.nodes.now values fires indices c.args.ties.now holding both all (c.loop-number.number - 1) c.in-Some.tie (sym c.item_at.ensures ∙ c.in-Some.is) in
    let new = c.in-Same.ensures task lent values fires indices t.0 t.1 t.2 held in
    settled_again task lent c.args.nodes.now values fires indices c.loop-number.places.items c.settle_one.new.places.items c.loop-number.settled old new

pub loop-number-preserved-in-Changed : goal.loop-number-preserved-in-Changed
loop-number-preserved-in-Changed c = λ task lent values fires indices holding both all places.
    let old = c.loop-number.invariant task lent values fires indices holding both all places in
    let held = settled_hold task lent c.args.nodes.now values fires indices c.loop-number.places.items c.loop-number.settled old in
    let t = tie_at task lent c.args.nodes.now values fires indices c.args.ties.now holding both all (c.loop-number.number - 1) c.in-Some.tie (sym c.item_at.ensures ∙ c.in-Some.is) in
    c.in-Changed.ensures task lent values fires indices t.0 t.1 t.2 held
