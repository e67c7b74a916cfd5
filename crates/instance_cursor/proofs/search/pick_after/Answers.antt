use Rattle.std.proofs.Common.{◌-◌, arith}
use Rattle.instance_cursor.proofs.Depths.{back_first, back_at, back_fits, back_candidate, back_found, back_next}
use Rattle.instance_cursor.proofs.search.pick_after.Goals as goal

pub loop-depth-init : goal.loop-depth-init
loop-depth-init c = back_first c.args.space.now c.args.picks.now

pub older-next-requires : goal.older-next-requires
older-next-requires c =
    let on = back_at c.args.space.now c.args.picks.now c.loop-depth.depth c.loop-depth.picks (omega arith) c.loop-depth.invariant in
    back_candidate c.args.space.now c.args.picks.now (c.loop-depth.depth - 1) c.loop-depth.picks on c.requires

pub pick_below-requires-clause-front : goal.pick_below-requires-clause-front
pick_below-requires-clause-front c =
    let on = back_at c.args.space.now c.args.picks.now c.loop-depth.depth c.loop-depth.picks (omega arith) c.loop-depth.invariant in
    back_fits c.args.space.now c.args.picks.now (c.loop-depth.depth - 1) c.loop-depth.picks on c.requires

pub returns-then-pick_below : goal.returns-then-pick_below
returns-then-pick_below c =
    let on = back_at c.args.space.now c.args.picks.now c.loop-depth.depth c.loop-depth.picks (omega arith) c.loop-depth.invariant in
    back_found c.args.space.now c.args.picks.now (c.loop-depth.depth - 1) c.loop-depth.picks c.pick_below.new.picks c.older-next.result on c.older-next.ensures c.pick_below.auto.picks c.if-pick_below.ensures

pub loop-depth-preserved : goal.loop-depth-preserved
loop-depth-preserved c =
    let on = back_at c.args.space.now c.args.picks.now c.loop-depth.depth c.loop-depth.picks (omega arith) c.loop-depth.invariant in
    back_next c.args.space.now c.args.picks.now (c.loop-depth.depth - 1) c.loop-depth.picks c.pick_below.new.picks c.older-next.result on c.older-next.ensures c.pick_below.auto.picks c.if-pick_below.ensures
