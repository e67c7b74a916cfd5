use Rattle.std.proofs.Common.{sym, ◌∙◌, arith}
use Rattle.std.proofs.lemmas.List.{length-set}
use Rattle.instance_cursor.proofs.Depths.{fits_set, front_set, on_found, on_next, picked_first}
use Rattle.instance_cursor.proofs.search.+picking.Goals as goal

pub pick_at-pick_from-requires : goal.pick_at-pick_from-requires
pick_at-pick_from-requires t c =
    let size = length-set c.args.picks.now c.args.depth c.args.pick in
    let within = c.requires.within in
    let test = sym (fits_set c.args.space.now c.args.depth c.args.picks.now c.args.pick within) ∙ sym c.fits.ensures ∙ c.if-fits.true in
    (omega arith, (omega arith, front_set c.args.space.now c.args.depth c.args.picks.now c.args.pick within c.requires.front test))

pub pick_below-returns-then-pick_at : goal.pick_below-returns-then-pick_at
pick_below-returns-then-pick_at t c =
    on_found c.args.space.now c.args.depth c.args.picks.now c.args.from c.loop-next.picks c.pick_at.new.picks c.loop-next.next c.in-Some.pick
    c.requires.within c.in-Some.is c.loop-next.invariant (c.pick_at.auto.picks ∙ c.loop-next.auto.picks) c.if-pick_at.ensures

pub pick_below-loop-next-preserved : goal.pick_below-loop-next-preserved
pick_below-loop-next-preserved t c =
    on_next c.args.space.now c.args.depth c.args.picks.now c.args.from c.loop-next.picks c.pick_at.new.picks c.loop-next.next c.in-Some.pick
    c.requires.within c.in-Some.is c.loop-next.invariant (c.pick_at.auto.picks ∙ c.loop-next.auto.picks) c.older-next.result c.if-pick_at.ensures c.older-next.ensures

pub pick_from-returns : goal.pick_from-returns
pick_from-returns t c =
    let within = c.requires.within in
    let other = c.if-depth-picks.false in
    picked_first c.args.space.now c.args.depth c.args.picks.now c.pick_below.new.picks c.newest-next.result c.pick_below.result (omega arith) c.newest-next.ensures c.pick_below.ensures
