use Rattle.std.proofs.Common.{arith}
use Rattle.std.proofs.lemmas.Result.{on_ok_weaker}
use Rattle.model_search.proofs.Sheets.{goes_more}
use Rattle.model_search.proofs.Before.{stands_next, follows_covers}
use Rattle.model_search.proofs.order.add_follows.Goals as goal

pub loop-earlier-preserved : goal.loop-earlier-preserved
loop-earlier-preserved c = let before = c.loop-earlier.sheet in let after = c.add-in-loop-earlier.new.self in (
  goes_more c.add.new.self before after c.loop-earlier.invariant.0 c.in_ok-add-2.ensures.goes,
  stands_next before after c.loop-earlier.earlier _ c.in_ok-add-2.ensures.goes c.loop-earlier.invariant.1 c.in_ok-add-2.ensures.covers,
)

pub returns : goal.returns
returns c = let covers = follows_covers c.add.new.self c.loop-earlier.sheet c.args.constant c.args.element c.requires c.loop-earlier.invariant.0 c.in_ok-add.ensures.covers
    (λ d j below stands. c.loop-earlier.invariant.1 d j (omega (arith, below)) stands) in
    on_ok_weaker c.finish.result (λ suited d follows h. suited d (covers d follows)
    (c.loop-earlier.invariant.0.suited d (c.in_ok-add.ensures.goes.suited d (c.begin.ensures d h)))) c.finish.ensures
