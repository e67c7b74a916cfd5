use Rattle.std.proofs.Common.{rules}
use Rattle.model_search.specs.Orders.{AreFormedRules}
use Rattle.model_search.proofs.Ordered.{placed_fair}
use Rattle.model_search.proofs.Nearby.{ordered_near}
use Rattle.model_search.proofs.one_size.first_sheet.Goals as goal

pub returns-then-not-are_formed : goal.returns-then-not-are_formed
returns-then-not-are_formed c =
    placed_fair c.args.size c.args.rules.now c.add_places.new.sheet (λ d below. c.in_ok-add_places.ensures d below (c.in_ok-sheet.ensures d))

pub returns : goal.returns
returns c =
    let formed : AreFormedRules c.args.count c.args.rules.now = search rules in
    c.in_ok-add_near.ensures
    (ordered_near c.args.size c.args.count c.args.rules.now formed c.add_places.new.sheet c.add_order.new.sheet
    (λ d below. c.in_ok-add_places.ensures d below (c.in_ok-sheet.ensures d)) c.in_ok-add_order.ensures)
