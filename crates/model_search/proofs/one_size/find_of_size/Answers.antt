use Rattle.std.proofs.Common.{rules}
use Rattle.model_search.proofs.Ordered.{fair_next}
use Rattle.model_search.proofs.one_size.find_of_size.Goals as goal

pub loop-init : goal.loop-init
loop-init c = fair_next c.args.size c.args.rules.now c.in_ok-sheet.sheet c.add_firsts.new.sheet c.in_ok-add_firsts.ensures c.in_ok-sheet.ensures

pub returns-in-None-clause-none : goal.returns-in-None-clause-none
returns-in-None-clause-none c = λ d suits. let h = c.loop.invariant d suits in c.in_ok-solve.ensures.none (search rules) h.candidate h.suited

pub loop-preserved : goal.loop-preserved
loop-preserved c = fair_next c.args.size c.args.rules.now c.loop.sheet c.add_batches.new.sheet
    (λ d suits h. c.in_ok-add_batches-in-Batches.ensures d suits (c.in_ok-solve.ensures.suited d h)) c.loop.invariant
