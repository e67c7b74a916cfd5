use Rattle.std.proofs.Common.{◌∙◌, arith}
use Rattle.std.proofs.lemmas.Result.{on_ok_weaker}
use Rattle.model_search.proofs.Sheets.{goes_more}
use Rattle.model_search.proofs.Disjuncts.{no_further, popped}
use Rattle.model_search.proofs.NearClauses.{near_choices_next, near_choices_all}
use Rattle.model_search.proofs.near.+add_near_options.Goals as goal

pub returns-then-further-eq0-clause-covers : goal.returns-then-further-eq0-clause-covers
returns-then-further-eq0-clause-covers t c =
    on_ok_weaker c.add_disjuncts.result
    (λ covers k xs long below close. no_further k c.args.values.now.items c.as_slice.result.now xs c.args.further c.args.disjuncts.now
    c.add_disjuncts.new.sheet c.as_slice.ensures.value long c.if-further-eq0.true (covers k)) c.add_disjuncts.ensures.covers

pub loop-element-preserved : goal.loop-element-preserved
loop-element-preserved t c = record {
  values = popped c.loop-element.values.items c.push.new.self.items c.add_near_options.new.values.items c.pop.new.self.items c.loop-element.element _
      c.in_ok-push.ensures.items c.in_ok-add_near_options.ensures.values (let long = c.add_near_options.new.values.ok.0 in omega arith) c.pop.ensures.rest
      ∙ c.loop-element.invariant.values;
  goes = goes_more c.args.sheet.now c.loop-element.sheet c.add_near_options.new.sheet c.loop-element.invariant.goes c.in_ok-add_near_options.ensures.goes;
  covers = λ k. near_choices_next k c.args.values.now.items c.loop-element.values.items c.push.new.self.items c.loop-element.element c.args.further
      c.args.size c.args.near c.max-more.result c.args.disjuncts.now c.loop-element.sheet c.add_near_options.new.sheet c.loop-element.invariant.values
      c.in_ok-push.ensures.items (omega arith) c.in_ok-add_near_options.ensures.goes (c.loop-element.invariant.covers k)
      (c.in_ok-add_near_options.ensures.covers k);
}

pub returns-clause-covers : goal.returns-clause-covers
returns-clause-covers t c = λ k.
    near_choices_all k c.args.values.now.items c.loop-element.element c.args.further c.args.size c.args.near c.args.disjuncts.now c.loop-element.sheet
    (λ x inside close. omega (arith, inside, close)) c.if-further-eq0.false (c.loop-element.invariant.covers k)
