use Rattle.std.proofs.Common.{◌++◌, length, ap, sym, ◌∙◌}
use Rattle.coherent_form.specs.Each.{choices_in, offers_in}
use Rattle.coherent_form.specs.Reading.{alternatives_joined, alternatives}
use Rattle.coherent_form.proofs.Opened.{alternatives-And, alternatives-Or, exists_alternatives, choices_in_more, offers_in_more}
use Rattle.coherent_form.proofs.Steps.{if_ok_as, state_more}
use Rattle.coherent_form.proofs.alternatives.+alternatives.Goals as goal

pub choices-loop-member-preserved : goal.choices-loop-member-preserved
choices-loop-member-preserved t c =
    let tables = c.args.tables.now in
    let scope = c.args.scope.now in
    let at = c.loop-member in
    record {
      so_far = state_more (choices_in tables scope) (λ all g. alternatives_joined (length scope) all (alternatives tables scope g)) (choices_in_more tables scope)
          c.args.members.now at.member-index c.member-item.result c.loop-member-test.true c.member-item.is at.all c.in_ok-all.all at.invariant.so_far
          (c.in_ok-all.ensures
          ∙ (λ i. alternatives_joined ((c.in_ok-within.ensures ∙ c.len.ensures) i) at.all
          ((c.in_ok-more.ensures.value ∙ ap (λ s. alternatives tables s c.member-item.result) at.invariant.scope) i)));
      scope = c.in_ok-more.ensures.scope ∙ at.invariant.scope;
    }

pub offers-loop-member-preserved : goal.offers-loop-member-preserved
offers-loop-member-preserved t c =
    let tables = c.args.tables.now in
    let scope = c.args.scope.now in
    let at = c.loop-member in
    record {
      so_far = state_more (offers_in tables scope) (λ all g. all ++ alternatives tables scope g) (offers_in_more tables scope)
          c.args.members.now at.member-index c.member-item.result c.loop-member-test.true c.member-item.is at.all c.append.new.self at.invariant.so_far
          (c.in_ok-append.ensures.ok ∙ ap (λ more. at.all ++ more) (c.in_ok-more.ensures.value ∙ ap (λ s. alternatives tables s c.member-item.result) at.invariant.scope));
      scope = c.in_ok-more.ensures.scope ∙ at.invariant.scope;
    }

pub alternatives-returns-in-And-clause-value : goal.alternatives-returns-in-And-clause-value
alternatives-returns-in-And-clause-value t c = if_ok_as c.choices.result _ _
    (ap (choices_in c.args.tables.now c.args.scope.now) c.as_slice.ensures
    ∙ sym (ap (alternatives c.args.tables.now c.args.scope.now) c.in-And.is ∙ alternatives-And c.args.tables.now c.args.scope.now c.in-And.members))
    c.choices.ensures.value

pub alternatives-returns-in-Or-clause-value : goal.alternatives-returns-in-Or-clause-value
alternatives-returns-in-Or-clause-value t c = if_ok_as c.offers.result _ _
    (ap (offers_in c.args.tables.now c.args.scope.now) c.as_slice-in-Or.ensures
    ∙ sym (ap (alternatives c.args.tables.now c.args.scope.now) c.in-Or.is ∙ alternatives-Or c.args.tables.now c.args.scope.now c.in-Or.members))
    c.offers.ensures.value

pub alternatives-returns-in_ok-number_of-in-Exists-clause-value : goal.alternatives-returns-in_ok-number_of-in-Exists-clause-value
alternatives-returns-in_ok-number_of-in-Exists-clause-value t c = if_ok_as c.bound.result _ _
    (exists_alternatives c.args.tables.now c.args.scope.now c.args.formula.now c.in-Exists.body c.get.result.now c.in-Exists.names c.as_slice-in-Exists.result.now c.bind.new.scope
    c.in_ok-number_of-in-Exists.field-0 c.in_ok-all-in-Exists.all
    c.in-Exists.is c.as_slice-in-Exists.ensures c.get.ensures c.in_ok-bind-in-Exists.ensures c.in_ok-all-in-Exists.ensures.value (c.in_ok-number_of-in-Exists.ensures ∙ c.len.ensures))
    c.bound.ensures
