use Rattle.std.proofs.Common.{length, ap, sym, ◌∙◌}
use Rattle.coherent_form.specs.Each.{head_in}
use Rattle.coherent_form.specs.Reading.{head_joined, head_of}
use Rattle.coherent_form.proofs.Opened.{head_of-Or, exists_head, head_in_more}
use Rattle.coherent_form.proofs.Steps.{if_ok_as, state_more}
use Rattle.coherent_form.proofs.head.+head.Goals as goal

pub head_of_each-loop-member-preserved : goal.head_of_each-loop-member-preserved
head_of_each-loop-member-preserved t c =
    let tables = c.args.tables.now in
    let scope = c.args.scope.now in
    let at = c.loop-member in
    record {
      so_far = state_more (head_in tables scope) (λ all g. head_joined (length scope) all (head_of tables scope g)) (head_in_more tables scope)
          c.args.members.now at.member-index c.member-item.result c.loop-member-test.true c.member-item.is at.all c.in_ok-all.all at.invariant.so_far
          (c.in_ok-all.ensures
          ∙ (λ i. head_joined ((c.in_ok-within.ensures ∙ c.len.ensures) i) at.all
          ((c.in_ok-more.ensures.value ∙ ap (λ s. head_of tables s c.member-item.result) at.invariant.scope) i)));
      scope = c.in_ok-more.ensures.scope ∙ at.invariant.scope;
    }

pub head_of-returns-in-Or-clause-value : goal.head_of-returns-in-Or-clause-value
head_of-returns-in-Or-clause-value t c = if_ok_as c.head_of_each.result _ _
    (ap (head_in c.args.tables.now c.args.scope.now) c.as_slice.ensures
    ∙ sym (ap (head_of c.args.tables.now c.args.scope.now) c.in-Or.is ∙ head_of-Or c.args.tables.now c.args.scope.now c.in-Or.members))
    c.head_of_each.ensures.value

pub head_of-returns-in_ok-sum_of-in-Exists-clause-value : goal.head_of-returns-in_ok-sum_of-in-Exists-clause-value
head_of-returns-in_ok-sum_of-in-Exists-clause-value t c =
    (λ i. record { variables = c.in_ok-sum_of-in-Exists.ensures i; disjuncts = c.in_ok-head-in-Exists.head.disjuncts })
    ∙ exists_head c.args.tables.now c.args.scope.now c.args.formula.now c.in-Exists.body c.get.result.now c.in-Exists.names c.as_slice-in-Exists.result.now c.bind.new.scope
    c.in_ok-number_of-in-Exists.field-0 c.in_ok-head-in-Exists.head
    c.in-Exists.is c.as_slice-in-Exists.ensures c.get.ensures c.in_ok-bind-in-Exists.ensures c.in_ok-head-in-Exists.ensures.value (c.in_ok-number_of-in-Exists.ensures ∙ c.len.ensures)
