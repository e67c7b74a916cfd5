use Rattle.std.proofs.Common.{◌≡◌, ◌++◌, length, ap, sym, ◌∙◌}
use Rattle.coherent_form.specs.Each.{each_is_plain, forms_in}
use Rattle.logic_core.specs.declared.formula.Formula.{Binary}
use Rattle.logic_core.specs.declared.formula.Op.TheVariants.{Implies, Implied, Iff}
use Rattle.coherent_form.specs.Reading.{forms_of, alternatives}
use Rattle.coherent_form.proofs.Opened.{for_all_forms, forms_in_more, implies_forms, implied_forms, iff_forms, plain_forms, rules_forms}
use Rattle.coherent_form.proofs.Steps.{if_ok_as, state_more}
use Rattle.coherent_form.proofs.rule.+rules.Goals as goal

pub forms_of_each-loop-member-preserved : goal.forms_of_each-loop-member-preserved
forms_of_each-loop-member-preserved t c =
    let tables = c.args.tables.now in
    let scope = c.args.scope.now in
    let at = c.loop-member in
    record {
      so_far = state_more (forms_in tables scope) (λ all g. all ++ forms_of tables scope g) (forms_in_more tables scope)
          c.args.members.now at.member-index c.member-item.result c.loop-member-test.true c.member-item.is at.all c.append.new.self at.invariant.so_far
          (c.in_ok-append.ensures.ok ∙ ap (λ more. at.all ++ more) (c.in_ok-more.ensures.value ∙ ap (λ s. forms_of tables s c.member-item.result) at.invariant.scope));
      scope = c.in_ok-more.ensures.scope ∙ at.invariant.scope;
    }

pub rule_forms-returns-in_ok-number_of-in-ForAll-clause-value : goal.rule_forms-returns-in_ok-number_of-in-ForAll-clause-value
rule_forms-returns-in_ok-number_of-in-ForAll-clause-value t c = if_ok_as c.bound.result _ _
    (for_all_forms c.args.tables.now c.args.scope.now c.args.formula.now c.in-ForAll.body c.get.result.now c.in-ForAll.names c.as_slice.result.now c.bind.new.scope
    c.in_ok-number_of-in-ForAll.field-0 c.in_ok-forms-in-ForAll.forms
    c.in-ForAll.is c.as_slice.ensures c.get.ensures c.in_ok-bind-in-ForAll.ensures c.in_ok-forms-in-ForAll.ensures.value (c.in_ok-number_of-in-ForAll.ensures ∙ c.len.ensures))
    c.bound.ensures

pub rule_forms-returns-then-are_plain-clause-value : goal.rule_forms-returns-then-are_plain-clause-value
rule_forms-returns-then-are_plain-clause-value t c = if_ok_as c.concluded-then-are_plain.result _ _
    (plain_forms c.args.tables.now c.args.scope.now c.args.formula.now c.in-And.members c.in-And.is
    (ap each_is_plain (sym c.as_slice-in-And.ensures) ∙ sym c.are_plain.ensures ∙ c.if-are_plain.true))
    c.concluded-then-are_plain.ensures.value

pub rule_forms-returns-else-are_plain-clause-value : goal.rule_forms-returns-else-are_plain-clause-value
rule_forms-returns-else-are_plain-clause-value t c = if_ok_as c.forms_of_each.result _ _
    (ap (forms_in c.args.tables.now c.args.scope.now) c.as_slice-in-And-2.ensures
    ∙ rules_forms c.args.tables.now c.args.scope.now c.args.formula.now c.in-And.members c.in-And.is
    (ap each_is_plain (sym c.as_slice-in-And.ensures) ∙ sym c.are_plain.ensures ∙ c.if-are_plain.false))
    c.forms_of_each.ensures.value

pub rule_forms-returns-in_ok-number_of-in-Implies-clause-value : goal.rule_forms-returns-in_ok-number_of-in-Implies-clause-value
rule_forms-returns-in_ok-number_of-in-Implies-clause-value t c =
    let tables = c.args.tables.now in
    let scope = c.args.scope.now in
    let b = c.in-Binary in
    let is : c.args.formula.now ≡ Binary Implies b.left b.right = b.is ∙ ap (λ op. Binary op b.left b.right) c.in-Implies.is in
    let outer = c.in_ok-guards-in-Implies.ensures.scope in
    let inner = c.in_ok-forms-in-Implies.ensures.scope ∙ outer in
    if_ok_as c.guarded.result _ _
    (implies_forms tables scope c.args.formula.now b.left b.right c.get-in-Implies.result.now c.get-in-Implies-2.result.now
    c.in_ok-number_of-in-Implies.field-0 c.in_ok-guards-in-Implies.guards c.in_ok-forms-in-Implies.forms
    c.get-in-Implies.ensures c.get-in-Implies-2.ensures (c.in_ok-number_of-in-Implies.ensures ∙ c.len-in-Implies.ensures ∙ ap length inner)
    is
    c.in_ok-guards-in-Implies.ensures.value (c.in_ok-forms-in-Implies.ensures.value ∙ ap (λ s. forms_of tables s c.get-in-Implies-2.result.now) outer))
    c.guarded.ensures

pub rule_forms-returns-in_ok-number_of-in-Implied-clause-value : goal.rule_forms-returns-in_ok-number_of-in-Implied-clause-value
rule_forms-returns-in_ok-number_of-in-Implied-clause-value t c =
    let tables = c.args.tables.now in
    let scope = c.args.scope.now in
    let b = c.in-Binary in
    let is : c.args.formula.now ≡ Binary Implied b.left b.right = b.is ∙ ap (λ op. Binary op b.left b.right) c.in-Implied.is in
    let outer = c.in_ok-guards-in-Implied.ensures.scope in
    let inner = c.in_ok-forms-in-Implied.ensures.scope ∙ outer in
    if_ok_as c.guarded-in-Implied.result _ _
    (implied_forms tables scope c.args.formula.now b.left b.right c.get-in-Implied-2.result.now c.get-in-Implied.result.now
    c.in_ok-number_of-in-Implied.field-0 c.in_ok-guards-in-Implied.guards c.in_ok-forms-in-Implied.forms
    c.get-in-Implied-2.ensures c.get-in-Implied.ensures (c.in_ok-number_of-in-Implied.ensures ∙ c.len-in-Implied.ensures ∙ ap length inner)
    is
    c.in_ok-guards-in-Implied.ensures.value (c.in_ok-forms-in-Implied.ensures.value ∙ ap (λ s. forms_of tables s c.get-in-Implied-2.result.now) outer))
    c.guarded-in-Implied.ensures

pub rule_forms-returns-in_ok-append-in-Iff-clause-value : goal.rule_forms-returns-in_ok-append-in-Iff-clause-value
rule_forms-returns-in_ok-append-in-Iff-clause-value t c =
    let tables = c.args.tables.now in
    let scope = c.args.scope.now in
    let b = c.in-Binary in
    let is : c.args.formula.now ≡ Binary Iff b.left b.right = b.is ∙ ap (λ op. Binary op b.left b.right) c.in-Iff.is in
    let first = c.in_ok-guards-in-Iff.ensures.scope in
    let second = c.in_ok-forms-in-Iff.ensures.scope ∙ first in
    let third = c.in_ok-guards-in-Iff-2.ensures.scope ∙ second in
    let fourth = c.in_ok-forms-in-Iff-2.ensures.scope ∙ third in
    c.in_ok-append-in-Iff.ensures.ok
    ∙ (λ i. c.in_ok-all-in-Iff.ensures i ++ c.in_ok-guarded-in-Iff.ensures i)
    ∙ iff_forms tables scope c.args.formula.now b.left b.right c.get-in-Iff.result.now c.get-in-Iff-2.result.now
    c.in_ok-number_of-in-Iff.field-0 c.in_ok-guards-in-Iff.guards c.in_ok-forms-in-Iff.forms
    c.get-in-Iff.ensures c.get-in-Iff-2.ensures (c.in_ok-number_of-in-Iff.ensures ∙ c.len-in-Iff.ensures ∙ ap length second)
    is
    c.in_ok-number_of-in-Iff-2.field-0 c.in_ok-guards-in-Iff-2.guards c.in_ok-forms-in-Iff-2.forms
    (c.in_ok-number_of-in-Iff-2.ensures ∙ c.len-in-Iff-2.ensures ∙ ap length fourth)
    c.in_ok-guards-in-Iff.ensures.value (c.in_ok-forms-in-Iff.ensures.value ∙ ap (λ s. forms_of tables s c.get-in-Iff-2.result.now) first)
    (c.in_ok-guards-in-Iff-2.ensures.value ∙ (λ i. alternatives tables (second i) ((c.get-in-Iff-3.ensures ∙ sym c.get-in-Iff-2.ensures) i)))
    (c.in_ok-forms-in-Iff-2.ensures.value ∙ (λ i. forms_of tables (third i) ((c.get-in-Iff-4.ensures ∙ sym c.get-in-Iff.ensures) i)))
