use Rattle.std.proofs.Common.{◌≡◌, ◌-◌, ◌∷◌, sym, ◌∙◌, ap, subst, arith, length, take, drop}
use Rattle.finite_model.specs.Assignments.{older}
use Rattle.logic_core.specs.Truth.{IsTrueIn}
use Rattle.logic_core.specs.declared.formula.Formula.{Not, And, Or, Binary, ForAll, Exists}
use Rattle.finite_model.specs.Structures.{finite}
use Rattle.finite_model.specs.Decided.{Decides}
use Rattle.finite_model.proofs.Truths.{not_decided, and_decided, or_decided, binary_decided, forall_decided, exists_decided, if_ok_weaker, not_weighs, and_weighs, or_weighs, binary_weighs, forall_weighs, exists_weighs, member_weighs, some_item, wanted_is, compared_same, choice_step}
use Rattle.finite_model.proofs.truth.+truth.Goals as goal

pub has_choice-loop-element-preserved : goal.has_choice-loop-element-preserved
has_choice-loop-element-preserved t c =
    let s = finite c.args.lookup.now in
    let xs = take (length c.args.variables.now - 1) (drop 1 c.args.variables.now) in
    let bound : c.bind.new.self ≡ (c.first-item.result, c.loop-element.element) ∷ c.args.values.now =
    c.in_ok-bind-in-len1-up.ensures ∙ ap (λ e. (c.first-item.result, c.loop-element.element) ∷ e) c.loop-element.invariant.values in
    record {
      values = c.unbind.ensures ∙ ap older (c.in_ok-found-in-len1-up.ensures.values ∙ bound);
      none = choice_step s c.args.wanted c.in_ok-found-in-len1-up.found (IsTrueIn s c.args.formula.now) xs c.args.values.now c.bind.new.self
          c.first-item.result c.loop-element.element bound c.if-found.false c.in_ok-found-in-len1-up.ensures.found
          c.loop-element.invariant.none;
    }

pub has_member-is_true-requires : goal.has_member-is_true-requires
has_member-is_true-requires t c =
    omega (arith, member_weighs c.args.formulas.now c.loop-formula.formula-index c.formula-item.result c.loop-formula-test.true c.formula-item.is)

pub has_member-returns-then-branch-wanted-clause-found : goal.has_member-returns-then-branch-wanted-clause-found
has_member-returns-then-branch-wanted-clause-found t c =
    let s = finite c.args.lookup.now in
    some_item (λ g. Decides c.args.wanted (IsTrueIn s g c.args.values.now)) c.args.formulas.now c.loop-formula.formula-index
    c.formula-item.result c.loop-formula-test.true c.formula-item.is
    (wanted_is (IsTrueIn s c.formula-item.result c.args.values.now) c.in_ok-is_true.field-0 c.args.wanted
    (compared_same c.in_ok-is_true.field-0 c.args.wanted c.if-branch-wanted.true)
    (subst (λ e. Decides c.in_ok-is_true.field-0 (IsTrueIn s c.formula-item.result e)) c.loop-formula.invariant.values
    c.in_ok-is_true.ensures.truth))

pub is_true-is_true-requires : goal.is_true-is_true-requires
is_true-is_true-requires t c =
    omega (arith, not_weighs c.args.formula.now c.get.result.now (c.in-Not.is ∙ ap Not (sym c.get.ensures)))

pub is_true-has_member-requires : goal.is_true-has_member-requires
is_true-has_member-requires t c =
    omega (arith, and_weighs c.args.formula.now c.as_slice-in-And.result.now (c.in-And.is ∙ ap And (sym c.as_slice-in-And.ensures)))

pub is_true-has_member-requires-in-Or : goal.is_true-has_member-requires-in-Or
is_true-has_member-requires-in-Or t c =
    omega (arith, or_weighs c.args.formula.now c.as_slice-in-Or.result.now (c.in-Or.is ∙ ap Or (sym c.as_slice-in-Or.ensures)))

pub is_true-both_true-requires : goal.is_true-both_true-requires
is_true-both_true-requires t c =
    omega (
      arith,
      binary_weighs c.args.formula.now c.in-Binary.op c.get-in-Binary.result.now c.get-in-Binary-2.result.now
          (c.in-Binary.is ∙ (λ i. Binary c.in-Binary.op (sym c.get-in-Binary.ensures i) (sym c.get-in-Binary-2.ensures i))),
    )

pub is_true-has_choice-requires : goal.is_true-has_choice-requires
is_true-has_choice-requires t c =
    omega (
      arith,
      forall_weighs c.args.formula.now c.as_slice-in-ForAll.result.now c.get-in-ForAll.result.now
          (c.in-ForAll.is ∙ (λ i. ForAll (sym c.as_slice-in-ForAll.ensures i) (sym c.get-in-ForAll.ensures i))),
    )

pub is_true-has_choice-requires-in-Exists : goal.is_true-has_choice-requires-in-Exists
is_true-has_choice-requires-in-Exists t c =
    omega (
      arith,
      exists_weighs c.args.formula.now c.as_slice-in-Exists.result.now c.get-in-Exists.result.now
          (c.in-Exists.is ∙ (λ i. Exists (sym c.as_slice-in-Exists.ensures i) (sym c.get-in-Exists.ensures i))),
    )

pub is_true-returns-in_ok-is_true-in-Not-clause-truth : goal.is_true-returns-in_ok-is_true-in-Not-clause-truth
is_true-returns-in_ok-is_true-in-Not-clause-truth t c =
    not_decided (finite c.args.lookup.now) c.args.values.now c.args.formula.now c.get.result.now c.in_ok-is_true-in-Not.field-0
    (c.in-Not.is ∙ ap Not (sym c.get.ensures)) c.in_ok-is_true-in-Not.ensures.truth

pub is_true-returns-in_ok-has_member-in-And-clause-truth : goal.is_true-returns-in_ok-has_member-in-And-clause-truth
is_true-returns-in_ok-has_member-in-And-clause-truth t c =
    and_decided (finite c.args.lookup.now) c.args.values.now c.args.formula.now c.as_slice-in-And.result.now c.in_ok-has_member-in-And.field-0
    (c.in-And.is ∙ ap And (sym c.as_slice-in-And.ensures)) c.in_ok-has_member-in-And.ensures.found

pub is_true-returns-in-Or-clause-truth : goal.is_true-returns-in-Or-clause-truth
is_true-returns-in-Or-clause-truth t c =
    if_ok_weaker c.has_member-in-Or.result
    (λ found h. or_decided (finite c.args.lookup.now) c.args.values.now c.args.formula.now c.as_slice-in-Or.result.now found
    (c.in-Or.is ∙ ap Or (sym c.as_slice-in-Or.ensures)) h) c.has_member-in-Or.ensures.found

pub is_true-returns-in-Binary-clause-truth : goal.is_true-returns-in-Binary-clause-truth
is_true-returns-in-Binary-clause-truth t c =
    if_ok_weaker c.both_true.result
    (λ truth h. binary_decided (finite c.args.lookup.now) c.args.values.now c.args.formula.now c.in-Binary.op c.get-in-Binary.result.now
    c.get-in-Binary-2.result.now truth
    (c.in-Binary.is ∙ (λ i. Binary c.in-Binary.op (sym c.get-in-Binary.ensures i) (sym c.get-in-Binary-2.ensures i))) h)
    c.both_true.ensures.truth

pub is_true-returns-in_ok-has_choice-in-ForAll-clause-truth : goal.is_true-returns-in_ok-has_choice-in-ForAll-clause-truth
is_true-returns-in_ok-has_choice-in-ForAll-clause-truth t c =
    forall_decided (finite c.args.lookup.now) c.args.values.now c.args.formula.now c.as_slice-in-ForAll.result.now c.get-in-ForAll.result.now
    c.in_ok-has_choice-in-ForAll.field-0
    (c.in-ForAll.is ∙ (λ i. ForAll (sym c.as_slice-in-ForAll.ensures i) (sym c.get-in-ForAll.ensures i)))
    c.in_ok-has_choice-in-ForAll.ensures.found

pub is_true-returns-in-Exists-clause-truth : goal.is_true-returns-in-Exists-clause-truth
is_true-returns-in-Exists-clause-truth t c =
    if_ok_weaker c.has_choice-in-Exists.result
    (λ found h. exists_decided (finite c.args.lookup.now) c.args.values.now c.args.formula.now c.as_slice-in-Exists.result.now
    c.get-in-Exists.result.now found
    (c.in-Exists.is ∙ (λ i. Exists (sym c.as_slice-in-Exists.ensures i) (sym c.get-in-Exists.ensures i))) h)
    c.has_choice-in-Exists.ensures.found
