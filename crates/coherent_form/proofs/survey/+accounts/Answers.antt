use Rattle.std.proofs.Common.{ap, ◌∙◌}
use Rattle.coherent_form.specs.Surveys.{account_of, members_of, members_more, negation_account, conjunction_account, disjunction_account, universal_account, existential_account, binary_account}
use Rattle.coherent_form.proofs.Steps.{state_more}
use Rattle.coherent_form.proofs.Surveying.{members_of-more, told_Not, told_And, told_Or, told_Binary, told_ForAll, told_Exists}
use Rattle.coherent_form.proofs.survey.+accounts.Goals as goal

pub members_of-loop-member-preserved : goal.members_of-loop-member-preserved
members_of-loop-member-preserved t c =
    state_more members_of (λ all g. members_more all (account_of g)) members_of-more c.args.members.now c.loop-member.member-index c.member-item.result
    c.loop-member-test.true c.member-item.is c.loop-member.all c.with-all.result c.loop-member.invariant
    (c.with-all.ensures ∙ ap (members_more c.loop-member.all) c.account_of.ensures)

pub account_of-returns-in-Not : goal.account_of-returns-in-Not
account_of-returns-in-Not t c =
    c.negation.ensures ∙ (λ i. negation_account (c.atom_arguments.ensures i) (c.account_of.ensures i).nodes)
    ∙ told_Not c.args.formula.now c.in-Not.body c.get.result.now c.get-in-Not.result.now c.in-Not.is c.get.ensures c.get-in-Not.ensures

pub account_of-returns-in-And : goal.account_of-returns-in-And
account_of-returns-in-And t c =
    c.conjunction.ensures ∙ ap conjunction_account c.members_of.ensures
    ∙ told_And c.args.formula.now c.in-And.members c.as_slice.result.now c.in-And.is c.as_slice.ensures

pub account_of-returns-in-Or : goal.account_of-returns-in-Or
account_of-returns-in-Or t c =
    c.disjunction.ensures ∙ ap disjunction_account c.members_of-in-Or.ensures
    ∙ told_Or c.args.formula.now c.in-Or.members c.as_slice-in-Or.result.now c.in-Or.is c.as_slice-in-Or.ensures

pub account_of-returns-in-Binary : goal.account_of-returns-in-Binary
account_of-returns-in-Binary t c =
    c.binary.ensures ∙ (λ i. binary_account c.in-Binary.op (c.account_of-in-Binary.ensures i) (c.account_of-in-Binary-2.ensures i))
    ∙ told_Binary c.args.formula.now c.in-Binary.left c.in-Binary.right c.get-in-Binary.result.now c.get-in-Binary-2.result.now c.in-Binary.op
    c.in-Binary.is c.get-in-Binary.ensures c.get-in-Binary-2.ensures

pub account_of-returns-in-ForAll : goal.account_of-returns-in-ForAll
account_of-returns-in-ForAll t c =
    c.universal.ensures ∙ ap (universal_account c.len-in-ForAll.result) c.account_of-in-ForAll.ensures
    ∙ told_ForAll c.args.formula.now c.in-ForAll.body c.get-in-ForAll.result.now c.in-ForAll.names c.len-in-ForAll.result c.in-ForAll.is c.get-in-ForAll.ensures c.len-in-ForAll.ensures

pub account_of-returns-in-Exists : goal.account_of-returns-in-Exists
account_of-returns-in-Exists t c =
    c.existential.ensures ∙ ap (existential_account c.len-in-Exists.result) c.account_of-in-Exists.ensures
    ∙ told_Exists c.args.formula.now c.in-Exists.body c.get-in-Exists.result.now c.in-Exists.names c.len-in-Exists.result c.in-Exists.is c.get-in-Exists.ensures c.len-in-Exists.ensures
