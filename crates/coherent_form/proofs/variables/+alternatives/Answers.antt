use Rattle.std.proofs.Common.{◌++◌, take, ap, sym, ◌∙◌}
use Rattle.coherent_form.specs.Labels.{names_bound, names_joined, alternative_names}
use Rattle.coherent_form.specs.NameNumbers.{choice_names_in, offer_names_in}
use Rattle.coherent_form.proofs.NameLists.{longer_twice, if_ok_listed_as, front_listed, joined_grown, appended_grown, alternative_names-And, alternative_names-Or, alternative_names-Exists, choice_names_in_more, offer_names_in_more}
use Rattle.coherent_form.proofs.variables.+alternatives.Goals as goal

pub choices-loop-member-preserved : goal.choices-loop-member-preserved
choices-loop-member-preserved t c =
    let at = c.loop-member in
    let front = take at.member-index c.args.members.now in
    let member = c.member-item.result in
    let after = c.alternatives.new.names.keys in
    let longer = c.alternatives.ensures.longer in
    record {
      so_far = front_listed choice_names_in c.args.members.now at.member-index member after c.in_ok-all-2.all (names_joined (choice_names_in front) (alternative_names member))
          (choice_names_in_more front member) c.loop-member-test.true c.member-item.is
          (joined_grown at.names.keys after longer at.all c.in_ok-more.more c.in_ok-all-2.all (choice_names_in front) (alternative_names member)
          at.invariant.so_far c.in_ok-more.ensures.lists c.in_ok-all-2.ensures);
      longer = longer_twice c.args.names.now.keys at.names.keys after at.invariant.longer longer;
      distinct = c.alternatives.ensures.distinct;
    }

pub offers-loop-member-preserved : goal.offers-loop-member-preserved
offers-loop-member-preserved t c =
    let at = c.loop-member in
    let front = take at.member-index c.args.members.now in
    let member = c.member-item.result in
    let after = c.alternatives.new.names.keys in
    let longer = c.alternatives.ensures.longer in
    record {
      so_far = front_listed offer_names_in c.args.members.now at.member-index member after c.append.new.self (offer_names_in front ++ alternative_names member)
          (offer_names_in_more front member) c.loop-member-test.true c.member-item.is
          (appended_grown at.names.keys after longer at.all c.in_ok-more.more c.append.new.self (offer_names_in front) (alternative_names member)
          at.invariant.so_far c.in_ok-more.ensures.lists c.in_ok-append.ensures.ok);
      longer = longer_twice c.args.names.now.keys at.names.keys after at.invariant.longer longer;
      distinct = c.alternatives.ensures.distinct;
    }

pub alternatives-returns-in-And-clause-lists : goal.alternatives-returns-in-And-clause-lists
alternatives-returns-in-And-clause-lists t c =
    if_ok_listed_as c.choices.result c.choices.new.names.keys (choice_names_in c.as_slice.result.now) (alternative_names c.args.formula.now)
    (ap choice_names_in c.as_slice.ensures ∙ sym (ap alternative_names c.in-And.is ∙ alternative_names-And c.in-And.members))
    c.choices.ensures.lists

pub alternatives-returns-in-Or-clause-lists : goal.alternatives-returns-in-Or-clause-lists
alternatives-returns-in-Or-clause-lists t c =
    if_ok_listed_as c.offers.result c.offers.new.names.keys (offer_names_in c.as_slice-in-Or.result.now) (alternative_names c.args.formula.now)
    (ap offer_names_in c.as_slice-in-Or.ensures ∙ sym (ap alternative_names c.in-Or.is ∙ alternative_names-Or c.in-Or.members))
    c.offers.ensures.lists

pub alternatives-returns-in_ok-inner-in-Exists-clause-lists : goal.alternatives-returns-in_ok-inner-in-Exists-clause-lists
alternatives-returns-in_ok-inner-in-Exists-clause-lists t c =
    let inner = alternative_names c.get.result.now in
    if_ok_listed_as c.bound.result c.bound.new.names.keys (names_bound c.as_slice-in-Exists.result.now inner) (alternative_names c.args.formula.now)
    ((λ i. names_bound (c.as_slice-in-Exists.ensures i) (alternative_names (c.get.ensures i)))
    ∙ sym (ap alternative_names c.in-Exists.is ∙ alternative_names-Exists c.in-Exists.variables c.in-Exists.body))
    (c.bound.ensures.lists inner c.in_ok-inner-in-Exists.ensures.lists)
