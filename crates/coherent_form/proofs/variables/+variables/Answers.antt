use Rattle.std.proofs.Common.{◌≡◌, [], ◌∷◌, ◌++◌, take, ap, sym, ◌∙◌}
use Rattle.logic_core.specs.declared.formula.Formula.{Binary}
use Rattle.logic_core.specs.declared.formula.Op.TheVariants.{Implies, Implied, Iff}
use Rattle.coherent_form.specs.Each.{each_is_plain}
use Rattle.coherent_form.specs.Labels.{universal_names}
use Rattle.coherent_form.specs.NameNumbers.{universal_names_in}
use Rattle.coherent_form.proofs.NameLists.{longer_twice, front_listed, appended_grown, empty_listed, if_ok_listed, if_ok_listed_as, if_ok_named, if_ok_there, for_all_listed, implies_listed, implied_listed, iff_listed, plain_named, rules_named, universal_names_in_more}
use Rattle.coherent_form.proofs.Steps.{if_ok_as}
use Rattle.coherent_form.proofs.variables.+variables.Goals as goal

pub variables_of_each-loop-member-preserved : goal.variables_of_each-loop-member-preserved
variables_of_each-loop-member-preserved t c =
    let at = c.loop-member in
    let front = take at.member-index c.args.members.now in
    let member = c.member-item.result in
    let after = c.variables_of.new.names.keys in
    let longer = c.variables_of.ensures.extends in
    record {
      so_far = front_listed universal_names_in c.args.members.now at.member-index member after c.append.new.self (universal_names_in front ++ universal_names member)
          (universal_names_in_more front member) c.loop-member-test.true c.member-item.is
          (appended_grown at.names.keys after longer at.all c.in_ok-more.more c.append.new.self (universal_names_in front) (universal_names member)
          at.invariant.so_far (record { named = c.in_ok-more.ensures.variables; there = c.in_ok-more.ensures.there }) c.in_ok-append.ensures.ok);
      longer = longer_twice c.args.names.now.keys at.names.keys after at.invariant.longer longer;
      distinct = c.variables_of.ensures.distinct;
    }

pub variables_of-returns-then-are_plain-clause-variables : goal.variables_of-returns-then-are_plain-clause-variables
variables_of-returns-then-are_plain-clause-variables t c =
    let names = c.args.names.now.keys in
    let f = c.args.formula.now in
    let all = c.single-then-are_plain.result in
    if_ok_named names (universal_names f) all
    (if_ok_listed all names ([] ∷ []) ([] ∷ []) (universal_names f)
    (if_ok_as all (c.new-then-are_plain.result ∷ []) ([] ∷ []) (ap (λ list. list ∷ []) c.new-then-are_plain.ensures) c.single-then-are_plain.ensures)
    (plain_named f c.in-And.members c.in-And.is (ap each_is_plain (sym c.as_slice-in-And.ensures) ∙ sym c.are_plain.ensures ∙ c.if-are_plain.true))
    (empty_listed names))

pub variables_of-returns-else-are_plain-clause-variables : goal.variables_of-returns-else-are_plain-clause-variables
variables_of-returns-else-are_plain-clause-variables t c =
    let after = c.variables_of_each.new.names.keys in
    let f = c.args.formula.now in
    let all = c.variables_of_each.result in
    if_ok_named after (universal_names f) all
    (if_ok_listed_as all after (universal_names_in c.as_slice-in-And-2.result.now) (universal_names f)
    (ap universal_names_in c.as_slice-in-And-2.ensures
    ∙ rules_named f c.in-And.members c.in-And.is (ap each_is_plain (sym c.as_slice-in-And.ensures) ∙ sym c.are_plain.ensures ∙ c.if-are_plain.false))
    c.variables_of_each.ensures.lists)

pub variables_of-returns-in_ok-inner-in-ForAll-clause-variables : goal.variables_of-returns-in_ok-inner-in-ForAll-clause-variables
variables_of-returns-in_ok-inner-in-ForAll-clause-variables t c =
    if_ok_named c.bound.new.names.keys (universal_names c.args.formula.now) c.bound.result
    (for_all_listed c.bound.result c.variables_of.new.names.keys c.bound.new.names.keys c.in_ok-inner-in-ForAll.inner c.get.result.now
    c.in_ok-inner-in-ForAll.ensures.variables c.in_ok-inner-in-ForAll.ensures.there
    c.args.formula.now c.in-ForAll.body c.in-ForAll.variables c.as_slice.result.now c.in-ForAll.is c.as_slice.ensures c.get.ensures c.bound.ensures.lists)

pub variables_of-returns-in_ok-inner-in-ForAll-clause-there : goal.variables_of-returns-in_ok-inner-in-ForAll-clause-there
variables_of-returns-in_ok-inner-in-ForAll-clause-there t c =
    if_ok_there c.bound.new.names.keys (universal_names c.args.formula.now) c.bound.result
    (for_all_listed c.bound.result c.variables_of.new.names.keys c.bound.new.names.keys c.in_ok-inner-in-ForAll.inner c.get.result.now
    c.in_ok-inner-in-ForAll.ensures.variables c.in_ok-inner-in-ForAll.ensures.there
    c.args.formula.now c.in-ForAll.body c.in-ForAll.variables c.as_slice.result.now c.in-ForAll.is c.as_slice.ensures c.get.ensures c.bound.ensures.lists)

pub variables_of-returns-in_ok-forms-in-Implies-clause-variables : goal.variables_of-returns-in_ok-forms-in-Implies-clause-variables
variables_of-returns-in_ok-forms-in-Implies-clause-variables t c =
    let b = c.in-Binary in
    let is : c.args.formula.now ≡ Binary Implies b.left b.right = b.is ∙ ap (λ op. Binary op b.left b.right) c.in-Implies.is in
    let forms = c.in_ok-forms-in-Implies in
    if_ok_named c.guarded.new.names.keys (universal_names c.args.formula.now) c.guarded.result
    (implies_listed c.guarded.result c.variables_of-in-Implies.new.names.keys c.guarded.new.names.keys forms.forms c.get-in-Implies.result.now
    forms.ensures.variables forms.ensures.there
    c.args.formula.now b.left b.right c.get-in-Implies-2.result.now is c.get-in-Implies-2.ensures c.get-in-Implies.ensures c.guarded.ensures.lists)

pub variables_of-returns-in_ok-forms-in-Implies-clause-there : goal.variables_of-returns-in_ok-forms-in-Implies-clause-there
variables_of-returns-in_ok-forms-in-Implies-clause-there t c =
    let b = c.in-Binary in
    let is : c.args.formula.now ≡ Binary Implies b.left b.right = b.is ∙ ap (λ op. Binary op b.left b.right) c.in-Implies.is in
    let forms = c.in_ok-forms-in-Implies in
    if_ok_there c.guarded.new.names.keys (universal_names c.args.formula.now) c.guarded.result
    (implies_listed c.guarded.result c.variables_of-in-Implies.new.names.keys c.guarded.new.names.keys forms.forms c.get-in-Implies.result.now
    forms.ensures.variables forms.ensures.there
    c.args.formula.now b.left b.right c.get-in-Implies-2.result.now is c.get-in-Implies-2.ensures c.get-in-Implies.ensures c.guarded.ensures.lists)

pub variables_of-returns-in_ok-forms-in-Implied-clause-variables : goal.variables_of-returns-in_ok-forms-in-Implied-clause-variables
variables_of-returns-in_ok-forms-in-Implied-clause-variables t c =
    let b = c.in-Binary in
    let is : c.args.formula.now ≡ Binary Implied b.left b.right = b.is ∙ ap (λ op. Binary op b.left b.right) c.in-Implied.is in
    let forms = c.in_ok-forms-in-Implied in
    if_ok_named c.guarded-in-Implied.new.names.keys (universal_names c.args.formula.now) c.guarded-in-Implied.result
    (implied_listed c.guarded-in-Implied.result c.variables_of-in-Implied.new.names.keys c.guarded-in-Implied.new.names.keys forms.forms c.get-in-Implied.result.now
    forms.ensures.variables forms.ensures.there
    c.args.formula.now b.left b.right c.get-in-Implied-2.result.now is c.get-in-Implied-2.ensures c.get-in-Implied.ensures c.guarded-in-Implied.ensures.lists)

pub variables_of-returns-in_ok-forms-in-Implied-clause-there : goal.variables_of-returns-in_ok-forms-in-Implied-clause-there
variables_of-returns-in_ok-forms-in-Implied-clause-there t c =
    let b = c.in-Binary in
    let is : c.args.formula.now ≡ Binary Implied b.left b.right = b.is ∙ ap (λ op. Binary op b.left b.right) c.in-Implied.is in
    let forms = c.in_ok-forms-in-Implied in
    if_ok_there c.guarded-in-Implied.new.names.keys (universal_names c.args.formula.now) c.guarded-in-Implied.result
    (implied_listed c.guarded-in-Implied.result c.variables_of-in-Implied.new.names.keys c.guarded-in-Implied.new.names.keys forms.forms c.get-in-Implied.result.now
    forms.ensures.variables forms.ensures.there
    c.args.formula.now b.left b.right c.get-in-Implied-2.result.now is c.get-in-Implied-2.ensures c.get-in-Implied.ensures c.guarded-in-Implied.ensures.lists)

pub variables_of-returns-in_ok-append-in-Iff-clause-variables : goal.variables_of-returns-in_ok-append-in-Iff-clause-variables
variables_of-returns-in_ok-append-in-Iff-clause-variables t c =
    let b = c.in-Binary in
    let is : c.args.formula.now ≡ Binary Iff b.left b.right = b.is ∙ ap (λ op. Binary op b.left b.right) c.in-Iff.is in
    let right = c.in_ok-forms-in-Iff in
    let left = c.in_ok-forms-in-Iff-2 in
    let middle = c.guarded-in-Iff.new.names.keys in
    let after = c.guarded-in-Iff-2.new.names.keys in
    (iff_listed middle after (longer_twice middle c.variables_of-in-Iff-2.new.names.keys after c.variables_of-in-Iff-2.ensures.extends c.guarded-in-Iff-2.ensures.longer)
    c.in_ok-all-in-Iff.all c.in_ok-guarded-in-Iff.field-0 c.append.new.self
    c.args.formula.now b.left b.right c.get-in-Iff-2.result.now c.get-in-Iff.result.now c.get-in-Iff-4.result.now c.get-in-Iff-3.result.now is
    c.get-in-Iff-2.ensures c.get-in-Iff.ensures c.get-in-Iff-4.ensures c.get-in-Iff-3.ensures
    (c.in_ok-all-in-Iff.ensures.lists (universal_names c.get-in-Iff.result.now) (record { named = right.ensures.variables; there = right.ensures.there }))
    (c.in_ok-guarded-in-Iff.ensures.lists (universal_names c.get-in-Iff-3.result.now) (record { named = left.ensures.variables; there = left.ensures.there }))
    c.in_ok-append-in-Iff.ensures.ok).named

pub variables_of-returns-in_ok-append-in-Iff-clause-there : goal.variables_of-returns-in_ok-append-in-Iff-clause-there
variables_of-returns-in_ok-append-in-Iff-clause-there t c =
    let b = c.in-Binary in
    let is : c.args.formula.now ≡ Binary Iff b.left b.right = b.is ∙ ap (λ op. Binary op b.left b.right) c.in-Iff.is in
    let right = c.in_ok-forms-in-Iff in
    let left = c.in_ok-forms-in-Iff-2 in
    let middle = c.guarded-in-Iff.new.names.keys in
    let after = c.guarded-in-Iff-2.new.names.keys in
    (iff_listed middle after (longer_twice middle c.variables_of-in-Iff-2.new.names.keys after c.variables_of-in-Iff-2.ensures.extends c.guarded-in-Iff-2.ensures.longer)
    c.in_ok-all-in-Iff.all c.in_ok-guarded-in-Iff.field-0 c.append.new.self
    c.args.formula.now b.left b.right c.get-in-Iff-2.result.now c.get-in-Iff.result.now c.get-in-Iff-4.result.now c.get-in-Iff-3.result.now is
    c.get-in-Iff-2.ensures c.get-in-Iff.ensures c.get-in-Iff-4.ensures c.get-in-Iff-3.ensures
    (c.in_ok-all-in-Iff.ensures.lists (universal_names c.get-in-Iff.result.now) (record { named = right.ensures.variables; there = right.ensures.there }))
    (c.in_ok-guarded-in-Iff.ensures.lists (universal_names c.get-in-Iff-3.result.now) (record { named = left.ensures.variables; there = left.ensures.there }))
    c.in_ok-append-in-Iff.ensures.ok).there
