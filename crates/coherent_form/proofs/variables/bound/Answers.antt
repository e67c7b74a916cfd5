use Rattle.std.proofs.Common.{refl}
use Rattle.coherent_form.specs.Labels.{names_bound}
use Rattle.coherent_form.specs.NameNumbers.{lists_joined}
use Rattle.coherent_form.proofs.NameLists.{if_ok_listed, bound_grown}
use Rattle.coherent_form.proofs.variables.bound.Goals as goal

pub returns-clause-lists : goal.returns-clause-lists
returns-clause-lists c = λ texts h.
    let variables = c.args.variables.now in
    if_ok_listed c.joined.result c.enter_each.new.names.keys (lists_joined c.in_ok-single.field-0 c.args.inner) (names_bound variables texts) (names_bound variables texts) c.joined.ensures refl
    (bound_grown c.args.names.now.keys c.enter_each.new.names.keys c.enter_each.ensures.longer c.in_ok-numbers.numbers c.in_ok-single.field-0 c.args.inner
    (lists_joined c.in_ok-single.field-0 c.args.inner) variables texts c.in_ok-numbers.ensures.numbers c.in_ok-single.ensures h refl)
