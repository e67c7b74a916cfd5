use Rattle.std.proofs.Common.{refl}
use Rattle.coherent_form.specs.Labels.{names_joined, alternative_names}
use Rattle.coherent_form.specs.NameNumbers.{lists_joined}
use Rattle.coherent_form.proofs.NameLists.{if_ok_listed, lists_stay, joined_listed}
use Rattle.coherent_form.proofs.variables.guarded.Goals as goal

pub returns-clause-lists : goal.returns-clause-lists
returns-clause-lists c = λ texts h.
    let after = c.alternatives.new.names.keys in
    let guards = alternative_names c.args.premise.now in
    if_ok_listed c.joined.result after (lists_joined c.in_ok-guards.guards c.args.forms) (names_joined guards texts) (names_joined guards texts) c.joined.ensures refl
    (joined_listed after c.in_ok-guards.guards c.args.forms guards texts c.in_ok-guards.ensures.lists
    (lists_stay c.args.names.now.keys after c.alternatives.ensures.longer c.args.forms texts h))
