use Rattle.std.proofs.Common.{◌<◌, refl, subst, arith}
use Rattle.std.specs.List.{AllByRecursion}
use Rattle.model_search.proofs.NearClauses.{near_choice_goes}
use Rattle.model_search.proofs.near.add_near_choice.Goals as goal

pub returns : goal.returns
returns c =
    near_choice_goes c.args.size c.args.near c.max-first.result c.in-Some.more c.args.form.now c.in_ok-values.values.items c.args.sheet.now
    c.add_near_instance.new.sheet c.requires.closed (omega arith) (omega arith) (omega (arith, c.in-Some.ensures))
    (let long = c.in_ok-values.values.ok.0 in let same = c.len.ensures in let count = c.if-len-form.false in omega arith)
    (subst (AllByRecursion (λ x. x < c.max-first.result)) c.as_slice-else-first-size.ensures.value (c.if-not-are_elements.ensures refl)) c.in_ok-add_near_instance.ensures
