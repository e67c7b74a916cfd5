use Rattle.std.proofs.Common.{◌≡◌, [], ◌∷◌, refl, ap, sym, ◌∙◌}
use Rattle.coherent_form.specs.Each.{nothing}
use Rattle.coherent_form.specs.Reading.{alternatives_joined}
use Rattle.coherent_form.proofs.Joining.{joined_nothing, nothing_joined, joined_single}
use Rattle.coherent_form.proofs.Steps.{if_ok_as, single_list}
use Rattle.coherent_form.proofs.alternatives.joined.Goals as goal

pub returns-then-is_nothing : goal.returns-then-is_nothing
returns-then-is_nothing c =
    let none : c.args.seconds ≡ nothing ∷ [] = sym c.as_slice.ensures ∙ c.if-is_nothing.ensures refl in
    sym (ap (alternatives_joined c.args.scope c.args.firsts) none ∙ joined_nothing c.args.scope c.args.firsts)

pub returns-then-is_nothing-2 : goal.returns-then-is_nothing-2
returns-then-is_nothing-2 c =
    let none : c.args.firsts ≡ nothing ∷ [] = sym c.as_slice-2.ensures ∙ c.if-is_nothing-2.ensures refl in
    sym (ap (λ firsts. alternatives_joined c.args.scope firsts c.args.seconds) none ∙ nothing_joined c.args.scope c.args.seconds)

pub returns-in-len1 : goal.returns-in-len1
returns-in-len1 c =
    let one : c.as_slice-3.result.now ≡ c.second-item.result ∷ [] = single_list c.as_slice-3.result.now c.second-item.result c.in-len1.len_at_least c.in-len1.len_below c.second-item.is in
    if_ok_as c.each_followed.result _ _
    (joined_single c.args.scope c.args.firsts c.second-item.result ∙ ap (alternatives_joined c.args.scope c.args.firsts) (sym one ∙ c.as_slice-3.ensures))
    c.each_followed.ensures
