use Rattle.std.proofs.Common.{◌≡◌, ℕ, List, [], ◌∷◌, ◌++◌, map, refl, ap, sym, ◌∙◌}
use Rattle.coherent_form.specs.NameNumbers.{lists_joined}
use Rattle.coherent_form.proofs.NameLists.{joined_empty, empty_joined, joined_single}
use Rattle.coherent_form.proofs.Steps.{if_ok_as, single_list}
use Rattle.coherent_form.proofs.variables.joined.Goals as goal

pub returns-then-is_empty_list : goal.returns-then-is_empty_list
returns-then-is_empty_list c =
    let none : c.args.seconds ≡ [] ∷ [] = sym c.as_slice.ensures ∙ c.if-is_empty_list.ensures refl in
    sym (ap (lists_joined c.args.firsts) none ∙ joined_empty c.args.firsts)

pub returns-then-is_empty_list-2 : goal.returns-then-is_empty_list-2
returns-then-is_empty_list-2 c =
    let none : c.args.firsts ≡ [] ∷ [] = sym c.as_slice-2.ensures ∙ c.if-is_empty_list-2.ensures refl in
    sym (ap (λ firsts. lists_joined firsts c.args.seconds) none ∙ empty_joined c.args.seconds)

pub returns-in-len1 : goal.returns-in-len1
returns-in-len1 c =
    let firsts = c.args.firsts in
    let second = c.second-item.result in
    let one : c.as_slice-3.result.now ≡ second ∷ [] = single_list c.as_slice-3.result.now second c.in-len1.len_at_least c.in-len1.len_below c.second-item.is in
    if_ok_as c.each_followed.result _ _
    (ap (λ (other : List ℕ). map (λ first. first ++ other) firsts) c.as_slice-in-len1.ensures
    ∙ joined_single firsts second ∙ ap (lists_joined firsts) (sym one ∙ c.as_slice-3.ensures))
    c.each_followed.ensures
