use Rattle.std.proofs.Common.{ℕ, List, ◌++◌, map, ap, ◌∙◌}
use Rattle.coherent_form.specs.NameNumbers.{lists_joined}
use Rattle.coherent_form.proofs.NameLists.{joined_more}
use Rattle.coherent_form.proofs.Steps.{state_more}
use Rattle.coherent_form.proofs.variables.product.Goals as goal

pub loop-first-preserved : goal.loop-first-preserved
loop-first-preserved c =
    let at = c.loop-first in
    let seconds = c.args.seconds.now in
    state_more (λ firsts. lists_joined firsts seconds) (λ all first. all ++ map (λ second. first ++ second) seconds) (λ firsts first. joined_more firsts first seconds)
    c.args.firsts.now at.first-index c.first-item.result c.loop-first-test.true c.first-item.is at.all c.push_followed.new.all at.invariant
    (c.in_ok-push_followed.ensures ∙ ap (λ (first : List ℕ). at.all ++ map (λ second. first ++ second) seconds) c.as_slice.ensures)
