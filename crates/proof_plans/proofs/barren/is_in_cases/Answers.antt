use Rattle.std.proofs.Common.{drop, subst, sym, List}
use Rattle.text_core.specs.Lists.{IsAmong}
use Rattle.proof_plans.specs.declared.draft.Node.{Node}
use Rattle.proof_plans.specs.Drafts.{IsBranch}
use Rattle.proof_plans.specs.Embeds.{case_image}
use Rattle.proof_plans.specs.Repeats.{fact_of}
use Rattle.proof_plans.proofs.Repeats.{some_drop}
use Rattle.proof_plans.proofs.barren.is_in_cases.Goals as goal

pub returns-then-is_in_case : goal.returns-then-is_in_case
returns-then-is_in_case c = λ task lent n is h branch there.
    some_drop (λ case. IsAmong (fact_of h.values c.args.read.now.base c.args.read.now.atom.now) case.facts) (case_image h.values) branch c.loop-count.count
    (c.if-is_in_case.ensures task lent n is h (drop c.loop-count.count branch)
    (subst (λ (nodes : List Node). IsBranch task lent nodes c.in-Some.upper (drop c.loop-count.count branch)) c.nodes.ensures
    (c.in-Some.ensures task lent branch (subst (λ (nodes : List Node). IsBranch task lent nodes c.args.node branch) (sym c.nodes.ensures) there))))
