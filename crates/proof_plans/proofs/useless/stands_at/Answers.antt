use Rattle.std.proofs.Common.{drop, subst, sym, List}
use Rattle.proof_plans.specs.declared.draft.Node.{Node}
use Rattle.proof_plans.specs.Drafts.{IsBranch}
use Rattle.proof_plans.proofs.Novel.{given_at, upper_at}
use Rattle.proof_plans.proofs.useless.stands_at.Goals as goal

pub returns-then-is_given : goal.returns-then-is_given
returns-then-is_given c =
    given_at c.args.scene.now c.args.draft.now c.args.read.now.base c.args.read.now.atom.now c.if-is_given.ensures c.args.node

pub returns-then-stands_here : goal.returns-then-stands_here
returns-then-stands_here c =
    upper_at c.args.scene.now c.args.draft.now c.args.read.now.base c.args.read.now.atom.now c.args.node c.in-Some.upper c.loop-count.count
    (λ task lent branch there. subst (λ (nodes : List Node). IsBranch task lent nodes c.in-Some.upper (drop c.loop-count.count branch)) c.nodes.ensures
    (c.in-Some.ensures task lent branch (subst (λ (nodes : List Node). IsBranch task lent nodes c.args.node branch) (sym c.nodes.ensures) there)))
    c.if-stands_here.ensures
