use Rattle.std.proofs.Common.{◌≡◌, ◌∙◌, List, sym, ap, subst, length}
use Rattle.vernacular_tree.specs.Contexts.{Task}
use Rattle.vernacular_tree.specs.declared.context.Context.{Context}
use Rattle.proof_plans.specs.declared.draft.Node.{Node}
use Rattle.proof_plans.specs.declared.draft.PlanTie as PlanTie
use Rattle.proof_plans.specs.Plans.{Tie}
use Rattle.proof_plans.specs.Drafts.{Both, IsTie}
use Rattle.proof_plans.specs.Places.{PlacesHold}
use Rattle.proof_plans.proofs.Hoped.{indices_long}
use Rattle.proof_plans.proofs.settle.is_impossible.Goals as goal

-- ties go together with those that are read
read_ties : (task : Task) (lent : Context) (nodes read : List Node) (ties others : List PlanTie.PlanTie) (holding : List Tie) → read ≡ nodes → others ≡ ties → Both (IsTie task lent nodes) ties holding
    → Both (IsTie task lent read) others holding
read_ties task lent nodes read ties others holding e f h =
    subst (λ (ns : List Node). Both (IsTie task lent ns) others holding) (sym e) (subst (λ (ts : List PlanTie.PlanTie). Both (IsTie task lent nodes) ts holding) (sym f) h)

pub loop-round-init : goal.loop-round-init
loop-round-init c = λ task lent n h.
    c.if-not-unknown_places.ensures task lent c.args.draft.now.nodes h.values h.fires h.indices (indices_long task lent n c.args.draft.now h ∙ ap length (sym c.steps.ensures))

pub returns-in-Dead : goal.returns-in-Dead
returns-in-Dead c = λ task lent n h.
    c.in-Dead.ensures task lent h.values h.fires h.indices h.plan.ties
    (read_ties task lent c.args.draft.now.nodes c.nodes.result.now c.args.draft.now.ties c.ties.result.now h.plan.ties c.nodes.ensures c.ties.ensures h.keeps.ties_are) h.embeds.ties
    (subst (λ (ns : List Node). PlacesHold task lent ns h.values h.fires h.indices c.loop-round.places.items) (sym c.nodes.ensures) (c.loop-round.invariant task lent n h))

pub loop-round-preserved : goal.loop-round-preserved
loop-round-preserved c = λ task lent n h.
    subst (λ (ns : List Node). PlacesHold task lent ns h.values h.fires h.indices c.settle_once.new.places.items) c.nodes.ensures
    (c.in-Changed.ensures task lent h.values h.fires h.indices h.plan.ties
    (read_ties task lent c.args.draft.now.nodes c.nodes.result.now c.args.draft.now.ties c.ties.result.now h.plan.ties c.nodes.ensures c.ties.ensures h.keeps.ties_are) h.embeds.ties
    (subst (λ (ns : List Node). PlacesHold task lent ns h.values h.fires h.indices c.loop-round.places.items) (sym c.nodes.ensures) (c.loop-round.invariant task lent n h)))

pub returns-in-Dead-matches : goal.returns-in-Dead-matches
returns-in-Dead-matches c = λ task lent n h.
    c.in-Dead-matches.ensures task lent h.values h.fires h.indices h.plan.ties
    (read_ties task lent c.args.draft.now.nodes c.nodes-2.result.now c.args.draft.now.ties c.ties-2.result.now h.plan.ties c.nodes-2.ensures c.ties-2.ensures h.keeps.ties_are) h.embeds.ties
    (subst (λ (ns : List Node). PlacesHold task lent ns h.values h.fires h.indices c.loop-round.places.items) (sym c.nodes-2.ensures) (c.loop-round.invariant task lent n h))
