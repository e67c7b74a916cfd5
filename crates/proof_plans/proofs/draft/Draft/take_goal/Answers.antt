use Rattle.std.proofs.Common.{◌≡◌, ◌∙◌, ap, sym, List, [], ◌∷◌, ◌++◌, set}
use Rattle.proof_plans.specs.declared.draft.PlanGoal.{PlanGoal}
use Rattle.std.proofs.Common.{slice_get}
use Rattle.proof_plans.proofs.Puts.{taken_put}
use Rattle.proof_plans.proofs.draft.Draft.take_goal.Goals as goal

pub returns-in-Some : goal.returns-in-Some
returns-in-Some c =
    let rest : c.self.inside.goals.items ≡ c.pop.new.self.items ++ c.in_ok-newest.newest ∷ [] = c.in_ok-newest.ensures.items in
    let whole : c.self.inside.goals.items ≡ Rattle.proof_plans.specs.Drafts.put c.args.at c.in-Some.taken (set c.pop.new.self.items c.args.at c.in_ok-newest.newest)
    = rest ∙ taken_put c.args.at c.in-Some.taken c.in_ok-newest.newest c.pop.new.self.items
    (ap (λ (l : List PlanGoal). slice_get l c.args.at) (sym c.as_slice.ensures.value) ∙ sym c.item_at.ensures ∙ c.in-Some.is) in
    sym c.self.view_is ∙ ap (λ (goals : List PlanGoal). record {
      start = c.self.inside.start;
      bound = c.self.inside.bound.items;
      fixed = c.self.inside.fixed.items;
      steps = c.self.inside.steps.items;
      nodes = c.self.inside.nodes.items;
      ties = c.self.inside.ties.items;
      branches = c.self.inside.branches.items;
      closed = c.self.inside.closed;
      goals = goals;
      pairs = c.self.inside.pairs.items;
    }) whole
