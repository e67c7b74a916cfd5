-- What follows of the ways in which a goal stands.
use Rattle.std.proofs.Common.{◌≡◌, ℕ, zero, suc, ◌+◌, ◌≤◌, Bool, true, false, List, [], ◌∷◌, ◌++◌, length, replicate, slice_get, Option, Some, None, refl, ap, sym, ◌∙◌, subst, arith, add-one, append_assoc, append-nil, length-append}
use Rattle.std.specs.List.{AllByRecursion}
use Rattle.logic_core.specs.declared.form.Form.{Form}
use Rattle.vernacular_tree.specs.Contexts.{Task, counted}
use Rattle.vernacular_tree.specs.Tasks.{IsTask}
use Rattle.vernacular_tree.specs.Witnessed.{IsContext}
use Rattle.vernacular_tree.specs.declared.context.Context.{Context}
use Rattle.vernacular_tree.specs.declared.tree.End.{End}
use Rattle.proof_plans.specs.declared.draft.PlanStep.{PlanStep}
use Rattle.proof_plans.specs.declared.draft.Node.{Node}
use Rattle.proof_plans.specs.declared.draft.ListOf as ListOf
use Rattle.proof_plans.specs.declared.draft.ListOf.TheVariants as list
use Rattle.proof_plans.specs.declared.draft.GoalOf as GoalOf
use Rattle.proof_plans.specs.declared.draft.GoalOf.TheVariants as goal_of
use Rattle.proof_plans.specs.declared.draft.PlanGoal.{PlanGoal}
use Rattle.proof_plans.specs.declared.draft.PlanTie as PlanTie
use Rattle.proof_plans.specs.declared.draft.PlanTie.TheVariants as tie
use Rattle.proof_plans.specs.declared.draft.Pair.{Pair}
use Rattle.proof_plans.specs.declared.choice.Choice as Choice
use Rattle.proof_plans.specs.declared.choice.Choice.TheVariants as choice
use Rattle.proof_plans.specs.declared.scene.Scene.{Scene}
use Rattle.proof_plans.specs.Runs.{Case, Fire, IsRun, IsEnded}
use Rattle.proof_plans.specs.Barren.{IsTight}
use Rattle.proof_plans.specs.Plans.{Tie, before, under, over, Goal, Plan}
use Rattle.proof_plans.specs.Embeds.{TieHolds, IsBefore, IsUnder, GoalIs, Embeds, ends_in}
use Rattle.proof_plans.specs.Moves.{grown, tied, with_goals}
use Rattle.proof_plans.specs.Drafts.{Drafted, Both, IsBranch, IsTie, IsGoal, Keeps, goals_from, grown_draft, with_goal, with_tie}
use Rattle.proof_plans.specs.Hopes.{PairHolds, Hope, FactIs, Newest, ByGiven, ByCase, ByStep, ByForm, GoalBy}
use Rattle.proof_plans.specs.Scenes.{IsScene, Extends}
use Rattle.proof_plans.specs.Taking.{with_pairs, tied_under, tied_before, tied_step, IsPaired, IsCased, IsStepped, IsFormed, IsTaken}
use Rattle.text_core.proofs.Laws.{each_front}
use Rattle.vernacular_tree.proofs.Numbers.{counted_length}
use Rattle.proof_plans.proofs.Moved.{tie_embeds, goals_embed}
use Rattle.proof_plans.proofs.Parted.{extends_on, tie_extends, grown_extends, both_ends, tie_keeps, base_is, steps_long, grown_keeps}

-- a draft with other goals
abbrev pub with_goals_of : List PlanGoal → Drafted → Drafted
with_goals_of goals d = record d { goals = goals }

-- goals in a row with one more
pub goals_more : (of : GoalOf.GoalOf) (user : Option ℕ) (node n : ℕ) → goals_from of user node 0 (n + 1) ≡ goals_from of user node 0 n ++ record { of = of; number = n; user = user; node = node } ∷ []
goals_more of user node n = rw add-one (go 0 n n (omega arith))
  where
    go : (first n at : ℕ) → first + n ≡ at → goals_from of user node first (suc n) ≡ goals_from of user node first n ++ record { of = of; number = at; user = user; node = node } ∷ []
    go first zero at is = let same : first ≡ at = omega arith in ap (λ (k : ℕ). record { of = of; number = k; user = user; node = node } ∷ []) same
    go first (suc n) at is =
        ap (λ (gs : List PlanGoal). record { of = of; number = first; user = user; node = node } ∷ gs) (go (first + 1) n at (omega arith))

-- numbers in a row, and those behind them
counted_parts : (first n k next sum : ℕ) → first + n ≡ next → n + k ≡ sum → counted first sum ≡ counted first n ++ counted next k
counted_parts first zero k next sum at many = let one : first ≡ next = omega arith in let two : sum ≡ k = omega arith in ap (counted first) two ∙ ap (λ (b : ℕ). counted b k) one
counted_parts first (suc n) k next zero at many = absurd (omega arith)
counted_parts first (suc n) k next (suc sum) at many = ap (λ (xs : List ℕ). first ∷ xs) (counted_parts (first + 1) n k next sum (omega arith) (omega arith))

-- a draft with more variables, or one more step
abbrev pub widened_draft : ℕ → Bool → Drafted → Drafted
widened_draft count fixed d = record d {
  bound = d.bound ++ counted (d.start + length d.bound) count;
  fixed = d.fixed ++ replicate count fixed;
}

abbrev pub stepped_draft : PlanStep → Drafted → Drafted
stepped_draft step d = record d { steps = d.steps ++ step ∷ [] }

abbrev pub with_more_goals : List PlanGoal → Drafted → Drafted
with_more_goals goals d = record d { goals = d.goals ++ goals }

-- a draft with a new step by a form, in four moves
pub grown_by : (number : ℕ) (form : Form) (node base count : ℕ) (d : Drafted) → base ≡ d.start + length d.bound → count ≡ length d.steps
    → with_more_goals (goals_from (goal_of.Premises number base) (Some count) node 0 (length form.premises))
    (widened_draft form.existentials true (widened_draft form.universals false (stepped_draft (record { form = number; base = base }) d))) ≡ grown_draft number form node d
grown_by number form node base count d b c =
    let u : ℕ = form.universals in let e : ℕ = form.existentials in let first : ℕ = d.start + length d.bound in
    let bound : (d.bound ++ counted first u) ++ counted (d.start + length (d.bound ++ counted first u)) e ≡ d.bound ++ counted first (u + e)
    = (let long = length-append d.bound (counted first u) in let more = counted_length first u in
    let at : d.start + length (d.bound ++ counted first u) ≡ first + u = omega arith in
    ap (λ (n : ℕ). (d.bound ++ counted first u) ++ counted n e) at ∙ append_assoc d.bound (counted first u) (counted (first + u) e)
    ∙ ap (λ (xs : List ℕ). d.bound ++ xs) (sym (counted_parts first u e (first + u) (u + e) refl refl))) in
    let fixed : (d.fixed ++ replicate u false) ++ replicate e true ≡ d.fixed ++ (replicate u false ++ replicate e true) = append_assoc d.fixed (replicate u false) (replicate e true) in
    λ i. record d {
      bound = bound i;
      fixed = fixed i;
      steps = d.steps ++ record { form = number; base = b i } ∷ [];
      goals = d.goals ++ goals_from (goal_of.Premises number (b i)) (Some (c i)) node 0 (length form.premises);
    }

-- what a way adds stands at the ends of a draft's parts
self_extends : (d : Drafted) → Extends d d
self_extends d = record {
  start = refl;
  bound = ([], sym (append-nil d.bound));
  fixed = ([], sym (append-nil d.fixed));
  steps = ([], sym (append-nil d.steps));
  nodes = ([], sym (append-nil d.nodes));
  ties = ([], sym (append-nil d.ties));
  branches = ([], sym (append-nil d.branches));
  goals = ([], sym (append-nil d.goals));
  pairs = ([], sym (append-nil d.pairs));
}

pairs_extend : (pairs : List Pair) (d : Drafted) → Extends d (with_pairs pairs d)
pairs_extend pairs d = let same = self_extends d in record {
  start = refl;
  bound = same.bound;
  fixed = same.fixed;
  steps = same.steps;
  nodes = same.nodes;
  ties = same.ties;
  branches = same.branches;
  goals = same.goals;
  pairs = (pairs, refl);
}

under_extends : (user : Option ℕ) (node : ℕ) (d : Drafted) → Extends d (tied_under user node d)
under_extends (Some step) node d = tie_extends (tie.Under step node) d
under_extends None node d = self_extends d

before_extends : (step : ℕ) (user : Option ℕ) (d : Drafted) → Extends d (tied_before step user d)
before_extends step (Some upper) d = tie_extends (tie.Before step upper) d
before_extends step None d = self_extends d

step_extends : (step : ℕ) (g : PlanGoal) (d : Drafted) → Extends d (tied_step step g d)
step_extends step g d =
    let seen : Drafted = with_tie (tie.Over step g.node) d in
    extends_on d seen (tied_step step g d) (tie_extends (tie.Over step g.node) d) (before_extends step g.user seen)

paired_extends : (scene : Scene) (g : PlanGoal) (of : ListOf.ListOf) (number : ℕ) (first old new : Drafted) → Extends first old → IsPaired scene g of number old new → Extends first new
paired_extends scene g of number first old new before_it is =
    extends_on first old new before_it (subst (Extends old) (sym is.new_is) (pairs_extend is.pairs old))

-- the draft grows at the ends of its parts
pub taken_extends : (scene : Scene) (g : PlanGoal) (way : Choice.Choice) (old new : Drafted) → IsTaken scene g way old new → Extends old new
taken_extends scene g (choice.Given line number) old new is = paired_extends scene g (list.Line line) number old old new (self_extends old) is
taken_extends scene g (choice.Case node number) old new is =
    paired_extends scene g is.kept.of number old (tied_under g.user node old) new (under_extends g.user node old) is.paired
taken_extends scene g (choice.Step step number) old new is =
    paired_extends scene g (list.Disjunct is.kept.form is.kept.base 0) number old (tied_step step g old) new (step_extends step g old) is.paired
taken_extends scene g (choice.Form form number) old new is =
    let larger : Drafted = grown_draft form is.f g.node old in
    let step : ℕ = length old.steps in
    paired_extends scene g (list.Disjunct form (old.start + length old.bound) 0) number old (tied_step step g larger) new
    (extends_on old larger (tied_step step g larger) (grown_extends form is.f g.node old) (step_extends step g larger)) is.paired
taken_extends scene g (choice.Answer disjunct) old new is = absurd is
taken_extends scene g (choice.Line line) old new is = absurd is
taken_extends scene g (choice.Old step) old new is = absurd is
taken_extends scene g (choice.New form) old new is = absurd is

module _ (task : Task) (lent : Context) (n : ℕ) (fires : List Fire) (left : List End) where
  -- a draft without pairs is a part of a proof within the bound
  record IsPart (values indices : List ℕ) (d : Drafted) : Type 0 where
    plan : Plan
    keeps : Keeps task lent d plan
    embeds : Embeds task lent fires plan values indices left
    none : d.pairs ≡ []
    small : length fires + plan.closed + ends_in left ≤ n

  module _ (values indices : List ℕ) where
    -- more is known of where a step stands
    part_tied : (kept : PlanTie.PlanTie) (known : Tie) (d : Drafted) → IsTie task lent d.nodes kept known → TieHolds fires values indices known → IsPart values indices d
        → IsPart values indices (with_tie kept d)
    part_tied kept known d is holds p = record {
      plan = tied known p.plan;
      keeps = tie_keeps task lent d p.plan p.keeps kept known is;
      embeds = tie_embeds task lent fires p.plan values indices left p.embeds known holds;
      none = p.none;
      small = p.small;
    }

    part_under : (user : Option ℕ) (node : ℕ) (branch : List Case) (d : Drafted) → IsBranch task lent d.nodes node branch → ((u : ℕ) → user ≡ Some u → IsUnder fires values indices u branch)
        → IsPart values indices d → IsPart values indices (tied_under user node d)
    part_under (Some user) node branch d is holds p = part_tied (tie.Under user node) (under user branch) d (refl, is) (holds user refl) p
    part_under None node branch d is holds p = p

    part_before : (step known_step : ℕ) → known_step ≡ step → (user : Option ℕ) (d : Drafted) → ((u : ℕ) → user ≡ Some u → IsBefore fires indices known_step u)
        → IsPart values indices d → IsPart values indices (tied_before step user d)
    part_before step known_step same (Some user) d holds p = part_tied (tie.Before step user) (before known_step user) d (same, refl) (holds user refl) p
    part_before step known_step same None d holds p = p

    part_stepped : (step known_step : ℕ) → known_step ≡ step → (g : PlanGoal) (branch : List Case) (d : Drafted) → IsBranch task lent d.nodes g.node branch
        → TieHolds fires values indices (over known_step branch) → ((u : ℕ) → g.user ≡ Some u → IsBefore fires indices known_step u)
        → IsPart values indices d → IsPart values indices (tied_step step g d)
    part_stepped step known_step same g branch d is seen holds p =
        part_before step known_step same g.user (with_tie (tie.Over step g.node) d) holds
        (part_tied (tie.Over step g.node) (over known_step branch) d (same, is) seen p)

    -- pairs of variables that stand for one element
    part_paired : (constants : ℕ) → IsTask constants task → IsContext task lent → IsRun task lent fires → IsTight fires → IsEnded task lent fires → (pairs : List Pair) (d : Drafted) → AllByRecursion (PairHolds values) pairs
        → IsPart values indices d → Hope task lent n (with_pairs pairs d)
    part_paired constants right ok run tight ended pairs d hold p = record {
      constants = constants;
      right = right;
      ok = ok;
      plan = p.plan;
      keeps = record {
        start_is = p.keeps.start_is;
        bound_is = p.keeps.bound_is;
        fixed_is = p.keeps.fixed_is;
        steps_are = p.keeps.steps_are;
        ties_are = p.keeps.ties_are;
        branches_are = p.keeps.branches_are;
        closed_is = p.keeps.closed_is;
        goals_are = p.keeps.goals_are;
      };
      fires = fires;
      run = run;
      tight = tight;
      ended = ended;
      values = values;
      indices = indices;
      left = left;
      embeds = p.embeds;
      pairs = subst (λ (ps : List Pair). AllByRecursion (PairHolds values) (ps ++ pairs)) (sym p.none) hold;
      small = p.small;
    }

module _ (task : Task) (lent : Context) (n : ℕ) (d : Drafted) (none : d.pairs ≡ []) (g : PlanGoal) (h : Hope task lent n (with_goal g d)) (scene : Scene) (here : IsScene task lent scene) where
  -- without its newest goal
  rest_keeps : (newest : Newest task lent n d g h) → Keeps task lent d (with_goals newest.rest h.plan)
  rest_keeps newest = record {
    start_is = h.keeps.start_is;
    bound_is = h.keeps.bound_is;
    fixed_is = h.keeps.fixed_is;
    steps_are = h.keeps.steps_are;
    ties_are = h.keeps.ties_are;
    branches_are = h.keeps.branches_are;
    closed_is = h.keeps.closed_is;
    goals_are = (both_ends (IsGoal task lent d.nodes) d.goals g newest.rest newest.goal
        (subst (λ (gs : List Goal). Both (IsGoal task lent d.nodes) (d.goals ++ g ∷ []) gs) newest.goals_are h.keeps.goals_are)).0;
  }

  rest_part : (newest : Newest task lent n d g h) → IsPart task lent n h.fires h.left h.values h.indices d
  rest_part newest = record {
    plan = with_goals newest.rest h.plan;
    keeps = rest_keeps newest;
    embeds = goals_embed task lent h.fires h.plan h.values h.indices h.left h.embeds newest.rest
        (each_front (GoalIs h.fires h.values h.indices) newest.rest (newest.goal ∷ [])
        (subst (AllByRecursion (GoalIs h.fires h.values h.indices)) newest.goals_are h.embeds.goals));
    none = none;
    small = h.small;
  }

  -- the goal stands for the same fact as one of a list
  paired_hope : (newest : Newest task lent n d g h) (values indices : List ℕ) (of : ListOf.ListOf) (number : ℕ) → FactIs task lent n d values newest.goal of number
      → (old new : Drafted) → IsPart task lent n h.fires h.left values indices old → IsPaired scene g of number old new → Hope task lent n new
  paired_hope newest values indices of number fact old new part is =
      subst (Hope task lent n) (sym is.new_is)
      (part_paired task lent n h.fires h.left values indices h.constants h.right h.ok h.run h.tight h.ended is.pairs old
      (is.are h.constants task lent n d d.nodes newest.goal values h.right h.ok here newest.is fact) part)

  given_hope : (line number : ℕ) → ByGiven task lent n d g h line number → (new : Drafted) → IsPaired scene g (list.Line line) number d new → Hope task lent n new
  given_hope line number by new is = paired_hope by.newest h.values h.indices (list.Line line) number by.fact d new (rest_part by.newest) is

  case_hope : (node number : ℕ) → ByCase task lent n d g h node number → (new : Drafted) → IsCased scene g node number d new → Hope task lent n new
  case_hope node number by new is =
      let same : by.kept ≡ is.kept = let a = by.kept_is in let b = is.kept_is in cc in
      paired_hope by.newest h.values h.indices is.kept.of number (subst (λ (k : Node). FactIs task lent n d h.values by.newest.goal k.of number) same by.fact)
      (tied_under g.user node d) new
      (part_under task lent n h.fires h.left h.values h.indices g.user node by.branch d by.branch_is by.tie (rest_part by.newest)) is.paired

  step_hope : (step number : ℕ) → ByStep task lent n d g h step number → (new : Drafted) → IsStepped scene g step number d new → Hope task lent n new
  step_hope step number by new is =
      let same : by.kept ≡ is.kept = let a = by.kept_is in let b = is.kept_is in cc in
      paired_hope by.newest h.values h.indices (list.Disjunct is.kept.form is.kept.base 0) number
      (subst (λ (k : PlanStep). FactIs task lent n d h.values by.newest.goal (list.Disjunct k.form k.base 0) number) same by.fact)
      (tied_step step g d) new
      (part_stepped task lent n h.fires h.left h.values h.indices step step refl g by.newest.goal.branch d by.newest.is.branch_is by.seen by.tie (rest_part by.newest)) is.paired

  -- the goal is a fact of a new step
  grown_part : (form number : ℕ) (by : ByForm task lent n d g h form number) → IsPart task lent n h.fires h.left (h.values ++ by.elements) (h.indices ++ by.index ∷ []) (grown_draft form by.f g.node d)
  grown_part form number by = record {
    plan = grown lent.elements form by.f by.newest.goal.branch (with_goals by.newest.rest h.plan);
    keeps = grown_keeps task lent d (with_goals by.newest.rest h.plan) (rest_keeps by.newest) form by.f by.f_is g.node by.newest.goal.branch by.newest.is.branch_is;
    embeds = by.embeds;
    none = none;
    small = h.small;
  }

  form_hope : (form number : ℕ) → ByForm task lent n d g h form number → (new : Drafted) → IsFormed scene g form number d new → Hope task lent n new
  form_hope form number by new is =
      let own : slice_get scene.forms.now form ≡ Some by.f = ap (λ (fs : List Form). slice_get fs form) here.forms_are ∙ by.f_is in
      let same : by.f ≡ is.f = let b = is.f_is in cc in
      let keeps = rest_keeps by.newest in
      let base : d.start + length d.bound ≡ lent.elements + length h.plan.bound = base_is task lent d (with_goals by.newest.rest h.plan) keeps in
      let steps : length h.plan.steps ≡ length d.steps = sym (steps_long task lent d (with_goals by.newest.rest h.plan) keeps) in
      let larger : Drafted = grown_draft form is.f g.node d in
      paired_hope by.newest (h.values ++ by.elements) (h.indices ++ by.index ∷ []) (list.Disjunct form (d.start + length d.bound) 0) number
      (subst (λ (b : ℕ). FactIs task lent n d (h.values ++ by.elements) by.newest.goal (list.Disjunct form b 0) number) (sym base) by.fact)
      (tied_step (length d.steps) g larger) new
      (part_stepped task lent n h.fires h.left (h.values ++ by.elements) (h.indices ++ by.index ∷ []) (length d.steps) (length h.plan.steps) steps g by.newest.goal.branch larger
      by.newest.is.branch_is by.seen by.tie
      (subst (λ (f : Form). IsPart task lent n h.fires h.left (h.values ++ by.elements) (h.indices ++ by.index ∷ []) (grown_draft form f g.node d)) same (grown_part form number by))) is.paired

  -- a proof that had the plan as a part, in which the goal stands so, has the new one
  pub taken_hope : (way : Choice.Choice) → GoalBy task lent n d g h way → (new : Drafted) → IsTaken scene g way d new → Hope task lent n new
  taken_hope (choice.Given line number) by new is = given_hope line number by new is
  taken_hope (choice.Case node number) by new is = case_hope node number by new is
  taken_hope (choice.Step step number) by new is = step_hope step number by new is
  taken_hope (choice.Form form number) by new is = form_hope form number by new is
  taken_hope (choice.Answer disjunct) by new is = absurd is
  taken_hope (choice.Line line) by new is = absurd is
  taken_hope (choice.Old step) by new is = absurd is
  taken_hope (choice.New form) by new is = absurd is
