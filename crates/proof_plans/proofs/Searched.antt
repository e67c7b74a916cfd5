-- What stays open where a search moves, and what it rules out.
use Rattle.std.proofs.Common.{◌≡◌, ℕ, zero, suc, ◌+◌, ◌<◌, ◌≤◌, ◌⊎◌, inl, inr, ⊎_elim, Bool, true, List, [], ◌∷◌, ◌++◌, length, take, set, slice_get, slice_index, Some, refl, ap, sym, ◌∙◌, subst, arith}
use Rattle.std.specs.List.{AllByRecursion}
use Rattle.text_core.proofs.Laws.{each_front, each_back}
use Rattle.vernacular_tree.specs.Contexts.{Task}
use Rattle.vernacular_tree.specs.declared.context.Context.{Context}
use Rattle.proof_plans.specs.declared.draft.PlanGoal.{PlanGoal}
use Rattle.proof_plans.specs.declared.draft.Pair.{Pair}
use Rattle.proof_plans.specs.Plans.{Goal}
use Rattle.proof_plans.specs.Embeds.{GoalIs}
use Rattle.proof_plans.specs.Moves.{with_goals, with_bound, Agrees, Differ}
use Rattle.proof_plans.specs.Joining.{IsJoined, Binds}
use Rattle.proof_plans.specs.declared.joining.Joined as Joined
use Rattle.proof_plans.specs.declared.joining.Joined.TheVariants as joined
use Rattle.vernacular_tree.specs.Contexts.{counted}
use Rattle.vernacular_tree.specs.Tasks.{IsTask}
use Rattle.vernacular_tree.specs.Witnessed.{IsContext}
use Rattle.vernacular_tree.specs.Rules.{IsProof}
use Rattle.vernacular_tree.specs.Sizes.{size}
use Rattle.vernacular_tree.specs.declared.tree.Body.{Body}
use Rattle.vernacular_tree.specs.declared.tree.End.{End}
use Rattle.proof_plans.specs.Runs.{Fire, IsRun, IsClosed, root_of, end_count}
use Rattle.proof_plans.specs.Barren.{IsTight}
use Rattle.proof_plans.specs.Plans.{first_plan}
use Rattle.proof_plans.specs.Drafts.{first_draft}
use Rattle.proof_plans.proofs.Least.{NoneSmaller}
use Rattle.proof_plans.proofs.Start.{flat, first_embeds}
use Rattle.proof_plans.specs.Drafts.{Drafted, Both, IsGoal, with_goal, with_goal_at, with_pair, mark_of, cut}
use Rattle.proof_plans.specs.Scenes.{Extends}
use Rattle.proof_plans.specs.Hopes.{PairHolds, Hope, IsHopeless}
use Rattle.proof_plans.proofs.Steps.{differ}
use Rattle.proof_plans.proofs.Moved.{goals_embed, bind_embeds}
use Rattle.proof_plans.proofs.Hoped.{both_last}
use Rattle.proof_plans.proofs.Puts.{both_put, set_back}

module _ (task : Task) (lent : Context) (n : ℕ) where
  -- the goals of a plan are others that stand
  goals_hope : (d : Drafted) (h : Hope task lent n d) (kept : List PlanGoal) (goals : List Goal) → Both (IsGoal task lent d.nodes) kept goals
      → AllByRecursion (GoalIs h.fires h.values h.indices) goals → Hope task lent n (record d { goals = kept })
  goals_hope d h kept goals are stand = record {
    constants = h.constants;
    right = h.right;
    ok = h.ok;
    plan = with_goals goals h.plan;
    keeps = record {
      start_is = h.keeps.start_is;
      bound_is = h.keeps.bound_is;
      fixed_is = h.keeps.fixed_is;
      steps_are = h.keeps.steps_are;
      ties_are = h.keeps.ties_are;
      branches_are = h.keeps.branches_are;
      closed_is = h.keeps.closed_is;
      goals_are = are;
    };
    fires = h.fires;
    run = h.run;
    tight = h.tight;
    ended = h.ended;
    values = h.values;
    indices = h.indices;
    left = h.left;
    embeds = goals_embed task lent h.fires h.plan h.values h.indices h.left h.embeds goals stand;
    pairs = h.pairs;
    small = h.small;
  }

  -- a goal that was put among others may stand behind them
  pub put_hope : (at : ℕ) (g : PlanGoal) (d : Drafted) → Hope task lent n (with_goal_at at g d) → Hope task lent n (with_goal g d)
  put_hope at g d h =
      let moved = both_put (IsGoal task lent d.nodes) (GoalIs h.fires h.values h.indices) at g d.goals h.plan.goals h.keeps.goals_are h.embeds.goals in
      goals_hope (with_goal_at at g d) h (d.goals ++ g ∷ []) moved.0 moved.1 moved.2

  -- a goal is left out
  pub goal_out : (g : PlanGoal) (d : Drafted) → Hope task lent n (with_goal g d) → Hope task lent n d
  goal_out g d h =
      let last = both_last (IsGoal task lent d.nodes) d.goals g h.plan.goals h.keeps.goals_are in
      goals_hope (with_goal g d) h d.goals last.0 last.3
      (each_front (GoalIs h.fires h.values h.indices) last.0 (last.1 ∷ []) (subst (AllByRecursion (GoalIs h.fires h.values h.indices)) last.2 h.embeds.goals))

  -- a pair is left out
  pub pair_out : (p : Pair) (d : Drafted) → Hope task lent n (with_pair p d) → Hope task lent n d
  pair_out p d h = record {
    constants = h.constants;
    right = h.right;
    ok = h.ok;
    plan = h.plan;
    keeps = record {
      start_is = h.keeps.start_is;
      bound_is = h.keeps.bound_is;
      fixed_is = h.keeps.fixed_is;
      steps_are = h.keeps.steps_are;
      ties_are = h.keeps.ties_are;
      branches_are = h.keeps.branches_are;
      closed_is = h.keeps.closed_is;
      goals_are = h.keeps.goals_are;
    };
    fires = h.fires;
    run = h.run;
    tight = h.tight;
    ended = h.ended;
    values = h.values;
    indices = h.indices;
    left = h.left;
    embeds = h.embeds;
    pairs = each_front (PairHolds h.values) d.pairs (p ∷ []) h.pairs;
    small = h.small;
  }

  -- the values of a proof agree with what variables are bound to
  pub agrees : (d : Drafted) (h : Hope task lent n d) → Agrees d.start d.bound h.values
  agrees d h = subst (λ (s : ℕ). Agrees s d.bound h.values) (sym h.keeps.start_is)
      (subst (λ (b : List ℕ). Agrees lent.elements b h.values) (sym h.keeps.bound_is) h.embeds.agrees)

  -- new elements of a proof differ
  differs : (d : Drafted) (h : Hope task lent n d) → Differ d.start d.fixed h.values
  differs d h = subst (λ (s : ℕ). Differ s d.fixed h.values) (sym h.keeps.start_is)
      (subst (λ (f : List Bool). Differ lent.elements f h.values) (sym h.keeps.fixed_is) (differ task lent h.fires h.run h.plan h.values h.indices h.left h.embeds))

  -- two variables that stand for two elements stand for one in no proof
  pub pair_clash : (p : Pair) (d : Drafted) → IsJoined d.start d.bound d.fixed p.left p.right joined.Clash → Hope task lent n (with_pair p d) → ⊥
  pair_clash p d clash h = clash h.values (agrees (with_pair p d) h) (differs (with_pair p d) h) (each_back (PairHolds h.values) d.pairs (p ∷ []) h.pairs).0

  -- a variable is bound
  pub pair_bind : (p : Pair) (d : Drafted) (at to : ℕ) → Binds d.start d.bound p.left p.right at to → Hope task lent n (with_pair p d)
      → Hope task lent n (record d { bound = set d.bound at to })
  pair_bind p d at to binds h =
      let same = (each_back (PairHolds h.values) d.pairs (p ∷ []) h.pairs).0 in
      let start = h.keeps.start_is in
      let bound : d.bound ≡ h.plan.bound = h.keeps.bound_is in
      let long = h.embeds.length_is in
      let longer = ap length bound in
      let many = set_long d.bound at to in
      record {
        constants = h.constants;
        right = h.right;
        ok = h.ok;
        plan = with_bound (set d.bound at to) h.plan;
        keeps = record {
          start_is = h.keeps.start_is;
          bound_is = refl;
          fixed_is = h.keeps.fixed_is;
          steps_are = h.keeps.steps_are;
          ties_are = h.keeps.ties_are;
          branches_are = h.keeps.branches_are;
          closed_is = h.keeps.closed_is;
          goals_are = h.keeps.goals_are;
        };
        fires = h.fires;
        run = h.run;
        tight = h.tight;
        ended = h.ended;
        values = h.values;
        indices = h.indices;
        left = h.left;
        embeds = bind_embeds task lent h.fires h.plan h.values h.indices h.left h.embeds (set d.bound at to) (omega arith)
            (each_set (λ a. a < length h.values) d.bound at to (let within = binds.within in omega arith)
            (subst (AllByRecursion (λ a. a < length h.values)) (sym bound) h.embeds.bound_within))
            (subst (λ (s : ℕ). Agrees s (set d.bound at to) h.values) start
            (λ i a is. by_place i a (set_get d.bound at to i a is)));
        pairs = each_front (PairHolds h.values) d.pairs (p ∷ []) h.pairs;
        small = h.small;
      }
    where
      set_long : {X : Type 0} (xs : List X) (at : ℕ) (x : X) → length (set xs at x) ≡ length xs
      set_long [] at x = refl
      set_long (y ∷ ys) zero x = refl
      set_long (y ∷ ys) (suc at) x = ap suc (set_long ys at x)

      each_set : {X : Type 0} (P : X → Type 0) (xs : List X) (at : ℕ) (x : X) → P x → AllByRecursion P xs → AllByRecursion P (set xs at x)
      each_set P [] at x px h = tt
      each_set P (y ∷ ys) zero x px h = (px, h.1)
      each_set P (y ∷ ys) (suc at) x px h = (h.0, each_set P ys at x px h.1)

      set_get : (xs : List ℕ) (at x i a : ℕ) → slice_get (set xs at x) i ≡ Some a → ((i ≡ at) × (a ≡ x)) ⊎ (slice_get xs i ≡ Some a)
      set_get [] at x i a is = inr is
      set_get (y ∷ ys) zero x zero a is = inl (refl, (let same : x ≡ a = cc in sym same))
      set_get (y ∷ ys) zero x (suc i) a is = inr is
      set_get (y ∷ ys) (suc at) x zero a is = inr is
      set_get (y ∷ ys) (suc at) x (suc i) a is = ⊎_elim (λ l. inl (ap suc l.0, l.1)) (λ r. inr r) (set_get ys at x i a is)

      by_place : (i a : ℕ) → ((i ≡ at) × (a ≡ to)) ⊎ (slice_get d.bound i ≡ Some a) → slice_index h.values (d.start + i) ≡ slice_index h.values a
      by_place i a (inl new) =
          let bound_now = binds.binds h.values (agrees (with_pair p d) h) (each_back (PairHolds h.values) d.pairs (p ∷ []) h.pairs).0 in
          ap (λ (k : ℕ). slice_index h.values (d.start + k)) new.0 ∙ bound_now ∙ ap (slice_index h.values) (sym new.1)
      by_place i a (inr old) = agrees (with_pair p d) h i a old

-- the items of a list before others
pub take_front : {X : Type 0} (xs ys : List X) → take (length xs) (xs ++ ys) ≡ xs
take_front [] ys = refl
take_front (x ∷ xs) ys = ap (λ (l : List _). x ∷ l) (take_front xs ys)

-- a plan that has grown goes back
pub cut_back : (old new : Drafted) → Extends old new → cut (mark_of old) new ≡ old
cut_back old new e =
    let b = part old.bound new.bound e.bound in
    let f = part old.fixed new.fixed e.fixed in
    let s = part old.steps new.steps e.steps in
    let n = part old.nodes new.nodes e.nodes in
    let t = part old.ties new.ties e.ties in
    let br = part old.branches new.branches e.branches in
    let g = part old.goals new.goals e.goals in
    let p = part old.pairs new.pairs e.pairs in
    let st = e.start in
    λ i. record {
      start = st i;
      bound = b i;
      fixed = f i;
      steps = s i;
      nodes = n i;
      ties = t i;
      branches = br i;
      closed = old.closed;
      goals = g i;
      pairs = p i;
    }
  where
    part : {X : Type 0} (xs ys : List X) → ((more : List X) × (ys ≡ xs ++ more)) → take (length xs) ys ≡ xs
    part xs ys h = ap (take (length xs)) h.1 ∙ take_front xs h.0

-- what two variables are to each other, as it was read
pub joined_at : (start start2 : ℕ) (bound bound2 : List ℕ) (fixed fixed2 : List Bool) (left right : ℕ) (is : Joined.Joined) → start ≡ start2 → bound ≡ bound2 → fixed ≡ fixed2
    → IsJoined start bound fixed left right is → IsJoined start2 bound2 fixed2 left right is
joined_at start start2 bound bound2 fixed fixed2 left right is a b c h =
    subst (λ (f : List Bool). IsJoined start2 bound2 f left right is) c (subst (λ (l : List ℕ). IsJoined start2 l fixed left right is) b (subst (λ (s : ℕ). IsJoined s bound fixed left right is) a h))

module _ (constants : ℕ) (task : Task) (right : IsTask constants task) (lent : Context) (ok : IsContext task lent) where
  -- the first plan has hope by each run that closes the branch in which a proof begins
  first_hope : (n : ℕ) (end : End) (fires : List Fire) → IsRun task lent fires → IsTight fires → IsClosed task lent fires end (root_of lent) → length fires + end_count end ≤ n
      → Hope task lent n (first_draft lent.elements)
  first_hope n end fires run tight closed small = record {
    constants = constants;
    right = right;
    ok = ok;
    plan = first_plan (root_of lent);
    keeps = record {
      start_is = refl;
      bound_is = refl;
      fixed_is = refl;
      steps_are = tt;
      ties_are = tt;
      branches_are = (inl (refl, refl), tt);
      closed_is = refl;
      goals_are = tt;
    };
    fires = fires;
    run = run;
    tight = tight;
    ended = (end, closed);
    values = counted 0 lent.elements;
    indices = [];
    left = end ∷ [];
    embeds = first_embeds constants task right lent ok fires end closed;
    pairs = tt;
    small = omega arith;
  }

  -- where the first plan is without hope, there is no proof
  pub first_hopeless : (most : ℕ) (cut : Bool) → IsHopeless task lent most cut (first_draft lent.elements) → (body : Body) → IsProof task lent body → (cut ≡ true → size body ≤ most) → ⊥
  first_hopeless most cut hopeless body proves small = none (suc (size body)) body proves (omega arith) small
    where
      none : (count : ℕ) (body : Body) → IsProof task lent body → size body < count → (cut ≡ true → size body ≤ most) → ⊥
      none zero body proves few small = absurd (omega arith)
      none (suc count) body proves few small =
          let best : NoneSmaller task lent (size body) = λ other is less.
          none count other is (omega arith) (λ was. let low : size body ≤ most = small was in let smaller : size other ≤ most = omega arith in smaller) in
          let run = flat constants task right lent ok body best proves in
          let counts : length run.more + end_count body.end ≡ size body = run.counts in
          hopeless (size body) small (first_hope (size body) body.end run.more run.front.run run.front.tight run.closed (omega arith))

-- a variable that was bound is free again
pub bind_back : (d bound left again : Drafted) (at to free : ℕ) → bound ≡ record d { bound = set d.bound at to } → left ≡ bound → again ≡ record left { bound = set left.bound at free } → slice_get d.bound at ≡ Some free → again ≡ d
bind_back d bound left again at to free a b c is =
    let whole : left ≡ record d { bound = set d.bound at to } = b ∙ a in
    c ∙ ap (λ (x : Drafted). record x { bound = set x.bound at free }) whole ∙ ap (λ (l : List ℕ). record d { bound = l }) (set_back d.bound at to free is)
