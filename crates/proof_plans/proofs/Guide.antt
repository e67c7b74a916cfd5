-- A goal of a plan that is a part of a proof stands in one of three ways: as a fact of a case, as
-- one of a step, or as one of an application that is no step yet.
use Rattle.std.proofs.Common.{◌≡◌, ◌≢◌, ℕ, suc, ◌+◌, ◌<◌, ◌≤◌, ◌==◌, ◌⊎◌, inl, inr, ⊎_elim, Bool, true, false, List, [], ◌∷◌, ◌++◌, map, length, slice_get, slice_index, Some, None, Option, refl, ap, sym, ◌∙◌, subst, arith, append_assoc}
use Rattle.std.specs.List.{AllByRecursion}
use Rattle.text_core.specs.Lists.{SomeOf, IsAmong}
use Rattle.logic_core.specs.Forms.{IsWellFormed, AtomIsBelow}
use Rattle.logic_core.specs.declared.form.Atom.{Atom}
use Rattle.logic_core.specs.declared.form.Form.{Form}
use Rattle.vernacular_tree.specs.Contexts.{Task, atom_at}
use Rattle.vernacular_tree.specs.Tasks.{IsTask}
use Rattle.vernacular_tree.specs.Carries.{image, HasElements}
use Rattle.vernacular_tree.specs.declared.context.Context.{Context}
use Rattle.vernacular_tree.specs.declared.tree.End.{End}
use Rattle.proof_plans.specs.Runs.{Case, Above, Fire, elements_of, lists_of, IsMade, IsRun}
use Rattle.proof_plans.specs.Plans.{Step, variables_of, Goal, Plan}
use Rattle.proof_plans.specs.Embeds.{case_image, branch_image, HasVariables, StepIs, IsBefore, IsUnder, IsOver, UserIs, GoalIs, Embeds}
use Rattle.proof_plans.specs.Moves.{lists_in, next_step, grown, with_goals}
use Rattle.text_core.proofs.Laws.{each_map, each_append, each_front, each_back, each_get, each_member, get_front, number_same}
use Rattle.vernacular_tree.proofs.Numbers.{counted_length}
use Rattle.vernacular_tree.proofs.Images.{atom_at_image, lists_at_image, image_same, keeps_more}
use Rattle.proof_plans.proofs.Seen.{above_on}
use Rattle.proof_plans.proofs.Steps.{steps_long, step_at, get_there, get_below}
use Rattle.proof_plans.proofs.Moved.{goals_embed}
use Rattle.proof_plans.proofs.Grown.{constants_fixed, grown_embeds, grown_over, elements_long, more_read, fixed_still}

-- a member of the images is the image of a member
pub among_map : {X Y : Type 0} (f : X → Y) (xs : List X) (y : Y) → IsAmong y (map f xs) → (x : X) × IsAmong x xs × (f x ≡ y)
among_map f [] y h = absurd h
among_map f (x ∷ xs) y (inl e) = (x, inl refl, e)
among_map f (x ∷ xs) y (inr h) = let found = among_map f xs y h in (found.0, inr found.1, found.2)

-- images of one list in two parts are those of its two parts
pub map_split : {X Y : Type 0} (g : X → Y) (xs : List X) (ys zs : List Y) → map g xs ≡ ys ++ zs
    → (front : List X) × (back : List X) × (xs ≡ front ++ back) × (map g front ≡ ys) × (map g back ≡ zs)
map_split g xs [] zs e = ([], xs, refl, refl, e)
map_split g [] (y ∷ ys) zs e = absurd (cc)
map_split g (x ∷ xs) (y ∷ ys) zs e =
    let found = map_split g xs ys zs (let same : map g xs ≡ ys ++ zs = cc in same) in
    let first : g x ≡ y = cc in let rest = found.3 in
    (x ∷ found.0, found.1, ap (λ (l : List _). x ∷ l) found.2, (let same : g x ∷ map g found.0 ≡ y ∷ ys = cc in same), found.4)

-- some member, with what is before and behind it
pub some_split : {X : Type 0} (P : X → Type 0) (xs : List X) → SomeOf P xs → (front : List X) × (x : X) × (back : List X) × (xs ≡ front ++ x ∷ back) × P x
some_split P [] h = absurd h
some_split P (x ∷ xs) (inl h) = ([], x, xs, refl, h)
some_split P (x ∷ xs) (inr h) = let found = some_split P xs h in (x ∷ found.0, found.1, found.2, ap (λ (l : List _). x ∷ l) found.3, found.4)

-- one list of images is that of one list
pub one_list : {X Y : Type 0} (f : X → Y) (lists : List (List X)) (facts : List Y) → map (map f) lists ≡ facts ∷ []
    → (list : List X) × (lists ≡ list ∷ []) × (map f list ≡ facts)
one_list f [] facts e = absurd (cc)
one_list f (l ∷ []) facts e = (l, refl, (let same : map f l ≡ facts = cc in same))
one_list f (l ∷ m ∷ ls) facts e = absurd (cc)

-- a number is among others, or differs from each
pub find_number : (number : ℕ) (xs : List ℕ) → ((k : ℕ) × (slice_get xs k ≡ Some number)) ⊎ AllByRecursion (λ other. other ≢ number) xs
find_number number [] = inr tt
find_number number (x ∷ xs) = by_test (x == number) refl (find_number number xs)
  where
    by_test : (b : Bool) → (x == number) ≡ b → ((k : ℕ) × (slice_get xs k ≡ Some number)) ⊎ AllByRecursion (λ other. other ≢ number) xs
        → ((k : ℕ) × (slice_get (x ∷ xs) k ≡ Some number)) ⊎ AllByRecursion (λ other. other ≢ number) (x ∷ xs)
    by_test true e rest = inl (0, ap Some (number_same x number e))
    by_test false e (inl found) = inl (suc found.0, found.1)
    by_test false e (inr differ) = inr ((λ same. let t : (x == number) ≡ true = grind arith in cc), differ)

module _ (constants : ℕ) (task : Task) (right : IsTask constants task) (context : Context) (start : task.start ≤ context.elements) (fires : List Fire) (run : IsRun task context fires)
    (plan : Plan) (values indices : List ℕ) (left : List End) (h : Embeds task context fires plan values indices left) where
  -- the lists of a step have the lists of its application as images
  pub lists_image : (step : Step) (index : ℕ) (are : StepIs fires values step index) → map (map (image values)) (lists_in step) ≡ lists_of are.fire
  lists_image step index are =
      let form = are.form_is in
      let formed : IsWellFormed constants are.fire.form = each_get (IsWellFormed constants) task.forms are.fire.number are.fire.form right.forms (run.right index are.fire are.is).form_is in
      let formed2 : IsWellFormed constants step.form = subst (IsWellFormed constants) (sym form) formed in
      lists_at_image constants (step.form.universals + step.form.existentials) (variables_of step) (counted_length step.base (step.form.universals + step.form.existentials)) values
      (constants_fixed constants task right context start fires run plan values indices left h) step.form.disjuncts formed2.disjuncts
      ∙ ap (λ (xs : List ℕ). map (map (atom_at xs)) step.form.disjuncts) are.elements_are
      ∙ ap (λ (f : Form). map (map (atom_at (elements_of are.fire))) f.disjuncts) form

  module _ (rest : List Goal) (goal : Goal) (goals_are : plan.goals ≡ rest ++ goal ∷ []) where
    -- the goal stands
    goal_is : GoalIs fires values indices goal
    goal_is = (each_back (GoalIs fires values indices) rest (goal ∷ []) (rw goals_are at h.goals)).0

    -- the other goals stand
    rest_are : AllByRecursion (GoalIs fires values indices) rest
    rest_are = each_front (GoalIs fires values indices) rest (goal ∷ []) (rw goals_are at h.goals)

    -- without the goal, the plan is still a part of the proof
    pub rest_embeds : Embeds task context fires (with_goals rest plan) values indices left
    rest_embeds = goals_embed task context fires plan values indices left h rest rest_are

    -- the goal is a fact of a case of its branch
    pub record ByFact : Type 0 where
      pub front : List Case
      pub case : Case
      pub upper : List Case
      pub branch_is : goal.branch ≡ front ++ case ∷ upper
      pub fact : Atom
      pub among : IsAmong fact case.facts
      pub same : image values fact ≡ image values goal.atom
      pub tie : (user : ℕ) → goal.user ≡ Some user → IsUnder fires values indices user (case ∷ upper)

    -- the goal is a fact of a step
    pub record ByStep : Type 0 where
      pub number : ℕ
      pub step : Step
      pub index : ℕ
      pub step_is : slice_get plan.steps number ≡ Some step
      pub index_is : slice_get indices number ≡ Some index
      pub are : StepIs fires values step index
      pub facts : List Atom
      pub one : lists_in step ≡ facts ∷ []
      pub fact : Atom
      pub among : IsAmong fact facts
      pub same : image values fact ≡ image values goal.atom
      pub seen : IsOver fires values indices number goal.branch
      pub tie : (user : ℕ) → goal.user ≡ Some user → IsBefore fires indices number user

    -- the goal is a fact of a step that is new
    pub record ByForm : Type 0 where
      pub number : ℕ
      pub form : Form
      pub form_is : slice_get task.forms number ≡ Some form
      pub atoms : List Atom
      pub one : form.disjuncts ≡ atoms ∷ []
      pub atom : Atom
      pub among : IsAmong atom atoms
      pub elements : List ℕ
      pub index : ℕ
      pub embeds : Embeds task context fires (grown context.elements number form goal.branch (with_goals rest plan)) (values ++ elements) (indices ++ index ∷ []) left
      pub same : image (values ++ elements) (atom_at (variables_of (next_step context.elements number form plan)) atom) ≡ image (values ++ elements) goal.atom
      pub seen : IsOver fires (values ++ elements) (indices ++ index ∷ []) (length plan.steps) goal.branch
      pub tie : (user : ℕ) → goal.user ≡ Some user → IsBefore fires (indices ++ index ∷ []) (length plan.steps) user

    -- where a case of the goal's seen branch has it
    by_fact : SomeOf (λ case. IsAmong (image values goal.atom) case.facts) goal_is.branch → ByFact
    by_fact some =
        let found = some_split (λ case. IsAmong (image values goal.atom) case.facts) goal_is.branch some in
        let more = goal_is.above.0 in
        let seen : goal_is.branch ≡ found.0 ++ found.1 ∷ found.2 = found.3 in
        let whole : branch_image values goal.branch ≡ (more ++ found.0) ++ found.1 ∷ found.2
        = goal_is.above.1 ∙ ap (λ (b : List Case). more ++ b) seen ∙ sym (append_assoc more found.0 (found.1 ∷ found.2)) in
        let parts = map_split (case_image values) goal.branch (more ++ found.0) (found.1 ∷ found.2) whole in
        pick parts.0 parts.1 parts.2 found.0 found.1 found.2 seen parts.4 found.4
      where
        pick : (front back : List Case) → goal.branch ≡ front ++ back → (seen_front : List Case) (case : Case) (upper : List Case) → goal_is.branch ≡ seen_front ++ case ∷ upper
            → map (case_image values) back ≡ case ∷ upper → IsAmong (image values goal.atom) case.facts → ByFact
        pick front [] is seen_front case upper seen e among = absurd (cc)
        pick front (c ∷ back) is seen_front case upper seen e among =
            let first : case_image values c ≡ case = cc in
            let facts : map (image values) c.facts ≡ case.facts = ap (λ (x : Case). x.facts) first in
            let member = among_map (image values) c.facts (image values goal.atom) (subst (IsAmong (image values goal.atom)) (sym facts) among) in
            record {
              front = front;
              case = c;
              upper = back;
              branch_is = is;
              fact = member.0;
              among = member.1;
              same = member.2;
              tie = λ user user_is. by_user goal.user user user_is goal_is.user;
            }
          where
            by_user : (goal_user : Option ℕ) (user : ℕ) → goal_user ≡ Some user
                → UserIs fires values indices (record { atom = goal.atom; user = goal_user; branch = goal.branch }) goal_is.limit goal_is.branch → IsUnder fires values indices user (c ∷ back)
            by_user None user user_is u = absurd (cc)
            by_user (Some other) user user_is u =
                let same : other ≡ user = cc in record {
                  index = goal_is.limit;
                  index_is = subst (λ (n : ℕ). slice_get indices n ≡ Some goal_is.limit) same u.0;
                  fire = u.1.0;
                  fire_is = u.1.1;
                  within = each_back (λ x. AllByRecursion (HasElements (length values)) x.facts) front (c ∷ back) (subst (HasVariables (length values)) is goal_is.branch_within);
                  stands = (seen_front, sym u.1.2 ∙ seen ∙ ap (λ (b : List Case). seen_front ++ b) (sym e));
                }

    -- the application of an earlier number comes before the user
    user_before : (longer : List ℕ) (lower index : ℕ) (fire : Fire) → ((k i : ℕ) → slice_get indices k ≡ Some i → slice_get longer k ≡ Some i) → slice_get longer lower ≡ Some index
        → slice_get fires index ≡ Some fire → index < goal_is.limit → Above fire.branch goal_is.branch → (goal_user : Option ℕ) (user : ℕ) → goal_user ≡ Some user
        → UserIs fires values indices (record { atom = goal.atom; user = goal_user; branch = goal.branch }) goal_is.limit goal_is.branch
        → IsBefore fires longer lower user
    user_before longer lower index fire keeps lower_is fire_is less above None user user_is u = absurd (cc)
    user_before longer lower index fire keeps lower_is fire_is less above (Some other) user user_is u =
        let same : other ≡ user = cc in record {
          lower = index;
          upper = goal_is.limit;
          lower_is = lower_is;
          upper_is = keeps user goal_is.limit (subst (λ (n : ℕ). slice_get indices n ≡ Some goal_is.limit) same u.0);
          ordered = less;
          fire = fire;
          later = u.1.0;
          fire_is = fire_is;
          later_is = u.1.1;
          above = subst (Above fire.branch) u.1.2 above;
        }

    -- where an application made it
    by_made : IsMade fires (image values goal.atom) goal_is.limit goal_is.branch → ByStep ⊎ ByForm
    by_made made = ⊎_elim old new (find_number made.index indices)
      where
        down : Above made.seen.fire.branch (branch_image values goal.branch)
        down = above_on made.seen.fire.branch goal_is.branch (branch_image values goal.branch) made.seen.above goal_is.above

        old : ((k : ℕ) × (slice_get indices k ≡ Some made.index)) → ByStep ⊎ ByForm
        old at =
            let long = steps_long fires values plan.steps indices h.steps in
            let low = get_below indices made.index at.0 at.1 in
            let there = get_there plan.steps at.0 (omega arith) in
            let found = step_at fires values plan.steps indices h.steps at.0 there.0 there.1 in
            let index : found.0 ≡ made.index = let a = found.1 in let b = at.1 in cc in
            let fire : found.2.fire ≡ made.seen.fire = let a : slice_get fires made.index ≡ Some found.2.fire = rw index at found.2.is in let b = made.seen.is in cc in
            let lists : map (map (image values)) (lists_in there.0) ≡ made.facts ∷ [] = lists_image there.0 found.0 found.2 ∙ ap lists_of fire ∙ made.one in
            let list = one_list (image values) (lists_in there.0) made.facts lists in
            let member = among_map (image values) list.0 (image values goal.atom) (subst (IsAmong (image values goal.atom)) (sym list.2) made.among) in
            inl (record {
              number = at.0;
              step = there.0;
              index = found.0;
              step_is = there.1;
              index_is = found.1;
              are = found.2;
              facts = list.0;
              one = list.1;
              fact = member.0;
              among = member.1;
              same = member.2;
              seen = record {
                index = found.0;
                index_is = found.1;
                fire = found.2.fire;
                fire_is = found.2.is;
                within = goal_is.branch_within;
                stands = subst (λ (f : Fire). Above f.branch (branch_image values goal.branch)) (sym fire) down;
              };
              tie = λ user user_is. user_before indices at.0 made.index made.seen.fire (λ k i e. e) at.1 made.seen.is made.before made.seen.above goal.user user user_is goal_is.user;
            })

        new : AllByRecursion (λ other. other ≢ made.index) indices → ByStep ⊎ ByForm
        new apart =
            let fire : Fire = made.seen.fire in
            let fire_right = run.right made.index fire made.seen.is in
            let elements : List ℕ = elements_of fire in
            let list = one_list (atom_at elements) fire.form.disjuncts made.facts made.one in
            let member = among_map (atom_at elements) list.0 (image values goal.atom) (subst (IsAmong (image values goal.atom)) (sym list.2) made.among) in
            let formed : IsWellFormed constants fire.form = each_get (IsWellFormed constants) task.forms fire.number fire.form right.forms fire_right.form_is in
            let below : AtomIsBelow (fire.form.universals + fire.form.existentials) constants member.0
            = each_member (AtomIsBelow (fire.form.universals + fire.form.existentials) constants) list.0
            (subst (AllByRecursion (AllByRecursion (AtomIsBelow (fire.form.universals + fire.form.existentials) constants))) list.1 formed.disjuncts).0 member.0 member.1 in
            let variables : List ℕ = variables_of (next_step context.elements fire.number fire.form plan) in
            let read : image (values ++ elements) (atom_at variables member.0) ≡ atom_at (map (slice_index (values ++ elements)) variables) member.0
            = atom_at_image constants (fire.form.universals + fire.form.existentials) variables
            (counted_length (next_step context.elements fire.number fire.form plan).base (fire.form.universals + fire.form.existentials)) (values ++ elements)
            (fixed_still constants task right context start fires run plan values indices left h made.index fire made.seen.is apart goal.branch goal_is.branch_within down) member.0 below in
            let at : map (slice_index (values ++ elements)) variables ≡ elements
            = more_read constants task right context start fires run plan values indices left h fire.form.universals fire.form.existentials elements
            (elements_long constants task right context start fires run plan values indices left h made.index fire made.seen.is apart goal.branch goal_is.branch_within down) in
            let long = steps_long fires values plan.steps indices h.steps in
            inr (record {
              number = fire.number;
              form = fire.form;
              form_is = fire_right.form_is;
              atoms = list.0;
              one = list.1;
              atom = member.0;
              among = member.1;
              elements = elements;
              index = made.index;
              embeds = grown_embeds constants task right context start fires run (with_goals rest plan) values indices left rest_embeds made.index fire made.seen.is apart goal.branch goal_is.branch_within down;
              same = read ∙ ap (λ (xs : List ℕ). atom_at xs member.0) at ∙ member.2 ∙ sym (image_same values (values ++ elements) (keeps_more values elements) goal.atom goal_is.atom_within);
              seen = grown_over constants task right context start fires run (with_goals rest plan) values indices left rest_embeds made.index fire made.seen.is apart goal.branch goal_is.branch_within down;
              tie = λ user user_is. user_before (indices ++ made.index ∷ []) (length plan.steps) made.index fire (λ k i e. get_front indices (made.index ∷ []) k i e)
                  (rw long (Rattle.text_core.proofs.Laws.get_behind indices made.index [])) made.seen.is made.before made.seen.above goal.user user user_is goal_is.user;
            })

    -- the goal stands in one of the three ways
    pub guide : ByFact ⊎ ByStep ⊎ ByForm
    guide = ⊎_elim (λ given. inl (by_fact given)) (λ made. inr (by_made made)) goal_is.has
