-- An open branch of a plan that is a part of a proof is closed in one of four ways: by a disjunct of
-- the goal, by a split of a line of the context, of a step, or of a step that is new.
use Rattle.std.proofs.Common.{◌≡◌, ◌≢◌, ℕ, ◌+◌, ◌-◌, ◌≤◌, ◌⊎◌, inl, inr, ⊎_elim, List, [], ◌∷◌, ◌++◌, map, length, slice_get, slice_index, Some, refl, ap, sym, ◌∙◌, subst, arith, length-append}
use Rattle.std.specs.List.{AllByRecursion}
use Rattle.text_core.specs.Lists.{IsAmong}
use Rattle.logic_core.specs.Forms.{IsWellFormed, SlotIsBelow}
use Rattle.logic_core.specs.declared.form.Slot.{Slot}
use Rattle.logic_core.specs.declared.form.Slot.TheVariants.{Variable, Constant}
use Rattle.logic_core.specs.declared.form.Atom.{Atom}
use Rattle.logic_core.specs.declared.form.Form.{Form}
use Rattle.vernacular_tree.specs.Contexts.{Task, atom_at}
use Rattle.vernacular_tree.specs.Tasks.{IsTask}
use Rattle.vernacular_tree.specs.Carries.{slot_image, image, HasElements}
use Rattle.vernacular_tree.specs.Witnessed.{IsContext, LineIsBelow}
use Rattle.vernacular_tree.specs.declared.context.Line.{Line}
use Rattle.vernacular_tree.specs.declared.context.Line.TheVariants.{Facts, Cases, Falsum}
use Rattle.vernacular_tree.specs.declared.context.Context.{Context}
use Rattle.vernacular_tree.specs.declared.tree.End.{End, As, Efq, Cs', Row_of-Body, end_of-Body, more_of-Body}
use Rattle.proof_plans.specs.Runs.{Case, Above, Fire, elements_of, lists_of, IsSeen, IsFresh, IsRun, MaySplit, IsClosed, AreClosed, all_given, end_count, end_counts}
use Rattle.proof_plans.specs.Plans.{Step, variables_of, Plan}
use Rattle.proof_plans.specs.Embeds.{branch_image, HasVariables, StepIs, IsOver, BranchesAre, Embeds, ends_in}
use Rattle.proof_plans.specs.Moves.{lists_in, branches_for, next_step, grown, answered, split, with_branches}
use Rattle.text_core.proofs.Laws.{each_map, each_get, each_mapped}
use Rattle.vernacular_tree.proofs.Numbers.{counted_length, counted_below}
use Rattle.vernacular_tree.proofs.Images.{atom_at_within, lists_at_image}
use Rattle.proof_plans.proofs.Steps.{steps_long, step_at, get_there, get_below}
use Rattle.proof_plans.proofs.Longer.{variables_kept, branch_kept}
use Rattle.proof_plans.proofs.Grown.{constants_there, grown_embeds, grown_over, answered_embeds, elements_long, more_read, fixed_still, there_still}
use Rattle.proof_plans.proofs.Guide.{find_number, lists_image}

-- the ends of the branches of a split
abbrev pub ends_of : {n : _} → Row_of-Body n → List End
ends_of end_of-Body = []
ends_of (more_of-Body steps end rest) = end ∷ ends_of rest

ends_counted : {n : _} (row : Row_of-Body n) → ends_in (ends_of row) ≡ end_counts row
ends_counted end_of-Body = refl
ends_counted (more_of-Body steps end rest) = ap (λ (n : ℕ). end_count end + n) (ends_counted rest)

ends_append : (a b : List End) → ends_in (a ++ b) ≡ ends_in a + ends_in b
ends_append [] b = omega arith
ends_append (end ∷ a) b = let rest = ends_append a b in omega arith

-- the variables of lists are there
abbrev pub ListsHave : ℕ → List (List Atom) → Type 0
ListsHave count lists = AllByRecursion (AllByRecursion (HasElements count)) lists

module _ (task : Task) (context : Context) (fires : List Fire) (values : List ℕ) where
  -- open branches in two parts
  branches_split : (rest : List (List Case)) (branch : List Case) (left : List End) → BranchesAre task context fires values (rest ++ branch ∷ []) left
      → (ends : List End) × (end : End) × (left ≡ ends ++ end ∷ []) × BranchesAre task context fires values rest ends
      × HasVariables (length values) branch × IsClosed task context fires end (branch_image values branch)
  branches_split [] branch [] h = absurd h
  branches_split [] branch (end ∷ []) h = ([], end, refl, tt, h.0, h.1)
  branches_split [] branch (end ∷ more ∷ left) h = absurd h.3
  branches_split (b ∷ rest) branch [] h = absurd h
  branches_split (b ∷ rest) branch (end ∷ left) h =
      let found = branches_split rest branch left h.3 in (end ∷ found.0, found.1, ap (λ (l : List End). end ∷ l) found.2, (h.0, h.1, h.2, found.3), found.4, found.5)

  branches_append : (a b : List (List Case)) (ends more : List End) → BranchesAre task context fires values a ends → BranchesAre task context fires values b more
      → BranchesAre task context fires values (a ++ b) (ends ++ more)
  branches_append [] b [] more h k = k
  branches_append [] b (end ∷ ends) more h k = absurd h
  branches_append (x ∷ a) b [] more h k = absurd h
  branches_append (x ∷ a) b (end ∷ ends) more h k = (h.0, h.1, h.2, branches_append a b ends more h.3 k)

  -- the branches of a split are closed by its ends
  children_are : {n : _} (row : Row_of-Body n) (number : ℕ) (lists : List (List Atom)) (images : List (List Atom)) (branch : List Case) → map (map (image values)) lists ≡ images
      → ListsHave (length values) lists → HasVariables (length values) branch → AreClosed task context fires row number images (branch_image values branch)
      → BranchesAre task context fires values (branches_for number lists branch) (ends_of row)
  children_are end_of-Body number [] images branch same have within h = tt
  children_are end_of-Body number (l ∷ lists) images branch same have within h = absurd (let e : images ≡ [] = h in cc)
  children_are (more_of-Body steps end rest) number [] images branch same have within h = absurd (let e : images ≡ h.0 ∷ h.1 = h.2 in cc)
  children_are (more_of-Body steps end rest) number (l ∷ lists) images branch same have within h =
      let e : images ≡ h.0 ∷ h.1 = h.2 in
      let first : map (image values) l ≡ h.0 = cc in
      let others : map (map (image values)) lists ≡ h.1 = cc in (
        (have.0, within),
        subst (λ (fs : List Atom). IsClosed task context fires end (record { number = number; facts = fs } ∷ branch_image values branch)) (sym first) h.4,
        (λ inner. subst (λ (fs : List Atom). IsFresh fires fs (branch_image values branch)) (sym first) h.3),
        children_are rest (number + 1) lists h.1 branch others have.1 within h.5,
      )

  -- a branch that is split, where the others stay open
  split_embeds : (plan : Plan) (indices : List ℕ) (rest_ends : List End) → Embeds task context fires plan values indices rest_ends → {n : _} (row : Row_of-Body n)
      (lists images : List (List Atom)) (branch : List Case) → map (map (image values)) lists ≡ images → ListsHave (length values) lists → HasVariables (length values) branch
      → AreClosed task context fires row 0 images (branch_image values branch) → Embeds task context fires (split lists branch plan) values indices (rest_ends ++ ends_of row)
  split_embeds plan indices rest_ends h row lists images branch same have within closed = record {
    length_is = h.length_is;
    flags = h.flags;
    itself = h.itself;
    bound_within = h.bound_within;
    agrees = h.agrees;
    new = h.new;
    steps = h.steps;
    apart = h.apart;
    branches = branches_append plan.branches (branches_for 0 lists branch) rest_ends (ends_of row) h.branches (children_are row 0 lists images branch same have within closed);
    ties = h.ties;
    goals = h.goals;
  }

  -- the plan with fewer open branches
  popped_embeds : (plan : Plan) (indices : List ℕ) (left : List End) → Embeds task context fires plan values indices left → (rest : List (List Case)) (ends : List End)
      → BranchesAre task context fires values rest ends → Embeds task context fires (with_branches rest plan) values indices ends
  popped_embeds plan indices left h rest ends others = record {
    length_is = h.length_is;
    flags = h.flags;
    itself = h.itself;
    bound_within = h.bound_within;
    agrees = h.agrees;
    new = h.new;
    steps = h.steps;
    apart = h.apart;
    branches = others;
    ties = h.ties;
    goals = h.goals;
  }

module _ (constants : ℕ) (task : Task) (right : IsTask constants task) (context : Context) (ok : IsContext task context) (fires : List Fire) (run : IsRun task context fires)
    (plan : Plan) (values indices : List ℕ) (left : List End) (h : Embeds task context fires plan values indices left) where
  -- the lists of a step have its variables
  lists_have : (number : ℕ) (step : Step) → slice_get task.forms number ≡ Some step.form → step.base + step.form.universals + step.form.existentials ≤ length values
      → ListsHave (length values) (lists_in step)
  lists_have number step is within =
      let formed = each_get (IsWellFormed constants) task.forms number step.form right.forms is in
      let there = constants_there constants task right context ok.start fires run plan values indices left h in
      each_mapped (AllByRecursion (HasElements (length values))) (map (atom_at (variables_of step)))
      (λ atoms below also. each_mapped (HasElements (length values)) (atom_at (variables_of step))
      (λ atom b bb. atom_at_within constants (step.form.universals + step.form.existentials) (variables_of step) (counted_length step.base (step.form.universals + step.form.existentials))
      (length values) there (counted_below step.base (step.form.universals + step.form.existentials) (length values) (omega arith)) atom b) atoms below also)
      step.form.disjuncts formed.disjuncts formed.disjuncts

  -- lists of the context have its elements
  given_have : (lines : List Line) → AllByRecursion (LineIsBelow context.elements) lines → (lists : List (List Atom)) → IsAmong lists (all_given lines) → ListsHave context.elements lists
  given_have [] low lists among = absurd among
  given_have (Facts facts ∷ lines) low lists among = given_have lines low.1 lists among
  given_have (Cases cases ∷ lines) low lists (inl same) = subst (ListsHave context.elements) same low.0
  given_have (Cases cases ∷ lines) low lists (inr among) = given_have lines low.1 lists among
  given_have (Falsum ∷ lines) low lists (inl same) = subst (ListsHave context.elements) same tt
  given_have (Falsum ∷ lines) low lists (inr among) = given_have lines low.1 lists among

  -- they are their own images
  given_image : (lists : List (List Atom)) → ListsHave context.elements lists → map (map (image values)) lists ≡ lists
  given_image [] low = refl
  given_image (l ∷ lists) low = let first = facts_image l low.0 in let rest = given_image lists low.1 in cc
    where
      slot_same : (s : Slot) → SlotIsBelow 0 context.elements s → slot_image values s ≡ s
      slot_same (Variable v) below = refl
      slot_same (Constant a) below = ap Constant (h.itself a below)

      slots_same : (ss : List Slot) → AllByRecursion (SlotIsBelow 0 context.elements) ss → map (slot_image values) ss ≡ ss
      slots_same [] below = refl
      slots_same (s ∷ ss) below = let first = slot_same s below.0 in let rest = slots_same ss below.1 in cc

      facts_image : (facts : List Atom) → AllByRecursion (HasElements context.elements) facts → map (image values) facts ≡ facts
      facts_image [] below = refl
      facts_image (f ∷ fs) below =
          let first : image values f ≡ f = ap (λ (args : List Slot). record { positive = f.positive; symbol = f.symbol; args = args }) (slots_same f.args below.0) in
          let rest = facts_image fs below.1 in cc

  given_wider : (lists : List (List Atom)) → ListsHave context.elements lists → ListsHave (length values) lists
  given_wider lists low = each_map (λ facts fs. each_map (λ fact f. each_map slot_wider fact.args f) facts fs) lists low
    where
      slot_wider : (s : Slot) → SlotIsBelow 0 context.elements s → SlotIsBelow 0 (length values) s
      slot_wider (Variable v) below = below
      slot_wider (Constant a) below = let l = h.length_is in omega arith

  module _ (rest : List (List Case)) (branch : List Case) (branches_are : plan.branches ≡ rest ++ branch ∷ []) where
    -- the branch is closed by a disjunct of the goal
    pub record ByAnswer : Type 0 where
      pub number : ℕ
      pub atoms : List Atom
      pub disjunct_is : slice_get task.goal.disjuncts number ≡ Some atoms
      pub elements : List ℕ
      pub ends : List End
      pub embeds : Embeds task context fires (answered context.elements task atoms branch (with_branches rest plan)) (values ++ elements) indices ends
      pub spent : ends_in left ≡ ends_in ends + 1

    -- the branch is split by a line of the context
    pub record ByLine : Type 0 where
      pub lists : List (List Atom)
      pub given : IsAmong lists (all_given context.lines)
      pub ends : List End
      pub embeds : Embeds task context fires (split lists branch (with_branches rest plan)) values indices ends
      pub spent : ends_in left ≡ ends_in ends + 1

    -- the branch is split by a step
    pub record ByOld : Type 0 where
      pub number : ℕ
      pub step : Step
      pub index : ℕ
      pub step_is : slice_get plan.steps number ≡ Some step
      pub are : StepIs fires values step index
      pub several : length step.form.disjuncts ≢ 1
      pub seen : IsOver fires values indices number branch
      pub ends : List End
      pub embeds : Embeds task context fires (split (lists_in step) branch (with_branches rest plan)) values indices ends
      pub spent : ends_in left ≡ ends_in ends + 1

    -- the branch is split by a step that is new
    pub record ByNew : Type 0 where
      pub number : ℕ
      pub form : Form
      pub form_is : slice_get task.forms number ≡ Some form
      pub several : length form.disjuncts ≢ 1
      pub elements : List ℕ
      pub index : ℕ
      pub ends : List End
      pub embeds : Embeds task context fires
          (split (lists_in (next_step context.elements number form plan)) branch (grown context.elements number form branch (with_branches rest plan)))
          (values ++ elements) (indices ++ index ∷ []) ends
      pub seen : IsOver fires (values ++ elements) (indices ++ index ∷ []) (length plan.steps) branch
      pub spent : ends_in left ≡ ends_in ends + 1

    -- the branch is split, where the others are closed by these ends
    module _ (ends : List End) (others : BranchesAre task context fires values rest ends) (within : HasVariables (length values) branch) where
      popped : Embeds task context fires (with_branches rest plan) values indices ends
      popped = popped_embeds task context fires values plan indices left h rest ends others

      by_split : {n : _} (row : Row_of-Body n) (lists : List (List Atom)) → ends_in left ≡ ends_in ends + (1 + end_counts row)
          → MaySplit task context fires lists (branch_image values branch) → AreClosed task context fires row 0 lists (branch_image values branch)
          → ByLine ⊎ ByOld ⊎ ByNew
      by_split row lists counts (inl given) closed =
          let have = given_have context.lines ok.lines lists given in
          let total = ends_append ends (ends_of row) in let own = ends_counted row in
          inl (record {
            lists = lists;
            given = given;
            ends = ends ++ ends_of row;
            embeds = split_embeds task context fires values (with_branches rest plan) indices ends popped row lists lists branch (given_image lists have) (given_wider lists have) within closed;
            spent = omega arith;
          })
      by_split row lists counts (inr made) closed = ⊎_elim old new (find_number made.0 indices)
        where
          seen : IsSeen fires made.0 (branch_image values branch)
          seen = made.1

          old : ((k : ℕ) × (slice_get indices k ≡ Some made.0)) → ByLine ⊎ ByOld ⊎ ByNew
          old at =
              let long = steps_long fires values plan.steps indices h.steps in
              let low = get_below indices made.0 at.0 at.1 in
              let there = get_there plan.steps at.0 (omega arith) in
              let found = step_at fires values plan.steps indices h.steps at.0 there.0 there.1 in
              let index : found.0 ≡ made.0 = let a = found.1 in let b = at.1 in cc in
              let fire : found.2.fire ≡ made.1.fire = let a : slice_get fires made.0 ≡ Some found.2.fire = rw index at found.2.is in let b = made.1.is in cc in
              let same : map (map (image values)) (lists_in there.0) ≡ lists = lists_image constants task right context ok.start fires run plan values indices left h there.0 found.0 found.2
              ∙ ap lists_of fire ∙ sym made.2 in
              let form = found.2.form_is in let number = found.2.number_is in
              let fire_right = run.right found.0 found.2.fire found.2.is in
              let is : slice_get task.forms found.2.fire.number ≡ Some there.0.form = fire_right.form_is ∙ ap Some (sym form) in
              let total = ends_append ends (ends_of row) in let own = ends_counted row in
              inr (inl (record {
                number = at.0;
                step = there.0;
                index = found.0;
                step_is = there.1;
                are = found.2;
                several = λ one. made.3 (ap (λ (f : Fire). length f.form.disjuncts) (sym fire) ∙ ap (λ (f : Form). length f.disjuncts) (sym form) ∙ one);
                seen = record {
                  index = found.0;
                  index_is = found.1;
                  fire = found.2.fire;
                  fire_is = found.2.is;
                  within = within;
                  stands = subst (λ (f : Fire). Above f.branch (branch_image values branch)) (sym fire) made.1.above;
                };
                ends = ends ++ ends_of row;
                embeds = split_embeds task context fires values (with_branches rest plan) indices ends popped row (lists_in there.0) lists branch same
                    (lists_have found.2.fire.number there.0 is found.2.within) within closed;
                spent = omega arith;
              }))

          new : AllByRecursion (λ other. other ≢ made.0) indices → ByLine ⊎ ByOld ⊎ ByNew
          new apart =
              let fire : Fire = made.1.fire in
              let fire_right = run.right made.0 fire made.1.is in
              let elements : List ℕ = elements_of fire in
              let step : Step = next_step context.elements fire.number fire.form plan in
              let grown_up = grown_embeds constants task right context ok.start fires run (with_branches rest plan) values indices ends popped made.0 fire made.1.is apart branch within made.1.above in
              let formed = each_get (IsWellFormed constants) task.forms fire.number fire.form right.forms fire_right.form_is in
              let u : ℕ = fire.form.universals in let e : ℕ = fire.form.existentials in
              let at : map (slice_index (values ++ elements)) (variables_of step) ≡ elements
              = more_read constants task right context ok.start fires run plan values indices left h u e elements
              (elements_long constants task right context ok.start fires run plan values indices left h made.0 fire made.1.is apart branch within made.1.above) in
              let same : map (map (image (values ++ elements))) (lists_in step) ≡ lists
              = lists_at_image constants (u + e) (variables_of step) (counted_length step.base (u + e)) (values ++ elements)
              (fixed_still constants task right context ok.start fires run plan values indices left h made.0 fire made.1.is apart branch within made.1.above) fire.form.disjuncts formed.disjuncts
              ∙ ap (λ (xs : List ℕ). map (map (atom_at xs)) fire.form.disjuncts) at ∙ sym made.2 in
              let have : ListsHave (length (values ++ elements)) (lists_in step)
              = new_have made.0 fire made.1.is apart made.1.above formed in
              let total = ends_append ends (ends_of row) in let own = ends_counted row in
              inr (inr (record {
                number = fire.number;
                form = fire.form;
                form_is = fire_right.form_is;
                several = made.3;
                elements = elements;
                index = made.0;
                ends = ends ++ ends_of row;
                embeds = split_embeds task context fires (values ++ elements) (grown context.elements fire.number fire.form branch (with_branches rest plan)) (indices ++ made.0 ∷ []) ends grown_up row
                    (lists_in step) lists branch same have (variables_kept values elements branch within)
                    (subst (λ (b : List Case). AreClosed task context fires row 0 lists b) (sym (branch_kept values elements branch within)) closed);
                seen = grown_over constants task right context ok.start fires run (with_branches rest plan) values indices ends popped made.0 fire made.1.is apart branch within made.1.above;
                spent = omega arith;
              }))
            where
              new_have : (index : ℕ) (fire : Fire) (is : slice_get fires index ≡ Some fire) → AllByRecursion (λ other. other ≢ index) indices → Above fire.branch (branch_image values branch)
                  → IsWellFormed constants fire.form → ListsHave (length (values ++ elements_of fire)) (lists_in (next_step context.elements fire.number fire.form plan))
              new_have index fire is apart above formed =
                  let step : Step = next_step context.elements fire.number fire.form plan in
                  let u : ℕ = fire.form.universals in let e : ℕ = fire.form.existentials in
                  let there = there_still constants task right context ok.start fires run plan values indices left h index fire is apart branch within above in
                  let many = elements_long constants task right context ok.start fires run plan values indices left h index fire is apart branch within above in
                  let total = length-append values (elements_of fire) in let l = h.length_is in
                  each_mapped (AllByRecursion (HasElements (length (values ++ elements_of fire)))) (map (atom_at (variables_of step)))
                  (λ atoms below also. each_mapped (HasElements (length (values ++ elements_of fire))) (atom_at (variables_of step))
                  (λ atom b bb. atom_at_within constants (u + e) (variables_of step) (counted_length step.base (u + e))
                  (length (values ++ elements_of fire)) there (counted_below step.base (u + e) (length (values ++ elements_of fire)) (omega arith)) atom b) atoms below also)
                  fire.form.disjuncts formed.disjuncts formed.disjuncts

      -- the branch is closed by an end
      by_end : (end : End) → ends_in left ≡ ends_in ends + end_count end → IsClosed task context fires end (branch_image values branch) → ByAnswer ⊎ ByLine ⊎ ByOld ⊎ ByNew
      by_end (As disjunct args) counts answer = inl (record {
        number = disjunct - 1;
        atoms = answer.atoms;
        disjunct_is = answer.disjunct_is;
        elements = answer.values;
        ends = ends;
        embeds = answered_embeds constants task right context ok.start fires run plan values indices left h rest branch branches_are ends others within disjunct answer;
        spent = counts;
      })
      by_end Efq counts closed = inr (by_split end_of-Body [] (omega arith) closed refl)
      by_end (Cs' line s row) counts closed = inr (by_split row closed.0 counts closed.1 closed.2)

    -- the branch is closed in one of the four ways
    pub ways : ByAnswer ⊎ ByLine ⊎ ByOld ⊎ ByNew
    ways =
        let found = branches_split task context fires values rest branch left (rw branches_are at h.branches) in
        let total = ends_append found.0 (found.1 ∷ []) in
        let all : ends_in left ≡ ends_in (found.0 ++ found.1 ∷ []) = ap ends_in found.2 in
        by_end found.0 found.3 found.4 found.1 (omega arith) found.5
