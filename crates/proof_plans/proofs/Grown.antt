-- A plan that is a part of a proof stays one with one more step, or with an answer.
use Rattle.std.proofs.Common.{◌≡◌, ◌≢◌, ℕ, zero, suc, ◌+◌, ◌-◌, ◌<◌, ◌≤◌, ◌⊎◌, inl, inr, ⊎_elim, Bool, true, false, List, [], ◌∷◌, ◌++◌, map, length, replicate, slice_get, slice_index, get_or, Some, None, Option, refl, ap, sym, ◌∙◌, subst, arith, length-append, append_assoc}
use Rattle.std.proofs.lemmas.List.{map-append, get_or_append_left, length-replicate}
use Rattle.std.specs.List.{AllByRecursion}
use Rattle.text_core.specs.Lists.{SomeOf}
use Rattle.logic_core.specs.Forms.{IsWellFormed, AtomIsBelow}
use Rattle.logic_core.specs.declared.form.Atom.{Atom}
use Rattle.vernacular_tree.specs.Contexts.{Task, counted, parameters, atom_at}
use Rattle.vernacular_tree.specs.Tasks.{IsTask}
use Rattle.vernacular_tree.specs.declared.context.Context.{Context}
use Rattle.vernacular_tree.specs.declared.tree.End.{End}
use Rattle.proof_plans.specs.Runs.{Case, Above, Fire, elements_of, Has, IsRun, IsRight, IsAnswered}
use Rattle.proof_plans.specs.Plans.{Step, variables_of, Plan}
use Rattle.proof_plans.specs.Embeds.{branch_image, HasVariables, IsNewOf, StepIs, StepsAre, AreApart, TieHolds, IsOver, UserIs, GoalIs, BranchesAre, Embeds}
use Rattle.proof_plans.specs.Moves.{goals_for, next_variable, next_step, grown, answered, with_branches}
use Rattle.text_core.proofs.Laws.{each_map, each_append, each_get, each_both, get_behind, some_front, some_back}
use Rattle.vernacular_tree.proofs.Numbers.{counted_length, counted_below, counted_read}
use Rattle.vernacular_tree.proofs.Images.{atom_at_within, atom_at_image}
use Rattle.proof_plans.proofs.Seen.{above_same}
use Rattle.proof_plans.proofs.Steps.{steps_long, get_below}
use Rattle.proof_plans.proofs.Longer.{steps_kept, goal_kept, tie_kept, branches_kept, variables_kept, branch_kept}

-- what has a number in numbers in a row
counted_get : (first k i a : ℕ) → slice_get (counted first k) i ≡ Some a → a ≡ first + i
counted_get first zero i a e = absurd (cc)
counted_get first (suc k) zero a e = let same : first ≡ a = cc in omega arith
counted_get first (suc k) (suc i) a e = let rest = counted_get (first + 1) k i a e in omega arith

-- an item of two lists is in the first or in the second
append_get : {X : Type 0} (xs ys : List X) (i : ℕ) (x : X) → slice_get (xs ++ ys) i ≡ Some x → (slice_get xs i ≡ Some x) ⊎ ((j : ℕ) × (i ≡ length xs + j) × (slice_get ys j ≡ Some x))
append_get [] ys i x e = inr (i, (omega arith), e)
append_get (y ∷ xs) ys zero x e = inl e
append_get (y ∷ xs) ys (suc i) x e = ⊎_elim (λ l. inl l) (λ r. inr (r.0, (let n : i ≡ length xs + r.0 = r.1 in omega arith), r.2)) (append_get xs ys i x e)

-- a flag of two lists is in the first or in the second
append_flag : (xs ys : List Bool) (i : ℕ) → get_or (xs ++ ys) i false ≡ true → (get_or xs i false ≡ true) ⊎ ((j : ℕ) × (i ≡ length xs + j) × (get_or ys j false ≡ true))
append_flag [] ys i e = inr (i, (omega arith), e)
append_flag (x ∷ xs) ys zero e = inl e
append_flag (x ∷ xs) ys (suc i) e = ⊎_elim (λ l. inl l) (λ r. inr (r.0, (let n : i ≡ length xs + r.0 = r.1 in omega arith), r.2)) (append_flag xs ys i e)

-- free variables are no new elements
no_flag : (n i : ℕ) → get_or (replicate n false) i false ≡ true → ⊥
no_flag zero i e = cc
no_flag (suc n) zero e = cc
no_flag (suc n) (suc i) e = no_flag n i e

-- new elements are as many
flag_low : (n i : ℕ) → get_or (replicate n true) i false ≡ true → i < n
flag_low zero i e = absurd (cc)
flag_low (suc n) zero e = omega arith
flag_low (suc n) (suc i) e = let low = flag_low n i e in omega arith

-- numbers with one more that differs from each are apart
pub apart_more : (indices : List ℕ) (index : ℕ) → AreApart indices → AllByRecursion (λ other. other ≢ index) indices → AreApart (indices ++ index ∷ [])
apart_more [] index h differ = (tt, tt)
apart_more (i ∷ is) index h differ = (each_append (λ other. i ≢ other) is (index ∷ []) h.0 (differ.0, tt), apart_more is index h.1 differ.1)

-- steps with one more
steps_more : (fires : List Fire) (values : List ℕ) (steps : List Step) (indices : List ℕ) (step : Step) (index : ℕ) → StepsAre fires values steps indices → StepIs fires values step index
    → StepsAre fires values (steps ++ step ∷ []) (indices ++ index ∷ [])
steps_more fires values [] [] step index h is = (is, tt)
steps_more fires values [] (i ∷ is) step index h one = absurd h
steps_more fires values (s ∷ ss) [] step index h one = absurd h
steps_more fires values (s ∷ ss) (i ∷ is) step index h one = (h.0, steps_more fires values ss is step index h.1 one)

module _ (constants : ℕ) (task : Task) (right : IsTask constants task) (context : Context) (start : task.start ≤ context.elements) (fires : List Fire) (run : IsRun task context fires)
    (plan : Plan) (values indices : List ℕ) (left : List End) (h : Embeds task context fires plan values indices left) where
  -- constants stand for themselves
  pub constants_fixed : (k : ℕ) → k < constants → slice_index values k ≡ k
  constants_fixed k low = let s = right.start in h.itself k (omega arith)

  -- constants are there
  pub constants_there : constants ≤ length values
  constants_there = let s = right.start in let l = h.length_is in omega arith

  -- more variables, with elements for them, which are bound to themselves
  module _ (free new : ℕ) (elements : List ℕ) (many : length elements ≡ free + new) where
    -- the first of them
    abbrev base : ℕ
    base = next_variable context.elements plan

    base_is : base ≡ length values
    base_is = let l = h.length_is in omega arith

    more_long : length (values ++ elements) ≡ context.elements + length (plan.bound ++ counted base (free + new))
    more_long =
        let a = length-append values elements in let b = length-append plan.bound (counted base (free + new)) in let c = counted_length base (free + new) in let l = h.length_is in omega arith

    more_flags : length (plan.fixed ++ (replicate free false ++ replicate new true)) ≡ length (plan.bound ++ counted base (free + new))
    more_flags =
        let a = length-append plan.fixed (replicate free false ++ replicate new true) in let b = length-append (replicate free false) (replicate new true) in
        let c = length-replicate free false in let d = length-replicate new true in
        let e = length-append plan.bound (counted base (free + new)) in let f = counted_length base (free + new) in let g = h.flags in omega arith

    more_itself : (a : ℕ) → a < context.elements → slice_index (values ++ elements) a ≡ a
    more_itself a low = let l = h.length_is in get_or_append_left values elements 0 a (omega arith) ∙ h.itself a low

    more_within : AllByRecursion (λ a. a < length (values ++ elements)) (plan.bound ++ counted base (free + new))
    more_within =
        let long = length-append values elements in let l = h.length_is in
        each_append (λ a. a < length (values ++ elements)) plan.bound (counted base (free + new))
        (each_map {P = λ a. a < length values} {Q = λ a. a < length (values ++ elements)} (λ a low. let w : a < length values = low in omega arith) plan.bound h.bound_within)
        (counted_below base (free + new) (length (values ++ elements)) (omega arith))

    more_agrees : (i a : ℕ) → slice_get (plan.bound ++ counted base (free + new)) i ≡ Some a → slice_index (values ++ elements) (context.elements + i) ≡ slice_index (values ++ elements) a
    more_agrees i a is = ⊎_elim
        (λ old. let low = get_below plan.bound a i old in let within : a < length values = each_get (λ x. x < length values) plan.bound i a h.bound_within old in let l = h.length_is in
        get_or_append_left values elements 0 (context.elements + i) (omega arith) ∙ h.agrees i a old ∙ sym (get_or_append_left values elements 0 a within))
        (λ added. let same = counted_get base (free + new) added.0 a added.2 in let at : i ≡ length plan.bound + added.0 = added.1 in
        ap (slice_index (values ++ elements)) (let eq : context.elements + i ≡ a = omega arith in eq))
        (append_get plan.bound (counted base (free + new)) i a is)

    more_new : (more : List Step) → ((i : ℕ) → i < new → SomeOf (IsNewOf (base + free + i)) more) → (i : ℕ) → get_or (plan.fixed ++ (replicate free false ++ replicate new true)) i false ≡ true
        → SomeOf (IsNewOf (context.elements + i)) (plan.steps ++ more)
    more_new more are i fixed = ⊎_elim
        (λ old. some_front (IsNewOf (context.elements + i)) plan.steps more (h.new i old))
        (λ added. let at : i ≡ length plan.fixed + added.0 = added.1 in let f = h.flags in
        ⊎_elim (λ no. absurd (no_flag free added.0 no))
        (λ later. let also : added.0 ≡ length (replicate free false) + later.0 = later.1 in let n = length-replicate free false in
        some_back (IsNewOf (context.elements + i)) plan.steps more
        (subst (λ (v : ℕ). SomeOf (IsNewOf v) more) (let eq : base + free + later.0 ≡ context.elements + i = omega arith in eq) (are later.0 (flag_low new later.0 later.2))))
        (append_flag (replicate free false) (replicate new true) added.0 added.2))
        (append_flag plan.fixed (replicate free false ++ replicate new true) i fixed)

    -- the new variables read the elements
    pub more_read : map (slice_index (values ++ elements)) (counted base (free + new)) ≡ elements
    more_read = counted_read values elements base (free + new) (sym base_is) many

  -- goals for atoms stand, which their user has
  goals_stand : (longer behind : List ℕ) (user : Option ℕ) (goal_branch : List Case) (limit : ℕ) (branch : List Case) (n : ℕ) (variables : List ℕ) → length variables ≡ n
      → AllByRecursion (λ x. x < length longer) variables → ((k : ℕ) → k < constants → slice_index longer k ≡ k) → constants ≤ length longer
      → HasVariables (length longer) goal_branch → Above branch (branch_image longer goal_branch)
      → ((atom : Atom) → UserIs fires longer behind (record { atom = atom; user = user; branch = goal_branch }) limit branch)
      → (atoms : List Atom) → AllByRecursion (AtomIsBelow n constants) atoms → AllByRecursion (λ atom. Has fires (atom_at (map (slice_index longer) variables) atom) limit branch) atoms
      → AllByRecursion (GoalIs fires longer behind) (goals_for user goal_branch variables atoms)
  goals_stand longer behind user goal_branch limit branch n variables long known fixed there within above is [] below stand = tt
  goals_stand longer behind user goal_branch limit branch n variables long known fixed there within above is (atom ∷ atoms) below stand = (
    record {
      limit = limit;
      branch = branch;
      user = is (atom_at variables atom);
      atom_within = atom_at_within constants n variables long (length longer) there known atom below.0;
      branch_within = within;
      above = above;
      has = subst (λ (f : Atom). Has fires f limit branch) (sym (atom_at_image constants n variables long longer fixed atom below.0)) stand.0;
    },
    goals_stand longer behind user goal_branch limit branch n variables long known fixed there within above is atoms below.1 stand.1,
  )

  -- one more step
  module _ (index : ℕ) (fire : Fire) (is : slice_get fires index ≡ Some fire) (apart : AllByRecursion (λ other. other ≢ index) indices)
      (branch : List Case) (within : HasVariables (length values) branch) (above : Above fire.branch (branch_image values branch)) where
    -- the elements of the application
    abbrev elements : List ℕ
    elements = elements_of fire

    abbrev u : ℕ
    u = fire.form.universals

    abbrev e : ℕ
    e = fire.form.existentials

    fire_right : IsRight task context fires index fire
    fire_right = run.right index fire is

    formed : IsWellFormed constants fire.form
    formed = each_get (IsWellFormed constants) task.forms fire.number fire.form right.forms fire_right.form_is

    pub elements_long : length elements ≡ u + e
    elements_long = omega (arith, length-append fire.args (counted fire.first e), counted_length fire.first e, fire_right.length_is)

    -- the new step
    abbrev step : Step
    step = next_step context.elements fire.number fire.form plan

    new_within : step.base + u + e ≤ length (values ++ elements)
    new_within = let long = length-append values elements in let l = h.length_is in let m = elements_long in omega arith

    step_is : StepIs fires (values ++ elements) step index
    step_is = record {
      fire = fire;
      is = is;
      number_is = refl;
      form_is = refl;
      elements_are = more_read u e elements elements_long;
      within = new_within;
    }

    -- the variables of the new step
    variables_long : length (variables_of step) ≡ u + e
    variables_long = counted_length step.base (u + e)

    variables_low : AllByRecursion (λ x. x < length (values ++ elements)) (variables_of step)
    variables_low = counted_below step.base (u + e) (length (values ++ elements)) (let w = new_within in omega arith)

    pub fixed_still : (k : ℕ) → k < constants → slice_index (values ++ elements) k ≡ k
    fixed_still k low = let there = constants_there in get_or_append_left values elements 0 k (omega arith) ∙ constants_fixed k low

    pub there_still : constants ≤ length (values ++ elements)
    there_still = let there = constants_there in let long = length-append values elements in omega arith

    -- premises have universal variables alone
    premises_wider : (atoms : List Atom) → AllByRecursion (AtomIsBelow u constants) atoms → AllByRecursion (AtomIsBelow (u + e) constants) atoms
    premises_wider atoms below = each_map (λ atom slots. each_map (slot_wider) atom.args slots) atoms below
      where
        slot_wider : (s : Rattle.logic_core.specs.declared.form.Slot.Slot) → Rattle.logic_core.specs.Forms.SlotIsBelow u constants s → Rattle.logic_core.specs.Forms.SlotIsBelow (u + e) constants s
        slot_wider (Rattle.logic_core.specs.declared.form.Slot.TheVariants.Variable v) low = omega arith
        slot_wider (Rattle.logic_core.specs.declared.form.Slot.TheVariants.Constant c) low = low

    -- premises are the same at the arguments alone
    at_front : (xs ys : List ℕ) (n : ℕ) → length xs ≡ n → (atom : Atom) → AtomIsBelow n constants atom → atom_at (xs ++ ys) atom ≡ atom_at xs atom
    at_front xs ys n long atom below = ap (λ (args : List Rattle.logic_core.specs.declared.form.Slot.Slot). record { positive = atom.positive; symbol = atom.symbol; args = args }) (slots atom.args below)
      where
        slot : (s : Rattle.logic_core.specs.declared.form.Slot.Slot) → Rattle.logic_core.specs.Forms.SlotIsBelow n constants s
            → Rattle.vernacular_tree.specs.Contexts.slot_at (xs ++ ys) s ≡ Rattle.vernacular_tree.specs.Contexts.slot_at xs s
        slot (Rattle.logic_core.specs.declared.form.Slot.TheVariants.Variable v) low =
            ap Rattle.logic_core.specs.declared.form.Slot.TheVariants.Constant (get_or_append_left xs ys 0 v (omega arith))
        slot (Rattle.logic_core.specs.declared.form.Slot.TheVariants.Constant c) low = refl

        slots : (ss : List Rattle.logic_core.specs.declared.form.Slot.Slot) → AllByRecursion (Rattle.logic_core.specs.Forms.SlotIsBelow n constants) ss
            → map (Rattle.vernacular_tree.specs.Contexts.slot_at (xs ++ ys)) ss ≡ map (Rattle.vernacular_tree.specs.Contexts.slot_at xs) ss
        slots [] low = refl
        slots (s ∷ ss) low = let first = slot s low.0 in let rest = slots ss low.1 in cc

    premises_stand : (atoms : List Atom) → AllByRecursion (AtomIsBelow u constants) atoms → AllByRecursion (λ atom. Has fires (atom_at fire.args atom) index fire.branch) atoms
        → AllByRecursion (λ atom. Has fires (atom_at (map (slice_index (values ++ elements)) (variables_of step)) atom) index fire.branch) atoms
    premises_stand atoms below stand =
        subst (λ (xs : List ℕ). AllByRecursion (λ atom. Has fires (atom_at xs atom) index fire.branch) atoms) (sym (more_read u e elements elements_long))
        (each_both {R = λ atom. Has fires (atom_at elements atom) index fire.branch}
        (λ atom low has. subst (λ (f : Atom). Has fires f index fire.branch) (sym (at_front fire.args (counted fire.first e) u fire_right.length_is atom low)) has) atoms below stand)

    -- the number of the new step's application
    index_behind : slice_get (indices ++ index ∷ []) (length plan.steps) ≡ Some index
    index_behind = let long = steps_long fires values plan.steps indices h.steps in rw long (get_behind indices index [])

    -- the new step is seen from the branch
    pub grown_over : IsOver fires (values ++ elements) (indices ++ index ∷ []) (length plan.steps) branch
    grown_over = record {
      index = index;
      index_is = index_behind;
      fire = fire;
      fire_is = is;
      within = variables_kept values elements branch within;
      stands = subst (Above fire.branch) (sym (branch_kept values elements branch within)) above;
    }

    pub grown_embeds : Embeds task context fires (grown context.elements fire.number fire.form branch plan) (values ++ elements) (indices ++ index ∷ []) left
    grown_embeds = record {
      length_is = more_long u e elements elements_long;
      flags = more_flags u e elements elements_long;
      itself = more_itself u e elements elements_long;
      bound_within = more_within u e elements elements_long;
      agrees = more_agrees u e elements elements_long;
      new = more_new u e elements elements_long (step ∷ []) (λ i low. inl (record { from = (omega arith); below = (omega arith) }));
      steps = steps_more fires (values ++ elements) plan.steps indices step index (steps_kept values elements fires plan.steps indices h.steps) step_is;
      apart = apart_more indices index h.apart apart;
      branches = branches_kept values elements fires task context plan.branches left h.branches;
      ties = each_map (λ tie holds. tie_kept values elements fires indices (index ∷ []) tie holds) plan.ties h.ties;
      goals = each_append (GoalIs fires (values ++ elements) (indices ++ index ∷ [])) plan.goals (goals_for (Some (length plan.steps)) branch (variables_of step) fire.form.premises)
          (each_map (λ goal stands. goal_kept values elements fires indices (index ∷ []) goal stands) plan.goals h.goals)
          (goals_stand (values ++ elements) (indices ++ index ∷ []) (Some (length plan.steps)) branch index fire.branch (u + e) (variables_of step) variables_long variables_low
          fixed_still there_still (variables_kept values elements branch within) (subst (Above fire.branch) (sym (branch_kept values elements branch within)) above)
          (λ atom. (index_behind, (fire, is, refl))) fire.form.premises (premises_wider fire.form.premises formed.premises)
          (premises_stand fire.form.premises formed.premises fire_right.premises));
    }

  -- a branch that is open is answered
  module _ (rest : List (List Case)) (branch : List Case) (branches_are : plan.branches ≡ rest ++ branch ∷ []) (ends : List End)
      (others : BranchesAre task context fires values rest ends) (within : HasVariables (length values) branch)
      (disjunct : ℕ) (answer : IsAnswered task context fires disjunct (branch_image values branch)) where
    abbrev g : ℕ
    g = task.goal.existentials

    values_long : length answer.values ≡ g + 0
    values_long = let l = answer.length_is in omega arith

    -- the variables of the disjunct
    abbrev answer_variables : List ℕ
    answer_variables = parameters task ++ counted (next_variable context.elements plan) g

    answer_long : length answer_variables ≡ task.goal.universals + g
    answer_long = omega (arith, length-append (parameters task) (counted (next_variable context.elements plan) g), counted_length (task.start - task.goal.universals) task.goal.universals, counted_length (next_variable context.elements plan) g)

    answer_low : AllByRecursion (λ x. x < length (values ++ answer.values)) answer_variables
    answer_low =
        let long = length-append values answer.values in let l = h.length_is in let m = answer.length_is in let s = right.start in
        each_append (λ x. x < length (values ++ answer.values)) (parameters task) (counted (next_variable context.elements plan) g)
        (counted_below (task.start - task.goal.universals) task.goal.universals (length (values ++ answer.values)) (omega arith))
        (counted_below (next_variable context.elements plan) g (length (values ++ answer.values)) (omega arith))

    answer_read : map (slice_index (values ++ answer.values)) answer_variables ≡ parameters task ++ answer.values
    answer_read =
        let split = map-append (slice_index (values ++ answer.values)) (parameters task) (counted (next_variable context.elements plan) g) in
        let new : map (slice_index (values ++ answer.values)) (counted (next_variable context.elements plan) g) ≡ answer.values
        = counted_read values answer.values (next_variable context.elements plan) g (let b : length values ≡ next_variable context.elements plan = (let l = h.length_is in omega arith) in b) answer.length_is in
        let old : map (slice_index (values ++ answer.values)) (parameters task) ≡ parameters task
        = (let s = right.start in same (task.start - task.goal.universals) task.goal.universals (omega arith)) in
        cc
      where
        same : (first k : ℕ) → first + k ≤ task.start → map (slice_index (values ++ answer.values)) (counted first k) ≡ counted first k
        same first zero low = refl
        same first (suc k) low =
            let head : slice_index (values ++ answer.values) first ≡ first = (let l = h.length_is in get_or_append_left values answer.values 0 first (omega arith) ∙ h.itself first (omega arith)) in
            let tail = same (first + 1) k (omega arith) in cc

    pub answered_embeds : Embeds task context fires (answered context.elements task answer.atoms branch (with_branches rest plan)) (values ++ answer.values) indices ends
    answered_embeds =
        let below = each_get (AllByRecursion (AtomIsBelow (task.goal.universals + g) constants)) task.goal.disjuncts (disjunct - 1) answer.atoms right.goal.disjuncts answer.disjunct_is in
        let there = constants_there in let long = length-append values answer.values in
        record {
          length_is = more_long g 0 answer.values values_long;
          flags = more_flags g 0 answer.values values_long;
          itself = more_itself g 0 answer.values values_long;
          bound_within = more_within g 0 answer.values values_long;
          agrees = more_agrees g 0 answer.values values_long;
          new = λ i fixed. subst (SomeOf (IsNewOf (context.elements + i))) (Rattle.std.proofs.Common.append-nil plan.steps)
              (more_new g 0 answer.values values_long [] (λ j low. absurd (omega arith)) i fixed);
          steps = steps_kept values answer.values fires plan.steps indices h.steps;
          apart = h.apart;
          branches = branches_kept values answer.values fires task context rest ends others;
          ties = each_map (λ tie holds. subst (λ (is : List ℕ). TieHolds fires (values ++ answer.values) is tie) (Rattle.std.proofs.Common.append-nil indices)
              (tie_kept values answer.values fires indices [] tie holds)) plan.ties h.ties;
          goals = each_append (GoalIs fires (values ++ answer.values) indices) plan.goals (goals_for None branch answer_variables answer.atoms)
              (each_map (λ goal stands. subst (λ (is : List ℕ). GoalIs fires (values ++ answer.values) is goal) (Rattle.std.proofs.Common.append-nil indices)
              (goal_kept values answer.values fires indices [] goal stands)) plan.goals h.goals)
              (goals_stand (values ++ answer.values) indices None branch (length fires) (branch_image values branch) (task.goal.universals + g) answer_variables answer_long answer_low
              (λ k low. get_or_append_left values answer.values 0 k (omega arith) ∙ constants_fixed k low) (omega arith)
              (variables_kept values answer.values branch within)
              (subst (Above (branch_image values branch)) (sym (branch_kept values answer.values branch within)) (above_same (branch_image values branch)))
              (λ atom. (refl, sym (branch_kept values answer.values branch within))) answer.atoms below
              (subst (λ (xs : List ℕ). AllByRecursion (λ atom. Has fires (atom_at xs atom) (length fires) (branch_image values branch)) answer.atoms) (sym answer_read) answer.stand));
        }
