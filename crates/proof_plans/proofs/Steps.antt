-- The steps of a plan that is a part of a proof: each is one application, and no two are the same.
use Rattle.std.proofs.Common.{◌≡◌, ◌≢◌, ℕ, zero, suc, ◌+◌, ◌-◌, ◌<◌, ◌≤◌, ◌==◌, inl, inr, Bool, true, false, ◌||◌, List, [], ◌∷◌, ◌++◌, map, length, slice_get, slice_index, Some, refl, ap, sym, ◌∙◌, subst, arith, length-append, eqb}
use Rattle.std.proofs.lemmas.Bool.{cases_lt}
use Rattle.std.proofs.lemmas.List.{get_or-map, length-map}
use Rattle.std.proofs.lemmas.Map.Steps.{length-le_from_distinct_below}
use Rattle.std.specs.List.{AllByRecursion, IsDistinct, list_any}
use Rattle.text_core.specs.Lists.{SomeOf}
use Rattle.vernacular_tree.specs.Contexts.{Task, counted}
use Rattle.vernacular_tree.specs.declared.context.Context.{Context}
use Rattle.vernacular_tree.specs.declared.tree.End.{End, As, Efq, Cs'}
use Rattle.proof_plans.specs.Runs.{Case, Fire, elements_of, IsRun, end_count}
use Rattle.proof_plans.specs.Plans.{Step, variables_of, Plan}
use Rattle.proof_plans.specs.Embeds.{IsNewOf, StepIs, StepsAre, AreApart, BranchesAre, Embeds, ends_in}
use Rattle.proof_plans.specs.Moves.{Differ}
use Rattle.text_core.proofs.Laws.{each_map, number_same}
use Rattle.vernacular_tree.proofs.Numbers.{counted_length, counted_at}

-- a number of an item is below the length
pub get_below : {X : Type 0} (xs : List X) (x : X) (i : ℕ) → slice_get xs i ≡ Some x → i < length xs
get_below [] x i e = absurd (cc)
get_below (y ∷ ys) x zero e = omega arith
get_below (y ∷ ys) x (suc i) e = let low = get_below ys x i e in omega arith

-- a number below the length has an item
pub get_there : {X : Type 0} (xs : List X) (i : ℕ) → i < length xs → (x : X) × (slice_get xs i ≡ Some x)
get_there [] i h = absurd (omega arith)
get_there (x ∷ xs) zero h = (x, refl)
get_there (x ∷ xs) (suc i) h = get_there xs i (omega arith)

-- the number of an item is read by its place
pub get_index : (xs : List ℕ) (i x : ℕ) → slice_get xs i ≡ Some x → slice_index xs i ≡ x
get_index [] i x e = absurd (cc)
get_index (y ∷ ys) zero x e = let same : y ≡ x = cc in same
get_index (y ∷ ys) (suc i) x e = get_index ys i x e

module _ (fires : List Fire) (values : List ℕ) where
  -- there are as many numbers as steps
  pub steps_long : (steps : List Step) (indices : List ℕ) → StepsAre fires values steps indices → length steps ≡ length indices
  steps_long [] [] h = refl
  steps_long [] (i ∷ is) h = absurd h
  steps_long (s ∷ ss) [] h = absurd h
  steps_long (s ∷ ss) (i ∷ is) h = ap suc (steps_long ss is h.1)

  -- the application of the step with this number
  pub step_at : (steps : List Step) (indices : List ℕ) → StepsAre fires values steps indices → (k : ℕ) (step : Step) → slice_get steps k ≡ Some step
      → (index : ℕ) × (slice_get indices k ≡ Some index) × StepIs fires values step index
  step_at [] indices h k step is = absurd (cc)
  step_at (s ∷ ss) [] h k step is = absurd h
  step_at (s ∷ ss) (i ∷ is) h zero step e = (i, refl, subst (λ (x : Step). StepIs fires values x i) (let same : s ≡ step = cc in same) h.0)
  step_at (s ∷ ss) (i ∷ is) h (suc k) step e = step_at ss is h.1 k step e

  -- some step has P, and is an application
  pub step_with : (P : Step → Type 0) (steps : List Step) (indices : List ℕ) → StepsAre fires values steps indices → SomeOf P steps
      → (k : ℕ) × (step : Step) × (index : ℕ) × (slice_get steps k ≡ Some step) × (slice_get indices k ≡ Some index) × StepIs fires values step index × P step
  step_with P [] indices h some = absurd some
  step_with P (s ∷ ss) [] h some = absurd h
  step_with P (s ∷ ss) (i ∷ is) h (inl here) = (0, s, i, refl, refl, h.0, here)
  step_with P (s ∷ ss) (i ∷ is) h (inr later) =
      let found = step_with P ss is h.1 later in (suc found.0, found.1, found.2, found.3, found.4, found.5, found.6)

  -- the numbers are those of applications
  pub steps_low : (steps : List Step) (indices : List ℕ) → StepsAre fires values steps indices → AllByRecursion (λ i. i < length fires) indices
  steps_low [] [] h = tt
  steps_low [] (i ∷ is) h = absurd h
  steps_low (s ∷ ss) [] h = absurd h
  steps_low (s ∷ ss) (i ∷ is) h = (get_below fires h.0.fire i h.0.is, steps_low ss is h.1)

  -- the value of a new element of a step
  pub new_value : (step : Step) (index : ℕ) (is : StepIs fires values step index) (v : ℕ) → IsNewOf v step
      → slice_index values v ≡ is.fire.first + (v - (step.base + step.form.universals))
  new_value step index is v new =
      let from : step.base + step.form.universals ≤ v = new.from in
      let below : v < step.base + step.form.universals + step.form.existentials = new.below in
      let u : ℕ = step.form.universals in
      let k : ℕ = v - step.base in
      let same_form = is.form_is in
      let here : slice_index (variables_of step) k ≡ v = counted_at step.base (u + step.form.existentials) k (omega arith) ∙ (let back : step.base + k ≡ v = omega arith in back) in
      let long : length (variables_of step) ≡ u + step.form.existentials = counted_length step.base (u + step.form.existentials) in
      let read : slice_index (map (slice_index values) (variables_of step)) k ≡ slice_index values (slice_index (variables_of step) k)
      = get_or-map (slice_index values) (variables_of step) k 0 0 (omega arith) in
      let elements : slice_index (map (slice_index values) (variables_of step)) k ≡ slice_index (elements_of is.fire) k = ap (λ (xs : List ℕ). slice_index xs k) is.elements_are in
      let total : length (map (slice_index values) (variables_of step)) ≡ length (elements_of is.fire) = ap (length {A = ℕ}) is.elements_are in
      let mapped : length (map (slice_index values) (variables_of step)) ≡ length (variables_of step) = length-map (variables_of step) (slice_index values) in
      let parts = length-append is.fire.args (counted is.fire.first is.fire.form.existentials) in
      let many = counted_length is.fire.first is.fire.form.existentials in
      let ex : step.form.existentials ≡ is.fire.form.existentials = ap (λ (f : Rattle.logic_core.specs.declared.form.Form.Form). f.existentials) same_form in
      let args : length is.fire.args ≡ u = omega arith in
      let tail : slice_index (is.fire.args ++ counted is.fire.first is.fire.form.existentials) k ≡ slice_index (counted is.fire.first is.fire.form.existentials) (k - length is.fire.args)
      = behind is.fire.args (counted is.fire.first is.fire.form.existentials) k (omega arith) in
      let last : slice_index (counted is.fire.first is.fire.form.existentials) (k - length is.fire.args) ≡ is.fire.first + (k - length is.fire.args)
      = counted_at is.fire.first is.fire.form.existentials (k - length is.fire.args) (omega arith) in
      let at : slice_index values v ≡ slice_index values (slice_index (variables_of step) k) = ap (slice_index values) (sym here) in
      let sum : is.fire.first + (k - length is.fire.args) ≡ is.fire.first + (v - (step.base + step.form.universals)) = omega arith in
      at ∙ sym read ∙ elements ∙ tail ∙ last ∙ sum
    where
      behind : (xs ys : List ℕ) (k : ℕ) → length xs ≤ k → slice_index (xs ++ ys) k ≡ slice_index ys (k - length xs)
      behind [] ys k le = ap (slice_index ys) (let same : k ≡ k - 0 = omega arith in same)
      behind (x ∷ xs) ys zero le = absurd (omega arith)
      behind (x ∷ xs) ys (suc k) le = behind xs ys k (omega arith) ∙ ap (slice_index ys) (let same : k - length xs ≡ suc k - suc (length xs) = omega arith in same)

-- numbers that are apart differ at two places
pub apart_get : (indices : List ℕ) → AreApart indices → (k l a b : ℕ) → slice_get indices k ≡ Some a → slice_get indices l ≡ Some b → k ≢ l → a ≢ b
apart_get [] h k l a b ka lb differ = absurd (cc)
apart_get (i ∷ is) h zero zero a b ka lb differ = absurd (differ refl)
apart_get (i ∷ is) h zero (suc l) a b ka lb differ = first is h.0 l b lb (let same : i ≡ a = cc in same)
  where
    first : (is : List ℕ) → AllByRecursion (λ other. i ≢ other) is → (l b : ℕ) → slice_get is l ≡ Some b → i ≡ a → a ≢ b
    first [] h l b e same = absurd (cc)
    first (j ∷ js) h zero b e same = λ eq. h.0 (let q : i ≡ j = cc in q)
    first (j ∷ js) h (suc l) b e same = first js h.1 l b e same
apart_get (i ∷ is) h (suc k) zero a b ka lb differ = first is h.0 k a ka (let same : i ≡ b = cc in same)
  where
    first : (is : List ℕ) → AllByRecursion (λ other. i ≢ other) is → (k a : ℕ) → slice_get is k ≡ Some a → i ≡ b → a ≢ b
    first [] h k a e same = absurd (cc)
    first (j ∷ js) h zero a e same = λ eq. h.0 (let q : i ≡ j = cc in q)
    first (j ∷ js) h (suc k) a e same = first js h.1 k a e same
apart_get (i ∷ is) h (suc k) (suc l) a b ka lb differ = apart_get is h.1 k l a b ka lb (λ same. differ (ap suc same))

-- numbers that are apart are distinct for the test of equality
apart_distinct : (indices : List ℕ) → AreApart indices → IsDistinct eqb indices
unfolding IsDistinct
apart_distinct [] h = tt
apart_distinct (i ∷ is) h = (each_map {Q = λ y. (i == y) ≡ false} (λ y differ. no_test i y differ) is h.0, apart_distinct is h.1)
  where
    no_test : (i y : ℕ) → i ≢ y → (i == y) ≡ false
    no_test i y differ = go (i == y) refl
      where
        go : (b : Bool) → (i == y) ≡ b → (i == y) ≡ false
        go true e = absurd (differ (number_same i y e))
        go false e = e

-- a number is the first one, below a bound, or among the others, which gives that it is below
by_test : (n q x : ℕ) (rest : Bool) → x < n → (rest ≡ true → q < n) → ((q == x) || rest) ≡ true → q < n
by_test n q x rest low others e = go (q == x) refl e
  where
    go : (b : Bool) → (q == x) ≡ b → (b || rest) ≡ true → q < n
    go true t e = let same = number_same q x t in omega arith
    go false t e = others e

-- a number that is among numbers below a bound is below it
among_low : (xs : List ℕ) (n : ℕ) → AllByRecursion (λ x. x < n) xs → (q : ℕ) → list_any (eqb q) xs ≡ true → q < n
among_low [] n h q e = absurd (cc)
among_low (x ∷ xs) n h q e = by_test n q x (list_any (eqb q) xs) h.0 (among_low xs n h.1 q) e

-- numbers below a bound that are apart are no more than it
pub apart_few : (xs : List ℕ) (n : ℕ) → AreApart xs → AllByRecursion (λ x. x < n) xs → length xs ≤ n
apart_few xs n apart low = length-le_from_distinct_below xs n (apart_distinct xs apart) (among_low xs n low)

module _ (task : Task) (context : Context) (fires : List Fire) (run : IsRun task context fires) where
  -- new elements differ from each other and from the first ones
  pub differ : (plan : Plan) (values indices : List ℕ) (left : List End) → Embeds task context fires plan values indices left → Differ context.elements plan.fixed values
  differ plan values indices left h = record {
    itself = h.itself;
    new = λ i fixed a low same.
        let found = step_with fires values (IsNewOf (context.elements + i)) plan.steps indices h.steps (h.new i fixed) in
        let value = new_value fires values found.1 found.2 found.5 (context.elements + i) found.6 in
        let first : context.elements ≤ found.5.fire.first = (run.right found.2 found.5.fire found.5.is).new in
        omega arith;
    apart = λ i j fixed also different same.
        let one = step_with fires values (IsNewOf (context.elements + i)) plan.steps indices h.steps (h.new i fixed) in
        let two = step_with fires values (IsNewOf (context.elements + j)) plan.steps indices h.steps (h.new j also) in
        by_number i j different same one.0 two.0 one.1 two.1 one.2 two.2 one.3 two.3 one.4 two.4 one.5 two.5 one.6 two.6;
  }
    where
      same_step : (i j : ℕ) → i ≢ j → slice_index values (context.elements + i) ≡ slice_index values (context.elements + j)
          → (step : Step) (index : ℕ) (is : StepIs fires values step index) → IsNewOf (context.elements + i) step → IsNewOf (context.elements + j) step → ⊥
      same_step i j different same step index is one two =
          let a = new_value fires values step index is (context.elements + i) one in
          let b = new_value fires values step index is (context.elements + j) two in
          let f : step.base + step.form.universals ≤ context.elements + i = one.from in
          let g : step.base + step.form.universals ≤ context.elements + j = two.from in
          different (omega arith)

      two_steps : (i j : ℕ) → slice_index values (context.elements + i) ≡ slice_index values (context.elements + j)
          → (step other : Step) (index second : ℕ) (is : StepIs fires values step index) (also : StepIs fires values other second)
          → IsNewOf (context.elements + i) step → IsNewOf (context.elements + j) other → index < second → ⊥
      two_steps i j same step other index second is also one two less =
          let a = new_value fires values step index is (context.elements + i) one in
          let b = new_value fires values other second also (context.elements + j) two in
          let apart : is.fire.first + is.fire.form.existentials ≤ also.fire.first = run.apart index second is.fire also.fire less is.is also.is in
          let ex : step.form.existentials ≡ is.fire.form.existentials = ap (λ (f : Rattle.logic_core.specs.declared.form.Form.Form). f.existentials) is.form_is in
          let f : step.base + step.form.universals ≤ context.elements + i = one.from in
          let g : context.elements + i < step.base + step.form.universals + step.form.existentials = one.below in
          omega arith

      by_number : (i j : ℕ) → i ≢ j → slice_index values (context.elements + i) ≡ slice_index values (context.elements + j)
          → (k l : ℕ) (step other : Step) (index second : ℕ) → slice_get plan.steps k ≡ Some step → slice_get plan.steps l ≡ Some other
          → slice_get indices k ≡ Some index → slice_get indices l ≡ Some second → StepIs fires values step index → StepIs fires values other second
          → IsNewOf (context.elements + i) step → IsNewOf (context.elements + j) other → ⊥
      by_number i j different same k l step other index second ks ls ki li is also one two = go (k == l) refl
        where
          go : (b : Bool) → (k == l) ≡ b → ⊥
          go true e =
              let at : k ≡ l = number_same k l e in
              let equal : step ≡ other = let a : slice_get plan.steps l ≡ Some step = rw at at ks in cc in
              same_step i j different same other second also (subst (IsNewOf (context.elements + i)) equal one) two
          go false e =
              let apart : index ≢ second = apart_get indices h.apart k l index second ki li (λ at. let t : (k == l) ≡ true = grind arith in cc) in
              elim (cases_lt index second) [
                | inl less ↦ two_steps i j same step other index second is also one two less
                | inr more ↦ two_steps j i (sym same) other step second index also is two one (omega arith)
              ]

  -- each end is one end at least
  ends_more : (end : End) → 1 ≤ end_count end
  ends_more (As disjunct args) = omega arith
  ends_more Efq = omega arith
  ends_more (Cs' line s row) = omega arith

  -- there are as many open branches as ends at most
  pub branches_few : (values : List ℕ) (branches : List (List Case)) (left : List End) → BranchesAre task context fires values branches left → length branches ≤ ends_in left
  branches_few values [] [] h = omega arith
  branches_few values [] (end ∷ ends) h = absurd h
  branches_few values (b ∷ bs) [] h = absurd h
  branches_few values (b ∷ bs) (end ∷ ends) h =
      let rest = branches_few values bs ends h.3 in let one = ends_more end in omega arith
