-- A proof has an application by each form that every proof needs, besides those of a plan's steps.
use Rattle.std.proofs.Common.{◌≡◌, ◌≢◌, ℕ, zero, suc, ◌+◌, ◌<◌, ◌≤◌, inl, inr, List, [], ◌∷◌, ◌++◌, drop, length, slice_get, Some, refl, ap, sym, ◌∙◌, subst, arith, length-append, append_assoc, append-nil, add-one}
use Rattle.std.specs.List.{AllByRecursion}
use Rattle.text_core.specs.Lists.{SomeOf}
use Rattle.text_core.proofs.Laws.{each_map, each_append, each_front, each_back}
use Rattle.vernacular_tree.specs.Contexts.{Task}
use Rattle.vernacular_tree.specs.declared.context.Context.{Context}
use Rattle.proof_plans.specs.declared.draft.PlanStep.{PlanStep}
use Rattle.proof_plans.specs.Runs.{Fire}
use Rattle.proof_plans.specs.Plans.{Step}
use Rattle.proof_plans.specs.Embeds.{StepsAre, AreApart}
use Rattle.proof_plans.specs.Drafts.{Drafted, Both, IsStep}
use Rattle.proof_plans.specs.Hopes.{Hope}
use Rattle.proof_plans.specs.Landmarks.{IsLandmark, AreLandmarks, IsMissing, HasMissing}
use Rattle.proof_plans.proofs.Steps.{get_below, apart_few, steps_low, branches_few}
use Rattle.proof_plans.proofs.Hoped.{both_long, indices_long}

-- numbers that are apart from others are apart together with them
apart_append : (xs ys : List ℕ) → AreApart xs → AreApart ys → AllByRecursion (λ x. AllByRecursion (λ y. x ≢ y) ys) xs → AreApart (xs ++ ys)
apart_append [] ys a b h = b
apart_append (x ∷ xs) ys a b h = (each_append (λ y. x ≢ y) xs ys a.0 h.0, apart_append xs ys a.1 b h.1)

-- one of numbers that are apart may be left out
apart_less : (xs : List ℕ) (y : ℕ) (ys : List ℕ) → AreApart (xs ++ y ∷ ys) → AreApart (xs ++ ys)
apart_less [] y ys a = a.1
apart_less (x ∷ xs) y ys a =
    (each_append (λ z. x ≢ z) xs ys (each_front (λ z. x ≢ z) xs (y ∷ ys) a.0) (each_back (λ z. x ≢ z) xs (y ∷ ys) a.0).1, apart_less xs y ys a.1)

module _ (fires : List Fire) where
  -- an application with this number is by the form with that one
  record IsBy (form index : ℕ) : Type 0 where
    fire : Fire
    is : slice_get fires index ≡ Some fire
    by : fire.number ≡ form

  -- an application by the form, where there is one
  found_by : (form : ℕ) → SomeOf (λ (fire : Fire). fire.number ≡ form) fires → (index : ℕ) × IsBy form index
  found_by form some = let found = go fires some in (found.0, record { fire = found.1; is = found.2; by = found.3 })
    where
      go : (fs : List Fire) → SomeOf (λ (fire : Fire). fire.number ≡ form) fs → (index : ℕ) × (fire : Fire) × (slice_get fs index ≡ Some fire) × (fire.number ≡ form)
      go [] none = absurd none
      go (f ∷ fs) (inl here) = (0, f, refl, here)
      go (f ∷ fs) (inr later) = let rest = go fs later in (suc rest.0, rest.1, rest.2, rest.3)

  -- one for each
  all_by : (forms : List ℕ) → AllByRecursion (λ form. SomeOf (λ (fire : Fire). fire.number ≡ form) fires) forms → (indices : List ℕ) × Both IsBy forms indices
  all_by [] h = ([], tt)
  all_by (form ∷ forms) h = let one = found_by form h.0 in let rest = all_by forms h.1 in (one.0 ∷ rest.0, (one.1, rest.1))

  -- one application is by one form
  one_form : (form other index : ℕ) → IsBy form index → IsBy other index → form ≡ other
  one_form form other index a b =
      let i = a.is in let j = b.is in
      let same : a.fire ≡ b.fire = cc in
      sym a.by ∙ ap (λ (x : Fire). x.number) same ∙ b.by

  -- those of different forms are apart
  by_differ : (form index : ℕ) → IsBy form index → (forms indices : List ℕ) → Both IsBy forms indices → AllByRecursion (λ other. form ≢ other) forms
      → AllByRecursion (λ other. index ≢ other) indices
  by_differ form index is [] [] both differ = tt
  by_differ form index is [] (i ∷ is2) both differ = absurd both
  by_differ form index is (f ∷ fs) [] both differ = absurd both
  by_differ form index is (f ∷ fs) (i ∷ indices) both differ =
      ((λ same. differ.0 (one_form form f i (subst (IsBy form) same is) both.0)), by_differ form index is fs indices both.1 differ.1)

  by_apart : (forms indices : List ℕ) → Both IsBy forms indices → AreApart forms → AreApart indices
  by_apart [] [] both apart = tt
  by_apart [] (i ∷ is) both apart = absurd both
  by_apart (f ∷ fs) [] both apart = absurd both
  by_apart (f ∷ fs) (i ∷ is) both apart = (by_differ f i both.0 fs is both.1 apart.0, by_apart fs is both.1 apart.1)

  by_low : (forms indices : List ℕ) → Both IsBy forms indices → AllByRecursion (λ i. i < length fires) indices
  by_low [] [] both = tt
  by_low [] (i ∷ is) both = absurd both
  by_low (f ∷ fs) [] both = absurd both
  by_low (f ∷ fs) (i ∷ is) both = (get_below fires both.0.fire i both.0.is, by_low fs is both.1)

  -- the applications of steps are by none of the forms that no step is by
  steps_differ : (task : Task) (lent : Context) (values : List ℕ) (kept : List PlanStep) (steps : List Step) (indices : List ℕ) → Both (IsStep task lent) kept steps
      → StepsAre fires values steps indices → (forms others : List ℕ) → Both IsBy forms others → AllByRecursion (IsMissing kept) forms
      → AllByRecursion (λ i. AllByRecursion (λ other. i ≢ other) others) indices
  steps_differ task lent values [] [] [] are is forms others both missing = tt
  steps_differ task lent values [] [] (i ∷ indices) are is forms others both missing = absurd is
  steps_differ task lent values [] (s ∷ ss) indices are is forms others both missing = absurd are
  steps_differ task lent values (k ∷ ks) [] indices are is forms others both missing = absurd are
  steps_differ task lent values (k ∷ ks) (s ∷ ss) [] are is forms others both missing = absurd is
  steps_differ task lent values (k ∷ ks) (s ∷ ss) (i ∷ indices) are is forms others both missing = (
    by_differ k.form i (record { fire = is.0.fire; is = is.0.is; by = sym is.0.number_is ∙ are.0.number_is }) forms others both (heads forms missing),
    steps_differ task lent values ks ss indices are.1 is.1 forms others both (tails forms missing),
  )
    where
      heads : (fs : List ℕ) → AllByRecursion (IsMissing (k ∷ ks)) fs → AllByRecursion (λ other. k.form ≢ other) fs
      heads [] h = tt
      heads (f ∷ fs) h = (h.0.0, heads fs h.1)

      tails : (fs : List ℕ) → AllByRecursion (IsMissing (k ∷ ks)) fs → AllByRecursion (IsMissing ks) fs
      tails [] h = tt
      tails (f ∷ fs) h = (h.0.1, tails fs h.1)

-- as many forms and indices
many_by : (fires : List Fire) (forms indices : List ℕ) → Both (IsBy fires) forms indices → length forms ≡ length indices
many_by fires forms indices both = both_long (IsBy fires) forms indices both

-- a proof that has a plan as a part has as many applications as the plan, and one by each form that it needs
pub hope_least : (task : Task) (lent : Context) (n : ℕ) (d : Drafted) (count : ℕ) → HasMissing task lent d.steps count → Hope task lent n d
    → length d.steps + d.closed + length d.branches + count ≤ n
hope_least task lent n d count has h =
    let needed : AllByRecursion (λ form. SomeOf (λ (fire : Fire). fire.number ≡ form) h.fires) has.numbers = there has.numbers has.are.1 in
    let by = all_by h.fires has.numbers needed in
    let differ = steps_differ h.fires task lent h.values d.steps h.plan.steps h.indices h.keeps.steps_are h.embeds.steps has.numbers by.0 by.1 has.missing in
    let apart = apart_append h.indices by.0 h.embeds.apart (by_apart h.fires has.numbers by.0 by.1 has.are.0) differ in
    let low = each_append (λ i. i < length h.fires) h.indices by.0 (steps_low h.fires h.values h.plan.steps h.indices h.embeds.steps) (by_low h.fires has.numbers by.0 by.1) in
    let few = apart_few (h.indices ++ by.0) (length h.fires) apart low in
    let sum = length-append h.indices by.0 in
    let steps = indices_long task lent n d h in
    let many = many_by h.fires has.numbers by.0 by.1 in
    let count_is = has.many in
    let closed = h.keeps.closed_is in
    let branches = both_long _ d.branches h.plan.branches h.keeps.branches_are in
    let ends = branches_few task lent h.fires h.run h.values h.plan.branches h.left h.embeds.branches in
    let small = h.small in
    omega arith
  where
    there : (numbers : List ℕ) → AllByRecursion (IsLandmark task lent) numbers → AllByRecursion (λ form. SomeOf (λ (fire : Fire). fire.number ≡ form) h.fires) numbers
    there [] all = tt
    there (k ∷ ks) all = (all.0 h.fires h.ended.0 h.run h.ended.1, there ks all.1)

-- forms that are counted, with those that are left
pub record Counting (task : Task) (lent : Context) (steps : List PlanStep) (landmarks : List ℕ) (at count : ℕ) : Type 0 where
  pub numbers : List ℕ
  pub are : AreLandmarks task lent (numbers ++ drop at landmarks)
  pub missing : AllByRecursion (IsMissing steps) numbers
  pub many : count ≡ length numbers

drop_next : (xs : List ℕ) (i x : ℕ) → slice_get xs i ≡ Some x → drop i xs ≡ x ∷ drop (i + 1) xs
drop_next xs i x is = rw add-one (go xs i is)
  where
    go : (xs : List ℕ) (i : ℕ) → slice_get xs i ≡ Some x → drop i xs ≡ x ∷ drop (suc i) xs
    go [] i is = absurd (cc)
    go (y ∷ ys) zero is = let same : y ≡ x = cc in ap (λ (k : ℕ). k ∷ ys) same
    go (y ∷ ys) (suc i) is = go ys i is

drop_all : (xs : List ℕ) (i : ℕ) → length xs ≤ i → drop i xs ≡ []
drop_all [] zero low = refl
drop_all [] (suc i) low = refl
drop_all (x ∷ xs) zero low = absurd (omega arith)
drop_all (x ∷ xs) (suc i) low = drop_all xs i (omega arith)

-- one more form that every proof needs
pub landmark_more : (task : Task) (lent : Context) (numbers : List ℕ) (form : ℕ) → AreLandmarks task lent numbers → AllByRecursion (λ other. other ≢ form) numbers → IsLandmark task lent form
    → AreLandmarks task lent (numbers ++ form ∷ [])
landmark_more task lent numbers form are differ this =
    (apart_append numbers (form ∷ []) are.0 (tt, tt) (each_map (λ other d. (d, tt)) numbers differ), each_append (IsLandmark task lent) numbers (form ∷ []) are.1 (this, tt))

-- none is counted
pub none_missing : (task : Task) (lent : Context) (steps : List PlanStep) → HasMissing task lent steps 0
none_missing task lent steps = record { numbers = []; are = (tt, tt); missing = tt; many = refl }

module _ (task : Task) (lent : Context) (steps : List PlanStep) (landmarks : List ℕ) where
  -- nothing is counted yet
  pub counting_first : AreLandmarks task lent landmarks → Counting task lent steps landmarks 0 0
  counting_first are = record { numbers = []; are = are; missing = tt; many = refl }

  module _ (at count form : ℕ) (is : slice_get landmarks at ≡ Some form) (c : Counting task lent steps landmarks at count) where
    split_are : AreLandmarks task lent (c.numbers ++ form ∷ drop (at + 1) landmarks)
    split_are = subst (λ (rest : List ℕ). AreLandmarks task lent (c.numbers ++ rest)) (drop_next landmarks at form is) c.are

    -- one more is counted
    pub counting_more : IsMissing steps form → Counting task lent steps landmarks (at + 1) (count + 1)
    counting_more lacking = record {
      numbers = c.numbers ++ form ∷ [];
      are = subst (AreLandmarks task lent) (sym (append_assoc c.numbers (form ∷ []) (drop (at + 1) landmarks))) split_are;
      missing = each_append (IsMissing steps) c.numbers (form ∷ []) c.missing (lacking, tt);
      many = let long = length-append c.numbers (form ∷ []) in let m = c.many in omega arith;
    }

    -- one is left out
    pub counting_less : Counting task lent steps landmarks (at + 1) count
    counting_less = record {
      numbers = c.numbers;
      are = (
        apart_less c.numbers form (drop (at + 1) landmarks) split_are.0,
        each_append (IsLandmark task lent) c.numbers (drop (at + 1) landmarks) (each_front (IsLandmark task lent) c.numbers (form ∷ drop (at + 1) landmarks) split_are.1)
            (each_back (IsLandmark task lent) c.numbers (form ∷ drop (at + 1) landmarks) split_are.1).1,
      );
      missing = c.missing;
      many = c.many;
    }

  -- all are counted
  pub counting_all : (at count : ℕ) → length landmarks ≤ at → Counting task lent steps landmarks at count → HasMissing task lent steps count
  counting_all at count low c = record {
    numbers = c.numbers;
    are = subst (AreLandmarks task lent) (ap (λ (rest : List ℕ). c.numbers ++ rest) (drop_all landmarks at low) ∙ append-nil c.numbers) c.are;
    missing = c.missing;
    many = c.many;
  }
