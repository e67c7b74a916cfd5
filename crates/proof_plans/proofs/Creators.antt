-- A step whose arguments are new elements of another step comes behind it.
use Rattle.std.proofs.Common.{◌≡◌, ℕ, ◌+◌, ◌-◌, ◌<◌, ◌≤◌, inl, inr, List, map, length, slice_get, slice_index, Some, ap, sym, ◌∙◌, subst, arith}
use Rattle.std.proofs.lemmas.Bool.{cases_lt}
use Rattle.std.proofs.lemmas.List.{get_or-map, get_or_append_left}
use Rattle.logic_core.specs.declared.form.Form.{Form}
use Rattle.vernacular_tree.specs.Contexts.{Task, counted}
use Rattle.vernacular_tree.specs.declared.context.Context.{Context}
use Rattle.proof_plans.specs.Runs.{Above, Fire, elements_of, IsKnown, IsRight, IsRun}
use Rattle.proof_plans.specs.Plans.{Step, variables_of}
use Rattle.proof_plans.specs.Embeds.{IsNewOf, StepIs, IsBefore}
use Rattle.proof_plans.specs.Drafts.{Drafted}
use Rattle.proof_plans.specs.Hopes.{Hope}
use Rattle.text_core.proofs.Laws.{each_index}
use Rattle.vernacular_tree.proofs.Numbers.{counted_length, counted_at}
use Rattle.proof_plans.proofs.Steps.{step_at, new_value}

module _ (fires : List Fire) (values : List ℕ) where
  -- the value of a universal variable of a step is an argument of its application
  argument_value : (step : Step) (index : ℕ) (is : StepIs fires values step index) → length is.fire.args ≡ is.fire.form.universals → (k : ℕ) → k < step.form.universals
      → slice_index values (step.base + k) ≡ slice_index is.fire.args k
  argument_value step index is many k low =
      let total : ℕ = step.form.universals + step.form.existentials in
      let variables : List ℕ = variables_of step in
      let fire : Fire = is.fire in
      let here : slice_index variables k ≡ step.base + k = counted_at step.base total k (omega arith) in
      let long : length variables ≡ total = counted_length step.base total in
      let read : slice_index (map (slice_index values) variables) k ≡ slice_index values (slice_index variables k) = get_or-map (slice_index values) variables k 0 0 (omega arith) in
      let same : slice_index (map (slice_index values) variables) k ≡ slice_index (elements_of fire) k = ap (λ (xs : List ℕ). slice_index xs k) is.elements_are in
      let universals : step.form.universals ≡ fire.form.universals = ap (λ (f : Form). f.universals) is.form_is in
      let front : slice_index (elements_of fire) k ≡ slice_index fire.args k = get_or_append_left fire.args (counted fire.first fire.form.existentials) 0 k (omega arith) in
      ap (slice_index values) (sym here) ∙ sym read ∙ same ∙ front

module _ (task : Task) (lent : Context) (fires : List Fire) (run : IsRun task lent fires) where
  -- a new element has one application
  pub one_creator : (element i j : ℕ) (fire other : Fire) → slice_get fires i ≡ Some fire → slice_get fires j ≡ Some other → fire.first ≤ element → element < fire.first + fire.form.existentials
      → other.first ≤ element → element < other.first + other.form.existentials → i ≡ j
  one_creator element i j fire other i_is j_is a b c d = elim (cases_lt i j) [
    | inl less ↦ absurd (let apart = run.apart i j fire other less i_is j_is in omega arith)
    | inr more ↦ elim (cases_lt j i) [
      | inl less ↦ absurd (let apart = run.apart j i other fire less j_is i_is in omega arith)
      | inr also ↦ omega arith
    ]
  ]

  -- the application of an argument that is a new element comes behind the one that has it
  argument_behind : (element lower upper : ℕ) (fire later : Fire) → slice_get fires lower ≡ Some fire → fire.first ≤ element → element < fire.first + fire.form.existentials
      → IsKnown lent.elements fires upper element later.branch → (lower < upper) × Above fire.branch later.branch
  argument_behind element lower upper fire later is from below (inl first) = let new = (run.right lower fire is).new in absurd (omega arith)
  argument_behind element lower upper fire later is from below (inr new) =
      let start : new.seen.fire.first ≤ element = new.from in
      let end : element < new.seen.fire.first + new.seen.fire.form.existentials = new.below in
      let one : new.index ≡ lower = one_creator element new.index lower new.seen.fire fire new.seen.is is start end from below in
      let there : slice_get fires lower ≡ Some new.seen.fire = subst (λ (k : ℕ). slice_get fires k ≡ Some new.seen.fire) one new.seen.is in
      let same : new.seen.fire ≡ fire = cc in
      let ordered : new.index < upper = new.before in
      (omega arith, subst (λ (f : Fire). Above f.branch later.branch) same new.seen.above)

module _ (task : Task) (lent : Context) (n : ℕ) (d : Drafted) (h : Hope task lent n d) where
  -- the step of a new element comes before the one that has it as an argument
  pub creator : (low user : ℕ) (step later : Step) → slice_get h.plan.steps low ≡ Some step → slice_get h.plan.steps user ≡ Some later
      → (w : ℕ) → IsNewOf w step → (v : ℕ) → later.base ≤ v → v < later.base + later.form.universals
      → slice_index h.values v ≡ slice_index h.values w → IsBefore h.fires h.indices low user
  creator low user step later low_is user_is w new v from below same =
      let lower = step_at h.fires h.values h.plan.steps h.indices h.embeds.steps low step low_is in
      let upper = step_at h.fires h.values h.plan.steps h.indices h.embeds.steps user later user_is in
      let fire : Fire = lower.2.fire in
      let other : Fire = upper.2.fire in
      let right : IsRight task lent h.fires upper.0 other = h.run.right upper.0 other upper.2.is in
      let k : ℕ = v - later.base in
      let at : later.base + k ≡ v = omega arith in
      let universals : later.form.universals ≡ other.form.universals = ap (λ (f : Form). f.universals) upper.2.form_is in
      let existentials : step.form.existentials ≡ fire.form.existentials = ap (λ (f : Form). f.existentials) lower.2.form_is in
      let many : length other.args ≡ other.form.universals = right.length_is in
      let argument : slice_index h.values (later.base + k) ≡ slice_index other.args k = argument_value h.fires h.values later upper.0 upper.2 many k (omega arith) in
      let read : slice_index h.values v ≡ slice_index other.args k = ap (slice_index h.values) (sym at) ∙ argument in
      let created : slice_index h.values w ≡ fire.first + (w - (step.base + step.form.universals)) = new_value h.fires h.values step lower.0 lower.2 w new in
      let first : step.base + step.form.universals ≤ w = new.from in
      let last : w < step.base + step.form.universals + step.form.existentials = new.below in
      let known : IsKnown lent.elements h.fires upper.0 (slice_index other.args k) other.branch
      = each_index (λ e. IsKnown lent.elements h.fires upper.0 e other.branch) other.args k (omega arith) right.known in
      let behind : (lower.0 < upper.0) × Above fire.branch other.branch
      = argument_behind task lent h.fires h.run (slice_index other.args k) lower.0 upper.0 fire other lower.2.is (omega arith) (omega arith) known in record {
        lower = lower.0;
        upper = upper.0;
        lower_is = lower.1;
        upper_is = upper.1;
        ordered = behind.0;
        fire = fire;
        later = other;
        fire_is = lower.2.is;
        later_is = upper.2.is;
        above = behind.1;
      }
