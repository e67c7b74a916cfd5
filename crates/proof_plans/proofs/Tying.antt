-- Ties for steps whose arguments are new elements of others.
use Rattle.std.proofs.Common.{◌≡◌, ℕ, zero, suc, ◌+◌, ◌<◌, ◌≤◌, ◌⊎◌, inl, inr, List, [], ◌∷◌, ◌++◌, slice_get, Some, refl, ap, sym, ◌∙◌, subst, arith, append_assoc, append-nil}
use Rattle.logic_core.specs.declared.form.Form.{Form}
use Rattle.vernacular_tree.specs.Contexts.{Task}
use Rattle.vernacular_tree.specs.declared.context.Context.{Context}
use Rattle.proof_plans.specs.declared.draft.PlanStep.{PlanStep}
use Rattle.proof_plans.specs.declared.draft.PlanTie as PlanTie
use Rattle.proof_plans.specs.declared.draft.PlanTie.TheVariants as tie
use Rattle.proof_plans.specs.declared.finish.Span.{Span}
use Rattle.proof_plans.specs.declared.scene.Scene.{Scene}
use Rattle.proof_plans.specs.Plans.{Step, before}
use Rattle.proof_plans.specs.Embeds.{IsBefore}
use Rattle.proof_plans.specs.Moves.{tied}
use Rattle.proof_plans.specs.Drafts.{Drafted, Both, IsStep, with_tie}
use Rattle.proof_plans.specs.Hopes.{Hope}
use Rattle.proof_plans.specs.Scenes.{IsScene, Extends}
use Rattle.proof_plans.specs.Creators.{IsSpan, HasArgument, GetsTies}
use Rattle.proof_plans.proofs.Moved.{tie_embeds}
use Rattle.proof_plans.proofs.Parted.{tie_keeps}
use Rattle.proof_plans.proofs.Searched.{agrees}
use Rattle.proof_plans.proofs.Creators.{creator}

-- the item with a number goes together with the one that has it in the other list
pub both_at : {X Y : Type 0} (P : X → Y → Type 0) (xs : List X) (ys : List Y) → Both P xs ys → (k : ℕ) (x : X) → slice_get xs k ≡ Some x → (y : Y) × (slice_get ys k ≡ Some y) × P x y
both_at P [] [] h k x e = absurd (cc)
both_at P [] (z ∷ ys) h k x e = absurd h
both_at P (w ∷ xs) [] h k x e = absurd h
both_at P (w ∷ xs) (z ∷ ys) h zero x e = (z, refl, subst (λ (v : _). P v z) (let same : w ≡ x = cc in same) h.0)
both_at P (w ∷ xs) (z ∷ ys) h (suc k) x e = both_at P xs ys h.1 k x e

-- a tie that holds in a proof is known of it
before_hope : (task : Task) (lent : Context) (n : ℕ) (d : Drafted) (h : Hope task lent n d) (low user : ℕ) → IsBefore h.fires h.indices low user → Hope task lent n (with_tie (tie.Before low user) d)
before_hope task lent n d h low user holds = record {
  constants = h.constants;
  right = h.right;
  ok = h.ok;
  plan = tied (before low user) h.plan;
  keeps = tie_keeps task lent d h.plan h.keeps (tie.Before low user) (before low user) (refl, refl);
  fires = h.fires;
  run = h.run;
  tight = h.tight;
  ended = h.ended;
  values = h.values;
  indices = h.indices;
  left = h.left;
  embeds = tie_embeds task lent h.fires h.plan h.values h.indices h.left h.embeds (before low user) holds;
  pairs = h.pairs;
  small = h.small;
}

module _ (scene : Scene) (d : Drafted) (low user argument : ℕ) (kept : PlanStep) (span : Span) (low_is : slice_get d.steps low ≡ Some kept) (is : IsSpan scene.forms.now kept span)
    (from : span.new ≤ argument) (below : argument < span.end) (a : HasArgument scene.forms.now d user argument) where
  -- the step that has the argument as a new element comes before the one with the argument
  argument_before : (task : Task) (lent : Context) (n : ℕ) → IsScene task lent scene → (h : Hope task lent n d) → IsBefore h.fires h.indices low user
  argument_before task lent n s h =
      let lower = both_at (IsStep task lent) d.steps h.plan.steps h.keeps.steps_are low kept low_is in
      let upper = both_at (IsStep task lent) d.steps h.plan.steps h.keeps.steps_are user a.step a.step_is in
      let step : Step = lower.0 in
      let later : Step = upper.0 in
      let forms : scene.forms.now ≡ task.forms = s.forms_are in
      let one : slice_get task.forms kept.form ≡ Some is.0 = ap (λ (fs : List Form). slice_get fs kept.form) (sym forms) ∙ is.1 in
      let two : slice_get task.forms a.step.form ≡ Some a.f = ap (λ (fs : List Form). slice_get fs a.step.form) (sym forms) ∙ a.f_is in
      let own : slice_get task.forms kept.form ≡ Some step.form = lower.2.form_is in
      let other : slice_get task.forms a.step.form ≡ Some later.form = upper.2.form_is in
      let form : is.0 ≡ step.form = cc in
      let form_later : a.f ≡ later.form = cc in
      let base : step.base ≡ kept.base = lower.2.base_is in
      let base_later : later.base ≡ a.step.base = upper.2.base_is in
      let universals : is.0.universals ≡ step.form.universals = ap (λ (f : Form). f.universals) form in
      let existentials : is.0.existentials ≡ step.form.existentials = ap (λ (f : Form). f.existentials) form in
      let universals_later : a.f.universals ≡ later.form.universals = ap (λ (f : Form). f.universals) form_later in
      let new : span.new ≡ kept.base + is.0.universals = is.3 in
      let end : span.end ≡ kept.base + is.0.universals + is.0.existentials = is.4 in
      let first : a.step.base ≤ a.variable = a.from in
      let last : a.variable < a.step.base + a.f.universals = a.below in
      creator task lent n d h low user step later lower.1 upper.1 argument (record { from = omega arith; below = omega arith }) a.variable (omega arith) (omega arith)
      (a.root_is.same h.values (agrees task lent n d h))

  -- the tie for it
  pub gets_before : (new : Drafted) → new ≡ d ⊎ (new ≡ with_tie (tie.Before low user) d) → GetsTies scene d new
  gets_before new (inl same) = record {
    more = [];
    new_is = same ∙ ap (λ (ts : List PlanTie.PlanTie). record d { ties = ts }) (sym (append-nil d.ties));
    hope = λ task lent n s h. subst (Hope task lent n) (sym same) h;
  }
  gets_before new (inr tied) = record {
    more = tie.Before low user ∷ [];
    new_is = tied;
    hope = λ task lent n s h. subst (Hope task lent n) (sym tied) (before_hope task lent n d h low user (argument_before task lent n s h));
  }

-- no tie
pub gets_none : (scene : Scene) (d : Drafted) → GetsTies scene d d
gets_none scene d = record {
  more = [];
  new_is = ap (λ (ts : List PlanTie.PlanTie). record d { ties = ts }) (sym (append-nil d.ties));
  hope = λ task lent n s h. h;
}

module _ (scene : Scene) (old now : Drafted) (g : GetsTies scene old now) where
  -- ties, and further ones
  pub gets_on : (new : Drafted) → GetsTies scene now new → GetsTies scene old new
  gets_on new k = record {
    more = g.more ++ k.more;
    new_is = k.new_is ∙ ap (λ (d : Drafted). record d { ties = d.ties ++ k.more }) g.new_is
        ∙ ap (λ (ts : List PlanTie.PlanTie). record old { ties = ts }) (append_assoc old.ties g.more k.more);
    hope = λ task lent n s h. k.hope task lent n s (g.hope task lent n s h);
  }

  -- a step still has its arguments
  pub argument_still : (forms : List Form) (user argument : ℕ) → HasArgument forms old user argument → HasArgument forms now user argument
  argument_still forms user argument a = subst (λ (d : Drafted). HasArgument forms d user argument) (sym g.new_is) (record {
    step = a.step;
    step_is = a.step_is;
    f = a.f;
    f_is = a.f_is;
    variable = a.variable;
    from = a.from;
    below = a.below;
    root_is = a.root_is;
  })

  -- and stands where it stood
  pub step_still : (user : ℕ) (kept : PlanStep) → slice_get old.steps user ≡ Some kept → slice_get now.steps user ≡ Some kept
  step_still user kept is = ap (λ (d : Drafted). slice_get d.steps user) g.new_is ∙ is

  -- the plan has grown
  pub gets_extend : Extends old now
  gets_extend = subst (Extends old) (sym g.new_is) (record {
    start = refl;
    bound = ([], sym (append-nil old.bound));
    fixed = ([], sym (append-nil old.fixed));
    steps = ([], sym (append-nil old.steps));
    nodes = ([], sym (append-nil old.nodes));
    ties = (g.more, refl);
    branches = ([], sym (append-nil old.branches));
    goals = ([], sym (append-nil old.goals));
    pairs = ([], sym (append-nil old.pairs));
  })
