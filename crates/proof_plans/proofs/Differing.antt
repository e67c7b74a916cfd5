-- An application that makes something new has a premise whose two arguments differ wherever it would
-- make nothing new otherwise.
use Rattle.std.proofs.Common.{◌≡◌, ◌≢◌, ℕ, ◌+◌, ◌==◌, ◌⊎◌, inl, inr, Bool, true, false, not, List, [], ◌∷◌, ◌++◌, map, take, slice_get, slice_index, Some, refl, ap, sym, ◌∙◌, subst, arith}
use Rattle.std.proofs.lemmas.List.{append-nil, map-append}
use Rattle.std.specs.Bool.{beq}
use Rattle.std.specs.List.{AllByRecursion}
use Rattle.text_core.specs.Lists.{SomeOf}
use Rattle.text_core.proofs.Laws.{each_get, each_map, some_with, take_next, number_same}
use Rattle.logic_core.specs.Forms.{IsWellFormed, AtomIsBelow}
use Rattle.logic_core.specs.declared.form.Slot.{Slot}
use Rattle.logic_core.specs.declared.form.Slot.TheVariants.{Variable, Constant}
use Rattle.logic_core.specs.declared.form.Atom.{Atom}
use Rattle.logic_core.specs.declared.form.Form.{Form}
use Rattle.vernacular_tree.specs.Carries.{image}
use Rattle.vernacular_tree.specs.Contexts.{counted, slot_at, atom_at}
use Rattle.vernacular_tree.proofs.Numbers.{counted_length}
use Rattle.vernacular_tree.proofs.Images.{atom_at_image}
use Rattle.proof_plans.specs.declared.draft.GoalOf.TheVariants as goal_of
use Rattle.proof_plans.specs.declared.draft.PlanGoal.{PlanGoal}
use Rattle.proof_plans.specs.declared.draft.PlanStep.{PlanStep}
use Rattle.proof_plans.specs.declared.reach.Reached.{Reached}
use Rattle.proof_plans.specs.declared.scene.Scene.{Scene}
use Rattle.proof_plans.specs.Runs.{Fire, elements_of, lists_of, Has}
use Rattle.proof_plans.specs.Barren.{IsBarren}
use Rattle.proof_plans.specs.Plans.{variables_of}
use Rattle.proof_plans.specs.Drafts.{Drafted, AreAtomsOf, IsStep, form_variables}
use Rattle.proof_plans.specs.Idle.{Repeats, IsIdle}
use Rattle.proof_plans.specs.Signs.{MayDiffer, Differ, IsReached, IsUnmet}
use Rattle.proof_plans.proofs.Grown.{constants_fixed}
use Rattle.proof_plans.proofs.Rows.{each_images}
use Rattle.proof_plans.proofs.Steps.{step_at}
use Rattle.proof_plans.proofs.Tying.{both_at}

-- one more slot stands for the same element
pub slot_next : (values : List ℕ) (xs ys : List Slot) (k : ℕ) (x y : Slot) → slice_get xs k ≡ Some x → slice_get ys k ≡ Some y
    → map (slot_at values) (take k ys) ≡ map (slot_at values) (take k xs) → slot_at values y ≡ slot_at values x
    → map (slot_at values) (take (k + 1) ys) ≡ map (slot_at values) (take (k + 1) xs)
slot_next values xs ys k x y a b old same =
    let ends : map (slot_at values) (take k ys) ++ slot_at values y ∷ [] ≡ map (slot_at values) (take k xs) ++ slot_at values x ∷ []
    = λ i. old i ++ same i ∷ [] in
    ap (map (slot_at values)) (take_next ys k y b) ∙ map-append _ (take k ys) (y ∷ []) ∙ ends
    ∙ sym (ap (map (slot_at values)) (take_next xs k x a) ∙ map-append _ (take k xs) (x ∷ []))

-- atoms of one sign, one symbol and the same arguments are one fact
pub same_atoms : (values : List ℕ) (fact other : Atom) → not (beq fact.positive other.positive) ≡ false → fact.symbol ≡ other.symbol
    → map (slot_at values) other.args ≡ map (slot_at values) fact.args → atom_at values other ≡ atom_at values fact
same_atoms values fact other signs symbols args =
    let positive = one_sign fact.positive other.positive signs in
    λ i. record { positive = positive i; symbol = sym symbols i; args = args i }
  where
    one_sign : (p q : Bool) → not (beq p q) ≡ false → q ≡ p
    one_sign true true e = refl
    one_sign true false e = absurd (cc)
    one_sign false true e = absurd (cc)
    one_sign false false e = refl

-- two slots stand for one element, or not
same_at : (values : List ℕ) (s t : Slot) → (slot_at values s ≡ slot_at values t) ⊎ (slot_at values s ≢ slot_at values t)
same_at values s t = go s t
  where
    by_test : (a b : ℕ) (e : Bool) → (a == b) ≡ e → (Constant a ≡ Constant b) ⊎ (Constant a ≢ Constant b)
    by_test a b true e = inl (ap Constant (number_same a b e))
    by_test a b false e = inr (λ same. let equal : a ≡ b = cc in let t : (a == b) ≡ true = grind arith in cc)

    go : (s t : Slot) → (slot_at values s ≡ slot_at values t) ⊎ (slot_at values s ≢ slot_at values t)
    go (Variable i) (Variable k) = by_test (slice_index values i) (slice_index values k) (slice_index values i == slice_index values k) refl
    go (Variable i) (Constant d) = by_test (slice_index values i) d (slice_index values i == d) refl
    go (Constant c) (Variable k) = by_test c (slice_index values k) (c == slice_index values k) refl
    go (Constant c) (Constant d) = by_test c d (c == d) refl

module _ (fires : List Fire) (index : ℕ) (fire : Fire) (facts : List Atom) (premise : Atom) (made : List Atom) (idle : IsIdle fire.form facts premise)
    (lists : lists_of fire ≡ made ∷ []) (are : map (atom_at (elements_of fire)) facts ≡ made)
    (premises : AllByRecursion (λ atom. Has fires (atom_at fire.args atom) index fire.branch) fire.form.premises) where
  -- without new elements it has those of its arguments alone
  plain : elements_of fire ≡ fire.args
  plain = ap (λ (n : ℕ). fire.args ++ counted fire.first n) idle.none ∙ append-nil fire.args

  -- where the two arguments are one, it makes nothing new
  idle_barren : slot_at fire.args idle.left ≡ slot_at fire.args idle.right → IsBarren fires index fire
  idle_barren same = record {
    facts = made;
    one = lists;
    none = idle.none;
    stand = subst (AllByRecursion (λ fact. Has fires fact index fire.branch)) are
        (each_images (λ fact. Has fires fact index fire.branch) (atom_at (elements_of fire)) facts (each_map back facts idle.repeats));
  }
    where
      back : (fact : Atom) → Repeats idle.left idle.right fire.form.premises fact → Has fires (atom_at (elements_of fire) fact) index fire.branch
      back fact repeats =
          let some : SomeOf (λ p. atom_at fire.args p ≡ atom_at fire.args fact) fire.form.premises = repeats fire.args same in
          subst (λ (es : List ℕ). Has fires (atom_at es fact) index fire.branch) (sym plain)
          (some_with (λ p has equal. subst (λ (a : Atom). Has fires a index fire.branch) equal has) fire.form.premises premises some)

  -- so they differ where it makes something new
  pub idle_differs : (IsBarren fires index fire → ⊥) → Differ (map (slot_at fire.args) premise.args)
  idle_differs tight = by (same_at fire.args idle.left idle.right)
    where
      by : (slot_at fire.args idle.left ≡ slot_at fire.args idle.right) ⊎ (slot_at fire.args idle.left ≢ slot_at fire.args idle.right)
          → Differ (map (slot_at fire.args) premise.args)
      by (inl same) = absurd (tight (idle_barren same))
      by (inr differ) = (slot_at fire.args idle.left, slot_at fire.args idle.right, ap (map (slot_at fire.args)) idle.args_are, differ)

module _ (row : List Reached) (scene : Scene) (d : Drafted) (g : PlanGoal) (user : ℕ) (kept : PlanStep) (form : Form) (premise : Atom) (facts : List Atom)
    (of_is : g.of ≡ goal_of.Premises kept.form kept.base) (kept_is : slice_get d.steps user ≡ Some kept)
    (form_is : slice_get scene.forms.now kept.form ≡ Some form) (premise_is : slice_get form.premises g.number ≡ Some premise)
    (no : MayDiffer row premise → ⊥) (only : form.disjuncts ≡ facts ∷ []) (idle : IsIdle form facts premise) where
  -- a premise of a step, whose two arguments would have to differ, is none of the atoms that may stand
  pub difference_lacks : IsUnmet row scene d g
  difference_lacks task lent n is h goal goal_is stands reached =
      let s = both_at (IsStep task lent) d.steps h.plan.steps h.keeps.steps_are user kept kept_is in
      let found = step_at h.fires h.values h.plan.steps h.indices h.embeds.steps user s.0 s.1 in
      let fire : Fire = found.2.fire in
      let right = h.run.right found.0 fire found.2.is in
      let there : slice_get task.forms kept.form ≡ Some form = ap (λ (fs : List Form). slice_get fs kept.form) (sym is.forms_are) ∙ form_is in
      let told : Some s.0.form ≡ Some form = sym s.2.form_is ∙ there in
      let step_form : s.0.form ≡ form = cc in
      let fire_form : fire.form ≡ form = sym found.2.form_is ∙ step_form in
      let own : IsIdle fire.form facts premise = subst (λ (f : Form). IsIdle f facts premise) (sym fire_form) idle in
      let lists : lists_of fire ≡ map (atom_at (elements_of fire)) facts ∷ [] = ap (λ (f : Form). map (map (atom_at (elements_of fire))) f.disjuncts) fire_form ∙ ap (map (map (atom_at (elements_of fire)))) only in
      let differ = idle_differs h.fires found.0 fire facts premise (map (atom_at (elements_of fire)) facts) own lists refl right.premises (h.tight found.0 fire found.2.is) in
      let are : AreAtomsOf task lent (goal_of.Premises kept.form kept.base) goal_is.atoms goal_is.variables
      = subst (λ of. AreAtomsOf task lent of goal_is.atoms goal_is.variables) of_is goal_is.are in
      let one : Some are.0 ≡ Some form = sym are.1 ∙ there in
      let same : are.0 ≡ form = cc in
      let premises : goal_is.atoms ≡ form.premises = are.2 ∙ ap (λ (f : Form). f.premises) same in
      let atom_told : Some goal_is.atom ≡ Some premise = sym goal_is.atom_is ∙ ap (λ (atoms : List Atom). slice_get atoms g.number) premises ∙ premise_is in
      let atom_same : goal_is.atom ≡ premise = cc in
      let variables : goal_is.variables ≡ variables_of s.0
      = are.3 ∙ ap (form_variables kept.base) (same ∙ sym step_form) ∙ ap (λ (b : ℕ). form_variables b s.0.form) (sym s.2.base_is) in
      let formed : IsWellFormed h.constants form = each_get (IsWellFormed h.constants) task.forms kept.form form h.right.forms there in
      let low : AtomIsBelow form.universals h.constants premise = each_get (AtomIsBelow form.universals h.constants) form.premises g.number premise formed.premises premise_is in
      let count : form.universals ≡ s.0.form.universals + s.0.form.existentials
      = (let none = idle.none in omega (arith, none)) ∙ ap (λ (f : Form). f.universals + f.existentials) (sym step_form) in
      let below : AtomIsBelow (s.0.form.universals + s.0.form.existentials) h.constants premise = subst (λ (k : ℕ). AtomIsBelow k h.constants premise) count low in
      let image_is : image h.values goal.atom ≡ atom_at fire.args premise
      = ap (image h.values) (goal_is.goal_is ∙ ap (atom_at goal_is.variables) atom_same ∙ ap (λ (vs : List ℕ). atom_at vs premise) variables)
      ∙ atom_at_image h.constants (s.0.form.universals + s.0.form.existentials) (variables_of s.0) (counted_length s.0.base (s.0.form.universals + s.0.form.existentials)) h.values
      (constants_fixed h.constants task h.right lent h.ok.start h.fires h.run h.plan h.values h.indices h.left h.embeds) premise below
      ∙ ap (λ (es : List ℕ). atom_at es premise) (found.2.elements_are ∙ plain h.fires found.0 fire facts premise (map (atom_at (elements_of fire)) facts) own lists refl right.premises) in
      no ((subst (IsReached row) image_is reached).1 differ)
