-- What stands in a branch has a sign that is reached.
use Rattle.std.proofs.Common.{◌≡◌, ℕ, zero, suc, ◌<◌, ◌≤◌, inl, inr, List, [], ◌∷◌, map, slice_get, Some, refl, ap, sym, ◌∙◌, subst, arith}
use Rattle.std.specs.List.{AllByRecursion}
use Rattle.text_core.specs.Lists.{SomeOf, IsAmong}
use Rattle.text_core.proofs.Laws.{each_append, each_back, each_get, each_map, each_member, some_back, some_with}
use Rattle.logic_core.specs.declared.form.Atom.{Atom}
use Rattle.logic_core.specs.declared.form.Slot.{Slot}
use Rattle.vernacular_tree.specs.Carries.{slot_image, image}
use Rattle.vernacular_tree.specs.Contexts.{Task, slot_at, atom_at}
use Rattle.vernacular_tree.specs.Tasks.{IsTask}
use Rattle.vernacular_tree.specs.declared.context.Line.{Line}
use Rattle.vernacular_tree.specs.declared.context.Context.{Context}
use Rattle.proof_plans.specs.declared.draft.Node.{Node}
use Rattle.proof_plans.specs.declared.draft.PlanGoal.{PlanGoal}
use Rattle.proof_plans.specs.declared.reach.Reached.{Reached}
use Rattle.proof_plans.specs.declared.scene.Scene.{Scene}
use Rattle.proof_plans.specs.Runs.{Case, Above, Fire, elements_of, Has, IsRun, line_facts, all_facts, root_of}
use Rattle.proof_plans.specs.Plans.{Goal}
use Rattle.proof_plans.specs.Embeds.{branch_image, GoalIs}
use Rattle.proof_plans.specs.Drafts.{Drafted, AreListed, IsCase, IsBranch, IsGoal, with_goal}
use Rattle.proof_plans.specs.Hopes.{Hope}
use Rattle.proof_plans.specs.Scenes.{IsScene, Reads}
use Rattle.proof_plans.specs.Barren.{IsTight}
use Rattle.proof_plans.specs.Signs.{MayStand, Differ, IsReached, PremiseReached, IsKept, LineReached, CaseReached, IsUnmet}
use Rattle.proof_plans.proofs.Seen.{above_on}
use Rattle.proof_plans.proofs.Guide.{one_list}
use Rattle.proof_plans.proofs.Hoped.{both_last}
use Rattle.proof_plans.proofs.Differing.{idle_differs}
use Rattle.proof_plans.proofs.Rows.{each_images}

-- two slots whose images differ differ
pub differ_back : (f : Slot → Slot) (args : List Slot) → Differ (map f args) → Differ args
differ_back f [] d = absurd (let e = d.2 in cc)
differ_back f (s ∷ []) d = absurd (let e = d.2 in cc)
differ_back f (s ∷ t ∷ []) d = (s, t, refl, (λ same. let e = d.2 in let both : f s ≡ f t = ap f same in let equal : d.0 ≡ d.1 = cc in d.3 equal))
differ_back f (s ∷ t ∷ u ∷ ss) d = absurd (let e = d.2 in cc)

module _ (row : List Reached) where
  -- an atom is reached at elements, and at others, where it is
  pub reached_at : (values : List ℕ) (atom : Atom) → IsReached row atom → IsReached row (atom_at values atom)
  reached_at values atom h = (h.0, λ d. h.1 (differ_back (slot_at values) atom.args d))

  pub reached_image : (values : List ℕ) (atom : Atom) → IsReached row atom → IsReached row (image values atom)
  reached_image values atom h = (h.0, λ d. h.1 (differ_back (slot_image values) atom.args d))

  -- the facts of lines are reached where those of each are
  lines_all : (lines : List Line) → AllByRecursion (LineReached row) lines → AllByRecursion (IsReached row) (all_facts lines)
  lines_all [] h = tt
  lines_all (line ∷ lines) h = each_append (IsReached row) (line_facts line) (all_facts lines) h.0 (lines_all lines h.1)

  -- the images of the facts of cases have the same signs
  branch_reached : (values : List ℕ) (branch : List Case) → AllByRecursion (CaseReached row) branch → AllByRecursion (CaseReached row) (branch_image values branch)
  branch_reached values [] h = tt
  branch_reached values (case ∷ branch) h = (each_images (IsReached row) (image values) case.facts (each_map (reached_image values) case.facts h.0), branch_reached values branch h.1)

  -- the branch in which a proof begins has reached cases where the lines have
  pub root_reached : (lent : Context) → AllByRecursion (LineReached row) lent.lines → (branch : List Case) → branch ≡ root_of lent → AllByRecursion (CaseReached row) branch
  root_reached lent lines branch is = subst (AllByRecursion (CaseReached row)) (sym is) (lines_all lent.lines lines, tt)

  pub zero_reached : (task : Task) (lent : Context) (nodes : List Node) (node : ℕ) → node ≡ 0 → AllByRecursion (LineReached row) lent.lines → (branch : List Case)
      → IsBranch task lent nodes node branch → AllByRecursion (CaseReached row) branch
  zero_reached task lent nodes node root_is lines [] b = absurd b
  zero_reached task lent nodes node root_is lines (case ∷ upper) (inl root) = root_reached lent lines (case ∷ upper) root.1
  zero_reached task lent nodes node root_is lines (case ∷ upper) (inr b) = absurd (b.2 root_is)

  module _ (task : Task) (context : Context) (fires : List Fire) (run : IsRun task context fires) (tight : IsTight fires) (kept : AllByRecursion (IsKept row) task.forms)
      (branch : List Case) (cases : AllByRecursion (CaseReached row) branch) where
    -- what stands in a branch above has a sign that is reached
    pub has_reached : (count : ℕ) (fact : Atom) (limit : ℕ) (upper : List Case) → limit ≤ count → Above upper branch → Has fires fact limit upper → IsReached row fact
    has_reached count fact limit upper low above (inl given) =
        let some = some_back (λ case. IsAmong fact case.facts) above.0 upper given in
        let whole : SomeOf (λ case. IsAmong fact case.facts) branch = subst (SomeOf (λ case. IsAmong fact case.facts)) (sym above.1) some in
        some_with (λ case reached among. each_member (IsReached row) case.facts reached fact among) branch cases whole
    has_reached zero fact limit upper low above (inr made) = let before : made.index < limit = made.before in absurd (omega arith)
    has_reached (suc count) fact limit upper low above (inr made) =
        let fire : Fire = made.seen.fire in
        let right = run.right made.index fire made.seen.is in
        let down : Above fire.branch branch = above_on fire.branch upper branch made.seen.above above in
        let before : made.index < limit = made.before in
        let premises : AllByRecursion (λ atom. IsReached row (atom_at fire.args atom)) fire.form.premises
        = each_map (λ atom has. has_reached count (atom_at fire.args atom) made.index fire.branch (omega arith) down has) fire.form.premises right.premises in
        let list = one_list (atom_at (elements_of fire)) fire.form.disjuncts made.facts made.one in
        let needed : AllByRecursion (PremiseReached row fire.form list.0) fire.form.premises
        = each_map
        (λ atom reached. (
          reached.0,
          λ idle. reached.1
              (idle_differs fires made.index fire list.0 atom made.facts idle made.one list.2 right.premises (tight made.index fire made.seen.is)),
        ))
        fire.form.premises premises in
        let facts = each_get (IsKept row) task.forms fire.number fire.form kept right.form_is list.0 list.1 needed in
        let all : AllByRecursion (IsReached row) made.facts
        = subst (AllByRecursion (IsReached row)) list.2 (each_images (IsReached row) (atom_at (elements_of fire)) list.0 (each_map (reached_at (elements_of fire)) list.0 facts)) in
        each_member (IsReached row) made.facts all fact made.among

  -- a goal whose sign may not stand is none of them
  pub sign_lacks : (scene : Scene) (d : Drafted) (g : PlanGoal) (read : Atom) (base : ℕ)
      → ((constants : ℕ) (task : Task) (lent : Context) (goal : Goal) → IsTask constants task → IsScene task lent scene → IsGoal task lent d.nodes g goal
      → Reads read base goal.atom)
      → (MayStand row read → ⊥) → IsUnmet row scene d g
  sign_lacks scene d g read base reads out task lent n is h goal goal_is stands reached =
      let told = reads h.constants task lent goal h.right is goal_is in
      out (subst (MayStand row) told.fact_is reached.0)

  -- a goal that is none of the atoms that may stand is one of no proof
  pub out_of_reach : (scene : Scene) (d : Drafted) (g : PlanGoal) → IsUnmet row scene d g
      → AllByRecursion (LineReached row) scene.lines.now → AllByRecursion (IsKept row) scene.forms.now
      → ((task : Task) (lent : Context) (branch : List Case) → IsScene task lent scene → AllByRecursion (LineReached row) lent.lines → IsBranch task lent d.nodes g.node branch
      → AllByRecursion (CaseReached row) branch)
      → (task : Task) (lent : Context) (n : ℕ) → IsScene task lent scene → Hope task lent n (with_goal g d) → ⊥
  out_of_reach scene d g unmet lines kept cases task lent n is h =
      let last = both_last (IsGoal task lent d.nodes) d.goals g h.plan.goals h.keeps.goals_are in
      let goal = last.1 in
      let stands : GoalIs h.fires h.values h.indices goal
      = (each_back (GoalIs h.fires h.values h.indices) last.0 (goal ∷ []) (subst (AllByRecursion (GoalIs h.fires h.values h.indices)) last.2 h.embeds.goals)).0 in
      let branch = cases task lent goal.branch is (subst (AllByRecursion (LineReached row)) is.lines_are lines) last.4.branch_is in
      let reached : IsReached row (image h.values goal.atom)
      = has_reached task lent h.fires h.run h.tight (subst (AllByRecursion (IsKept row)) is.forms_are kept) (branch_image h.values goal.branch) (branch_reached h.values goal.branch branch)
      stands.limit (image h.values goal.atom) stands.limit stands.branch (omega arith) stands.above stands.has in
      unmet task lent n is h goal last.4 stands reached

  -- the branch of a node has reached cases where its own and those above are
  pub node_reached : (task : Task) (lent : Context) (nodes : List Node) (node : ℕ) (kept : Node) (facts : List Atom) → slice_get nodes node ≡ Some kept
      → ((atoms : List Atom) (variables : List ℕ) → AreListed task lent kept.of atoms variables → facts ≡ atoms) → AllByRecursion (IsReached row) facts
      → AllByRecursion (LineReached row) lent.lines
      → ((upper : List Case) → IsBranch task lent nodes kept.parent upper → AllByRecursion (CaseReached row) upper)
      → (branch : List Case) → IsBranch task lent nodes node branch → AllByRecursion (CaseReached row) branch
  node_reached task lent nodes node kept facts kept_is listed reached lines above [] b = absurd b
  node_reached task lent nodes node kept facts kept_is listed reached lines above (case ∷ upper) (inl root) = root_reached lent lines (case ∷ upper) root.1
  node_reached task lent nodes node kept facts kept_is listed reached lines above (case ∷ upper) (inr b) =
      let one : Some b.0 ≡ Some kept = sym b.1 ∙ kept_is in
      let equal : b.0 ≡ kept = cc in
      let c : IsCase task lent kept case = subst (λ (k : Node). IsCase task lent k case) equal b.3 in
      let same : facts ≡ c.atoms = listed c.atoms c.variables c.listed in (
        subst (AllByRecursion (IsReached row)) (sym c.facts_are) (each_images (IsReached row) (atom_at c.variables) c.atoms (each_map (reached_at c.variables) c.atoms (subst (AllByRecursion (IsReached row)) same reached))),
        above upper (subst (λ (k : Node). IsBranch task lent nodes k.parent upper) equal b.4),
      )
