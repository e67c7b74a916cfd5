-- In which part of a scene or of a plan a way is found.
use Rattle.std.proofs.Common.{◌≡◌, ◌≢◌, ℕ, ◌<◌, ◌⊎◌, inl, inr, List, ◌++◌, length, slice_get, Some, refl, ap, ◌∙◌, subst, arith}
use Rattle.std.proofs.lemmas.Option.{slice_get_within}
use Rattle.text_core.specs.Lists.{IsAmong}
use Rattle.logic_core.specs.declared.form.Atom.{Atom}
use Rattle.logic_core.specs.declared.form.Form.{Form}
use Rattle.vernacular_tree.specs.Contexts.{Task}
use Rattle.vernacular_tree.specs.declared.context.Context.{Context}
use Rattle.vernacular_tree.specs.declared.context.Line.{Line}
use Rattle.vernacular_tree.specs.declared.context.Line.TheVariants.{Facts}
use Rattle.proof_plans.specs.declared.choice.Choice as Choice
use Rattle.proof_plans.specs.declared.choice.Choice.TheVariants as choice
use Rattle.proof_plans.specs.declared.draft.ListOf as ListOf
use Rattle.proof_plans.specs.declared.draft.ListOf.TheVariants as list
use Rattle.proof_plans.specs.declared.draft.PlanGoal.{PlanGoal}
use Rattle.proof_plans.specs.declared.scene.Scene.{Scene}
use Rattle.proof_plans.specs.Runs.{given_lists}
use Rattle.proof_plans.specs.Plans.{Goal}
use Rattle.proof_plans.specs.Drafts.{Drafted, IsGoal, with_goal, with_branch}
use Rattle.proof_plans.specs.Choices.{numbered, Numbered}
use Rattle.proof_plans.specs.Ways.{IsByFacts, IsByGiven, IsByCase, IsByOne, IsByOld, IsByNew, IsSplitByLine, IsSplitting, IsSplitByNew, IsSplitByOld}
use Rattle.proof_plans.specs.Hopes.{Hope, FactIs, ByGiven, ByCase, ByStep, ByForm, GoalBy, BranchBy}
use Rattle.proof_plans.specs.Scenes.{IsAnswerForm, IsScene}
use Rattle.proof_plans.proofs.Hoped.{both_long}
use Rattle.proof_plans.proofs.Gathered.{one_item}

module _ (task : Task) (lent : Context) (n : ℕ) (d : Drafted) (scene : Scene) (shown : IsScene task lent scene) where
  module _ (g : PlanGoal) (atom : Atom) (alike : (goal : Goal) → IsGoal task lent d.nodes g goal → (goal.atom.positive ≡ atom.positive) × (goal.atom.symbol ≡ atom.symbol)) where
    -- a fact that stands for the goal has the sign and the symbol
    by_fact : (values : List ℕ) (goal : Goal) (of : ListOf.ListOf) (number : ℕ) (kind : Choice.Choice) → IsGoal task lent d.nodes g goal
        → (fact : FactIs task lent n d values goal of number) → IsByFacts atom fact.atoms kind (numbered kind number)
    by_fact values goal of number kind is fact = (
      number,
      record {
        fact = fact.atom;
        fact_is = fact.atom_is;
        by = record {
          way_is = refl;
          positive_is = ap (λ (f : Atom). f.positive) fact.same ∙ (alike goal is).0;
          symbol_is = ap (λ (f : Atom). f.symbol) fact.same ∙ (alike goal is).1;
        };
      },
    )

    -- a fact of a form that gives one list
    by_one : (values : List ℕ) (goal : Goal) (form base number : ℕ) (f : Form) (kind : Choice.Choice) → IsGoal task lent d.nodes g goal → slice_get task.forms form ≡ Some f → length f.disjuncts ≡ 1
        → FactIs task lent n d values goal (list.Disjunct form base 0) number → IsByOne atom scene.forms.now form kind (numbered kind number)
    by_one values goal form base number f kind is f_is one fact =
        let same : fact.listed.0 ≡ f = let p = fact.listed.1 in cc in record {
          f = f;
          f_is = ap (λ (fs : List Form). slice_get fs form) shown.forms_are ∙ f_is;
          facts = fact.atoms;
          one = one_item f.disjuncts fact.atoms one (subst (λ (x : Form). slice_get x.disjuncts 0 ≡ Some fact.atoms) same fact.listed.2);
          by = by_fact values goal (list.Disjunct form base 0) number kind is fact;
        }

    by_given : (h : Hope task lent n (with_goal g d)) (line number : ℕ) → ByGiven task lent n d g h line number → Numbered (IsByGiven atom scene.lines.now) (choice.Given line number)
    by_given h line number w = (
      line,
      record {
        given = Facts w.fact.atoms;
        given_is = ap (λ (ls : List Line). slice_get ls line) shown.lines_are ∙ w.fact.listed.0;
        by = record { facts = w.fact.atoms; line_is = refl; by = by_fact h.values w.newest.goal (list.Line line) number (choice.Given line 0) w.newest.is w.fact };
      },
    )

    by_case : (h : Hope task lent n (with_goal g d)) (node number : ℕ) → ByCase task lent n d g h node number → Numbered (IsByCase task lent atom d.nodes g.node) (choice.Case node number)
    by_case h node number w = (
      w.count,
      record {
        node = node;
        kept = w.kept;
        kept_is = w.kept_is;
        inner = w.inner;
        reached = w.reached;
        by = record {
          atoms = w.fact.atoms;
          variables = w.fact.variables;
          listed = w.fact.listed;
          by = by_fact h.values w.newest.goal w.kept.of number (choice.Case node 0) w.newest.is w.fact;
        };
      },
    )

    by_step : (h : Hope task lent n (with_goal g d)) (step number : ℕ) → ByStep task lent n d g h step number → Numbered (IsByOld atom scene.forms.now d.steps) (choice.Step step number)
    by_step h step number w = (
      step,
      record {
        kept = w.kept;
        kept_is = w.kept_is;
        by = by_one h.values w.newest.goal w.kept.form w.kept.base number w.f (choice.Step step 0) w.newest.is w.f_is w.one w.fact;
      },
    )

    by_form : (h : Hope task lent n (with_goal g d)) (form number : ℕ) → ByForm task lent n d g h form number → Numbered (IsByNew atom scene.forms.now) (choice.Form form number)
    by_form h form number w = (form, by_one (h.values ++ w.elements) w.newest.goal form _ number w.f (choice.Form form 0) w.newest.is w.f_is w.one w.fact)

    -- a goal stands by a line, by a case, by a step or by a form
    pub goal_offered : (way : Choice.Choice) → ((h : Hope task lent n (with_goal g d)) × GoalBy task lent n d g h way)
        → Numbered (IsByGiven atom scene.lines.now) way ⊎ (Numbered (IsByCase task lent atom d.nodes g.node) way ⊎ (Numbered (IsByOld atom scene.forms.now d.steps) way ⊎ Numbered (IsByNew atom scene.forms.now) way))
    goal_offered (choice.Given line number) w = inl (by_given w.0 line number w.1)
    goal_offered (choice.Case node number) w = inr (inl (by_case w.0 node number w.1))
    goal_offered (choice.Step step number) w = inr (inr (inl (by_step w.0 step number w.1)))
    goal_offered (choice.Form form number) w = inr (inr (inr (by_form w.0 form number w.1)))
    goal_offered (choice.Answer disjunct) w = absurd w.1
    goal_offered (choice.Line line) w = absurd w.1
    goal_offered (choice.Old step) w = absurd w.1
    goal_offered (choice.New form) w = absurd w.1

  -- a line that gives lists is none of facts
  no_facts : (given : Line) (lists : List (List Atom)) → IsAmong lists (given_lists given) → (facts : List Atom) → given ≢ Facts facts
  no_facts given lists among facts same = subst (λ (line : Line). IsAmong lists (given_lists line)) same among

  -- a form that gives no line of facts
  splitting : (form : ℕ) (f : Form) → slice_get task.forms form ≡ Some f → length f.disjuncts ≢ 1 → IsSplitting scene.forms.now form
  splitting form f f_is several = record { f = f; f_is = ap (λ (fs : List Form). slice_get fs form) shown.forms_are ∙ f_is; several = several }

  -- a branch is closed by a disjunct of the goal, by a line, by a new step or by a step
  pub branch_offered : (node : ℕ) (way : Choice.Choice) → ((h : Hope task lent n (with_branch node d)) × BranchBy task lent n d node h way)
      → ((disjunct : ℕ) × (disjunct < length scene.answers.now) × (way ≡ choice.Answer disjunct))
      ⊎ (Numbered (IsSplitByLine scene.lines.now) way ⊎ (Numbered (IsSplitByNew scene.forms.now) way ⊎ Numbered (IsSplitByOld scene.forms.now d.steps) way))
  branch_offered node (choice.Answer disjunct) w =
      let long = both_long (IsAnswerForm task) scene.answers.now task.goal.disjuncts shown.answers_are in
      let low = slice_get_within task.goal.disjuncts disjunct w.1.atoms w.1.disjunct_is in
      inl (disjunct, omega (arith, long, low), refl)
  branch_offered node (choice.Line line) w = inr (inl (
    line,
    record {
      given = w.1.given;
      given_is = ap (λ (ls : List Line). slice_get ls line) shown.lines_are ∙ w.1.line_is;
      no_facts = no_facts w.1.given w.1.lists w.1.lists_are;
      way_is = refl;
    },
  ))
  branch_offered node (choice.New form) w = inr (inr (inl (form, (splitting form w.1.f w.1.f_is w.1.several, refl))))
  branch_offered node (choice.Old step) w = inr (inr (inr (
    step,
    record { kept = w.1.kept; kept_is = w.1.kept_is; splitting = splitting w.1.kept.form w.1.f w.1.f_is w.1.several; way_is = refl },
  )))
  branch_offered node (choice.Given line number) w = absurd w.1
  branch_offered node (choice.Case other number) w = absurd w.1
  branch_offered node (choice.Step step number) w = absurd w.1
  branch_offered node (choice.Form form number) w = absurd w.1
