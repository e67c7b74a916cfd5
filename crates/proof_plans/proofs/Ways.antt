-- A goal that stands in a proof stands in a way that is told, and a branch is closed in one.
use Rattle.std.proofs.Common.{◌≡◌, ◌≢◌, ℕ, suc, ◌+◌, ◌<◌, inl, inr, ⊎_elim, List, [], ◌∷◌, ◌++◌, map, length, slice_get, Some, refl, ap, sym, ◌∙◌, subst, arith}
use Rattle.std.specs.List.{AllByRecursion}
use Rattle.text_core.specs.Lists.{IsAmong}
use Rattle.logic_core.specs.Forms.{SlotIsBelow}
use Rattle.logic_core.specs.declared.form.Slot.{Slot}
use Rattle.logic_core.specs.declared.form.Slot.TheVariants.{Variable, Constant}
use Rattle.logic_core.specs.declared.form.Atom.{Atom}
use Rattle.vernacular_tree.specs.Carries.{image, HasElements}
use Rattle.vernacular_tree.specs.Contexts.{Task, slot_at, atom_at}
use Rattle.vernacular_tree.specs.Witnessed.{LineIsBelow}
use Rattle.vernacular_tree.specs.declared.context.Line.{Line}
use Rattle.vernacular_tree.specs.declared.context.Line.TheVariants.{Facts, Cases, Falsum}
use Rattle.vernacular_tree.specs.declared.context.Context.{Context}
use Rattle.proof_plans.specs.declared.draft.Node.{Node}
use Rattle.proof_plans.specs.declared.draft.PlanGoal.{PlanGoal}
use Rattle.proof_plans.specs.declared.choice.Choice as Choice
use Rattle.proof_plans.specs.declared.choice.Choice.TheVariants as choice
use Rattle.proof_plans.specs.Runs.{Case, given_lists, all_given, all_facts, root_of}
use Rattle.proof_plans.specs.Plans.{variables_of}
use Rattle.proof_plans.specs.Embeds.{Embeds}
use Rattle.proof_plans.specs.Moves.{split, with_branches}
use Rattle.proof_plans.specs.Drafts.{Drafted, IsStep, IsCase, IsBranch, IsReached, IsGoal, form_variables, with_goal, with_branch}
use Rattle.proof_plans.specs.Hopes.{Hope, Newest, GoalBy, Last, BranchBy}
use Rattle.text_core.proofs.Laws.{each_get}
use Rattle.proof_plans.proofs.Hoped.{both_last, both_get}
use Rattle.proof_plans.proofs.Reading.{mapped_get}
use Rattle.proof_plans.proofs.Guide as guide
use Rattle.proof_plans.proofs.Ends as ends

-- an item among others has a number
pub among_number : {X : Type 0} (x : X) (xs : List X) → IsAmong x xs → (k : ℕ) × (slice_get xs k ≡ Some x)
among_number x [] h = absurd h
among_number x (y ∷ ys) (inl same) = (0, ap Some same)
among_number x (y ∷ ys) (inr h) = let found = among_number x ys h in (suc found.0, found.1)

-- a fact of the context is one of a line
fact_line : (fact : Atom) (lines : List Line) → IsAmong fact (all_facts lines)
    → (line number : ℕ) × ((atoms : List Atom) × (slice_get lines line ≡ Some (Facts atoms)) × (slice_get atoms number ≡ Some fact))
fact_line fact [] h = absurd h
fact_line fact (Facts facts ∷ lines) h = ⊎_elim
    (λ own. let found = among_number fact facts own in (0, found.0, (facts, refl, found.1)))
    (λ rest. let found = fact_line fact lines rest in (suc found.0, found.1, (found.2.0, found.2.1, found.2.2)))
    (Rattle.text_core.proofs.Laws.among_append fact facts (all_facts lines) h)
fact_line fact (Cases lists ∷ lines) h = let found = fact_line fact lines h in (suc found.0, found.1, (found.2.0, found.2.1, found.2.2))
fact_line fact (Falsum ∷ lines) h = let found = fact_line fact lines h in (suc found.0, found.1, (found.2.0, found.2.1, found.2.2))

-- lists of the context are those of a line
given_line : (lists : List (List Atom)) (lines : List Line) → IsAmong lists (all_given lines)
    → (line : ℕ) × ((given : Line) × (slice_get lines line ≡ Some given) × IsAmong lists (given_lists given))
given_line lists [] h = absurd h
given_line lists (line ∷ lines) h = ⊎_elim
    (λ own. (0, (line, refl, own)))
    (λ rest. let found = given_line lists lines rest in (suc found.0, (found.1.0, found.1.1, found.1.2)))
    (Rattle.text_core.proofs.Laws.among_append lists (given_lists line) (all_given lines) h)

-- a fact of elements has no variables
ground_fact : (n : ℕ) (fact : Atom) → HasElements n fact → atom_at [] fact ≡ fact
ground_fact n fact low = ap (λ (args : List Slot). record { positive = fact.positive; symbol = fact.symbol; args = args }) (slots fact.args low)
  where
    slots : (ss : List Slot) → AllByRecursion (SlotIsBelow 0 n) ss → map (slot_at []) ss ≡ ss
    slots [] low = refl
    slots (Variable i ∷ ss) low = absurd (let no : i < 0 = low.0 in omega arith)
    slots (Constant c ∷ ss) low = ap (λ (l : List Slot). Constant c ∷ l) (slots ss low.1)

module _ (task : Task) (lent : Context) (nodes : List Node) where
  -- a branch above another one has a number, which is reached
  climb_to : (front : List Case) (case : Case) (upper : List Case) (number : ℕ) → IsBranch task lent nodes number (front ++ case ∷ upper)
      → (at : ℕ) × IsReached nodes (length front) number at × IsBranch task lent nodes at (case ∷ upper)
  climb_to [] case upper number h = (number, refl, h)
  climb_to (c ∷ []) case upper number (inl h) = absurd (let e : c ∷ case ∷ upper ≡ root_of lent = h.1 in cc)
  climb_to (c ∷ d ∷ cs) case upper number (inl h) = absurd (let e : c ∷ d ∷ (cs ++ case ∷ upper) ≡ root_of lent = h.1 in cc)
  climb_to (c ∷ cs) case upper number (inr h) =
      let found = climb_to cs case upper h.0.parent h.4 in (found.0, (h.2, (h.0, h.1, found.1)), found.2)

module _ (task : Task) (lent : Context) (n : ℕ) (d : Drafted) (g : PlanGoal) (h : Hope task lent n (with_goal g d)) where
  newest : Newest task lent n d g h
  newest = let last = both_last (IsGoal task lent d.nodes) d.goals g h.plan.goals h.keeps.goals_are in record {
    rest = last.0;
    goal = last.1;
    goals_are = last.2;
    is = last.4;
  }

  by_fact : guide.ByFact h.constants task h.right lent h.ok.start h.fires h.run h.plan h.values h.indices h.left h.embeds newest.rest newest.goal newest.goals_are
      → (way : Choice.Choice) × GoalBy task lent n d g h way
  by_fact found =
      let up = climb_to task lent d.nodes found.front found.case found.upper g.node (subst (IsBranch task lent d.nodes g.node) found.branch_is newest.is.branch_is) in
      ⊎_elim (given up.0) (inner up.0 up.1 up.2) up.2
    where
      given : (at : ℕ) → (at ≡ 0) × (found.case ∷ found.upper ≡ root_of lent) → (way : Choice.Choice) × GoalBy task lent n d g h way
      given at root =
          let first : found.case ≡ record { number = 0; facts = all_facts lent.lines } = let e = root.1 in cc in
          let place = fact_line found.fact lent.lines (subst (IsAmong found.fact) (ap (λ (c : Case). c.facts) first) found.among) in
          let below : LineIsBelow lent.elements (Facts place.2.0) = each_get (LineIsBelow lent.elements) lent.lines place.0 (Facts place.2.0) h.ok.lines place.2.1 in (
            choice.Given place.0 place.1,
            record {
              newest = newest;
              fact = record {
                atoms = place.2.0;
                variables = [];
                atom = found.fact;
                listed = (place.2.1, refl);
                atom_is = place.2.2;
                same = ap (image h.values) (ground_fact lent.elements found.fact (each_get (HasElements lent.elements) place.2.0 place.1 found.fact below place.2.2)) ∙ found.same;
              };
            },
          )

      inner : (at : ℕ) → IsReached d.nodes (length found.front) g.node at → IsBranch task lent d.nodes at (found.case ∷ found.upper)
          → ((node : Node) × (slice_get d.nodes at ≡ Some node) × (at ≢ 0) × IsCase task lent node found.case × IsBranch task lent d.nodes node.parent found.upper)
          → (way : Choice.Choice) × GoalBy task lent n d g h way
      inner at reached branch is =
          let case : IsCase task lent is.0 found.case = is.3 in
          let number = among_number found.fact (map (atom_at case.variables) case.atoms) (subst (IsAmong found.fact) case.facts_are found.among) in
          let atom = mapped_get (atom_at case.variables) case.atoms number.0 found.fact number.1 in (
            choice.Case at number.0,
            record {
              newest = newest;
              kept = is.0;
              kept_is = is.1;
              branch = found.case ∷ found.upper;
              branch_is = branch;
              count = length found.front;
              reached = reached;
              inner = is.2;
              fact = record {
                atoms = case.atoms;
                variables = case.variables;
                atom = atom.0;
                listed = case.listed;
                atom_is = atom.1;
                same = ap (image h.values) atom.2 ∙ found.same;
              };
              tie = λ user user_is. found.tie user (newest.is.user_is ∙ user_is);
            },
          )

  by_step : guide.ByStep h.constants task h.right lent h.ok.start h.fires h.run h.plan h.values h.indices h.left h.embeds newest.rest newest.goal newest.goals_are
      → (way : Choice.Choice) × GoalBy task lent n d g h way
  by_step found =
      let kept = both_get (IsStep task lent) d.steps h.plan.steps h.keeps.steps_are found.number found.step found.step_is in
      let list = guide.one_list (atom_at (variables_of found.step)) found.step.form.disjuncts found.facts found.one in
      let number = among_number found.fact (map (atom_at (variables_of found.step)) list.0) (subst (IsAmong found.fact) (sym list.2) found.among) in
      let atom = mapped_get (atom_at (variables_of found.step)) list.0 number.0 found.fact number.1 in (
        choice.Step found.number number.0,
        record {
          newest = newest;
          kept = kept.0;
          kept_is = kept.1;
          f = found.step.form;
          f_is = kept.2.form_is;
          one = ap length list.1;
          fact = record {
            atoms = list.0;
            variables = form_variables kept.0.base found.step.form;
            atom = atom.0;
            listed = (found.step.form, kept.2.form_is, ap (λ (ls : List (List Atom)). slice_get ls 0) list.1, refl);
            atom_is = atom.1;
            same = ap (λ (b : ℕ). image h.values (atom_at (form_variables b found.step.form) atom.0)) (sym kept.2.base_is) ∙ ap (image h.values) atom.2 ∙ found.same;
          };
          seen = found.seen;
          tie = λ user user_is. found.tie user (newest.is.user_is ∙ user_is);
        },
      )

  by_form : guide.ByForm h.constants task h.right lent h.ok.start h.fires h.run h.plan h.values h.indices h.left h.embeds newest.rest newest.goal newest.goals_are
      → (way : Choice.Choice) × GoalBy task lent n d g h way
  by_form found =
      let number = among_number found.atom found.atoms found.among in (
        choice.Form found.number number.0,
        record {
          newest = newest;
          f = found.form;
          f_is = found.form_is;
          one = ap length found.one;
          elements = found.elements;
          index = found.index;
          embeds = found.embeds;
          fact = record {
            atoms = found.atoms;
            variables = form_variables (lent.elements + length h.plan.bound) found.form;
            atom = found.atom;
            listed = (found.form, found.form_is, ap (λ (ls : List (List Atom)). slice_get ls 0) found.one, refl);
            atom_is = number.1;
            same = found.same;
          };
          seen = found.seen;
          tie = λ user user_is. found.tie user (newest.is.user_is ∙ user_is);
        },
      )

  -- the newest goal stands in some way
  pub goal_way : (way : Choice.Choice) × GoalBy task lent n d g h way
  goal_way = ⊎_elim by_fact (λ made. ⊎_elim by_step by_form made)
      (guide.guide h.constants task h.right lent h.ok.start h.fires h.run h.plan h.values h.indices h.left h.embeds newest.rest newest.goal newest.goals_are)

module _ (task : Task) (lent : Context) (n : ℕ) (d : Drafted) (node : ℕ) (h : Hope task lent n (with_branch node d)) where
  last : Last task lent n d node h
  last = let found = both_last (IsBranch task lent d.nodes) d.branches node h.plan.branches h.keeps.branches_are in record {
    rest = found.0;
    branch = found.1;
    branches_are = found.2;
    is = found.4;
  }

  by_answer : ends.ByAnswer h.constants task h.right lent h.ok h.fires h.run h.plan h.values h.indices h.left h.embeds last.rest last.branch last.branches_are
      → (way : Choice.Choice) × BranchBy task lent n d node h way
  by_answer found = (
    choice.Answer found.number,
    record {
      last = last;
      atoms = found.atoms;
      disjunct_is = found.disjunct_is;
      elements = found.elements;
      ends = found.ends;
      embeds = found.embeds;
      spent = found.spent;
    },
  )

  by_line : ends.ByLine h.constants task h.right lent h.ok h.fires h.run h.plan h.values h.indices h.left h.embeds last.rest last.branch last.branches_are
      → (way : Choice.Choice) × BranchBy task lent n d node h way
  by_line found =
      let line = given_line found.lists lent.lines found.given in (
        choice.Line line.0,
        record {
          last = last;
          given = line.1.0;
          line_is = line.1.1;
          lists = found.lists;
          lists_are = line.1.2;
          ends = found.ends;
          embeds = found.embeds;
          spent = found.spent;
        },
      )

  by_old : ends.ByOld h.constants task h.right lent h.ok h.fires h.run h.plan h.values h.indices h.left h.embeds last.rest last.branch last.branches_are
      → (way : Choice.Choice) × BranchBy task lent n d node h way
  by_old found =
      let kept = both_get (IsStep task lent) d.steps h.plan.steps h.keeps.steps_are found.number found.step found.step_is in (
        choice.Old found.number,
        record {
          last = last;
          kept = kept.0;
          kept_is = kept.1;
          f = found.step.form;
          f_is = kept.2.form_is;
          several = found.several;
          seen = found.seen;
          ends = found.ends;
          embeds = subst (λ (b : ℕ). Embeds task lent h.fires (split (map (map (atom_at (form_variables b found.step.form))) found.step.form.disjuncts) last.branch (with_branches last.rest h.plan)) h.values h.indices found.ends)
              kept.2.base_is found.embeds;
          spent = found.spent;
        },
      )

  by_new : ends.ByNew h.constants task h.right lent h.ok h.fires h.run h.plan h.values h.indices h.left h.embeds last.rest last.branch last.branches_are
      → (way : Choice.Choice) × BranchBy task lent n d node h way
  by_new found = (
    choice.New found.number,
    record {
      last = last;
      f = found.form;
      f_is = found.form_is;
      several = found.several;
      elements = found.elements;
      index = found.index;
      ends = found.ends;
      embeds = found.embeds;
      seen = found.seen;
      spent = found.spent;
    },
  )

  -- the newest branch is closed in some way
  pub branch_way : (way : Choice.Choice) × BranchBy task lent n d node h way
  branch_way = ⊎_elim by_answer (λ parted. ⊎_elim by_line (λ step. ⊎_elim by_old by_new step) parted)
      (ends.ways h.constants task h.right lent h.ok h.fires h.run h.plan h.values h.indices h.left h.embeds last.rest last.branch last.branches_are)
