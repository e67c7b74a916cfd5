-- A branch of a plan that is a part of a proof is closed in place as the proof closes it.
use Rattle.std.proofs.Common.{◌≡◌, ℕ, zero, suc, ◌+◌, ◌<◌, inl, inr, Bool, true, false, ◌==◌, List, [], ◌∷◌, ◌++◌, map, length, replicate, slice_get, Some, None, Option, refl, ap, sym, ◌∙◌, subst, arith, length-append, append_assoc, append-nil}
use Rattle.std.proofs.lemmas.List.{length-map}
use Rattle.std.specs.Bool.{OnTrue}
use Rattle.std.specs.List.{AllByRecursion}
use Rattle.text_core.specs.Lists.{IsAmong}
use Rattle.logic_core.specs.Forms.{SlotIsBelow}
use Rattle.logic_core.specs.declared.form.Slot.{Slot}
use Rattle.logic_core.specs.declared.form.Slot.TheVariants.{Variable, Constant}
use Rattle.logic_core.specs.declared.form.Atom.{Atom}
use Rattle.logic_core.specs.declared.form.Form.{Form}
use Rattle.vernacular_tree.specs.Carries.{HasElements}
use Rattle.vernacular_tree.specs.Contexts.{Task, counted, parameters, slot_at, atom_at}
use Rattle.vernacular_tree.specs.Witnessed.{IsContext, LineIsBelow}
use Rattle.vernacular_tree.specs.declared.context.Line.{Line}
use Rattle.vernacular_tree.specs.declared.context.Line.TheVariants.{Facts, Cases, Falsum}
use Rattle.vernacular_tree.specs.declared.context.Context.{Context}
use Rattle.proof_plans.specs.declared.draft.PlanStep.{PlanStep}
use Rattle.proof_plans.specs.declared.draft.ListOf as ListOf
use Rattle.proof_plans.specs.declared.draft.ListOf.TheVariants as list
use Rattle.proof_plans.specs.declared.draft.Node.{Node}
use Rattle.proof_plans.specs.declared.draft.GoalOf as GoalOf
use Rattle.proof_plans.specs.declared.draft.GoalOf.TheVariants as goal_of
use Rattle.proof_plans.specs.declared.draft.PlanGoal.{PlanGoal}
use Rattle.proof_plans.specs.declared.draft.PlanTie as PlanTie
use Rattle.proof_plans.specs.declared.draft.PlanTie.TheVariants as tie
use Rattle.proof_plans.specs.Runs.{Case, given_lists}
use Rattle.proof_plans.specs.Plans.{Step, variables_of, Tie, before, under, over, Goal, Plan}
use Rattle.proof_plans.specs.Moves.{lists_in, next_step, goals_for, branches_for, grown, answered, split, tied, with_branches}
use Rattle.proof_plans.specs.Drafts.{Drafted, Both, form_variables, IsStep, IsCase, IsBranch, AreAtomsOf, IsGoal, IsTie, Keeps, goals_from, grown_draft, with_branch, with_tie}
use Rattle.proof_plans.specs.Hopes.{PairHolds, Hope, ByAnswer, ByLine, ByOld, ByNew}
use Rattle.proof_plans.specs.Scenes.{IsAnswerForm, Extends}
use Rattle.proof_plans.specs.Splits.{numbered_list, children_from, with_children, with_child, split_draft, answered_draft, IsAnsweredBy, IsSplitByLine, IsSplitByStep}
use Rattle.text_core.proofs.Laws.{each_get, get_front, get_behind}
use Rattle.proof_plans.proofs.Rows.{counted_more}
use Rattle.proof_plans.proofs.Moved.{tie_embeds}
use Rattle.proof_plans.proofs.Hoped.{both_append, both_map, both_get}
use Rattle.proof_plans.proofs.Reading.{mapped_get}

-- what follows where a call succeeds
pub on_success : {P Q : Type 0} (b : Bool) → OnTrue b P → (P → Q) → OnTrue b Q
on_success true h f = f h
on_success false h f = tt

-- a list that is not empty
pub some_item : {X : Type 0} (xs : List X) → false ≡ (length xs == 0) → 0 < length xs
some_item [] h = absurd (cc)
some_item (x ∷ xs) h = omega arith

-- one more branch of a split
children_more : (of : ListOf.ListOf) (node first count : ℕ) → children_from of node first (suc count)
    ≡ children_from of node first count ++ record { parent = node; of = numbered_list of (first + count) } ∷ []
children_more of node first zero = let same : first ≡ first + 0 = omega arith in ap (λ (k : ℕ). record { parent = node; of = numbered_list of k } ∷ []) same
children_more of node first (suc count) =
    let same : first + 1 + count ≡ first + suc count = omega arith in
    ap (λ (ns : List Node). record { parent = node; of = numbered_list of first } ∷ ns)
    (children_more of node (first + 1) count
    ∙ ap (λ (k : ℕ). children_from of node (first + 1) count ++ record { parent = node; of = numbered_list of k } ∷ []) same)

children_long : (of : ListOf.ListOf) (node first count : ℕ) → length (children_from of node first count) ≡ count
children_long of node first zero = refl
children_long of node first (suc count) = ap suc (children_long of node (first + 1) count)

-- one more branch is closed
abbrev pub closes_one : Drafted → Drafted
closes_one d = record d { closed = d.closed + 1 }

-- a draft with nodes and branches
abbrev with_parts : List Node → List ℕ → Drafted → Drafted
with_parts nodes branches d = record d { nodes = nodes; branches = branches }

pub with_children_more : (of : ListOf.ListOf) (node count : ℕ) (d : Drafted)
    → with_child (record { parent = node; of = numbered_list of count }) (with_children of node count d) ≡ with_children of node (count + 1) d
with_children_more of node count d =
    let child : Node = record { parent = node; of = numbered_list of count } in
    let one : count + 1 ≡ suc count = omega arith in
    let long = length-append d.nodes (children_from of node 0 count) in let own = children_long of node 0 count in
    let number : length (d.nodes ++ children_from of node 0 count) ≡ length d.nodes + count = omega arith in
    let zeroth : 0 + count ≡ count = omega arith in
    let nodes : (d.nodes ++ children_from of node 0 count) ++ child ∷ [] ≡ d.nodes ++ children_from of node 0 (count + 1)
    = append_assoc d.nodes (children_from of node 0 count) (child ∷ [])
    ∙ ap (λ (ns : List Node). d.nodes ++ ns) (sym (ap (children_from of node 0) one ∙ children_more of node 0 count
    ∙ ap (λ (k : ℕ). children_from of node 0 count ++ record { parent = node; of = numbered_list of k } ∷ []) zeroth)) in
    let branches : (d.branches ++ counted (length d.nodes) count) ++ length (d.nodes ++ children_from of node 0 count) ∷ [] ≡ d.branches ++ counted (length d.nodes) (count + 1)
    = append_assoc d.branches (counted (length d.nodes) count) (length (d.nodes ++ children_from of node 0 count) ∷ [])
    ∙ ap (λ (ns : List ℕ). d.branches ++ ns) (ap (λ (k : ℕ). counted (length d.nodes) count ++ k ∷ []) number ∙ sym (counted_more (length d.nodes) count)) in
    λ i. with_parts (nodes i) (branches i) d

-- no branch yet
pub with_children_none : (of : ListOf.ListOf) (node : ℕ) (d : Drafted) → d ≡ with_children of node 0 d
with_children_none of node d = λ i. with_parts (sym (append-nil d.nodes) i) (sym (append-nil d.branches) i) d

-- what grows at the ends of its parts, and once more
module _ (a b c : Drafted) (h : Extends a b) (k : Extends b c) where
  more_behind : {X : Type 0} (xs ys zs : List X) → ((more : List X) × (ys ≡ xs ++ more)) → ((more : List X) × (zs ≡ ys ++ more)) → (more : List X) × (zs ≡ xs ++ more)
  more_behind xs ys zs p q = (p.0 ++ q.0, q.1 ∙ ap (λ (l : List _). l ++ q.0) p.1 ∙ append_assoc xs p.0 q.0)

  pub extends_on : Extends a c
  extends_on = record {
    start = k.start ∙ h.start;
    bound = more_behind a.bound b.bound c.bound h.bound k.bound;
    fixed = more_behind a.fixed b.fixed c.fixed h.fixed k.fixed;
    steps = more_behind a.steps b.steps c.steps h.steps k.steps;
    nodes = more_behind a.nodes b.nodes c.nodes h.nodes k.nodes;
    ties = more_behind a.ties b.ties c.ties h.ties k.ties;
    branches = more_behind a.branches b.branches c.branches h.branches k.branches;
    goals = more_behind a.goals b.goals c.goals h.goals k.goals;
    pairs = more_behind a.pairs b.pairs c.pairs h.pairs k.pairs;
  }

-- nothing behind
abbrev same_list : {X : Type 0} (xs : List X) → (more : List X) × (xs ≡ xs ++ more)
same_list xs = ([], sym (append-nil xs))

-- a plan with more known of where a step stands, and with one more step
pub tie_extends : (kept : PlanTie.PlanTie) (d : Drafted) → Extends d (with_tie kept d)
tie_extends kept d = record {
  start = refl;
  bound = same_list d.bound;
  fixed = same_list d.fixed;
  steps = same_list d.steps;
  nodes = same_list d.nodes;
  ties = (kept ∷ [], refl);
  branches = same_list d.branches;
  goals = same_list d.goals;
  pairs = same_list d.pairs;
}

pub grown_extends : (number : ℕ) (form : Form) (node : ℕ) (d : Drafted) → Extends d (grown_draft number form node d)
grown_extends number form node d = record {
  start = refl;
  bound = (_, refl);
  fixed = (_, refl);
  steps = (_, refl);
  nodes = same_list d.nodes;
  ties = same_list d.ties;
  branches = same_list d.branches;
  goals = (_, refl);
  pairs = same_list d.pairs;
}

-- the last items go together, and those before them
pub both_ends : {X Y : Type 0} (P : X → Y → Type 0) (xs : List X) (x : X) (ys : List Y) (y : Y) → Both P (xs ++ x ∷ []) (ys ++ y ∷ []) → Both P xs ys × P x y
both_ends P [] x [] y h = (tt, h.0)
both_ends P [] x (z ∷ []) y h = absurd h.1
both_ends P [] x (z ∷ w ∷ ys) y h = absurd h.1
both_ends P (z ∷ []) x [] y h = absurd h.1
both_ends P (z ∷ w ∷ xs) x [] y h = absurd h.1
both_ends P (z ∷ xs) x (w ∷ ys) y h = let rest = both_ends P xs x ys y h.1 in ((h.0, rest.0), rest.1)

module _ (task : Task) (lent : Context) where
  module _ (nodes more : List Node) where
    -- a branch is kept so with more behind
    branch_grows : (number : ℕ) (branch : List Case) → IsBranch task lent nodes number branch → IsBranch task lent (nodes ++ more) number branch
    branch_grows number [] h = absurd h
    branch_grows number (case ∷ upper) (inl h) = inl h
    branch_grows number (case ∷ upper) (inr h) = inr (h.0, get_front nodes more number h.0 h.1, h.2, h.3, branch_grows h.0.parent upper h.4)

    goal_grows : (kept : PlanGoal) (goal : Goal) → IsGoal task lent nodes kept goal → IsGoal task lent (nodes ++ more) kept goal
    goal_grows kept goal h = record {
      atoms = h.atoms;
      variables = h.variables;
      atom = h.atom;
      are = h.are;
      atom_is = h.atom_is;
      goal_is = h.goal_is;
      user_is = h.user_is;
      branch_is = branch_grows kept.node goal.branch h.branch_is;
    }

    tie_grows : (kept : PlanTie.PlanTie) (known : Tie) → IsTie task lent nodes kept known → IsTie task lent (nodes ++ more) kept known
    tie_grows (tie.Before low high) (before lower upper) h = h
    tie_grows (tie.Before low high) (under step branch) h = absurd h
    tie_grows (tie.Before low high) (over step branch) h = absurd h
    tie_grows (tie.Under number node) (before lower upper) h = absurd h
    tie_grows (tie.Under number node) (under step branch) h = (h.0, branch_grows node branch h.1)
    tie_grows (tie.Under number node) (over step branch) h = absurd h
    tie_grows (tie.Over number node) (before lower upper) h = absurd h
    tie_grows (tie.Over number node) (under step branch) h = absurd h
    tie_grows (tie.Over number node) (over step branch) h = (h.0, branch_grows node branch h.1)

  -- a case with this number of a split
  abbrev IsNumbered : ListOf.ListOf → ℕ → ℕ → List Atom → Type 0
  IsNumbered of node number facts = IsCase task lent (record { parent = node; of = numbered_list of number }) (record { number = number; facts = facts })

  -- the branches of a split are kept so
  children_are : (all : List Node) (of : ListOf.ListOf) (node : ℕ) (branch : List Case) → IsBranch task lent all node branch → (lists : List (List Atom)) (nodes : List Node) (first done : ℕ)
      → first ≡ length nodes → 0 < first → all ≡ nodes ++ children_from of node done (length lists)
      → ((k number : ℕ) (facts : List Atom) → number ≡ done + k → slice_get lists k ≡ Some facts → IsNumbered of node number facts)
      → Both (IsBranch task lent all) (counted first (length lists)) (branches_for done lists branch)
  children_are all of node branch upper [] nodes first done long rooted whole cases = tt
  children_are all of node branch upper (facts ∷ lists) nodes first done long rooted whole cases =
      let child : Node = record { parent = node; of = numbered_list of done } in
      let here : slice_get all first ≡ Some child
      = ap (λ (ns : List Node). slice_get ns first) whole ∙ ap (slice_get (nodes ++ child ∷ children_from of node (done + 1) (length lists))) long
      ∙ get_behind nodes child (children_from of node (done + 1) (length lists)) in
      let longer = length-append nodes (child ∷ []) in (
        inr (child, here, (λ none. absurd (omega arith)), cases 0 done facts (omega arith) refl, upper),
        children_are all of node branch upper lists (nodes ++ child ∷ []) (first + 1) (done + 1) (omega arith) (omega arith)
            (whole ∙ sym (append_assoc nodes (child ∷ []) (children_from of node (done + 1) (length lists))))
            (λ k number fs at is. cases (suc k) number fs (omega arith) is),
      )

  -- goals for atoms are kept so
  goals_are : (nodes : List Node) (of : GoalOf.GoalOf) (atoms : List Atom) (variables : List ℕ) → AreAtomsOf task lent of atoms variables → (user kept_user : Option ℕ) → user ≡ kept_user
      → (node : ℕ) (branch : List Case) → IsBranch task lent nodes node branch → (rest : List Atom) (done : ℕ)
      → ((k number : ℕ) (atom : Atom) → number ≡ done + k → slice_get rest k ≡ Some atom → slice_get atoms number ≡ Some atom)
      → Both (IsGoal task lent nodes) (goals_from of kept_user node done (length rest)) (goals_for user branch variables rest)
  goals_are nodes of atoms variables are user kept_user same node branch is [] done there = tt
  goals_are nodes of atoms variables are user kept_user same node branch is (atom ∷ rest) done there = (
    record {
      atoms = atoms;
      variables = variables;
      atom = atom;
      are = are;
      atom_is = there 0 done atom (omega arith) refl;
      goal_is = refl;
      user_is = same;
      branch_is = is;
    },
    goals_are nodes of atoms variables are user kept_user same node branch is rest (done + 1) (λ k number a at e. there (suc k) number a (omega arith) e),
  )

  module _ (d : Drafted) (plan : Plan) where
    -- the plan without its newest branch
    rest_keeps : (node : ℕ) → Keeps task lent (with_branch node d) plan → (rest : List (List Case)) (branch : List Case) → plan.branches ≡ rest ++ branch ∷ []
        → Keeps task lent d (with_branches rest plan)
    rest_keeps node k rest branch are = record {
      start_is = k.start_is;
      bound_is = k.bound_is;
      fixed_is = k.fixed_is;
      steps_are = k.steps_are;
      ties_are = k.ties_are;
      branches_are = (both_ends (IsBranch task lent d.nodes) d.branches node rest branch
          (subst (λ (bs : List (List Case)). Both (IsBranch task lent d.nodes) (d.branches ++ node ∷ []) bs) are k.branches_are)).0;
      closed_is = k.closed_is;
      goals_are = k.goals_are;
    }

    module _ (k : Keeps task lent d plan) where
      pub tie_keeps : (kept : PlanTie.PlanTie) (known : Tie) → IsTie task lent d.nodes kept known → Keeps task lent (with_tie kept d) (tied known plan)
      tie_keeps kept known is = record {
        start_is = k.start_is;
        bound_is = k.bound_is;
        fixed_is = k.fixed_is;
        steps_are = k.steps_are;
        ties_are = both_append (IsTie task lent d.nodes) d.ties plan.ties (kept ∷ []) (known ∷ []) k.ties_are (is, tt);
        branches_are = k.branches_are;
        closed_is = k.closed_is;
        goals_are = k.goals_are;
      }

      pub base_is : d.start + length d.bound ≡ lent.elements + length plan.bound
      base_is = let s = k.start_is in let b : length d.bound ≡ length plan.bound = ap (length {A = ℕ}) k.bound_is in omega arith

      pub steps_long : length d.steps ≡ length plan.steps
      steps_long = go d.steps plan.steps k.steps_are
        where
          go : (xs : List PlanStep) (ys : List Step) → Both (IsStep task lent) xs ys → length xs ≡ length ys
          go [] [] h = refl
          go [] (y ∷ ys) h = absurd h
          go (x ∷ xs) [] h = absurd h
          go (x ∷ xs) (y ∷ ys) h = ap suc (go xs ys h.1)

      pub grown_keeps : (number : ℕ) (form : Form) → slice_get task.forms number ≡ Some form → (node : ℕ) (branch : List Case) → IsBranch task lent d.nodes node branch
          → Keeps task lent (grown_draft number form node d) (grown lent.elements number form branch plan)
      grown_keeps number form is node branch branch_is =
          let variables : form_variables (d.start + length d.bound) form ≡ variables_of (next_step lent.elements number form plan) = ap (λ (b : ℕ). form_variables b form) base_is in record {
            start_is = k.start_is;
            bound_is = λ i. k.bound_is i ++ variables i;
            fixed_is = ap (λ (fs : List Bool). fs ++ (replicate form.universals false ++ replicate form.existentials true)) k.fixed_is;
            steps_are = both_append (IsStep task lent) d.steps plan.steps (record { form = number; base = d.start + length d.bound } ∷ []) (next_step lent.elements number form plan ∷ []) k.steps_are
                (record { number_is = refl; form_is = is; base_is = sym base_is }, tt);
            ties_are = k.ties_are;
            branches_are = k.branches_are;
            closed_is = k.closed_is;
            goals_are = both_append (IsGoal task lent d.nodes) d.goals plan.goals
                (goals_from (goal_of.Premises number (d.start + length d.bound)) (Some (length d.steps)) node 0 (length form.premises))
                (goals_for (Some (length plan.steps)) branch (variables_of (next_step lent.elements number form plan)) form.premises) k.goals_are
                (goals_are d.nodes (goal_of.Premises number (d.start + length d.bound)) form.premises (variables_of (next_step lent.elements number form plan))
                (form, is, refl, sym variables) (Some (length plan.steps)) (Some (length d.steps)) (ap Some (sym steps_long)) node branch branch_is form.premises 0
                (λ j n atom at e. subst (λ (m : ℕ). slice_get form.premises m ≡ Some atom) (let same : j ≡ n = omega arith in same) e));
          }

      answered_keeps : (disjunct : ℕ) (atoms : List Atom) → slice_get task.goal.disjuncts disjunct ≡ Some atoms → (node : ℕ) (branch : List Case) → IsBranch task lent d.nodes node branch
          → Keeps task lent (answered_draft disjunct task.goal.existentials (length atoms) node d) (answered lent.elements task atoms branch plan)
      answered_keeps disjunct atoms is node branch branch_is =
          let g : ℕ = task.goal.existentials in
          let none : g ≡ g + 0 = omega arith in
          let numbers : counted (d.start + length d.bound) g ≡ counted (lent.elements + length plan.bound) (g + 0) = λ i. counted (base_is i) (none i) in
          let flags : replicate g false ≡ replicate g false ++ [] = sym (append-nil (replicate g false)) in
          let variables : parameters task ++ counted (d.start + length d.bound) g ≡ parameters task ++ counted (lent.elements + length plan.bound) g
          = ap (λ (b : ℕ). parameters task ++ counted b g) base_is in record {
            start_is = k.start_is;
            bound_is = λ i. k.bound_is i ++ numbers i;
            fixed_is = λ i. k.fixed_is i ++ flags i;
            steps_are = k.steps_are;
            ties_are = k.ties_are;
            branches_are = k.branches_are;
            closed_is = ap (λ (c : ℕ). c + 1) k.closed_is;
            goals_are = both_append (IsGoal task lent d.nodes) d.goals plan.goals
                (goals_from (goal_of.Disjunct disjunct (d.start + length d.bound)) None node 0 (length atoms))
                (goals_for None branch (parameters task ++ counted (lent.elements + length plan.bound) g) atoms) k.goals_are
                (goals_are d.nodes (goal_of.Disjunct disjunct (d.start + length d.bound)) atoms (parameters task ++ counted (lent.elements + length plan.bound) g)
                (is, sym variables) None None refl node branch branch_is atoms 0
                (λ j n atom at e. subst (λ (m : ℕ). slice_get atoms m ≡ Some atom) (let same : j ≡ n = omega arith in same) e));
          }

      split_keeps : 0 < length d.nodes → (of : ListOf.ListOf) (node : ℕ) (branch : List Case) → IsBranch task lent d.nodes node branch → (lists : List (List Atom))
          → ((number : ℕ) (facts : List Atom) → slice_get lists number ≡ Some facts → IsNumbered of node number facts)
          → Keeps task lent (split_draft of node (length lists) d) (split lists branch plan)
      split_keeps rooted of node branch branch_is lists cases =
          let more : List Node = children_from of node 0 (length lists) in record {
            start_is = k.start_is;
            bound_is = k.bound_is;
            fixed_is = k.fixed_is;
            steps_are = k.steps_are;
            ties_are = both_map (IsTie task lent d.nodes) (IsTie task lent (d.nodes ++ more)) (tie_grows d.nodes more) d.ties plan.ties k.ties_are;
            branches_are = both_append (IsBranch task lent (d.nodes ++ more)) d.branches plan.branches (counted (length d.nodes) (length lists)) (branches_for 0 lists branch)
                (both_map (IsBranch task lent d.nodes) (IsBranch task lent (d.nodes ++ more)) (branch_grows d.nodes more) d.branches plan.branches k.branches_are)
                (children_are (d.nodes ++ more) of node branch (branch_grows d.nodes more node branch branch_is) lists d.nodes (length d.nodes) 0 refl rooted refl
                (λ j number facts at e. cases number facts (subst (λ (m : ℕ). slice_get lists m ≡ Some facts) (let same : j ≡ number = omega arith in same) e)));
            closed_is = ap (λ (c : ℕ). c + 1) k.closed_is;
            goals_are = both_map (IsGoal task lent d.nodes) (IsGoal task lent (d.nodes ++ more)) (goal_grows d.nodes more) d.goals plan.goals k.goals_are;
          }

  -- a fact without variables is itself at none
  fact_at_none : (count : ℕ) (fact : Atom) → HasElements count fact → atom_at [] fact ≡ fact
  fact_at_none count fact h = ap (λ (args : List Slot). record { positive = fact.positive; symbol = fact.symbol; args = args }) (slots fact.args h)
    where
      slot : (s : Slot) → SlotIsBelow 0 count s → slot_at [] s ≡ s
      slot (Variable v) low = absurd (omega arith)
      slot (Constant c) low = refl

      slots : (ss : List Slot) → AllByRecursion (SlotIsBelow 0 count) ss → map (slot_at []) ss ≡ ss
      slots [] low = refl
      slots (s ∷ ss) low = let first = slot s low.0 in let rest = slots ss low.1 in cc

  facts_at_none : (count : ℕ) (facts : List Atom) → AllByRecursion (HasElements count) facts → map (atom_at []) facts ≡ facts
  facts_at_none count [] h = refl
  facts_at_none count (fact ∷ facts) h = let first = fact_at_none count fact h.0 in let rest = facts_at_none count facts h.1 in cc

  -- the cases of a split by a line
  line_cases : IsContext task lent → (line : ℕ) (lists : List (List Atom)) → slice_get lent.lines line ≡ Some (Cases lists) → (node number : ℕ) (facts : List Atom)
      → slice_get lists number ≡ Some facts → IsNumbered (list.Case line 0) node number facts
  line_cases ok line lists is node number facts at =
      let low : LineIsBelow lent.elements (Cases lists) = each_get (LineIsBelow lent.elements) lent.lines line (Cases lists) ok.lines is in
      let own : AllByRecursion (HasElements lent.elements) facts = each_get (AllByRecursion (HasElements lent.elements)) lists number facts low at in record {
        number_is = refl;
        atoms = facts;
        variables = [];
        listed = (lists, is, at, refl);
        facts_are = sym (facts_at_none lent.elements facts own);
      }

  given_cases : IsContext task lent → (line : ℕ) (given : Line) → slice_get lent.lines line ≡ Some given → (lists : List (List Atom)) → IsAmong lists (given_lists given)
      → (node number : ℕ) (facts : List Atom) → slice_get lists number ≡ Some facts → IsNumbered (list.Case line 0) node number facts
  given_cases ok line (Facts atoms) is lists among node number facts at = absurd among
  given_cases ok line (Cases own) is lists (inl same) node number facts at =
      line_cases ok line own is node number facts (subst (λ (ls : List (List Atom)). slice_get ls number ≡ Some facts) (sym same) at)
  given_cases ok line (Cases own) is lists (inr among) node number facts at = absurd among
  given_cases ok line Falsum is lists (inr among) node number facts at = absurd among
  given_cases ok line Falsum is lists (inl same) node number facts at =
      absurd (no_item number facts (subst (λ (ls : List (List Atom)). slice_get ls number ≡ Some facts) (sym same) at))
    where
      no_item : (number : ℕ) (facts : List Atom) → slice_get [] number ≡ Some facts → ⊥
      no_item number facts at = cc

  -- the cases of a split by a step
  step_cases : (form base : ℕ) (f : Form) → slice_get task.forms form ≡ Some f → (node number : ℕ) (facts : List Atom)
      → slice_get (map (map (atom_at (form_variables base f))) f.disjuncts) number ≡ Some facts → IsNumbered (list.Disjunct form base 0) node number facts
  step_cases form base f is node number facts at =
      let found = mapped_get (map (atom_at (form_variables base f))) f.disjuncts number facts at in record {
        number_is = refl;
        atoms = found.0;
        variables = form_variables base f;
        listed = (f, is, found.1, refl);
        facts_are = sym found.2;
      }

  module _ (n node : ℕ) (d : Drafted) (h : Hope task lent n (with_branch node d)) where
    answer_hopes : (disjunct : ℕ) (by : ByAnswer task lent n d node h disjunct) → d.pairs ≡ []
        → Hope task lent n (answered_draft disjunct task.goal.existentials (length by.atoms) node d)
    answer_hopes disjunct by none =
        let rest : Plan = with_branches by.last.rest h.plan in
        let keeps = rest_keeps d h.plan node h.keeps by.last.rest by.last.branch by.last.branches_are in record {
          constants = h.constants;
          right = h.right;
          ok = h.ok;
          plan = answered lent.elements task by.atoms by.last.branch rest;
          keeps = answered_keeps d rest keeps disjunct by.atoms by.disjunct_is node by.last.branch by.last.is;
          fires = h.fires;
          run = h.run;
          tight = h.tight;
          ended = h.ended;
          values = h.values ++ by.elements;
          indices = h.indices;
          left = by.ends;
          embeds = by.embeds;
          pairs = subst (AllByRecursion (PairHolds (h.values ++ by.elements))) (sym none) tt;
          small = let spent = by.spent in let small = h.small in omega arith;
        }

    -- the branch is closed by a disjunct of the goal
    pub answered_hope : (disjunct : ℕ) → ByAnswer task lent n d node h disjunct → d.pairs ≡ [] → (answers : List Form) → Both (IsAnswerForm task) answers task.goal.disjuncts
        → (new : Drafted) → IsAnsweredBy answers disjunct node d new → Hope task lent n new
    answered_hope disjunct by none answers are new is =
        let found = both_get (IsAnswerForm task) answers task.goal.disjuncts are disjunct by.atoms by.disjunct_is in
        let form : found.0 ≡ is.form = let a = found.1 in let b = is.form_is in cc in
        let own : IsAnswerForm task is.form by.atoms = subst (λ (f : Form). IsAnswerForm task f by.atoms) form found.2 in
        let variables : is.form.universals ≡ task.goal.existentials = own.variables_are in
        let mapped = ap (length {A = Atom}) (own.same 0) in
        let one = length-map is.form.premises (atom_at (counted 0 task.goal.existentials)) in
        let two = length-map by.atoms (atom_at (parameters task ++ counted 0 task.goal.existentials)) in
        let many : length is.form.premises ≡ length by.atoms = sym one ∙ mapped ∙ two in
        let whole : new ≡ answered_draft disjunct task.goal.existentials (length by.atoms) node d
        = is.new_is ∙ (λ i. answered_draft disjunct (variables i) (many i) node d) in
        subst (Hope task lent n) (sym whole) (answer_hopes disjunct by none)

    -- the branch is split by a line
    line_hopes : (line : ℕ) (by : ByLine task lent n d node h line) → 0 < length d.nodes → Hope task lent n (split_draft (list.Case line 0) node (length by.lists) d)
    line_hopes line by rooted =
        let rest : Plan = with_branches by.last.rest h.plan in
        let keeps = rest_keeps d h.plan node h.keeps by.last.rest by.last.branch by.last.branches_are in record {
          constants = h.constants;
          right = h.right;
          ok = h.ok;
          plan = split by.lists by.last.branch rest;
          keeps = split_keeps d rest keeps rooted (list.Case line 0) node by.last.branch by.last.is by.lists (given_cases h.ok line by.given by.line_is by.lists by.lists_are node);
          fires = h.fires;
          run = h.run;
          tight = h.tight;
          ended = h.ended;
          values = h.values;
          indices = h.indices;
          left = by.ends;
          embeds = by.embeds;
          pairs = h.pairs;
          small = let spent = by.spent in let small = h.small in omega arith;
        }

    pub line_hope : (line : ℕ) → ByLine task lent n d node h line → (lines : List Line) → lines ≡ lent.lines → (new : Drafted) → IsSplitByLine lines line node d new → Hope task lent n new
    line_hope line by lines are new is =
        let given : is.given ≡ by.given = let a = is.given_is in let b = by.line_is in cc in
        let many : length by.lists ≡ is.count = is.long by.lists (subst (λ (g : Line). IsAmong by.lists (given_lists g)) (sym given) by.lists_are) in
        let whole : new ≡ split_draft (list.Case line 0) node (length by.lists) d
        = is.new_is ∙ sym (ap (λ (count : ℕ). split_draft (list.Case line 0) node count d) many) in
        subst (Hope task lent n) (sym whole) (line_hopes line by is.rooted)

    -- the branch is split by a step
    old_hopes : (step : ℕ) (by : ByOld task lent n d node h step) → 0 < length d.nodes
        → Hope task lent n (split_draft (list.Disjunct by.kept.form by.kept.base 0) node (length by.f.disjuncts) (with_tie (tie.Over step node) d))
    old_hopes step by rooted =
        let branch : List Case = by.last.branch in
        let lists : List (List Atom) = map (map (atom_at (form_variables by.kept.base by.f))) by.f.disjuncts in
        let many : length lists ≡ length by.f.disjuncts = length-map by.f.disjuncts (map (atom_at (form_variables by.kept.base by.f))) in
        let rest : Plan = with_branches by.last.rest h.plan in
        let keeps = rest_keeps d h.plan node h.keeps by.last.rest branch by.last.branches_are in
        let known = tie_keeps d rest keeps (tie.Over step node) (over step branch) (refl, by.last.is) in
        let grown : Keeps task lent (split_draft (list.Disjunct by.kept.form by.kept.base 0) node (length lists) (with_tie (tie.Over step node) d)) (split lists branch (tied (over step branch) rest))
        = split_keeps (with_tie (tie.Over step node) d) (tied (over step branch) rest) known rooted (list.Disjunct by.kept.form by.kept.base 0) node branch by.last.is lists
        (step_cases by.kept.form by.kept.base by.f by.f_is node) in record {
          constants = h.constants;
          right = h.right;
          ok = h.ok;
          plan = split lists branch (tied (over step branch) rest);
          keeps = subst (λ (count : ℕ). Keeps task lent (split_draft (list.Disjunct by.kept.form by.kept.base 0) node count (with_tie (tie.Over step node) d))
              (split lists branch (tied (over step branch) rest))) many grown;
          fires = h.fires;
          run = h.run;
          tight = h.tight;
          ended = h.ended;
          values = h.values;
          indices = h.indices;
          left = by.ends;
          embeds = tie_embeds task lent h.fires (split lists branch rest) h.values h.indices by.ends by.embeds (over step branch) by.seen;
          pairs = h.pairs;
          small = let spent = by.spent in let small = h.small in omega arith;
        }

    pub old_hope : (step : ℕ) → ByOld task lent n d node h step → (kept : PlanStep) → slice_get d.steps step ≡ Some kept → (forms : List Form) → forms ≡ task.forms
        → (new : Drafted) → IsSplitByStep forms step kept.form kept.base node d new → Hope task lent n new
    old_hope step by kept there forms are new is =
        let same : kept ≡ by.kept = let a = by.kept_is in cc in
        let form : is.f ≡ by.f = let a : slice_get task.forms kept.form ≡ Some is.f = ap (λ (fs : List Form). slice_get fs kept.form) (sym are) ∙ is.form_is in
        let b : slice_get task.forms kept.form ≡ Some by.f = ap (λ (k : PlanStep). slice_get task.forms k.form) same ∙ by.f_is in cc in
        let whole : new ≡ split_draft (list.Disjunct by.kept.form by.kept.base 0) node (length by.f.disjuncts) (with_tie (tie.Over step node) d)
        = is.new_is ∙ (λ i. split_draft (list.Disjunct (same i).form (same i).base 0) node (length (form i).disjuncts) (with_tie (tie.Over step node) d)) in
        subst (Hope task lent n) (sym whole) (old_hopes step by is.rooted)

    -- the branch is split by a new step
    new_hopes : (form : ℕ) (by : ByNew task lent n d node h form) → d.pairs ≡ [] → 0 < length d.nodes
        → Hope task lent n (split_draft (list.Disjunct form (d.start + length d.bound) 0) node (length by.f.disjuncts) (with_tie (tie.Over (length d.steps) node) (grown_draft form by.f node d)))
    new_hopes form by none rooted =
        let branch : List Case = by.last.branch in
        let base : ℕ = d.start + length d.bound in
        let step : ℕ = length h.plan.steps in
        let of : ListOf.ListOf = list.Disjunct form base 0 in
        let rest : Plan = with_branches by.last.rest h.plan in
        let keeps = rest_keeps d h.plan node h.keeps by.last.rest branch by.last.branches_are in
        let base_same : base ≡ lent.elements + length h.plan.bound = base_is d rest keeps in
        let step_same : length d.steps ≡ step = steps_long d rest keeps in
        let lists : List (List Atom) = lists_in (next_step lent.elements form by.f h.plan) in
        let many : length lists ≡ length by.f.disjuncts = length-map by.f.disjuncts (map (atom_at (variables_of (next_step lent.elements form by.f h.plan)))) in
        let larger : Drafted = with_tie (tie.Over (length d.steps) node) (grown_draft form by.f node d) in
        let plan : Plan = tied (over step branch) (grown lent.elements form by.f branch rest) in
        let known : Keeps task lent larger plan
        = tie_keeps (grown_draft form by.f node d) (grown lent.elements form by.f branch rest) (grown_keeps d rest keeps form by.f by.f_is node branch by.last.is)
        (tie.Over (length d.steps) node) (over step branch) (sym step_same, by.last.is) in
        let cases : (number : ℕ) (facts : List Atom) → slice_get lists number ≡ Some facts → IsNumbered of node number facts
        = λ number facts at. step_cases form base by.f by.f_is node number facts
        (subst (λ (b : ℕ). slice_get (map (map (atom_at (form_variables b by.f))) by.f.disjuncts) number ≡ Some facts) (sym base_same) at) in
        let all : Keeps task lent (split_draft of node (length lists) larger) (split lists branch plan)
        = split_keeps larger plan known rooted of node branch by.last.is lists cases in record {
          constants = h.constants;
          right = h.right;
          ok = h.ok;
          plan = split lists branch plan;
          keeps = subst (λ (count : ℕ). Keeps task lent (split_draft of node count larger) (split lists branch plan)) many all;
          fires = h.fires;
          run = h.run;
          tight = h.tight;
          ended = h.ended;
          values = h.values ++ by.elements;
          indices = h.indices ++ by.index ∷ [];
          left = by.ends;
          embeds = tie_embeds task lent h.fires (split lists branch (grown lent.elements form by.f branch rest)) (h.values ++ by.elements) (h.indices ++ by.index ∷ []) by.ends by.embeds
              (over step branch) by.seen;
          pairs = subst (AllByRecursion (PairHolds (h.values ++ by.elements))) (sym none) tt;
          small = let spent = by.spent in let small = h.small in omega arith;
        }

    pub new_hope : (form : ℕ) → ByNew task lent n d node h form → d.pairs ≡ [] → (forms : List Form) → forms ≡ task.forms → (f : Form) → slice_get forms form ≡ Some f
        → (step base : ℕ) → step ≡ length d.steps → base ≡ d.start + length d.bound
        → (new : Drafted) → IsSplitByStep forms step form base node (grown_draft form f node d) new → Hope task lent n new
    new_hope form by none forms are f there step base step_is base_here new is =
        let own : slice_get forms form ≡ Some by.f = ap (λ (fs : List Form). slice_get fs form) are ∙ by.f_is in
        let first : f ≡ by.f = cc in
        let second : is.f ≡ by.f = let a = is.form_is in cc in
        let whole : new ≡ split_draft (list.Disjunct form (d.start + length d.bound) 0) node (length by.f.disjuncts) (with_tie (tie.Over (length d.steps) node) (grown_draft form by.f node d))
        = is.new_is ∙ (λ i. split_draft (list.Disjunct form (base_here i) 0) node (length (second i).disjuncts) (with_tie (tie.Over (step_is i) node) (grown_draft form (first i) node d))) in
        subst (Hope task lent n) (sym whole) (new_hopes form by none is.rooted)
