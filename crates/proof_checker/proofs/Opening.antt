-- A script is accepted as a body exactly where it is open as the rule applications of this body.
use Rattle.std.proofs.Common.{◌≡◌, ℕ, inl, inr, Bool, true, false, List, [], ◌∷◌, ◌++◌, map, length, flat_map, refl, ap, sym, ◌∙◌, subst, arith}
use Rattle.std.specs.Prelude.{zip}
use Rattle.std.specs.List.{AllByRecursion}
use Rattle.std.proofs.lemmas.List.{map-append}
use Rattle.text_core.specs.Lists.{IsAmong}
use Rattle.text_core.proofs.Laws.{value_same, among_front, among_back}
use Rattle.logic_core.specs.declared.form.Atom.{Atom}
use Rattle.logic_core.specs.declared.form.Form.{Form}
use Rattle.vernacular_tree.specs.Preorders.{mp_node, end_nodes, preorder}
use Rattle.vernacular_tree.specs.Rules.{IsInstance, StepsThen, Closes}
use Rattle.vernacular_tree.specs.declared.context.Context.{Context}
use Rattle.vernacular_tree.specs.declared.tree.Mp.{Mp}
use Rattle.vernacular_tree.specs.declared.tree.Body.{Body}
use Rattle.vernacular_tree.specs.declared.tree.End as tree
use Rattle.vernacular_tree.specs.declared.tree.Node.{Node}
use Rattle.vernacular_tree.specs.declared.tree.Node.TheVariants as node
use Rattle.vernacular_tree.proofs.Rows.{Cs_nodes}
use Rattle.vernacular_tree.proofs.Trees.{preorder_once}
use Rattle.coherent_form.specs.Tasks.{CitedTask, proof_task}
use Rattle.proof_text.specs.declared.body.MpText.{MpText}
use Rattle.proof_text.specs.declared.body.EndText.{EndText, As, Efq, Gap, Cs', Row_of-CaseText, end_of-CaseText, more_of-CaseText}
use Rattle.proof_text.specs.Values.{Written}
use Rattle.proof_text.specs.Branches.{Branch, start_branch, after_step, with_case}
use Rattle.proof_text.specs.StandsFor.{AreCitedOnce, StepsStand, EndStands, CasesStand}
use Rattle.proof_checker.specs.Accepted.{IsAcceptedAs}
use Rattle.proof_checker.specs.Faults.{shown_in, CaseShows, IsFault}
use Rattle.proof_checker.specs.Opened.{StepsOpen, EndOpens, CasesOpen, Opens}
use Rattle.proof_checker.specs.Running.{step_node, Runs, rules_in}
use Rattle.proof_checker.specs.declared.open_node.OpenNode.{OpenNode}
use Rattle.proof_checker.specs.declared.open_node.OpenNode.TheVariants as open_node
use Rattle.proof_checker.specs.declared.refusal.StepRefusal.{StepRefusal}
use Rattle.proof_checker.proofs.Branching.{BodiesProve, bodies_many, Cs_closes, closes_Cs}
use Rattle.proof_checker.proofs.OneFault.{opens_none}
use Rattle.proof_checker.proofs.OneList.{cases_one, opens_one}
use Rattle.proof_checker.proofs.Running.{run_stand, run_then}

-- nodes without a gap
abbrev closed : List Node → List OpenNode
closed nodes = map open_node.Rule nodes

-- the rule applications among them
pub closed_rules : (nodes : List Node) → rules_in (closed nodes) ≡ nodes
closed_rules [] = refl
closed_rules (rule ∷ nodes) = ap (λ (ns : List Node). rule ∷ ns) (closed_rules nodes)

-- the rule applications among nodes and one more
pub rules_last : (nodes : List OpenNode) (rule : Node) → rules_in (nodes ++ open_node.Rule rule ∷ []) ≡ rules_in nodes ++ rule ∷ []
rules_last [] rule = refl
rules_last (open_node.Rule first ∷ nodes) rule = ap (λ (ns : List Node). first ∷ ns) (rules_last nodes rule)
rules_last (open_node.Gap within ∷ nodes) rule = rules_last nodes rule

-- the rule applications among nodes and a gap
pub rules_gap : (nodes : List OpenNode) (within : ℕ) → rules_in (nodes ++ open_node.Gap within ∷ []) ≡ rules_in nodes
rules_gap [] within = refl
rules_gap (open_node.Rule first ∷ nodes) within = ap (λ (ns : List Node). first ∷ ns) (rules_gap nodes within)
rules_gap (open_node.Gap other ∷ nodes) within = rules_gap nodes within

-- steps and what is behind them
closed_steps : (steps : List Mp) (ends : List Node) → map step_node steps ++ closed ends ≡ closed (map mp_node steps ++ ends)
closed_steps [] ends = refl
closed_steps (step ∷ steps) ends = ap (λ (ns : List OpenNode). step_node step ∷ ns) (closed_steps steps ends)

module _ (task : CitedTask) where
  -- there are as many cases as lists
  cases_many : {n : _} (cases : Row_of-CaseText n) (bodies : List Body) (lists : List (List Atom)) (branch : Branch)
      → CasesStand task cases bodies lists branch → length (shown_in cases) ≡ length lists
  cases_many end_of-CaseText bodies lists branch stand = sym (ap length stand.1)
  cases_many (more_of-CaseText shown steps end rest) bodies lists branch (body, others, facts, more, bodies_are, lists_are, shows, stands, standing) =
      let tail : length (shown_in rest) ≡ length more = cases_many rest others more branch standing in
      let total : length lists ≡ length (facts ∷ more) = ap length lists_are in
      omega arith

  -- each case shows its list
  cases_show : {n : _} (cases : Row_of-CaseText n) (bodies : List Body) (lists : List (List Atom)) (branch : Branch)
      → CasesStand task cases bodies lists branch → AllByRecursion (CaseShows task branch) (zip (shown_in cases) lists)
  cases_show end_of-CaseText bodies lists branch stand = tt
  cases_show (more_of-CaseText shown steps end rest) bodies lists branch (body, others, facts, more, bodies_are, lists_are, shows, stands, standing) =
      subst (λ (xs : List (List Atom)). AllByRecursion (CaseShows task branch) (zip (shown ∷ shown_in rest) xs)) (sym lists_are)
      (shows, cases_show rest others more branch standing)

  -- steps that stand and may be taken are open, where what is behind them is
  steps_open : (texts : List MpText) (steps : List Mp) (ends : List Node) (P : Branch → Type 0) (Q : Context → Type 0) (R : List OpenNode → Branch → Type 0)
      → ((branch : Branch) → P branch → Q branch.context → R (closed ends) branch)
      → (branch : Branch) → StepsStand task texts steps P branch → StepsThen (proof_task task) steps Q branch.context
      → StepsOpen task texts R (closed (map mp_node steps ++ ends)) branch
  steps_open [] [] ends P Q R go branch stand proved = go branch stand proved
  steps_open [] (step ∷ steps) ends P Q R go branch stand proved = absurd stand
  steps_open (text ∷ texts) [] ends P Q R go branch stand proved = absurd stand
  steps_open (text ∷ texts) (step ∷ steps) ends P Q R go branch (stands, rest) (form, form_is, instance, proved) =
      let same : form ≡ stands.form = value_same (sym form_is ∙ stands.is.form_is) in
      let taken = subst (λ (f : Form). IsInstance branch.context f step.args) same instance in
      let later = subst (λ (f : Form). StepsThen (proof_task task) steps Q (after_step branch f step.args text.fresh).context) same proved in (
        step,
        closed (map mp_node steps ++ ends),
        refl,
        stands,
        taken,
        steps_open texts steps ends P Q R go (after_step branch stands.form step.args text.fresh) rest later,
      )

  module _ (gaps : Bool) where
    mutual
      -- an end that stands and closes the branch is open
      end_opens : (end : EndText) (e : tree.End) (branch : Branch) → EndStands task end e branch → Closes (proof_task task) e branch.context
          → EndOpens task gaps end (closed (end_nodes e)) branch
      end_opens (As disjunct texts) e branch (args, is, stand) closes =
          (args, ap (λ (x : tree.End). closed (end_nodes x)) is, stand, subst (λ (x : tree.End). Closes (proof_task task) x branch.context) is closes)
      end_opens Efq e branch is closes =
          (ap (λ (x : tree.End). closed (end_nodes x)) is, subst (λ (x : tree.End). Closes (proof_task task) x branch.context) is closes)
      end_opens (Gap within) e branch stand closes = absurd stand
      end_opens (Cs' line _ cases) e branch (bodies, lists, is, line_is, stand) closes =
          let proved = Cs_closes (proof_task task) line bodies branch.context (subst (λ (x : tree.End). Closes (proof_task task) x branch.context) is closes) in
          let same : proved.0 ≡ lists = cases_one branch.context.lines line proved.0 lists proved.1 line_is in
          let prove = subst (λ lists. BodiesProve (proof_task task) bodies lists branch.context) same proved.2 in
          let many : length bodies ≡ length lists = bodies_many (proof_task task) bodies lists branch.context prove in (
            lists,
            closed (flat_map preorder bodies),
            ap (λ (x : tree.End). closed (end_nodes x)) is ∙ ap closed (Cs_nodes line bodies)
                ∙ ap (λ (k : ℕ). open_node.Rule (node.Cs line k) ∷ closed (flat_map preorder bodies)) many,
            record { line_is = line_is; as_many = cases_many cases bodies lists branch stand; shows = cases_show cases bodies lists branch stand },
            cases_open cases bodies lists branch stand prove,
          )

      -- cases that stand and are proved are open
      cases_open : {n : _} (cases : Row_of-CaseText n) (bodies : List Body) (lists : List (List Atom)) (branch : Branch)
          → CasesStand task cases bodies lists branch → BodiesProve (proof_task task) bodies lists branch.context
          → CasesOpen task gaps cases lists (closed (flat_map preorder bodies)) branch
      cases_open end_of-CaseText bodies lists branch stand proved = ap (λ (bs : List Body). closed (flat_map preorder bs)) stand.0
      cases_open (more_of-CaseText shown steps end rest) bodies [] branch (body, others, facts, more, bodies_are, lists_are, shows, stands, standing) proved = absurd (cc)
      cases_open (more_of-CaseText shown steps end rest) bodies (facts ∷ more) branch
          (body, others, first, later, bodies_are, lists_are, shows, stands, standing) proved =
          let prove = subst (λ (bs : List Body). BodiesProve (proof_task task) bs (facts ∷ more) branch.context) bodies_are proved in
          let both : prove.0 ∷ prove.1 ≡ facts ∷ more = sym prove.2 in
          let one : prove.0 ≡ facts = cc in
          let two : prove.1 ≡ more = cc in
          let three : first ≡ facts = cc in
          let four : later ≡ more = cc in
          let stand = subst (λ d. StepsStand task steps body.steps (EndStands task end body.end) (with_case branch d)) three stands in
          let taken = subst (λ d. StepsThen (proof_task task) body.steps (Closes (proof_task task) body.end) (with_case branch d).context) one prove.3 in (
            closed (preorder body),
            closed (flat_map preorder others),
            ap (λ (bs : List Body). closed (flat_map preorder bs)) bodies_are ∙ map-append open_node.Rule (preorder body) (flat_map preorder others),
            steps_open steps body.steps (end_nodes body.end) (EndStands task end body.end) (Closes (proof_task task) body.end) (EndOpens task gaps end)
                (end_opens end body.end) (with_case branch facts) stand taken,
            cases_open rest others more branch (subst (λ ds. CasesStand task rest others ds branch) four standing)
                (subst (λ ds. BodiesProve (proof_task task) others ds branch.context) two prove.4),
          )

    -- a script that is accepted is open
    pub accepted_opens : (script : Written) (body : Body) → IsAcceptedAs task script body → Opens task gaps script (closed (preorder body))
    accepted_opens script body accepted = record {
      takes = accepted.stands.takes;
      body_is = steps_open script.body.steps body.steps (end_nodes body.end) (EndStands task script.body.end body.end) (Closes (proof_task task) body.end)
          (EndOpens task gaps script.body.end) (end_opens script.body.end body.end) (start_branch task script.take) accepted.stands.body_is accepted.proves;
    }

  -- steps that are open are taken, and what holds behind them
  record Ran (texts : List MpText) (P : List OpenNode → Branch → Type 0) (nodes : List OpenNode) (branch : Branch) : Type 0 where
    steps : List Mp
    rest : List OpenNode
    after : Branch
    nodes_are : nodes ≡ map step_node steps ++ rest
    run : Runs task texts steps branch after
    holds : P rest after

  steps_ran : (texts : List MpText) (P : List OpenNode → Branch → Type 0) (nodes : List OpenNode) (branch : Branch) → StepsOpen task texts P nodes branch
      → Ran texts P nodes branch
  steps_ran [] P nodes branch opens = record { steps = []; rest = nodes; after = branch; nodes_are = refl; run = refl; holds = opens }
  steps_ran (text ∷ texts) P nodes branch (step, rest, is, stands, instance, opens) =
      let later = steps_ran texts P rest (after_step branch stands.form step.args text.fresh) opens in record {
        steps = step ∷ later.steps;
        rest = later.rest;
        after = later.after;
        nodes_are = is ∙ ap (λ (ns : List OpenNode). step_node step ∷ ns) later.nodes_are;
        run = (stands, instance, later.run);
        holds = later.holds;
      }

  module _ (gaps : Bool) where
    -- no gap is among nodes, or none may stand
    abbrev pub HasNoGap : List OpenNode → Type 0
    HasNoGap nodes = (within : ℕ) → gaps ≡ true → IsAmong (open_node.Gap within) nodes → ⊥

    none_front : (nodes first others : List OpenNode) → nodes ≡ first ++ others → HasNoGap nodes → HasNoGap first
    none_front nodes first others is none within may among =
        none within may (subst (λ (ns : List OpenNode). IsAmong (open_node.Gap within) ns) (sym is) (among_front (open_node.Gap within) first others among))

    none_back : (nodes first others : List OpenNode) → nodes ≡ first ++ others → HasNoGap nodes → HasNoGap others
    none_back nodes first others is none within may among =
        none within may (subst (λ (ns : List OpenNode). IsAmong (open_node.Gap within) ns) (sym is) (among_back (open_node.Gap within) first others among))

    -- an end that stands for one, which closes the branch
    record EndShut (end : EndText) (nodes : List OpenNode) (branch : Branch) : Type 0 where
      shut : tree.End
      stands : EndStands task end shut branch
      closes : Closes (proof_task task) shut branch.context
      nodes_are : nodes ≡ closed (end_nodes shut)

    -- cases that stand for bodies, which are proofs
    record CasesShut {n : _} (cases : Row_of-CaseText n) (lists : List (List Atom)) (nodes : List OpenNode) (branch : Branch) : Type 0 where
      bodies : List Body
      stand : CasesStand task cases bodies lists branch
      prove : BodiesProve (proof_task task) bodies lists branch.context
      nodes_are : nodes ≡ closed (flat_map preorder bodies)

    mutual
      end_shut : (end : EndText) (nodes : List OpenNode) (branch : Branch) → HasNoGap nodes → EndOpens task gaps end nodes branch → EndShut end nodes branch
      end_shut (As disjunct texts) nodes branch none (args, is, stand, answer) =
          record { shut = tree.As disjunct args; stands = (args, refl, stand); closes = answer; nodes_are = is }
      end_shut Efq nodes branch none (is, falsum) = record { shut = tree.Efq; stands = refl; closes = falsum; nodes_are = is }
      end_shut (Gap within) nodes branch none (is, may) =
          absurd (none within may (subst (λ (ns : List OpenNode). IsAmong (open_node.Gap within) ns) (sym is) (inl refl)))
      end_shut (Cs' line _ cases) nodes branch none (lists, rest, is, split, opens) =
          let later = cases_shut cases lists rest branch (none_back nodes (open_node.Rule (node.Cs line (length lists)) ∷ []) rest is none) split.as_many split.shows opens in
          let many : length lists ≡ length later.bodies = sym (bodies_many (proof_task task) later.bodies lists branch.context later.prove) in
          record {
            shut = tree.Cs line later.bodies;
            stands = (later.bodies, lists, refl, split.line_is, later.stand);
            closes = closes_Cs (proof_task task) line later.bodies lists branch.context split.line_is later.prove;
            nodes_are = is ∙ (λ i. open_node.Rule (node.Cs line (many i)) ∷ later.nodes_are i) ∙ ap closed (sym (Cs_nodes line later.bodies));
          }

      cases_shut : {n : _} (cases : Row_of-CaseText n) (lists : List (List Atom)) (nodes : List OpenNode) (branch : Branch) → HasNoGap nodes
          → length (shown_in cases) ≡ length lists → AllByRecursion (CaseShows task branch) (zip (shown_in cases) lists)
          → CasesOpen task gaps cases lists nodes branch → CasesShut cases lists nodes branch
      cases_shut end_of-CaseText [] nodes branch none many shows opens = record { bodies = []; stand = (refl, refl); prove = refl; nodes_are = opens }
      cases_shut end_of-CaseText (facts ∷ more) nodes branch none many shows opens = absurd (omega (arith, many))
      cases_shut (more_of-CaseText shown steps end rest) [] nodes branch none many shows opens = absurd opens
      cases_shut (more_of-CaseText shown steps end rest) (facts ∷ more) nodes branch none many shows (first, others, is, opens, later) =
          let ran = steps_ran steps (EndOpens task gaps end) first (with_case branch facts) opens in
          let last = end_shut end ran.rest ran.after (none_back first (map step_node ran.steps) ran.rest ran.nodes_are (none_front nodes first others is none)) ran.holds in
          let tail = cases_shut rest more others branch (none_back nodes first others is none) (omega (arith, many)) shows.1 later in
          let body : Body = record { steps = ran.steps; end = last.shut } in
          let here : first ≡ closed (preorder body)
          = ran.nodes_are ∙ ap (λ (ns : List OpenNode). map step_node ran.steps ++ ns) last.nodes_are ∙ closed_steps ran.steps (end_nodes last.shut) in
          record {
            bodies = body ∷ tail.bodies;
            stand = (
              body,
              tail.bodies,
              facts,
              more,
              refl,
              refl,
              shows.0,
              run_stand task steps ran.steps (EndStands task end last.shut) (with_case branch facts) ran.after ran.run last.stands,
              tail.stand,
            );
            prove = (
              facts,
              more,
              refl,
              run_then task steps ran.steps (Closes (proof_task task) last.shut) (with_case branch facts) ran.after ran.run last.closes,
              tail.prove,
            );
            nodes_are = is ∙ (λ i. here i ++ tail.nodes_are i) ∙ sym (map-append open_node.Rule (preorder body) (flat_map preorder tail.bodies));
          }

    -- a script that is open without a gap is accepted
    pub opens_accepted : (script : Written) (nodes : List OpenNode) → HasNoGap nodes → Opens task gaps script nodes
        → (body : Body) × IsAcceptedAs task script body × (nodes ≡ closed (preorder body))
    opens_accepted script nodes none opens =
        let ran = steps_ran script.body.steps (EndOpens task gaps script.body.end) nodes (start_branch task script.take) opens.body_is in
        let last = end_shut script.body.end ran.rest ran.after (none_back nodes (map step_node ran.steps) ran.rest ran.nodes_are none) ran.holds in (
          record { steps = ran.steps; end = last.shut },
          record {
            stands = record {
              takes = opens.takes;
              body_is = run_stand task script.body.steps ran.steps (EndStands task script.body.end last.shut) (start_branch task script.take) ran.after ran.run last.stands;
            };
            proves = run_then task script.body.steps ran.steps (Closes (proof_task task) last.shut) (start_branch task script.take) ran.after ran.run last.closes;
          },
          ran.nodes_are ∙ ap (λ (ns : List OpenNode). map step_node ran.steps ++ ns) last.nodes_are ∙ closed_steps ran.steps (end_nodes last.shut),
        )

  -- where no gap may stand, there is none
  pub closed_accepted : (script : Written) (nodes : List OpenNode) → Opens task false script nodes
      → (body : Body) × IsAcceptedAs task script body × (nodes ≡ closed (preorder body))
  closed_accepted script nodes opens = opens_accepted false script nodes (λ within may among. let bad : false ≡ true = may in cc) opens

  -- rule applications are no gaps
  rules_no_gap : (nodes : List Node) (within : ℕ) → IsAmong (open_node.Gap within) (closed nodes) → ⊥
  rules_no_gap [] within among = among
  rules_no_gap (rule ∷ nodes) within (inl here) = let bad : open_node.Rule rule ≡ open_node.Gap within = here in cc
  rules_no_gap (rule ∷ nodes) within (inr later) = rules_no_gap nodes within later

  -- two bodies with the same nodes are one
  nodes_once : (a b : Body) → closed (preorder a) ≡ closed (preorder b) → a ≡ b
  nodes_once a b same = preorder_once a b (sym (closed_rules (preorder a)) ∙ ap rules_in same ∙ closed_rules (preorder b))

  -- a script that is open as the rule applications of a body is accepted as the body
  pub rules_accepted : (gaps : Bool) (script : Written) (body : Body) → Opens task gaps script (closed (preorder body)) → IsAcceptedAs task script body
  rules_accepted gaps script body opens =
      let found = opens_accepted gaps script (closed (preorder body)) (λ within may among. rules_no_gap (preorder body) within among) opens in
      subst (IsAcceptedAs task script) (sym (nodes_once body found.0 found.2)) found.1

  module _ (once : AreCitedOnce task) where
    -- a script is accepted as one body
    pub accepted_one : (script : Written) (a b : Body) → IsAcceptedAs task script a → IsAcceptedAs task script b → a ≡ b
    accepted_one script a b x y = nodes_once a b (opens_one task once false script (closed (preorder a)) (closed (preorder b))
        (accepted_opens false script a x) (accepted_opens false script b y))

    -- a script that is accepted has no fault
    pub accepted_none : (script : Written) (body : Body) (a : StepRefusal) → IsAcceptedAs task script body → IsFault task script a → ⊥
    accepted_none script body a accepted fault = opens_none task once false script (closed (preorder body)) a (accepted_opens false script body accepted) fault
