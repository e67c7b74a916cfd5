-- Steps that were taken one after another, and what is behind them.
use Rattle.std.proofs.Common.{◌≡◌, ℕ, Bool, zero, suc, ◌+◌, ◌<◌, ◌≤◌, inl, inr, List, [], ◌∷◌, ◌++◌, length, take, map, get_or, slice_get, Some, refl, ap, sym, ◌∙◌, subst, arith, append_assoc, append-nil, length-append}
use Rattle.std.proofs.lemmas.List.{map-append, length-map}
use Rattle.text_core.specs.Names.{Text}
use Rattle.text_core.proofs.Laws.{take_next}
use Rattle.vernacular_tree.specs.Rules.{IsInstance, StepsThen}
use Rattle.vernacular_tree.specs.declared.context.Context.{Context}
use Rattle.vernacular_tree.specs.declared.tree.Mp.{Mp}
use Rattle.coherent_form.specs.Tasks.{CitedTask, proof_task}
use Rattle.fact_store.specs.Facts as store
use Rattle.proof_text.specs.declared.body.MpText.{MpText}
use Rattle.proof_text.specs.declared.body.BodyText.{BodyText}
use Rattle.proof_text.specs.StandsFor.{StepStands, StepsStand}
use Rattle.proof_text.specs.Branches.{Branch, after_step}
use Rattle.proof_checker.specs.Faults.{IsRefusedAt, StepFault, StepsFault, EndFault}
use Rattle.proof_checker.specs.Kept.{Kept, IsKept, Grows, HasLine, branch_of, point_of, cut}
use Rattle.proof_checker.specs.Opened.{StepsOpen, EndOpens, BodyOpens}
use Rattle.proof_checker.specs.Running.{HaltsBy, RefusesBy, refusal_of, IsStep, step_node, Runs, StepsRun, BodyFault, Adds}
use Rattle.proof_checker.specs.declared.open_node.OpenNode.{OpenNode}
use Rattle.proof_checker.specs.declared.fact.HeldLine.{HeldLine}
use Rattle.proof_checker.specs.declared.halt.Halt as Halt
use Rattle.proof_checker.specs.declared.halt.Halt.TheVariants as halt
use Rattle.proof_checker.specs.declared.refusal.CheckRefusal as CheckRefusal
use Rattle.proof_checker.specs.declared.refusal.CheckRefusal.TheVariants as check
use Rattle.proof_checker.specs.declared.refusal.Rule as Rule
use Rattle.proof_checker.specs.declared.refusal.Rule.TheVariants as rule
use Rattle.proof_checker.specs.declared.refusal.StepRefusal.{StepRefusal}
use Rattle.proof_checker.specs.declared.refusal.Why.{Why}
use Rattle.proof_checker.proofs.Named.{item_read}

-- a step that stopped for one of these reasons is refused for one of them
pub refused_by : (P : Why → Type 0) (step : ℕ) (by : Rule.Rule) (stop : Halt.Halt) (refusal : CheckRefusal.CheckRefusal) → refusal ≡ refusal_of step by stop
    → HaltsBy P stop → RefusesBy (IsRefusedAt step by P) refusal
refused_by P step by (halt.Fault why) refusal is halts =
    subst (RefusesBy (IsRefusedAt step by P)) (sym is) (record { step_is = refl; rule_is = refl; why_is = halts })
refused_by P step by halt.Memory refusal is halts = subst (RefusesBy (IsRefusedAt step by P)) (sym is) tt

-- a refusal that is one of some is one of others
pub refuses_so : (P Q : StepRefusal → Type 0) → ((refusal : StepRefusal) → P refusal → Q refusal) → (told : CheckRefusal.CheckRefusal) → RefusesBy P told → RefusesBy Q told
refuses_so P Q more (check.Step refusal) h = more refusal h
refuses_so P Q more check.Memory h = tt

-- a branch has grown into itself
pub grows_none : (a : Kept) → Grows a a
grows_none a = record {
  names = [];
  lines = [];
  facts = [];
  names_are = sym (append-nil a.names);
  lines_are = sym (append-nil a.lines);
  facts_are = sym (append-nil a.facts);
  signed_is = refl;
}

-- a branch that has grown, and then further
pub grows_more : (a b c : Kept) → Grows a b → Grows b c → Grows a c
grows_more a b c x y = record {
  names = x.names ++ y.names;
  lines = x.lines ++ y.lines;
  facts = x.facts ++ y.facts;
  names_are = y.names_are ∙ ap (λ (ns : List Text). ns ++ y.names) x.names_are ∙ append_assoc a.names x.names y.names;
  lines_are = y.lines_are ∙ ap (λ (ls : List HeldLine). ls ++ y.lines) x.lines_are ∙ append_assoc a.lines x.lines y.lines;
  facts_are = y.facts_are ∙ ap (λ (fs : List store.Fact). fs ++ y.facts) x.facts_are ∙ append_assoc a.facts x.facts y.facts;
  signed_is = y.signed_is ∙ x.signed_is;
}

-- a branch with one more line has grown
pub line_grows : (line : HeldLine) (a b : Kept) → HasLine line a b → Grows a b
line_grows line a b has = record {
  names = [];
  lines = line ∷ [];
  facts = has.added;
  names_are = has.names_are ∙ sym (append-nil a.names);
  lines_are = has.lines_are;
  facts_are = has.facts_are;
  signed_is = has.signed_is;
}

-- the front of two lists, as long as the first
take_front : {X : Type 0} (xs ys zs : List X) → zs ≡ xs ++ ys → take (length xs) zs ≡ xs
take_front xs ys zs is = ap (take (length xs)) is ∙ front xs ys
  where
    front : {X : Type 0} (xs ys : List X) → take (length xs) (xs ++ ys) ≡ xs
    front [] ys = none ys
      where
        none : {X : Type 0} (ys : List X) → take 0 ys ≡ []
        none [] = refl
        none (y ∷ ys) = refl
    front (x ∷ xs) ys = ap (λ zs. x ∷ zs) (front xs ys)

-- a branch that has grown goes back to what it was
pub cut_back : (a b : Kept) → Grows a b → cut (point_of a) b ≡ a
cut_back a b grows = λ i. record {
  names = take_front a.names grows.names b.names grows.names_are i;
  lines = take_front a.lines grows.lines b.lines grows.lines_are i;
  facts = take_front a.facts grows.facts b.facts grows.facts_are i;
  falsum = a.falsum;
  signed = grows.signed_is i;
}

-- it has no fewer facts
pub grows_facts : (a b : Kept) → Grows a b → length a.facts ≤ length b.facts
grows_facts a b grows = let long = ap length grows.facts_are ∙ length-append a.facts grows.facts in omega (arith, long)

module _ (task : CitedTask) where
  -- no steps lead from a branch to itself
  pub run_none : (branch : Branch) → Runs task [] [] branch branch
  run_none branch = refl

  -- one more step
  run_last : (texts : List MpText) (steps : List Mp) (branch middle after : Branch) (text : MpText) (step : Mp) → Runs task texts steps branch middle
      → (stands : StepStands task middle text step) → IsInstance middle.context stands.form step.args
      → after_step middle stands.form step.args text.fresh ≡ after → Runs task (texts ++ text ∷ []) (steps ++ step ∷ []) branch after
  run_last [] [] branch middle after text step run stands instance is =
      subst (λ (b : Branch). Runs task (text ∷ []) (step ∷ []) b after) (sym run) (stands, instance, is)
  run_last [] (s ∷ steps) branch middle after text step run stands instance is = absurd run
  run_last (t ∷ texts) [] branch middle after text step run stands instance is = absurd run
  run_last (t ∷ texts) (s ∷ steps) branch middle after text step run stands instance is =
      (run.0, run.1, run_last texts steps (after_step branch run.0.form s.args t.fresh) middle after text step run.2 stands instance is)

  -- one more step, in a loop
  pub run_next : (texts : List MpText) (i : ℕ) (text : MpText) (steps longer : List Mp) (step : Mp) (old middle new : Kept) → i < length texts → text ≡ get_or texts i text
      → Runs task (take i texts) steps (branch_of old) (branch_of middle) → IsStep task text step middle new → longer ≡ steps ++ step ∷ []
      → Runs task (take (i + 1) texts) longer (branch_of old) (branch_of new)
  run_next texts i text steps longer step old middle new below is run here grown =
      let next : take (i + 1) texts ≡ take i texts ++ text ∷ [] = take_next texts i text (item_read texts i text below is) in
      subst (λ (ss : List Mp). Runs task (take (i + 1) texts) ss (branch_of old) (branch_of new)) (sym grown)
      (subst (λ (ts : List MpText). Runs task ts (steps ++ step ∷ []) (branch_of old) (branch_of new)) (sym next)
      (run_last (take i texts) steps (branch_of old) (branch_of middle) (branch_of new) text step run here.stands here.instance (sym here.branch_is)))

  -- a list is what is before an item, the item, and what is behind it
  split_at : {X : Type 0} (xs : List X) (i : ℕ) (x : X) → slice_get xs i ≡ Some x → (rest : List X) × (xs ≡ take i xs ++ x ∷ rest)
  split_at [] i x at = absurd (cc)
  split_at (y ∷ ys) zero x at = let same : y ≡ x = cc in (ys, ap (λ z. z ∷ ys) same)
  split_at (y ∷ ys) (suc i) x at = let tail = split_at ys i x at in (tail.0, ap (λ zs. y ∷ zs) tail.1)

  -- a front has so many items
  pub take_long : {X : Type 0} (xs : List X) (i : ℕ) → i ≤ length xs → length (take i xs) ≡ i
  take_long xs zero within = none xs
    where
      none : {X : Type 0} (xs : List X) → length (take 0 xs) ≡ 0
      none [] = refl
      none (x ∷ xs) = refl
  take_long [] (suc i) within = absurd (omega arith)
  take_long (x ∷ xs) (suc i) within = let tail : length (take i xs) ≡ i = take_long xs i (omega arith) in omega arith

  -- a step behind others is refused
  run_refused : (texts : List MpText) (steps : List Mp) (text : MpText) (rest : List MpText) (P : ℕ → Branch → StepRefusal → Type 0) (number : ℕ) (branch middle : Branch)
      (refusal : StepRefusal) → Runs task texts steps branch middle → IsRefusedAt (number + length texts) rule.Mp (StepFault task middle text) refusal
      → StepsFault task (texts ++ text ∷ rest) P number branch refusal
  run_refused [] [] text rest P number branch middle refusal run here =
      let zeroth : number + 0 ≡ number = omega arith in
      inl (subst (λ (b : Branch). IsRefusedAt number rule.Mp (StepFault task b text) refusal) (sym run)
      (subst (λ (n : ℕ). IsRefusedAt n rule.Mp (StepFault task middle text) refusal) zeroth here))
  run_refused [] (s ∷ steps) text rest P number branch middle refusal run here = absurd run
  run_refused (t ∷ texts) [] text rest P number branch middle refusal run here = absurd run
  run_refused (t ∷ texts) (s ∷ steps) text rest P number branch middle refusal run here =
      let shifted : number + length (t ∷ texts) ≡ number + 1 + length texts = omega arith in
      inr (
        s,
        run.0,
        run.1,
        run_refused texts steps text rest P (number + 1) (after_step branch run.0.form s.args t.fresh) middle refusal run.2
            (subst (λ (n : ℕ). IsRefusedAt n rule.Mp (StepFault task middle text) refusal) shifted here),
      )

  -- a step is refused in a loop
  pub run_fault : (text : BodyText) (i : ℕ) (step : MpText) (steps : List Mp) (number at : ℕ) (branch middle : Branch) (refusal : StepRefusal)
      → i < length text.steps → step ≡ get_or text.steps i step → at ≡ number + i → Runs task (take i text.steps) steps branch middle
      → IsRefusedAt at rule.Mp (StepFault task middle step) refusal → (gaps : Bool) → BodyFault task gaps text number branch refusal
  run_fault text i step steps number at branch middle refusal below is at_is run here gaps =
      let split = split_at text.steps i step (item_read text.steps i step below is) in
      let long : length (take i text.steps) ≡ i = take_long text.steps i (omega arith) in
      let moved : at ≡ number + length (take i text.steps) = at_is ∙ ap (λ n. number + n) (sym long) in
      subst (λ (ts : List MpText). StepsFault task ts (EndFault task gaps text.end) number branch refusal) (sym split.1)
      (run_refused (take i text.steps) steps step split.0 (EndFault task gaps text.end) number branch middle refusal run
      (subst (λ (n : ℕ). IsRefusedAt n rule.Mp (StepFault task middle step) refusal) moved here))

  -- what holds behind steps
  pub run_stand : (texts : List MpText) (steps : List Mp) (P : Branch → Type 0) (branch after : Branch) → Runs task texts steps branch after → P after
      → StepsStand task texts steps P branch
  run_stand [] [] P branch after run holds = subst P (sym run) holds
  run_stand [] (s ∷ steps) P branch after run holds = absurd run
  run_stand (t ∷ texts) [] P branch after run holds = absurd run
  run_stand (t ∷ texts) (s ∷ steps) P branch after run holds =
      (run.0, run_stand texts steps P (after_step branch run.0.form s.args t.fresh) after run.2 holds)

  pub run_then : (texts : List MpText) (steps : List Mp) (Q : Context → Type 0) (branch after : Branch) → Runs task texts steps branch after → Q after.context
      → StepsThen (proof_task task) steps Q branch.context
  run_then [] [] Q branch after run holds = subst (λ (b : Branch). Q b.context) (sym run) holds
  run_then [] (s ∷ steps) Q branch after run holds = absurd run
  run_then (t ∷ texts) [] Q branch after run holds = absurd run
  run_then (t ∷ texts) (s ∷ steps) Q branch after run holds =
      (run.0.form, run.0.is.form_is, run.1, run_then texts steps Q (after_step branch run.0.form s.args t.fresh) after run.2 holds)

  -- steps are open, where what is behind them is
  run_opens : (texts : List MpText) (steps : List Mp) (P : List OpenNode → Branch → Type 0) (nodes : List OpenNode) (branch after : Branch) → Runs task texts steps branch after
      → P nodes after → StepsOpen task texts P (map step_node steps ++ nodes) branch
  run_opens [] [] P nodes branch after run holds = subst (P nodes) (sym run) holds
  run_opens [] (s ∷ steps) P nodes branch after run holds = absurd run
  run_opens (t ∷ texts) [] P nodes branch after run holds = absurd run
  run_opens (t ∷ texts) (s ∷ steps) P nodes branch after run holds =
      (s, map step_node steps ++ nodes, refl, run.0, run.1, run_opens texts steps P nodes (after_step branch run.0.form s.args t.fresh) after run.2 holds)

  -- no steps add no nodes
  pub steps_added_none : (branch : Kept) (nodes : List OpenNode) → IsKept task branch → StepsRun task [] branch branch nodes nodes
  steps_added_none branch nodes kept =
      record { steps = []; run = refl; nodes_are = sym (append-nil nodes); kept = kept; grows = grows_none branch }

  -- a step adds its node
  pub steps_added_next : (texts : List MpText) (i : ℕ) (text : MpText) (step : Mp) (old middle new : Kept) (before between after : List OpenNode)
      → i < length texts → text ≡ get_or texts i text → StepsRun task (take i texts) old middle before between → IsStep task text step middle new
      → after ≡ between ++ step_node step ∷ [] → StepsRun task (take (i + 1) texts) old new before after
  steps_added_next texts i text step old middle new before between after below is run here grown = record {
    steps = run.steps ++ step ∷ [];
    run = run_next texts i text run.steps (run.steps ++ step ∷ []) step old middle new below is run.run here refl;
    nodes_are = grown ∙ ap (λ (ns : List OpenNode). ns ++ step_node step ∷ []) run.nodes_are ∙ append_assoc before (map step_node run.steps) (step_node step ∷ [])
        ∙ ap (λ (ns : List OpenNode). before ++ ns) (sym (map-append step_node run.steps (step ∷ [])));
    kept = here.kept;
    grows = grows_more old middle new run.grows here.grows;
  }

  -- steps are as many as their texts
  run_long : (texts : List MpText) (steps : List Mp) (branch after : Branch) → Runs task texts steps branch after → length steps ≡ length texts
  run_long [] [] branch after run = refl
  run_long [] (s ∷ steps) branch after run = absurd run
  run_long (t ∷ texts) [] branch after run = absurd run
  run_long (t ∷ texts) (s ∷ steps) branch after run =
      let rest : length steps ≡ length texts = run_long texts steps (after_step branch run.0.form s.args t.fresh) after run.2 in omega arith

  -- so many nodes were added
  pub steps_added_long : (texts : List MpText) (old new : Kept) (before after : List OpenNode) → StepsRun task texts old new before after
      → length after ≡ length before + length texts
  steps_added_long texts old new before after run =
      let joined = ap length run.nodes_are ∙ length-append before (map step_node run.steps) in
      let mapped = length-map run.steps step_node in
      let steps = run_long texts run.steps (branch_of old) (branch_of new) run.run in
      omega (arith, joined, mapped, steps)

  -- a fault behind steps
  run_behind : (texts : List MpText) (steps : List Mp) (P : ℕ → Branch → StepRefusal → Type 0) (number : ℕ) (branch after : Branch) (refusal : StepRefusal)
      → Runs task texts steps branch after → P (number + length texts) after refusal → StepsFault task texts P number branch refusal
  run_behind [] [] P number branch after refusal run told =
      let zeroth : number + 0 ≡ number = omega arith in
      subst (λ (b : Branch). P number b refusal) (sym run) (subst (λ (n : ℕ). P n after refusal) zeroth told)
  run_behind [] (s ∷ steps) P number branch after refusal run told = absurd run
  run_behind (t ∷ texts) [] P number branch after refusal run told = absurd run
  run_behind (t ∷ texts) (s ∷ steps) P number branch after refusal run told =
      let shifted : number + length (t ∷ texts) ≡ number + 1 + length texts = omega arith in
      inr (
        s,
        run.0,
        run.1,
        run_behind texts steps P (number + 1) (after_step branch run.0.form s.args t.fresh) after refusal run.2
            (subst (λ (n : ℕ). P n after refusal) shifted told),
      )

  -- a fault of the end of a body
  pub run_end_fault : (gaps : Bool) (text : BodyText) (old new : Kept) (before after : List OpenNode) (refusal : StepRefusal) → StepsRun task text.steps old new before after
      → EndFault task gaps text.end (length after + 1) (branch_of new) refusal → BodyFault task gaps text (length before + 1) (branch_of old) refusal
  run_end_fault gaps text old new before after refusal run told =
      let long = steps_added_long text.steps old new before after run in
      let is : length after + 1 ≡ length before + 1 + length text.steps = omega (arith, long) in
      run_behind text.steps run.steps (EndFault task gaps text.end) (length before + 1) (branch_of old) (branch_of new) refusal run.run
      (subst (λ (n : ℕ). EndFault task gaps text.end n (branch_of new) refusal) is told)

  -- a body adds the nodes of its steps and those of its end
  pub body_added : (gaps : Bool) (text : BodyText) (old new : Kept) (before between after : List OpenNode) → StepsRun task text.steps old new before between
      → Adds (λ more. EndOpens task gaps text.end more (branch_of new)) between after → Adds (λ more. BodyOpens task gaps text more (branch_of old)) before after
  body_added gaps text old new before between after run end = record {
    more = map step_node run.steps ++ end.more;
    are = end.are ∙ ap (λ (ns : List OpenNode). ns ++ end.more) run.nodes_are ∙ append_assoc before (map step_node run.steps) end.more;
    hold = run_opens text.steps run.steps (EndOpens task gaps text.end) end.more (branch_of old) (branch_of new) run.run end.hold;
  }
