-- Where the check of a script begins, and what it answers.
use Rattle.std.proofs.Common.{◌≡◌, ℕ, zero, suc, ◌+◌, ◌<◌, ◌≤◌, ◌^◌, max, ◌⊎◌, inl, inr, Bool, true, false, if◌then◌else◌, List, [], ◌∷◌, ◌++◌, length, take, map, slice_get, Some, Result, Ok, Err, nat_eq, refl, ap, sym, ◌∙◌, subst, arith, append-nil, length-append}
use Rattle.std.specs.List.{IsDistinct, list_any}
use Rattle.std.specs.Result.{IfOk, IfErr}
use Rattle.std.specs.Str.{bytes_eq}
use Rattle.std.specs.Cmp.Lexicographic.{pointwise}
use Rattle.std.proofs.lemmas.Slice.Eq.{bytes_eq-Decides}
use Rattle.text_core.specs.Names.{Text}
use Rattle.text_core.specs.Lists.{IsAmong}
use Rattle.text_core.specs.Exact.{Exact}
use Rattle.text_core.proofs.Laws.{each_get, not_passes, take_next, exact_value, exact_refusal}
use Rattle.logic_core.specs.declared.form.Atom.{Atom}
use Rattle.vernacular_tree.specs.Contexts.{parameters, atom_at}
use Rattle.vernacular_tree.specs.Preorders.{preorder, IsBounded, IsTree}
use Rattle.vernacular_tree.proofs.Trees.{preorder_once}
use Rattle.vernacular_tree.specs.declared.context.Line.TheVariants as line
use Rattle.vernacular_tree.specs.declared.tree.Body.{Body}
use Rattle.coherent_form.specs.Tasks.{CitedTask, proof_task, start_elements}
use Rattle.proof_text.specs.Proper.{IsProper}
use Rattle.proof_text.specs.Values.{Written}
use Rattle.proof_checker.specs.Accepted.{IsAcceptedAs}
use Rattle.proof_text.specs.StandsFor.{AreCitedOnce, TakesStand}
use Rattle.proof_text.specs.Branches.{Branch, or_single, start_branch}
use Rattle.proof_checker.specs.Faults.{FirstFault, IsFault, IsOpenFault, Tells, IsRefusalOf, IsOpenRefusalOf}
use Rattle.proof_checker.specs.Kept.{Kept, IsKept, HasLine, atom_seen, line_seen, branch_of, fact_at, kept_constants}
use Rattle.proof_checker.specs.Opened.{BodyOpens, Opens, IsOpenAs}
use Rattle.proof_checker.specs.Running.{RefusesBy, BodyFault, Adds, rules_in}
use Rattle.proof_checker.specs.declared.open_node.OpenNode.{OpenNode}
use Rattle.proof_checker.specs.declared.fact.Fact.{Fact}
use Rattle.proof_checker.specs.declared.fact.HeldLine.TheVariants.{Facts}
use Rattle.proof_checker.specs.declared.refusal.CheckRefusal as CheckRefusal
use Rattle.proof_checker.specs.declared.refusal.CheckRefusal.TheVariants as check
use Rattle.proof_checker.specs.declared.refusal.StepRefusal.{StepRefusal}
use Rattle.proof_checker.proofs.Named.{any_among}
use Rattle.proof_checker.proofs.OneFault.{first_one, opens_none}
use Rattle.proof_checker.proofs.OneList.{opens_one}
use Rattle.proof_checker.proofs.Opening.{closed_rules, closed_accepted, accepted_one, accepted_none}
use Rattle.proof_checker.proofs.Sized.{accepted_large}
use Rattle.proof_checker.proofs.Taken.{facts_seen}

-- a name is none of those before it, where all differ
distinct_front : (names : List Text) (i : ℕ) (name : Text) → IsDistinct (pointwise nat_eq) names → slice_get names i ≡ Some name → IsAmong name (take i names) → ⊥
unfolding IsDistinct
distinct_front [] i name distinct at among = absurd (cc)
distinct_front (x ∷ names) zero name distinct at among = absurd among
distinct_front (x ∷ names) (suc i) name distinct at (inl here) =
    let fails : bytes_eq x name ≡ false = each_get (λ y. bytes_eq x y ≡ false) names i name distinct.0 at in
    let passes : bytes_eq x name ≡ true = (bytes_eq-Decides x name).1 here in
    let bad : false ≡ true = sym fails ∙ passes in absurd (cc)
distinct_front (x ∷ names) (suc i) name distinct at (inr later) = distinct_front names i name distinct.1 at later

-- one more of names that differ is added
pub distinct_next : (names now after : List Text) (i : ℕ) (name : Text) → IsDistinct (pointwise nat_eq) names → slice_get names i ≡ Some name → now ≡ take i names
    → after ≡ (if list_any (bytes_eq name) now then now else now ++ name ∷ []) → after ≡ take (i + 1) names
distinct_next names now after i name distinct at so_far grown =
    let lacks : list_any (bytes_eq name) now ≡ false = not_passes (list_any (bytes_eq name) now)
    (λ there. distinct_front names i name distinct at (subst (λ (ns : List Text). IsAmong name ns) so_far (any_among name now there))) in
    let longer : after ≡ now ++ name ∷ [] = rw lacks at grown in
    longer ∙ ap (λ (ns : List Text). ns ++ name ∷ []) so_far ∙ sym (take_next names i name at)

-- there is an element at least
single_long : (names : List Text) → length (or_single names) ≡ max 1 (length names)
single_long [] = refl
single_long (name ∷ names) = omega arith

-- a branch without lines is kept
pub none_kept : (task : CitedTask) (names : List Text) → length names < 2 ^ 32 → length task.tables.symbols + 1 ≤ 67108865
    → IsKept task (record (kept_constants task.tables) { names = names })
none_kept task names few symbols = record {
  facts = λ fact. ((λ e. absurd (let bad : false ≡ true = e in cc)), (λ h. absurd h));
  falsum = ((λ e. absurd (let bad : false ≡ true = e in cc)), (λ h. absurd h));
  lines = tt;
  signed = refl;
  small = omega (arith, symbols);
  few = few;
}

-- names of elements are few, where those without the single one are
pub single_few : (names : List Text) → length names < 2 ^ 32 → length (or_single names) < 2 ^ 32
single_few names few = let long = single_long names in omega (arith, long, few)

-- the branch with which scripts begin
pub started : (task : CitedTask) (take : List Text) (kept : Kept) (names : List Text) (facts : List Fact) (es : List ℕ) → length take ≡ task.goal.universals
    → names ≡ or_single (task.tables.constants ++ take) → es ≡ parameters (proof_task task) ++ [] → facts ≡ map (fact_at es) task.goal.premises
    → HasLine (Facts facts) (record (kept_constants task.tables) { names = names }) kept → branch_of kept ≡ start_branch task take
started task take kept names facts es many names_are es_are facts_are has =
    let named : kept.names ≡ or_single (task.tables.constants ++ take) = has.names_are ∙ names_are in
    let joined : length (task.tables.constants ++ take) ≡ length task.tables.constants + task.goal.universals
    = length-append task.tables.constants take ∙ ap (λ (n : ℕ). length task.tables.constants + n) many in
    let long : length kept.names ≡ start_elements task
    = ap length named ∙ single_long (task.tables.constants ++ take) ∙ ap (max 1) joined in
    let shown : map atom_seen facts ≡ map (atom_at (parameters (proof_task task))) task.goal.premises
    = ap (map atom_seen) facts_are ∙ facts_seen es task.goal.premises
    ∙ ap (λ (ns : List ℕ). map (atom_at ns) task.goal.premises) (es_are ∙ append-nil (parameters (proof_task task))) in
    let lines : map line_seen kept.lines ≡ line.Facts (map (atom_at (parameters (proof_task task))) task.goal.premises) ∷ []
    = ap (map line_seen) has.lines_are ∙ ap (λ (fs : List Atom). line.Facts fs ∷ []) shown in
    λ i. record { context = record { elements = long i; lines = lines i }; names = named i }

-- a script has one fault
pub fault_one : (task : CitedTask) (once : AreCitedOnce task) (script : Written) (a b : StepRefusal) → IsFault task script a → IsFault task script b → a ≡ b
fault_one task once = first_one task once false

-- a fault of the body is the script's
pub body_fault : (task : CitedTask) (gaps : Bool) (script : Written) (branch : Branch) (step : StepRefusal) → branch ≡ start_branch task script.take → TakesStand task script.take
    → BodyFault task gaps script.body 1 branch step → FirstFault task gaps script step
body_fault task gaps script branch step is takes fault = inr (takes, subst (λ (b : Branch). BodyFault task gaps script.body 1 b step) is fault)

-- the nodes of the body are the script's
pub body_opened : (task : CitedTask) (gaps : Bool) (script : Written) (branch : Branch) (nodes : List OpenNode) → branch ≡ start_branch task script.take
    → TakesStand task script.take → Adds (λ more. BodyOpens task gaps script.body more branch) [] nodes → Opens task gaps script nodes
body_opened task gaps script branch nodes is takes added = record {
  takes = takes;
  body_is = subst (λ (ns : List OpenNode). BodyOpens task gaps script.body ns (start_branch task script.take)) (sym added.are)
      (subst (BodyOpens task gaps script.body added.more) is added.hold);
}

-- the body is within the bounds of a proof
pub body_bounded : (task : CitedTask) (script : Written) (body : Body) → IsAcceptedAs task script body → IsProper script → IsBounded body
body_bounded task script body accepted proper =
    let large = accepted_large task script body accepted in
    let one = large.0 in
    let two = large.1 in
    let small = proper.bounded.small in
    let shallow = proper.bounded.shallow in
    record { small = omega (arith, one, small); shallow = omega (arith, two, shallow) }

-- the nodes of a script in which no gap may stand are those of the proof that is read from them
pub proof_accepted : (task : CitedTask) (script : Written) (nodes : List OpenNode) (proof : Body) → Opens task false script nodes → preorder proof ≡ rules_in nodes
    → IsAcceptedAs task script proof
proof_accepted task script nodes proof opens is =
    let found = closed_accepted task script nodes opens in
    let same : preorder proof ≡ preorder found.0 = is ∙ ap rules_in found.2 ∙ closed_rules (preorder found.0) in
    subst (IsAcceptedAs task script) (sym (preorder_once proof found.0 same)) found.1

-- they are a tree
pub nodes_tree : (task : CitedTask) (script : Written) (nodes : List OpenNode) → Opens task false script nodes → IsProper script → IsTree (rules_in nodes)
nodes_tree task script nodes opens proper =
    let found = closed_accepted task script nodes opens in record {
      tree = found.0;
      preorder_is = sym (ap rules_in found.2 ∙ closed_rules (preorder found.0));
      bounded = body_bounded task script found.0 found.1 proper;
    }

-- a refusal is want of memory, or tells a fault
told_fault : (Fault : StepRefusal → Type 0) (refusal : CheckRefusal.CheckRefusal) → RefusesBy Fault refusal → (refusal ≡ check.Memory) ⊎ Tells Fault refusal
told_fault Fault (check.Step step) told = inr told
told_fault Fault check.Memory told = inl refl

-- one value, one fault, never both
module _ {X : Type 0} (IsValue : X → Type 0) (Fault : StepRefusal → Type 0) (one_value : (a b : X) → IsValue a → IsValue b → a ≡ b)
    (one_fault : (a b : StepRefusal) → Fault a → Fault b → a ≡ b) (never_both : (a : X) (b : StepRefusal) → IsValue a → Fault b → ⊥) where
  refusal_one : (a b : CheckRefusal.CheckRefusal) → Tells Fault a → Tells Fault b → a ≡ b
  refusal_one (check.Step a) (check.Step b) x y = ap check.Step (one_fault a b x y)
  refusal_one (check.Step a) check.Memory x y = absurd y
  refusal_one check.Memory b x y = absurd x

  refusal_none : (a : X) (b : CheckRefusal.CheckRefusal) → IsValue a → Tells Fault b → ⊥
  refusal_none a (check.Step step) is told = never_both a step is told
  refusal_none a check.Memory is told = told

  -- the value at hand is the exact answer
  pub exact_found : (a : X) → IsValue a → Exact IsValue (Tells Fault) check.Memory (Ok a)
  exact_found a is = exact_value IsValue (Tells Fault) check.Memory one_value refusal_one refusal_none a is

  -- the refusal at hand is the exact answer
  pub exact_refused : (refusal : CheckRefusal.CheckRefusal) → RefusesBy Fault refusal → Exact IsValue (Tells Fault) check.Memory (Err refusal)
  exact_refused refusal told = exact_refusal IsValue (Tells Fault) check.Memory one_value refusal_one refusal_none refusal (told_fault Fault refusal told)

  -- the answer at hand is exact
  pub exact_told : (r : Result X CheckRefusal.CheckRefusal) → IfOk r IsValue → IfErr r (RefusesBy Fault) → Exact IsValue (Tells Fault) check.Memory r
  exact_told (Ok a) is told = exact_found a is
  exact_told (Err refusal) is told = exact_refused refusal told

module _ (task : CitedTask) (once : AreCitedOnce task) (script : Written) where
  -- a body, or a fault
  pub exact_check : (r : Result Body CheckRefusal.CheckRefusal) → IfOk r (IsAcceptedAs task script) → IfErr r (RefusesBy (IsFault task script))
      → Exact (IsAcceptedAs task script) (IsRefusalOf task script) check.Memory r
  exact_check = exact_told (IsAcceptedAs task script) (IsFault task script) (accepted_one task once script) (first_one task once false script) (accepted_none task once script)

  -- nodes, or a fault
  pub exact_open : (r : Result (List OpenNode) CheckRefusal.CheckRefusal) → IfOk r (IsOpenAs task script) → IfErr r (RefusesBy (IsOpenFault task script))
      → Exact (IsOpenAs task script) (IsOpenRefusalOf task script) check.Memory r
  exact_open = exact_told (IsOpenAs task script) (IsOpenFault task script) (opens_one task once true script) (first_one task once true script) (opens_none task once true script)
