-- The body that a script stands for is as large as the script, and nested as deep.
use Rattle.std.proofs.Common.{◌≡◌, ℕ, ◌+◌, max, Bool, List, [], ◌∷◌, length, refl, ap, ◌∙◌, sum_by, arith, length-append}
use Rattle.std.proofs.lemmas.List.Sums.{sum_by-cons}
use Rattle.logic_core.specs.declared.form.Atom.{Atom}
use Rattle.vernacular_tree.specs.Sizes.{size, end_size, end_nesting, greatest_nesting, nesting}
use Rattle.vernacular_tree.specs.declared.tree.Mp.{Mp}
use Rattle.vernacular_tree.specs.declared.tree.Body.{Body}
use Rattle.vernacular_tree.specs.declared.tree.End as tree
use Rattle.vernacular_tree.specs.declared.tree.Node.TheVariants as node
use Rattle.vernacular_tree.specs.declared.tree.End.{end_of-Body, more_of-Body}
use Rattle.vernacular_tree.specs.declared.tree.End.TheBlock.{shape-the_row-Body-0}
use Rattle.vernacular_tree.proofs.Laws.{row_of, Cs_opens, Cs_size}
use Rattle.coherent_form.specs.Tasks.{CitedTask}
use Rattle.proof_text.specs.declared.body.MpText.{MpText}
use Rattle.proof_text.specs.declared.body.BodyText.{BodyText}
use Rattle.proof_text.specs.declared.body.EndText.{EndText, As, Efq, Gap, Cs', Row_of-CaseText, end_of-CaseText, more_of-CaseText}
use Rattle.proof_text.specs.Sizes as written
use Rattle.proof_text.specs.Values.{Written}
use Rattle.proof_text.specs.Branches.{Branch, start_branch, after_step, with_case}
use Rattle.proof_checker.specs.Accepted.{IsAcceptedAs}
use Rattle.proof_text.specs.StandsFor.{StepsStand, EndStands, CasesStand}
use Rattle.proof_checker.specs.Opened.{StepsOpen, EndOpens, CasesOpen, BodyOpens}
use Rattle.proof_checker.specs.Running.{step_node, Adds}
use Rattle.proof_checker.specs.declared.open_node.OpenNode.{OpenNode}
use Rattle.proof_checker.specs.declared.open_node.OpenNode.TheVariants as open_node

-- how deep splits are nested in bodies
abbrev pub deepest : List Body → ℕ
deepest [] = 0
deepest (body ∷ bodies) = max (end_nesting body.end) (deepest bodies)

-- the row of a list is nested as deep
row_deepest : (bodies : List Body) → greatest_nesting (row_of bodies) ≡ deepest bodies
unfolding row_of shape-the_row-Body-0
row_deepest [] = refl
row_deepest (body ∷ bodies) = ap (max (end_nesting body.end)) (row_deepest bodies)

-- a split is nested one deeper than its bodies
pub Cs_deepest : (line : ℕ) (bodies : List Body) → end_nesting (tree.Cs line bodies) ≡ 1 + deepest bodies
Cs_deepest line bodies = ap end_nesting (Cs_opens line bodies) ∙ ap (λ (k : ℕ). 1 + k) (row_deepest bodies)

-- as many applications, and splits nested as deep
pub record IsAsLarge (end : EndText) (e : tree.End) : Type 0 where
  pub size_is : end_size e ≡ written.end_size end
  pub nesting_is : end_nesting e ≡ written.end_nesting end

module _ (task : CitedTask) where
  -- there are as many steps as applications, and P holds of the branch after them
  steps_long : (texts : List MpText) (steps : List Mp) (P : Branch → Type 0) (R : Type 0) → ((branch : Branch) → P branch → R)
      → (branch : Branch) → StepsStand task texts steps P branch → (length steps ≡ length texts) × R
  steps_long [] [] P R go branch stand = (refl, go branch stand)
  steps_long [] (step ∷ steps) P R go branch stand = absurd stand
  steps_long (text ∷ texts) [] P R go branch stand = absurd stand
  steps_long (text ∷ texts) (step ∷ steps) P R go branch stand =
      let rest = steps_long texts steps P R go (after_step branch stand.0.form step.args text.fresh) stand.1 in
      let long : length steps ≡ length texts = rest.0 in
      (omega arith, rest.1)

  mutual
    -- an end is as large as what it stands for
    end_large : (end : EndText) (e : tree.End) (branch : Branch) → EndStands task end e branch → IsAsLarge end e
    end_large (As disjunct texts) e branch stand = record { size_is = ap end_size stand.1; nesting_is = ap end_nesting stand.1 }
    end_large Efq e branch stand = record { size_is = ap end_size stand; nesting_is = ap end_nesting stand }
    end_large (Gap within) e branch stand = absurd stand
    end_large (Cs' line _ cases) e branch (bodies, lists, is, line_is, stand) =
        let rest = cases_large cases bodies lists branch stand in record {
          size_is = ap end_size is ∙ Cs_size line bodies ∙ ap (λ (k : ℕ). 1 + k) rest.0;
          nesting_is = ap end_nesting is ∙ Cs_deepest line bodies ∙ ap (λ (k : ℕ). 1 + k) rest.1;
        }

    -- cases are as large as what they stand for
    cases_large : {n : _} (cases : Row_of-CaseText n) (bodies : List Body) (lists : List (List Atom)) (branch : Branch)
        → CasesStand task cases bodies lists branch
        → (sum_by size bodies ≡ written.case_sizes cases) × (deepest bodies ≡ written.greatest_nesting cases)
    cases_large end_of-CaseText bodies lists branch stand = (ap (sum_by size) stand.0, ap deepest stand.0)
    cases_large (more_of-CaseText shown steps end rest) bodies lists branch (body, others, facts, more, bodies_are, lists_are, shows, stands, standing) =
        let first = steps_long steps body.steps (EndStands task end body.end) (IsAsLarge end body.end) (end_large end body.end) (with_case branch facts) stands in
        let tail = cases_large rest others more branch standing in
        let long : length body.steps ≡ length steps = first.0 in
        let ends : end_size body.end ≡ written.end_size end = first.1.size_is in
        let others_are : sum_by size others ≡ written.case_sizes rest = tail.0 in
        let added : sum_by size (body ∷ others) ≡ size body + sum_by size others = sum_by-cons size body others in
        let total : sum_by size (body ∷ others) ≡ length steps + written.end_size end + written.case_sizes rest = omega arith in
        (ap (sum_by size) bodies_are ∙ total, ap deepest bodies_are ∙ (λ i. max (first.1.nesting_is i) (tail.1 i)))

  -- a script is as large as the body that it is accepted as
  pub accepted_large : (script : Written) (body : Body) → IsAcceptedAs task script body
      → (size body ≡ written.size script.body) × (nesting body ≡ written.nesting script.body)
  accepted_large script body accepted =
      let both = steps_long script.body.steps body.steps (EndStands task script.body.end body.end) (IsAsLarge script.body.end body.end)
      (end_large script.body.end body.end) (start_branch task script.take) accepted.stands.body_is in
      let long : length body.steps ≡ length script.body.steps = both.0 in
      let ends : end_size body.end ≡ written.end_size script.body.end = both.1.size_is in
      (omega arith, both.1.nesting_is)

  -- steps are open as a node for each, before the others
  open_long : (texts : List MpText) (P : List OpenNode → Branch → Type 0) (k : ℕ) → ((nodes : List OpenNode) (branch : Branch) → P nodes branch → length nodes ≡ k)
      → (nodes : List OpenNode) (branch : Branch) → StepsOpen task texts P nodes branch → length nodes ≡ length texts + k
  open_long [] P k go nodes branch opens = let e : length nodes ≡ k = go nodes branch opens in omega arith
  open_long (text ∷ texts) P k go nodes branch (step, rest, is, stands, instance, opens) =
      let tail : length rest ≡ length texts + k = open_long texts P k go rest (after_step branch stands.form step.args text.fresh) opens in
      let long : length nodes ≡ length (step_node step ∷ rest) = ap length is in
      omega (arith, tail, long)

  module _ (gaps : Bool) where
    mutual
      -- an end is open as many nodes as it is large
      end_open_long : (end : EndText) (nodes : List OpenNode) (branch : Branch) → EndOpens task gaps end nodes branch → length nodes ≡ written.end_size end
      end_open_long (As disjunct texts) nodes branch opens = ap length opens.1
      end_open_long Efq nodes branch opens = ap length opens.0
      end_open_long (Gap within) nodes branch opens = ap length opens.0
      end_open_long (Cs' line _ cases) nodes branch (lists, rest, is, split, opens) =
          let tail : length rest ≡ written.case_sizes cases = cases_open_long cases lists rest branch opens in
          let long : length nodes ≡ length (open_node.Rule (node.Cs line (length lists)) ∷ rest) = ap length is in
          omega (arith, tail, long)

      -- cases are open as many nodes as they are large
      cases_open_long : {n : _} (cases : Row_of-CaseText n) (lists : List (List Atom)) (nodes : List OpenNode) (branch : Branch)
          → CasesOpen task gaps cases lists nodes branch → length nodes ≡ written.case_sizes cases
      cases_open_long end_of-CaseText lists nodes branch opens = ap length opens
      cases_open_long (more_of-CaseText shown steps end rest) [] nodes branch opens = absurd opens
      cases_open_long (more_of-CaseText shown steps end rest) (facts ∷ more) nodes branch (first, others, is, opens, later) =
          let head : length first ≡ length steps + written.end_size end =
          open_long steps (EndOpens task gaps end) (written.end_size end) (end_open_long end) first (with_case branch facts) opens in
          let tail : length others ≡ written.case_sizes rest = cases_open_long rest more others branch later in
          let joined : length nodes ≡ length first + length others = ap length is ∙ length-append first others in
          omega (arith, head, tail, joined)

    -- a body of a script is open as many nodes as it is large
    pub body_open_long : (text : BodyText) (nodes : List OpenNode) (branch : Branch) → BodyOpens task gaps text nodes branch → length nodes ≡ written.size text
    body_open_long text nodes branch = open_long text.steps (EndOpens task gaps text.end) (written.end_size text.end) (end_open_long text.end) nodes branch

    -- so many nodes were added
    pub body_added_long : (text : BodyText) (branch : Branch) (before after : List OpenNode) → Adds (λ more. BodyOpens task gaps text more branch) before after
        → length after ≡ length before + written.size text
    body_added_long text branch before after added =
        ap length added.are ∙ length-append before added.more ∙ ap (λ (k : ℕ). length before + k) (body_open_long text added.more branch added.hold)
