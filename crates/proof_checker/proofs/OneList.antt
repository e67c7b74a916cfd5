-- A script is open as one list of nodes.
use Rattle.std.proofs.Common.{◌≡◌, ℕ, Bool, List, [], ◌∷◌, ◌++◌, length, slice_get, Some, ap, sym, ◌∙◌, subst}
use Rattle.text_core.specs.Names.{Text}
use Rattle.text_core.proofs.Laws.{value_same}
use Rattle.logic_core.specs.declared.form.Atom.{Atom}
use Rattle.logic_core.specs.declared.form.Form.{Form}
use Rattle.vernacular_tree.specs.declared.context.Line as Line
use Rattle.vernacular_tree.specs.declared.context.Line.TheVariants.{Facts, Cases, Falsum}
use Rattle.vernacular_tree.specs.Preorders.{mp_node}
use Rattle.vernacular_tree.specs.declared.tree.Mp.{Mp}
use Rattle.vernacular_tree.specs.declared.tree.Node.TheVariants as node
use Rattle.coherent_form.specs.Tasks.{CitedTask}
use Rattle.coherent_form.specs.declared.citation.Citation.{Citation}
use Rattle.proof_text.specs.declared.body.MpText.{MpText}
use Rattle.proof_text.specs.declared.body.EndText.{EndText, As, Efq, Gap, Cs', Row_of-CaseText, end_of-CaseText, more_of-CaseText}
use Rattle.proof_text.specs.Values.{Written}
use Rattle.proof_text.specs.Branches.{Branch, start_branch, after_step, with_case}
use Rattle.proof_text.specs.StandsFor.{AreCitedOnce, ArgsStand, IsFormOf, StepStands}
use Rattle.proof_checker.specs.Opened.{StepsOpen, EndOpens, CasesOpen, Opens}
use Rattle.proof_checker.specs.declared.open_node.OpenNode.{OpenNode}
use Rattle.proof_checker.specs.declared.open_node.OpenNode.TheVariants as open_node
use Rattle.proof_checker.proofs.Elements.{names_one, args_one}

-- the lists of a line of cases
abbrev lists_in : Line.Line → List (List Atom)
lists_in (Facts facts) = []
lists_in (Cases lists) = lists
lists_in Falsum = []

-- a line has one list of cases
pub cases_one : (lines : List Line.Line) (line : ℕ) (a b : List (List Atom)) → slice_get lines line ≡ Some (Cases a)
    → slice_get lines line ≡ Some (Cases b) → a ≡ b
cases_one lines line a b x y = ap lists_in (value_same (sym x ∙ y))

module _ (task : CitedTask) (once : AreCitedOnce task) where
  -- what is told of two forms with one citation
  pub record AreSame (n m : ℕ) (f g : Form) (xs ys : List Text) : Type 0 where
    pub numbers : n ≡ m
    pub forms : f ≡ g
    pub variables : xs ≡ ys

  -- one form has a citation
  pub form_one : (cite : Citation) (n m : ℕ) (f g : Form) (xs ys : List Text) → IsFormOf task cite n f xs → IsFormOf task cite m g ys
      → AreSame n m f g xs ys
  form_one cite n m f g xs ys a b =
      let number : n ≡ m = once cite n m a.cited b.cited in record {
        numbers = number;
        forms = value_same (sym a.form_is ∙ ap (slice_get task.forms) number ∙ b.form_is);
        variables = value_same (sym a.variables_are ∙ ap (slice_get task.variables) number ∙ b.variables_are);
      }

  -- a step of a script stands for one application of one form
  pub step_one : (branch : Branch) (text : MpText) (s t : Mp) (a : StepStands task branch text s) (b : StepStands task branch text t)
      → (s ≡ t) × (a.form ≡ b.form)
  step_one branch text s t a b =
      let same = form_one text.cite s.form t.form a.form b.form a.variables b.variables a.is b.is in
      let moved : ArgsStand branch.names a.variables text.args t.args = subst (λ xs. ArgsStand branch.names xs text.args t.args) (sym same.variables) b.args in
      let args : s.args ≡ t.args = args_one branch.names a.variables text.args s.args t.args a.args moved in
      ((λ i. record { form = same.numbers i; args = args i }), same.forms)

  -- the branch after a step is one
  pub after_one : (branch : Branch) (text : MpText) (s t : Mp) (a : StepStands task branch text s) (b : StepStands task branch text t)
      → after_step branch a.form s.args text.fresh ≡ after_step branch b.form t.args text.fresh
  after_one branch text s t a b = let same = step_one branch text s t a b in λ i. after_step branch (same.1 i) (same.0 i).args text.fresh

  -- steps are open as one list of nodes, where what is behind them is
  steps_one : (texts : List MpText) (P : List OpenNode → Branch → Type 0) → ((branch : Branch) (a b : List OpenNode) → P a branch → P b branch → a ≡ b)
      → (branch : Branch) (a b : List OpenNode) → StepsOpen task texts P a branch → StepsOpen task texts P b branch → a ≡ b
  steps_one [] P one branch a b x y = one branch a b x y
  steps_one (text ∷ texts) P one branch a b (s, rest, is, stands, instance, opens) (t, rest2, is2, stands2, instance2, opens2) =
      let same = step_one branch text s t stands stands2 in
      let moved = subst (StepsOpen task texts P rest2) (sym (after_one branch text s t stands stands2)) opens2 in
      let tail = steps_one texts P one (after_step branch stands.form s.args text.fresh) rest rest2 opens moved in
      is ∙ (λ i. open_node.Rule (mp_node (same.0 i)) ∷ tail i) ∙ sym is2

  module _ (gaps : Bool) where
    mutual
      -- an end is open as one list of nodes
      end_one : (end : EndText) (branch : Branch) (a b : List OpenNode) → EndOpens task gaps end a branch → EndOpens task gaps end b branch → a ≡ b
      end_one (As disjunct texts) branch a b (args, is, stand, answer) (args2, is2, stand2, answer2) =
          is ∙ ap (λ (xs : List ℕ). open_node.Rule (node.As disjunct xs) ∷ []) (names_one branch.names texts args args2 stand stand2) ∙ sym is2
      end_one Efq branch a b x y = x.0 ∙ sym y.0
      end_one (Gap within) branch a b x y = x.0 ∙ sym y.0
      end_one (Cs' line _ cases) branch a b (lists, rest, is, split, opens) (lists2, rest2, is2, split2, opens2) =
          let same : lists ≡ lists2 = cases_one branch.context.lines line lists lists2 split.line_is split2.line_is in
          let moved = subst (λ ls. CasesOpen task gaps cases ls rest2 branch) (sym same) opens2 in
          let tail = cases_open_one cases lists branch rest rest2 opens moved in
          is ∙ (λ i. open_node.Rule (node.Cs line (length (same i))) ∷ tail i) ∙ sym is2

      -- cases are open as one list of nodes
      cases_open_one : {n : _} (cases : Row_of-CaseText n) (lists : List (List Atom)) (branch : Branch) (a b : List OpenNode)
          → CasesOpen task gaps cases lists a branch → CasesOpen task gaps cases lists b branch → a ≡ b
      cases_open_one end_of-CaseText lists branch a b x y = x ∙ sym y
      cases_open_one (more_of-CaseText shown steps end rest) [] branch a b x y = absurd x
      cases_open_one (more_of-CaseText shown steps end rest) (facts ∷ more) branch a b (first, others, is, opens, later) (first2, others2, is2, opens2, later2) =
          let head = steps_one steps (EndOpens task gaps end) (end_one end) (with_case branch facts) first first2 opens opens2 in
          let tail = cases_open_one rest more branch others others2 later later2 in
          is ∙ (λ i. head i ++ tail i) ∙ sym is2

    -- a script is open as one list of nodes
    pub opens_one : (script : Written) (a b : List OpenNode) → Opens task gaps script a → Opens task gaps script b → a ≡ b
    opens_one script a b x y =
        steps_one script.body.steps (EndOpens task gaps script.body.end) (end_one script.body.end) (start_branch task script.take) a b x.body_is y.body_is
