-- As which nodes a script is open: the rule applications, in preorder, of a proof in which each gap
-- is a node that closes its branch, whatever is known there.
use Rattle.std.specs.Prelude.{ℕ, ◌≡◌, Bool, true, List, [], ◌∷◌, ◌++◌, length}
use Rattle.text_core.specs.Lists.{SomeOf}
use Rattle.logic_core.specs.declared.form.Atom.{Atom}
use Rattle.vernacular_tree.specs.Preorders.{mp_node}
use Rattle.vernacular_tree.specs.Rules.{IsInstance, IsAnswer}
use Rattle.vernacular_tree.specs.declared.context.Line.TheVariants.{Falsum}
use Rattle.vernacular_tree.specs.declared.tree.Mp.{Mp}
use Rattle.vernacular_tree.specs.declared.tree.Node.TheVariants as node
use Rattle.coherent_form.specs.Tasks.{CitedTask, proof_task}
use Rattle.proof_text.specs.declared.body.BodyText.{BodyText}
use Rattle.proof_text.specs.declared.body.MpText.{MpText}
use Rattle.proof_text.specs.declared.body.EndText.{EndText, As, Efq, Gap, Cs', Row_of-CaseText, end_of-CaseText, more_of-CaseText}
use Rattle.proof_text.specs.Values.{Written}
use Rattle.proof_text.specs.Branches.{Branch, start_branch, after_step, with_case}
use Rattle.proof_text.specs.StandsFor.{NamesStand, TakesStand, StepStands}
use Rattle.proof_checker.specs.Faults.{shown_in, IsSplit}
use Rattle.proof_checker.specs.declared.open_node.OpenNode.{OpenNode}
use Rattle.proof_checker.specs.declared.open_node.OpenNode.TheVariants as open_node

module _ (task : CitedTask) where
  -- steps stand and may be taken in order, a node for each, and P holds of the nodes behind theirs
  -- and the branch after them
  abbrev pub StepsOpen : List MpText → (List OpenNode → Branch → Type 0)
      → List OpenNode → Branch → Type 0
  StepsOpen [] P nodes branch = P nodes branch
  StepsOpen (text ∷ texts) P nodes branch = (step : Mp) × (rest : List OpenNode)
      × (nodes ≡ open_node.Rule (mp_node step) ∷ rest)
      × (stands : StepStands task branch text step)
      × IsInstance branch.context stands.form step.args
      × StepsOpen texts P rest (after_step branch stands.form step.args text.fresh)

-- gaps tells whether a gap may stand
module _ (task : CitedTask) (gaps : Bool) where
  abbrev mutual
    -- an end closes the branch and is a node; those of its cases follow a split's
    pub EndOpens : EndText → List OpenNode → Branch → Type 0
    EndOpens (As disjunct texts) nodes branch = (args : List ℕ)
        × (nodes ≡ open_node.Rule (node.As disjunct args) ∷ [])
        × NamesStand branch.names texts args
        × IsAnswer (proof_task task) branch.context disjunct args
    EndOpens Efq nodes branch = (nodes ≡ open_node.Rule node.Efq ∷ [])
        × SomeOf (λ line. line ≡ Falsum) branch.context.lines
    EndOpens (Gap within) nodes branch = (nodes ≡ open_node.Gap within ∷ []) × (gaps ≡ true)
    EndOpens (Cs' line _ cases) nodes branch = (lists : List (List Atom)) × (rest : List OpenNode)
        × (nodes ≡ open_node.Rule (node.Cs line (length lists)) ∷ rest)
        × IsSplit task branch line (shown_in cases) lists × CasesOpen cases lists rest branch

    -- the nodes of each case in order, behind its list of facts
    pub CasesOpen : {n : _} → Row_of-CaseText n
        → List (List Atom) → List OpenNode → Branch → Type 0
    CasesOpen end_of-CaseText lists nodes branch = nodes ≡ []
    CasesOpen (more_of-CaseText shown steps end rest) [] nodes branch = ⊥
    CasesOpen (more_of-CaseText shown steps end rest) (facts ∷ more) nodes branch =
        (first : List OpenNode) × (others : List OpenNode) × (nodes ≡ first ++ others)
        × StepsOpen task steps (EndOpens end) first (with_case branch facts)
        × CasesOpen rest more others branch

  -- the nodes of a body of a script
  abbrev pub BodyOpens : BodyText → List OpenNode → Branch → Type 0
  BodyOpens text nodes branch = StepsOpen task text.steps (EndOpens text.end) nodes branch

  -- the nodes of a script
  pub record Opens (script : Written) (nodes : List OpenNode) : Type 0 where
    pub takes : TakesStand task script.take
    pub body_is : BodyOpens script.body nodes (start_branch task script.take)

-- a script is open as nodes
abbrev pub IsOpenAs : CitedTask → Written → List OpenNode → Type 0
IsOpenAs task = Opens task true
