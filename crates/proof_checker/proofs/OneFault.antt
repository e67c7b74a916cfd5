-- A script has one first fault, and none where it is open.
use Rattle.std.proofs.Common.{◌≡◌, ℕ, Bool, true, zero, suc, ◌+◌, ◌-◌, ◌<◌, ◌≤◌, inl, inr, List, [], ◌∷◌, ◌++◌, length, slice_get, Option, Some, zip, refl, sym, ◌∙◌, subst, arith}
use Rattle.text_core.specs.Names.{Text}
use Rattle.text_core.specs.Lists.{IsAmong}
use Rattle.text_core.proofs.Laws.{value_same, some_at}
use Rattle.logic_core.specs.declared.form.Atom.{Atom}
use Rattle.logic_core.specs.declared.form.Form.{Form}
use Rattle.vernacular_tree.specs.Contexts.{parameters, atom_at, Stands as HasFact}
use Rattle.vernacular_tree.specs.Rules.{IsInstance, IsAnswer}
use Rattle.vernacular_tree.specs.declared.context.Line.TheVariants.{Cases}
use Rattle.vernacular_tree.specs.declared.tree.Mp.{Mp}
use Rattle.coherent_form.specs.Tasks.{CitedTask, proof_task}
use Rattle.proof_text.specs.declared.body.NamedAtom.{NamedAtom}
use Rattle.proof_text.specs.declared.body.Binding.{Binding}
use Rattle.proof_text.specs.declared.body.MpText.{MpText}
use Rattle.proof_text.specs.declared.body.BodyText.{BodyText}
use Rattle.proof_text.specs.declared.body.EndText.{EndText, As, Efq, Gap, Cs', Row_of-CaseText, end_of-CaseText, more_of-CaseText}
use Rattle.proof_text.specs.Sizes.{end_size}
use Rattle.proof_text.specs.Values.{Written}
use Rattle.proof_checker.specs.declared.refusal.Rule.{Rule}
use Rattle.proof_checker.specs.declared.refusal.Rule.TheVariants as rule
use Rattle.proof_checker.specs.declared.refusal.Why.{Why}
use Rattle.proof_checker.specs.declared.refusal.Why.TheVariants as why
use Rattle.proof_checker.specs.declared.refusal.StepRefusal.{StepRefusal}
use Rattle.proof_text.specs.Branches.{Branch, start_branch, after_step, with_case}
use Rattle.proof_text.specs.StandsFor.{AreCitedOnce, NamesStand, labels_of, TakesStand, StepStands}
use Rattle.proof_checker.specs.Checks.{Nothing, Unless}
use Rattle.proof_checker.specs.Faults.{binds_in, shown_in, IsRefusedAt, TakesFault, InstanceFault, FormFault, StepFault, AtomsFault, AnswerFault, FalsumFault, CaseShows, CasesDiffer, SplitFault, IsSplit, StepsFault, EndFault, CasesFault, FirstFault}
use Rattle.proof_checker.specs.Opened.{StepsOpen, EndOpens, CasesOpen, BodyOpens, Opens}
use Rattle.proof_checker.specs.Running.{BodyFault}
use Rattle.proof_checker.specs.declared.open_node.OpenNode.{OpenNode}
use Rattle.proof_checker.proofs.Elements.{names_one, names_known, names_long, args_one, args_long, args_labels, args_differ, args_known}
use Rattle.proof_checker.proofs.OneList.{cases_one, form_one, after_one}
use Rattle.proof_checker.proofs.Ordered.{IsOne, IsNone, behind_each, nothing_one, nothing_none, unless_one, unless_none, each_one, each_none}

-- a step has one refusal, where its rule has one reason
refused_one : (step : ℕ) (by : Rule) (Reason : Why → Type 0) → IsOne Reason → (a b : StepRefusal) → IsRefusedAt step by Reason a
    → IsRefusedAt step by Reason b → a ≡ b
refused_one step by Reason one a b x y =
    let steps : a.step ≡ b.step = x.step_is ∙ sym y.step_is in
    let rules : a.rule ≡ b.rule = x.rule_is ∙ sym y.rule_is in
    let whys : a.why ≡ b.why = one a.why b.why x.why_is y.why_is in
    λ i. record { step = steps i; rule = rules i; why = whys i }

-- the number of an item is below the length
get_below : {X : Type 0} (xs : List X) (i : ℕ) (x : X) → slice_get xs i ≡ Some x → i < length xs
get_below [] i x is = absurd (cc)
get_below (y ∷ ys) zero x is = omega arith
get_below (y ∷ ys) (suc i) x is = let rest : i < length ys = get_below ys i x is in omega arith

module _ (task : CitedTask) where
  -- names that are taken have one fault
  takes_one : (take : List Text) → IsOne (TakesFault task take)
  takes_one take = unless_one _ _ _ (unless_one _ _ _ nothing_one)

  -- names that stand have none
  takes_none : (take : List Text) → TakesStand task take → IsNone (TakesFault task take)
  takes_none take stand = unless_none _ _ _ stand.as_many (unless_none _ _ _ stand.new nothing_none)

  -- an instance has one fault
  instance_one : (branch : Branch) (text : MpText) (form : Form) (args : List ℕ) → IsOne (InstanceFault task branch text form args)
  instance_one branch text form args = each_one why.PremiseMissing (λ front atom. HasFact branch.context (atom_at args atom)) _ [] form.premises
      (unless_one _ _ _ (unless_one _ _ _ (unless_one _ _ _ nothing_one)))

  -- a step that cites a form has one fault
  form_fault_one : (branch : Branch) (text : MpText) (form : Form) (variables : List Text) → IsOne (FormFault task branch text form variables)
  form_fault_one branch text form variables = unless_one _ _ _
      (each_one why.VariableUnknown (λ front (bind : Binding). IsAmong bind.label (labels_of variables)) _ [] (binds_in text.args)
      (each_one why.VariableTwice _ _ [] (binds_in text.args)
      (unless_one _ _ _ (λ a b x y.
      let same = args_one branch.names variables text.args x.0 y.0 x.1 y.1 in
      instance_one branch text form y.0 a b (subst (λ args. InstanceFault task branch text form args a) same x.2) y.2))))

  -- atoms have one fault
  atoms_one : (branch : Branch) (args : List ℕ) (atoms : List Atom) → IsOne (AtomsFault task branch atoms args)
  atoms_one branch args atoms =
      each_one why.AtomMissing (λ front atom. HasFact branch.context (atom_at (parameters (proof_task task) ++ args) atom)) _ [] atoms nothing_one

  -- an end by a disjunct of the goal has one fault
  answer_one : (branch : Branch) (disjunct : ℕ) (texts : List Text) → IsOne (AnswerFault task branch disjunct texts)
  answer_one branch disjunct texts = unless_one _ _ _ (unless_one _ _ _ (unless_one _ _ _ (λ a b x y.
      let atoms : x.0 ≡ y.0 = value_same (sym x.2 ∙ y.2) in
      let args : x.1 ≡ y.1 = names_one branch.names texts x.1 y.1 x.3 y.3 in
      let moved = subst (λ (ns : List ℕ). AtomsFault task branch x.0 ns a) args x.4 in
      atoms_one branch y.1 y.0 a b (subst (λ (atoms : List Atom). AtomsFault task branch atoms y.1 a) atoms moved) y.4)))

  -- an end by a disjunct of the goal that stands has none
  answer_none : (branch : Branch) (disjunct : ℕ) (texts : List Text) (args : List ℕ) → NamesStand branch.names texts args
      → IsAnswer (proof_task task) branch.context disjunct args → IsNone (AnswerFault task branch disjunct texts)
  answer_none branch disjunct texts args stand answer = unless_none _ _ _ (answer.from_one, below) (unless_none _ _ _ many
      (unless_none _ _ _ (names_known branch.names texts args stand) (λ a x.
      let atoms : x.0 ≡ answer.atoms = value_same (sym x.2 ∙ answer.disjunct_is) in
      let same : x.1 ≡ args = names_one branch.names texts x.1 args x.3 stand in
      let moved = subst (λ (ns : List ℕ). AtomsFault task branch x.0 ns a) same x.4 in
      each_none why.AtomMissing (λ front atom. HasFact branch.context (atom_at (parameters (proof_task task) ++ args) atom)) _ [] answer.atoms
      (behind_each (λ atom. HasFact branch.context (atom_at (parameters (proof_task task) ++ args) atom)) [] answer.atoms answer.stand)
      nothing_none a (subst (λ (atoms : List Atom). AtomsFault task branch atoms args a) atoms moved))))
    where
      below : disjunct ≤ length task.goal.disjuncts
      below = let from_one : 0 < disjunct = answer.from_one in
          let within : disjunct - 1 < length task.goal.disjuncts = get_below task.goal.disjuncts (disjunct - 1) answer.atoms answer.disjunct_is in
          omega arith

      many : length texts ≡ task.goal.existentials
      many = names_long branch.names texts args stand ∙ answer.args_known.length_is

  -- what cases show has one fault
  shown_one : (branch : Branch) (shown : List (Option (List NamedAtom))) (lists : List (List Atom)) → IsOne (CasesDiffer task branch shown lists)
  shown_one branch shown lists =
      unless_one _ _ _ (each_one why.CaseDiffers (λ front case. CaseShows task branch case) _ [] (zip shown lists) nothing_one)

  -- a split has one fault
  split_one : (branch : Branch) (line : ℕ) (shown : List (Option (List NamedAtom))) → IsOne (SplitFault task branch line shown)
  split_one branch line shown = unless_one _ _ _ (unless_one _ _ _ (λ a b x y.
      let same : x.0 ≡ y.0 = cases_one branch.context.lines line x.0 y.0 x.1 y.1 in
      shown_one branch shown y.0 a b (subst (λ (lists : List (List Atom)). CasesDiffer task branch shown lists a) same x.2) y.2))

  -- a split that stands has none
  split_none : (branch : Branch) (line : ℕ) (shown : List (Option (List NamedAtom))) (lists : List (List Atom)) → IsSplit task branch line shown lists
      → IsNone (SplitFault task branch line shown)
  split_none branch line shown lists is = unless_none _ _ _ (get_below branch.context.lines line (Cases lists) is.line_is)
      (unless_none _ _ _ (lists, is.line_is) (λ a x.
      let same : x.0 ≡ lists = cases_one branch.context.lines line x.0 lists x.1 is.line_is in
      unless_none _ _ _ is.as_many
      (each_none why.CaseDiffers (λ front case. CaseShows task branch case) _ [] (zip shown lists)
      (behind_each (CaseShows task branch) [] (zip shown lists) is.shows) nothing_none)
      a (subst (λ (lists : List (List Atom)). CasesDiffer task branch shown lists a) same x.2)))

  -- an end by falsehood has one fault
  falsum_one : (branch : Branch) → IsOne (FalsumFault task branch)
  falsum_one branch = unless_one _ _ _ nothing_one

  -- a gap has one fault
  gap_one : (gaps : Bool) → IsOne (Unless (gaps ≡ true) why.GapOpen Nothing)
  gap_one gaps = unless_one _ _ _ nothing_one

  module _ (once : AreCitedOnce task) where
    -- a step has one fault
    step_fault_one : (branch : Branch) (text : MpText) → IsOne (StepFault task branch text)
    step_fault_one branch text = unless_one _ _ _ (λ a b (n, f, xs, is, fault) (m, g, ys, also, fault2).
        let same = form_one task once text.cite n m f g xs ys is also in
        let moved = subst (λ (form : Form). FormFault task branch text form xs a) same.forms fault in
        form_fault_one branch text g ys a b (subst (λ (variables : List Text). FormFault task branch text g variables a) same.variables moved) fault2)

    -- a step that stands and is taken has none
    step_none : (branch : Branch) (text : MpText) (step : Mp) (stands : StepStands task branch text step)
        → IsInstance branch.context stands.form step.args → IsNone (StepFault task branch text)
    step_none branch text step stands instance = unless_none _ _ _
        (some_at (λ cite. cite ≡ text.cite) task.citations step.form text.cite stands.is.cited refl)
        (λ a (n, f, xs, is, fault).
        let same = form_one task once text.cite n step.form f stands.form xs stands.variables is stands.is in
        let moved = subst (λ (form : Form). FormFault task branch text form xs a) same.forms fault in
        form_none a (subst (λ (variables : List Text). FormFault task branch text stands.form variables a) same.variables moved))
      where
        args : List ℕ
        args = step.args

        form_none : IsNone (FormFault task branch text stands.form stands.variables)
        form_none = unless_none _ _ _ (args_long branch.names stands.variables text.args step.args stands.args ∙ instance.args_known.length_is)
            (each_none why.VariableUnknown (λ front (bind : Binding). IsAmong bind.label (labels_of stands.variables)) _ [] (binds_in text.args)
            (behind_each (λ (bind : Binding). IsAmong bind.label (labels_of stands.variables)) [] (binds_in text.args)
            (args_labels branch.names stands.variables text.args step.args stands.args))
            (each_none why.VariableTwice _ _ [] (binds_in text.args) (args_differ branch.names stands.variables text.args step.args stands.args)
            (unless_none _ _ _ (args_known branch.names stands.variables text.args step.args stands.args) (λ a x.
            let same : x.0 ≡ step.args = args_one branch.names stands.variables text.args x.0 step.args x.1 stands.args in
            each_none why.PremiseMissing (λ front atom. HasFact branch.context (atom_at step.args atom)) _ [] stands.form.premises
            (behind_each (λ atom. HasFact branch.context (atom_at step.args atom)) [] stands.form.premises instance.premises)
            (unless_none _ _ _ stands.as_many (unless_none _ _ _ stands.new (unless_none _ _ _ stands.shown nothing_none)))
            a (subst (λ (ns : List ℕ). InstanceFault task branch text stands.form ns a) same x.2)))))

    -- steps have one fault, where what is behind them has one
    steps_fault_one : (texts : List MpText) (P : ℕ → Branch → StepRefusal → Type 0)
        → ((number : ℕ) (branch : Branch) (a b : StepRefusal) → P number branch a → P number branch b → a ≡ b)
        → (number : ℕ) (branch : Branch) (a b : StepRefusal) → StepsFault task texts P number branch a → StepsFault task texts P number branch b → a ≡ b
    steps_fault_one [] P one number branch a b x y = one number branch a b x y
    steps_fault_one (text ∷ texts) P one number branch a b (inl x) (inl y) = refused_one number rule.Mp (StepFault task branch text) (step_fault_one branch text) a b x y
    steps_fault_one (text ∷ texts) P one number branch a b (inl x) (inr y) = absurd (step_none branch text y.0 y.1 y.2 a.why x.why_is)
    steps_fault_one (text ∷ texts) P one number branch a b (inr x) (inl y) = absurd (step_none branch text x.0 x.1 x.2 b.why y.why_is)
    steps_fault_one (text ∷ texts) P one number branch a b (inr x) (inr y) =
        let moved = subst (λ after. StepsFault task texts P (number + 1) after b) (sym (after_one task once branch text x.0 y.0 x.1 y.1)) y.3 in
        steps_fault_one texts P one (number + 1) (after_step branch x.1.form x.0.args text.fresh) a b x.3 moved

    -- steps that are open have no fault, where what is behind them has none
    steps_none : (texts : List MpText) (P : List OpenNode → Branch → Type 0) (F : ℕ → Branch → StepRefusal → Type 0)
        → ((nodes : List OpenNode) (number : ℕ) (branch : Branch) (a : StepRefusal) → P nodes branch → F number branch a → ⊥)
        → (nodes : List OpenNode) (number : ℕ) (branch : Branch) (a : StepRefusal) → StepsOpen task texts P nodes branch → StepsFault task texts F number branch a → ⊥
    steps_none [] P F none nodes number branch a opens fault = none nodes number branch a opens fault
    steps_none (text ∷ texts) P F none nodes number branch a (step, rest, is, stands, instance, opens) (inl here) = step_none branch text step stands instance a.why here.why_is
    steps_none (text ∷ texts) P F none nodes number branch a (step, rest, is, stands, instance, opens) (inr behind) =
        steps_none texts P F none rest (number + 1) (after_step branch stands.form step.args text.fresh) a opens
        (subst (λ after. StepsFault task texts F (number + 1) after a) (sym (after_one task once branch text step behind.0 stands behind.1)) behind.3)

    module _ (gaps : Bool) where
      mutual
        -- an end has one fault
        end_fault_one : (end : EndText) (number : ℕ) (branch : Branch) (a b : StepRefusal) → EndFault task gaps end number branch a → EndFault task gaps end number branch b → a ≡ b
        end_fault_one (As disjunct texts) number branch a b x y = refused_one number rule.As (AnswerFault task branch disjunct texts) (answer_one branch disjunct texts) a b x y
        end_fault_one Efq number branch a b x y = refused_one number rule.Efq (FalsumFault task branch) (falsum_one branch) a b x y
        end_fault_one (Gap within) number branch a b x y = refused_one number rule.Gap (Unless (gaps ≡ true) why.GapOpen Nothing) (gap_one gaps) a b x y
        end_fault_one (Cs' line _ cases) number branch a b (inl x) (inl y) =
            refused_one number rule.Cs (SplitFault task branch line (shown_in cases)) (split_one branch line (shown_in cases)) a b x y
        end_fault_one (Cs' line _ cases) number branch a b (inl x) (inr y) = absurd (split_none branch line (shown_in cases) y.0 y.1 a.why x.why_is)
        end_fault_one (Cs' line _ cases) number branch a b (inr x) (inl y) = absurd (split_none branch line (shown_in cases) x.0 x.1 b.why y.why_is)
        end_fault_one (Cs' line _ cases) number branch a b (inr x) (inr y) =
            let same : y.0 ≡ x.0 = cases_one branch.context.lines line y.0 x.0 y.1.line_is x.1.line_is in
            cases_fault_one cases x.0 (number + 1) branch a b x.2 (subst (λ lists. CasesFault task gaps cases lists (number + 1) branch b) same y.2)

        -- cases have one fault
        cases_fault_one : {n : _} (cases : Row_of-CaseText n) (lists : List (List Atom)) (number : ℕ) (branch : Branch) (a b : StepRefusal)
            → CasesFault task gaps cases lists number branch a → CasesFault task gaps cases lists number branch b → a ≡ b
        cases_fault_one end_of-CaseText lists number branch a b x y = absurd x
        cases_fault_one (more_of-CaseText shown steps end rest) [] number branch a b x y = absurd x
        cases_fault_one (more_of-CaseText shown steps end rest) (facts ∷ more) number branch a b (inl x) (inl y) =
            steps_fault_one steps (EndFault task gaps end) (end_fault_one end) number (with_case branch facts) a b x y
        cases_fault_one (more_of-CaseText shown steps end rest) (facts ∷ more) number branch a b (inl x) (inr y) = absurd (y.0 a x)
        cases_fault_one (more_of-CaseText shown steps end rest) (facts ∷ more) number branch a b (inr x) (inl y) = absurd (x.0 b y)
        cases_fault_one (more_of-CaseText shown steps end rest) (facts ∷ more) number branch a b (inr x) (inr y) =
            cases_fault_one rest more (number + length steps + end_size end) branch a b x.1 y.1

      -- a script has one fault
      pub first_one : (script : Written) (a b : StepRefusal) → FirstFault task gaps script a → FirstFault task gaps script b → a ≡ b
      first_one script a b (inl x) (inl y) = refused_one 0 rule.Take (TakesFault task script.take) (takes_one script.take) a b x y
      first_one script a b (inl x) (inr y) = absurd (takes_none script.take y.0 a.why x.why_is)
      first_one script a b (inr x) (inl y) = absurd (takes_none script.take x.0 b.why y.why_is)
      first_one script a b (inr x) (inr y) = steps_fault_one script.body.steps (EndFault task gaps script.body.end) (end_fault_one script.body.end)
          1 (start_branch task script.take) a b x.1 y.1

      mutual
        -- an end that is open has no fault
        end_none : (end : EndText) (nodes : List OpenNode) (number : ℕ) (branch : Branch) (a : StepRefusal) → EndOpens task gaps end nodes branch
            → EndFault task gaps end number branch a → ⊥
        end_none (As disjunct texts) nodes number branch a (args, is, stand, answer) fault = answer_none branch disjunct texts args stand answer a.why fault.why_is
        end_none Efq nodes number branch a opens fault = unless_none _ _ _ opens.1 nothing_none a.why fault.why_is
        end_none (Gap within) nodes number branch a opens fault = unless_none _ _ _ opens.1 nothing_none a.why fault.why_is
        end_none (Cs' line _ cases) nodes number branch a (lists, rest, is, split, opens) (inl here) = split_none branch line (shown_in cases) lists split a.why here.why_is
        end_none (Cs' line _ cases) nodes number branch a (lists, rest, is, split, opens) (inr behind) = cases_none cases lists rest (number + 1) branch a opens
            (subst (λ lists. CasesFault task gaps cases lists (number + 1) branch a) (cases_one branch.context.lines line behind.0 lists behind.1.line_is split.line_is) behind.2)

        -- cases that are open have no fault
        cases_none : {n : _} (cases : Row_of-CaseText n) (lists : List (List Atom)) (nodes : List OpenNode) (number : ℕ) (branch : Branch) (a : StepRefusal)
            → CasesOpen task gaps cases lists nodes branch → CasesFault task gaps cases lists number branch a → ⊥
        cases_none end_of-CaseText lists nodes number branch a opens fault = fault
        cases_none (more_of-CaseText shown steps end rest) [] nodes number branch a opens fault = fault
        cases_none (more_of-CaseText shown steps end rest) (facts ∷ more) nodes number branch a (first, others, is, opens, later) (inl here) =
            steps_none steps (EndOpens task gaps end) (EndFault task gaps end) (end_none end) first number (with_case branch facts) a opens here
        cases_none (more_of-CaseText shown steps end rest) (facts ∷ more) nodes number branch a (first, others, is, opens, later) (inr behind) =
            cases_none rest more others (number + length steps + end_size end) branch a later behind.1

      -- a body of a script that is open has no fault
      pub body_none : (text : BodyText) (nodes : List OpenNode) (number : ℕ) (branch : Branch) (a : StepRefusal) → BodyOpens task gaps text nodes branch
          → BodyFault task gaps text number branch a → ⊥
      body_none text nodes number branch a = steps_none text.steps (EndOpens task gaps text.end) (EndFault task gaps text.end) (end_none text.end) nodes number branch a

      -- a script that is open has no fault
      pub opens_none : (script : Written) (nodes : List OpenNode) (a : StepRefusal) → Opens task gaps script nodes → FirstFault task gaps script a → ⊥
      opens_none script nodes a opens (inl x) = takes_none script.take opens.takes a.why x.why_is
      opens_none script nodes a opens (inr x) = body_none script.body nodes 1 (start_branch task script.take) a opens.body_is x.1
