-- Where a task of a problem is proved, the conjecture follows.
use Rattle.std.proofs.Common.{◌≡◌, ℕ, ◌≤◌, ◌⊎◌, inl, inr, Bool, true, false, if◌then◌else◌, List, [], ◌∷◌, ◌++◌, map, length, slice_get, Some, refl, sym, subst, arith}
use Rattle.std.specs.Prelude.{unwrap_or}
use Rattle.std.specs.List.{AllByRecursion}
use Rattle.text_core.specs.Lists.{SomeOf}
use Rattle.text_core.specs.Names.{Text}
use Rattle.text_core.specs.Numbered.{Tables, text_or_empty}
use Rattle.text_core.proofs.Laws.{each_append, each_map}
use Rattle.logic_core.specs.Allowed.{FofIsAllowed}
use Rattle.logic_core.specs.Truth.{Structure, IsTrueIn}
use Rattle.logic_core.specs.Forms.{IsWellFormed, FormTrue, interpretation}
use Rattle.logic_core.specs.Problems.{IfPremise, IfConjecture, Follows}
use Rattle.logic_core.specs.declared.problem.Fof.{Fof}
use Rattle.logic_core.specs.declared.problem.Role.{Role}
use Rattle.logic_core.specs.declared.problem.Role.TheVariants.{Axiom, Hypothesis, Definition, Assumption, Lemma, Theorem, Corollary, NegatedConjecture, Conjecture}
use Rattle.logic_core.specs.declared.form.Form.{Form}
use Rattle.vernacular_tree.specs.Rules.{Proves}
use Rattle.vernacular_tree.specs.Tasks.{IsTask}
use Rattle.vernacular_tree.specs.declared.tree.Body.{Body}
use Rattle.vernacular_tree.proofs.Laws.{goal_true}
use Rattle.coherent_form.specs.BuiltIns.{built_ins, built_in_form}
use Rattle.coherent_form.specs.Labels.{universal_names}
use Rattle.coherent_form.specs.Reading.{Extends}
use Rattle.coherent_form.specs.Tasks.{CitedTask, Progress, nothing_read, is_conjecture, no_goal, tables_after, forms_behind, after_formula, after_formulas, IsTaken, AreTaken, task_of, IsTaskOf, proof_task, further}
use Rattle.coherent_form.specs.Wide.{Reads}
use Rattle.coherent_form.specs.declared.source.BuiltIn.{BuiltIn}
use Rattle.coherent_form.proofs.Below.{each_image}
use Rattle.coherent_form.proofs.Fits.{formed_longer}
use Rattle.coherent_form.proofs.Meanings.{Same}
use Rattle.coherent_form.proofs.Names.{extends_same, extends_more, with_names_extends}
use Rattle.coherent_form.proofs.Readings.{forms_formed, forms_same}

-- a formula that is no conjecture is a premise
premise_if : (role : Role) (P : Type 0) → is_conjecture role ≡ false → IfPremise role P → P
premise_if Axiom P not_one h = h
premise_if Hypothesis P not_one h = h
premise_if Definition P not_one h = h
premise_if Assumption P not_one h = h
premise_if Lemma P not_one h = h
premise_if Theorem P not_one h = h
premise_if Corollary P not_one h = h
premise_if NegatedConjecture P not_one h = h
premise_if Conjecture P not_one h = absurd (cc)

-- and a conjecture is one
conjecture_if : (role : Role) (P : Type 0) → is_conjecture role ≡ true → P → IfConjecture role P
conjecture_if Axiom P is_one h = absurd (cc)
conjecture_if Hypothesis P is_one h = absurd (cc)
conjecture_if Definition P is_one h = absurd (cc)
conjecture_if Assumption P is_one h = absurd (cc)
conjecture_if Lemma P is_one h = absurd (cc)
conjecture_if Theorem P is_one h = absurd (cc)
conjecture_if Corollary P is_one h = absurd (cc)
conjecture_if NegatedConjecture P is_one h = absurd (cc)
conjecture_if Conjecture P is_one h = h

-- what is given after a formula, by a test of its role
module _ (p : Progress) (fof : Fof) where
  -- what is given after a conjecture
  abbrev pub with_goal : Progress
  with_goal = record {
    tables = tables_after p fof;
    forms = p.forms;
    citations = p.citations;
    variables = p.variables;
    goal = Some (unwrap_or (slice_get (forms_behind p fof) 0) no_goal);
  }

  -- and after a premise
  abbrev pub with_forms : Progress
  with_forms = record {
    tables = tables_after p fof;
    forms = p.forms ++ forms_behind p fof;
    citations = p.citations ++ further fof.name p.citations (length (forms_behind p fof));
    variables = p.variables ++ universal_names fof.formula;
    goal = p.goal;
  }

  -- what holds in both cases holds after a formula
  pub after_by : (P : Progress → Type 0) → (is_conjecture fof.role ≡ true → P with_goal) → (is_conjecture fof.role ≡ false → P with_forms) → P (after_formula p fof)
  after_by P conjecture premise = go (is_conjecture fof.role) conjecture premise
    where
      go : (b : Bool) → (b ≡ true → P with_goal) → (b ≡ false → P with_forms) → P (if b then with_goal else with_forms)
      go true conjecture premise = conjecture refl
      go false conjecture premise = premise refl

  -- the tables are those after the formula
  after_tables : (after_formula p fof).tables ≡ tables_after p fof
  after_tables = after_by (λ q. q.tables ≡ tables_after p fof) (λ is_one. refl) (λ not_one. refl)

  -- and longer than before
  after_extends : Extends p.tables (after_formula p fof).tables
  after_extends = subst (Extends p.tables) (sym after_tables) (with_names_extends fof.formula p.tables)

  -- a formula that is taken is read so
  taken_reads : IsTaken p fof → Reads p.tables fof.formula (forms_behind p fof) (tables_after p fof)
  taken_reads taken = record {
    coherent = taken.fits.read.readable.coherent;
    after_is = refl;
    forms_are = refl;
    narrow = taken.fits.read.readable.narrow (tables_after p fof);
  }

-- tables after formulas are longer than before
after_all_extends : (p : Progress) (fofs : List Fof) → Extends p.tables (after_formulas p fofs).tables
after_all_extends p [] = extends_same p.tables
after_all_extends p (fof ∷ fofs) =
    extends_more p.tables (after_formula p fof).tables (after_formulas (after_formula p fof) fofs).tables (after_extends p fof) (after_all_extends (after_formula p fof) fofs)

-- a form of a conjecture that gives at most one, or the goal without one, has what each form has
goal_has : (P : Form → Type 0) → P no_goal → (forms : List Form) → AllByRecursion P forms → P (unwrap_or (slice_get forms 0) no_goal)
goal_has P none [] h = none
goal_has P none (form ∷ forms) h = h.0

-- where it is at most one, each form has what the goal has
forms_have_goal : (P : Form → Type 0) (forms : List Form) → length forms ≤ 1 → P (unwrap_or (slice_get forms 0) no_goal) → AllByRecursion P forms
forms_have_goal P [] few h = tt
forms_have_goal P (form ∷ []) few h = (h, tt)
forms_have_goal P (form ∷ more ∷ forms) few h = absurd (omega arith)

-- the goal without a conjecture is well-formed
no_goal_formed : (constants : ℕ) → IsWellFormed constants no_goal
no_goal_formed constants = record { premises = tt; disjuncts = tt }

-- in a structure, for tables that are longer than those of the formulas
module _ (s : Structure) (some : ℕ) (inhabited : s.element some) (longer : Tables) where
  -- a form is true
  abbrev IsTrueHere : Form → Type 0
  IsTrueHere form = FormTrue (interpretation s longer) form

  -- a form is well-formed
  abbrev IsFormedHere : Form → Type 0
  IsFormedHere form = IsWellFormed (length longer.constants) form

  -- the forms are true and well-formed, and the goal is well-formed
  record AreRight (p : Progress) : Type 0 where
    true_forms : AllByRecursion IsTrueHere p.forms
    formed : AllByRecursion IsFormedHere p.forms
    goal : IsFormedHere (unwrap_or p.goal no_goal)

  module _ (p : Progress) (fof : Fof) (taken : IsTaken p fof) (allowed : FofIsAllowed fof) (extends : Extends (tables_after p fof) longer) where
    -- the forms of a formula are well-formed
    behind_formed : AllByRecursion IsFormedHere (forms_behind p fof)
    behind_formed = each_map {Q = IsFormedHere} (formed_longer (tables_after p fof) longer extends) (forms_behind p fof)
        (forms_formed p.tables (tables_after p fof) fof.formula (forms_behind p fof) (taken_reads p fof taken) allowed.closed)

    -- a formula is true where its forms are
    behind_same : Same (IsTrueIn s fof.formula []) (AllByRecursion IsTrueHere (forms_behind p fof))
    behind_same = forms_same p.tables (tables_after p fof) fof.formula (forms_behind p fof) (taken_reads p fof taken) allowed.closed s longer extends some inhabited

    -- all is right after a formula, where it is true if it is a premise
    right_after : IfPremise fof.role (IsTrueIn s fof.formula []) → AreRight p → AreRight (after_formula p fof)
    right_after premise right = after_by p fof AreRight
        (λ is_one. record { true_forms = right.true_forms; formed = right.formed; goal = goal_has IsFormedHere (no_goal_formed (length longer.constants)) (forms_behind p fof) behind_formed })
        (λ not_one. record {
          true_forms = each_append IsTrueHere p.forms (forms_behind p fof) right.true_forms (behind_same.0 (premise_if fof.role (IsTrueIn s fof.formula []) not_one premise));
          formed = each_append IsFormedHere p.forms (forms_behind p fof) right.formed behind_formed;
          goal = right.goal;
        })

    -- where the goal is true after it, the goal was true before it, or it is a true conjecture
    goal_before : IsTrueHere (unwrap_or (after_formula p fof).goal no_goal)
        → IsTrueHere (unwrap_or p.goal no_goal) ⊎ IfConjecture fof.role (IsTrueIn s fof.formula [])
    goal_before = after_by p fof (λ q. IsTrueHere (unwrap_or q.goal no_goal) → IsTrueHere (unwrap_or p.goal no_goal) ⊎ IfConjecture fof.role (IsTrueIn s fof.formula []))
        (λ is_one holds. inr (conjecture_if fof.role (IsTrueIn s fof.formula []) is_one
        (behind_same.1 (forms_have_goal IsTrueHere (forms_behind p fof) (taken.single is_one) holds))))
        (λ not_one holds. inl holds)

  -- the tables after a formula of several
  first_extends : (p : Progress) (fof : Fof) (fofs : List Fof) → Extends (after_formulas (after_formula p fof) fofs).tables longer → Extends (tables_after p fof) longer
  first_extends p fof fofs extends =
      subst (λ tables. Extends tables longer) (after_tables p fof)
      (extends_more (after_formula p fof).tables (after_formulas (after_formula p fof) fofs).tables longer (after_all_extends (after_formula p fof) fofs) extends)

  -- all is right after formulas whose premises are true
  right_after_all : (p : Progress) (fofs : List Fof) → AreTaken p fofs → AllByRecursion FofIsAllowed fofs → Extends (after_formulas p fofs).tables longer
      → AllByRecursion (λ fof. IfPremise fof.role (IsTrueIn s fof.formula [])) fofs → AreRight p → AreRight (after_formulas p fofs)
  right_after_all p [] taken allowed extends premises right = right
  right_after_all p (fof ∷ fofs) taken allowed extends premises right =
      right_after_all (after_formula p fof) fofs taken.1 allowed.1 extends premises.1
      (right_after p fof taken.0 allowed.0 (first_extends p fof fofs extends) premises.0 right)

  -- where the goal is true after formulas, it was true before them, or some conjecture is true
  goal_before_all : (p : Progress) (fofs : List Fof) → AreTaken p fofs → AllByRecursion FofIsAllowed fofs → Extends (after_formulas p fofs).tables longer
      → IsTrueHere (unwrap_or (after_formulas p fofs).goal no_goal)
      → IsTrueHere (unwrap_or p.goal no_goal) ⊎ SomeOf (λ fof. IfConjecture fof.role (IsTrueIn s fof.formula [])) fofs
  goal_before_all p [] taken allowed extends holds = inl holds
  goal_before_all p (fof ∷ fofs) taken allowed extends holds =
      elim (goal_before_all (after_formula p fof) fofs taken.1 allowed.1 extends holds) [
        | inl goal ↦ elim (goal_before p fof taken.0 allowed.0 (first_extends p fof fofs extends) goal) [ inl before ↦ inl before | inr first ↦ inr (inl first) ]
        | inr later ↦ inr (inr later)
      ]

-- each image has Q, where Q holds of the image of everything
each_image_of : {X Y : Type 0} (Q : Y → Type 0) (f : X → Y) → ((x : X) → Q (f x)) → (xs : List X) → AllByRecursion Q (map f xs)
each_image_of Q f h [] = tt
each_image_of Q f h (x ∷ xs) = (h x, each_image_of Q f h xs)

-- the goal without a conjecture is false
no_goal_false : (s : Structure) (tables : Tables) → FormTrue (interpretation s tables) no_goal → ⊥
no_goal_false s tables holds = (holds [] (record { length_is = refl; are = tt }) tt).holds

-- where the built-in axioms are true and well-formed
module _ (built_in_true : (s : Structure) (tables : Tables) (b : BuiltIn) → FormTrue (interpretation s tables) (built_in_form tables b))
    (built_ins_formed : (tables : Tables) (forms : List Form) (constants : ℕ) → AllByRecursion (λ b. IsWellFormed constants (built_in_form tables b)) (built_ins tables forms)) where
  module _ (s : Structure) (placed : (c : Text) → s.element (s.place c)) (some : ℕ) (inhabited : s.element some) where
    -- the conjecture follows where the task of what was read is proved
    follows_read : (problem : List Fof) (body : Body) → AllByRecursion FofIsAllowed problem → AreTaken nothing_read problem
        → Proves (proof_task (task_of (after_formulas nothing_read problem))) body → Follows s problem
    follows_read problem body allowed taken proves premises =
        let p = after_formulas nothing_read problem in
        let i = interpretation s p.tables in
        let goal = unwrap_or p.goal no_goal in
        let axioms = built_ins p.tables (goal ∷ p.forms) in
        let right = right_after_all s some inhabited p.tables nothing_read problem taken allowed (extends_same p.tables) premises
        (record { true_forms = tt; formed = tt; goal = no_goal_formed (length p.tables.constants) }) in
        let forms_true : AllByRecursion (FormTrue i) (task_of p).forms
        = each_append (FormTrue i) p.forms (map (built_in_form p.tables) axioms) right.true_forms (each_image_of (FormTrue i) (built_in_form p.tables) (built_in_true s p.tables) axioms) in
        let forms_right : AllByRecursion (IsWellFormed (length p.tables.constants)) (task_of p).forms
        = each_append (IsWellFormed (length p.tables.constants)) p.forms (map (built_in_form p.tables) axioms) right.formed
        (each_image (IsWellFormed (length p.tables.constants)) (built_in_form p.tables) (λ b h. h) axioms (built_ins_formed p.tables (goal ∷ p.forms) (length p.tables.constants))) in
        let task : IsTask (length p.tables.constants) (proof_task (task_of p)) = record { forms = forms_right; goal = right.goal; start = refl } in
        let goal_holds : FormTrue i goal = λ universals given premises_hold. goal_true i (length p.tables.constants) (proof_task (task_of p)) task universals
        (λ c. placed (text_or_empty (slice_get p.tables.constants c))) some inhabited given premises_hold forms_true body proves in
        elim (goal_before_all s some inhabited p.tables nothing_read problem taken allowed (extends_same p.tables) goal_holds) [
          | inl none ↦ absurd (no_goal_false s p.tables none)
          | inr conjecture ↦ conjecture
        ]

    -- the conjecture follows where the task of a problem is proved
    pub proved_follows : (problem : List Fof) (task : CitedTask) (body : Body) → AllByRecursion FofIsAllowed problem → IsTaskOf problem task
        → Proves (proof_task task) body → Follows s problem
    proved_follows problem task body allowed is proves =
        follows_read problem body allowed is.taken (subst (λ t. Proves (proof_task t) body) is.task_is proves)
