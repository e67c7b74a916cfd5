-- The script that is written for a proof stands for that proof.
use Rattle.std.proofs.Common.{◌≡◌, ℕ, zero, suc, ◌+◌, ◌-◌, ◌*◌, ◌<◌, ◌≤◌, max, List, [], ◌∷◌, ◌++◌, map, length, slice_get, Option, Some, inl, refl, ap, sym, ◌∙◌, subst, arith, append_assoc, unwrap_or}
use Rattle.std.proofs.lemmas.List.{length-map}
use Rattle.std.proofs.lemmas.Option.{slice_get_within}
use Rattle.std.specs.List.{AllByRecursion}
use Rattle.text_core.specs.Names.{Text}
use Rattle.text_core.specs.Lists.{SomeOf}
use Rattle.text_core.proofs.Laws.{each_get, some_back}
use Rattle.logic_core.specs.declared.form.Atom.{Atom}
use Rattle.logic_core.specs.declared.form.Form.{Form}
use Rattle.vernacular_tree.specs.Contexts.{counted, parameters, start_context, with_facts, after_mp}
use Rattle.vernacular_tree.specs.Rules.{IsInstance, StepsThen, Closes, EachProves, Proves}
use Rattle.vernacular_tree.specs.Sizes.{size, sizes, end_size}
use Rattle.vernacular_tree.specs.declared.context.Context.{Context}
use Rattle.vernacular_tree.specs.declared.tree.Mp.{Mp}
use Rattle.vernacular_tree.specs.declared.tree.Body.{Body}
use Rattle.vernacular_tree.specs.declared.tree.End as tree
use Rattle.vernacular_tree.specs.declared.tree.End.{Row_of-Body, end_of-Body, more_of-Body}
use Rattle.vernacular_tree.proofs.Laws.{counted_length}
use Rattle.vernacular_tree.proofs.Laws.{bodies_of, Cs_shut}
use Rattle.coherent_form.specs.Fitting.{FormFits}
use Rattle.coherent_form.specs.Kept.{IsRight, AreVariables, AreVariablesOf}
use Rattle.coherent_form.specs.Labels.{label_of}
use Rattle.coherent_form.specs.Tasks.{CitedTask, no_goal, proof_task}
use Rattle.coherent_form.specs.declared.citation.Citation.TheVariants.{Refl}
use Rattle.proof_text.specs.declared.body.Binding.{Binding}
use Rattle.proof_text.specs.declared.body.CaseText.{CaseText}
use Rattle.proof_text.specs.declared.body.EndText.{EndText}
use Rattle.proof_text.specs.declared.body.EndText.TheBlock.{shape-the_row-CaseText-0}
use Rattle.proof_text.specs.declared.part.Edition as Edition
use Rattle.proof_text.specs.declared.part.Edition.TheVariants.{First, Second}
use Rattle.proof_text.specs.Branches.{Branch, shown_line, given_line}
use Rattle.proof_text.specs.Printing.{printed}
use Rattle.proof_text.specs.ScriptOf.{names_in, form_of, variables_of, binds_of, args_of, after_step_of, step_of, steps_of, after_steps, lists_in, end_of, cases_of, script_of}
use Rattle.proof_text.specs.StandsFor.{Gives, EachGiven, ArgsStand, StepStands, StepsStand, EndStands, CasesStand, Stands}
use Rattle.proof_text.proofs.PrintedNames.{names_append, element_named, elements_named, names_new, start_named, parameters_new}
use Rattle.proof_text.proofs.Rows.{row_of, Cs_opens}

-- an item that is there, by its number
pub get_there : {X : Type 0} (xs : List X) (n : ℕ) (other : X) → n < length xs → slice_get xs n ≡ Some (unwrap_or (slice_get xs n) other)
get_there [] n other below = absurd (omega arith)
get_there (x ∷ xs) zero other below = refl
get_there (x ∷ xs) (suc n) other below = get_there xs n other (omega arith)

-- the variables of a form that is there
pub variables_there : (forms : List Form) (each : List (List Text)) (n : ℕ) (form : Form) → AreVariables forms each → slice_get forms n ≡ Some form
    → (slice_get each n ≡ Some (unwrap_or (slice_get each n) [])) × AreVariablesOf form (unwrap_or (slice_get each n) [])
variables_there [] each n form are is = absurd (cc)
variables_there (f ∷ forms) [] n form are is = absurd are
variables_there (f ∷ forms) (names ∷ each) zero form are is = (refl, subst (λ (g : Form). AreVariablesOf g names) (let same : f ≡ form = cc in same) are.0)
variables_there (f ∷ forms) (names ∷ each) (suc n) form are is = variables_there forms each n form are.1 is

-- the form with a number is the one that the task has
pub form_same : (task : CitedTask) (number : ℕ) (form : Form) → slice_get task.forms number ≡ Some form → form ≡ form_of task number
form_same task number form is = sym (ap (λ (f : Option Form). unwrap_or f no_goal) is)

module _ (task : CitedTask) (most : ℕ) (differ : (a b : ℕ) → a < most → b < most → printed task a ≡ printed task b → a ≡ b) (right : IsRight task) where
  -- a branch of the script, where its names are the printed ones
  abbrev branch_of : Context → Branch
  branch_of context = record { context = context; names = names_in task context }

  -- there are numbers for the elements of so many further applications: each has 64 new ones at most
  abbrev HasRoom : Context → ℕ → Type 0
  HasRoom context applications = context.elements + 64 * applications ≤ most

  -- the bindings that are written give each label its element
  each_given : (n : ℕ) → n ≤ most → (variables : List Text) (binds front : List Binding) (k : ℕ) (args : List ℕ)
      → binds ≡ front ++ binds_of task variables k args → AllByRecursion (λ a. a < n) args
      → EachGiven (map (printed task) (counted 0 n)) binds (map (label_of variables) (counted k (length args))) args
  each_given n fit variables binds front k [] is known = tt
  each_given n fit variables binds front k (a ∷ args) is known =
      let names : List Text = map (printed task) (counted 0 n) in
      let bind : Binding = record { label = label_of variables k; value = printed task a } in
      let here : Gives names (label_of variables k) a bind = record { label_is = refl; value = element_named (printed task) most differ n a fit known.0 } in (
        subst (SomeOf (Gives names (label_of variables k) a)) (sym is)
            (some_back (Gives names (label_of variables k) a) front (bind ∷ binds_of task variables (k + 1) args) (inl here)),
        each_given n fit variables binds (front ++ bind ∷ []) (k + 1) args
            (is ∙ sym (append_assoc front (bind ∷ []) (binds_of task variables (k + 1) args))) known.1,
      )

  -- there are as many bindings as elements
  binds_count : (variables : List Text) (k : ℕ) (args : List ℕ) → length (binds_of task variables k args) ≡ length args
  binds_count variables k [] = refl
  binds_count variables k (a ∷ args) = ap suc (binds_count variables (k + 1) args)

  -- what is written of an instance stands for it
  args_stand : (e : Edition.Edition) (n : ℕ) → n ≤ most → (variables : List Text) (args : List ℕ) → length args ≡ length variables
      → AllByRecursion (λ a. a < n) args → ArgsStand (map (printed task) (counted 0 n)) variables (args_of e task variables args) args
  args_stand First n fit variables args count known = elements_named (printed task) most differ n args fit known
  args_stand Second n fit variables args count known = (
    binds_count variables 0 args ∙ count,
    subst (λ (m : ℕ). EachGiven (map (printed task) (counted 0 n)) (binds_of task variables 0 args) (map (label_of variables) (counted 0 m)) args) count
        (each_given n fit variables (binds_of task variables 0 args) [] 0 args refl known),
  )

  -- the names after a step: those before it, and the new ones
  names_after : (context : Context) (step : Mp) → names_in task (after_step_of task context step)
      ≡ names_in task context ++ map (printed task) (counted context.elements (form_of task step.form).existentials)
  names_after context step = names_append (printed task) context.elements (form_of task step.form).existentials

  -- the form of a step has 64 variables at most
  few_new : (number : ℕ) (form : Form) → slice_get task.forms number ≡ Some form → (form_of task number).existentials ≤ 64
  few_new number form is =
      let fits = each_get (FormFits task.tables) task.forms number form right.forms is in
      let few = fits.narrow.variables in
      subst (λ (f : Form). f.existentials ≤ 64) (form_same task number form is) (omega arith)

  -- the step that is written stands for the step
  step_stands : (e : Edition.Edition) (context : Context) (step : Mp) (form : Form) → HasRoom context 1 → slice_get task.forms step.form ≡ Some form
      → IsInstance context form step.args → StepStands task (branch_of context) (step_of e task context step) step
  step_stands e context step form room is inst =
      let there : step.form < length task.forms = slice_get_within task.forms step.form form is in
      let variables = variables_there task.forms task.variables step.form form right.variables is in
      let fresh : List ℕ = counted context.elements (form_of task step.form).existentials in
      let few = few_new step.form form is in record {
        form = form_of task step.form;
        variables = variables_of task step.form;
        is = record {
          cited = get_there task.citations step.form Refl (let count = right.citations in omega arith);
          form_is = get_there task.forms step.form no_goal there;
          variables_are = variables.0;
        };
        args = args_stand e context.elements (omega arith) (variables_of task step.form) step.args
            (inst.args_known.length_is ∙ sym variables.1.count) inst.args_known.known;
        as_many = length-map fresh (printed task) ∙ counted_length context.elements (form_of task step.form).existentials;
        new = names_new (printed task) most differ context.elements (form_of task step.form).existentials (omega arith);
        shown = ap (λ (names : List Text). shown_line task.tables names (given_line context (form_of task step.form) step.args)) (names_after context step);
      }

  -- the steps that are written stand for the steps, where what follows stands for what follows
  steps_stand : (e : Edition.Edition) (steps : List Mp) (P : Context → Type 0) (Q : Branch → Type 0) (further : ℕ) (context : Context)
      → HasRoom context (length steps + further)
      → (HasRoom (after_steps task steps context) further → P (after_steps task steps context) → Q (branch_of (after_steps task steps context)))
      → StepsThen (proof_task task) steps P context → StepsStand task (steps_of e task steps context) steps Q (branch_of context)
  unfolding step_stands
  steps_stand e [] P Q further context room go h = go (omega arith) h
  steps_stand e (step ∷ steps) P Q further context room go h =
      let next : Context = after_step_of task context step in
      let rest : StepsThen (proof_task task) steps P next
      = subst (λ (f : Form). StepsThen (proof_task task) steps P (after_mp context f step.args)) (form_same task step.form h.0 h.1) h.3 in
      let few = few_new step.form h.0 h.1 in (
        step_stands e context step h.0 (omega arith) h.1 h.2,
        subst (λ (names : List Text). StepsStand task (steps_of e task steps next) steps Q (record { context = next; names = names })) (names_after context step)
            (steps_stand e steps P Q further next (omega arith) go rest),
      )

  mutual
    unfolding row_of shape-the_row-CaseText-0

    -- the end that is written stands for the end
    end_stands : (e : Edition.Edition) (end : tree.End) (context : Context) → HasRoom context (end_size end) → Closes (proof_task task) end context
        → EndStands task (end_of e task end context) end (branch_of context)
    end_stands e (tree.As disjunct args) context room h =
        (args, refl, elements_named (printed task) most differ context.elements args (omega arith) h.args_known.known)
    end_stands e tree.Efq context room h = refl
    end_stands e (tree.Cs' number s row) context room h =
        let cases : List CaseText = cases_of e task row (lists_in (slice_get context.lines number)) context in
        let lists : lists_in (slice_get context.lines number) ≡ h.0 = ap lists_in h.1 in
        let stand : CasesStand task (row_of cases) (bodies_of row) h.0 (branch_of context)
        = subst (λ (ls : List (List Atom)). CasesStand task (row_of (cases_of e task row ls context)) (bodies_of row) h.0 (branch_of context)) (sym lists)
        (cases_stand e row h.0 context (omega arith) h.2) in
        subst (λ (t : EndText). EndStands task t (tree.Cs' number s row) (branch_of context)) (sym (Cs_opens number cases))
        (bodies_of row, h.0, Cs_shut number s row, h.1, stand)

    -- the cases that are written stand for the branches
    cases_stand : {n : _} (e : Edition.Edition) (row : Row_of-Body n) (lists : List (List Atom)) (context : Context) → HasRoom context (sizes row)
        → EachProves (proof_task task) row lists context → CasesStand task (row_of (cases_of e task row lists context)) (bodies_of row) lists (branch_of context)
    cases_stand e end_of-Body lists context room h = (refl, h)
    cases_stand e (more_of-Body steps end rest) lists context room h =
        let inner : Context = with_facts context h.0 in
        subst (λ (ls : List (List Atom)). CasesStand task (row_of (cases_of e task (more_of-Body steps end rest) ls context))
        (record { steps = steps; end = end } ∷ bodies_of rest) ls (branch_of context)) (sym h.2) (
          record { steps = steps; end = end },
          bodies_of rest,
          h.0,
          h.1,
          refl,
          refl,
          refl,
          steps_stand e steps (Closes (proof_task task) end) (EndStands task (end_of e task end (after_steps task steps inner)) end) (end_size end) inner
              (omega arith) (end_stands e end (after_steps task steps inner)) h.3,
          cases_stand e rest h.1 context (omega arith) h.4,
        )

  -- the script that is written for a proof stands for it
  pub script_stands : (e : Edition.Edition) (body : Body) → max 1 (length task.tables.constants + task.goal.universals) + 64 * size body ≤ most
      → Proves (proof_task task) body → Stands task (script_of e task body) body
  script_stands e body room h =
      let context : Context = start_context (proof_task task) in
      let take : List Text = map (printed task) (parameters (proof_task task)) in record {
        takes = record {
          as_many = length-map (parameters (proof_task task)) (printed task)
              ∙ counted_length ((proof_task task).start - task.goal.universals) task.goal.universals;
          new = parameters_new task.tables.constants most differ task.goal.universals (omega arith);
        };
        body_is = subst (λ (names : List Text). StepsStand task (steps_of e task body.steps context) body.steps
            (EndStands task (end_of e task body.end (after_steps task body.steps context)) body.end) (record { context = context; names = names }))
            (sym (start_named task.tables.constants task.goal.universals))
            (steps_stand e body.steps (Closes (proof_task task) body.end) (EndStands task (end_of e task body.end (after_steps task body.steps context)) body.end)
            (end_size body.end) context room (end_stands e body.end (after_steps task body.steps context)) h);
      }
