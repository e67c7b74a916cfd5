-- The script that is written for a proof has what each script has.
use Rattle.std.proofs.Common.{◌≡◌, ℕ, zero, suc, ◌+◌, ◌<◌, ◌≤◌, max, true, List, [], ◌∷◌, ◌++◌, map, length, slice_get, Option, Some, refl, ap, sym, ◌∙◌, subst, arith, unwrap_or}
use Rattle.std.specs.Option.{option_map}
use Rattle.std.proofs.lemmas.List.{length-map}
use Rattle.std.specs.List.{AllByRecursion}
use Rattle.text_core.specs.Names.{Text}
use Rattle.text_core.specs.NameTexts.{is_upper_word}
use Rattle.text_core.specs.Numbered.{Symbol, Tables}
use Rattle.text_core.proofs.Laws.{each_get, each_mapped}
use Rattle.logic_core.specs.declared.form.Atom.{Atom}
use Rattle.logic_core.specs.declared.form.Form.{Form}
use Rattle.vernacular_tree.specs.Contexts.{counted, start_context, with_facts}
use Rattle.vernacular_tree.specs.Preorders.{IsBounded as IsSmall}
use Rattle.vernacular_tree.specs.Rules.{Closes, EachProves, Proves}
use Rattle.vernacular_tree.specs.Sizes as tree_sizes
use Rattle.vernacular_tree.specs.declared.context.Line as Line
use Rattle.vernacular_tree.specs.declared.context.Line.TheVariants as line
use Rattle.vernacular_tree.specs.declared.context.Context.{Context}
use Rattle.vernacular_tree.specs.declared.tree.Mp.{Mp}
use Rattle.vernacular_tree.specs.declared.tree.Body.{Body}
use Rattle.vernacular_tree.specs.declared.tree.End as tree
use Rattle.vernacular_tree.specs.declared.tree.End.{Row_of-Body, end_of-Body, more_of-Body}
use Rattle.coherent_form.specs.BuiltIns.{arity_in}
use Rattle.coherent_form.specs.Kept.{IsRight}
use Rattle.coherent_form.specs.Tasks.{CitedTask, proof_task}
use Rattle.proof_text.specs.declared.body.EndText.TheBlock.{shape-the_row-CaseText-0}
use Rattle.proof_text.specs.declared.part.Edition as Edition
use Rattle.proof_text.specs.declared.part.Edition.TheVariants.{First, Second}
use Rattle.proof_text.specs.Branches.{predicate_of, slot_name, named_atom, named_facts, shown_line, given_line}
use Rattle.proof_text.specs.Showing.{FactFits, LineFits, IsInside, MayStep, MaySteps}
use Rattle.proof_text.specs.Proper.{HasArguments, AtomIsProper, AtomsAreProper, HasTwo, LineIsProper, BindIsProper, ArgsAreProper, StepIsProper, HasCase, EndIsProper, CasesAreProper, IsProper}
use Rattle.proof_text.specs.ScriptOf.{names_in, form_of, variables_of, binds_of, args_of, after_step_of, step_of, steps_of, after_steps, lists_in, first_list, other_lists, end_of, cases_of, script_of}
use Rattle.proof_text.specs.Sizes.{end_size, case_sizes, end_nesting, greatest_nesting}
use Rattle.proof_text.proofs.Inside.{given_fits, cases_inside, case_fits, lists_fit, start_inside, steps_reach, steps_may, step_may, next_may, steps_inside}
use Rattle.proof_text.proofs.Rows.{row_of, Cs_opens}
use Rattle.proof_text.proofs.ScriptStands.{get_there, variables_there, form_same}

-- an atom with as many arguments as its symbol asks for is proper
arguments_proper : (tables : Tables) (symbol : ℕ) (args : List Text) → symbol < length tables.symbols + 1 → length args ≡ arity_in tables symbol
    → HasArguments (predicate_of tables symbol) args
arguments_proper tables zero args there count = count
arguments_proper tables (suc n) args there count =
    subst (λ (o : Option Symbol). HasArguments (option_map (λ symbol. symbol.name) o) args)
    (sym (get_there tables.symbols n (record { name = []; arity = 0 }) (omega arith))) tt

-- facts that fit are shown properly
pub facts_proper : (tables : Tables) (names : List Text) (facts : List Atom) → AllByRecursion (FactFits tables) facts
    → AtomsAreProper (named_facts tables names facts)
facts_proper tables names facts h =
    each_mapped AtomIsProper (named_atom tables names)
    (λ fact fit also. arguments_proper tables fact.symbol (map (slot_name names) fact.args) fit.fits.there
    (length-map fact.args (slot_name names) ∙ fit.fits.arity)) facts h h

-- images are two or more where there are two or more
two_mapped : {X Y : Type 0} (f : X → Y) (xs : List X) → HasTwo xs → HasTwo (map f xs)
two_mapped f [] h = h
two_mapped f (x ∷ []) h = h
two_mapped f (x ∷ y ∷ xs) h = tt

-- a line that fits is shown properly
pub line_proper : (tables : Tables) (names : List Text) (l : Line.Line) → LineFits tables l → LineIsProper (shown_line tables names l)
line_proper tables names (line.Facts facts) h = facts_proper tables names facts h
line_proper tables names (line.Cases lists) h = (
  two_mapped (named_facts tables names) lists h.0,
  each_mapped AtomsAreProper (named_facts tables names) (λ facts fit also. facts_proper tables names facts fit) lists h.1 h.1,
)
line_proper tables names line.Falsum h = tt

module _ (task : CitedTask) (right : IsRight task) where
  -- bindings of variables that are upper words are proper
  binds_proper : (variables : List Text) → AllByRecursion (λ name. is_upper_word name ≡ true) variables → (k : ℕ) (args : List ℕ)
      → k + length args ≤ length variables → AllByRecursion BindIsProper (binds_of task variables k args)
  binds_proper variables words k [] fit = tt
  binds_proper variables words k (a ∷ args) fit =
      let there : slice_get variables k ≡ Some (unwrap_or (slice_get variables k) []) = get_there variables k [] (omega arith) in (
        rw there (each_get (λ name. is_upper_word name ≡ true) variables k (unwrap_or (slice_get variables k) []) words there),
        binds_proper variables words (k + 1) args (omega arith),
      )

  -- what is written of an instance is proper
  args_proper : (e : Edition.Edition) (variables : List Text) → AllByRecursion (λ name. is_upper_word name ≡ true) variables → (args : List ℕ)
      → length args ≤ length variables → ArgsAreProper e (args_of e task variables args)
  args_proper First variables words args fit = tt
  args_proper Second variables words args fit = binds_proper variables words 0 args (omega arith)

  -- the step that is written is proper
  step_proper : (e : Edition.Edition) (context : Context) (step : Mp) → MayStep task context step → StepIsProper e (step_of e task context step)
  step_proper e context step may =
      let variables = variables_there task.forms task.variables step.form may.0 right.variables may.1 in
      let count = may.2.args_known.length_is in
      let as_many = variables.1.count in
      let same : may.0 ≡ form_of task step.form = form_same task step.form may.0 may.1 in
      let there : slice_get task.forms step.form ≡ Some (form_of task step.form) = may.1 ∙ ap (λ (f : Form). Some f) same in (
        args_proper e (variables_of task step.form) variables.1.words step.args (omega arith),
        line_proper task.tables (names_in task (after_step_of task context step)) (given_line context (form_of task step.form) step.args)
            (given_fits task right (form_of task step.form) step.form
            (step.args ++ counted context.elements (form_of task step.form).existentials) there),
      )

  -- the steps that are written are proper
  steps_proper : (e : Edition.Edition) (steps : List Mp) (context : Context) → MaySteps task steps context
      → AllByRecursion (StepIsProper e) (steps_of e task steps context)
  steps_proper e [] context may = tt
  steps_proper e (step ∷ steps) context may =
      (step_proper e context step (step_may task step steps context may), steps_proper e steps (after_step_of task context step) (next_may task step steps context may))

  -- there is a case for each branch
  has_case : {n : _} (e : Edition.Edition) (row : Row_of-Body n) (lists ls : List (List Atom)) (context : Context) → HasTwo lists
      → EachProves (proof_task task) row lists context → HasCase (row_of (cases_of e task row ls context))
  unfolding row_of shape-the_row-CaseText-0
  has_case e end_of-Body lists ls context two h = subst HasTwo h two
  has_case e (more_of-Body steps end rest) lists ls context two h = tt

  mutual
    unfolding row_of shape-the_row-CaseText-0

    -- the end that is written is proper
    end_proper : (e : Edition.Edition) (end : tree.End) (context : Context) → IsInside task context → Closes (proof_task task) end context
        → EndIsProper e (end_of e task end context)
    end_proper e (tree.As disjunct args) context inside h = tt
    end_proper e tree.Efq context inside h = tt
    end_proper e (tree.Cs' number s row) context inside h =
        let ls : List (List Atom) = lists_in (slice_get context.lines number) in
        let lists : ls ≡ h.0 = ap lists_in h.1 in
        let fit = lists_fit task context number h.0 inside h.1 in
        subst (EndIsProper e) (sym (Cs_opens number (cases_of e task row ls context))) (
          has_case e row h.0 ls context fit.0 h.2,
          subst (λ (gs : List (List Atom)). CasesAreProper e (row_of (cases_of e task row gs context))) (sym lists)
              (cases_proper e row h.0 context (cases_inside task context number h.0 inside h.1) h.2),
        )

    -- the cases that are written are proper
    cases_proper : {n : _} (e : Edition.Edition) (row : Row_of-Body n) (lists : List (List Atom)) (context : Context)
        → AllByRecursion (λ facts. IsInside task (with_facts context facts)) lists → EachProves (proof_task task) row lists context
        → CasesAreProper e (row_of (cases_of e task row lists context))
    cases_proper e end_of-Body lists context inside h = tt
    cases_proper e (more_of-Body steps end rest) lists context inside h =
        let inner : Context = with_facts context h.0 in
        let each : AllByRecursion (λ facts. IsInside task (with_facts context facts)) (h.0 ∷ h.1)
        = subst (AllByRecursion (λ facts. IsInside task (with_facts context facts))) h.2 inside in
        let may = steps_may task steps (Closes (proof_task task) end) inner h.3 in
        subst (λ (ls : List (List Atom)). CasesAreProper e (row_of (cases_of e task (more_of-Body steps end rest) ls context))) (sym h.2) (
          facts_proper task.tables (names_in task context) h.0 (case_fits task context h.0 each.0),
          steps_proper e steps inner may,
          end_proper e end (after_steps task steps inner) (steps_inside task right steps inner each.0 may)
              (steps_reach task steps (Closes (proof_task task) end) inner h.3),
          cases_proper e rest h.1 context each.1 h.4,
        )

-- as many steps are written as there are
steps_count : (e : Edition.Edition) (task : CitedTask) (steps : List Mp) (context : Context) → length (steps_of e task steps context) ≡ length steps
steps_count e task [] context = refl
steps_count e task (step ∷ steps) context = ap suc (steps_count e task steps (after_step_of task context step))

mutual
  unfolding row_of shape-the_row-CaseText-0

  -- the end that is written has the size of the end
  end_size_is : (e : Edition.Edition) (task : CitedTask) (end : tree.End) (context : Context) → end_size (end_of e task end context) ≡ tree_sizes.end_size end
  end_size_is e task (tree.As disjunct args) context = refl
  end_size_is e task tree.Efq context = refl
  end_size_is e task (tree.Cs' number s row) context =
      let ls : List (List Atom) = lists_in (slice_get context.lines number) in
      ap end_size (Cs_opens number (cases_of e task row ls context)) ∙ ap (λ (k : ℕ). 1 + k) (cases_size_is e task row ls context)

  -- the cases that are written have the size of the branches
  cases_size_is : {n : _} (e : Edition.Edition) (task : CitedTask) (row : Row_of-Body n) (lists : List (List Atom)) (context : Context)
      → case_sizes (row_of (cases_of e task row lists context)) ≡ tree_sizes.sizes row
  cases_size_is e task end_of-Body lists context = refl
  cases_size_is e task (more_of-Body steps end rest) lists context =
      let inner : Context = with_facts context (first_list lists) in
      let count = steps_count e task steps inner in
      let last = end_size_is e task end (after_steps task steps inner) in
      let others = cases_size_is e task rest (other_lists lists) context in λ i. count i + last i + others i

mutual
  unfolding row_of shape-the_row-CaseText-0

  -- the end that is written is nested as deep as the end
  end_nesting_is : (e : Edition.Edition) (task : CitedTask) (end : tree.End) (context : Context)
      → end_nesting (end_of e task end context) ≡ tree_sizes.end_nesting end
  end_nesting_is e task (tree.As disjunct args) context = refl
  end_nesting_is e task tree.Efq context = refl
  end_nesting_is e task (tree.Cs' number s row) context =
      let ls : List (List Atom) = lists_in (slice_get context.lines number) in
      ap end_nesting (Cs_opens number (cases_of e task row ls context)) ∙ ap (λ (k : ℕ). 1 + k) (cases_nesting_is e task row ls context)

  -- the cases that are written are nested as deep as the branches
  cases_nesting_is : {n : _} (e : Edition.Edition) (task : CitedTask) (row : Row_of-Body n) (lists : List (List Atom)) (context : Context)
      → greatest_nesting (row_of (cases_of e task row lists context)) ≡ tree_sizes.greatest_nesting row
  cases_nesting_is e task end_of-Body lists context = refl
  cases_nesting_is e task (more_of-Body steps end rest) lists context =
      let inner : Context = with_facts context (first_list lists) in
      let last = end_nesting_is e task end (after_steps task steps inner) in
      let others = cases_nesting_is e task rest (other_lists lists) context in λ i. max (last i) (others i)

-- the script that is written for a proof is proper
pub script_proper : (e : Edition.Edition) (task : CitedTask) (body : Body) → IsRight task → IsSmall body → Proves (proof_task task) body
    → IsProper (script_of e task body)
script_proper e task body right small h =
    let context : Context = start_context (proof_task task) in
    let may = steps_may task body.steps (Closes (proof_task task) body.end) context h in
    let inside = steps_inside task right body.steps context (start_inside task right) may in
    let count : length (steps_of e task body.steps context) ≡ length body.steps = steps_count e task body.steps context in
    let size_is = end_size_is e task body.end (after_steps task body.steps context) in
    let nesting_is = end_nesting_is e task body.end (after_steps task body.steps context) in
    let few = small.small in
    let low = small.shallow in record {
      edition = e;
      version = refl;
      body = (
        steps_proper task right e body.steps context may,
        end_proper task right e body.end (after_steps task body.steps context) inside
            (steps_reach task body.steps (Closes (proof_task task) body.end) context h),
      );
      bounded = record { small = omega arith; shallow = omega arith };
    }
