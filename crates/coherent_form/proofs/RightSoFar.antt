-- What holds of each progress through a problem, and that the task of what was read is right.
use Rattle.std.proofs.Common.{◌≡◌, ℕ, zero, suc, ◌+◌, ◌≤◌, ◌<◌, Bool, true, false, if◌then◌else◌, List, [], ◌∷◌, ◌++◌, map, length, slice_get, Some, refl, ap, ◌∙◌, arith, length-append}
use Rattle.std.proofs.lemmas.List.{length-map}
use Rattle.std.specs.Prelude.{unwrap_or}
use Rattle.std.specs.List.{AllByRecursion}
use Rattle.text_core.specs.Numbered.{Tables}
use Rattle.text_core.specs.declared.limits.TheConstants.{MOST_ARGUMENTS, MOST_PLACES}
use Rattle.text_core.proofs.Laws.{each_map, each_append}
use Rattle.logic_core.specs.Allowed.{FofIsAllowed}
use Rattle.logic_core.specs.declared.form.Form.{Form}
use Rattle.logic_core.specs.declared.problem.Fof.{Fof}
use Rattle.vernacular_tree.specs.Contexts.{counted}
use Rattle.coherent_form.specs.BuiltIns.{built_ins, built_in_form, built_in_names, built_in_citation}
use Rattle.coherent_form.specs.Fitting.{FormFits}
use Rattle.coherent_form.specs.Kept.{AreVariables, IsRight}
use Rattle.coherent_form.specs.Labels.{universal_names}
use Rattle.coherent_form.specs.Reading.{Extends}
use Rattle.coherent_form.specs.Tasks.{Progress, nothing_read, is_conjecture, no_goal, further, tables_after, forms_behind, after_formula, places, AreFew, IsTaken, task_of}
use Rattle.coherent_form.specs.Wide.{Reads}
use Rattle.coherent_form.specs.declared.source.BuiltIn.{BuiltIn}
use Rattle.coherent_form.proofs.Fits.{fit_longer, reads_fit}
use Rattle.coherent_form.proofs.BuiltInLaws.{built_ins_fit, built_ins_few, built_in_variables}
use Rattle.coherent_form.specs.declared.limits.TheConstants.{MOST_SYMBOLS, MOST_CONSTANTS, TASK_FORMS_BELOW}
use Rattle.coherent_form.proofs.Arities.{reads_arities}
use Rattle.coherent_form.proofs.Below.{each_image}
use Rattle.coherent_form.proofs.LabelCounts.{reads_variables, variables_append, variables_made}
use Rattle.coherent_form.proofs.Readings.{tables_extend}

-- what was read is right so far: forms and goal fit, each form has a citation and variables, and the limits are kept
pub record IsRightSoFar (p : Progress) : Type 0 where
  pub forms : AllByRecursion (FormFits p.tables) p.forms
  pub goal : FormFits p.tables (unwrap_or p.goal no_goal)
  pub citations : length p.citations ≡ length p.forms
  pub variables : AreVariables p.forms p.variables
  pub arities : AllByRecursion (λ s. s.arity ≤ MOST_ARGUMENTS) p.tables.symbols
  pub few : AreFew p.forms
  pub places : places p.tables ≤ MOST_PLACES

-- the goal of a problem without a conjecture fits
no_goal_fits : (tables : Tables) → FormFits tables no_goal
no_goal_fits tables = record {
  formed = record { premises = tt; disjuncts = tt };
  narrow = record { variables = omega arith; atoms = omega arith; premises = tt; disjuncts = tt };
  premises = tt;
  disjuncts = tt;
}

-- before the first formula all is right
pub nothing_right : IsRightSoFar nothing_read
nothing_right = record {
  forms = tt;
  goal = no_goal_fits nothing_read.tables;
  citations = refl;
  variables = tt;
  arities = tt;
  few = record { count = omega arith; atoms = omega arith };
  places = omega arith;
}

-- a formula that is taken is read as the forms behind those that were read
pub taken_reads : (p : Progress) (fof : Fof) → IsTaken p fof → Reads p.tables fof.formula (forms_behind p fof) (tables_after p fof)
taken_reads p fof taken = record {
  coherent = taken.fits.read.readable.coherent;
  after_is = refl;
  forms_are = refl;
  narrow = taken.fits.read.readable.narrow (tables_after p fof);
}

-- the first form, or the goal of a problem without a conjecture
first_fits : (tables : Tables) (forms : List Form) → AllByRecursion (FormFits tables) forms → FormFits tables (unwrap_or (slice_get forms 0) no_goal)
first_fits tables [] h = no_goal_fits tables
first_fits tables (form ∷ forms) h = h.0

-- numbers in a row are as many as asked for
counted_length : (first k : ℕ) → length (counted first k) ≡ k
counted_length first zero = refl
counted_length first (suc k) = ap suc (counted_length (first + 1) k)

-- there are as many further citations as forms
further_citations : (p : Progress) (fof : Fof) (forms : List Form) → length p.citations ≡ length p.forms
    → length (p.citations ++ further fof.name p.citations (length forms)) ≡ length (p.forms ++ forms)
further_citations p fof forms same = omega (
  arith,
  length-append p.citations (further fof.name p.citations (length forms)),
  length-append p.forms forms,
  length-further,
)
  where
    length-further : length (further fof.name p.citations (length forms)) ≡ length forms
    length-further = length-map _ _ ∙ counted_length _ (length forms)

-- what is right stays so behind a formula that is taken
pub taken_right : (p : Progress) (fof : Fof) → IsRightSoFar p → FofIsAllowed fof → IsTaken p fof → IsRightSoFar (after_formula p fof)
taken_right p fof right allowed taken = go (is_conjecture fof.role) taken.few
  where
    after : Tables
    after = tables_after p fof

    more : List Form
    more = forms_behind p fof

    reads : Reads p.tables fof.formula more after
    reads = taken_reads p fof taken

    extends : Extends p.tables after
    extends = tables_extend p.tables after fof.formula more reads

    more_fit : AllByRecursion (FormFits after) more
    more_fit = reads_fit p.tables after fof.formula more allowed.closed reads

    forms_fit : AllByRecursion (FormFits after) p.forms
    forms_fit = each_map {Q = FormFits after} (λ form h. fit_longer p.tables after form extends h) p.forms right.forms

    arities_after : AllByRecursion (λ s. s.arity ≤ MOST_ARGUMENTS) after.symbols
    arities_after = reads_arities p.tables fof.formula more after allowed.closed reads right.arities

    with_goal : Progress
    with_goal = record { tables = after; forms = p.forms; citations = p.citations; variables = p.variables; goal = Some (unwrap_or (slice_get more 0) no_goal) }

    with_forms : Progress
    with_forms = record {
      tables = after;
      forms = p.forms ++ more;
      citations = p.citations ++ further fof.name p.citations (length more);
      variables = p.variables ++ universal_names fof.formula;
      goal = p.goal;
    }

    go : (b : Bool) → AreFew (if b then with_goal else with_forms).forms → IsRightSoFar (if b then with_goal else with_forms)
    go true few = record {
      forms = forms_fit;
      goal = first_fits after more more_fit;
      citations = right.citations;
      variables = right.variables;
      arities = arities_after;
      few = few;
      places = taken.fits.places;
    }
    go false few = record {
      forms = each_append (FormFits after) p.forms more forms_fit more_fit;
      goal = fit_longer p.tables after (unwrap_or p.goal no_goal) extends right.goal;
      citations = further_citations p fof more right.citations;
      variables = variables_append p.forms more p.variables (universal_names fof.formula) right.variables
          (reads_variables p.tables after fof.formula more allowed.closed reads);
      arities = arities_after;
      few = few;
      places = taken.fits.places;
    }

-- the task of what was read is right
pub right_task : (p : Progress) → IsRightSoFar p → length p.tables.symbols + 1 ≤ MOST_SYMBOLS → length p.tables.constants ≤ MOST_CONSTANTS → IsRight (task_of p)
right_task p right few_symbols few_constants = record {
  forms = each_append (FormFits p.tables) p.forms built right.forms
      (each_image (FormFits p.tables) (built_in_form p.tables) (λ b fits. fits) axioms (built_ins_fit p.tables (goal ∷ p.forms) right.arities));
  goal = right.goal;
  citations = same;
  variables = variables_append p.forms built p.variables (map built_in_names built) right.variables (variables_made built_in_names built_in_variables built);
  few_forms = few;
  few_symbols = few_symbols;
  few_constants = few_constants;
}
  where
    goal : Form
    goal = unwrap_or p.goal no_goal

    axioms : List BuiltIn
    axioms = built_ins p.tables (goal ∷ p.forms)

    built : List Form
    built = map (built_in_form p.tables) axioms

    same : length (p.citations ++ map (built_in_citation p.tables) axioms) ≡ length (p.forms ++ built)
    same = let was = right.citations in
        omega (
          arith,
          length-append p.citations (map (built_in_citation p.tables) axioms),
          length-append p.forms built,
          length-map axioms (built_in_citation p.tables),
          length-map axioms (built_in_form p.tables),
        )

    few : length (p.forms ++ built) < TASK_FORMS_BELOW
    few = let count = right.few.count in let wide = right.places in let axioms_few = built_ins_few p.tables (goal ∷ p.forms) in
        omega (arith, length-append p.forms built, length-map axioms (built_in_form p.tables))
