-- The task of what was read is kept right.
use Rattle.std.proofs.Common.{◌≡◌, ℕ, suc, ◌+◌, ◌^◌, ◌<◌, ◌≤◌, List, [], ◌∷◌, ◌++◌, map, drop, length, unwrap_or, refl, ap, sym, ◌∙◌, subst}
use Rattle.std.proofs.lemmas.List.{length-map, map-append}
use Rattle.std.specs.List.{AllByRecursion}
use Rattle.text_core.specs.Names.{Text}
use Rattle.text_core.specs.Numbered.{Tables}
use Rattle.text_core.proofs.Laws.{each_append, each_map}
use Rattle.logic_core.specs.Allowed.{FofIsAllowed}
use Rattle.logic_core.specs.declared.form.Form.{Form}
use Rattle.logic_core.specs.declared.problem.Fof.{Fof}
use Rattle.coherent_form.specs.BuiltIns.{built_ins, built_in_form, built_in_names, built_in_citation}
use Rattle.coherent_form.specs.Gathered.{IsNamedBelow, IsReading, IsReadFrom, progress_of}
use Rattle.coherent_form.specs.Kept.{AreVariables, BuiltInIsThere, IsKept, IsRight, SourceIsThere, citation_at, kept_task, name_at}
use Rattle.coherent_form.specs.Tasks.{CitedTask, Progress, AreTaken, after_formula, after_formulas, no_goal, nothing_read, task_of}
use Rattle.coherent_form.specs.declared.problem_reading.Reading.{Reading}
use Rattle.coherent_form.specs.declared.source.BuiltIn as built_in
use Rattle.coherent_form.specs.declared.source.Source.{Source}
use Rattle.coherent_form.specs.declared.source.Source.TheVariants.{Formula, BuiltIn}
use Rattle.coherent_form.specs.declared.limits.TheConstants.{MOST_SYMBOLS, MOST_CONSTANTS}
use Rattle.coherent_form.proofs.BuiltInLaws.{built_ins_there}
use Rattle.coherent_form.proofs.RightSoFar.{IsRightSoFar, nothing_right, taken_right, right_task}

-- what was read is right

-- formulas that are taken keep it right
right_after : (p : Progress) (fofs : List Fof) → IsRightSoFar p → AllByRecursion FofIsAllowed fofs → AreTaken p fofs → IsRightSoFar (after_formulas p fofs)
right_after p [] right allowed taken = right
right_after p (fof ∷ fofs) right allowed taken = right_after (after_formula p fof) fofs (taken_right p fof right allowed.0 taken.0) allowed.1 taken.1

-- what was read of a problem is right
pub read_right : (p : Progress) → IsReadFrom p → IsRightSoFar p
read_right p from = subst IsRightSoFar (sym from.is) (right_after nothing_read from.problem nothing_right from.allowed from.taken)

-- the task that is kept

-- forms behind others are left where those are dropped
drop_front : {X : Type 0} (xs ys : List X) (n : ℕ) → n ≡ length xs → drop n (xs ++ ys) ≡ ys
drop_front xs ys n is = ap (λ k. drop k (xs ++ ys)) is ∙ go xs
  where
    go : (zs : List _) → drop (length zs) (zs ++ ys) ≡ ys
    go [] = refl
    go (z ∷ zs) = go zs

-- there are as many lists of variables as forms
variables_length : (forms : List Form) (lists : List (List Text)) → AreVariables forms lists → length lists ≡ length forms
variables_length [] [] h = refl
variables_length [] (names ∷ lists) h = absurd h
variables_length (form ∷ forms) [] h = absurd h
variables_length (form ∷ forms) (names ∷ lists) h = ap suc (variables_length forms lists h.1)

-- the citations of built-in axioms
built_citations : (names : List Text) (tables : Tables) (axioms : List built_in.BuiltIn) → map (citation_at names tables) (map BuiltIn axioms) ≡ map (built_in_citation tables) axioms
built_citations names tables [] = refl
built_citations names tables (a ∷ axioms) = ap (λ cs. built_in_citation tables a ∷ cs) (built_citations names tables axioms)

-- a task with a goal
abbrev task_with : Progress → Form → CitedTask
task_with p goal = let axioms = built_ins p.tables (goal ∷ p.forms) in
    let forms = map (built_in_form p.tables) axioms in record {
      tables = p.tables;
      forms = p.forms ++ forms;
      citations = p.citations ++ map (built_in_citation p.tables) axioms;
      variables = p.variables ++ map built_in_names forms;
      goal = goal;
    }

-- sources whose names are there
named_there : (names symbols : ℕ) (sources : List Source) → AllByRecursion (IsNamedBelow names) sources → AllByRecursion (SourceIsThere names symbols) sources
named_there names symbols sources h = each_map {Q = SourceIsThere names symbols} there sources h
  where
    there : (s : Source) → IsNamedBelow names s → SourceIsThere names symbols s
    there (Formula name rank) below = below
    there (BuiltIn built) below = absurd below

-- and those of built-in axioms
built_there : (names symbols : ℕ) (axioms : List built_in.BuiltIn) → AllByRecursion (BuiltInIsThere symbols) axioms → AllByRecursion (SourceIsThere names symbols) (map BuiltIn axioms)
built_there names symbols [] h = tt
built_there names symbols (a ∷ axioms) h = (h.0, built_there names symbols axioms h.1)

module _ (r : Reading) (goal : Form) (forms : List Form) (sources : List Source) (reading : IsReading r) (from : IsReadFrom (progress_of r))
    (goal_is : goal ≡ unwrap_or r.goal no_goal) (forms_are : forms ≡ r.forms ++ map (built_in_form r.tables) (built_ins r.tables (goal ∷ r.forms)))
    (sources_are : sources ≡ r.sources.keys ++ map BuiltIn (built_ins r.tables (goal ∷ r.forms))) where
  -- as many variables as forms
  as_many : length r.variables ≡ length r.forms
  as_many = sym (length-map r.variables (map (name_at r.names.keys))) ∙ variables_length r.forms (map (map (name_at r.names.keys)) r.variables) (read_right (progress_of r) from).variables

  -- the kept task is that of what was read
  pub kept_is : kept_task r.tables r.names.keys forms sources r.variables goal ≡ task_of (progress_of r)
  kept_is =
      let axioms = built_ins r.tables (goal ∷ r.forms) in
      let built = map (built_in_form r.tables) axioms in
      let left : drop (length r.variables) forms ≡ built = ap (drop (length r.variables)) forms_are ∙ drop_front r.forms built (length r.variables) as_many in
      let citations : map (citation_at r.names.keys r.tables) sources ≡ map (citation_at r.names.keys r.tables) r.sources.keys ++ map (built_in_citation r.tables) axioms =
      ap (map (citation_at r.names.keys r.tables)) sources_are ∙ map-append (citation_at r.names.keys r.tables) r.sources.keys (map BuiltIn axioms)
      ∙ ap (λ cs. map (citation_at r.names.keys r.tables) r.sources.keys ++ cs) (built_citations r.names.keys r.tables axioms) in
      let kept : kept_task r.tables r.names.keys forms sources r.variables goal ≡ task_with (progress_of r) goal = λ i. record {
        tables = r.tables;
        forms = forms_are i;
        citations = citations i;
        variables = map (map (name_at r.names.keys)) r.variables ++ map built_in_names (left i);
        goal = goal;
      } in
      kept ∙ ap (task_with (progress_of r)) goal_is

  -- and it is kept right
  pub is_kept : length r.names.keys < 2 ^ 32 → length r.tables.symbols + 1 ≤ MOST_SYMBOLS → length r.tables.constants ≤ MOST_CONSTANTS
      → IsKept r.names.keys sources (kept_task r.tables r.names.keys forms sources r.variables goal)
  is_kept few_names few_symbols few_constants = record {
    distinct = reading.named.distinct;
    few_names = few_names;
    there = subst (AllByRecursion (SourceIsThere (length r.names.keys) (length r.tables.symbols + 1))) (sym sources_are)
        (each_append (SourceIsThere (length r.names.keys) (length r.tables.symbols + 1)) r.sources.keys (map BuiltIn (built_ins r.tables (goal ∷ r.forms)))
        (named_there (length r.names.keys) (length r.tables.symbols + 1) r.sources.keys reading.named.of_forms)
        (built_there (length r.names.keys) (length r.tables.symbols + 1) (built_ins r.tables (goal ∷ r.forms)) (built_ins_there r.tables (goal ∷ r.forms))));
    right = subst IsRight (sym kept_is) (right_task (progress_of r) (read_right (progress_of r) from) few_symbols few_constants);
  }
