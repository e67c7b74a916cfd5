-- What is said where a command ends early is a row of the table of answers.
use Rattle.std.specs.Prelude.{◌≢◌, IfSome, IfOk, Result, Ok, Err, codes}
use Rattle.std.specs.Fmt.{decimal}
use Rattle.std.proofs.Common.{ℕ, zero, suc, ◌≡◌, ◌≤◌, inl, inr, ◌⊎◌, ◌++◌, true, false, List, Option, Some, None, ap, sym, subst, refl, ◌∙◌, arith}
use Rattle.text_core.specs.declared.limits.TheConstants.{MOST_FILE_BYTES}
use Rattle.text_core.specs.Names.{Text}
use Rattle.text_core.proofs.Laws.{value_same}
use Rattle.logic_core.specs.declared.problem.Fof.{Fof}
use Rattle.io_core.specs.Held.{Held}
use Rattle.io_core.specs.Known.{Known}
use Rattle.io_core.specs.Fetched.{Grows, Fails, Holds, IsLong, IsTooLong}
use Rattle.io_core.proofs.Laws.{grows_on}
use Rattle.include_flat.specs.declared.refusal.FlatWhy.{FlatWhy}
use Rattle.include_flat.specs.declared.refusal.FlatWhy.TheVariants as flat
use Rattle.include_flat.specs.Refusals.{IsFlatRefused, IsFlatRefusal, IsOutside}
use Rattle.coherent_form.specs.declared.task_refusal.TaskRefusal.{TaskRefusal}
use Rattle.coherent_form.specs.declared.task_refusal.TaskWhy.TheVariants as task
use Rattle.coherent_form.specs.Tasks.{CitedTask, IsTaskOf, IsTaskFault}
use Rattle.proof_text.specs.declared.refusal.ScriptRefusal.{ScriptRefusal}
use Rattle.proof_text.specs.declared.refusal.ScriptRefusal.TheVariants as script
use Rattle.proof_text.specs.Scripts.{ProofFault}
use Rattle.isar_text.specs.declared.refusal.IsarRefusal.{IsarRefusal}
use Rattle.isar_text.specs.declared.refusal.IsarRefusal.TheVariants as isar
use Rattle.isar_text.specs.Scripts.{IsarFault}
use Rattle.model_text.specs.declared.refusal.ModelRefusal.{ModelRefusal}
use Rattle.model_text.specs.declared.refusal.ModelRefusal.TheVariants as model
use Rattle.model_text.specs.Structures.{Finite}
use Rattle.model_text.specs.Texts.{ModelFault}
use Rattle.finite_model.specs.Countermodels.{IsConfirmFault}
use Rattle.finite_model.specs.declared.refusal.ConfirmRefusal.{ConfirmRefusal}
use Rattle.finite_model.specs.declared.refusal.ConfirmRefusal.TheVariants as confirm
use Rattle.model_search.specs.declared.find.TheConstants.{MOST_SOUGHT}
use Rattle.proof_text.specs.declared.part.Edition.{Edition}
use Rattle.proof_text.specs.declared.part.Edition.TheVariants.{First, Second}
use Rattle.larus_cli.specs.declared.command.Wanted.TheVariants.{Size, Script}
use Rattle.larus_cli.specs.declared.command.Wanted.TheVariants as wants
use Rattle.larus_cli.specs.declared.command.Format.{Format}
use Rattle.larus_cli.specs.declared.command.Format.TheVariants.{Vernacular, Isar}
use Rattle.larus_cli.specs.declared.report.ProofWhy.TheVariants as reasons
use Rattle.larus_cli.specs.declared.reading.Halt.{Halt}
use Rattle.larus_cli.specs.declared.command.Command.TheVariants.{Prove, Refute}
use Rattle.larus_cli.specs.declared.command.TheConstants.{MOST_STEPS}
use Rattle.larus_cli.specs.Words.{command_of, search_within, refute_within, names_in, check_words, prove_words, export_words, isar_words, convert_words, rewrite_words}
use Rattle.larus_cli.specs.Words.{Aim, to_print, to_prove, to_judge, to_refute, to_confirm, refute_words, confirm_words, Asks, NamesProblem, NamesTask, NamesSecond, NamesBoth}
use Rattle.larus_cli.proofs.Digits.{number_some}
use Rattle.larus_cli.specs.Read.{ReadsProblem, ReadsTask, ReadsBytes, ReadsModel}
use Rattle.larus_cli.specs.Answers.{Answer, of_problem, as_second, problem_refused, formula_refused, too_long, proof_refused, model_refused, model_fails, fault}
use Rattle.larus_cli.specs.Texts.{flat_text, formula_text, fault_text, too_long_text, script_text, isar_text, model_text, confirm_text}

-- what the words of a check ask for
pub asks_check : (words : List Text) (problem proof : Text) → words ≡ check_words problem proof → Asks words problem (to_judge Size Vernacular proof)
asks_check words problem proof are = subst (λ ws. Asks ws problem (to_judge Size Vernacular proof)) (sym are) refl

-- what the words of a proof's conversion ask for
pub asks_rewrite : (edition : Edition) (words : List Text) (problem proof : Text) → words ≡ rewrite_words edition problem proof →
    Asks words problem (to_judge (Script edition) Vernacular proof)
asks_rewrite First words problem proof are = subst (λ ws. Asks ws problem (to_judge (Script First) Vernacular proof)) (sym are) refl
asks_rewrite Second words problem proof are = subst (λ ws. Asks ws problem (to_judge (Script Second) Vernacular proof)) (sym are) refl

-- what the words of an export in Isar ask for
pub asks_export : (words : List Text) (problem proof : Text) → words ≡ export_words (codes "isar") problem proof →
    Asks words problem (to_judge wants.Isar Vernacular proof)
asks_export words problem proof are = subst (λ ws. Asks ws problem (to_judge wants.Isar Vernacular proof)) (sym are) refl

-- what the words of an Isar text's conversion ask for
pub asks_isar : (words : List Text) (problem text : Text) → words ≡ isar_words problem text →
    Asks words problem (to_judge (Script First) Isar text)
asks_isar words problem text are = subst (λ ws. Asks ws problem (to_judge (Script First) Isar text)) (sym are) refl

-- what the words of a problem's conversion ask for
pub asks_convert : (words : List Text) (problem : Text) → words ≡ convert_words problem → Asks words problem to_print
asks_convert words problem are = subst (λ ws. Asks ws problem to_print) (sym are) refl

-- what the words ask for that confirm a countermodel
pub asks_confirm : (words : List Text) (problem model : Text) → words ≡ confirm_words problem model → Asks words problem (to_confirm model)
asks_confirm words problem model are = subst (λ ws. Asks ws problem (to_confirm model)) (sym are) refl

-- a countermodel with one element or more is sought
refute_some : (size : ℕ) → 1 ≤ size → refute_within (Some size) ≡ Some (Refute size)
refute_some zero some = absurd (omega arith)
refute_some (suc size) some = refl

-- the words by which a countermodel is sought are that command
pub refute_command : (problem : Text) (size : ℕ) → 1 ≤ size → size ≤ MOST_SOUGHT → command_of (refute_words problem size) ≡ Some (Refute size)
refute_command problem size some few =
    ap refute_within (number_some MOST_SOUGHT size (decimal size) (omega arith) few refl) ∙ refute_some size some

-- what those words ask for
pub asks_refute : (words : List Text) (problem : Text) (size : ℕ) → 1 ≤ size → size ≤ MOST_SOUGHT → words ≡ refute_words problem size →
    Asks words problem (to_refute size)
asks_refute words problem size some few are = subst (λ ws. Asks ws problem (to_refute size)) (sym are)
    (subst (λ command. names_in command (refute_words problem size) ≡ Some (problem, to_refute size)) (sym (refute_command problem size some few)) refl)

-- the words by which a proof within a bound is sought are that command
pub prove_command : (problem : Text) (most : ℕ) → most ≤ MOST_STEPS → command_of (prove_words problem most) ≡ Some (Prove most)
prove_command problem most few = ap search_within (number_some MOST_STEPS most (decimal most) (omega arith) few refl)

-- what those words ask for
pub asks_prove : (words : List Text) (problem : Text) (most : ℕ) → most ≤ MOST_STEPS → words ≡ prove_words problem most →
    Asks words problem (to_prove most)
asks_prove words problem most few are = subst (λ ws. Asks ws problem (to_prove most)) (sym are)
    (subst (λ command. names_in command (prove_words problem most) ≡ Some (problem, to_prove most)) (sym (prove_command problem most few)) refl)

module _ (words : List Text) {problem other : Text} {aim another : Aim} (asks : Asks words problem aim) (also : Asks words other another) where
  -- the words ask it of one problem
  pub one_problem : problem ≡ other
  one_problem = ap (λ (n : Text × Aim). n.0) (value_same (sym asks ∙ also))

  -- they ask one thing
  pub one_aim : aim ≡ another
  one_aim = ap (λ (n : Text × Aim). n.1) (value_same (sym asks ∙ also))

-- words that seek a proof want the problem's task
pub task_prove : (words : List Text) (problem : Text) (most : ℕ) → Asks words problem (to_prove most) → NamesTask words problem
task_prove words problem most asks = (to_prove most, asks, λ e. cc)

-- words that name a second file want the problem's task
pub task_both : (words : List Text) (problem : Text) (format : Format) (second : Text) → NamesBoth words problem format second → NamesTask words problem
task_both words problem format second names = (to_judge names.0 format second, names.1, λ e. cc)

-- words that seek a countermodel want the problem's task
pub task_refute : (words : List Text) (problem : Text) (size : ℕ) → Asks words problem (to_refute size) → NamesTask words problem
task_refute words problem size asks = (to_refute size, asks, λ e. cc)

-- words that confirm a countermodel want the problem's task, and name a second file
pub task_confirm : (words : List Text) (problem second : Text) → Asks words problem (to_confirm second) → NamesTask words problem
task_confirm words problem second asks = (to_confirm second, asks, λ e. cc)

pub second_confirm : (words : List Text) (problem second : Text) → Asks words problem (to_confirm second) → NamesSecond words problem second
second_confirm words problem second asks = (to_confirm second, asks, refl)

-- words that want a problem's task name the problem
pub problem_task : (words : List Text) (problem : Text) → NamesTask words problem → NamesProblem words problem
problem_task words problem names = (names.0, names.1)

-- a refusal that does not come from outside decides the walk
refused_told : (held : Option Held) (problem file : Text) (why : FlatWhy) → ¬ (IsOutside why) →
    IfSome held (λ h. IsFlatRefusal h problem file why) → IfSome held (λ h. IsFlatRefused h problem file why)
refused_told None problem file why inner told = tt
refused_told (Some h) problem file flat.FileFault inner told = absurd (inner (inl refl))
refused_told (Some h) problem file flat.Memory inner told = absurd (inner (inr refl))
refused_told (Some h) problem file (flat.Lex refusal) inner told = told
refused_told (Some h) problem file (flat.Syntax refusal) inner told = told
refused_told (Some h) problem file flat.FileTooLong inner told = told
refused_told (Some h) problem file flat.AllTooLong inner told = told
refused_told (Some h) problem file flat.IncludeDepth inner told = told
refused_told (Some h) problem file flat.TooManyFormulas inner told = told

-- a file of the problem that could not be fetched
pub problem_fault : (words : List Text) (files later : Known) (problem file : Text) (why : FlatWhy) → NamesProblem words problem →
    IfSome files.held (λ held. IsFlatRefusal held problem file why) → why ≡ flat.FileFault → Fails files later file →
    Answer words files later false (file ++ fault_text) 66
problem_fault words files later problem file why names told is fails =
    fault file (of_problem problem names (subst (λ w. IfSome files.held (λ held. IsFlatRefusal held problem file w)) is told)) fails

-- a file of the problem that is refused
pub problem_told : (words : List Text) (files later : Known) (problem file : Text) (why : FlatWhy) → NamesProblem words problem →
    IfSome files.held (λ held. IsFlatRefusal held problem file why) → why ≢ flat.FileFault → why ≢ flat.Memory →
    Answer words files later false (file ++ flat_text why) 2
problem_told words files later problem file why names told fetched room =
    problem_refused problem file why names (refused_told files.held problem file why inner told) inner
  where
    inner : IsOutside why → ⊥
    inner (inl e) = fetched e
    inner (inr e) = room e

-- a formula of the problem that is refused
pub formula_told : (words : List Text) (files later : Known) (problem : Text) (formulas : List Fof) (refusal : TaskRefusal) →
    NamesTask words problem → ReadsProblem files problem formulas → refusal.why ≢ task.Memory →
    (refusal ≡ record { formula = 0; why = task.Memory }) ⊎ IsTaskFault formulas refusal →
    Answer words files later false (formula_text refusal) 2
formula_told words files later problem formulas refusal names reads some (inl e) = absurd (some (ap (λ (r : TaskRefusal). r.why) e))
formula_told words files later problem formulas refusal names reads some (inr is) =
    formula_refused problem formulas refusal names reads is

-- the task of formulas that were read is that of the problem
pub task_read : (files : Known) (name : Text) (formulas : List Fof) (result : Result CitedTask Halt) → ReadsProblem files name formulas →
    IfOk result (IsTaskOf formulas) → IfOk result (ReadsTask files name)
task_read files name formulas (Ok task) reads has = record { formulas = formulas; reads = reads; has = has }
task_read files name formulas (Err halt) reads has = tt

-- a fetch that fails behind others
fails_behind : {before middle later : Known} {name : Text} → Grows before middle → Fails middle later name → Fails before later name
fails_behind a b = record {
  grows = grows_on a b.grows;
  rose = let first = a.faults in let second = b.rose in omega arith;
  blamed = b.blamed;
}

-- a second file that could not be fetched
pub second_fault : (words : List Text) (before middle later : Known) (problem name : Text) (task : CitedTask) →
    Grows before middle → NamesSecond words problem name → ReadsTask before problem task → Fails middle later name →
    Answer words before later false (name ++ fault_text) 66
second_fault words before middle later problem name task grows names reads fails =
    fault name (as_second problem task names reads) (fails_behind grows fails)

-- a second file that has too many bytes
pub second_too_long : (words : List Text) (before middle later : Known) (problem name : Text) (task : CitedTask) →
    Grows before middle → NamesSecond words problem name → ReadsTask before problem task →
    IsTooLong MOST_FILE_BYTES name middle later → Answer words before later false (name ++ too_long_text) 3
second_too_long words before middle later problem name task grows names reads long = too_long problem name task names reads
    (subst (λ held. IfSome held (λ h. IsLong h name MOST_FILE_BYTES)) grows.held long.longer)

-- what a later look at the files tells of them was so before
pub holds_before : (before middle : Known) (name bytes : Text) → Grows before middle → Holds middle name bytes MOST_FILE_BYTES →
    Holds before name bytes MOST_FILE_BYTES
holds_before before middle name bytes grows holds =
    subst (λ held. Holds (record before { held = held }) name bytes MOST_FILE_BYTES) grows.held
    (record { held = holds.held; within = holds.within })

-- bytes of a second file that spell no script
pub proof_told : (words : List Text) (files later : Known) (problem second : Text) (task : CitedTask) (bytes : Text) (refusal : ScriptRefusal) →
    NamesBoth words problem Vernacular second → ReadsBytes files problem second task bytes → refusal ≢ script.Memory →
    (refusal ≡ script.Memory) ⊎ ProofFault bytes refusal → Answer words files later false (second ++ script_text refusal) 3
proof_told words files later problem second task bytes refusal names reads some (inl e) = absurd (some e)
proof_told words files later problem second task bytes refusal names reads some (inr is) =
    proof_refused problem second Vernacular task bytes (reasons.Script refusal) names reads is

-- bytes of a second file that are no Isar text of the task
pub isar_told : (words : List Text) (files later : Known) (problem second : Text) (task : CitedTask) (bytes : Text) (refusal : IsarRefusal) →
    NamesBoth words problem Isar second → ReadsBytes files problem second task bytes → refusal ≢ isar.Memory →
    (refusal ≡ isar.Memory) ⊎ IsarFault task bytes refusal → Answer words files later false (second ++ isar_text refusal) 3
isar_told words files later problem second task bytes refusal names reads some (inl e) = absurd (some e)
isar_told words files later problem second task bytes refusal names reads some (inr is) =
    proof_refused problem second Isar task bytes (reasons.Isar refusal) names reads is

-- bytes of a second file that spell no structure
pub model_told : (words : List Text) (files later : Known) (problem second : Text) (task : CitedTask) (bytes : Text) (refusal : ModelRefusal) →
    Asks words problem (to_confirm second) → ReadsBytes files problem second task bytes → refusal ≢ model.Memory →
    (refusal ≡ model.Memory) ⊎ ModelFault bytes refusal → Answer words files later false (second ++ model_text refusal) 3
model_told words files later problem second task bytes refusal asks reads some (inl e) = absurd (some e)
model_told words files later problem second task bytes refusal asks reads some (inr is) =
    model_refused problem second task bytes refusal asks reads is

-- a problem with a structure in a second file has a task, and that file has bytes
pub model_read : {files : Known} {problem second : Text} {formulas : List Fof} {task : CitedTask} {m : Finite} →
    (reads : ReadsModel files problem second formulas task m) → ReadsBytes files problem second task reads.bytes
model_read {formulas = formulas} reads =
    record { reads = record { formulas = formulas; reads = reads.reads; has = reads.has }; holds = reads.holds }

-- a structure that is no countermodel
pub confirm_told : (words : List Text) (files later : Known) (problem second : Text) (formulas : List Fof) (task : CitedTask) (m : Finite)
    (refusal : ConfirmRefusal) → Asks words problem (to_confirm second) → ReadsModel files problem second formulas task m →
    refusal ≢ confirm.Memory → (refusal ≡ confirm.Memory) ⊎ IsConfirmFault task.tables.constants formulas m refusal →
    Answer words files later true (confirm_text refusal) 1
confirm_told words files later problem second formulas task m refusal asks reads some (inl e) = absurd (some e)
confirm_told words files later problem second formulas task m refusal asks reads some (inr is) =
    model_fails problem second formulas task m refusal asks reads is
