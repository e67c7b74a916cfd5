-- The table of answers, row by row: what the words ask for, what the files hold and did, and what
-- is printed, where and with which status.
use Rattle.std.specs.Prelude.{ℕ, ◌≡◌, ◌++◌, Bool, true, false, List, None, IfSome}
use Rattle.text_core.specs.declared.limits.TheConstants.{MOST_FILE_BYTES}
use Rattle.text_core.specs.Names.{Text}
use Rattle.logic_core.specs.declared.problem.Fof.{Fof}
use Rattle.io_core.specs.Known.{Known}
use Rattle.io_core.specs.Fetched.{Fails, IsLong}
use Rattle.include_flat.specs.declared.refusal.FlatWhy.{FlatWhy}
use Rattle.include_flat.specs.Refusals.{IsFlatRefused, IsAskedFor, IsOutside}
use Rattle.coherent_form.specs.declared.task_refusal.TaskRefusal.{TaskRefusal}
use Rattle.coherent_form.specs.Tasks.{CitedTask, IsTaskOf, IsTaskFault}
use Rattle.proof_text.specs.Values.{Written}
use Rattle.proof_checker.specs.declared.refusal.StepRefusal.{StepRefusal}
use Rattle.proof_checker.specs.Faults.{IsFault}
use Rattle.model_text.specs.Structures.{Finite}
use Rattle.model_text.specs.Texts.{ModelFault}
use Rattle.model_text.specs.declared.refusal.ModelRefusal.{ModelRefusal}
use Rattle.finite_model.specs.Countermodels.{IsConfirmFault}
use Rattle.finite_model.specs.declared.refusal.ConfirmRefusal.{ConfirmRefusal}
use Rattle.larus_cli.specs.declared.command.Format.{Format}
use Rattle.larus_cli.specs.declared.report.ProofWhy.{ProofWhy}
use Rattle.larus_cli.specs.Words.{command_of, to_prove, to_refute, to_confirm, Asks}
use Rattle.larus_cli.specs.Words.{NamesProblem, NamesTask, NamesSecond, NamesBoth}
use Rattle.larus_cli.specs.Texts.{fault_text, too_long_text, flat_text, formula_text}
use Rattle.larus_cli.specs.Texts.{proof_text, model_text, step_text, none_text, confirm_text, usage_text}
use Rattle.larus_cli.specs.Read.{ReadsProblem, ReadsTask, ReadsBytes, SpellsNone, ReadsScript, ReadsModel}
use Rattle.larus_cli.specs.Smallest.{HasNoProof}
use Rattle.larus_cli.specs.LeastModel.{HasNoModel}
use Rattle.larus_cli.specs.Done.{Done}

-- the files are asked for this one: by the walk over the problem, or as the second file
pub data IsAsked (words : List Text) (files : Known) (file : Text) : Type 0 where
  of_problem : (problem : Text) → NamesProblem words problem →
      IfSome files.held (λ held. IsAskedFor held problem file) → IsAsked words files file
  as_second : (problem : Text) (task : CitedTask) → NamesSecond words problem file →
      ReadsTask files problem task → IsAsked words files file

-- a text goes to the output (true) or to the errors (false), with a status; the files are those at
-- which the words look
pub data Answer (words : List Text) (files later : Known) : Bool → Text → ℕ → Type 0 where
  -- 0: the command is done
  done : (text : Text) → Done words files text → Answer words files later true text 0
  -- 1: a step of the proof is refused
  step_refused : (problem second : Text) (format : Format) (task : CitedTask) (script : Written)
      (refusal : StepRefusal) → NamesBoth words problem format second →
      ReadsScript format files problem second task script → IsFault task script refusal →
      Answer words files later true (step_text refusal) 1
  -- 1: no proof of the problem's task is within the bound
  none_up_to : (problem : Text) (most : ℕ) (task : CitedTask) →
      Asks words problem (to_prove most) → ReadsTask files problem task → HasNoProof task most →
      Answer words files later true (none_text most) 1
  -- 1: no structure with at most so many elements is a countermodel of the problem
  none_sized : (problem : Text) (size : ℕ) (formulas : List Fof) (task : CitedTask) →
      Asks words problem (to_refute size) → ReadsProblem files problem formulas →
      IsTaskOf formulas task → HasNoModel formulas task size →
      Answer words files later true (none_text size) 1
  -- 1: the structure is no countermodel of the problem
  model_fails : (problem second : Text) (formulas : List Fof) (task : CitedTask) (m : Finite)
      (refusal : ConfirmRefusal) → Asks words problem (to_confirm second) →
      ReadsModel files problem second formulas task m →
      IsConfirmFault task.tables.constants formulas m refusal →
      Answer words files later true (confirm_text refusal) 1
  -- 2: a file of the problem is refused
  problem_refused : (problem file : Text) (why : FlatWhy) → NamesProblem words problem →
      IfSome files.held (λ held. IsFlatRefused held problem file why) → ¬ (IsOutside why) →
      Answer words files later false (file ++ flat_text why) 2
  -- 2: a formula of the problem is refused, where its task is wanted
  formula_refused : (problem : Text) (formulas : List Fof) (refusal : TaskRefusal) →
      NamesTask words problem → ReadsProblem files problem formulas →
      IsTaskFault formulas refusal →
      Answer words files later false (formula_text refusal) 2
  -- 3: the second file has too many bytes
  too_long : (problem second : Text) (task : CitedTask) →
      NamesSecond words problem second → ReadsTask files problem task →
      IfSome files.held (λ held. IsLong held second MOST_FILE_BYTES) →
      Answer words files later false (second ++ too_long_text) 3
  -- 3: the bytes of the second file spell no script
  proof_refused : (problem second : Text) (format : Format) (task : CitedTask) (bytes : Text)
      (why : ProofWhy) → NamesBoth words problem format second →
      ReadsBytes files problem second task bytes → SpellsNone format task bytes why →
      Answer words files later false (second ++ proof_text why) 3
  -- 3: the bytes of the second file spell no structure
  model_refused : (problem second : Text) (task : CitedTask) (bytes : Text)
      (refusal : ModelRefusal) → Asks words problem (to_confirm second) →
      ReadsBytes files problem second task bytes → ModelFault bytes refusal →
      Answer words files later false (second ++ model_text refusal) 3
  -- 64: the words are no command
  usage : command_of words ≡ None → Answer words files later false usage_text 64
  -- 66: a file that was asked for could not be fetched
  fault : (file : Text) → IsAsked words files file → Fails files later file →
      Answer words files later false (file ++ fault_text) 66
