-- Where what is asked for is there, in its grammar and within its limits, and nothing fails, the command is done or there is no such proof.
use Rattle.std.specs.Prelude.{◌≢◌, IfSome, IsSomeAnd}
use Rattle.std.specs.FinMap as finite
use Rattle.std.proofs.Common.{◌≡◌, ◌⊎◌, ◌≤◌, ◌<◌, inl, inr, ℕ, Bool, true, false, List, [], ◌∷◌, length, Some, refl, sym, subst, ◌∙◌, arith}
use Rattle.text_core.specs.declared.limits.TheConstants.{MOST_FILE_BYTES}
use Rattle.text_core.specs.Lists.{IsAmong}
use Rattle.text_core.specs.Names.{Text}
use Rattle.text_core.proofs.Laws.{value_same}
use Rattle.logic_core.specs.declared.problem.Fof.{Fof}
use Rattle.vernacular_tree.specs.declared.tree.Body.{Body}
use Rattle.io_core.specs.Held.{Held}
use Rattle.io_core.specs.Known.{Known}
use Rattle.io_core.specs.Fetched.{IsLong}
use Rattle.include_flat.specs.Flattened.{IsFlat}
use Rattle.include_flat.specs.Refusals.{IsFlatRefused}
use Rattle.include_flat.proofs.Laws.{one_list, never_both}
use Rattle.coherent_form.specs.Tasks.{CitedTask, IsTaskOf, IsTaskFault}
use Rattle.coherent_form.proofs.Laws.{cited_once, one_task, task_not_refused}
use Rattle.proof_text.specs.Values.{Written}
use Rattle.proof_text.specs.StandsFor.{AreCitedOnce}
use Rattle.proof_checker.specs.declared.refusal.StepRefusal.{StepRefusal}
use Rattle.proof_checker.specs.Faults.{IsFault}
use Rattle.proof_checker.proofs.Laws.{accepted_none}
use Rattle.model_text.specs.Structures.{Finite}
use Rattle.model_text.specs.Texts.{IsModelOf, ModelFault}
use Rattle.model_text.proofs.Laws.{models_same, model_not_refused}
use Rattle.finite_model.specs.Countermodels.{IsCountermodel, IsConfirmFault}
use Rattle.finite_model.specs.declared.refusal.ConfirmRefusal.{ConfirmRefusal}
use Rattle.finite_model.proofs.Laws.{countermodel_not_refused}
use Rattle.larus_cli.specs.declared.command.Format.{Format}
use Rattle.larus_cli.specs.Words.{Aim, to_print, to_prove, to_judge, to_refute, to_confirm, second_in, Asks}
use Rattle.larus_cli.specs.OwnFiles.{looked_at}
use Rattle.larus_cli.specs.Read.{ReadsProblem, ReadsTask, ReadsBytes, Spells, SpellsNone, ReadsScript, ReadsProof, ReadsModel}
use Rattle.larus_cli.specs.Smallest.{HasNoProof}
use Rattle.larus_cli.specs.LeastModel.{HasNoModel}
use Rattle.larus_cli.specs.Answers.{Answer, done, step_refused, none_up_to, none_sized, model_fails, problem_refused, formula_refused}
use Rattle.larus_cli.specs.Answers.{too_long, proof_refused, model_refused, usage, fault}
use Rattle.larus_cli.specs.Outcome.{Sinks, BreaksAt, Outcome, answered, broken, out_of_memory}
use Rattle.larus_cli.specs.Complete.{IsReadable, CanBeDone, NoFault}
use Rattle.larus_cli.proofs.Saying.{one_problem, one_aim, model_read}
use Rattle.larus_cli.proofs.Outcomes.{asks_some, fetch_rose}
use Rattle.larus_cli.proofs.Spelling.{spelled_same, spelled_never}

-- what can be done can be read
readable_of : (files : Known) (problem : Text) (aim : Aim) → CanBeDone files problem aim → IsReadable files problem aim
readable_of files problem to_print can = can
readable_of files problem (to_prove most) (task, reads, body) = (task, reads)
readable_of files problem (to_judge wanted format second) (task, script, body, reads) = (task, script, reads.reads)
readable_of files problem (to_refute size) (task, reads, model) = (task, reads)
readable_of files problem (to_confirm second) (formulas, task, m, reads, counter) = (formulas, task, m, reads)

-- the formulas of a problem that can be read
flat_of : (files : Known) (problem : Text) (aim : Aim) → IsReadable files problem aim → (formulas : List Fof) × ReadsProblem files problem formulas
flat_of files problem to_print can = can
flat_of files problem (to_prove most) (task, reads) = (reads.formulas, reads.reads)
flat_of files problem (to_judge wanted format second) (task, script, reads) = (reads.reads.reads.formulas, reads.reads.reads.reads)
flat_of files problem (to_refute size) (task, reads) = (reads.formulas, reads.reads)
flat_of files problem (to_confirm second) (formulas, task, m, reads) = (formulas, reads.reads)

-- its task, where that is wanted
task_of : (files : Known) (problem : Text) (aim : Aim) → aim ≢ to_print → IsReadable files problem aim → (task : CitedTask) × ReadsTask files problem task
task_of files problem to_print some can = absurd (some refl)
task_of files problem (to_prove most) some can = can
task_of files problem (to_judge wanted format second) some (task, script, reads) = (task, reads.reads.reads)
task_of files problem (to_refute size) some can = can
task_of files problem (to_confirm second) some (formulas, task, m, reads) = (task, (model_read reads).reads)

-- the bytes of the second file, where one is asked for
second_read : (files : Known) (problem second : Text) (aim : Aim) → second_in aim ≡ Some second → IsReadable files problem aim →
    (task : CitedTask) × (bytes : Text) × ReadsBytes files problem second task bytes
second_read files problem second to_print is can = absurd cc
second_read files problem second (to_prove most) is can = absurd cc
second_read files problem second (to_judge wanted format name) is (task, script, reads) =
    subst (λ n. (task : CitedTask) × (bytes : Text) × ReadsBytes files problem n task bytes) (value_same is) (task, reads.bytes, reads.reads)
second_read files problem second (to_refute size) is can = absurd cc
second_read files problem second (to_confirm name) is (formulas, task, m, reads) =
    subst (λ n. (task : CitedTask) × (bytes : Text) × ReadsBytes files problem n task bytes) (value_same is) (task, reads.bytes, model_read reads)

module _ (files later : Known) (held : Held) (holding : files.held ≡ Some held) where
  -- what is said where the files tell what they hold
  here : (P : Held → Type 0) → IfSome files.held P → P held
  here P is = subst (λ o. IfSome o P) holding is

  -- a problem has one list of formulas
  formulas_same : (problem : Text) (a b : List Fof) → ReadsProblem files problem a → ReadsProblem files problem b → a ≡ b
  formulas_same problem a b is also = one_list held problem b a (here (λ h. IsFlat h problem b) also) (here (λ h. IsFlat h problem a) is)

  -- it has one task
  task_same : (problem : Text) (a b : CitedTask) → ReadsTask files problem a → ReadsTask files problem b → a ≡ b
  task_same problem a b is also = one_task also.formulas a b
      (subst (λ fs. IsTaskOf fs a) (formulas_same problem is.formulas also.formulas is.reads also.reads) is.has) also.has

  -- a second file has one list of bytes
  bytes_same : (problem second : Text) (task other : CitedTask) (a b : Text) → ReadsBytes files problem second task a →
      ReadsBytes files problem second other b → a ≡ b
  bytes_same problem second task other a b is also =
      value_same (sym (here (λ h. finite.get h second ≡ Some a) is.holds.held) ∙ here (λ h. finite.get h second ≡ Some b) also.holds.held)

  -- they spell one script
  script_same : (format : Format) (problem second : Text) (task other : CitedTask) (a b : Written) → ReadsScript format files problem second task a →
      ReadsScript format files problem second other b → a ≡ b
  script_same format problem second task other a b is also =
      let tasks : task ≡ other = task_same problem task other is.reads.reads also.reads.reads in
      let bytes : is.bytes ≡ also.bytes = bytes_same problem second task other is.bytes also.bytes is.reads also.reads in
      spelled_same format other also.bytes a b (subst (λ (k : CitedTask × Text). Spells format k.0 k.1 a) (λ i. (tasks i, bytes i)) is.spells) also.spells

  -- a file that is read is not too long
  not_long : (problem second : Text) (task : CitedTask) (bytes : Text) → ReadsBytes files problem second task bytes →
      IfSome files.held (λ h. IsLong h second MOST_FILE_BYTES) → ⊥
  not_long problem second task bytes is long =
      let within = is.holds.within in
      let more = subst (λ o. IsSomeAnd o (λ (bs : Text). MOST_FILE_BYTES < length bs)) (here (λ h. finite.get h second ≡ Some bytes) is.holds.held)
      (here (λ h. IsLong h second MOST_FILE_BYTES) long) in
      omega arith

  -- what can be read is not refused
  complete_row : {words : List Text} {output : Bool} {text : Text} {status : ℕ} → Answer words files later output text status →
      (problem : Text) (aim : Aim) → Asks words problem aim → IsReadable files problem aim → status ≢ 66 → (status ≡ 0) ⊎ (status ≡ 1)
  complete_row (done text row) problem aim asks can some = inl refl
  complete_row (step_refused other second format task script refusal names reads is) problem aim asks can some = inr refl
  complete_row (none_up_to other most task also reads is) problem aim asks can some = inr refl
  complete_row {words = words} (problem_refused other file why names is inner) problem aim asks can some =
      let flat = flat_of files problem aim can in
      let same : other ≡ problem = one_problem words names.1 asks in
      let refused : IsFlatRefused held problem file why = subst (λ p. IsFlatRefused held p file why) same (here (λ h. IsFlatRefused h other file why) is) in
      absurd (never_both held problem flat.0 file why (here (λ h. IsFlat h problem flat.0) flat.1) refused)
  complete_row {words = words} (formula_refused other formulas refusal names reads is) problem aim asks can some =
      let same : other ≡ problem = one_problem words names.1 asks in
      let task = task_of files problem aim (λ printed. names.2 (one_aim words names.1 asks ∙ printed)) can in
      let one = formulas_same problem formulas task.1.formulas (subst (λ p. ReadsProblem files p formulas) same reads) task.1.reads in
      absurd (task_not_refused task.1.formulas task.0 refusal task.1.has (subst (λ fs. IsTaskFault fs refusal) one is))
  complete_row (none_sized other size formulas task also reads has is) problem aim asks can some = inr refl
  complete_row (model_fails other second formulas task m refusal also reads is) problem aim asks can some = inr refl
  complete_row {words = words} (too_long other second task names reads long) problem aim asks can some =
      let can' = subst (IsReadable files problem) (one_aim words asks names.1) can in
      let found = second_read files problem second names.0 names.2 can' in
      absurd (not_long problem second found.0 found.1 found.2 long)
  complete_row {words = words} (model_refused other second task bytes refusal also reads is) problem aim asks can some =
      let sought = subst (IsReadable files problem) (one_aim words asks also) can in
      let read = subst (λ p. ReadsBytes files p second task bytes) (one_problem words also asks) reads in
      let one : bytes ≡ sought.3.bytes = bytes_same problem second task sought.1 bytes sought.3.bytes read (model_read sought.3) in
      absurd (model_not_refused sought.3.bytes sought.2 refusal sought.3.spells (subst (λ b. ModelFault b refusal) one is))
  complete_row {words = words} (proof_refused other second format task bytes why names reads is) problem aim asks can some =
      let judged = subst (IsReadable files problem) (one_aim words asks names.1) can in
      let read = subst (λ p. ReadsBytes files p second task bytes) (one_problem words names.1 asks) reads in
      let one : bytes ≡ judged.2.bytes = bytes_same problem second task judged.0 bytes judged.2.bytes read judged.2.reads in
      let tasks : task ≡ judged.0 = task_same problem task judged.0 read.reads judged.2.reads.reads in
      absurd (spelled_never format judged.0 judged.2.bytes judged.1 why judged.2.spells
      (subst (λ (k : CitedTask × Text). SpellsNone format k.0 k.1 why) (λ i. (tasks i, one i)) is))
  complete_row {words = words} (usage none) problem aim asks can some = absurd (asks_some words problem aim asks none)
  complete_row (fault file asked fails) problem aim asks can some = absurd (some refl)

  -- a script that is accepted has no fault
  accepted_never : (format : Format) (problem second : Text) (task other : CitedTask) (script written : Written) (body : Body) (refusal : StepRefusal) →
      ReadsProof format files problem second task script body → ReadsScript format files problem second other written → IsFault other written refusal → ⊥
  accepted_never format problem second task other script written body refusal is also because =
      let tasks = task_same problem other task also.reads.reads is.reads.reads.reads in
      let scripts = script_same format problem second other task written script also is.reads in
      let once : AreCitedOnce task = cited_once is.reads.reads.reads.formulas task is.reads.reads.reads.has in
      let fault : IsFault task script refusal = subst (λ (k : CitedTask × Written). IsFault k.0 k.1 refusal) (λ i. (tasks i, scripts i)) because in
      accepted_none task once script body refusal is.accepted fault

  -- a structure that is a countermodel has no fault
  confirmed_never : (problem second : Text) (formulas others : List Fof) (task other : CitedTask) (m n : Finite) (refusal : ConfirmRefusal) →
      ReadsModel files problem second formulas task m → IsCountermodel task.tables.constants formulas m →
      ReadsModel files problem second others other n → IsConfirmFault other.tables.constants others n refusal → ⊥
  confirmed_never problem second formulas others task other m n refusal is counter also because =
      let first = model_read is in
      let second' = model_read also in
      let flats : others ≡ formulas = formulas_same problem others formulas also.reads is.reads in
      let tasks : other ≡ task = task_same problem other task second'.reads first.reads in
      let bytes : also.bytes ≡ is.bytes = bytes_same problem second other task also.bytes is.bytes second' first in
      let models : n ≡ m = models_same is.bytes n m (subst (λ b. IsModelOf b n) bytes also.spells) is.spells in
      countermodel_not_refused task.tables.constants formulas m refusal counter
      (subst (λ (k : CitedTask × List Fof × Finite). IsConfirmFault k.0.tables.constants k.1 k.2 refusal) (λ i. (tasks i, flats i, models i)) because)

  -- what can be done does not end with 1
  one_never : {words : List Text} {output : Bool} {text : Text} {status : ℕ} → Answer words files later output text status →
      (problem : Text) (aim : Aim) → Asks words problem aim → CanBeDone files problem aim → status ≡ 1 → ⊥
  one_never {words = words} (step_refused other second format task script refusal names reads is) problem aim asks can e =
      let judged = subst (CanBeDone files problem) (one_aim words asks names.1) can in
      let read = subst (λ p. ReadsScript format files p second task script) (one_problem words names.1 asks) reads in
      accepted_never format problem second judged.0 task judged.1 script judged.2 refusal judged.3 read is
  one_never {words = words} (none_up_to other most task also reads none) problem aim asks can e =
      let sought = subst (CanBeDone files problem) (one_aim words asks also) can in
      let read = subst (λ p. ReadsTask files p task) (one_problem words also asks) reads in
      let one = task_same problem task sought.0 read sought.1 in
      subst (λ t. HasNoProof t most) one none sought.2.0 sought.2.1 sought.2.2
  one_never {words = words} (none_sized other size formulas task also reads has none) problem aim asks can e =
      let sought = subst (CanBeDone files problem) (one_aim words asks also) can in
      let read : ReadsTask files problem task = record {
        formulas = formulas;
        reads = subst (λ p. ReadsProblem files p formulas) (one_problem words also asks) reads;
        has = has;
      } in
      let flats : formulas ≡ sought.1.formulas = formulas_same problem formulas sought.1.formulas read.reads sought.1.reads in
      let tasks : task ≡ sought.0 = task_same problem task sought.0 read sought.1 in
      subst (λ (k : List Fof × CitedTask). HasNoModel k.0 k.1 size) (λ i. (flats i, tasks i)) none
      sought.2.0 sought.2.1 sought.2.2 sought.2.3
  one_never {words = words} (model_fails other second formulas task m refusal also reads is) problem aim asks can e =
      let sought = subst (CanBeDone files problem) (one_aim words asks also) can in
      let read = subst (λ p. ReadsModel files p second formulas task m) (one_problem words also asks) reads in
      confirmed_never problem second sought.0 formulas sought.1 task sought.2 m refusal sought.3 sought.4 read is
  one_never row problem aim asks can e = omega arith

-- a sink that failed counts it
breaks_never : (output : Bool) {files later : Known} {old new : Sinks} (text : Text) → BreaksAt output old new text → NoFault files later old new → ⊥
breaks_never true text breaks calls = calls.output breaks.0.rose
breaks_never false text breaks calls = calls.errors breaks.0.rose

-- what can be read ends with 0 or 1, or memory ran out
pub complete_of : {words : List Text} {files later : Known} {old new : Sinks} {status : ℕ} → Outcome words files later old new status →
    (held : Held) (problem : Text) (aim : Aim) → Asks words problem aim → (looked_at words files).held ≡ Some held →
    IsReadable (looked_at words files) problem aim → NoFault files later old new → IsAmong status (0 ∷ 1 ∷ 71 ∷ [])
complete_of {words = words} {files = files} {later = later} (answered output text status row put) held problem aim asks holding can calls =
    by (complete_row (looked_at words files) (looked_at words later) held holding row problem aim asks can
    (λ e. calls.fetches (fetch_rose (answered output text status row put) e)))
  where
    by : (status ≡ 0) ⊎ (status ≡ 1) → IsAmong status (0 ∷ 1 ∷ 71 ∷ [])
    by (inl e) = inl (sym e)
    by (inr e) = inr (inl (sym e))
complete_of (broken output text wanted row breaks) held problem aim asks holding can calls = absurd (breaks_never output text breaks calls)
complete_of (out_of_memory some same) held problem aim asks holding can calls = inr (inr (inl refl))

-- what can be done ends with 0, or memory ran out
pub success_of : {words : List Text} {files later : Known} {old new : Sinks} {status : ℕ} → Outcome words files later old new status →
    (held : Held) (problem : Text) (aim : Aim) → Asks words problem aim → (looked_at words files).held ≡ Some held →
    CanBeDone (looked_at words files) problem aim → NoFault files later old new → IsAmong status (0 ∷ 71 ∷ [])
success_of {words = words} {files = files} {later = later} (answered output text status row put) held problem aim asks holding can calls =
    by (complete_row (looked_at words files) (looked_at words later) held holding row problem aim asks
    (readable_of (looked_at words files) problem aim can) (λ e. calls.fetches (fetch_rose (answered output text status row put) e)))
  where
    by : (status ≡ 0) ⊎ (status ≡ 1) → IsAmong status (0 ∷ 71 ∷ [])
    by (inl e) = inl (sym e)
    by (inr e) = absurd (one_never (looked_at words files) (looked_at words later) held holding row problem aim asks can e)
success_of (broken output text wanted row breaks) held problem aim asks holding can calls = absurd (breaks_never output text breaks calls)
success_of (out_of_memory some same) held problem aim asks holding can calls = inr (inl refl)
