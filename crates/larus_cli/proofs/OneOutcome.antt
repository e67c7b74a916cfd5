-- The outcome of given words and files is one. An answer is found stage by stage: by the words, the problem's files, its formulas, their
-- task, the second file, and its bytes. At each stage there is one way on.
use Rattle.std.specs.Prelude.{◌≢◌, IfSome, IsSomeAnd}
use Rattle.std.specs.FinMap as finite
use Rattle.std.proofs.Common.{◌≡◌, ◌⊎◌, ◌≤◌, ◌<◌, inl, inr, ℕ, Bool, true, false, List, ◌++◌, length, Option, Some, None, refl, sym, ap, subst, ◌∙◌, arith}
use Rattle.text_core.specs.declared.limits.TheConstants.{MOST_FILE_BYTES}
use Rattle.text_core.specs.Names.{Text}
use Rattle.text_core.proofs.Laws.{value_same}
use Rattle.logic_core.specs.declared.problem.Fof.{Fof}
use Rattle.vernacular_tree.specs.declared.tree.Body.{Body}
use Rattle.vernacular_tree.specs.Sizes.{size}
use Rattle.vernacular_tree.specs.Barren.{IsLeast}
use Rattle.io_core.specs.Held.{Held}
use Rattle.io_core.specs.Known.{Known}
use Rattle.io_core.specs.Fetched.{IsLong}
use Rattle.tptp_printer.specs.Canonical.{problem_text}
use Rattle.include_flat.specs.declared.refusal.FlatWhy.{FlatWhy}
use Rattle.include_flat.specs.Flattened.{IsFlat}
use Rattle.include_flat.specs.Refusals.{IsFlatRefused}
use Rattle.include_flat.proofs.Laws.{one_list, never_both, one_refusal}
use Rattle.coherent_form.specs.declared.task_refusal.TaskRefusal.{TaskRefusal}
use Rattle.coherent_form.specs.Tasks.{CitedTask, IsTaskOf, IsTaskFault}
use Rattle.coherent_form.proofs.Laws.{cited_once, one_task, one_task_refusal, task_not_refused}
use Rattle.proof_text.specs.declared.part.Edition.TheVariants.{First}
use Rattle.proof_text.specs.Canonical.{script_text as written_text}
use Rattle.proof_text.specs.ScriptOf.{script_of}
use Rattle.proof_text.specs.Values.{Written}
use Rattle.proof_checker.specs.declared.refusal.StepRefusal.{StepRefusal}
use Rattle.proof_checker.specs.Accepted.{IsAcceptedAs}
use Rattle.proof_text.specs.StandsFor.{AreCitedOnce}
use Rattle.proof_checker.specs.Faults.{IsFault}
use Rattle.proof_checker.proofs.Laws.{accepted_one, fault_one, accepted_none}
use Rattle.model_text.specs.Canonical.{model_text as structure_text}
use Rattle.model_text.specs.declared.refusal.ModelRefusal.{ModelRefusal}
use Rattle.model_text.specs.Structures.{Finite, IsSound}
use Rattle.model_text.specs.Texts.{IsModelOf, ModelFault}
use Rattle.model_text.proofs.Laws.{models_same, refusals_same, model_not_refused}
use Rattle.finite_model.specs.declared.refusal.ConfirmRefusal.{ConfirmRefusal}
use Rattle.finite_model.specs.Countermodels.{IsCountermodel, IsConfirmFault}
use Rattle.finite_model.proofs.Laws.{one_confirm_refusal, countermodel_not_refused}
use Rattle.larus_cli.specs.declared.command.Command.{Command}
use Rattle.larus_cli.specs.declared.command.Command.TheVariants.{Check, Prove, ExportIsar, ExportEnglish, ConvertProblem, ConvertVernacular, ConvertIsar, ConvertVersion2, Demo, Refute, Confirm}
use Rattle.larus_cli.specs.declared.command.Format.{Format}
use Rattle.larus_cli.specs.declared.command.Wanted.{Wanted}
use Rattle.larus_cli.specs.declared.report.ProofWhy.{ProofWhy}
use Rattle.larus_cli.specs.Words.{Aim, to_print, to_prove, to_judge, to_refute, to_confirm, second_in, command_of, Asks, NamesBoth}
use Rattle.larus_cli.specs.OwnFiles.{looked_in, looked_at}
use Rattle.larus_cli.specs.Texts.{usage_text, too_long_text, flat_text, formula_text, proof_text, model_text, step_text, none_text, countermodel_text, confirm_text}
use Rattle.larus_cli.specs.Read.{ReadsProblem, ReadsTask, ReadsBytes, Spells, SpellsNone, ReadsScript, ReadsModel}
use Rattle.larus_cli.specs.Smallest.{IsSmallest, HasNoProof}
use Rattle.larus_cli.specs.LeastModel.{IsLeastModel, HasNoModel}
use Rattle.larus_cli.specs.Done.{Done, told, judged, proved, converted, refuted, confirmed}
use Rattle.larus_cli.specs.Answers.{Answer, done, step_refused, none_up_to, none_sized, model_fails, problem_refused, formula_refused}
use Rattle.larus_cli.specs.Answers.{too_long, proof_refused, model_refused, usage, fault}
use Rattle.larus_cli.specs.Outcome.{Sinks, PutsTo, Outcome, answered, broken, out_of_memory, IsSettled, Alike, one_text, two_smallest, two_least, EndAlike}
use Rattle.larus_cli.proofs.Outcomes.{asks_some}
use Rattle.larus_cli.proofs.Saying.{model_read}
use Rattle.larus_cli.proofs.Spelling.{spelled_same, reasons_same, spelled_never}

-- what is said: one text, or that of some smallest proof of a task, or of some least countermodel
data Said : Type 0 where
  exactly : Text → Said
  some_smallest : CitedTask → Said
  some_least : List Fof → CitedTask → Said

-- the text is what is said
abbrev Means : List Text → Said → Text → Type 0
Means words (exactly said) text = text ≡ said
Means words (some_smallest task) text = (problem : Text) × (most : ℕ) × (body : Body) × Asks words problem (to_prove most) ×
    IsSmallest task body × (text ≡ written_text (script_of First task body))
Means words (some_least formulas task) text = (problem : Text) × (size : ℕ) × (m : Finite) × Asks words problem (to_refute size) ×
    IsLeastModel formulas task size m × (text ≡ structure_text m)

-- the bound within which a countermodel is sought is one
one_size : (words : List Text) (problem other : Text) (size bound : ℕ) → Asks words problem (to_refute size) → Asks words other (to_refute bound) →
    bound ≡ size
one_size words problem other size bound asks also =
    let aims : to_refute bound ≡ to_refute size = ap (λ (n : Text × Aim). n.1) (value_same (sym also ∙ asks)) in cc

-- texts that are what is said are alike
alike_of : (words : List Text) (said : Said) (text another : Text) → Means words said text → Means words said another → Alike words text another
alike_of words (exactly said) text another e f = subst (Alike words text) (e ∙ sym f) (one_text text)
alike_of words (some_smallest task) text another (problem, most, body, are, least, e) (_, _, other, _, also, f) =
    subst (λ t. Alike words t another) (sym e) (subst (Alike words (written_text (script_of First task body))) (sym f)
    (two_smallest problem most task body other are least also))
alike_of words (some_least formulas task) text another (problem, size, m, are, least, e) (file, bound, n, also, same, f) =
    let sized : IsLeastModel formulas task size n = subst (λ k. IsLeastModel formulas task k n) (one_size words problem file size bound are also) same in
    subst (λ t. Alike words t another) (sym e) (subst (Alike words (structure_text m)) (sym f)
    (two_least problem size formulas task m n are least sized))

-- where an answer goes, what is said, and its status
record End : Type 0 where
  output : Bool
  said : Said
  status : ℕ

-- an end on the output
abbrev on_output : Text → ℕ → End
on_output text status = record { output = true; said = exactly text; status = status }

-- an end on the errors
abbrev on_errors : Text → ℕ → End
on_errors text status = record { output = false; said = exactly text; status = status }

-- the end where a proof is found
abbrev found_end : CitedTask → End
found_end task = record { output = true; said = some_smallest task; status = 0 }

-- the end where a countermodel is found
abbrev refuted_end : List Fof → CitedTask → End
refuted_end formulas task = record { output = true; said = some_least formulas task; status = 0 }

module _ (wanted : Wanted) where
  -- by the script that the bytes of the second file spell
  abbrev OnScript : CitedTask → End → Written → Type 0
  OnScript task end script = ((body : Body) × IsAcceptedAs task script body × (end ≡ on_output (told wanted task body) 0)) ⊎
      ((refusal : StepRefusal) × IsFault task script refusal × (end ≡ on_output (step_text refusal) 1))

  -- two ends by the script are one
  one_by_script : (task : CitedTask) (script : Written) (a b : End) → AreCitedOnce task → OnScript task a script → OnScript task b script → a ≡ b
  one_by_script task script a b once (inl (body, is, e)) (inl (other, also, f)) =
      e ∙ ap (λ tree. on_output (told wanted task tree) 0) (accepted_one task once script body other is also) ∙ sym f
  one_by_script task script a b once (inl (body, is, e)) (inr (refusal, because, f)) = absurd (accepted_none task once script body refusal is because)
  one_by_script task script a b once (inr (refusal, because, e)) (inl (body, is, f)) = absurd (accepted_none task once script body refusal is because)
  one_by_script task script a b once (inr (refusal, is, e)) (inr (other, also, f)) =
      e ∙ ap (λ r. on_output (step_text r) 1) (fault_one task once script refusal other is also) ∙ sym f

  -- by the bytes of the second file
  abbrev OnBytes : Format → Text → CitedTask → End → Text → Type 0
  OnBytes format name task end bytes = ((why : ProofWhy) × SpellsNone format task bytes why × (end ≡ on_errors (name ++ proof_text why) 3)) ⊎
      ((script : Written) × Spells format task bytes script × OnScript task end script)

  -- two ends by the bytes of the second file are one
  one_by_bytes : (format : Format) (name : Text) (task : CitedTask) (bytes : Text) (a b : End) → AreCitedOnce task →
      OnBytes format name task a bytes → OnBytes format name task b bytes → a ≡ b
  one_by_bytes format name task bytes a b once (inl (why, is, e)) (inl (other, also, f)) =
      e ∙ ap (λ w. on_errors (name ++ proof_text w) 3) (reasons_same format task bytes why other is also) ∙ sym f
  one_by_bytes format name task bytes a b once (inl (why, because, e)) (inr (script, is, f)) =
      absurd (spelled_never format task bytes script why is because)
  one_by_bytes format name task bytes a b once (inr (script, is, e)) (inl (why, because, f)) =
      absurd (spelled_never format task bytes script why is because)
  one_by_bytes format name task bytes a b once (inr (script, is, e)) (inr (other, also, f)) =
      one_by_script task script a b once e (subst (OnScript task b) (spelled_same format task bytes other script also is) f)

module _ (constants : List Text) (flat : List Fof) where
  -- by the structure that the bytes of the second file spell
  abbrev OnStructure : End → Finite → Type 0
  OnStructure end m = (IsCountermodel constants flat m × (end ≡ on_output (countermodel_text m.size) 0)) ⊎
      ((refusal : ConfirmRefusal) × IsConfirmFault constants flat m refusal × (end ≡ on_output (confirm_text refusal) 1))

  -- two ends by the structure are one
  one_by_structure : (m : Finite) (a b : End) → OnStructure a m → OnStructure b m → a ≡ b
  one_by_structure m a b (inl (is, e)) (inl (also, f)) = e ∙ sym f
  one_by_structure m a b (inl (is, e)) (inr (refusal, because, f)) = absurd (countermodel_not_refused constants flat m refusal is because)
  one_by_structure m a b (inr (refusal, because, e)) (inl (is, f)) = absurd (countermodel_not_refused constants flat m refusal is because)
  one_by_structure m a b (inr (refusal, is, e)) (inr (other, also, f)) =
      e ∙ ap (λ r. on_output (confirm_text r) 1) (one_confirm_refusal constants flat m refusal other is also) ∙ sym f

  -- by the bytes of the second file
  abbrev OnModel : Text → End → Text → Type 0
  OnModel name end bytes = ((refusal : ModelRefusal) × ModelFault bytes refusal × (end ≡ on_errors (name ++ model_text refusal) 3)) ⊎
      ((m : Finite) × IsModelOf bytes m × OnStructure end m)

  -- two ends by the bytes of the second file are one
  one_by_model : (name bytes : Text) (a b : End) → OnModel name a bytes → OnModel name b bytes → a ≡ b
  one_by_model name bytes a b (inl (refusal, is, e)) (inl (other, also, f)) =
      e ∙ ap (λ r. on_errors (name ++ model_text r) 3) (refusals_same bytes refusal other is also) ∙ sym f
  one_by_model name bytes a b (inl (refusal, because, e)) (inr (m, is, f)) = absurd (model_not_refused bytes m refusal is because)
  one_by_model name bytes a b (inr (m, is, e)) (inl (refusal, because, f)) = absurd (model_not_refused bytes m refusal is because)
  one_by_model name bytes a b (inr (m, is, e)) (inr (other, also, f)) =
      one_by_structure m a b e (subst (OnStructure b) (models_same bytes other m also is) f)

module _ (held : Held) where
  -- by the second file
  abbrev OnSecond : (Text → Type 0) → Text → End → Type 0
  OnSecond P name end = (IsLong held name MOST_FILE_BYTES × (end ≡ on_errors (name ++ too_long_text) 3)) ⊎
      ((bytes : Text) × (finite.get held name ≡ Some bytes) × (length bytes ≤ MOST_FILE_BYTES) × P bytes)

  -- no file is both too long and within the bound
  not_long : (name bytes : Text) → IsLong held name MOST_FILE_BYTES → finite.get held name ≡ Some bytes → length bytes ≤ MOST_FILE_BYTES → ⊥
  not_long name bytes long get within =
      let more = subst (λ o. IsSomeAnd o (λ (bs : Text). MOST_FILE_BYTES < length bs)) get long in absurd (omega arith)

  -- two ends by the second file are one
  one_by_second : (P Q : Text → Type 0) (name : Text) (a b : End) → ((bytes : Text) → P bytes → Q bytes → a ≡ b) →
      OnSecond P name a → OnSecond Q name b → a ≡ b
  one_by_second P Q name a b one (inl (long, e)) (inl (also, f)) = e ∙ sym f
  one_by_second P Q name a b one (inl (long, e)) (inr (bytes, get, within, f)) = absurd (not_long name bytes long get within)
  one_by_second P Q name a b one (inr (bytes, get, within, e)) (inl (long, f)) = absurd (not_long name bytes long get within)
  one_by_second P Q name a b one (inr (bytes, get, within, e)) (inr (others, also, within', f)) =
      one bytes e (subst Q (value_same (sym also ∙ get)) f)

  -- by the search for a proof within a bound
  abbrev OnSearch : ℕ → End → CitedTask → Type 0
  OnSearch most end task = ((body : Body) × IsSmallest task body × (size body ≤ most) × (end ≡ found_end task)) ⊎
      (HasNoProof task most × (end ≡ on_output (none_text most) 1))

  -- two ends by the search are one
  one_by_search : (most : ℕ) (task : CitedTask) (a b : End) → OnSearch most a task → OnSearch most b task → a ≡ b
  one_by_search most task a b (inl (body, is, few, e)) (inl (other, also, small, f)) = e ∙ sym f
  one_by_search most task a b (inl (body, is, few, e)) (inr (none, f)) = absurd (none body is.proves few)
  one_by_search most task a b (inr (none, e)) (inl (body, is, few, f)) = absurd (none body is.proves few)
  one_by_search most task a b (inr (none, e)) (inr (also, f)) = e ∙ sym f

  -- by the search for a countermodel
  abbrev OnRefuting : ℕ → List Fof → End → CitedTask → Type 0
  OnRefuting size flat end task = ((m : Finite) × IsLeastModel flat task size m × IsSound m × (end ≡ refuted_end flat task)) ⊎
      (HasNoModel flat task size × (end ≡ on_output (none_text size) 1))

  -- two ends by that search are one
  one_by_refuting : (size : ℕ) (flat : List Fof) (task : CitedTask) (a b : End) → OnRefuting size flat a task → OnRefuting size flat b task → a ≡ b
  one_by_refuting size flat task a b (inl (m, is, sound, e)) (inl (n, also, sound', f)) = e ∙ sym f
  one_by_refuting size flat task a b (inl (m, is, sound, e)) (inr (none, f)) = absurd (none m sound is.within is.counter)
  one_by_refuting size flat task a b (inr (none, e)) (inl (m, is, sound, f)) = absurd (none m sound is.within is.counter)
  one_by_refuting size flat task a b (inr (none, e)) (inr (also, f)) = e ∙ sym f

  -- by the task of the problem
  abbrev OnTask : (CitedTask → Type 0) → End → List Fof → Type 0
  OnTask P end flat = ((refusal : TaskRefusal) × IsTaskFault flat refusal × (end ≡ on_errors (formula_text refusal) 2)) ⊎
      ((task : CitedTask) × IsTaskOf flat task × P task)

  -- two ends by the task of the problem are one
  one_by_task : (P Q : CitedTask → Type 0) (flat : List Fof) (a b : End) → ((task : CitedTask) → AreCitedOnce task → P task → Q task → a ≡ b) →
      OnTask P a flat → OnTask Q b flat → a ≡ b
  one_by_task P Q flat a b one (inl (refusal, is, e)) (inl (other, also, f)) =
      e ∙ ap (λ r. on_errors (formula_text r) 2) (one_task_refusal flat refusal other is also) ∙ sym f
  one_by_task P Q flat a b one (inl (refusal, is, e)) (inr (task, has, f)) = absurd (task_not_refused flat task refusal has is)
  one_by_task P Q flat a b one (inr (task, has, e)) (inl (refusal, is, f)) = absurd (task_not_refused flat task refusal has is)
  one_by_task P Q flat a b one (inr (task, has, e)) (inr (other, also, f)) =
      one task (cited_once flat task has) e (subst Q (one_task flat other task also has) f)

  -- by the formulas of the problem, and what is asked of it
  abbrev OnFormulas : Aim → End → List Fof → Type 0
  OnFormulas to_print end flat = end ≡ on_output (problem_text flat) 0
  OnFormulas (to_prove most) end flat = OnTask (OnSearch most end) end flat
  OnFormulas (to_judge wanted format name) end flat = OnTask (λ task. OnSecond (OnBytes wanted format name task end) name end) end flat
  OnFormulas (to_refute size) end flat = OnTask (OnRefuting size flat end) end flat
  OnFormulas (to_confirm name) end flat = OnTask (λ task. OnSecond (OnModel task.tables.constants flat name end) name end) end flat

  -- two ends by the formulas of the problem are one
  one_by_formulas : (aim : Aim) (flat : List Fof) (a b : End) → OnFormulas aim a flat → OnFormulas aim b flat → a ≡ b
  one_by_formulas to_print flat a b e f = e ∙ sym f
  one_by_formulas (to_prove most) flat a b e f =
      one_by_task (OnSearch most a) (OnSearch most b) flat a b (λ task once. one_by_search most task a b) e f
  one_by_formulas (to_judge wanted format name) flat a b e f =
      one_by_task (λ task. OnSecond (OnBytes wanted format name task a) name a) (λ task. OnSecond (OnBytes wanted format name task b) name b)
      flat a b (λ task once. one_by_second (OnBytes wanted format name task a) (OnBytes wanted format name task b) name a b
      (λ bytes. one_by_bytes wanted format name task bytes a b once)) e f
  one_by_formulas (to_refute size) flat a b e f =
      one_by_task (OnRefuting size flat a) (OnRefuting size flat b) flat a b (λ task once. one_by_refuting size flat task a b) e f
  one_by_formulas (to_confirm name) flat a b e f =
      one_by_task (λ task. OnSecond (OnModel task.tables.constants flat name a) name a)
      (λ task. OnSecond (OnModel task.tables.constants flat name b) name b) flat a b
      (λ task once. one_by_second (OnModel task.tables.constants flat name a) (OnModel task.tables.constants flat name b) name a b
      (λ bytes. one_by_model task.tables.constants flat name bytes a b)) e f

  -- by the files of the problem
  abbrev OnProblem : End → Text → Aim → Type 0
  OnProblem end problem aim =
      ((file : Text) × (why : FlatWhy) × IsFlatRefused held problem file why × (end ≡ on_errors (file ++ flat_text why) 2)) ⊎
      ((flat : List Fof) × IsFlat held problem flat × OnFormulas aim end flat)

  -- two ends by the files of the problem are one
  one_by_problem : (problem : Text) (aim : Aim) (a b : End) → OnProblem a problem aim → OnProblem b problem aim → a ≡ b
  one_by_problem problem aim a b (inl (file, why, is, e)) (inl (other, reason, also, f)) =
      let same = one_refusal held problem file other why reason is also in
      e ∙ (λ i. on_errors (same.0 i ++ flat_text (same.1 i)) 2) ∙ sym f
  one_by_problem problem aim a b (inl (file, why, is, e)) (inr (flat, also, f)) = absurd (never_both held problem flat file why also is)
  one_by_problem problem aim a b (inr (flat, also, e)) (inl (file, why, is, f)) = absurd (never_both held problem flat file why also is)
  one_by_problem problem aim a b (inr (flat, is, e)) (inr (other, also, f)) =
      one_by_formulas aim flat a b e (subst (OnFormulas aim b) (one_list held problem flat other is also) f)

module _ (held : Held) where
  -- by the words
  abbrev OnWords : List Text → End → Type 0
  OnWords words end = ((command_of words ≡ None) × (end ≡ on_errors usage_text 64)) ⊎
      ((problem : Text) × (aim : Aim) × Asks words problem aim × OnProblem held end problem aim)

  -- two ends by the words are one
  one_by_words : (words : List Text) (a b : End) → OnWords words a → OnWords words b → a ≡ b
  one_by_words words a b (inl (none, e)) (inl (also, f)) = e ∙ sym f
  one_by_words words a b (inl (none, e)) (inr (problem, aim, names, f)) = absurd (asks_some words problem aim names none)
  one_by_words words a b (inr (problem, aim, names, e)) (inl (none, f)) = absurd (asks_some words problem aim names none)
  one_by_words words a b (inr (problem, aim, names, e)) (inr (other, another, also, f)) =
      let same = value_same (sym also ∙ names) in
      one_by_problem held problem aim a b e (subst (λ (n : Text × Aim). OnProblem held b n.0 n.1) same f)

  module _ (words : List Text) (files later : Known) (holding : files.held ≡ Some held) where
    -- what is said where the files tell what they hold
    here : (P : Held → Type 0) → IfSome files.held P → P held
    here P is = subst (λ o. IfSome o P) holding is

    -- an end by the second file of words that name it, where the problem has a task
    by_task : (problem : Text) (format : Format) (name : Text) (task : CitedTask) (end : End) (names : NamesBoth words problem format name) →
        ReadsTask files problem task → OnSecond held (OnBytes names.0 format name task end) name end → OnWords words end
    by_task problem format name task end names read is = inr (
      problem,
      to_judge names.0 format name,
      names.1,
      inr (read.formulas, here (λ h. IsFlat h problem read.formulas) read.reads, inr (task, read.has, is)),
    )

    -- an end by the bytes of that file
    by_bytes : (problem : Text) (format : Format) (name bytes : Text) (task : CitedTask) (end : End) (names : NamesBoth words problem format name) →
        ReadsBytes files problem name task bytes → OnBytes names.0 format name task end bytes → OnWords words end
    by_bytes problem format name bytes task end names read is = by_task problem format name task end names read.reads
        (inr (bytes, here (λ h. finite.get h name ≡ Some bytes) read.holds.held, read.holds.within, is))

    -- an end by the script that they spell
    by_script : (problem : Text) (format : Format) (proof : Text) (task : CitedTask) (script : Written) (end : End)
        (names : NamesBoth words problem format proof) → ReadsScript format files problem proof task script →
        OnScript names.0 task end script → OnWords words end
    by_script problem format proof task script end names read is =
        by_bytes problem format proof read.bytes task end names read.reads (inr (script, read.spells, is))

    -- an end by the second file that is to have a structure
    by_model : (problem name : Text) (formulas : List Fof) (task : CitedTask) (end : End) → Asks words problem (to_confirm name) →
        IfSome files.held (λ h. IsFlat h problem formulas) → IsTaskOf formulas task →
        OnSecond held (OnModel task.tables.constants formulas name end) name end → OnWords words end
    by_model problem name formulas task end asks reads has is =
        inr (problem, to_confirm name, asks, inr (formulas, here (λ h. IsFlat h problem formulas) reads, inr (task, has, is)))

    -- an end by the structure that it has
    by_structure : (problem name : Text) (formulas : List Fof) (task : CitedTask) (m : Finite) (end : End) → Asks words problem (to_confirm name) →
        ReadsModel files problem name formulas task m → OnStructure task.tables.constants formulas end m → OnWords words end
    by_structure problem name formulas task m end asks read is = by_model problem name formulas task end asks read.reads read.has
        (inr (read.bytes, here (λ h. finite.get h name ≡ Some read.bytes) read.holds.held, read.holds.within, inr (m, read.spells, is)))

    -- an end by a second file that is too long
    by_long : (problem name : Text) (task : CitedTask) (aim : Aim) (end : End) → Asks words problem aim → second_in aim ≡ Some name →
        ReadsTask files problem task → IsLong held name MOST_FILE_BYTES → end ≡ on_errors (name ++ too_long_text) 3 → OnWords words end
    by_long problem name task to_print end asks is read long e = absurd cc
    by_long problem name task (to_prove most) end asks is read long e = absurd cc
    by_long problem name task (to_judge wanted format other) end asks is read long e =
        let same : other ≡ name = value_same is in
        let asks' = subst (λ n. Asks words problem (to_judge wanted format n)) same asks in
        by_task problem format name task end (wanted, asks') read (inl (long, e))
    by_long problem name task (to_refute size) end asks is read long e = absurd cc
    by_long problem name task (to_confirm other) end asks is read long e =
        let same : other ≡ name = value_same is in
        let asks' = subst (λ n. Asks words problem (to_confirm n)) same asks in
        by_model problem name read.formulas task end asks' read.reads read.has (inl (long, e))

    -- an end on the output or the errors that says what the text is
    abbrev Ends : Bool → Text → ℕ → Type 0
    Ends output text status = (said : Said) × OnWords words (record { output = output; said = said; status = status }) × Means words said text

    -- a formula is refused, by what is asked of the problem's task
    by_fault : (aim : Aim) (end : End) (formulas : List Fof) (refusal : TaskRefusal) → aim ≢ to_print → IsTaskFault formulas refusal →
        end ≡ on_errors (formula_text refusal) 2 → OnFormulas held aim end formulas
    by_fault to_print end formulas refusal some is e = absurd (some refl)
    by_fault (to_prove most) end formulas refusal some is e = inl (refusal, is, e)
    by_fault (to_judge wanted format name) end formulas refusal some is e = inl (refusal, is, e)
    by_fault (to_refute size) end formulas refusal some is e = inl (refusal, is, e)
    by_fault (to_confirm name) end formulas refusal some is e = inl (refusal, is, e)

    -- an end by the search in the task of the problem
    by_search : (problem : Text) (most : ℕ) (task : CitedTask) (end : End) → Asks words problem (to_prove most) →
        ReadsTask files problem task → OnSearch held most end task → OnWords words end
    by_search problem most task end asks read is =
        inr (
          problem,
          to_prove most,
          asks,
          inr (read.formulas, here (λ h. IsFlat h problem read.formulas) read.reads, inr (task, read.has, is)),
        )

    -- an end by the search for a countermodel of the problem
    by_refuting : (problem : Text) (size : ℕ) (formulas : List Fof) (task : CitedTask) (end : End) → Asks words problem (to_refute size) →
        ReadsProblem files problem formulas → IsTaskOf formulas task → OnRefuting held size formulas end task → OnWords words end
    by_refuting problem size formulas task end asks reads has is =
        inr (problem, to_refute size, asks, inr (formulas, here (λ h. IsFlat h problem formulas) reads, inr (task, has, is)))

    -- what is done is an end by the words, on the output with status 0
    by_done : (text : Text) → Done words files text → Ends true text 0
    by_done text (judged wanted format problem proof _ task script body asks read is keeps) = (
      exactly text,
      by_script problem format proof task script _ (wanted, asks) read.reads (inl (body, read.accepted, ap (λ t. on_output t 0) is)),
      refl,
    )
    by_done text (proved problem _ most task body asks read least within is back) = (
      some_smallest task,
      by_search problem most task _ asks read (inl (body, least, within, refl)),
      (problem, most, body, asks, least, is),
    )
    by_done text (converted problem _ formulas asks reads is back) = (
      exactly text,
      inr (problem, to_print, asks, inr (formulas, here (λ h. IsFlat h problem formulas) reads, ap (λ t. on_output t 0) is)),
      refl,
    )
    by_done text (refuted problem _ size formulas task m asks reads has least is back) = (
      some_least formulas task,
      by_refuting problem size formulas task _ asks reads has (inl (m, least, back.2.sound, refl)),
      (problem, size, m, asks, least, is),
    )
    by_done text (confirmed problem name _ formulas task m asks read counter is) = (
      exactly text,
      by_structure problem name formulas task m _ asks read (inl (counter, ap (λ t. on_output t 0) is)),
      refl,
    )

    -- an answer is an end by the words, unless a fetch failed
    by_row : {output : Bool} {text : Text} {status : ℕ} → Answer words files later output text status → status ≢ 66 → Ends output text status
    by_row (done text row) some = by_done text row
    by_row (step_refused problem second format task script refusal names reads is) some =
        (exactly (step_text refusal), by_script problem format second task script _ names reads (inr (refusal, is, refl)), refl)
    by_row (none_up_to problem most task asks read is) some =
        (exactly (none_text most), by_search problem most task _ asks read (inr (is, refl)), refl)
    by_row (none_sized problem size formulas task asks reads has is) some =
        (exactly (none_text size), by_refuting problem size formulas task _ asks reads has (inr (is, refl)), refl)
    by_row (model_fails problem name formulas task m refusal asks read is) some =
        (exactly (confirm_text refusal), by_structure problem name formulas task m _ asks read (inr (refusal, is, refl)), refl)
    by_row (problem_refused problem file why names is inner) some = (
      exactly (file ++ flat_text why),
      inr (problem, names.0, names.1, inl (file, why, here (λ h. IsFlatRefused h problem file why) is, refl)),
      refl,
    )
    by_row (formula_refused problem formulas refusal names reads is) some = (
      exactly (formula_text refusal),
      inr (
        problem,
        names.0,
        names.1,
        inr (
          formulas,
          here (λ h. IsFlat h problem formulas) reads,
          by_fault names.0 _ formulas refusal names.2 is refl,
        ),
      ),
      refl,
    )
    by_row (too_long problem second task names read long) some = (
      exactly (second ++ too_long_text),
      by_long problem second task names.0 _ names.1 names.2 read (here (λ h. IsLong h second MOST_FILE_BYTES) long) refl,
      refl,
    )
    by_row (proof_refused problem second format task bytes why names read is) some = (
      exactly (second ++ proof_text why),
      by_bytes problem format second bytes task _ names read (inl (why, is, refl)),
      refl,
    )
    by_row (model_refused problem second task bytes refusal asks read is) some = (
      exactly (second ++ model_text refusal),
      by_model problem second read.reads.formulas task _ asks read.reads.reads read.reads.has
          (inr (bytes, here (λ h. finite.get h second ≡ Some bytes) read.holds.held, read.holds.within, inl (refusal, is, refl))),
      refl,
    )
    by_row (usage none) some = (exactly usage_text, inl (none, refl), refl)
    by_row (fault file asked fails) some = absurd (some refl)

-- the files at which two runs look, where those of the program hold the same
looked_same : (command : Option Command) (files other : Known) (held : Held) → files.held ≡ Some held → other.held ≡ Some held →
    (own : Held) × ((looked_in command files).held ≡ Some own) × ((looked_in command other).held ≡ Some own)
looked_same (Some (Demo k)) files other held told also = (_, refl, refl)
looked_same (Some Check) files other held told also = (held, told, also)
looked_same (Some (Prove most)) files other held told also = (held, told, also)
looked_same (Some ExportIsar) files other held told also = (held, told, also)
looked_same (Some ExportEnglish) files other held told also = (held, told, also)
looked_same (Some ConvertProblem) files other held told also = (held, told, also)
looked_same (Some ConvertVernacular) files other held told also = (held, told, also)
looked_same (Some ConvertIsar) files other held told also = (held, told, also)
looked_same (Some ConvertVersion2) files other held told also = (held, told, also)
looked_same (Some (Refute size)) files other held told also = (held, told, also)
looked_same (Some Confirm) files other held told also = (held, told, also)
looked_same None files other held told also = (held, told, also)

-- two outcomes of the same words, over files that hold the same
pub one_outcome : (words : List Text) (held : Held) (files later other last : Known) (old new before after : Sinks) (status end : ℕ) →
    files.held ≡ Some held → other.held ≡ Some held → Outcome words files later old new status → Outcome words other last before after end →
    IsSettled status → IsSettled end → EndAlike words old new before after status end
one_outcome words held files later other last old new before after _ _ told also (answered output text status row put)
    (answered output' text' end row' put') settled settled' =
    let own = looked_same (command_of words) files other held told also in
    let a = by_row own.0 words (looked_at words files) (looked_at words later) own.1 row settled.fetched in
    let b = by_row own.0 words (looked_at words other) (looked_at words last) own.2 row' settled'.fetched in
    let one = one_by_words own.0 words _ _ a.1 b.1 in
    record {
      output = output;
      text = text;
      another = text';
      first = put;
      second = subst (λ (e : End). PutsTo e.output before after text') (sym one) put';
      alike = alike_of words a.0 text text' a.2 (subst (λ (e : End). Means words e.said text') (sym one) b.2);
      same = ap (λ (e : End). e.status) one;
    }
one_outcome words held files later other last old new before after _ _ told also (broken output text status row breaks) second settled settled' =
    absurd (settled.put refl)
one_outcome words held files later other last old new before after _ _ told also (out_of_memory some same) second settled settled' =
    absurd (settled.room refl)
one_outcome words held files later other last old new before after _ _ told also (answered output text status row put)
    (broken output' text' end row' breaks) settled settled' = absurd (settled'.put refl)
one_outcome words held files later other last old new before after _ _ told also (answered output text status row put)
    (out_of_memory some same) settled settled' = absurd (settled'.room refl)
