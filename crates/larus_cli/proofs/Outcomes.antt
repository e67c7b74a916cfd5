-- What the outcome of a run says of its status.
use Rattle.std.specs.Prelude.{◌≢◌, IfSome, codes}
use Rattle.std.specs.List.{AllByRecursion}
use Rattle.std.proofs.Common.{◌≡◌, ◌≤◌, ◌⊎◌, inl, inr, ℕ, Bool, true, false, List, [], ◌∷◌, Option, Some, None, refl, sym, ap, subst, ◌∙◌, arith}
use Rattle.text_core.specs.Lists.{IsAmong}
use Rattle.text_core.specs.Names.{Text}
use Rattle.logic_core.specs.Allowed.{FofIsAllowed}
use Rattle.logic_core.specs.Truth.{Structure}
use Rattle.logic_core.specs.Problems.{Follows}
use Rattle.logic_core.specs.declared.problem.Fof.{Fof}
use Rattle.vernacular_tree.specs.Rules.{Proves}
use Rattle.vernacular_tree.specs.declared.tree.Body.{Body}
use Rattle.io_core.specs.Causes.{Rose}
use Rattle.io_core.specs.Held.{Held}
use Rattle.io_core.specs.Known.{Known}
use Rattle.io_core.specs.Stream.{Stream, Puts, Breaks}
use Rattle.include_flat.specs.Flattened.{IsFlat}
use Rattle.include_flat.proofs.Laws.{flat_allowed}
use Rattle.coherent_form.specs.Tasks.{CitedTask, IsTaskOf, proof_task}
use Rattle.model_text.specs.Structures.{Finite, IsSound}
use Rattle.model_text.specs.Texts.{IsModelOf}
use Rattle.finite_model.specs.Countermodels.{IsCountermodel}
use Rattle.model_search.specs.declared.find.TheConstants.{MOST_SOUGHT}
use Rattle.proof_text.specs.declared.part.Edition.{Edition}
use Rattle.proof_text.specs.declared.part.Edition.TheVariants.{First, Second}
use Rattle.larus_cli.specs.declared.command.Command.{Command}
use Rattle.larus_cli.specs.declared.command.Command.TheVariants.{Check, Prove, ExportIsar, ExportEnglish, ConvertProblem, ConvertVernacular, ConvertIsar, ConvertVersion2, Demo, Refute, Confirm}
use Rattle.larus_cli.specs.declared.command.Wanted.{Wanted}
use Rattle.larus_cli.specs.declared.command.Wanted.TheVariants.{Size, Script}
use Rattle.larus_cli.specs.declared.command.Wanted.TheVariants as wants
use Rattle.larus_cli.specs.declared.command.Format.{Format}
use Rattle.larus_cli.specs.declared.command.Format.TheVariants.{Vernacular, Isar}
use Rattle.larus_cli.specs.declared.command.TheConstants.{MOST_STEPS}
use Rattle.larus_cli.specs.Words.{Aim, to_print, to_prove, to_judge, to_refute, to_confirm, command_of, Asks}
use Rattle.larus_cli.specs.Words.{check_words, prove_words, export_words, isar_words, convert_words, rewrite_words, refute_words, confirm_words}
use Rattle.larus_cli.specs.OwnFiles.{looked_in, looked_at, FilesUnasked, AsksNoFile}
use Rattle.larus_cli.specs.Texts.{none_text}
use Rattle.larus_cli.specs.Read.{ReadsProblem, ReadsTask, ReadsProof}
use Rattle.larus_cli.specs.Smallest.{HasNoProof}
use Rattle.larus_cli.specs.LeastModel.{HasNoModel}
use Rattle.larus_cli.specs.Sought.{SmallestPrinted, NoneTold, LeastModelPrinted, NoModelTold}
use Rattle.larus_cli.specs.Done.{Done, told, judged, proved, converted, refuted, confirmed, KeepsProof}
use Rattle.larus_cli.specs.Follows.{ProblemFollows}
use Rattle.larus_cli.specs.Refuted.{HasNoBody, ProblemRefuted}
use Rattle.larus_cli.specs.Printed.{ReadsBack, ReadsBackAs, ProblemPrinted, ProofPrinted, IsarPrinted}
use Rattle.larus_cli.specs.Answers.{IsAsked, of_problem, as_second, Answer, done, step_refused, none_up_to, none_sized, model_fails, problem_refused, formula_refused}
use Rattle.larus_cli.specs.Answers.{too_long, proof_refused, model_refused, usage, fault}
use Rattle.larus_cli.specs.Outcome.{Sinks, sinks, PutsTo, IsReply, Outcome, answered, broken, out_of_memory}
use Rattle.larus_cli.proofs.Saying.{prove_command, asks_check, asks_prove, asks_export, asks_isar, asks_convert, asks_rewrite, refute_command, asks_refute, asks_confirm, one_problem, one_aim}

-- an answer with status 0 goes to the output, and the command is done
done_row : {words : List Text} {files later : Known} {output : Bool} {text : Text} {status : ℕ} → Answer words files later output text status →
    status ≡ 0 → (output ≡ true) × Done words files text
done_row (done text row) e = (refl, row)
done_row row e = absurd (omega arith)

-- with status 0 the command is done, and its text is put to the output
done_of : {words : List Text} {files later : Known} {old new : Sinks} {status : ℕ} → Outcome words files later old new status → status ≡ 0 →
    (text : Text) × Done words (looked_at words files) text × Puts old.out new.out text
done_of {old = old} {new = new} (answered output text status row put) e =
    let k = done_row row e in
    (text, k.1, (subst (λ o. PutsTo o old new text) k.0 put).0)
done_of outcome e = absurd (omega arith)

-- words that name files look at those of the program
looks_check : (words : List Text) (problem proof : Text) (files : Known) → words ≡ check_words problem proof → looked_at words files ≡ files
looks_check words problem proof files are = subst (λ ws. looked_at ws files ≡ files) (sym are) refl

looks_convert : (words : List Text) (problem : Text) (files : Known) → words ≡ convert_words problem → looked_at words files ≡ files
looks_convert words problem files are = subst (λ ws. looked_at ws files ≡ files) (sym are) refl

looks_rewrite : (edition : Edition) (words : List Text) (problem proof : Text) (files : Known) → words ≡ rewrite_words edition problem proof →
    looked_at words files ≡ files
looks_rewrite First words problem proof files are = subst (λ ws. looked_at ws files ≡ files) (sym are) refl
looks_rewrite Second words problem proof files are = subst (λ ws. looked_at ws files ≡ files) (sym are) refl

looks_export : (words : List Text) (problem proof : Text) (files : Known) → words ≡ export_words (codes "isar") problem proof →
    looked_at words files ≡ files
looks_export words problem proof files are = subst (λ ws. looked_at ws files ≡ files) (sym are) refl

looks_isar : (words : List Text) (problem text : Text) (files : Known) → words ≡ isar_words problem text → looked_at words files ≡ files
looks_isar words problem text files are = subst (λ ws. looked_at ws files ≡ files) (sym are) refl

looks_confirm : (words : List Text) (problem model : Text) (files : Known) → words ≡ confirm_words problem model → looked_at words files ≡ files
looks_confirm words problem model files are = subst (λ ws. looked_at ws files ≡ files) (sym are) refl

looks_prove : (words : List Text) (problem : Text) (most : ℕ) (files : Known) → most ≤ MOST_STEPS → words ≡ prove_words problem most →
    looked_at words files ≡ files
looks_prove words problem most files few are = subst (λ ws. looked_at ws files ≡ files) (sym are)
    (subst (λ command. looked_in command files ≡ files) (sym (prove_command problem most few)) refl)

looks_refute : (words : List Text) (problem : Text) (size : ℕ) (files : Known) → 1 ≤ size → size ≤ MOST_SOUGHT → words ≡ refute_words problem size →
    looked_at words files ≡ files
looks_refute words problem size files some few are = subst (λ ws. looked_at ws files ≡ files) (sym are)
    (subst (λ command. looked_in command files ≡ files) (sym (refute_command problem size some few)) refl)

-- what is asked of a problem is one thing
judged_sought : {wanted : Wanted} {format : Format} {second : Text} {most : ℕ} → to_judge wanted format second ≡ to_prove most → ⊥
judged_sought e = cc

judged_printed : {wanted : Wanted} {format : Format} {second : Text} → to_judge wanted format second ≡ to_print → ⊥
judged_printed e = cc

sought_printed : {most : ℕ} → to_prove most ≡ to_print → ⊥
sought_printed e = cc

judged_confirmed : {wanted : Wanted} {format : Format} {second model : Text} → to_judge wanted format second ≡ to_confirm model → ⊥
judged_confirmed e = cc

sought_confirmed : {most : ℕ} {model : Text} → to_prove most ≡ to_confirm model → ⊥
sought_confirmed e = cc

printed_confirmed : {model : Text} → to_print ≡ to_confirm model → ⊥
printed_confirmed e = cc

judged_refuted : {wanted : Wanted} {format : Format} {second : Text} {size : ℕ} → to_judge wanted format second ≡ to_refute size → ⊥
judged_refuted e = cc

sought_refuted : {most size : ℕ} → to_prove most ≡ to_refute size → ⊥
sought_refuted e = cc

printed_refuted : {size : ℕ} → to_print ≡ to_refute size → ⊥
printed_refuted e = cc

refuted_confirmed : {size : ℕ} {model : Text} → to_refute size ≡ to_confirm model → ⊥
refuted_confirmed e = cc

-- the number of elements of a countermodel that is sought is one
size_same : {size other : ℕ} → to_refute size ≡ to_refute other → size ≡ other
size_same e = cc

-- the bound within which a proof is sought is one
bound_same : {most bound : ℕ} → to_prove most ≡ to_prove bound → most ≡ bound
bound_same e = cc

-- what is wanted of a proof is one thing, and so is the file that it is in
wanted_same : {wanted other : Wanted} {format kind : Format} {second another : Text} → to_judge wanted format second ≡ to_judge other kind another →
    wanted ≡ other
wanted_same e = cc

second_same : {wanted other : Wanted} {format kind : Format} {second another : Text} → to_judge wanted format second ≡ to_judge other kind another →
    second ≡ another
second_same e = cc

-- and how it is read
format_same : {wanted other : Wanted} {format kind : Format} {second another : Text} → to_judge wanted format second ≡ to_judge other kind another →
    format ≡ kind
format_same e = cc

-- the conjecture follows where the task of a problem is proved
abbrev Law : Structure → Type 0
Law s = (problem : List Fof) (task : CitedTask) (body : Body) → AllByRecursion FofIsAllowed problem → IsTaskOf problem task →
    Proves (proof_task task) body → Follows s problem

-- where the formulas of a flat problem follow, which may be in a problem, the problem does
flat_follows : (s : Structure) (held : Option Held) (name : Text) (formulas : List Fof) → IfSome held (λ h. IsFlat h name formulas) →
    (AllByRecursion FofIsAllowed formulas → Follows s formulas) → IfSome held (λ h. (fs : List Fof) × IsFlat h name fs × Follows s fs)
flat_follows s None name formulas flat follows = tt
flat_follows s (Some h) name formulas flat follows = (formulas, flat, follows (flat_allowed h name formulas flat))

-- the problem of an accepted proof follows
pub follows_of : (s : Structure) → Law s → {words : List Text} {files later : Known} {old new : Sinks} {status : ℕ} →
    Outcome words files later old new status → (problem proof : Text) → words ≡ check_words problem proof → status ≡ 0 →
    ProblemFollows s files problem
follows_of s law {words = words} {files = files} outcome problem proof are e =
    subst (λ f. ProblemFollows s f problem) (looks_check words problem proof files are) (by (looked_at words files) (done_of outcome e).1)
  where
    asks : Asks words problem (to_judge Size Vernacular proof)
    asks = asks_check words problem proof are

    by : (known : Known) {text : Text} → Done words known text → ProblemFollows s known problem
    by known (judged wanted format other another text task script body also reads is keeps) =
        let read = reads.reads.reads.reads in
        subst (ProblemFollows s known) (one_problem words also asks)
        (flat_follows s known.held other read.formulas read.reads (λ allowed. law read.formulas task body allowed read.has reads.accepted.proves))
    by known (proved other text most task body also reads smallest within is back) = absurd (judged_sought (one_aim words asks also))
    by known (converted other text formulas also reads is back) = absurd (judged_printed (one_aim words asks also))
    by known (refuted other text bound formulas task m also reads has least is back) = absurd (judged_refuted (one_aim words asks also))
    by known (confirmed other second text formulas task m also reads counter is) = absurd (judged_confirmed (one_aim words asks also))

-- where the formulas of a flat problem exclude proofs of their task, which may be in a problem, the problem has none
flat_refuted : (held : Option Held) (name : Text) (formulas : List Fof) (task : CitedTask) → IfSome held (λ h. IsFlat h name formulas) →
    IsTaskOf formulas task → (AllByRecursion FofIsAllowed formulas → HasNoBody task) →
    IfSome held (λ h. (fs : List Fof) × IsFlat h name fs × ((t : CitedTask) × IsTaskOf fs t × HasNoBody t))
flat_refuted None name formulas task flat has none = tt
flat_refuted (Some h) name formulas task flat has none = (formulas, flat, (task, has, none (flat_allowed h name formulas flat)))

-- a countermodel of a problem excludes each proof of its task
abbrev Exclusion : Type 0
Exclusion = (problem : List Fof) (task : CitedTask) (m : Finite) (body : Body) → AllByRecursion FofIsAllowed problem → IsTaskOf problem task →
    IsSound m → IsCountermodel task.tables.constants problem m → Proves (proof_task task) body → ⊥

-- the problem of a confirmed countermodel has no proof
pub confirmed_of : Exclusion → {words : List Text} {files later : Known} {old new : Sinks} {status : ℕ} → Outcome words files later old new status →
    (problem model : Text) → words ≡ confirm_words problem model → status ≡ 0 → ProblemRefuted files problem
confirmed_of law {words = words} {files = files} outcome problem model are e =
    subst (λ f. ProblemRefuted f problem) (looks_confirm words problem model files are) (by (looked_at words files) (done_of outcome e).1)
  where
    asks : Asks words problem (to_confirm model)
    asks = asks_confirm words problem model are

    by : (known : Known) {text : Text} → Done words known text → ProblemRefuted known problem
    by known (judged wanted format other another text task script body also reads is keeps) = absurd (judged_confirmed (one_aim words also asks))
    by known (proved other text most task body also reads smallest within is back) = absurd (sought_confirmed (one_aim words also asks))
    by known (converted other text formulas also reads is back) = absurd (printed_confirmed (one_aim words also asks))
    by known (refuted other text bound formulas task m also reads has least is back) = absurd (refuted_confirmed (one_aim words also asks))
    by known (confirmed other second text formulas task m also reads counter is) =
        subst (ProblemRefuted known) (one_problem words also asks)
        (flat_refuted known.held other formulas task reads.reads reads.has
        (λ allowed body. law formulas task m body allowed reads.has reads.spells.2.sound counter))

-- where a text is printed that reads back as the formulas of a problem, the problem is printed
flat_printed : (held : Option Held) (name text : Text) (formulas : List Fof) (old new : Stream) → IfSome held (λ h. IsFlat h name formulas) →
    Puts old new text → ReadsBack text formulas →
    IfSome held (λ h. (fs : List Fof) × IsFlat h name fs × ((text : Text) × Puts old new text × ReadsBack text fs))
flat_printed None name text formulas old new flat put back = tt
flat_printed (Some h) name text formulas old new flat put back = (formulas, flat, (text, put, back))

-- what is printed for a converted problem reads back
pub printed_of : {words : List Text} {files later : Known} {old new : Sinks} {status : ℕ} → Outcome words files later old new status →
    (problem : Text) → words ≡ convert_words problem → status ≡ 0 → ProblemPrinted files problem old.out new.out
printed_of {words = words} {files = files} {old = old} {new = new} outcome problem are e =
    subst (λ f. ProblemPrinted f problem old.out new.out) (looks_convert words problem files are)
    (by (looked_at words files) (done_of outcome e).1 (done_of outcome e).2)
  where
    asks : Asks words problem to_print
    asks = asks_convert words problem are

    by : (known : Known) {text : Text} → Done words known text → Puts old.out new.out text → ProblemPrinted known problem old.out new.out
    by known (judged wanted format other another text task script body also reads is keeps) put = absurd (judged_printed (one_aim words also asks))
    by known (proved other text most task body also reads smallest within is back) put = absurd (sought_printed (one_aim words also asks))
    by known (refuted other text bound formulas task m also reads has least is back) put = absurd (printed_refuted (one_aim words asks also))
    by known (confirmed other second text formulas task m also reads counter is) put = absurd (printed_confirmed (one_aim words asks also))
    by known (converted other text formulas also reads is back) put =
        subst (λ p. ProblemPrinted known p old.out new.out) (one_problem words also asks)
        (flat_printed known.held other text formulas old.out new.out reads put back)

-- what is printed for a conversion of the proof in a second file, by what the words ask for
by_asks : {words : List Text} (known : Known) {text : Text} (format : Format) (edition : Edition) (problem proof : Text) (old new : Stream) →
    Asks words problem (to_judge (Script edition) format proof) → Done words known text → Puts old new text →
    ProofPrinted format edition known problem proof old new
by_asks {words = words} known format edition problem proof old new asks (judged wanted kind other another text task script body also reads is keeps) put =
    let aims = one_aim words also asks in
    let same = wanted_same aims in
    let file : other ≡ problem = one_problem words also asks in
    let second : another ≡ proof = second_same aims in
    let read : ReadsProof format known other another task script body =
    subst (λ f. ReadsProof f known other another task script body) (format_same aims) reads in
    let kept : KeepsProof (Script edition) text task body = subst (λ w. KeepsProof w text task body) same keeps in
    let text_is : text ≡ told (Script edition) task body = subst (λ w. text ≡ told w task body) same is in
    subst (λ (k : Text × Text). ProofPrinted format edition known k.0 k.1 old new) (λ i. (file i, second i))
    (record { task = task; script = script; body = body; reads = read; text = text; puts = put; text_is = text_is; back = kept })
by_asks {words = words} known format edition problem proof old new asks (proved other text most task body also reads smallest within is back) put =
    absurd (judged_sought (one_aim words asks also))
by_asks {words = words} known format edition problem proof old new asks (converted other text formulas also reads is back) put =
    absurd (judged_printed (one_aim words asks also))
by_asks {words = words} known format edition problem proof old new asks (refuted other text bound formulas task m also reads has least is back) put =
    absurd (judged_refuted (one_aim words asks also))
by_asks {words = words} known format edition problem proof old new asks (confirmed other second text formulas task m also reads counter is) put =
    absurd (judged_confirmed (one_aim words asks also))

-- what is printed for a converted proof reads back
pub rewritten_of : {words : List Text} {files later : Known} {old new : Sinks} {status : ℕ} → Outcome words files later old new status →
    (edition : Edition) (problem proof : Text) → words ≡ rewrite_words edition problem proof → status ≡ 0 →
    ProofPrinted Vernacular edition files problem proof old.out new.out
rewritten_of {words = words} {files = files} {old = old} {new = new} outcome edition problem proof are e =
    subst (λ f. ProofPrinted Vernacular edition f problem proof old.out new.out) (looks_rewrite edition words problem proof files are)
    (by_asks (looked_at words files) Vernacular edition problem proof old.out new.out (asks_rewrite edition words problem proof are)
    (done_of outcome e).1 (done_of outcome e).2)

-- what is printed for a converted Isar text reads back
pub isar_of : {words : List Text} {files later : Known} {old new : Sinks} {status : ℕ} → Outcome words files later old new status →
    (problem text : Text) → words ≡ isar_words problem text → status ≡ 0 → ProofPrinted Isar First files problem text old.out new.out
isar_of {words = words} {files = files} {old = old} {new = new} outcome problem text are e =
    subst (λ f. ProofPrinted Isar First f problem text old.out new.out) (looks_isar words problem text files are)
    (by_asks (looked_at words files) Isar First problem text old.out new.out (asks_isar words problem text are)
    (done_of outcome e).1 (done_of outcome e).2)

-- what is printed for a proof exported in Isar reads back
pub exported_of : {words : List Text} {files later : Known} {old new : Sinks} {status : ℕ} → Outcome words files later old new status →
    (problem proof : Text) → words ≡ export_words (codes "isar") problem proof → status ≡ 0 → IsarPrinted files problem proof old.out new.out
exported_of {words = words} {files = files} {old = old} {new = new} outcome problem proof are e =
    subst (λ f. IsarPrinted f problem proof old.out new.out) (looks_export words problem proof files are)
    (by (looked_at words files) (done_of outcome e).1 (done_of outcome e).2)
  where
    asks : Asks words problem (to_judge wants.Isar Vernacular proof)
    asks = asks_export words problem proof are

    by : (known : Known) {text : Text} → Done words known text → Puts old.out new.out text → IsarPrinted known problem proof old.out new.out
    by known (judged wanted format other another text task script body also reads is keeps) put =
        let aims = one_aim words also asks in
        let file : other ≡ problem = one_problem words also asks in
        let second : another ≡ proof = second_same aims in
        let kept : KeepsProof wants.Isar text task body = subst (λ w. KeepsProof w text task body) (wanted_same aims) keeps in
        let read : ReadsProof Vernacular known other another task script body =
        subst (λ kind. ReadsProof kind known other another task script body) (format_same aims) reads in
        subst (λ (k : Text × Text). IsarPrinted known k.0 k.1 old.out new.out) (λ i. (file i, second i))
        (record { task = task; script = script; body = body; reads = read; text = text; puts = put; back = kept })
    by known (proved other text most task body also reads smallest within is back) put = absurd (judged_sought (one_aim words asks also))
    by known (converted other text formulas also reads is back) put = absurd (judged_printed (one_aim words asks also))
    by known (refuted other text bound formulas task m also reads has least is back) put = absurd (judged_refuted (one_aim words asks also))
    by known (confirmed other second text formulas task m also reads counter is) put = absurd (judged_confirmed (one_aim words asks also))

-- what is printed for a proof that was sought reads back as a smallest one
pub proved_of : {words : List Text} {files later : Known} {old new : Sinks} {status : ℕ} → Outcome words files later old new status →
    (problem : Text) (most : ℕ) → most ≤ MOST_STEPS → words ≡ prove_words problem most → status ≡ 0 →
    SmallestPrinted files problem most old.out new.out
proved_of {words = words} {files = files} {old = old} {new = new} outcome problem most few are e =
    subst (λ f. SmallestPrinted f problem most old.out new.out) (looks_prove words problem most files few are)
    (by (looked_at words files) (done_of outcome e).1 (done_of outcome e).2)
  where
    asks : Asks words problem (to_prove most)
    asks = asks_prove words problem most few are

    by : (known : Known) {text : Text} → Done words known text → Puts old.out new.out text → SmallestPrinted known problem most old.out new.out
    by known (judged wanted format other another text task script body also reads is keeps) put = absurd (judged_sought (one_aim words also asks))
    by known (proved other text bound task body also reads smallest within is back) put =
        let file : other ≡ problem = one_problem words also asks in
        let same : bound ≡ most = bound_same (one_aim words also asks) in
        subst (λ (k : Text × ℕ). SmallestPrinted known k.0 k.1 old.out new.out) (λ i. (file i, same i))
        (record { task = task; body = body; reads = reads; smallest = smallest; within = within; text = text; puts = put; back = back })
    by known (converted other text formulas also reads is back) put = absurd (sought_printed (one_aim words asks also))
    by known (refuted other text bound formulas task m also reads has least is back) put = absurd (sought_refuted (one_aim words asks also))
    by known (confirmed other second text formulas task m also reads counter is) put = absurd (sought_confirmed (one_aim words asks also))

-- where a proof is sought, an answer with status 1 tells that there is none
none_row : {words : List Text} {files later : Known} {output : Bool} {text : Text} {status : ℕ} → Answer words files later output text status →
    (problem : Text) (most : ℕ) → Asks words problem (to_prove most) → status ≡ 1 →
    (output ≡ true) × (text ≡ none_text most) × ((task : CitedTask) × ReadsTask files problem task × HasNoProof task most)
none_row {words = words} (step_refused other second format task script refusal names reads is) problem most asks e = absurd (judged_sought (one_aim words names.1 asks))
none_row {words = words} {files = files} (none_up_to other bound task also reads none) problem most asks e =
    let file : other ≡ problem = one_problem words also asks in
    let same : bound ≡ most = bound_same (one_aim words also asks) in
    let there : (task : CitedTask) × ReadsTask files problem task × HasNoProof task most =
    subst (λ (k : Text × ℕ). (task : CitedTask) × ReadsTask files k.0 task × HasNoProof task k.1) (λ i. (file i, same i)) (task, reads, none) in
    let text : none_text bound ≡ none_text most = ap none_text same in
    (refl, text, there)
none_row {words = words} (none_sized other size formulas task also reads has none) problem most asks e = absurd (sought_refuted (one_aim words asks also))
none_row {words = words} (model_fails other second formulas task m refusal also reads is) problem most asks e = absurd (sought_confirmed (one_aim words asks also))
none_row row problem most asks e = absurd (omega arith)

-- where a proof is sought, status 1 tells that there is none within the bound
pub none_of : {words : List Text} {files later : Known} {old new : Sinks} {status : ℕ} → Outcome words files later old new status →
    (problem : Text) (most : ℕ) → most ≤ MOST_STEPS → words ≡ prove_words problem most → status ≡ 1 →
    NoneTold files problem most old.out new.out
none_of {words = words} {files = files} {old = old} {new = new} (answered output text status row put) problem most few are e =
    let k = none_row row problem most (asks_prove words problem most few are) e in
    let here = subst (λ o. PutsTo o old new text) k.0 put in
    subst (λ f. NoneTold f problem most old.out new.out) (looks_prove words problem most files few are) (record {
      task = k.2.0;
      reads = k.2.1;
      none = k.2.2;
      puts = subst (λ t. Puts old.out new.out t) k.1 here.0;
    })
none_of outcome problem most few are e = absurd (omega arith)

-- what is printed for a countermodel that was sought is the text of a least one
pub refuted_of : {words : List Text} {files later : Known} {old new : Sinks} {status : ℕ} → Outcome words files later old new status →
    (problem : Text) (size : ℕ) → 1 ≤ size → size ≤ MOST_SOUGHT → words ≡ refute_words problem size → status ≡ 0 →
    LeastModelPrinted files problem size old.out new.out
refuted_of {words = words} {files = files} {old = old} {new = new} outcome problem size some few are e =
    subst (λ f. LeastModelPrinted f problem size old.out new.out) (looks_refute words problem size files some few are)
    (by (looked_at words files) (done_of outcome e).1 (done_of outcome e).2)
  where
    asks : Asks words problem (to_refute size)
    asks = asks_refute words problem size some few are

    by : (known : Known) {text : Text} → Done words known text → Puts old.out new.out text → LeastModelPrinted known problem size old.out new.out
    by known (judged wanted format other another text task script body also reads is keeps) put = absurd (judged_refuted (one_aim words also asks))
    by known (proved other text most task body also reads smallest within is back) put = absurd (sought_refuted (one_aim words also asks))
    by known (converted other text formulas also reads is back) put = absurd (printed_refuted (one_aim words also asks))
    by known (refuted other text bound formulas task m also reads has least is back) put =
        let file : other ≡ problem = one_problem words also asks in
        let same : bound ≡ size = size_same (one_aim words also asks) in
        subst (λ (k : Text × ℕ). LeastModelPrinted known k.0 k.1 old.out new.out) (λ i. (file i, same i)) (record {
          task = task;
          m = m;
          reads = record { formulas = formulas; reads = reads; has = has };
          least = least;
          puts = subst (Puts old.out new.out) is put;
          back = subst (λ t. IsModelOf t m) is back;
        })
    by known (confirmed other second text formulas task m also reads counter is) put = absurd (refuted_confirmed (one_aim words asks also))

-- where a countermodel is sought, an answer with status 1 tells that there is none
sized_row : {words : List Text} {files later : Known} {output : Bool} {text : Text} {status : ℕ} → Answer words files later output text status →
    (problem : Text) (size : ℕ) → Asks words problem (to_refute size) → status ≡ 1 →
    (output ≡ true) × (text ≡ none_text size) × ((task : CitedTask) × (reads : ReadsTask files problem task) ×
    HasNoModel reads.formulas task size)
sized_row {words = words} (step_refused other second format task script refusal names reads is) problem size asks e =
    absurd (judged_refuted (one_aim words names.1 asks))
sized_row {words = words} (none_up_to other most task also reads none) problem size asks e = absurd (sought_refuted (one_aim words also asks))
sized_row {words = words} {files = files} (none_sized other bound formulas task also reads has none) problem size asks e =
    let file : other ≡ problem = one_problem words also asks in
    let same : bound ≡ size = size_same (one_aim words also asks) in
    let text : none_text bound ≡ none_text size = ap none_text same in (
      refl,
      text,
      (
        task,
        record { formulas = formulas; reads = subst (λ p. ReadsProblem files p formulas) file reads; has = has },
        subst (λ n. HasNoModel formulas task n) same none,
      ),
    )
sized_row {words = words} (model_fails other second formulas task m refusal also reads is) problem size asks e =
    absurd (refuted_confirmed (one_aim words asks also))
sized_row row problem size asks e = absurd (omega arith)

-- where a countermodel is sought, status 1 tells that there is none with so few elements
pub sized_of : {words : List Text} {files later : Known} {old new : Sinks} {status : ℕ} → Outcome words files later old new status →
    (problem : Text) (size : ℕ) → 1 ≤ size → size ≤ MOST_SOUGHT → words ≡ refute_words problem size → status ≡ 1 →
    NoModelTold files problem size old.out new.out
sized_of {words = words} {files = files} {old = old} {new = new} (answered output text status row put) problem size some few are e =
    let k = sized_row row problem size (asks_refute words problem size some few are) e in
    let here = subst (λ o. PutsTo o old new text) k.0 put in
    subst (λ f. NoModelTold f problem size old.out new.out) (looks_refute words problem size files some few are) (record {
      task = k.2.0;
      reads = k.2.1;
      none = k.2.2;
      puts = subst (λ t. Puts old.out new.out t) k.1 here.0;
    })
sized_of outcome problem size some few are e = absurd (omega arith)

-- words that ask for something are a command
pub asks_some : (words : List Text) (problem : Text) (aim : Aim) → Asks words problem aim → command_of words ≡ None → ⊥
asks_some words problem aim asks none = let never = rw none at asks in cc

-- words by which something is done are a command
done_some : {words : List Text} {files : Known} {text : Text} → Done words files text → command_of words ≡ None → ⊥
done_some {words = words} (judged wanted format problem second text task script body asks reads is keeps) none = asks_some words problem _ asks none
done_some {words = words} (proved problem text most task body asks reads smallest within is back) none = asks_some words problem _ asks none
done_some {words = words} (converted problem text formulas asks reads is back) none = asks_some words problem _ asks none
done_some {words = words} (refuted problem text size formulas task m asks reads has least is back) none = asks_some words problem _ asks none
done_some {words = words} (confirmed problem second text formulas task m asks reads counter is) none = asks_some words problem _ asks none

-- words that ask for a file are a command
asked_some : {words : List Text} {files : Known} {file : Text} → IsAsked words files file → command_of words ≡ None → ⊥
asked_some {words = words} (of_problem problem names asked) none = asks_some words problem _ names.1 none
asked_some {words = words} (as_second problem task names reads) none = asks_some words problem _ names.1 none

-- words that are no command are answered with the usage text
usage_row : {words : List Text} {files later : Known} {output : Bool} {text : Text} {status : ℕ} → Answer words files later output text status →
    command_of words ≡ None → status ≡ 64
usage_row (done text row) none = absurd (done_some row none)
usage_row {words = words} (step_refused problem second format task script refusal names reads is) none = absurd (asks_some words problem _ names.1 none)
usage_row {words = words} (none_up_to problem most task asks reads is) none = absurd (asks_some words problem _ asks none)
usage_row {words = words} (none_sized problem size formulas task asks reads has is) none = absurd (asks_some words problem _ asks none)
usage_row {words = words} (model_fails problem second formulas task m refusal asks reads is) none = absurd (asks_some words problem _ asks none)
usage_row {words = words} (problem_refused problem file why names told inner) none = absurd (asks_some words problem _ names.1 none)
usage_row {words = words} (formula_refused problem formulas refusal names reads is) none = absurd (asks_some words problem _ names.1 none)
usage_row {words = words} (too_long problem second task names reads long) none = absurd (asks_some words problem _ names.1 none)
usage_row {words = words} (proof_refused problem second format task bytes why names reads is) none = absurd (asks_some words problem _ names.1 none)
usage_row {words = words} (model_refused problem second task bytes refusal asks reads is) none = absurd (asks_some words problem _ asks none)
usage_row (usage is) none = refl
usage_row (fault file asked fails) none = absurd (asked_some asked none)

-- where the status is 64, the words are no command
pub usage_only : {words : List Text} {files later : Known} {old new : Sinks} {status : ℕ} → Outcome words files later old new status →
    status ≡ 64 → command_of words ≡ None
usage_only (answered output text _ (usage is) put) e = is
usage_only outcome e = absurd (omega arith)

-- words that are no command end with 64, or 74 where the errors failed
pub no_command : {words : List Text} {files later : Known} {old new : Sinks} {status : ℕ} → Outcome words files later old new status →
    command_of words ≡ None → (status ≡ 64) ⊎ (status ≡ 74)
no_command (answered output text _ row put) none = inl (usage_row row none)
no_command (broken output text wanted row breaks) none = inr refl
no_command (out_of_memory some same) none = absurd (some none)

-- a fault of the files at which a command looks is one of the program's
rose_looked : (command : Option Command) (files later : Known) → Rose (looked_in command files).faults (looked_in command later).faults →
    Rose files.faults later.faults
rose_looked (Some (Demo k)) files later rose = absurd (omega arith)
rose_looked (Some Check) files later rose = rose
rose_looked (Some (Prove most)) files later rose = rose
rose_looked (Some ExportIsar) files later rose = rose
rose_looked (Some ExportEnglish) files later rose = rose
rose_looked (Some ConvertProblem) files later rose = rose
rose_looked (Some ConvertVernacular) files later rose = rose
rose_looked (Some ConvertIsar) files later rose = rose
rose_looked (Some ConvertVersion2) files later rose = rose
rose_looked (Some (Refute size)) files later rose = rose
rose_looked (Some Confirm) files later rose = rose
rose_looked None files later rose = rose

-- with status 66 the count of faults of the files rose
pub fetch_rose : {words : List Text} {files later : Known} {old new : Sinks} {status : ℕ} → Outcome words files later old new status →
    status ≡ 66 → Rose files.faults later.faults
fetch_rose {words = words} {files = files} {later = later} (answered output text _ (fault file asked fails) put) e =
    rose_looked (command_of words) files later fails.rose
fetch_rose outcome e = absurd (omega arith)

-- the status of an answer is one of six
row_status : {words : List Text} {files later : Known} {output : Bool} {text : Text} {status : ℕ} → Answer words files later output text status →
    IsAmong status (0 ∷ 1 ∷ 2 ∷ 3 ∷ 64 ∷ 66 ∷ [])
row_status (done text row) = inl refl
row_status (step_refused problem second format task script refusal names reads is) = inr (inl refl)
row_status (none_up_to problem most task asks reads is) = inr (inl refl)
row_status (none_sized problem size formulas task asks reads has is) = inr (inl refl)
row_status (model_fails problem second formulas task m refusal asks reads is) = inr (inl refl)
row_status (problem_refused problem file why names told inner) = inr (inr (inl refl))
row_status (formula_refused problem formulas refusal names reads is) = inr (inr (inl refl))
row_status (too_long problem second task names reads long) = inr (inr (inr (inl refl)))
row_status (proof_refused problem second format task bytes refusal names reads is) = inr (inr (inr (inl refl)))
row_status (model_refused problem second task bytes refusal asks reads is) = inr (inr (inr (inl refl)))
row_status (usage is) = inr (inr (inr (inr (inl refl))))
row_status (fault file asked fails) = inr (inr (inr (inr (inr (inl refl)))))

-- these are statuses of a run, and neither 71 nor 74
among_more : (status : ℕ) → IsAmong status (0 ∷ 1 ∷ 2 ∷ 3 ∷ 64 ∷ 66 ∷ []) → IsAmong status (0 ∷ 1 ∷ 2 ∷ 3 ∷ 64 ∷ 66 ∷ 71 ∷ 74 ∷ [])
among_more status (inl e) = inl e
among_more status (inr (inl e)) = inr (inl e)
among_more status (inr (inr (inl e))) = inr (inr (inl e))
among_more status (inr (inr (inr (inl e)))) = inr (inr (inr (inl e)))
among_more status (inr (inr (inr (inr (inl e))))) = inr (inr (inr (inr (inl e))))
among_more status (inr (inr (inr (inr (inr (inl e)))))) = inr (inr (inr (inr (inr (inl e)))))
among_more status (inr (inr (inr (inr (inr (inr none)))))) = absurd none

never_more : (status : ℕ) → IsAmong status (0 ∷ 1 ∷ 2 ∷ 3 ∷ 64 ∷ 66 ∷ []) → 70 ≤ status → ⊥
never_more status (inl e) more = omega arith
never_more status (inr (inl e)) more = omega arith
never_more status (inr (inr (inl e))) more = omega arith
never_more status (inr (inr (inr (inl e)))) more = omega arith
never_more status (inr (inr (inr (inr (inl e))))) more = omega arith
never_more status (inr (inr (inr (inr (inr (inl e)))))) more = omega arith
never_more status (inr (inr (inr (inr (inr (inr none)))))) more = none

-- there are no other statuses
pub statuses_of : {words : List Text} {files later : Known} {old new : Sinks} {status : ℕ} → Outcome words files later old new status →
    IsAmong status (0 ∷ 1 ∷ 2 ∷ 3 ∷ 64 ∷ 66 ∷ 71 ∷ 74 ∷ [])
statuses_of (answered output text status row put) = among_more status (row_status row)
statuses_of (broken output text wanted row breaks) = inr (inr (inr (inr (inr (inr (inr (inl refl)))))))
statuses_of (out_of_memory some same) = inr (inr (inr (inr (inr (inr (inl refl))))))

-- with status 74 the count of faults of a sink rose
pub put_rose : {words : List Text} {files later : Known} {old new : Sinks} {status : ℕ} → Outcome words files later old new status →
    status ≡ 74 → Rose old.out.faults new.out.faults ⊎ Rose old.errs.faults new.errs.faults
put_rose (answered output text status row put) e = absurd (never_more status (row_status row) (omega arith))
put_rose (broken true text wanted row breaks) e = inl breaks.0.rose
put_rose (broken false text wanted row breaks) e = inr breaks.0.rose
put_rose (out_of_memory some same) e = absurd (omega arith)

-- with status 71 nothing is written
pub nothing_put : {words : List Text} {files later : Known} {old new : Sinks} {status : ℕ} → Outcome words files later old new status →
    status ≡ 71 → (new.out ≡ old.out) × (new.errs ≡ old.errs)
nothing_put (answered output text status row put) e = absurd (never_more status (row_status row) (omega arith))
nothing_put (broken output text wanted row breaks) e = absurd (omega arith)
nothing_put (out_of_memory some same) e = (ap (λ (s : Sinks). s.out) same, ap (λ (s : Sinks). s.errs) same)

-- where the program's files are not asked for, and one fails at which the command looks, there is no command
unasked_rose : (command : Option Command) (files later : Known) → FilesUnasked command →
    Rose (looked_in command files).faults (looked_in command later).faults → command ≡ None
unasked_rose None files later unasked rose = refl
unasked_rose (Some (Demo k)) files later unasked rose = absurd (omega arith)
unasked_rose (Some Check) files later unasked rose = absurd unasked
unasked_rose (Some (Prove most)) files later unasked rose = absurd unasked
unasked_rose (Some ExportIsar) files later unasked rose = absurd unasked
unasked_rose (Some ExportEnglish) files later unasked rose = absurd unasked
unasked_rose (Some ConvertProblem) files later unasked rose = absurd unasked
unasked_rose (Some ConvertVernacular) files later unasked rose = absurd unasked
unasked_rose (Some ConvertIsar) files later unasked rose = absurd unasked
unasked_rose (Some ConvertVersion2) files later unasked rose = absurd unasked
unasked_rose (Some (Refute size)) files later unasked rose = absurd unasked
unasked_rose (Some Confirm) files later unasked rose = absurd unasked

-- where no file is asked for, the status is not 66
pub unasked_fetch : {words : List Text} {files later : Known} {old new : Sinks} {status : ℕ} → Outcome words files later old new status →
    AsksNoFile words → status ≡ 66 → ⊥
unasked_fetch {words = words} {files = files} {later = later} (answered output text _ (fault file asked fails) put) unasked e =
    asked_some asked (unasked_rose (command_of words) files later unasked fails.rose)
unasked_fetch outcome unasked e = omega arith

-- what is asked of files that a command does not look at
pub unasked_files : (command : Command) {files later : Known} → FilesUnasked (Some command) → ((k : ℕ) → command ≢ Demo k) → later ≡ files
unasked_files (Demo k) unasked other = absurd (other k refl)
unasked_files Check unasked other = absurd unasked
unasked_files (Prove most) unasked other = absurd unasked
unasked_files ExportIsar unasked other = absurd unasked
unasked_files ExportEnglish unasked other = absurd unasked
unasked_files ConvertProblem unasked other = absurd unasked
unasked_files ConvertVernacular unasked other = absurd unasked
unasked_files ConvertIsar unasked other = absurd unasked
unasked_files ConvertVersion2 unasked other = absurd unasked
unasked_files (Refute size) unasked other = absurd unasked
unasked_files Confirm unasked other = absurd unasked

-- a command on files looks at those of the program
pub looks_plain : (command : Command) (files : Known) → ((k : ℕ) → command ≢ Demo k) → looked_in (Some command) files ≡ files
looks_plain (Demo k) files other = absurd (other k refl)
looks_plain Check files other = refl
looks_plain (Prove most) files other = refl
looks_plain ExportIsar files other = refl
looks_plain ExportEnglish files other = refl
looks_plain ConvertProblem files other = refl
looks_plain ConvertVernacular files other = refl
looks_plain ConvertIsar files other = refl
looks_plain ConvertVersion2 files other = refl
looks_plain (Refute size) files other = refl
looks_plain Confirm files other = refl

-- a text was put to one sink, or a part of it
abbrev pub IsPut : Stream → Stream → Text → ℕ → ℕ → Type 0
IsPut old new text wanted status = ((status ≡ wanted) × Puts old new text) ⊎ ((status ≡ 74) × Breaks old new text)

module _ {words : List Text} {files later : Known} (here new other : Stream) (text : Text) (wanted status : ℕ) where
  -- an answer was put to the output
  pub to_output : IsReply words files later true text wanted → IsPut here new text wanted status →
      Outcome words files later (sinks here other) (sinks new other) status
  to_output row (inl (e, put)) = subst (Outcome words files later (sinks here other) (sinks new other)) (sym e)
      (answered true text wanted row (put, refl))
  to_output row (inr (e, part)) = subst (Outcome words files later (sinks here other) (sinks new other)) (sym e)
      (broken true text wanted row (part, refl))

  -- an answer was put to the errors
  pub to_errors : IsReply words files later false text wanted → IsPut here new text wanted status →
      Outcome words files later (sinks other here) (sinks other new) status
  to_errors row (inl (e, put)) = subst (Outcome words files later (sinks other here) (sinks other new)) (sym e)
      (answered false text wanted row (put, refl))
  to_errors row (inr (e, part)) = subst (Outcome words files later (sinks other here) (sinks other new)) (sym e)
      (broken false text wanted row (part, refl))
