-- What is said of a report.
use Rattle.std.specs.Prelude.{◌++◌, true, false, List, Result, Ok, Err}
use Rattle.text_core.specs.Names.{Text}
use Rattle.io_core.specs.Known.{Known}
use Rattle.larus_cli.specs.declared.report.Report.{Report}
use Rattle.larus_cli.specs.declared.report.Report.TheVariants.{Accepted, Refused, Converted, NoneUpTo, Demo, FileFault}
use Rattle.larus_cli.specs.declared.report.Report.TheVariants.{ProblemFile, ProblemFormula, ProofFile}
use Rattle.larus_cli.specs.declared.report.Report.TheVariants.{ModelFile, Countermodel, Confirm}
use Rattle.larus_cli.specs.declared.reply.Reply.{Reply}
use Rattle.larus_cli.specs.declared.reading.Halt.{Halt}
use Rattle.larus_cli.specs.declared.reading.Halt.TheVariants as halt
use Rattle.larus_cli.specs.Texts.{fault_text, flat_text}
use Rattle.larus_cli.specs.Texts.{formula_text, proof_text, model_text, step_text, accepted_text, none_text}
use Rattle.larus_cli.specs.Texts.{demo_text, countermodel_text, confirm_text}
use Rattle.larus_cli.specs.Answers.{Answer}

-- what is printed for a report, where and with which status
abbrev pub reply_of : Report → Reply
reply_of (Accepted size) = record { text = accepted_text size; is_output = true; status = 0 }
reply_of (Refused refusal) = record { text = step_text refusal; is_output = true; status = 1 }
reply_of (Converted text) = record { text = text; is_output = true; status = 0 }
reply_of (NoneUpTo most) = record { text = none_text most; is_output = true; status = 1 }
reply_of (Demo k problem proof size) =
    record { text = demo_text k problem proof size; is_output = true; status = 0 }
reply_of (FileFault file) = record { text = file ++ fault_text; is_output = false; status = 66 }
reply_of (ProblemFile refusal) =
    record { text = refusal.file ++ flat_text refusal.why; is_output = false; status = 2 }
reply_of (ProblemFormula refusal) =
    record { text = formula_text refusal; is_output = false; status = 2 }
reply_of (ProofFile refusal) =
    record { text = refusal.file ++ proof_text refusal.why; is_output = false; status = 3 }
reply_of (ModelFile file refusal) =
    record { text = file ++ model_text refusal; is_output = false; status = 3 }
reply_of (Countermodel size) =
    record { text = countermodel_text size; is_output = true; status = 0 }
reply_of (Confirm refusal) = record { text = confirm_text refusal; is_output = true; status = 1 }

-- the report is a row of the table of answers
abbrev pub IsAnswer : List Text → Known → Known → Report → Type 0
IsAnswer words files later report = let reply = reply_of report in
    Answer words files later reply.is_output reply.text reply.status

-- what ends a command early is a row of the table of answers, or want of memory
abbrev pub Halts : List Text → Known → Known → Halt → Type 0
Halts words files later (halt.Said report) = IsAnswer words files later report
Halts words files later halt.Memory = Unit {0}

-- what a command says is a row of the table of answers
abbrev pub Decides : List Text → Known → Known → Result Report Halt → Type 0
Decides words files later (Ok report) = IsAnswer words files later report
Decides words files later (Err ending) = Halts words files later ending
