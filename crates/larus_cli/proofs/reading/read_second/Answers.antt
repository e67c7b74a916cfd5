use Rattle.std.proofs.Common.{◌≡◌, ◌++◌, false, rules, sym, subst}
use Rattle.text_core.specs.declared.limits.TheConstants.{MOST_FILE_BYTES}
use Rattle.io_core.specs.Fetched.{Fails, IsTooLong}
use Rattle.larus_cli.specs.declared.report.ProofWhy.TheVariants.{FileTooLong}
use Rattle.larus_cli.specs.declared.report.Report.TheVariants.{ProofFile}
use Rattle.larus_cli.specs.Texts.{fault_text}
use Rattle.larus_cli.specs.Answers.{Answer}
use Rattle.larus_cli.specs.Reports.{IsAnswer}
use Rattle.larus_cli.proofs.Saying.{second_fault, second_too_long}
use Rattle.larus_cli.proofs.reading.read_second.Goals as goal

pub returns-in_ok-file-in-Err-Failed-clause-halts : goal.returns-in_ok-file-in-Err-Failed-clause-halts
returns-in_ok-file-in-Err-Failed-clause-halts g c words before problem task grows names reads =
    let old = g.F.Files.known c.args.files.now in
    let new = g.F.Files.known c.fetch_whole.new.files in
    let same : c.in_ok-file-in-Err-Failed.file ≡ c.args.name.now = search rules in
    let fails : Fails old new c.args.name.now = search rules in
    subst (λ file. Answer words before new false (file ++ fault_text) 66) (sym same)
    (second_fault words before old new problem c.args.name.now task grows names reads fails)

pub returns-in_ok-report-in-Err-TooLong-clause-halts : goal.returns-in_ok-report-in-Err-TooLong-clause-halts
returns-in_ok-report-in-Err-TooLong-clause-halts g c words before problem task grows names reads =
    let old = g.F.Files.known c.args.files.now in
    let new = g.F.Files.known c.fetch_whole.new.files in
    let same : c.in_ok-report-in-Err-TooLong.report ≡ ProofFile (record { file = c.args.name.now; why = FileTooLong }) = search rules in
    let long : IsTooLong MOST_FILE_BYTES c.args.name.now old new = search rules in
    subst (IsAnswer words before new) (sym same)
    (second_too_long words before old new problem c.args.name.now task grows names reads long)
