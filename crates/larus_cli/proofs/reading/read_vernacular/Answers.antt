use Rattle.std.proofs.Common.{◌≡◌, rules, sym, subst}
use Rattle.larus_cli.specs.declared.report.ProofWhy.TheVariants.{Script}
use Rattle.larus_cli.specs.declared.report.Report.TheVariants.{ProofFile}
use Rattle.larus_cli.specs.Reports.{IsAnswer}
use Rattle.larus_cli.proofs.Saying.{proof_told}
use Rattle.larus_cli.proofs.reading.read_vernacular.Goals as goal

pub returns-in_ok-report-in_default-clause-halts : goal.returns-in_ok-report-in_default-clause-halts
returns-in_ok-report-in_default-clause-halts c words files later problem task names reads =
    let same : c.in_ok-report-in_default.report ≡ ProofFile (record { file = c.args.name.now; why = Script c.in-Err.refusal }) = search rules in
    subst (IsAnswer words files later) (sym same)
    (proof_told words files later problem c.args.name.now task c.args.bytes.now c.in-Err.refusal names reads c.in_default.not-Memory c.in-Err.ensures.err)
