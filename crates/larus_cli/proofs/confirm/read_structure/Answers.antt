use Rattle.larus_cli.proofs.Saying.{model_told}
use Rattle.std.proofs.Common.{◌≡◌, rules, sym, subst}
use Rattle.larus_cli.specs.declared.report.Report.TheVariants.{ModelFile}
use Rattle.larus_cli.specs.Reports.{IsAnswer}
use Rattle.larus_cli.proofs.confirm.read_structure.Goals as goal

pub returns-in_ok-file-in_default-clause-halts : goal.returns-in_ok-file-in_default-clause-halts
returns-in_ok-file-in_default-clause-halts c words files later problem task asks reads =
    let same : c.in_ok-file-in_default.file ≡ c.args.name.now = search rules in
    subst (λ file. IsAnswer words files later (ModelFile file c.in-Err.refusal)) (sym same)
    (model_told words files later problem c.args.name.now task c.args.bytes.now c.in-Err.refusal asks reads c.in_default.not-Memory c.in-Err.ensures.err)
