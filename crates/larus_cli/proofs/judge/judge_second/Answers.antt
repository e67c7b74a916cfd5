use Rattle.std.proofs.Common.{◌≡◌, Err, refl, rules}
use Rattle.larus_cli.specs.Words.{to_judge}
use Rattle.larus_cli.specs.Read.{ReadsBytes}
use Rattle.larus_cli.proofs.Saying.{holds_before}
use Rattle.larus_cli.proofs.judge.judge_second.Goals as goal

pub returns-in_err-bytes-clause-decides : goal.returns-in_err-bytes-clause-decides
returns-in_err-bytes-clause-decides g c words before problem grows are reads =
    let same : c.from_residual.result ≡ Err c.in_err-bytes.field-0.0 = search rules in
    rw same (c.in_err-bytes.ensures.halts words before problem c.args.task.now grows
    (to_judge c.args.wanted c.args.format c.args.name.now, are, refl) reads)

pub returns-in_err-script-clause-decides : goal.returns-in_err-script-clause-decides
returns-in_err-script-clause-decides g c words before problem grows are reads =
    let same : c.from_residual-in_err-script.result ≡ Err c.in_err-script.field-0.0 = search rules in
    let read : ReadsBytes before problem c.args.name.now c.args.task.now c.in_ok-bytes.bytes =
    record { reads = reads; holds = holds_before before (g.F.Files.known c.args.files.now) c.args.name.now c.in_ok-bytes.bytes grows c.in_ok-bytes.ensures.holds } in
    rw same ((rw c.as_slice.ensures at c.in_err-script.ensures.halts) words before (g.F.Files.known c.read_second.new.files) problem
    (c.args.wanted, are) read)

pub returns-clause-decides : goal.returns-clause-decides
returns-clause-decides g c words before problem grows are reads =
    let holds = holds_before before (g.F.Files.known c.args.files.now) c.args.name.now c.in_ok-bytes.bytes grows c.in_ok-bytes.ensures.holds in
    c.judge_script.ensures words before (g.F.Files.known c.read_second.new.files) problem c.args.name.now c.args.format are (record {
      bytes = c.in_ok-bytes.bytes;
      reads = record { reads = reads; holds = holds };
      spells = rw c.as_slice.ensures at c.in_ok-script.ensures.spells;
    })
