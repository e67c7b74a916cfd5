use Rattle.larus_cli.proofs.Saying.{problem_fault, problem_told}
use Rattle.larus_cli.proofs.reading.read_problem.Goals as goal

pub returns-in-FileFault-clause-halts : goal.returns-in-FileFault-clause-halts
returns-in-FileFault-clause-halts g c words names =
    problem_fault words (g.F.Files.known c.args.files.now) (g.F.Files.known c.flatten.new.files) c.args.name.now c.in-Err.refusal.file
    c.in-Err.refusal.why names c.in-Err.ensures.refused c.in-FileFault.is (c.in-Err.ensures.failed c.in-FileFault.is)

pub returns-in_default : goal.returns-in_default
returns-in_default g c = record {
  reads = tt;
  halts = λ words names. problem_told words (g.F.Files.known c.args.files.now) (g.F.Files.known c.flatten.new.files) c.args.name.now
      c.in-Err.refusal.file c.in-Err.refusal.why names c.in-Err.ensures.refused c.in_default.not-FileFault c.in_default.not-Memory;
  grows = (c.in-Err.ensures.stays c.in_default.not-FileFault).grows;
}
