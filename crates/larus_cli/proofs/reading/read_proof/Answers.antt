use Rattle.std.proofs.Common.{subst}
use Rattle.larus_cli.specs.Words.{NamesBoth}
use Rattle.larus_cli.proofs.reading.read_proof.Goals as goal

pub returns-in-Vernacular-clause-halts : goal.returns-in-Vernacular-clause-halts
returns-in-Vernacular-clause-halts c words files later problem names reads =
    c.read_vernacular.ensures.halts words files later problem c.args.task.now
    (subst (λ format. NamesBoth words problem format c.args.name.now) c.in-Vernacular.is names) reads

pub returns-in-Isar-clause-halts : goal.returns-in-Isar-clause-halts
returns-in-Isar-clause-halts c words files later problem names reads =
    c.read_isar_text.ensures.halts words files later problem
    (subst (λ format. NamesBoth words problem format c.args.name.now) c.in-Isar.is names) reads
