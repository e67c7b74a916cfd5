-- What the adapters of the file system and of a writer are seen as.
use Rattle.std.specs.Prelude.{ℕ, List, Option, None}
use Rattle.io_core.specs.Known.{Known}
use Rattle.io_core.specs.Stream.{Stream}

-- how many faults there were, and how many bytes were handed over
pub record Counts : Type 0 where
  pub faults : ℕ
  pub given : ℕ

-- of the files of the system only the counts are known
abbrev pub counts_known : Counts → Known
counts_known counts =
    record { held = None; blamed = None; faults = counts.faults; given = counts.given }

-- how many faults a writer's sink had, and the bytes that its writer holds, where the writer says
pub record Written : Type 0 where
  pub faults : ℕ
  pub written : Option (List ℕ)

-- as a sink, a writer tells its faults alone
abbrev pub written_known : Written → Stream
written_known sink = record { contents = None; faults = sink.faults }
