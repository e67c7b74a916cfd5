use Rattle.fact_store.proofs.Stored.{laid_at}
use Rattle.std.proofs.Common.{arith}
use Rattle.fact_store.proofs.walk.in_buckets.Goals as goal

pub args_of-requires : goal.args_of-requires
args_of-requires c = laid_at 0 _ _ c.requires.laid c.loop-entry.entry-index _ (omega arith)
