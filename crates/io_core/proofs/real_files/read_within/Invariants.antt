use Rattle.std.proofs.Common.{◌≡◌, ◌≤◌, ◌+◌, ◌-◌, length, take, drop, vec_len}
use Rattle.std.specs.Io.KnownBytes.{Consumes}
use Rattle.io_core.specs.Causes.{raised}
use Rattle.io_core.specs.declared.real_files.TheConstants.{READ_BYTES}
use Rattle.io_core.proofs.real_files.read_within.Given as goal

-- what was read so far is appended, is within the bound, and was counted
abbrev pub invariant-loop-chunk : goal.invariant-loop-chunk
invariant-loop-chunk g l = record {
  front : take (length l.fn.into) l.into ≡ l.fn.into;
  read : Consumes (g.T.Read.remaining l.fn.file) (g.T.Read.remaining l.file) (drop (length l.fn.into) l.into);
  room : vec_len l.chunk ≡ READ_BYTES;
  before : length l.fn.into ≤ length l.into;
  within : length l.into ≤ length l.fn.into + l.most;
  later : l.fn.given ≤ l.given;
  counted : l.given ≡ raised l.fn.given (length l.into - length l.fn.into);
}

abbrev pub decreases-loop-chunk : goal.decreases-loop-chunk
decreases-loop-chunk g l = length l.fn.into + l.most - length l.into
