use Rattle.std.proofs.Common.{◌≡◌, ℕ, ◌+◌, ◌-◌, slice_index, vec_len}
use Rattle.tptp_grammar.proofs.counted.make_room.Given as goal

abbrev pub invariant-loop-counts : goal.invariant-loop-counts
invariant-loop-counts l = (other : ℕ) → slice_index l.counts.items other ≡ slice_index l.fn.counts.items other

abbrev pub decreases-loop-counts : goal.decreases-loop-counts
decreases-loop-counts l = l.number + 1 - vec_len l.counts
