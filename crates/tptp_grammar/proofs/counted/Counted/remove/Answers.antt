use Rattle.std.proofs.Common.{arith}
use Rattle.tptp_grammar.proofs.Counts.{counted_here, get_or_within, read_is, counts-remove}
use Rattle.tptp_grammar.proofs.counted.Counted.remove.Goals as goal

pub index_mut-requires : goal.index_mut-requires
index_mut-requires c =
    let within = rw (← c.self.view_is) at c.requires in
    let some = counted_here _ _ _ _ c.self.invariant within c.remove-binding.ensures.value in
    let here = get_or_within c.self.inside.counts.items c.remove-binding.result.variable some in omega arith

pub overflow_sub-index_mut : goal.overflow_sub-index_mut
overflow_sub-index_mut c =
    let within = rw (← c.self.view_is) at c.requires in
    let some = counted_here _ _ _ _ c.self.invariant within c.remove-binding.ensures.value in
    let here = get_or_within c.self.inside.counts.items c.remove-binding.result.variable some in
    let read = read_is _ _ _ here c.index_mut.ensures.value in omega arith

pub invariant_of-self : goal.invariant_of-self
invariant_of-self c =
    let within = rw (← c.self.view_is) at c.requires in
    rw c.remove-binding.ensures.items
    (counts-remove _ _ _ _ _ c.self.invariant within c.remove-binding.ensures.value c.index_mut.ensures.value)
