use Rattle.std.proofs.Common.{arith, ◌∙◌}
use Rattle.tptp_grammar.specs.Counts.{AreCounts}
use Rattle.tptp_grammar.proofs.Counts.{counts_push, count_within}
use Rattle.tptp_grammar.proofs.counted.Counted.push.Goals as goal

pub overflow_add-index_mut : goal.overflow_add-index_mut
overflow_add-index_mut c =
    let counted : AreCounts c.make_room.new.counts.items c.self.inside.bindings.items =
    λ number. c.make_room.ensures.same number ∙ c.self.invariant number in
    let room = c.in_ok-make_room.ensures.room in
    let most = count_within c.make_room.new.counts.items c.self.inside.bindings.items c.args.binding.variable c.index_mut.result.now
    counted (omega arith) c.index_mut.ensures.value in
    let len = c.self.inside.bindings.ok in
    let small = c.self.inside.bindings.small in omega arith

pub invariant_of-self-2 : goal.invariant_of-self-2
invariant_of-self-2 c =
    let counted : AreCounts c.make_room.new.counts.items c.self.inside.bindings.items =
    λ number. c.make_room.ensures.same number ∙ c.self.invariant number in
    let room = c.in_ok-make_room.ensures.room in
    rw c.in_ok-push.ensures.items
    (counts_push c.make_room.new.counts.items c.self.inside.bindings.items c.args.binding c.index_mut.result.now counted (omega arith)
    c.index_mut.ensures.value)
