use Rattle.std.proofs.Common.{sym, subst, arith}
use Rattle.trail_search.specs.Entries.{AreLaid}
use Rattle.trail_search.proofs.Laid.{laid_end}
use Rattle.trail_search.proofs.found.end_of.Goals as goal

pub overflow_add-result : goal.overflow_add-result
overflow_add-result c =
    let end = laid_end c.args.entries.now c.requires.0 c.in-Some.entry.now c.requires.1 c.in-Some.ensures.value in
    let small = c.requires.2 in omega arith

pub returns-in-Some : goal.returns-in-Some
returns-in-Some c =
    subst (AreLaid 0 c.args.entries.now) (sym (laid_end c.args.entries.now c.requires.0 c.in-Some.entry.now c.requires.1 c.in-Some.ensures.value)) c.requires.1
