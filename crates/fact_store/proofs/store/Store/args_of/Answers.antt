use Rattle.std.proofs.Common.{◌<◌, Some, take, drop, length, sym, ap, ◌∙◌, subst, arith}
use Rattle.fact_store.proofs.Stored.{laid_at, args_seen, count_seen}
use Rattle.fact_store.proofs.store.Store.args_of.Goals as goal

pub args_of-requires : goal.args_of-requires
args_of-requires c =
    let inside = c.self.inside in
    let count = count_seen inside.args.items inside.entries.items in
    let below = subst (λ f. c.args.fact < length f.facts) (sym c.self.view_is) c.requires in
    rw (c.index.ensures, c.as_slice.ensures.value) (laid_at 0 inside.entries.items _ c.self.invariant.in_buckets.laid c.args.fact _ (omega (arith, count, below)))

pub returns : goal.returns
returns c =
    let inside = c.self.inside in
    let count = count_seen inside.args.items inside.entries.items in
    let below = subst (λ f. c.args.fact < length f.facts) (sym c.self.view_is) c.requires in
    rw (c.args_of.ensures, c.as_slice.ensures.value, ← c.self.view_is)
    (args_seen inside.args.items inside.entries.items c.args.fact c.index.result.now (omega (arith, count, below))
    ∙ ap (λ e. Some (take e.count (drop e.start inside.args.items))) (sym c.index.ensures))
