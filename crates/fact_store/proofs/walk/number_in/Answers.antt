use Rattle.std.proofs.Common.{sym, ap, ◌∙◌}
use Rattle.fact_store.specs.Chains.{latest}
use Rattle.fact_store.specs.Entries.{bucket_of}
use Rattle.fact_store.proofs.Stored.{laid_at}
use Rattle.fact_store.proofs.Walks.{walk_start, walk_on, walk_falls, walk_found}
use Rattle.fact_store.proofs.walk.number_in.Goals as goal

pub loop-at-init : goal.loop-at-init
loop-at-init c =
    walk_start _ _ _ _ _ _ c.requires.keys _
    (c.newest-at.ensures ∙ ap (λ k. latest k c.args.buckets.now.keys) (c.bucket.ensures.value ∙ ap (λ w. bucket_of w (record { signed = c.args.signed; args = c.args.sought.now })) c.width.ensures))

pub is_entry_of-requires : goal.is_entry_of-requires
is_entry_of-requires c = laid_at 0 _ _ c.requires.laid c.in-Some.number _ (c.loop-at.invariant.there c.in-Some.number c.in-Some.is)

pub returns-then-is_entry_of : goal.returns-then-is_entry_of
returns-then-is_entry_of c = walk_found _ _ _ _ _ _ c.requires.keys _ c.in-Some.number _ c.in-Some.is c.loop-at.invariant (sym c.is_entry_of.ensures ∙ c.if-is_entry_of.true)

pub loop-at-smaller : goal.loop-at-smaller
loop-at-smaller c = walk_falls _ _ _ _ _ _ c.requires.keys _ c.in-Some.number (record { signed = 0; start = 0; count = 0 }) c.in-Some.is c.loop-at.invariant _ c.older-at.ensures

pub loop-at-preserved : goal.loop-at-preserved
loop-at-preserved c =
    walk_on _ _ _ _ _ _ c.requires.keys _ c.in-Some.number _ c.in-Some.is c.loop-at.invariant _ c.older-at.ensures (sym c.is_entry_of.ensures ∙ c.if-is_entry_of.false)
