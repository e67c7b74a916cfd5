use Rattle.std.proofs.Common.{◌≡◌, length, false, arith, ap, sym, ◌∙◌}
use Rattle.fact_store.specs.Facts.{stands}
use Rattle.fact_store.specs.Entries.{facts_in, bucket_of}
use Rattle.fact_store.proofs.Stored.{AreStored-add, view-add}
use Rattle.fact_store.proofs.store.Store.add.Goals as goal

pub invariant_of-self : goal.invariant_of-self
invariant_of-self c =
    let inside = c.self.inside in
    let bucket = c.bucket-bucket.ensures.value ∙ ap (λ w. bucket_of w (record { signed = c.args.signed; args = c.args.args.now })) c.width.ensures in
    let new : stands c.args.signed c.args.args.now (facts_in inside.args.items inside.entries.items) ≡ false =
    ap (λ f. stands c.args.signed c.args.args.now f.facts) c.self.view_is ∙ sym c.holds.ensures ∙ c.if-holds.false in
    let facts = ap (λ f. f.spare_facts) c.self.view_is in
    let elements = ap (λ f. f.spare_args) c.self.view_is in
    let needs = c.requires in
    rw (c.add.ensures, c.add-2.ensures, c.push_within.ensures.items, c.extend_within.ensures.items, bucket)
    (AreStored-add _ _ _ _ c.args.args.now _ _ _ _ (record { signed = c.args.signed; start = c.len.result; count = length c.args.args.now }) c.self.invariant
    (c.len.ensures ∙ inside.args.ok.0) (λ _. length c.args.args.now) new (omega (arith, facts, needs)) (omega (arith, elements, needs)) _ _
    c.push_within.ensures.capacity c.extend_within.ensures.capacity)

pub returns-clause-added : goal.returns-clause-added
returns-clause-added c =
    rw (c.add.ensures, c.push_within.ensures.items, c.extend_within.ensures.items, ← c.self.view_is)
    (view-add c.self.inside.entries.items c.self.inside.args.items c.args.args.now _ _ _ (record { signed = c.args.signed; start = c.len.result; count = length c.args.args.now })
    c.self.invariant.in_buckets.laid (c.len.ensures ∙ c.self.inside.args.ok.0) (λ _. length c.args.args.now))
