use Rattle.std.proofs.Common.{◌≡◌, [], ◌∷◌, length, None, arith, ap, ◌∙◌}
use Rattle.std.proofs.lemmas.List.{length-append, get_or_default}
use Rattle.fact_store.proofs.Chained.{AreChained-add}
use Rattle.fact_store.proofs.chains.Chains.add.Goals as goal

pub invariant_of-self : goal.invariant_of-self
invariant_of-self c =
    let old = c.self.invariant in
    let width : length c.self.inside.heads.items ≡ c.args.self.now.width = ap (λ k. k.width) c.self.view_is in
    let keys : c.self.inside.keys.items ≡ c.args.self.now.keys = ap (λ k. k.keys) c.self.view_is in
    let room : c.self.inside.room ≡ c.args.self.now.room = ap (λ k. k.room) c.self.view_is in
    let head = c.index.ensures ∙ get_or_default c.self.inside.heads.items c.args.key _ None (omega arith) in
    let chained = AreChained-add _ _ _ c.args.key old.0 (omega arith) in
    rw (c.len-number.ensures, c.self.inside.keys.ok.0, c.push_within.ensures.items, c.push_within-2.ensures.items, head) (
      chained,
      omega (arith, length-append c.self.inside.keys.items (c.args.key ∷ []), ap length keys),
      old.2,
      omega (arith, old.3, c.push_within-2.ensures.capacity),
      omega (arith, old.4, c.push_within.ensures.capacity),
    )
