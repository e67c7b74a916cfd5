use Rattle.std.proofs.Common.{◌≡◌, ◌+◌, ◌∷◌, [], ◌++◌, List, ℕ, length, ap, sym, ◌∙◌, arith, append_assoc, length-append}
use Rattle.vernacular_tree.specs.Contexts.{counted}
use Rattle.vernacular_tree.proofs.Laws.{counted_length}
use Rattle.kept_context.proofs.Lists.{counted_last}
use Rattle.kept_context.proofs.room.count_within.Goals as goal

pub push_within-requires : goal.push_within-requires
push_within-requires c =
    let before = c.args.items.now.items in
    let long : length c.loop-at.items.items ≡ length before + c.loop-at.at
    = ap length c.loop-at.invariant.items ∙ length-append before (counted c.args.first c.loop-at.at)
    ∙ ap (λ n. length before + n) (counted_length c.args.first c.loop-at.at) in
    omega (arith, long, c.loop-at.items.ok.0, c.args.items.now.ok.0, c.loop-at.invariant.capacity, c.requires.fits, c.loop-at-test.true)

pub loop-at-preserved : goal.loop-at-preserved
loop-at-preserved c =
    let before = c.args.items.now.items in
    record {
      items = c.push_within.ensures.items ∙ ap (λ (ns : List ℕ). ns ++ (c.args.first + c.loop-at.at) ∷ []) c.loop-at.invariant.items
          ∙ append_assoc before (counted c.args.first c.loop-at.at) ((c.args.first + c.loop-at.at) ∷ [])
          ∙ ap (λ (ns : List ℕ). before ++ ns) (sym (counted_last c.args.first c.loop-at.at));
      capacity = omega (arith, c.push_within.ensures.capacity, c.loop-at.invariant.capacity);
    }
