-- What a replay has noted tells how many rule applications it has.
use Rattle.std.proofs.Common.{◌≡◌, ℕ, ◌+◌, ◌-◌, ◌<◌, ◌≤◌, length, reverse, refl, ap, ◌∙◌, arith, length-append}
use Rattle.std.proofs.lemmas.List.{length-reverse}
use Rattle.vernacular_tree.specs.Contexts.{Task}
use Rattle.vernacular_tree.specs.Preorders.{preorder}
use Rattle.vernacular_tree.specs.Sizes.{size, end_size}
use Rattle.vernacular_tree.specs.declared.context.Context.{Context}
use Rattle.vernacular_tree.specs.declared.tree.Body.{Body}
use Rattle.vernacular_tree.proofs.Rows.{end_counts}
use Rattle.vernacular_tree.proofs.Trees.{preorder_length}
use Rattle.trail_search.specs.Recorded.{Recorded}
use Rattle.trail_search.specs.Searches.{IsNoted}

-- a body has a rule application
size_some : (body : Body) → 0 < size body
size_some body = let some = end_counts body.end in let e : size body ≡ length body.steps + end_size body.end = refl in omega arith

-- the nodes that were noted are as many as the rule applications of the proof
pub noted_size : (task : Task) (context : Context) (most : ℕ) (before after : Recorded) → (noted : IsNoted task context most before after)
    → length after.nodes ≡ length before.nodes + size noted.body
noted_size task context most before after noted =
    ap length noted.nodes_are ∙ length-append before.nodes (reverse (preorder noted.body))
    ∙ ap (λ (n : ℕ). length before.nodes + n) (length-reverse (preorder noted.body) ∙ preorder_length noted.body)

module _ (task : Task) (context : Context) (most start end : ℕ) (before after : Recorded) (start_is : start ≡ length before.nodes) (end_is : end ≡ length after.nodes)
    (noted : IsNoted task context most before after) where
  -- between two points a proof was noted, and not too many nodes
  pub counted_within : (0 < end - start) × (end - start ≤ most)
  counted_within =
      let sum = noted_size task context most before after noted in
      let some = size_some noted.body in
      let small = noted.small in (omega arith, omega arith)

  -- the proof has as many rule applications as nodes were noted
  pub counted_noted : IsNoted task context (end - start) before after
  counted_noted =
      let sum = noted_size task context most before after noted in record {
        body = noted.body;
        proves = noted.proves;
        small = omega arith;
        nodes_are = noted.nodes_are;
        room_is = noted.room_is;
      }
