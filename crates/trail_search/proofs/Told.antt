-- What a search tells of the context that was lent.
use Rattle.std.proofs.Common.{◌≡◌, ℕ, ◌-◌, ◌≤◌, List, [], ◌++◌, take, drop, length, reverse, Option, Some, None, ap, sym, ◌∙◌, subst, arith}
use Rattle.std.specs.Option.{IfSome}
use Rattle.std.proofs.lemmas.List.{reverse-reverse, take_at}
use Rattle.logic_core.specs.declared.form.Form.{Form}
use Rattle.vernacular_tree.specs.Contexts.{Task}
use Rattle.vernacular_tree.specs.Preorders.{preorder, IsTree}
use Rattle.vernacular_tree.specs.Rules.{IsProof}
use Rattle.vernacular_tree.specs.Sizes.{size}
use Rattle.vernacular_tree.specs.declared.context.Context.{Context}
use Rattle.vernacular_tree.specs.declared.tree.Body.{Body}
use Rattle.vernacular_tree.specs.declared.tree.Node.{Node}
use Rattle.coherent_form.specs.Tasks.{CitedTask, proof_task}
use Rattle.instance_cursor.specs.Cursors.{Place}
use Rattle.kept_context.specs.Kept.{Kept, Represents, IsEmpty, HasRoom, HasSpare}
use Rattle.trail_search.specs.Least.{HasNone, LeastFrom}
use Rattle.trail_search.specs.Prepared.{IsPrepared}
use Rattle.trail_search.specs.Recorded.{Recorded}
use Rattle.trail_search.specs.Searches.{IsNoted, HasCursors}
use Rattle.trail_search.proofs.Bounded.{small_bounded}
use Rattle.trail_search.proofs.Fewest.{small_size, small_least}

module _ (task : CitedTask) (lent : Context) (old new : Recorded) where
  -- what was noted is a smallest proof
  pub told_least : (result : Option ℕ) → IfSome result (λ n. IsNoted (proof_task task) lent n old new) → IfSome result (λ n. HasNone (proof_task task) lent (n - 1))
      → IfSome result (LeastFrom (proof_task task) lent)
  told_least (Some n) noted least = small_least (proof_task task) lent n noted.body noted.proves noted.small least
  told_least None noted least = tt

  -- of this size
  pub told_noted : (result : Option ℕ) → IfSome result (λ n. IsNoted (proof_task task) lent n old new) → IfSome result (λ n. HasNone (proof_task task) lent (n - 1))
      → IfSome result (λ n. (body : Body) × IsProof (proof_task task) lent body × (new.nodes ≡ old.nodes ++ reverse (preorder body)) × (size body ≡ n))
  told_noted (Some n) noted least =
      (noted.body, noted.proves, noted.nodes_are, small_size (proof_task task) lent n noted.body noted.proves noted.small least)
  told_noted None noted least = tt

module _ (task : Task) (context : Context) (old new : List Node) (none : old ≡ []) where
  -- what is noted, read from its end, is the proof
  pub told_nodes : (body : Body) → new ≡ old ++ reverse (preorder body) → preorder body ≡ reverse new
  told_nodes body are =
      sym (ap reverse (are ∙ ap (λ (ns : List Node). ns ++ reverse (preorder body)) none) ∙ reverse-reverse (preorder body))

  pub told_kept : (result : Option ℕ) → IfSome result (λ n. (body : Body) × IsProof task context body × (new ≡ old ++ reverse (preorder body)) × (size body ≡ n))
      → IfSome result (λ n. (body : Body) × IsProof task context body × (preorder body ≡ reverse new) × (size body ≡ n))
  told_kept (Some n) noted = (noted.0, noted.1, told_nodes noted.0 noted.2, noted.3)
  told_kept None noted = tt

  -- and it may be held
  pub told_tree : (within : ℕ) (result : Option ℕ) → within ≤ 200 → IfSome result (λ n. n ≤ within)
      → IfSome result (λ n. (body : Body) × IsProof task context body × (new ≡ old ++ reverse (preorder body)) × (size body ≡ n))
      → IfSome result (λ n. IsTree (reverse new))
  told_tree within (Some n) few small noted =
      let fits : n ≤ within = small in
      let size_is = noted.3 in
      record { tree = noted.0; preorder_is = told_nodes noted.0 noted.2; bounded = small_bounded noted.0 (omega arith) }
  told_tree within None few small noted = tt

-- a list whose items were all written
pub all_written : {X : Type 0} (old new : List X) (long : ℕ) → long ≡ length old → length new ≡ length old → take long (new ++ drop (length new) old) ≡ new
all_written old new long is same = take_at new (drop (length new) old) long (sym (is ∙ sym same))

-- a searcher is prepared again
pub prepared_again : (task : CitedTask) (most facts args within : ℕ) (answers : List Form) (kept kept2 : Kept) (cursors cursors2 new : List Place)
    (recorded recorded2 : Recorded) (found found2 : Option ℕ) → IsPrepared task most facts args answers kept cursors recorded found → kept2 ≡ kept → cursors2 ≡ new
    → length new ≡ length cursors → HasCursors within new → recorded2.room ≡ recorded.room → IfSome found2 (λ n. IsTree (reverse recorded2.nodes))
    → IsPrepared task most facts args answers kept2 cursors2 recorded2 found2
prepared_again task most facts args within answers kept kept2 cursors cursors2 new recorded recorded2 found found2 was kept_same written same has room tree =
    let enough = was.levels.enough in
    let noted = was.noted in record {
      few = was.few;
      answers_are = was.answers_are;
      few_answers = was.few_answers;
      empty = subst IsEmpty (sym kept_same) was.empty;
      room = subst (HasRoom task most) (sym kept_same) was.room;
      spare = subst (HasSpare most facts args) (sym kept_same) was.spare;
      levels = subst (HasCursors most) (sym written) (record { enough = omega arith; wide = has.wide });
      noted = omega arith;
      tree = tree;
    }
