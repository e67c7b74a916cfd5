-- Ways that are gathered behind one another.
use Rattle.std.proofs.Common.{◌≡◌, ◌≢◌, ℕ, zero, suc, ◌+◌, ◌<◌, ◌==◌, ◌⊎◌, inl, inr, ⊎_elim, Bool, true, false, List, [], ◌∷◌, ◌++◌, length, slice_get, Some, refl, ap, sym, ◌∙◌, subst, arith, append_assoc, add-one}
use Rattle.std.proofs.lemmas.List.{append-nil}
use Rattle.logic_core.specs.declared.form.Atom.{Atom}
use Rattle.vernacular_tree.specs.Contexts.{Task}
use Rattle.vernacular_tree.specs.declared.context.Context.{Context}
use Rattle.proof_plans.specs.declared.choice.Choice.{Choice}
use Rattle.proof_plans.specs.declared.choice.Choice.TheVariants as choice
use Rattle.proof_plans.specs.declared.draft.Node.{Node}
use Rattle.proof_plans.specs.Choices.{Begins, HasAll, Numbered, NumberedBelow}
use Rattle.proof_plans.specs.Drafts.{IsReached}
use Rattle.proof_plans.specs.Ways.{IsByList, IsByCase}
use Rattle.text_core.proofs.Laws.{among_front, among_back, number_same}

-- nothing is gathered where there is no way
pub all_none : (old : List Choice) (P : Choice → Type 0) → ((way : Choice) → P way → ⊥) → HasAll old old P
all_none old P none = record { more = []; new_is = sym (append-nil old); all = λ way p. absurd (none way p) }

-- one way is gathered
pub all_pushed : (old new : List Choice) (pushed : Choice) → new ≡ old ++ pushed ∷ [] → HasAll old new (λ way. way ≡ pushed)
all_pushed old new pushed is = record { more = pushed ∷ []; new_is = is; all = λ way same. inl (sym same) }

-- ways that are among those with another property are there as well
pub all_also : (old new : List Choice) (P Q : Choice → Type 0) → HasAll old new P → ((way : Choice) → Q way → P way) → HasAll old new Q
all_also old new P Q all also = record { more = all.more; new_is = all.new_is; all = λ way q. all.all way (also way q) }

-- two gatherings after one another
pub all_then : (old middle new : List Choice) (P Q R : Choice → Type 0) → HasAll old middle P → HasAll middle new Q → ((way : Choice) → R way → P way ⊎ Q way) → HasAll old new R
all_then old middle new P Q R first second either = record {
  more = first.more ++ second.more;
  new_is = second.new_is ∙ ap (λ (ways : List Choice). ways ++ second.more) first.new_is ∙ append_assoc old first.more second.more;
  all = λ way r. ⊎_elim (λ p. among_front way first.more second.more (first.all way p)) (λ q. among_back way first.more second.more (second.all way q)) (either way r);
}

-- ways for the numbers below a count
pub below_none : (old : List Choice) (P : ℕ → Choice → Type 0) → HasAll old old (NumberedBelow 0 P)
below_none old P = all_none old (NumberedBelow 0 P) (λ way p. (let low : p.0 < 0 = p.1 in omega arith))

-- one more number
pub below_more : (old middle new : List Choice) (P : ℕ → Choice → Type 0) (count : ℕ) → HasAll old middle (NumberedBelow count P) → HasAll middle new (P count) → HasAll old new (NumberedBelow (count + 1) P)
below_more old middle new P count first second = all_then old middle new (NumberedBelow count P) (P count) (NumberedBelow (count + 1) P) first second
    (λ way p. by_test way p.0 p.1 p.2 (p.0 == count) refl)
  where
    by_test : (way : Choice) (number : ℕ) → number < count + 1 → P number way → (b : Bool) → (number == count) ≡ b → NumberedBelow count P way ⊎ P count way
    by_test way number low p true e = inr (subst (λ (k : ℕ). P k way) (number_same number count e) p)
    by_test way number low p false e = inl (number, grind arith, p)

-- all numbers
pub below_all : (old new : List Choice) (P : ℕ → Choice → Type 0) (count : ℕ) → HasAll old new (NumberedBelow count P) → ((number : ℕ) (way : Choice) → P number way → number < count) → HasAll old new (Numbered P)
below_all old new P count all low = all_also old new (NumberedBelow count P) (Numbered P) all (λ way p. (p.0, low p.0 way p.1, p.1))

-- the branch so many splits above another one is one branch
pub reached_once : (nodes : List Node) (count from one other : ℕ) → IsReached nodes count from one → IsReached nodes count from other → one ≡ other
reached_once nodes zero from one other a b = sym a ∙ b
reached_once nodes (suc count) from one other a b =
    let same : a.1.0 ≡ b.1.0 = let p = a.1.1 in let q = b.1.1 in cc in
    reached_once nodes count a.1.0.parent one other a.1.2 (subst (λ (node : Node). IsReached nodes count node.parent other) (sym same) b.1.2)

-- one more split
pub reached_next : (nodes : List Node) (count from node : ℕ) (kept : Node) → IsReached nodes count from node → node ≢ 0 → slice_get nodes node ≡ Some kept → IsReached nodes (count + 1) from kept.parent
reached_next nodes count from node kept reached inner is = rw add-one (go count from reached)
  where
    go : (count from : ℕ) → IsReached nodes count from node → IsReached nodes (suc count) from kept.parent
    go zero from reached = ((λ e. inner (sym reached ∙ e)), (kept, subst (λ (n : ℕ). slice_get nodes n ≡ Some kept) (sym reached) is, refl))
    go (suc count) from reached = (reached.0, (reached.1.0, reached.1.1, go count reached.1.0.parent reached.1.2))

-- there is no branch above the one in which a proof begins
pub reached_last : (nodes : List Node) (count other from node : ℕ) → IsReached nodes count from 0 → IsReached nodes other from node → node ≢ 0 → other < count
reached_last nodes zero zero from node last reached inner = absurd (inner (sym reached ∙ last))
reached_last nodes zero (suc other) from node last reached inner = absurd (reached.0 last)
reached_last nodes (suc count) zero from node last reached inner = omega arith
reached_last nodes (suc count) (suc other) from node last reached inner =
    let same : last.1.0 ≡ reached.1.0 = let p = last.1.1 in let q = reached.1.1 in cc in
    let rest = reached_last nodes count other last.1.0.parent node last.1.2 (subst (λ (n : Node). IsReached nodes other n.parent node) (sym same) reached.1.2) inner in
    omega arith

-- four gatherings after one another
pub all_four : (a b c d e : List Choice) (P Q R S T : Choice → Type 0) → HasAll a b P → HasAll b c Q → HasAll c d R → HasAll d e S
    → ((way : Choice) → T way → P way ⊎ (Q way ⊎ (R way ⊎ S way))) → HasAll a e T
all_four a b c d e P Q R S T first second third fourth either =
    all_then a b e P (λ way. Q way ⊎ (R way ⊎ S way)) T first
    (all_then b c e Q (λ way. R way ⊎ S way) (λ way. Q way ⊎ (R way ⊎ S way)) second
    (all_then c d e R S (λ way. R way ⊎ S way) third fourth (λ way x. x)) (λ way x. x)) either

-- a list of one item
pub one_item : {X : Type 0} (xs : List X) (x : X) → length xs ≡ 1 → slice_get xs 0 ≡ Some x → xs ≡ x ∷ []
one_item [] x long is = absurd (cc)
one_item (y ∷ []) x long is = ap (λ (z : _). z ∷ []) (let same : y ≡ x = cc in same)
one_item (y ∷ z ∷ xs) x long is = absurd (let a : suc (suc (length xs)) ≡ 1 = long in omega arith)

-- the ways by the case at which a branch is after so many splits
pub case_here : (task : Task) (lent : Context) (atom : Atom) (nodes : List Node) (from count node : ℕ) (kept : Node) → IsReached nodes count from node → slice_get nodes node ≡ Some kept
    → (way : Choice) → IsByCase task lent atom nodes from count way → IsByList task lent atom kept.of (choice.Case node 0) way
case_here task lent atom nodes from count node kept reached is way by =
    let here : by.node ≡ node = reached_once nodes count from by.node node by.reached reached in
    let there : slice_get nodes node ≡ Some by.kept = subst (λ (k : ℕ). slice_get nodes k ≡ Some by.kept) here by.kept_is in
    let same : by.kept ≡ kept = cc in
    subst (λ (k : Node). IsByList task lent atom k.of (choice.Case node 0) way) same (subst (λ (k : ℕ). IsByList task lent atom by.kept.of (choice.Case k 0) way) here by.by)

-- ways that were added behind ways that were added
pub begins_on : (a b c : List Choice) → Begins a b → Begins b c → Begins a c
begins_on a b c h k = (h.0 ++ k.0, k.1 ∙ ap (λ (l : List Choice). l ++ k.0) h.1 ∙ append_assoc a h.0 k.0)

-- ways were added
pub all_begins : (old new : List Choice) (P : Choice → Type 0) → HasAll old new P → Begins old new
all_begins old new P h = (h.more, h.new_is)
