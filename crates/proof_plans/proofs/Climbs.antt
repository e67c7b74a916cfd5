-- The branches above a branch, as they are kept.
use Rattle.std.proofs.Common.{◌≡◌, ◌≢◌, ℕ, zero, suc, ◌+◌, ◌≤◌, inl, inr, List, [], ◌∷◌, ◌++◌, length, drop, slice_get, Some, refl, ap, sym, ◌∙◌, subst, arith, length-append}
use Rattle.vernacular_tree.specs.Contexts.{Task}
use Rattle.vernacular_tree.specs.declared.context.Context.{Context}
use Rattle.proof_plans.specs.declared.draft.Node.{Node}
use Rattle.proof_plans.specs.Runs.{Case}
use Rattle.proof_plans.specs.Moves.{word_of}
use Rattle.proof_plans.specs.Words.{IsEndOf}
use Rattle.proof_plans.specs.Drafts.{case_number, IsCase, IsBranch}

module _ (task : Task) (lent : Context) (nodes : List Node) where
  -- a branch with number 0 is the one in which a proof begins
  pub root_long : (branch : List Case) → IsBranch task lent nodes 0 branch → length branch ≡ 1
  root_long [] h = absurd h
  root_long (case ∷ upper) (inl h) = ap length h.1
  root_long (case ∷ upper) (inr h) = absurd (h.2 refl)

  -- a branch with another number was split out of one
  pub record Climb (number : ℕ) (branch : List Case) (node : Node) : Type 0 where
    pub case : Case
    pub upper : List Case
    pub branch_is : branch ≡ case ∷ upper
    pub case_is : IsCase task lent node case
    pub upper_is : IsBranch task lent nodes node.parent upper

  pub climb : (number : ℕ) (branch : List Case) (node : Node) → number ≢ 0 → slice_get nodes number ≡ Some node → IsBranch task lent nodes number branch → Climb number branch node
  climb number [] node other is h = absurd h
  climb number (case ∷ upper) node other is (inl h) = absurd (other h.0)
  climb number (case ∷ upper) node other is (inr h) =
      let same : h.0 ≡ node = let a = h.1 in cc in record {
        case = case;
        upper = upper;
        branch_is = refl;
        case_is = subst (λ (n : Node). IsCase task lent n case) same h.3;
        upper_is = subst (λ (n : Node). IsBranch task lent nodes n.parent upper) same h.4;
      }

  -- so many splits above a branch
  pub record Reached (from : ℕ) (branch : List Case) (done at : ℕ) : Type 0 where
    pub upper : List Case
    pub upper_is : IsBranch task lent nodes at upper
    pub dropped : upper ≡ drop done branch
    pub counted : length branch ≡ done + length upper

  pub reached_first : (from : ℕ) (branch : List Case) → IsBranch task lent nodes from branch → Reached from branch 0 from
  reached_first from branch h = record { upper = branch; upper_is = h; dropped = refl; counted = omega arith }

  -- one more
  drop_more : (done : ℕ) (branch upper : List Case) (case : Case) → case ∷ upper ≡ drop done branch → upper ≡ drop (done + 1) branch
  drop_more done branch upper case e = ap (drop 1) e ∙ go done branch
    where
      nothing : (n : ℕ) → drop {A = Case} n [] ≡ []
      nothing zero = refl
      nothing (suc n) = refl

      go : (done : ℕ) (xs : List Case) → drop 1 (drop done xs) ≡ drop (done + 1) xs
      go zero xs = refl
      go (suc done) [] = sym (nothing (suc done + 1))
      go (suc done) (x ∷ xs) = go done xs ∙ ap (λ (n : ℕ). drop n (x ∷ xs)) (let e : suc (done + 1) ≡ suc done + 1 = omega arith in e)

  pub reached_more : (from : ℕ) (branch : List Case) (done at : ℕ) (node : Node) → at ≢ 0 → slice_get nodes at ≡ Some node → Reached from branch done at → Reached from branch (done + 1) node.parent
  reached_more from branch done at node other is r =
      let up = climb at r.upper node other is r.upper_is in
      let whole = up.branch_is in let count = r.counted in let many : length r.upper ≡ suc (length up.upper) = ap length whole in record {
        upper = up.upper;
        upper_is = up.upper_is;
        dropped = drop_more done branch up.upper up.case (sym whole ∙ r.dropped);
        counted = omega arith;
      }

  -- two branches with one word have one word above
  pub words_above : (left right : ℕ) (one other : List Case) (a b : Node) → left ≢ 0 → right ≢ 0 → slice_get nodes left ≡ Some a → slice_get nodes right ≡ Some b
      → IsBranch task lent nodes left one → IsBranch task lent nodes right other → word_of one ≡ word_of other
      → (case_number a.of ≡ case_number b.of) × ((up_one up_other : List Case) × IsBranch task lent nodes a.parent up_one × IsBranch task lent nodes b.parent up_other × (word_of up_one ≡ word_of up_other))
  words_above left right one other a b l r a_is b_is h k same =
      let x = climb left one a l a_is h in let y = climb right other b r b_is k in
      let whole : x.case.number ∷ word_of x.upper ≡ y.case.number ∷ word_of y.upper = sym (ap word_of x.branch_is) ∙ same ∙ ap word_of y.branch_is in
      let n = x.case_is.number_is in let m = y.case_is.number_is in
      let first : x.case.number ≡ y.case.number = cc in
      let rest : word_of x.upper ≡ word_of y.upper = cc in
      (sym n ∙ first ∙ m, (x.upper, y.upper, x.upper_is, y.upper_is, rest))

-- an end of a word as long as the rest of it is that rest
pub end_is_rest : (one other : List Case) (count : ℕ) → length other ≡ count + length one → IsEndOf (word_of one) (word_of other) → word_of one ≡ word_of (drop count other)
end_is_rest one other count long end =
    let total : length (word_of other) ≡ length end.0 + length (word_of one) = ap length end.1 ∙ length-append end.0 (word_of one) in
    let a = words_long one in let b = words_long other in
    let skipped : length end.0 ≡ count = omega arith in
    sym (skip end.0 (word_of one)) ∙ ap (λ (n : ℕ). drop n (end.0 ++ word_of one)) skipped ∙ ap (drop count) (sym end.1) ∙ sym (word_dropped count other)
  where
    words_long : (branch : List Case) → length (word_of branch) ≡ length branch
    words_long [] = refl
    words_long (case ∷ branch) = ap suc (words_long branch)

    skip : (xs ys : List ℕ) → drop (length xs) (xs ++ ys) ≡ ys
    skip [] ys = refl
    skip (x ∷ xs) ys = skip xs ys

    word_dropped : (count : ℕ) (branch : List Case) → word_of (drop count branch) ≡ drop count (word_of branch)
    word_dropped zero branch = refl
    word_dropped (suc count) [] = refl
    word_dropped (suc count) (case ∷ branch) = word_dropped count branch

-- an end of a word is no longer than the word
pub end_short : (one other : List Case) → IsEndOf (word_of one) (word_of other) → length one ≤ length other
end_short one other end =
    let total : length (word_of other) ≡ length end.0 + length (word_of one) = ap length end.1 ∙ length-append end.0 (word_of one) in
    let a = long one in let b = long other in omega arith
  where
    long : (branch : List Case) → length (word_of branch) ≡ length branch
    long [] = refl
    long (case ∷ branch) = ap suc (long branch)
