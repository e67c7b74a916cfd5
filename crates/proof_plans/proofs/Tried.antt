-- Ways that were tried in vain.
use Rattle.std.proofs.Common.{◌≡◌, ℕ, suc, ◌+◌, ◌<◌, ◌≤◌, Bool, true, false, not, List, [], ◌∷◌, ◌++◌, length, take, slice_get, Some, refl, ap, sym, ◌∙◌, subst, arith}
use Rattle.std.proofs.lemmas.Bool.{cases_lt, OnTrue_at, OnFalse_from}
use Rattle.std.specs.Bool.{OnTrue, OnFalse}
use Rattle.proof_plans.specs.Scenes.{IsScene}
use Rattle.proof_plans.specs.declared.scene.Scene.{Scene}
use Rattle.std.proofs.Common.{⊎_elim}
use Rattle.vernacular_tree.specs.Contexts.{Task}
use Rattle.vernacular_tree.specs.Tasks.{IsTask}
use Rattle.vernacular_tree.specs.Witnessed.{IsContext}
use Rattle.vernacular_tree.specs.declared.context.Context.{Context}
use Rattle.proof_plans.specs.declared.choice.Choice as Choice
use Rattle.proof_plans.specs.declared.open.Open as Open
use Rattle.proof_plans.specs.declared.open.Open.TheVariants as open_value
use Rattle.proof_plans.specs.Choices.{Begins, HasAll}
use Rattle.proof_plans.specs.Drafts.{Drafted}
use Rattle.proof_plans.specs.Hopes.{Hope, IsHopeless, with_open, OpenBy}
use Rattle.proof_plans.proofs.Ways.{goal_way, branch_way, among_number}

module _ (task : Task) (lent : Context) (most : ℕ) (cut : Bool) (d : Drafted) (o : Open.Open) where
  -- no proof goes on in this way
  abbrev pub IsRuledOut : Choice.Choice → Type 0
  IsRuledOut way = (n : ℕ) → (cut ≡ true → n ≤ most) → (h : Hope task lent n (with_open o d)) → OpenBy task lent n d o h way → ⊥

  -- nor in the ways with these numbers
  abbrev pub AreRuledOut : List Choice.Choice → ℕ → ℕ → Type 0
  AreRuledOut ways first end = (k : ℕ) (way : Choice.Choice) → first ≤ k → k < end → slice_get ways k ≡ Some way → IsRuledOut way

  -- what is open is closed in some way
  open_way : (n : ℕ) (h : Hope task lent n (with_open o d)) → (way : Choice.Choice) × OpenBy task lent n d o h way
  open_way n h = go o h
    where
      go : (o : Open.Open) (h : Hope task lent n (with_open o d)) → (way : Choice.Choice) × OpenBy task lent n d o h way
      go (open_value.Goal g) h = goal_way task lent n d g h
      go (open_value.Branch node) h = branch_way task lent n d node h

  -- where all ways are ruled out, there is no hope
  pub all_ruled_out : (old new : List Choice.Choice)
      → ((constants : ℕ) (n : ℕ) → IsTask constants task → IsContext task lent → HasAll old new (λ (way : Choice.Choice). (h : Hope task lent n (with_open o d)) × OpenBy task lent n d o h way))
      → (first end : ℕ) → first ≤ length old → length new ≤ end → AreRuledOut new first end → IsHopeless task lent most cut (with_open o d)
  all_ruled_out old new gathered first end low high ruled = λ n small h.
      let found = open_way n h in
      let all = gathered h.constants n h.right h.ok in
      let at = among_number found.0 all.more (all.all found.0 (h, found.1)) in
      let place : slice_get new (length old + at.0) ≡ Some found.0 = ap (λ (ways : List Choice.Choice). slice_get ways (length old + at.0)) all.new_is ∙ behind old all.more at.0 ∙ at.1 in
      let there = below new (length old + at.0) found.0 place in
      ruled (length old + at.0) found.0 (omega arith) (omega arith) place n small h found.1
    where
      behind : (xs ys : List Choice.Choice) (k : ℕ) → slice_get (xs ++ ys) (length xs + k) ≡ slice_get ys k
      behind [] ys k = ap (slice_get ys) (let same : 0 + k ≡ k = omega arith in same)
      behind (x ∷ xs) ys k = ap (slice_get (x ∷ (xs ++ ys))) (let same : suc (length xs) + k ≡ suc (length xs + k) = omega arith in same) ∙ behind xs ys k

      below : (xs : List Choice.Choice) (k : ℕ) (x : Choice.Choice) → slice_get xs k ≡ Some x → k < length xs
      below xs k x is = Rattle.proof_plans.proofs.Steps.get_below xs x k is

-- one more way is ruled out
pub one_more : (task : Task) (lent : Context) (most : ℕ) (one other : Bool) (d : Drafted) (o : Open.Open) (ways : List Choice.Choice) (first at : ℕ) (way : Choice.Choice)
    → (one ≡ true → other ≡ true) → slice_get ways at ≡ Some way → AreRuledOut task lent most one d o ways first at → IsRuledOut task lent most other d o way
    → AreRuledOut task lent most other d o ways first (at + 1)
one_more task lent most one other d o ways first at way also is before this = λ k other_way low high there. ⊎_elim
    (λ less. λ n small h by. before k other_way low less there n (λ cut. small (also cut)) h by)
    (λ more. let same : k ≡ at = omega (arith, more, high) in
    let way_same : other_way ≡ way = let a : slice_get ways at ≡ Some other_way = subst (λ (i : ℕ). slice_get ways i ≡ Some other_way) same there in cc in
    subst (IsRuledOut task lent most other d o) (sym way_same) this)
    (cases_lt k at)

-- what is so, is so where a test fails
pub shown : (b : Bool) (P : Type 0) → P → OnFalse b P
shown b P p = OnFalse_from b P (λ no. p)

-- what was put back is there
pub put_back : (b : Bool) (P Q : Type 0) → (P → Q) → OnTrue b P → OnFalse (not b) Q
put_back b P Q then h = OnFalse_from (not b) Q (λ no. then (OnTrue_at (not_not b no) h))
  where
    not_not : (b : Bool) → not b ≡ false → b ≡ true
    not_not true e = refl
    not_not false e = absurd (cc)

-- one more way is ruled out, where nothing else has changed
pub ruled_next : (task : Task) (lent : Context) (most : ℕ) (one other : Bool) (d : Drafted) (o : Open.Open) (old new : List Choice.Choice) (first at : ℕ) (way : Choice.Choice) (taken : Drafted)
    → new ≡ old → (one ≡ true → other ≡ true) → slice_get old at ≡ Some way → AreRuledOut task lent most one d o old first at
    → ((n : ℕ) (h : Hope task lent n (with_open o d)) → OpenBy task lent n d o h way → Hope task lent n taken) → IsHopeless task lent most other taken
    → AreRuledOut task lent most other d o new first (at + 1)
ruled_next task lent most one other d o old new first at way taken same also is before hope hopeless =
    subst (λ (ways : List Choice.Choice). AreRuledOut task lent most other d o ways first (at + 1)) (sym same)
    (one_more task lent most one other d o old first at way also is before (λ n small h by. hopeless n small (hope n h by)))

-- the ways of what is open
abbrev pub AllWays : Scene → List Choice.Choice → List Choice.Choice → Drafted → Open.Open → Type 0
AllWays scene old new d o = (constants : ℕ) (task : Task) (lent : Context) (n : ℕ) → IsTask constants task → IsContext task lent → IsScene task lent scene
    → HasAll old new (λ (way : Choice.Choice). (h : Hope task lent n (with_open o d)) × OpenBy task lent n d o h way)

pub ways_of : (result : Bool) (scene : Scene) (old new : List Choice.Choice) (d : Drafted) (o other : Open.Open) → o ≡ other → OnTrue result (AllWays scene old new d other) → OnTrue result (AllWays scene old new d o)
ways_of result scene old new d o other e h = subst (λ (x : Open.Open). OnTrue result (AllWays scene old new d x)) (sym e) h

-- what is open is closed so
abbrev pub TakesHope : Scene → Drafted → Drafted → Open.Open → Choice.Choice → Type 0
TakesHope scene d new o way = (task : Task) (lent : Context) (n : ℕ) → IsScene task lent scene → (h : Hope task lent n (with_open o d)) → OpenBy task lent n d o h way → Hope task lent n new

pub takes_hope : (result : Bool) (scene : Scene) (d new : Drafted) (o other : Open.Open) (way : Choice.Choice) → o ≡ other → OnTrue result (TakesHope scene d new other way) → OnTrue result (TakesHope scene d new o way)
takes_hope result scene d new o other way e h = subst (λ (x : Open.Open). OnTrue result (TakesHope scene d new x way)) (sym e) h

-- the ways that were there are the first ones
pub first_kept : (old new : List Choice.Choice) (first : ℕ) → Begins old new → first ≡ length old → take first new ≡ old
first_kept old new first h e = ap (λ (n : ℕ). take n new) e ∙ ap (take (length old)) h.1 ∙ front old h.0
  where
    front : (xs ys : List Choice.Choice) → take (length xs) (xs ++ ys) ≡ xs
    front [] ys = refl
    front (x ∷ xs) ys = ap (λ (l : List Choice.Choice). x ∷ l) (front xs ys)
