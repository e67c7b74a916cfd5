-- What decides entries, front by front.
use Rattle.std.proofs.Common.{ℕ, ◌≡◌, ◌+◌, Bool, true, false, cond, List, [], ◌∷◌, ◌++◌, length, Option, Some, None, ap, ◌∙◌, arith, nat_lt, nat_le}
use Rattle.text_core.specs.declared.limits.TheConstants.{MOST_FORMULAS, MOST_PROBLEM_BYTES}
use Rattle.include_flat.specs.Walks.{Entry}
use Rattle.include_flat.specs.Walks.Entry.{fetched, kept, missing, stop}
use Rattle.include_flat.specs.Progress.{bytes_of}
use Rattle.include_flat.specs.Flattened.{Decision, decision_after, kept_of}

-- a decision stays where the rest gives way to one that decides the same
later_decided : (test : Bool) (first x y : Option Decision) (d : Decision) → (x ≡ Some d → y ≡ Some d) → cond test first x ≡ Some d →
    cond test first y ≡ Some d
later_decided true first x y d later e = e
later_decided false first x y d later e = later e

-- what decides a front decides what goes on
pub decided_front : (bytes formulas : ℕ) (front rest : List Entry) (d : Decision) → decision_after bytes formulas front ≡ Some d →
    decision_after bytes formulas (front ++ rest) ≡ Some d
decided_front bytes formulas [] rest d e = absurd cc
decided_front bytes formulas (missing file ∷ front) rest d e = e
decided_front bytes formulas (stop file why ∷ front) rest d e = e
decided_front bytes formulas (fetched file n ∷ front) rest d e =
    later_decided (nat_lt MOST_PROBLEM_BYTES (bytes + n)) _ (decision_after (bytes + n) formulas front) _ d
    (decided_front (bytes + n) formulas front rest d) e
decided_front bytes formulas (kept file fof ∷ front) rest d e =
    later_decided (nat_le MOST_FORMULAS formulas) _ (decision_after bytes (formulas + 1) front) _ d
    (decided_front bytes (formulas + 1) front rest d) e

-- where neither the test nor the first rest decides, the answer is that of the second rest
later : (test : Bool) (d : Decision) (x y : Option Decision) (z : Option Decision) → (x ≡ None → y ≡ z) → cond test (Some d) x ≡ None →
    cond test (Some d) y ≡ z
later true d x y z then e = absurd cc
later false d x y z then e = then e

-- behind a front that nothing decides, the rest decides
pub undecided_front : (bytes formulas : ℕ) (front rest : List Entry) → decision_after bytes formulas front ≡ None →
    decision_after bytes formulas (front ++ rest) ≡ decision_after (bytes + bytes_of front) (formulas + length (kept_of front)) rest
undecided_front bytes formulas [] rest e =
    let b : bytes ≡ bytes + 0 = omega arith in
    let f : formulas ≡ formulas + 0 = omega arith in
    λ i. decision_after (b i) (f i) rest
undecided_front bytes formulas (missing file ∷ front) rest e = absurd cc
undecided_front bytes formulas (stop file why ∷ front) rest e = absurd cc
undecided_front bytes formulas (fetched file n ∷ front) rest e =
    later (nat_lt MOST_PROBLEM_BYTES (bytes + n)) _ (decision_after (bytes + n) formulas front) _ _
    (λ none. undecided_front (bytes + n) formulas front rest none ∙
    (let b : bytes + n + bytes_of front ≡ bytes + (n + bytes_of front) = omega arith in
    ap (λ m. decision_after m (formulas + length (kept_of front)) rest) b)) e
undecided_front bytes formulas (kept file fof ∷ front) rest e =
    later (nat_le MOST_FORMULAS formulas) _ (decision_after bytes (formulas + 1) front) _ _
    (λ none. undecided_front bytes (formulas + 1) front rest none ∙
    (let f : formulas + 1 + length (kept_of front) ≡ formulas + length (fof ∷ kept_of front) = omega arith in
    ap (λ m. decision_after (bytes + bytes_of front) m rest) f)) e
