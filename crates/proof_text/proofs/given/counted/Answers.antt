use Rattle.std.proofs.Common.{◌≡◌, ℕ, suc, ◌+◌, ◌-◌, ◌<◌, List, [], ◌∷◌, ◌++◌, ap, ◌∙◌, arith, append_assoc}
use Rattle.vernacular_tree.specs.Contexts.{counted}
use Rattle.proof_text.proofs.given.counted.Goals as goal

-- the next number moves from those that follow to those so far
next : (numbers longer all : List ℕ) (number end : ℕ) → number < end → longer ≡ numbers ++ number ∷ [] → numbers ++ counted number (end - number) ≡ all
    → longer ++ counted (number + 1) (end - (number + 1)) ≡ all
next numbers longer all number end below is so_far =
    let one : end - number ≡ suc (end - (number + 1)) = omega arith in
    ap (λ (ns : List ℕ). ns ++ counted (number + 1) (end - (number + 1))) is
    ∙ append_assoc numbers (number ∷ []) (counted (number + 1) (end - (number + 1)))
    ∙ ap (λ (k : ℕ). numbers ++ counted number k) (let back : suc (end - (number + 1)) ≡ end - number = omega arith in back)
    ∙ so_far

pub loop-number-preserved : goal.loop-number-preserved
loop-number-preserved c =
    next c.loop-number.numbers c.push.new.self (counted c.args.first c.args.count) c.loop-number.number (c.args.first + c.args.count) c.loop-number-test.true
    c.in_ok-push.ensures.ok c.loop-number.invariant
