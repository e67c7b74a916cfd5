-- How the counts of variables change with the list of bindings.
use Rattle.std.proofs.Common.{◌≡◌, ℕ, ◌+◌, ◌-◌, ◌<◌, ◌≤◌, ◌==◌, ◌||◌, nat_lt, Bool, true, false, cond, List, [], ◌∷◌, ◌++◌, length, get_or, set, refl, ap, ◌∙◌, arith}
use Rattle.std.specs.List.{list_any, count_by, remove}
use Rattle.std.proofs.lemmas.Bool.Decides.{nat_tests}
use Rattle.std.proofs.lemmas.Grind.{common_steps}
use Rattle.std.proofs.lemmas.List.{get_or_default}
use Rattle.std.proofs.lemmas.List.Sums.{sum_by-cons, sum_by-remove, sum_by_push, get_or-le-sum_by, count_by-le-length}
use Rattle.tptp_grammar.specs.declared.scopes.Binding.{Binding}
use Rattle.tptp_grammar.specs.Counts.{AreCounts, count_of}

-- a count of one more, by whether the new one is counted
counted_step : (here : Bool) (all rest : ℕ) (some : Bool) → all ≡ cond here 1 0 + rest → nat_lt 0 rest ≡ some → nat_lt 0 all ≡ (here || some)
counted_step true all rest some e h = grind (arith, nat_tests)
counted_step false all rest some e h = grind (arith, nat_tests)

-- a count is above 0 where some element passes the test
counted_any : {X : Type 0} (p : X → Bool) (xs : List X) → nat_lt 0 (count_by p xs) ≡ list_any p xs
counted_any p [] = refl
counted_any p (x ∷ xs) =
    counted_step (p x) (count_by p (x ∷ xs)) (count_by p xs) (list_any p xs) (sum_by-cons (λ y. cond (p y) 1 0) x xs) (counted_any p xs)

-- a variable is bound where its count is not 0
pub has_some : (counts : List ℕ) (bindings : List Binding) (number count : ℕ) →
    AreCounts counts bindings → count ≡ get_or counts number 0 → nat_lt 0 count ≡ list_any (λ b. b.variable == number) bindings
has_some counts bindings number count counted is =
    ap (nat_lt 0) (is ∙ counted number) ∙ counted_any (λ (b : Binding). b.variable == number) bindings

-- how much a binding adds to the count of a number
abbrev adds : ℕ → Binding → ℕ
adds number b = cond (b.variable == number) 1 0

-- a binding is counted at its variable
adds_itself : (number : ℕ) (b : Binding) → b.variable ≡ number → 1 ≤ adds number b
adds_itself number b same = grind (arith, nat_tests)

-- a variable that is bound has a count of its own
pub counted_here : (counts : List ℕ) (bindings : List Binding) (at : ℕ) (b : Binding) →
    AreCounts counts bindings → at < length bindings → b ≡ get_or bindings at b → 1 ≤ get_or counts b.variable 0
counted_here counts bindings at b counted within is =
    let one = get_or-le-sum_by (adds b.variable) bindings at b within in
    let here = ap (adds b.variable) is in
    let itself = adds_itself b.variable b refl in
    let all = counted b.variable in omega arith

-- what is not 0 is before the end
pub get_or_within : (counts : List ℕ) (number : ℕ) → 1 ≤ get_or counts number 0 → number < length counts
get_or_within counts number some = grind (arith, common_steps)

-- what is at a number after one number was written
written : (counts : List ℕ) (at number n : ℕ) → at < length counts →
    get_or (set counts at n) number 0 ≡ cond (at == number) n (get_or counts number 0)
written counts at number n within = grind (arith, nat_tests, common_steps)

-- a read of a number that is there
pub read_is : (counts : List ℕ) (at was : ℕ) → at < length counts → was ≡ get_or counts at was → was ≡ get_or counts at 0
read_is counts at was within is = is ∙ get_or_default counts at was 0 within

-- a count at which one was taken away
lowered : (counts : List ℕ) (at number was all rest : ℕ) → was ≡ get_or counts at 0 → get_or counts number 0 ≡ all →
    rest + cond (at == number) 1 0 ≡ all → cond (at == number) (was - 1) (get_or counts number 0) ≡ rest
lowered counts at number was all rest is total sum = grind (arith, nat_tests)

-- a count at which one was added
raised : (counts : List ℕ) (at number was all more : ℕ) → was ≡ get_or counts at 0 → get_or counts number 0 ≡ all →
    more ≡ all + cond (at == number) 1 0 → cond (at == number) (was + 1) (get_or counts number 0) ≡ more
raised counts at number was all more is total sum = grind (arith, nat_tests)

-- one binding less
pub counts-remove : (counts : List ℕ) (bindings : List Binding) (at : ℕ) (b : Binding) (was : ℕ) →
    AreCounts counts bindings → at < length bindings → b ≡ get_or bindings at b → was ≡ get_or counts b.variable was →
    AreCounts (set counts b.variable (was - 1)) (remove bindings at)
counts-remove counts bindings at b was counted within is read number =
    let here = get_or_within counts b.variable (counted_here counts bindings at b counted within is) in
    written counts b.variable number (was - 1) here
    ∙ lowered counts b.variable number was (count_of number bindings) (count_of number (remove bindings at))
    (read_is counts b.variable was here read) (counted number)
    (ap (λ x. count_of number (remove bindings at) + adds number x) is ∙ sum_by-remove (adds number) bindings at b within)

-- one binding more
pub counts_push : (counts : List ℕ) (bindings : List Binding) (b : Binding) (was : ℕ) →
    AreCounts counts bindings → b.variable < length counts → was ≡ get_or counts b.variable was →
    AreCounts (set counts b.variable (was + 1)) (bindings ++ b ∷ [])
counts_push counts bindings b was counted within read number =
    written counts b.variable number (was + 1) within
    ∙ raised counts b.variable number was (count_of number bindings) (count_of number (bindings ++ b ∷ []))
    (read_is counts b.variable was within read) (counted number) (sum_by_push (adds number) bindings b)

-- a count is no greater than the number of bindings
pub count_within : (counts : List ℕ) (bindings : List Binding) (number was : ℕ) →
    AreCounts counts bindings → number < length counts → was ≡ get_or counts number was → was ≤ length bindings
count_within counts bindings number was counted within read =
    let all = read_is counts number was within read ∙ counted number in
    let most = count_by-le-length (λ (b : Binding). b.variable == number) bindings in omega arith
