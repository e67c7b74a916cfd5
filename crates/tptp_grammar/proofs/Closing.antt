-- How the bindings above a level are taken away, from the newest on.
use Rattle.std.proofs.Common.{◌≡◌, ℕ, ◌+◌, ◌-◌, ◌<◌, ◌≤◌, nat_le, Bool, true, false, cond, List, [], ◌∷◌, ◌++◌, length, get_or, slice_get, Some, take, drop, reverse, refl, ap, sym, ◌∙◌, arith, suc, unwrap_or, append-nil, ◌||◌, ◌==◌, inl, inr}
use Rattle.std.specs.Option.{option_map}
use Rattle.std.specs.List.{All, AllWithin, remove, filter, list_any}
use Rattle.std.proofs.Math.Nat.{eq-or-lt_of_le}
use Rattle.std.proofs.Math.Seq.{split_at}
use Rattle.std.proofs.lemmas.Bool.{cases_lt, le-leb, lt-leb}
use Rattle.std.proofs.lemmas.List.{reverse-append}
use Rattle.std.proofs.lemmas.List.Edits.{length-remove, get_or-remove_above}
use Rattle.std.proofs.lemmas.List.Elements.{filter-append, All-head, All-tail}
use Rattle.std.proofs.lemmas.List.Folds.{list_any-append}
use Rattle.std.proofs.lemmas.List.Quantifiers.{all_pairs_push, all_pairs_remove}
use Rattle.std.proofs.lemmas.Option.{get_or_from_slice_get, slice_get-get_or, slice_get_within}
use Rattle.tptp_grammar.specs.declared.scopes.Binding.{Binding}
use Rattle.tptp_grammar.specs.Limits.{open_at, is_bound}
use Rattle.tptp_grammar.specs.Counts.{NeverFall}

-- lists and tests

-- a filter keeps a list of which each member passes
filter_all : {X : Type 0} (p : X → Bool) (xs : List X) → All (λ x. p x ≡ true) xs → filter p xs ≡ xs
filter_all p [] all = refl
filter_all p (x ∷ xs) all =
    rw (All-head (λ y. p y ≡ true) x xs all) (ap (λ ys. x ∷ ys) (filter_all p xs (All-tail (λ y. p y ≡ true) x xs all)))

-- the last member of a reversed list, kept or not
reverse-kept : {X : Type 0} (p : X → Bool) (x : X) (ys : List X) (passes : Bool) →
    reverse ys ++ cond passes (x ∷ []) [] ≡ reverse (cond passes (x ∷ ys) ys)
reverse-kept p x ys true = sym (reverse-append (x ∷ []) ys)
reverse-kept p x ys false = append-nil (reverse ys)

-- the filter of a reversed list is the reversed filter
filter-reverse : {X : Type 0} (p : X → Bool) (xs : List X) → filter p (reverse xs) ≡ reverse (filter p xs)
filter-reverse p [] = refl
filter-reverse p (x ∷ xs) =
    ap (filter p) (reverse-append (x ∷ []) xs) ∙ (filter-append p (reverse xs) (x ∷ []) ∙
    (ap (λ ys. ys ++ filter p (x ∷ [])) (filter-reverse p xs) ∙ reverse-kept p x (filter p xs) (p x)))

-- two tests in another order
or-swapped : (a b : Bool) → (b || (a || false)) ≡ (a || b)
or-swapped true true = refl
or-swapped true false = refl
or-swapped false true = refl
or-swapped false false = refl

-- some member of a reversed list passes where some of the list does
list_any-reverse : {X : Type 0} (p : X → Bool) (xs : List X) → list_any p (reverse xs) ≡ list_any p xs
list_any-reverse p [] = refl
list_any-reverse p (x ∷ xs) =
    ap (list_any p) (reverse-append (x ∷ []) xs) ∙ (list_any-append p (reverse xs) (x ∷ []) ∙
    (ap (λ b. b || (p x || false)) (list_any-reverse p xs) ∙ or-swapped (p x) (list_any p xs)))

-- what is used is bound, or it is not
pub used_bound : (number : ℕ) (now bindings : List Binding) (bound : Bool) → reverse now ≡ bindings →
    bound ≡ list_any (λ b. b.variable == number) now → is_bound number bindings ≡ bound
used_bound number now bindings bound is same =
    ap (is_bound number) (sym is) ∙ (list_any-reverse (λ (b : Binding). b.variable == number) now ∙ sym same)

-- an element that fails the test may be taken away
filter-remove : {X : Type 0} (p : X → Bool) (xs : List X) (number : ℕ) (x : X) → slice_get xs number ≡ Some x → p x ≡ false →
    filter p (remove xs number) ≡ filter p xs
filter-remove p xs number x is fails =
    let split = split_at xs number x (slice_get_within xs number x is) in
    let here = get_or_from_slice_get xs number x x is in
    filter-append p (take number xs) (drop (suc number) xs) ∙
    (ap (λ ys. filter p (take number xs) ++ ys) (sym (ap (λ b. cond b (x ∷ filter p (drop (suc number) xs)) (filter p (drop (suc number) xs))) fails)) ∙
    (sym (filter-append p (take number xs) (x ∷ drop (suc number) xs)) ∙
    ap (filter p) (sym (split ∙ ap (λ y. take number xs ++ (y ∷ drop (suc number) xs)) here))))

-- the bindings from the number on are open at the level, and no open one was taken away
pub record Closing (level : ℕ) (before now : List Binding) (number : ℕ) (in_order : Bool) : Type 0 where
  pub same : open_at level now ≡ open_at level before
  pub within : number ≤ length now
  pub rest : AllWithin (λ b. b.level ≤ level) now number (length now)
  pub ordered : in_order ≡ true → NeverFall now

-- a newest binding above the level was taken away
pub closing_removed : (level : ℕ) (before now : List Binding) (number : ℕ) (in_order : Bool) (b : Binding) →
    Closing level before now number in_order → 0 < number → slice_get now (number - 1) ≡ Some b → level < b.level →
    Closing level before (remove now (number - 1)) (number - 1) in_order
closing_removed level before now number in_order b closing some is above =
    let here = slice_get_within now (number - 1) b is in
    let len = length-remove now (number - 1) here in
    record {
      same = filter-remove (λ (c : Binding). nat_le c.level level) now (number - 1) b is (lt-leb b.level level above) ∙ closing.same;
      within = omega arith;
      rest = λ k d from to. rw (get_or-remove_above now (number - 1) d k from here) (closing.rest (k + 1) d (omega arith) (omega arith));
      ordered = λ order. all_pairs_remove (λ (older newer : Binding). older.level ≤ newer.level) now (number - 1) here (closing.ordered order);
    }

-- what is open from the number on, and at the number before it, is open from there on
one_more : (level : ℕ) (now : List Binding) (number : ℕ) (b : Binding) → 0 < number → slice_get now (number - 1) ≡ Some b →
    b.level ≤ level → AllWithin (λ c. c.level ≤ level) now number (length now) → AllWithin (λ c. c.level ≤ level) now (number - 1) (length now)
one_more level now number b some is within rest k d from to =
    elim (eq-or-lt_of_le from) [
      | inl e ↦ rw (← e, get_or_from_slice_get now (number - 1) b d is) within
      | inr more ↦ rest k d (omega arith) to
    ]

-- a newest binding at most at the level stays
pub closing_kept : (level : ℕ) (before now : List Binding) (number : ℕ) (in_order : Bool) (b : Binding) →
    Closing level before now number in_order → 0 < number → slice_get now (number - 1) ≡ Some b → b.level ≤ level →
    Closing level before now (number - 1) in_order
closing_kept level before now number in_order b closing some is within = record {
  same = closing.same;
  within = let here = closing.within in omega arith;
  rest = one_more level now number b some is within closing.rest;
  ordered = closing.ordered;
}

-- where all that are left are open, they are those that are open
closed : (level : ℕ) (before now : List Binding) → open_at level now ≡ open_at level before →
    All (λ b. b.level ≤ level) now → reverse now ≡ open_at level (reverse before)
closed level before now same all =
    ap reverse (sym (filter_all (λ (b : Binding). nat_le b.level level) now (λ k d within. le-leb (get_or now k d).level level (all k d within))) ∙ same)
    ∙ sym (filter-reverse (λ (b : Binding). nat_le b.level level) before)

-- all bindings were looked at
pub closed_at_end : (level : ℕ) (before now : List Binding) (number : ℕ) (in_order : Bool) →
    Closing level before now number in_order → number ≤ 0 → reverse now ≡ open_at level (reverse before)
closed_at_end level before now number in_order closing end = closed level before now closing.same (λ k d within. closing.rest k d (omega arith) within)

-- the older ones are open too, where levels never fall
pub closed_in_order : (level : ℕ) (before now : List Binding) (number : ℕ) (in_order : Bool) (b : Binding) →
    Closing level before now number in_order → 0 < number → slice_get now (number - 1) ≡ Some b → b.level ≤ level →
    in_order ≡ true → reverse now ≡ open_at level (reverse before)
closed_in_order level before now number in_order b closing some is within order =
    closed level before now closing.same
    (λ k d to. elim (cases_lt k (number - 1)) [
      | inr from ↦ one_more level now number b some is within closing.rest k d from to
      | inl older ↦
          let le = closing.ordered order k (number - 1) d older (slice_get_within now (number - 1) b is) in
          let newer = ap (λ (c : Binding). c.level) (get_or_from_slice_get now (number - 1) b d is) in omega arith
    ])

-- levels do not fall where that of the newest was at most the new one
pub never_fall_push : (bindings : List Binding) (b : Binding) (newest : ℕ) → NeverFall bindings →
    newest ≡ unwrap_or (option_map (λ (c : Binding). c.level) (slice_get bindings (length bindings - 1))) 0 → newest ≤ b.level →
    NeverFall (bindings ++ b ∷ [])
never_fall_push bindings b newest order is least =
    all_pairs_push (λ (older newer : Binding). older.level ≤ newer.level) bindings b order
    (λ k d within.
    let last = get_or bindings (length bindings - 1) d in
    let there = is ∙ ap (λ o. unwrap_or (option_map (λ (c : Binding). c.level) o) 0)
    (slice_get-get_or bindings (length bindings - 1) d (omega arith)) in
    let at_last : k ≤ length bindings - 1 = omega arith in
    elim (eq-or-lt_of_le at_last) [
      | inl e ↦ let here = ap (λ n. (get_or bindings n d).level) e in omega arith
      | inr older ↦ let le = order k (length bindings - 1) d older (omega arith) in omega arith
    ])
