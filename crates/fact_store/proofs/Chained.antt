-- Chains stay chains when a key is added at the end and when the last one is taken away.
use Rattle.std.proofs.Common.{◌≡◌, ℕ, suc, zero, ◌<◌, ◌≤◌, ◌==◌, ◌≢◌, Bool, true, false, cond, List, [], ◌∷◌, ◌++◌, length, take, get_or, replicate, Option, Some, None, refl, sym, ap, subst, ◌∙◌, arith}
use Rattle.std.specs.List.{AllByRecursion}
use Rattle.std.proofs.Math.ListN.{set, get_or-append}
use Rattle.std.proofs.Math.Seq.{get_or-append_seam, take-append_seam}
use Rattle.std.proofs.lemmas.List.{length-append, length-set, take-append-le, get_or-set_same, get_or-set_other}
use Rattle.std.proofs.lemmas.Bool.Decides.{nat_tests}
use Rattle.text_core.proofs.Laws.{each_append, each_front, each_back, number_same}
use Rattle.fact_store.specs.Chains.{or_first, latest, AreChained}

-- a last number behind the first item is one behind it in the whole list
first_or_later : (here last : Bool) (n : ℕ) (o : Option ℕ) → or_first here (cond last (Some n) o) ≡ cond last (Some (suc n)) (or_first here o)
first_or_later here true n o = refl
first_or_later here false n o = refl

-- the last number of a key once one more key is added
pub latest-push : (key k : ℕ) (keys : List ℕ) → latest key (keys ++ k ∷ []) ≡ cond (k == key) (Some (length keys)) (latest key keys)
unfolding latest
latest-push key k [] = refl
latest-push key k (x ∷ keys) = ap (or_first (x == key)) (latest-push key k keys) ∙ first_or_later (x == key) (k == key) (length keys) (latest key keys)

-- a last number is below the length, item by item
latest_of : (wanted : Bool) (o : Option ℕ) (n number : ℕ) → ((p : ℕ) → o ≡ Some p → p < n) → or_first wanted o ≡ Some number → number < suc n
latest_of true None n number below e = let at : 0 ≡ number = cc in omega arith
latest_of false None n number below e = cc
latest_of wanted (Some p) n number below e = let at : suc p ≡ number = cc in let h = below p refl in omega arith

-- a last number is below the length
pub latest-below : (key : ℕ) (keys : List ℕ) (number : ℕ) → latest key keys ≡ Some number → number < length keys
unfolding latest
latest-below key [] number e = cc
latest-below key (k ∷ keys) number e = latest_of (k == key) (latest key keys) (length keys) number (latest-below key keys) e

-- at a last number is the key, item by item
latest_key : (key k : ℕ) (keys : List ℕ) (wanted : Bool) (o : Option ℕ) (number : ℕ) → (k == key) ≡ wanted
    → ((p : ℕ) → o ≡ Some p → get_or keys p 0 ≡ key) → or_first wanted o ≡ Some number → get_or (k ∷ keys) number 0 ≡ key
latest_key key k keys true None number test rest e = let at : 0 ≡ number = cc in rw (← at) (number_same k key test)
latest_key key k keys false None number test rest e = cc
latest_key key k keys wanted (Some p) number test rest e = let at : suc p ≡ number = cc in rw (← at) (rest p refl)

-- at a last number is the key
pub latest-is : (key : ℕ) (keys : List ℕ) (number : ℕ) → latest key keys ≡ Some number → get_or keys number 0 ≡ key
unfolding latest
latest-is key [] number e = cc
latest-is key (k ∷ keys) number e = latest_key key k keys (k == key) (latest key keys) number refl (latest-is key keys) e

-- heads that are all of no chain
nowhere : (n k : ℕ) → get_or {A = Option ℕ} (replicate n None) k None ≡ None
nowhere zero k = refl
nowhere (suc n) zero = refl
nowhere (suc n) (suc k) = nowhere n k

-- numbers that fail the test of equality differ
is_other : (a b : ℕ) → (a == b) ≡ false → b ≢ a
is_other a b h = λ e. grind (arith, nat_tests)

module _ (heads olds : List (Option ℕ)) (keys : List ℕ) (key : ℕ) where
  -- the head after the key's head was set
  head_set : (o : Option ℕ) (k : ℕ) (b : Bool) → (key == k) ≡ b → key < length heads → get_or (set heads key o) k None ≡ cond b o (get_or heads k None)
  head_set o k true e below = let same = number_same key k e in subst (λ j. get_or (set heads key o) j None ≡ o) same (get_or-set_same heads key o None below)
  head_set o k false e below = get_or-set_other heads key k o None (is_other key k e)

  module _ (chained : AreChained heads olds keys) (below : key < length heads) where
    -- the heads after a key was added
    head_add : (k : ℕ) → k < length heads → get_or (set heads key (Some (length keys))) k None ≡ latest k (keys ++ key ∷ [])
    head_add k h =
        head_set (Some (length keys)) k (key == k) refl below
        ∙ ap (cond (key == k) (Some (length keys))) (chained.head k h)
        ∙ sym (latest-push k key keys)

    -- the older numbers after a key was added
    older_add : (number : ℕ) (at_end : Bool) → (number == length keys) ≡ at_end → number < length (keys ++ key ∷ [])
        → get_or (olds ++ get_or heads key None ∷ []) number None ≡ latest (get_or (keys ++ key ∷ []) number 0) (take number (keys ++ key ∷ []))
    older_add number true e h =
        let here : length olds ≡ number = omega (arith, chained.one_each, number_same number (length keys) e) in
        let there : length keys ≡ number = omega (arith, number_same number (length keys) e) in
        subst (λ n. get_or (olds ++ get_or heads key None ∷ []) n None ≡ get_or heads key None) here (get_or-append_seam olds _ [] None)
        ∙ chained.head key below
        ∙ subst (λ n. latest key keys ≡ latest (get_or (keys ++ key ∷ []) n 0) (take n (keys ++ key ∷ []))) there
        (sym (λ i. latest (get_or-append_seam keys key [] 0 i) (take-append_seam keys (key ∷ []) i)))
    older_add number false e h =
        let apart = is_other number (length keys) e in
        let early : number < length keys = grind (arith, length-append keys (key ∷ [])) in
        get_or-append olds _ None number (omega (arith, chained.one_each))
        ∙ chained.older number early
        ∙ sym (λ i. latest (get_or-append keys (key ∷ []) 0 number early i) (take-append-le number keys (key ∷ []) (omega arith) i))

    -- a key added at the end
    pub AreChained-add : AreChained (set heads key (Some (length keys))) (olds ++ get_or heads key None ∷ []) (keys ++ key ∷ [])
    AreChained-add =
        let size = length-set heads key (Some (length keys)) in record {
          in_range = subst (λ n. AllByRecursion (λ k. k < n) (keys ++ key ∷ [])) (sym size) (each_append _ keys (key ∷ []) chained.in_range (below, tt));
          one_each = omega (arith, chained.one_each, length-append olds (get_or heads key None ∷ []), length-append keys (key ∷ []));
          head = λ k h. head_add k (omega (arith, size));
          older = λ number h. older_add number (number == length keys) refl h;
        }

  module _ (older : Option ℕ) (chained : AreChained heads (olds ++ older ∷ []) (keys ++ key ∷ [])) where
    -- the keys are in range, and so is the last
    ranges : AllByRecursion (λ k. k < length heads) keys × (key < length heads)
    ranges = (each_front _ keys (key ∷ []) chained.in_range, (each_back (λ k. k < length heads) keys (key ∷ []) chained.in_range).0)

    -- there are as many older numbers as keys
    same_count : length olds ≡ length keys
    same_count = omega (arith, chained.one_each, length-append olds (older ∷ []), length-append keys (key ∷ []))

    -- the last key's older number
    last_older : older ≡ latest key keys
    last_older =
        let there : length keys < length (keys ++ key ∷ []) = omega (arith, length-append keys (key ∷ [])) in
        sym (get_or-append_seam olds older [] None)
        ∙ ap (λ n. get_or (olds ++ older ∷ []) n None) same_count
        ∙ chained.older (length keys) there
        ∙ (λ i. latest (get_or-append_seam keys key [] 0 i) (take-append_seam keys (key ∷ []) i))

    -- the heads after the last key was taken away
    head_pop : (k : ℕ) (b : Bool) → (key == k) ≡ b → k < length heads → cond b older (get_or heads k None) ≡ latest k keys
    head_pop k true e h = subst (λ j. older ≡ latest j keys) (number_same key k e) last_older
    head_pop k false e h = chained.head k h ∙ latest-push k key keys ∙ ap (λ b. cond b (Some (length keys)) (latest k keys)) e

    -- the older numbers after the last key was taken away
    older_pop : (number : ℕ) → number < length keys → get_or olds number None ≡ latest (get_or keys number 0) (take number keys)
    older_pop number h =
        sym (get_or-append olds (older ∷ []) None number (omega (arith, same_count)))
        ∙ chained.older number (omega (arith, length-append keys (key ∷ [])))
        ∙ (λ i. latest (get_or-append keys (key ∷ []) 0 number h i) (take-append-le number keys (key ∷ []) (omega arith) i))

    -- the last key taken away
    pub AreChained-pop : AreChained (set heads key older) olds keys
    AreChained-pop =
        let size = length-set heads key older in record {
          in_range = subst (λ n. AllByRecursion (λ k. k < n) keys) (sym size) ranges.0;
          one_each = same_count;
          head = λ k h. head_set older k (key == k) refl ranges.1 ∙ head_pop k (key == k) refl (omega (arith, size));
          older = older_pop;
        }

-- no keys are chained
pub AreChained-new : (width : ℕ) → AreChained (replicate width None) [] []
unfolding latest
AreChained-new width = record { in_range = tt; one_each = refl; head = λ k h. nowhere width k; older = λ number h. absurd (omega arith) }

-- a number is not one below it
other_number : (a b : ℕ) → a < b → (a == b) ≡ false
other_number a b h = grind (arith, nat_tests)

-- a key out of range has no last number
pub latest-none : (width key : ℕ) (keys : List ℕ) → AllByRecursion (λ k. k < width) keys → width ≤ key → None ≡ latest key keys
unfolding latest
latest-none width key [] h past = refl
latest-none width key (k ∷ keys) h past =
    let here : (k == key) ≡ false = other_number k key (omega (arith, h.0, past)) in
    sym (ap (λ b. or_first b (latest key keys)) here ∙ ap (or_first false) (sym (latest-none width key keys h.1 past)))
