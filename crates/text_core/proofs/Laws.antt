-- Laws for every crate: on lists, on members, on items by their number, on fronts, on tests, on options and on exact answers.
use Rattle.std.proofs.Common.{◌≡◌, ℕ, zero, suc, ◌+◌, ◌<◌, ◌≤◌, ◌==◌, ◌⊎◌, inl, inr, Bool, true, false, not, ◌&&◌, ◌||◌, List, [], ◌∷◌, ◌++◌, map, length, take, slice_get, slice_index, Some, Ok, Err, refl, ap, subst, arith, add-one}
use Rattle.std.specs.List.{AllByRecursion}
use Rattle.text_core.specs.Names.{Text}
use Rattle.text_core.specs.NameTexts.{IsPrintable, IsNameText}
use Rattle.text_core.specs.Lists.{SomeOf, IsAmong}
use Rattle.text_core.specs.Exact.{Exact}

-- what holds of each member, where it follows from what held
pub each_map : {X : Type 0} {P Q : X → Type 0} → ((x : X) → P x → Q x) → (xs : List X) → AllByRecursion P xs → AllByRecursion Q xs
each_map f [] h = tt
each_map f (x ∷ xs) h = (f x h.0, each_map f xs h.1)

-- each member of two lists, one behind the other
pub each_append : {X : Type 0} (P : X → Type 0) (xs ys : List X) → AllByRecursion P xs → AllByRecursion P ys → AllByRecursion P (xs ++ ys)
each_append P [] ys a b = b
each_append P (x ∷ xs) ys a b = (a.0, each_append P xs ys a.1 b)

-- each member of the front of two lists, one behind the other
pub each_front : {X : Type 0} (P : X → Type 0) (xs ys : List X) → AllByRecursion P (xs ++ ys) → AllByRecursion P xs
each_front P [] ys h = tt
each_front P (x ∷ xs) ys h = (h.0, each_front P xs ys h.1)

-- each member of the back of two lists, one behind the other
pub each_back : {X : Type 0} (P : X → Type 0) (xs ys : List X) → AllByRecursion P (xs ++ ys) → AllByRecursion P ys
each_back P [] ys h = h
each_back P (x ∷ xs) ys h = each_back P xs ys h.1

-- the member with this number, where each has P
pub each_get : {X : Type 0} (P : X → Type 0) (xs : List X) (i : ℕ) (x : X) → AllByRecursion P xs → slice_get xs i ≡ Some x → P x
each_get P [] i x h e = absurd (cc)
each_get P (y ∷ ys) zero x h e = subst P (let same : y ≡ x = cc in same) h.0
each_get P (y ∷ ys) (suc i) x h e = each_get P ys i x h.1 e

-- the number at this index, where each has P
pub each_index : (P : ℕ → Type 0) (xs : List ℕ) (i : ℕ) → i < length xs → AllByRecursion P xs → P (slice_index xs i)
each_index P [] i h all = absurd (omega arith)
each_index P (x ∷ xs) zero h all = all.0
each_index P (x ∷ xs) (suc i) h all = each_index P xs i (omega arith) all.1

-- a member, where each has P
pub each_member : {X : Type 0} (P : X → Type 0) (xs : List X) → AllByRecursion P xs → (x : X) → IsAmong x xs → P x
each_member P [] h x among = absurd among
each_member P (y ∷ ys) h x (inl e) = subst P e h.0
each_member P (y ∷ ys) h x (inr among) = each_member P ys h.1 x among

-- where P and Q of each member give R of it
pub each_both : {X : Type 0} {P Q R : X → Type 0} → ((x : X) → P x → Q x → R x) → (xs : List X)
    → AllByRecursion P xs → AllByRecursion Q xs → AllByRecursion R xs
each_both g [] p q = tt
each_both g (x ∷ xs) p q = (g x p.0 q.0, each_both g xs p.1 q.1)

-- where P and Q of each member give R of its image
pub each_mapped : {X Y : Type 0} {P Q : X → Type 0} (R : Y → Type 0) (f : X → Y) → ((x : X) → P x → Q x → R (f x))
    → (xs : List X) → AllByRecursion P xs → AllByRecursion Q xs → AllByRecursion R (map f xs)
each_mapped R f g [] p q = tt
each_mapped R f g (x ∷ xs) p q = (g x p.0 q.0, each_mapped R f g xs p.1 q.1)

-- each member is among the members
pub each_is_among : {X : Type 0} (xs : List X) → AllByRecursion (λ x. IsAmong x xs) xs
each_is_among [] = tt
each_is_among (x ∷ xs) = (inl refl, each_map (λ y among. inr among) xs (each_is_among xs))

-- each member's image is among the images
pub each_image_is_among : {X Y : Type 0} (f : X → Y) (xs : List X) → AllByRecursion (λ x. IsAmong (f x) (map f xs)) xs
each_image_is_among f [] = tt
each_image_is_among f (x ∷ xs) = (inl refl, each_map (λ y among. inr among) xs (each_image_is_among f xs))

-- two functions that agree at each member have the same images
pub each_same : {X Y : Type 0} (f g : X → Y) (xs : List X) → AllByRecursion (λ x. f x ≡ g x) xs → map f xs ≡ map g xs
each_same f g [] h = refl
each_same f g (x ∷ xs) h = let rest = each_same f g xs h.1 in let first : f x ≡ g x = h.0 in cc

-- some member of the front
pub some_front : {X : Type 0} (P : X → Type 0) (xs ys : List X) → SomeOf P xs → SomeOf P (xs ++ ys)
some_front P [] ys h = absurd h
some_front P (x ∷ xs) ys (inl h) = inl h
some_front P (x ∷ xs) ys (inr h) = inr (some_front P xs ys h)

-- some member of the back
pub some_back : {X : Type 0} (P : X → Type 0) (xs ys : List X) → SomeOf P ys → SomeOf P (xs ++ ys)
some_back P [] ys h = h
some_back P (x ∷ xs) ys h = inr (some_back P xs ys h)

-- some member of two lists, one behind the other, is in one of them
pub some_append : {X : Type 0} (P : X → Type 0) (xs ys : List X) → SomeOf P (xs ++ ys) → SomeOf P xs ⊎ SomeOf P ys
some_append P [] ys h = inr h
some_append P (x ∷ xs) ys (inl h) = inl (inl h)
some_append P (x ∷ xs) ys (inr h) = elim (some_append P xs ys h) [ inl a ↦ inl (inr a) | inr b ↦ inr b ]

-- the member with this number
pub some_at : {X : Type 0} (P : X → Type 0) (xs : List X) (i : ℕ) (x : X) → slice_get xs i ≡ Some x → P x → SomeOf P xs
some_at P [] i x e h = absurd (cc)
some_at P (y ∷ ys) zero x e h = inl (subst P (let same : x ≡ y = cc in same) h)
some_at P (y ∷ ys) (suc i) x e h = inr (some_at P ys i x e h)

-- where P of each member and Q of some give R of that one
pub some_both : {X : Type 0} {P Q R : X → Type 0} → ((x : X) → P x → Q x → R x) → (xs : List X)
    → AllByRecursion P xs → SomeOf Q xs → SomeOf R xs
some_both g [] p q = q
some_both g (x ∷ xs) p (inl q) = inl (g x p.0 q)
some_both g (x ∷ xs) p (inr q) = inr (some_both g xs p.1 q)

-- where P of each member and Q of some give R of its image
pub some_mapped : {X Y : Type 0} {P Q : X → Type 0} (R : Y → Type 0) (f : X → Y) → ((x : X) → P x → Q x → R (f x))
    → (xs : List X) → AllByRecursion P xs → SomeOf Q xs → SomeOf R (map f xs)
some_mapped R f g [] p q = q
some_mapped R f g (x ∷ xs) p (inl q) = inl (g x p.0 q)
some_mapped R f g (x ∷ xs) p (inr q) = inr (some_mapped R f g xs p.1 q)

-- where P of each member and Q of some give R
pub some_with : {X : Type 0} {P Q : X → Type 0} {R : Type 0} → ((x : X) → P x → Q x → R) → (xs : List X)
    → AllByRecursion P xs → SomeOf Q xs → R
some_with g [] p q = absurd q
some_with g (x ∷ xs) p (inl q) = g x p.0 q
some_with g (x ∷ xs) p (inr q) = some_with g xs p.1 q

-- a member of the front
pub among_front : {X : Type 0} (x : X) (xs ys : List X) → IsAmong x xs → IsAmong x (xs ++ ys)
among_front x xs ys h = some_front (λ y. y ≡ x) xs ys h

-- a member of the back
pub among_back : {X : Type 0} (x : X) (xs ys : List X) → IsAmong x ys → IsAmong x (xs ++ ys)
among_back x xs ys h = some_back (λ y. y ≡ x) xs ys h

-- a member of two lists, one behind the other, is in one of them
pub among_append : {X : Type 0} (x : X) (xs ys : List X) → IsAmong x (xs ++ ys) → IsAmong x xs ⊎ IsAmong x ys
among_append x xs ys h = some_append (λ y. y ≡ x) xs ys h

-- an item keeps its number where the list grows
pub get_front : {X : Type 0} (xs ys : List X) (i : ℕ) (x : X) → slice_get xs i ≡ Some x → slice_get (xs ++ ys) i ≡ Some x
get_front [] ys i x e = absurd (cc)
get_front (y ∷ xs) ys zero x e = e
get_front (y ∷ xs) ys (suc i) x e = get_front xs ys i x e

-- the item behind a front has its length as number
pub get_behind : {X : Type 0} (xs : List X) (x : X) (ys : List X) → slice_get (xs ++ x ∷ ys) (length xs) ≡ Some x
get_behind [] x ys = refl
get_behind (y ∷ xs) x ys = get_behind xs x ys

-- a front that is longer by one
pub take_next : {X : Type 0} (xs : List X) (i : ℕ) (x : X) → slice_get xs i ≡ Some x → take (i + 1) xs ≡ take i xs ++ x ∷ []
take_next xs i x e = rw add-one (more xs i x e)
  where
    more : {X : Type 0} (xs : List X) (i : ℕ) (x : X) → slice_get xs i ≡ Some x → take (suc i) xs ≡ take i xs ++ x ∷ []
    more [] i x e = absurd (cc)
    more (y ∷ ys) zero x e = let same : y ≡ x = cc in ap (λ z. z ∷ []) same
    more (y ∷ ys) (suc i) x e = ap (λ zs. y ∷ zs) (more ys i x e)

-- a front of the whole length is the list
pub take_all : {X : Type 0} (xs : List X) (n : ℕ) → length xs ≤ n → take n xs ≡ xs
take_all [] zero h = refl
take_all [] (suc n) h = refl
take_all (x ∷ xs) zero h = absurd (omega arith)
take_all (x ∷ xs) (suc n) h = ap (λ zs. x ∷ zs) (take_all xs n (omega arith))

-- two lists in which the first has a member
pub no_front : {X : Type 0} (xs ys : List X) → xs ++ ys ≡ [] → xs ≡ []
no_front [] ys e = refl
no_front (x ∷ xs) ys e = absurd (cc)

-- the value of an option is one
pub value_same : {X : Type 0} {x y : X} → Some x ≡ Some y → x ≡ y
value_same e = cc

-- both tests pass
pub and_both : (a b : Bool) → (a && b) ≡ true → (a ≡ true) × (b ≡ true)
and_both true b e = (refl, e)
and_both false b e = absurd (cc)

-- two tests that pass, as one
pub and_true : (a b : Bool) → a ≡ true → b ≡ true → (a && b) ≡ true
and_true true b e f = f
and_true false b e f = absurd (cc)

-- one of the tests passes
pub or_either : (a b : Bool) → (a || b) ≡ true → (a ≡ true) ⊎ (b ≡ true)
or_either true b e = inl refl
or_either false b e = inr e

-- neither test passes
pub or_neither : (a b : Bool) → (a || b) ≡ false → (a ≡ false) × (b ≡ false)
or_neither true b e = absurd (cc)
or_neither false b e = (refl, e)

-- a test whose opposite passes fails
pub not_true : (a : Bool) → not a ≡ true → a ≡ false
not_true true e = absurd (cc)
not_true false e = refl

-- a test that cannot pass fails
pub not_passes : (a : Bool) → (a ≡ true → ⊥) → a ≡ false
not_passes true h = absurd (h refl)
not_passes false h = refl

-- a test does not pass and fail
pub not_both : (a : Bool) → a ≡ true → a ≡ false → ⊥
not_both a e f = cc

-- numbers that pass the test of equality are the same
pub number_same : (m n : ℕ) → (m == n) ≡ true → m ≡ n
number_same m n e = grind arith

-- one value, one refusal, never both
module _ {X E : Type 0} (IsValue : X → Type 0) (IsRefused : E → Type 0) (memory : E)
    (one_value : (a b : X) → IsValue a → IsValue b → a ≡ b)
    (one_refusal : (a b : E) → IsRefused a → IsRefused b → a ≡ b)
    (never_both : (a : X) (b : E) → IsValue a → IsRefused b → ⊥) where
  -- a value at hand is the exact answer
  pub exact_value : (value : X) → IsValue value → Exact IsValue IsRefused memory (Ok value)
  exact_value value is = record {
    ok = is;
    err = tt;
    found = λ other also. one_value value other is also;
    told = λ reason refused. never_both value reason is refused;
  }

  -- a refusal at hand is the exact answer
  pub exact_refusal : (why : E) → (why ≡ memory) ⊎ IsRefused why → Exact IsValue IsRefused memory (Err why)
  exact_refusal why is = record {
    ok = tt;
    err = is;
    found = λ value also. elim is [ inl none ↦ none | inr refused ↦ absurd (never_both value why also refused) ];
    told = λ reason also. elim is [ inl none ↦ inr none | inr refused ↦ inl (one_refusal why reason refused also) ];
  }

-- each byte of a name is printable
pub name_printable : (text : Text) → IsNameText text → IsPrintable text
name_printable [] n = absurd n
name_printable (b ∷ bs) n = n
