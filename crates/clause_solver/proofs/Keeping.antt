-- What a store keeps stays true under each assignment that suits.
use Rattle.std.proofs.Common.{◌≡◌, ℕ, zero, suc, ◌+◌, ◌<◌, ◌≤◌, ◌⊎◌, inl, inr, Bool, true, false, not, List, [], ◌∷◌, ◌++◌, length, take, drop, get_or, Option, Some, refl, sym, ap, subst, ◌∙◌, arith, add-one}
use Rattle.std.specs.List.{AllByRecursion, slice_get}
use Rattle.std.specs.Bool.{beq, OnTrue}
use Rattle.std.proofs.lemmas.Bool.{OnTrue_from}
use Rattle.std.proofs.Math.ListN.{set}
use Rattle.text_core.specs.Lists.{SomeOf}
use Rattle.text_core.proofs.Laws.{some_append, some_back}
use Rattle.clause_solver.specs.declared.literal.Literal.{Literal}
use Rattle.clause_solver.specs.declared.store.Part.{Part}
use Rattle.clause_solver.specs.Clauses.{IsLiteralTrue, IsClauseTrue, Kept, Suits}
use Rattle.clause_solver.specs.Stored.{literals_of, AreTrue}

-- some member of a front of a list that grew
some_longer : {X : Type 0} (P : X → Type 0) (count : ℕ) (xs ys : List X) → SomeOf P (take count xs) → SomeOf P (take count (xs ++ ys))
some_longer P zero xs ys h = absurd h
some_longer P (suc count) [] ys h = absurd h
some_longer P (suc count) (x ∷ xs) ys (inl h) = inl h
some_longer P (suc count) (x ∷ xs) ys (inr h) = inr (some_longer P count xs ys h)

-- some member of a range of a list that grew
some_further : {X : Type 0} (P : X → Type 0) (count start : ℕ) (xs ys : List X) → SomeOf P (take count (drop start xs)) → SomeOf P (take count (drop start (xs ++ ys)))
some_further P count zero xs ys h = some_longer P count xs ys h
some_further P zero (suc start) xs ys h = absurd h
some_further P (suc count) (suc start) [] ys h = absurd h
some_further P (suc count) (suc start) (x ∷ xs) ys h = some_further P (suc count) start xs ys h

-- the literals behind all others
last_literals : {X : Type 0} (xs ys : List X) → take (length ys) (drop (length xs) (xs ++ ys)) ≡ ys
last_literals [] [] = refl
last_literals [] (y ∷ ys) = ap (λ zs. y ∷ zs) (last_literals [] ys)
last_literals (x ∷ xs) ys = last_literals xs ys

-- clauses stay true where there are more literals
pub AreTrue-longer : (sigma : ℕ → Bool) (literals more : List Literal) (parts : List Part) → AreTrue sigma literals parts → AreTrue sigma (literals ++ more) parts
AreTrue-longer sigma literals more [] h = tt
AreTrue-longer sigma literals more (part ∷ parts) h =
    (some_further (IsLiteralTrue sigma) part.count part.start literals more h.0, AreTrue-longer sigma literals more parts h.1)

-- one more part whose clause is true
AreTrue-part : (sigma : ℕ → Bool) (literals : List Literal) (parts : List Part) (part : Part) → AreTrue sigma literals parts
    → IsClauseTrue sigma (literals_of literals part) → AreTrue sigma literals (parts ++ part ∷ [])
AreTrue-part sigma literals [] part h more = (more, tt)
AreTrue-part sigma literals (first ∷ parts) part h more = (h.0, AreTrue-part sigma literals parts part h.1 more)

-- one more clause that is true
pub AreTrue-added : (sigma : ℕ → Bool) (literals clause : List Literal) (parts : List Part) (part : Part)
    → part.start ≡ length literals → part.count ≡ length clause → AreTrue sigma literals parts → IsClauseTrue sigma clause
    → AreTrue sigma (literals ++ clause) (parts ++ part ∷ [])
AreTrue-added sigma literals clause parts part start count h more =
    let same : literals_of (literals ++ clause) part ≡ clause = rw (start, count) (last_literals literals clause) in
    AreTrue-part sigma (literals ++ clause) parts part (AreTrue-longer sigma literals clause parts h) (subst (IsClauseTrue sigma) (sym same) more)

-- the clause of a part
pub clause_true : (sigma : ℕ → Bool) (literals : List Literal) (parts : List Part) (i : ℕ) (part : Part) → i < length parts
    → part ≡ get_or parts i part → AreTrue sigma literals parts → IsClauseTrue sigma (literals_of literals part)
clause_true sigma literals [] i part below e h = absurd (omega arith)
clause_true sigma literals (first ∷ parts) zero part below e h = subst (λ p. IsClauseTrue sigma (literals_of literals p)) (sym e) h.0
clause_true sigma literals (first ∷ parts) (suc i) part below e h = clause_true sigma literals parts i part (omega arith) e h.1

-- a value that is not asked for is another one
apart : (a b : Bool) → not (beq a b) ≡ true → a ≡ b → ⊥
apart true true h e = cc
apart true false h e = cc
apart false true h e = cc
apart false false h e = cc

-- a literal is false where its variable has another value for certain
pub OnTrue-apart : (kept : Kept) (literal : Literal) (value : Bool) → ((sigma : ℕ → Bool) → Suits sigma kept → sigma literal.variable ≡ value)
    → OnTrue (not (beq value literal.positive)) ((sigma : ℕ → Bool) → Suits sigma kept → IsLiteralTrue sigma literal → ⊥)
OnTrue-apart kept literal value certain =
    OnTrue_from (not (beq value literal.positive)) _ (λ e sigma suits holds. apart value literal.positive e (sym (certain sigma suits) ∙ holds))

-- what follows from each member follows from some member of a front that is longer by one
pub front_gives : {X : Type 0} (P : X → Type 0) (R : Type 0) (xs : List X) (i : ℕ) (d : X) → i < length xs
    → (SomeOf P (take i xs) → R) → (P (get_or xs i d) → R) → SomeOf P (take (i + 1) xs) → R
front_gives {X = X} P R xs i d below before here h = gives xs i below before here (rw add-one at h)
  where
    gives : (xs : List X) (i : ℕ) → i < length xs → (SomeOf P (take i xs) → R) → (P (get_or xs i d) → R) → SomeOf P (take (suc i) xs) → R
    gives [] i below before here h = absurd (omega arith)
    gives (y ∷ ys) zero below before here (inl h) = here h
    gives (y ∷ ys) zero below before here (inr h) = absurd h
    gives (y ∷ ys) (suc i) below before here (inl h) = before (inl h)
    gives (y ∷ ys) (suc i) below before here (inr h) = gives ys i (omega arith) (λ front. before (inr front)) here h

-- some member of a list is some member of its whole front
pub some_whole : {X : Type 0} (P : X → Type 0) (xs : List X) (n : ℕ) → length xs ≤ n → SomeOf P xs → SomeOf P (take n xs)
some_whole P [] n fits h = absurd h
some_whole P (x ∷ xs) zero fits h = absurd (omega arith)
some_whole P (x ∷ xs) (suc n) fits (inl h) = inl h
some_whole P (x ∷ xs) (suc n) fits (inr h) = inr (some_whole P xs n (omega arith) h)

-- a value that is told after one was set is that one or was told before
get_set : (xs : List (Option Bool)) (v : ℕ) (p : Bool) (w : ℕ) (b : Bool) → slice_get (set xs v (Some p)) w ≡ Some (Some b)
    → ((v ≡ w) × (p ≡ b)) ⊎ (slice_get xs w ≡ Some (Some b))
get_set [] v p w b e = inr e
get_set (x ∷ xs) zero p zero b e = inl (refl, (cc))
get_set (x ∷ xs) zero p (suc w) b e = inr e
get_set (x ∷ xs) (suc v) p zero b e = inr e
get_set (x ∷ xs) (suc v) p (suc w) b e = elim (get_set xs v p w b e) [ inl h ↦ inl (ap suc h.0, h.1) | inr h ↦ inr h ]

-- a literal that is true under each assignment that suits may be held for certain
pub Suits-set : (sigma : ℕ → Bool) (kept : Kept) (v : ℕ) (p : Bool) → Suits sigma kept → sigma v ≡ p
    → Suits sigma (record kept { certain = set kept.certain v (Some p) })
Suits-set sigma kept v p suits holds = record {
  clauses = suits.clauses;
  certain = λ w b e. elim (get_set kept.certain v p w b e) [ inl h ↦ ap sigma (sym h.0) ∙ holds ∙ h.1 | inr h ↦ suits.certain w b h ];
  unrefuted = suits.unrefuted;
}

-- an assignment suits one more clause that is true, or more literals
pub Suits-added : (sigma : ℕ → Bool) (kept : Kept) (clauses : List (List Literal)) → Suits sigma kept → AllByRecursion (IsClauseTrue sigma) clauses
    → Suits sigma (record kept { clauses = clauses })
Suits-added sigma kept clauses suits more = record { clauses = more; certain = suits.certain; unrefuted = suits.unrefuted }

module _ {X : Type 0} (P : X → Type 0) (last x read : X) (same : read ≡ x) where
  -- the last member is the one that was read, or another one is left
  pub last_taken : (xs ys : List X) (i : ℕ) → xs ≡ ys ++ last ∷ [] → i ≡ length ys → read ≡ get_or xs i read → SomeOf P xs → P x ⊎ SomeOf P ys
  last_taken xs ys i e at is h =
      elim (some_append P ys (last ∷ []) (subst (SomeOf P) e h)) [
        | inl front ↦ inr front
        | inr (inl here) ↦ inl (subst P (sym (sym same ∙ is ∙ ap (λ zs. get_or zs i read) e ∙ rw at (at_end ys))) here)
        | inr (inr none) ↦ absurd none
      ]
    where
      at_end : (ys : List X) → get_or (ys ++ last ∷ []) (length ys) read ≡ last
      at_end [] = refl
      at_end (y ∷ ys) = at_end ys

  -- the member that was read is true, or another one is left where the last one stands in its place
  pub one_taken : (xs ys : List X) (i : ℕ) → xs ≡ ys ++ last ∷ [] → i < length ys → read ≡ get_or xs i read → SomeOf P xs → P x ⊎ SomeOf P (set ys i last)
  one_taken xs ys i e below is h = elim (taken ys i below (is ∙ ap (λ zs. get_or zs i read) e) (subst (SomeOf P) e h)) [ inl here ↦ inl (subst P same here) | inr rest ↦ inr rest ]
    where
      taken : (ys : List X) (i : ℕ) → i < length ys → read ≡ get_or (ys ++ last ∷ []) i read → SomeOf P (ys ++ last ∷ []) → P read ⊎ SomeOf P (set ys i last)
      taken [] i below e h = absurd (omega arith)
      taken (y ∷ ys) zero below e (inl h) = inl (subst P (sym e) h)
      taken (y ∷ ys) zero below e (inr h) = elim (some_append P ys (last ∷ []) h) [ inl a ↦ inr (inr a) | inr (inl b) ↦ inr (inl b) | inr (inr b) ↦ absurd b ]
      taken (y ∷ ys) (suc i) below e (inl h) = inr (inl h)
      taken (y ∷ ys) (suc i) below e (inr h) = elim (taken ys i (omega arith) e h) [ inl a ↦ inl a | inr b ↦ inr (inr b) ]

-- some member at a place
pub some_read : {X : Type 0} (P : X → Type 0) (xs : List X) (i : ℕ) (read x : X) → read ≡ x → i < length xs → read ≡ get_or xs i read → P x → SomeOf P xs
some_read P [] i read x same below e h = absurd (omega arith)
some_read P (y ∷ ys) zero read x same below e h = inl (subst P (sym same ∙ e) h)
some_read P (y ∷ ys) (suc i) read x same below e h = inr (some_read P ys i read x same (omega arith) e h)

-- the last member is true
pub some_last : {X : Type 0} (P : X → Type 0) (xs : List X) (x : X) → P x → SomeOf P (xs ++ x ∷ [])
some_last P xs x h = some_back P xs (x ∷ []) (inl h)

-- what is left after two clauses, of which one has a literal and the other one its opposite
pub resolved : (sigma : ℕ → Bool) (pivot : Literal) (A B : Type 0) → (sigma pivot.variable ≡ not pivot.positive) ⊎ A → (A → B)
    → IsLiteralTrue sigma pivot ⊎ B → B
resolved sigma pivot A B (inl opposite) before (inl same) = absurd (differ pivot.positive (sym opposite ∙ same))
  where
    differ : (b : Bool) → not b ≡ b → ⊥
    differ true e = cc
    differ false e = cc
resolved sigma pivot A B (inl opposite) before (inr more) = more
resolved sigma pivot A B (inr a) before more = before a

-- where nothing is left out, the other one is true
pub unless : {B : Type 0} → ⊥ ⊎ B → B
unless (inl none) = absurd none
unless (inr b) = b
