-- How clauses for candidates grow.
use Rattle.std.proofs.Common.{◌≡◌, ℕ, zero, suc, ◌<◌, ◌⊎◌, inl, inr, Bool, true, false, List, [], ◌∷◌, ◌++◌, ◌+◌, ◌∙◌, refl, sym, ap, subst, take, length, get_or, Some, arith}
use Rattle.std.specs.Prelude.{slice_get, Result, Ok, Err, OnOk}
use Rattle.std.specs.List.{list_all}
use Rattle.text_core.specs.Lists.{IsAmong}
use Rattle.text_core.proofs.Laws.{some_front, some_back, each_front, each_back, take_next}
use Rattle.clause_solver.specs.Clauses.{Suits, IsLiteralTrue, IsClauseTrue}
use Rattle.clause_solver.specs.declared.literal.Literal.{Literal}
use Rattle.model_search.specs.Candidates.{Candidate}
use Rattle.model_search.specs.Keys.{Agrees, AllTrue, ground_true}
use Rattle.model_search.specs.Sheets.{Drawn, Covers, Grows, Goes, GoesIf, Implies}
use Rattle.model_search.specs.declared.key.Ground.{Ground}
use Rattle.model_search.proofs.Keys.{true_all}

-- the member at an index is among the members
pub among_at : {X : Type 0} (x : X) (xs : List X) (i : ℕ) (other : X) → i < length xs → get_or xs i other ≡ x → IsAmong x xs
among_at x [] i other h e = absurd (omega arith)
among_at x (y ∷ ys) zero other h e = inl e
among_at x (y ∷ ys) (suc i) other h e = inr (among_at x ys i other (omega arith) e)

-- and the one with this number
pub item_at : {X : Type 0} (xs : List X) (i : ℕ) (x : X) → i < length xs → x ≡ get_or xs i x → slice_get xs i ≡ Some x
item_at [] i x h e = absurd (omega arith)
item_at (y ∷ ys) zero x h e = ap (λ z. Some z) (sym e)
item_at (y ∷ ys) (suc i) x h e = item_at ys i x (omega arith) e

-- what does not change grows
pub grows_same : (s : Drawn) → Grows s s
grows_same s = record { agrees = λ c sigma h. h; covers = λ c h. h }

-- one growth behind another
pub grows_more : (r s t : Drawn) → Grows r s → Grows s t → Grows r t
grows_more r s t first second = record {
  agrees = λ c sigma h. first.agrees c sigma (second.agrees c sigma h);
  covers = λ c h. second.covers c (first.covers c h);
}

pub goes_more : (r s t : Drawn) → Goes r s → Goes s t → Goes r t
goes_more r s t first second = record {
  grows = grows_more r s t first.grows second.grows;
  suited = λ c h. second.suited c (first.suited c h);
}

-- where the keys alone grow
pub goes_keys : (old new : Drawn) → new.kept ≡ old.kept → new.literals ≡ old.literals → new.is_true ≡ old.is_true
    → ((c : Candidate) (sigma : ℕ → Bool) → Agrees sigma c new.keys → Agrees sigma c old.keys) → Goes old new
goes_keys old new kept literals is_true agrees = record {
  grows = record {
    agrees = agrees;
    covers = λ c h sigma a. elim (h sigma (agrees c sigma a)) [
      | inl t ↦ inl (subst (IsClauseTrue sigma) (sym literals) t)
      | inr t ↦ inr (subst (λ b. b ≡ true) (sym is_true) t)
    ];
  };
  suited = λ c h sigma a. subst (Suits sigma) (sym kept) (h sigma (agrees c sigma a));
}

-- a true literal makes a clause true that has it
pub among_true : (sigma : ℕ → Bool) (l : Literal) (ls : List Literal) → IsAmong l ls → IsLiteralTrue sigma l → IsClauseTrue sigma ls
among_true sigma l [] h t = absurd h
among_true sigma l (m ∷ ls) (inl e) t = inl (subst (IsLiteralTrue sigma) (sym e) t)
among_true sigma l (m ∷ ls) (inr h) t = inr (among_true sigma l ls h t)

-- so it is true of a candidate where the literal is
pub covers_among : (c : Candidate) (s : Drawn) (l : Literal) → IsAmong l s.literals
    → ((sigma : ℕ → Bool) → Agrees sigma c s.keys → IsLiteralTrue sigma l) → Covers c s
covers_among c s l among h = λ sigma a. inl (among_true sigma l s.literals among (h sigma a))

-- a clause with one more literal
module _ (old new : Drawn) (l : Literal) (keys : new.keys ≡ old.keys) (kept : new.kept ≡ old.kept) (is_true : new.is_true ≡ old.is_true)
    (literals : new.literals ≡ old.literals ++ l ∷ []) where
  pub pushed_goes : Goes old new
  pushed_goes = record {
    grows = record {
      agrees = λ c sigma a. subst (Agrees sigma c) keys a;
      covers = λ c h sigma a. elim (h sigma (subst (Agrees sigma c) keys a)) [
        | inl t ↦ inl (subst (IsClauseTrue sigma) (sym literals) (some_front (IsLiteralTrue sigma) old.literals (l ∷ []) t))
        | inr t ↦ inr (subst (λ b. b ≡ true) (sym is_true) t)
      ];
    };
    suited = λ c h sigma a. subst (Suits sigma) (sym kept) (h sigma (subst (Agrees sigma c) keys a));
  }

  pub pushed_covers : (c : Candidate) → ((sigma : ℕ → Bool) → Agrees sigma c old.keys → IsLiteralTrue sigma l) → Covers c new
  pushed_covers c h = λ sigma a. inl (subst (IsClauseTrue sigma) (sym literals)
      (some_back (IsLiteralTrue sigma) old.literals (l ∷ []) (inl (h sigma (subst (Agrees sigma c) keys a)))))

-- a clause that is known to be true
pub settled_goes : (old new : Drawn) → new.keys ≡ old.keys → new.kept ≡ old.kept → new.is_true ≡ true → Goes old new
settled_goes old new keys kept is_true = record {
  grows = record {
    agrees = λ c sigma a. subst (Agrees sigma c) keys a;
    covers = λ c h sigma a. inr is_true;
  };
  suited = λ c h sigma a. subst (Suits sigma) (sym kept) (h sigma (subst (Agrees sigma c) keys a));
}

-- a clause that is given to the solver
pub finished : (old new : Drawn) → new.keys ≡ old.keys → old.is_true ≡ false
    → ((sigma : ℕ → Bool) → Suits sigma old.kept → IsClauseTrue sigma old.literals → Suits sigma new.kept)
    → GoesIf (λ c. Covers c old) old new
finished old new keys unknown added c covers suited = λ sigma agrees.
    let a : Agrees sigma c old.keys = subst (Agrees sigma c) keys agrees in
    elim (covers sigma a) [ inl t ↦ added sigma (suited sigma a) t | inr t ↦ absurd (let e : false ≡ true = sym unknown ∙ t in cc) ]

-- a clause that one literal implies another
module _ (old mid new : Drawn) (v : ℕ) (g : Ground) (no l : Literal) (goes : Goes old mid) (keys : new.keys ≡ mid.keys)
    (variable : no.variable ≡ v) (negative : no.positive ≡ false)
    (means : (c : Candidate) (sigma : ℕ → Bool) → Agrees sigma c mid.keys → ground_true c g ≡ true → IsLiteralTrue sigma l)
    (added : (sigma : ℕ → Bool) → Suits sigma mid.kept → IsClauseTrue sigma (no ∷ l ∷ []) → Suits sigma new.kept) where
  -- it is true
  clause : (c : Candidate) (sigma : ℕ → Bool) → Agrees sigma c mid.keys → (sigma v ≡ true → AllTrue c (g ∷ [])) → IsClauseTrue sigma (no ∷ l ∷ [])
  clause c sigma a implies = by (sigma v) refl
    where
      by : (b : Bool) → sigma v ≡ b → IsClauseTrue sigma (no ∷ l ∷ [])
      by true e = inr (inl (means c sigma a (implies e).0))
      by false e = inl (subst (λ x. sigma x ≡ no.positive) (sym variable) (e ∙ sym negative))

  pub implied_suited : GoesIf (Implies old v (g ∷ [])) old new
  implied_suited c implies suited = λ sigma agrees.
      let a : Agrees sigma c mid.keys = subst (Agrees sigma c) keys agrees in
      added sigma (goes.suited c suited sigma a) (clause c sigma a (implies sigma (goes.grows.agrees c sigma a)))

-- so the clause in the making grows
pub implied_grows : (old mid new : Drawn) → Goes old mid → new.keys ≡ mid.keys → new.literals ≡ mid.literals → new.is_true ≡ mid.is_true → Grows old new
implied_grows old mid new goes keys literals is_true = record {
  agrees = λ c sigma a. goes.grows.agrees c sigma (subst (Agrees sigma c) keys a);
  covers = λ c h sigma a. elim (goes.grows.covers c h sigma (subst (Agrees sigma c) keys a)) [
    | inl t ↦ inl (subst (IsClauseTrue sigma) (sym literals) t)
    | inr t ↦ inr (subst (λ b. b ≡ true) (sym is_true) t)
  ];
}

-- where the variable says that all of the atoms are true
pub all_goes : (old mid new : Drawn) (v : ℕ) (gs : List Ground) → Goes old mid
    → ((c : Candidate) (sigma : ℕ → Bool) → Agrees sigma c mid.keys → sigma v ≡ list_all (ground_true c) gs)
    → Grows mid new → GoesIf (Implies mid v gs) mid new → Goes old new
all_goes old mid new v gs goes means grows suited = record {
  grows = grows_more old mid new goes.grows grows;
  suited = λ c h. suited c (λ sigma a e. true_all c gs (sym (means c sigma a) ∙ e)) (goes.suited c h);
}

-- one more implication
pub implied_next : (first old new : Drawn) (v : ℕ) (gs : List Ground) (i : ℕ) (g : Ground) → slice_get gs i ≡ Some g
    → Grows first old → GoesIf (Implies first v (take i gs)) first old → GoesIf (Implies old v (g ∷ [])) old new
    → GoesIf (Implies first v (take (i + 1) gs)) first new
implied_next first old new v gs i g at grows before here c implies suited =
    let all : (sigma : ℕ → Bool) → Agrees sigma c first.keys → sigma v ≡ true → AllTrue c (take i gs ++ g ∷ [])
    = λ sigma a t. subst (AllTrue c) (take_next gs i g at) (implies sigma a t) in
    here c
    (λ sigma a t. each_back (λ (h : Ground). ground_true c h ≡ true) (take i gs) (g ∷ []) (all sigma (grows.agrees c sigma a) t))
    (before c (λ sigma a t. each_front (λ (h : Ground). ground_true c h ≡ true) (take i gs) (g ∷ []) (all sigma a t)) suited)

-- an earlier fact and a later one give a third, or the clause is true
pub both : {A B C : Type 0} (c : Candidate) (s t : Drawn) → Goes s t → (A → B → C) → A ⊎ Covers c s → B ⊎ Covers c t → C ⊎ Covers c t
both c s t goes f (inl a) (inl b) = inl (f a b)
both c s t goes f (inl a) (inr y) = inr y
both c s t goes f (inr x) b = inr (goes.grows.covers c x)

-- what is so whatever is answered
pub whichever : {X E P : Type 0} (r : Result X E) → P → OnOk r P
whichever (Ok x) p = p
whichever (Err e) p = tt
