-- The clauses that constants are in order.
use Rattle.std.proofs.Common.{◌≡◌, ℕ, suc, ◌+◌, ◌-◌, ◌<◌, ◌≤◌, ◌==◌, Bool, true, false, refl, sym, ◌∙◌, subst, arith, eq-eqb}
use Rattle.text_core.proofs.Laws.{number_same}
use Rattle.model_search.specs.Candidates.{Candidate}
use Rattle.model_search.specs.Orders.{IsEarlier, Follows}
use Rattle.model_search.specs.Sheets.{Drawn, Covers, Goes}

-- one more constant for which the clause is true
pub stands_next : (s t : Drawn) (i e : ℕ) → Goes s t → ((c : Candidate) (k : ℕ) → k < i → c.place k ≡ e → Covers c s)
    → ((c : Candidate) → (c.place i == e) ≡ true → Covers c t) → (c : Candidate) (k : ℕ) → k < i + 1 → c.place k ≡ e → Covers c t
stands_next s t i e goes before here c k h stands = by (k == i) refl
  where
    by : (b : Bool) → (k == i) ≡ b → Covers c t
    by true same = here c (eq-eqb (c.place i) e (subst (λ j. c.place j ≡ e) (number_same k i same) stands))
    by false differs = goes.grows.covers c (before c k (let other : k ≡ i → ⊥ = λ e2. (let t2 : true ≡ false = sym (eq-eqb k i e2) ∙ differs in absurd (cc)) in omega (arith, h, other)) stands)

-- the clause is true where the constant follows
pub follows_covers : (s t : Drawn) (k e : ℕ) → 1 ≤ e → Goes s t → ((c : Candidate) → (c.place k == e) ≡ false → Covers c s)
    → ((c : Candidate) (j : ℕ) → j < k → c.place j ≡ e - 1 → Covers c t) → (c : Candidate) → Follows k c → Covers c t
follows_covers s t k e some goes first others c follows = by (c.place k == e) refl
  where
    by : (b : Bool) → (c.place k == e) ≡ b → Covers c t
    by false differs = goes.grows.covers c (first c differs)
    by true same =
        let behind : c.place k ≡ suc (e - 1) = number_same (c.place k) e same ∙ (omega (arith, some)) in
        let h : IsEarlier c k (e - 1) = follows (e - 1) behind in
        others c h.earlier h.before h.stands
