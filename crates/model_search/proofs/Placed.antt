-- Constants stand for one element each.
use Rattle.std.proofs.Common.{◌≡◌, ℕ, ◌+◌, ◌<◌, ◌==◌, Bool, true, false, ◌⊎◌, inl, inr, refl, arith}
use Rattle.model_search.specs.Candidates.{Candidate}
use Rattle.model_search.specs.Sheets.{Drawn, Covers, Goes}
use Rattle.model_search.proofs.Keys.{placed_or}

-- a constant that stands for one of the first elements, and one more
pub some_next : (c : Candidate) (k e : ℕ) (s t : Drawn) → Goes s t → (c.place k < e → Covers c s) → ((c.place k == e) ≡ true → Covers c t)
    → c.place k < e + 1 → Covers c t
some_next c k e s t goes before here less = by (c.place k == e) refl
  where
    by : (b : Bool) → (c.place k == e) ≡ b → Covers c t
    by true same = here same
    by false other = goes.grows.covers c (before (let below : c.place k < e = grind (arith, other) in below))

-- a constant does not stand for two elements
pub not_two : (c : Candidate) (k one two : ℕ) (s t : Drawn) → one < two → Goes s t → ((c.place k == one) ≡ false → Covers c s)
    → ((c.place k == two) ≡ false → Covers c t) → Covers c t
not_two c k one two s t less goes first second = by (placed_or c s k one first) (placed_or c t k two second)
  where
    by : (c.place k ≡ one) ⊎ Covers c s → (c.place k ≡ two) ⊎ Covers c t → Covers c t
    by (inr covers) other = goes.grows.covers c covers
    by (inl e) (inr covers) = covers
    by (inl e) (inl f) = absurd (omega arith)
