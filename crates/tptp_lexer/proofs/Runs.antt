-- The bytes of a class at a front.
use Rattle.std.proofs.Common.{◌≡◌, ℕ, Bool, true, false, not, [], ◌∷◌, ◌++◌, length, refl, ap, sym, ◌∙◌, arith}
use Rattle.std.specs.List.{list_all, prefix_len}
use Rattle.std.proofs.Math.Bool.{and-false}
use Rattle.text_core.specs.Names.{Text}
use Rattle.text_core.proofs.Laws.{and_both, and_true, not_true}

module _ (p : ℕ → Bool) where
  -- the bytes do not begin with one of the class
  abbrev pub stops : Text → Bool
  stops [] = true
  stops (b ∷ bs) = not (p b)

  -- the bytes are these of the class, as many as counted, and a rest that does not begin with one
  pub record Run (bs : Text) : Type 0 where
    pub run : Text
    pub rest : Text
    pub split : bs ≡ run ++ rest
    pub all : list_all p run ≡ true
    pub count : prefix_len p bs ≡ length run
    pub stopped : stops rest ≡ true

  -- any bytes are such a run and a rest
  pub run_of : (bs : Text) → Run bs
  run_of [] = record { run = []; rest = []; split = refl; all = refl; count = refl; stopped = refl }
  run_of (b ∷ bs) = go (p b) refl (run_of bs)
    where
      go : (t : Bool) → p b ≡ t → Run bs → Run (b ∷ bs)
      go true e r = record { run = b ∷ r.run; rest = r.rest; split = ap (λ (xs : Text). b ∷ xs) r.split; all = and_true (p b) (list_all p r.run) e r.all; count = rw (e, r.count) (omega arith); stopped = r.stopped }
      go false e r = record { run = []; rest = b ∷ bs; split = refl; all = refl; count = rw e; stopped = rw e }

  -- the class ends where another byte is
  pub broken : (run : Text) (b : ℕ) (more : Text) → p b ≡ false → list_all p (run ++ b ∷ more) ≡ false
  broken [] b more e = rw e
  broken (c ∷ cs) b more e = rw (broken cs b more e) (and-false (p c))

  -- a rest that does not begin with one of the class begins with another byte
  pub stopped_at : (rest : Text) (b : ℕ) (more : Text) → rest ≡ b ∷ more → stops rest ≡ true → p b ≡ false
  stopped_at [] b more e s = absurd (cc)
  stopped_at (c ∷ cs) b more e s = let same : c ≡ b = cc in ap p (sym same) ∙ not_true (p c) s

  -- how many of the class a run has, where its rest does not go on
  pub counted : (run rest : Text) → list_all p run ≡ true → stops rest ≡ true → prefix_len p (run ++ rest) ≡ length run
  counted [] [] a s = refl
  counted [] (c ∷ cs) a s = rw (stopped_at (c ∷ cs) c cs refl s)
  counted (b ∷ bs) rest a s = rw ((and_both (p b) (list_all p bs) a).0, counted bs rest (and_both (p b) (list_all p bs) a).1 s) (omega arith)
