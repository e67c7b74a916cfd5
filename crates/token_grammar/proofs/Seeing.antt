-- What a watcher sees of tokens: of two parts of them, in one way, and what it keeps.
use Rattle.std.proofs.Common.{◌≡◌, refl, sym, ◌∙◌, subst, arith, List, [], ◌∷◌, ◌++◌, length}
use Rattle.token_grammar.specs.Watch.{Watcher, Sees, IsDecided}

module _ {P T S F : Type 0} (watcher : Watcher P T S F) where
  -- what is seen of two parts, one after the other, is seen of both
  pub sees_both : (ps qs : List P) (ts us : List T) (before between after : S) → Sees watcher before ps ts between →
      Sees watcher between qs us after → Sees watcher before (ps ++ qs) (ts ++ us) after
  sees_both [] qs [] us before between after first second = subst (λ s. Sees watcher s qs us after) first second
  sees_both [] qs (t ∷ ts) us before between after first second = absurd first
  sees_both (p ∷ ps) qs [] us before between after first second = absurd first
  sees_both (p ∷ ps) qs (t ∷ ts) us before between after (next, sees, first) second =
      (next, sees, sees_both ps qs ts us next between after first second)

  -- what is seen of both is seen of each part
  pub sees_apart : (ps qs : List P) (ts us : List T) (before after : S) → length ps ≡ length ts →
      Sees watcher before (ps ++ qs) (ts ++ us) after → (between : S) × Sees watcher before ps ts between × Sees watcher between qs us after
  sees_apart [] qs [] us before after same seen = (before, refl, seen)
  sees_apart [] qs (t ∷ ts) us before after same seen = absurd (omega arith)
  sees_apart (p ∷ ps) qs [] us before after same seen = absurd (omega arith)
  sees_apart (p ∷ ps) qs (t ∷ ts) us before after same (next, sees, rest) =
      let (between, first, second) = sees_apart ps qs ts us next after (omega arith) rest in
      (between, (next, sees, first), second)

  -- over the same tokens and takers the watcher comes to one state
  pub sees_once : IsDecided watcher → (ps : List P) (ts : List T) (before a b : S) → Sees watcher before ps ts a →
      Sees watcher before ps ts b → a ≡ b
  sees_once decided [] [] before a b first second = first ∙ sym second
  sees_once decided [] (t ∷ ts) before a b first second = absurd first
  sees_once decided (p ∷ ps) [] before a b first second = absurd first
  sees_once decided (p ∷ ps) (t ∷ ts) before a b (x, h, first) (y, k, second) =
      let same = decided.one_state before p t x y h k in
      sees_once decided ps ts y a b (subst (λ s. Sees watcher s ps ts a) same first) second

  -- what holds before the tokens holds after them where it holds after each
  pub sees_keep : (Holds : S → Type 0) →
      ((before after : S) (p : P) (t : T) → watcher.sees before p t after → Holds before → Holds after) →
      (ps : List P) (ts : List T) (before after : S) → Sees watcher before ps ts after → Holds before → Holds after
  sees_keep Holds keeps [] [] before after seen holds = subst Holds (sym seen) holds
  sees_keep Holds keeps [] (t ∷ ts) before after seen holds = absurd seen
  sees_keep Holds keeps (p ∷ ps) [] before after seen holds = absurd seen
  sees_keep Holds keeps (p ∷ ps) (t ∷ ts) before after (between, sees, rest) holds =
      sees_keep Holds keeps ps ts between after rest (keeps before between p t sees holds)
