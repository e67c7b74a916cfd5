-- What an instance at values and places says of a candidate.
use Rattle.std.proofs.Common.{◌≡◌, ℕ, ◌+◌, ◌<◌, ◌≤◌, ◌==◌, ◌⊎◌, inl, inr, true, false, List, [], ◌∷◌, ◌++◌, map, length, take, refl, sym, ◌∙◌, ap, subst, Some}
use Rattle.std.specs.Prelude.{slice_get, slice_index_or}
use Rattle.std.proofs.lemmas.Option.{slice_get-get_or}
use Rattle.std.specs.List.{AllByRecursion}
use Rattle.text_core.proofs.Laws.{take_next, take_all, each_append}
use Rattle.logic_core.specs.Forms.{AtomTrue, slot_value}
use Rattle.logic_core.specs.declared.form.Atom.{Atom}
use Rattle.logic_core.specs.declared.form.Slot.{Slot}
use Rattle.logic_core.specs.declared.form.Slot.TheVariants.{Constant}
use Rattle.model_search.specs.Candidates.{Candidate, world, holds_in}
use Rattle.model_search.specs.Keys.{ground_true}
use Rattle.model_search.specs.Rules.{Means}
use Rattle.model_search.specs.Sheets.{Drawn, Covers, Goes}
use Rattle.model_search.specs.declared.key.Ground.{Ground}
use Rattle.model_search.proofs.Keys.{same_true, same_back, placed_or}
use Rattle.model_search.proofs.Sheets.{both, item_at}

-- one more image
mapped_next : {X Y : Type 0} (f : X → Y) (xs : List X) (i : ℕ) (x : X) (ys : List Y) (y : Y) → slice_get xs i ≡ Some x
    → map f (take i xs) ≡ ys → f x ≡ y → map f (take (i + 1) xs) ≡ ys ++ y ∷ []
mapped_next {X = X} {Y = Y} f xs i x ys y at before here =
    ap (map f) (take_next xs i x at) ∙ map_append (take i xs) ∙ (λ j. before j ++ here j ∷ [])
  where
    map_append : (zs : List X) → map f (zs ++ x ∷ []) ≡ map f zs ++ f x ∷ []
    map_append [] = refl
    map_append (z ∷ zs) = ap (λ (ws : List Y). f z ∷ ws) (map_append zs)

-- an atom at the elements of its slots
means_of : (c : Candidate) (values : List ℕ) (atom : Atom) (g : Ground) → g.symbol ≡ atom.symbol → g.positive ≡ atom.positive
    → map (slot_value (world c) values) atom.args ≡ g.elements → Means c values atom g
means_of c values atom g symbol positive elements =
    let same : holds_in c g.symbol g.elements ≡ holds_in c atom.symbol (map (slot_value (world c) values) atom.args)
    = (λ j. holds_in c (symbol j) (sym elements j)) in record {
      there = λ h. same_true (holds_in c g.symbol g.elements) g.positive (same ∙ h ∙ sym positive);
      back = λ h. sym same ∙ same_back (holds_in c g.symbol g.elements) g.positive h ∙ positive;
    }

-- an atom that is decided
pub decided_true : (c : Candidate) (values : List ℕ) (atom : Atom) (g : Ground) (s : Drawn) → ground_true c g ≡ true
    → Means c values atom g ⊎ Covers c s → AtomTrue (world c) values atom ⊎ Covers c s
decided_true c values atom g s e (inl means) = inl (means.back e)
decided_true c values atom g s e (inr covers) = inr covers

-- an atom whose opposite is a literal
pub opposed : (c : Candidate) (values : List ℕ) (atom : Atom) (g : Ground) (s t : Drawn) → Goes s t → Means c values atom g ⊎ Covers c s
    → (ground_true c g ≡ true) ⊎ Covers c t → AtomTrue (world c) values atom ⊎ Covers c t
opposed c values atom g s t goes (inl means) (inl e) = inl (means.back e)
opposed c values atom g s t goes (inl means) (inr covers) = inr covers
opposed c values atom g s t goes (inr covers) e = inr (goes.grows.covers c covers)

-- one more slot that has an element, or the clause is true
pub elements_next : (c : Candidate) (values : List ℕ) (slots shown : List Slot) (i : ℕ) (d : Slot) (xs new : List ℕ) (e : ℕ) (s t : Drawn)
    → shown ≡ slots → i < length shown → new ≡ xs ++ e ∷ [] → Goes s t → (map (slot_value (world c) values) (take i slots) ≡ xs) ⊎ Covers c s
    → (slot_value (world c) values (slice_index_or shown i d) ≡ e) ⊎ Covers c t
    → (map (slot_value (world c) values) (take (i + 1) slots) ≡ new) ⊎ Covers c t
elements_next c values slots shown i d xs new e s t same below is goes before here =
    let at : slice_get slots i ≡ Some (slice_index_or shown i d) = subst (λ ys. slice_get ys i ≡ Some (slice_index_or shown i d)) same (slice_get-get_or shown i d below) in
    both c s t goes (λ a b. mapped_next (slot_value (world c) values) slots i (slice_index_or shown i d) xs e at a b ∙ sym is) before here

-- all slots have elements, or the clause is true
pub means_or : (c : Candidate) (values : List ℕ) (atom : Atom) (g : Ground) (i : ℕ) (s : Drawn) → length atom.args ≤ i → g.symbol ≡ atom.symbol
    → g.positive ≡ atom.positive → (map (slot_value (world c) values) (take i atom.args) ≡ g.elements) ⊎ Covers c s → Means c values atom g ⊎ Covers c s
means_or c values atom g i s all symbol positive (inl e) =
    inl (means_of c values atom g symbol positive (ap (map (slot_value (world c) values)) (sym (take_all atom.args i all)) ∙ e))
means_or c values atom g i s all symbol positive (inr covers) = inr covers

-- a constant stands for an element, or the clause is true
pub placed_slot : (c : Candidate) (values : List ℕ) (s : Drawn) (slot : Slot) (k e : ℕ) → slot ≡ Constant k → ((c.place k == e) ≡ false → Covers c s)
    → (slot_value (world c) values slot ≡ e) ⊎ Covers c s
placed_slot c values s slot k e is h = subst (λ x. (slot_value (world c) values x ≡ e) ⊎ Covers c s) (sym is) (placed_or c s k e h)

-- one more member
each_next : {X : Type 0} (P : X → Type 0) (xs : List X) (i : ℕ) (x : X) → i < length xs → x ≡ slice_index_or xs i x
    → AllByRecursion P (take i xs) → P x → AllByRecursion P (take (i + 1) xs)
each_next P xs i x below at before here =
    subst (AllByRecursion P) (sym (take_next xs i x (item_at xs i x below at))) (each_append P (take i xs) (x ∷ []) before (here, tt))

-- one more premise that is true, or the clause is
pub premises_next : (c : Candidate) (values : List ℕ) (atoms : List Atom) (i : ℕ) (atom : Atom) (s t : Drawn) → i < length atoms
    → atom ≡ slice_index_or atoms i atom → Goes s t → AllByRecursion (AtomTrue (world c) values) (take i atoms) ⊎ Covers c s
    → AtomTrue (world c) values atom ⊎ Covers c t → AllByRecursion (AtomTrue (world c) values) (take (i + 1) atoms) ⊎ Covers c t
premises_next c values atoms i atom s t below at goes before here =
    both c s t goes (λ a b. each_next (AtomTrue (world c) values) atoms i atom below at a b) before here

-- all premises are true, or the clause is
pub premises_all : (c : Candidate) (values : List ℕ) (atoms : List Atom) (i : ℕ) (s : Drawn) → length atoms ≤ i
    → AllByRecursion (AtomTrue (world c) values) (take i atoms) ⊎ Covers c s → AllByRecursion (AtomTrue (world c) values) atoms ⊎ Covers c s
premises_all c values atoms i s all h = subst (λ xs. AllByRecursion (AtomTrue (world c) values) xs ⊎ Covers c s) (take_all atoms i all) h
