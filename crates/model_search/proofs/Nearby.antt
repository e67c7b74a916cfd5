-- For each candidate there is one that suits the same rules, in which witnesses are near.
use Rattle.std.proofs.Common.{◌≡◌, ℕ, zero, suc, ◌+◌, ◌<◌, ◌≤◌, ◌⊎◌, inl, inr, Bool, true, false, List, [], ◌∷◌, ◌++◌, map, length, refl, sym, ◌∙◌, ap, subst, arith, append_assoc}
use Rattle.std.specs.Prelude.{nat_lt, max, slice_index}
use Rattle.std.specs.List.{AllByRecursion}
use Rattle.std.proofs.lemmas.Bool.{ltb-true}
use Rattle.text_core.proofs.Laws.{each_map, each_append, each_both, each_index, some_both}
use Rattle.logic_core.specs.Forms.{slot_value, SlotIsBelow, AtomIsBelow, IsWellFormed, AtomTrue, ConclusionTrue}
use Rattle.logic_core.specs.declared.form.Atom.{Atom}
use Rattle.logic_core.specs.declared.form.Form.{Form}
use Rattle.logic_core.specs.declared.form.Slot.{Slot}
use Rattle.logic_core.specs.declared.form.Slot.TheVariants.{Variable, Constant}
use Rattle.model_search.specs.Candidates.{Candidate, world, holds_in}
use Rattle.model_search.specs.Nearness.{AreNear, NearTrue, IsSame, NearSuited, IsNearFair, IsRuled}
use Rattle.model_search.specs.Orders.{IsOrdered, AreFormedRules, IsFair}
use Rattle.model_search.specs.Rules.{SomeTrue, IsPlacedBelow, SuitsRules}
use Rattle.model_search.specs.Sheets.{Drawn, IsSuited, GoesIf}
use Rattle.model_search.specs.declared.rule.Rule.{Rule}
use Rattle.model_search.proofs.Images.{image, suits_image, some_image, map_length, length_both}
use Rattle.model_search.proofs.Swapped.{exchanged, exchanged_first, exchanged_other, exchanged_twice, exchanged_within}
use Rattle.model_search.proofs.Ordered.{arranged}

-- premises are true, or they are not
premises_decided : (P : Atom → Bool) (positive : Atom → Bool) (atoms : List Atom)
    → AllByRecursion (λ atom. P atom ≡ positive atom) atoms ⊎ (AllByRecursion (λ atom. P atom ≡ positive atom) atoms → ⊥)
premises_decided P positive [] = inl tt
premises_decided P positive (atom ∷ atoms) = by (P atom) (positive atom) refl refl (premises_decided P positive atoms)
  where
    by : (a b : Bool) → P atom ≡ a → positive atom ≡ b
        → AllByRecursion (λ x. P x ≡ positive x) atoms ⊎ (AllByRecursion (λ x. P x ≡ positive x) atoms → ⊥)
        → AllByRecursion (λ x. P x ≡ positive x) (atom ∷ atoms) ⊎ (AllByRecursion (λ x. P x ≡ positive x) (atom ∷ atoms) → ⊥)
    by true true e g (inl rest) = inl (e ∙ sym g, rest)
    by false false e g (inl rest) = inl (e ∙ sym g, rest)
    by true false e g rest = inr (λ h. let t : true ≡ false = sym e ∙ h.0 ∙ g in absurd (cc))
    by false true e g rest = inr (λ h. let t : false ≡ true = sym e ∙ h.0 ∙ g in absurd (cc))
    by a b e g (inr none) = inr (λ h. none h.1)

same_self : (count near : ℕ) (c : Candidate) → IsSame count near c c
same_self count near c = record { places = λ k h. refl; facts = λ n xs h. refl }

same_back : (count near : ℕ) (c d : Candidate) → IsSame count near c d → IsSame count near d c
same_back count near c d same = record {
  places = λ k h. sym (same.places k h);
  facts = λ n xs h. sym (same.facts n xs h);
}

same_more : (count near : ℕ) (a b c : Candidate) → IsSame count near a b → IsSame count near b c → IsSame count near a c
same_more count near a b c first second = record {
  places = λ k h. first.places k h ∙ second.places k h;
  facts = λ n xs h. first.facts n xs h ∙ second.facts n xs h;
}

-- at fewer elements
same_fewer : (count near more : ℕ) → near ≤ more → (c d : Candidate) → IsSame count more c d → IsSame count near c d
same_fewer count near more few c d same = record {
  places = same.places;
  facts = λ n xs below. same.facts n xs (each_map (λ x low. omega (arith, low, few)) xs below);
}

-- an atom without constants has the same truth at these elements
module _ (count near : ℕ) (c d : Candidate) (same : IsSame count near c d) (values : List ℕ) (low : AllByRecursion (λ x. x < near) values) where
  holds_same : (symbol : ℕ) (xs : List ℕ) → AllByRecursion (λ x. x < near) xs → holds_in c symbol xs ≡ holds_in d symbol xs
  holds_same zero xs h = refl
  holds_same (suc n) xs h = same.facts n xs h

  slots_same : (slots : List Slot) → AllByRecursion (SlotIsBelow (length values) 0) slots
      → map (slot_value (world c) values) slots ≡ map (slot_value (world d) values) slots
  slots_same [] below = refl
  slots_same (Variable v ∷ slots) below = ap (λ (xs : List ℕ). slice_index values v ∷ xs) (slots_same slots below.1)
  slots_same (Constant k ∷ slots) below = absurd (let none : k < 0 = below.0 in omega (arith, none))

  slots_low : (slots : List Slot) → AllByRecursion (SlotIsBelow (length values) 0) slots
      → AllByRecursion (λ x. x < near) (map (slot_value (world c) values) slots)
  slots_low [] below = tt
  slots_low (Variable v ∷ slots) below = (each_index (λ x. x < near) values v below.0 low, slots_low slots below.1)
  slots_low (Constant k ∷ slots) below = absurd (let none : k < 0 = below.0 in omega (arith, none))

  atom_same : (n : ℕ) → length values ≡ n → (atom : Atom) → AtomIsBelow n 0 atom → AtomTrue (world c) values atom → AtomTrue (world d) values atom
  atom_same n size atom is_below h =
      let below = subst (λ m. AtomIsBelow m 0 atom) (sym size) is_below in
      sym (holds_same atom.symbol (map (slot_value (world c) values) atom.args) (slots_low atom.args below)
      ∙ ap (holds_in d atom.symbol) (slots_same atom.args below)) ∙ h

  some_same : (n : ℕ) → length values ≡ n → (disjuncts : List (List Atom)) → AllByRecursion (AllByRecursion (AtomIsBelow n 0)) disjuncts
      → SomeTrue c values disjuncts → SomeTrue d values disjuncts
  some_same n size disjuncts below h = some_both (λ atoms low truth. each_both (atom_same n size) atoms low truth) disjuncts below h

-- the images of elements that stay
images_stay : (f : ℕ → ℕ) (near : ℕ) → ((x : ℕ) → x < near → f x ≡ x) → (xs : List ℕ) → AllByRecursion (λ x. x < near) xs → xs ≡ map f xs
images_stay f near stays [] low = refl
images_stay f near stays (x ∷ xs) low = (λ i. sym (stays x low.0) i ∷ images_stay f near stays xs low.1 i)

images_both : (f : ℕ → ℕ) (xs ys : List ℕ) → map f (xs ++ ys) ≡ map f xs ++ map f ys
images_both f [] ys = refl
images_both f (x ∷ xs) ys = ap (λ (zs : List ℕ). f x ∷ zs) (images_both f xs ys)

images_within : (f : ℕ → ℕ) (size : ℕ) → ((x : ℕ) → x < size → f x < size) → (xs : List ℕ) → AllByRecursion (λ x. x < size) xs
    → AllByRecursion (λ x. x < size) (map f xs)
images_within f size within [] h = tt
images_within f size within (x ∷ xs) h = (within x h.0, images_within f size within xs h.1)

module _ (size count : ℕ) (rules : List Rule) (formed : AreFormedRules count rules) (disjuncts : List (List Atom)) where
  -- a candidate in which the witnesses are near
  record Walked (near : ℕ) (front : List ℕ) (n : ℕ) (c : Candidate) : Type 0 where
    pub candidate : Candidate
    pub suits : SuitsRules size rules candidate
    pub same : IsSame count near c candidate
    pub witnesses : List ℕ
    pub length_is : length witnesses ≡ n
    pub below : AllByRecursion (λ x. x < size) witnesses
    pub within : AllByRecursion (λ x. x < near + n) witnesses
    pub are_near : AreNear near witnesses
    pub holds : SomeTrue candidate (front ++ witnesses) disjuncts

  -- one with so many witnesses behind a front
  record Walks (near : ℕ) (front rest : List ℕ) (c : Candidate) : Type 0 where
    pub suits : SuitsRules size rules c
    pub places : (k : ℕ) → k < count → c.place k < near
    pub low : AllByRecursion (λ x. x < near) front
    pub below : AllByRecursion (λ x. x < size) rest
    pub closed : AllByRecursion (AllByRecursion (AtomIsBelow (length (front ++ rest)) 0)) disjuncts
    pub holds : SomeTrue c (front ++ rest) disjuncts

  abbrev CanWalk : ℕ → Type 0
  CanWalk n = (near : ℕ) (front rest : List ℕ) (c : Candidate) → length rest ≡ n → Walks near front rest c → Walked near front n c

  walk_end : CanWalk zero
  walk_end near front [] c length_is h = record {
    candidate = c;
    suits = h.suits;
    same = same_self count near c;
    witnesses = [];
    length_is = refl;
    below = tt;
    within = tt;
    are_near = tt;
    holds = h.holds;
  }
  walk_end near front (x ∷ rest) c length_is h = absurd (omega (arith, length_is))

  -- a witness that is one of the first elements stays
  walk_stay : (n : ℕ) → CanWalk n → (near : ℕ) (front : List ℕ) (e : ℕ) (rest : List ℕ) (c : Candidate) → length rest ≡ n
      → Walks near front (e ∷ rest) c → e < near → Walked near front (suc n) c
  walk_stay n walk near front e rest c length_is h old =
      let one : front ++ e ∷ rest ≡ (front ++ e ∷ []) ++ rest = sym (append_assoc front (e ∷ []) rest) in
      let w : Walked near (front ++ e ∷ []) n c = walk near (front ++ e ∷ []) rest c length_is (record {
        suits = h.suits;
        places = h.places;
        low = each_append (λ x. x < near) front (e ∷ []) h.low (old, tt);
        below = h.below.1;
        closed = subst (λ xs. AllByRecursion (AllByRecursion (AtomIsBelow (length xs) 0)) disjuncts) one h.closed;
        holds = subst (λ xs. SomeTrue c xs disjuncts) one h.holds;
      }) in
      let count_is = w.length_is in record {
        candidate = w.candidate;
        suits = w.suits;
        same = w.same;
        witnesses = e ∷ w.witnesses;
        length_is = omega (arith, count_is);
        below = (h.below.0, w.below);
        within = (omega (arith, old), each_map (λ x low. omega (arith, low)) w.witnesses w.within);
        are_near = (omega (arith, old), subst (λ m. AreNear m w.witnesses) (let same : near ≡ max near (e + 1) = omega (arith, old) in same) w.are_near);
        holds = subst (λ xs. SomeTrue w.candidate xs disjuncts) (append_assoc front (e ∷ []) w.witnesses) w.holds;
      }

  -- another one is exchanged with the next element
  walk_move : (n : ℕ) → CanWalk n → (near : ℕ) (front : List ℕ) (e : ℕ) (rest : List ℕ) (c : Candidate) → length rest ≡ n
      → Walks near front (e ∷ rest) c → near ≤ e → Walked near front (suc n) c
  walk_move n walk near front e rest c length_is h new =
      let f : ℕ → ℕ = exchanged e near in
      let inside : e < size = h.below.0 in
      let size_is = h.suits.below.size_is in
      let d : Candidate = image f (exchanged_twice e near) c in
      let stays : (x : ℕ) → x < near → f x ≡ x = λ x low. exchanged_other e near x (λ q. absurd (omega (arith, low, q, new))) (λ q. absurd (omega (arith, low, q))) in
      let within : (x : ℕ) → x < size → f x < size = λ x low. exchanged_within e near size x inside (omega (arith, inside, new)) low in
      let same : IsSame count near c d = record {
        places = λ k low. sym (stays (c.place k) (h.places k low));
        facts = λ n xs low. ap (c.holds n) (images_stay f near stays xs low);
      } in
      let moved : map f (front ++ e ∷ rest) ≡ (front ++ near ∷ []) ++ map f rest =
      images_both f front (e ∷ rest)
      ∙ (λ i. sym (images_stay f near stays front h.low) i ++ exchanged_first e near i ∷ map f rest)
      ∙ sym (append_assoc front (near ∷ []) (map f rest)) in
      let lengths : length (front ++ e ∷ rest) ≡ length ((front ++ near ∷ []) ++ map f rest) =
      sym (map_length f (front ++ e ∷ rest)) ∙ ap (λ (xs : List ℕ). length xs) moved in
      let w : Walked (near + 1) (front ++ near ∷ []) n d = walk (near + 1) (front ++ near ∷ []) (map f rest) d (map_length f rest ∙ length_is) (record {
        suits = suits_image f (exchanged_twice e near) c
            (λ x low. subst (λ m. f x < m) (sym size_is) (within x (subst (λ m. x < m) size_is low))) size count rules formed h.suits;
        places = λ k low. subst (λ x. x < near + 1) (same.places k low) (let p = h.places k low in omega (arith, p));
        low = each_append (λ x. x < near + 1) front (near ∷ []) (each_map (λ x low. omega (arith, low)) front h.low) (omega arith, tt);
        below = images_within f size within rest h.below.1;
        closed = subst (λ m. AllByRecursion (AllByRecursion (AtomIsBelow m 0)) disjuncts) lengths h.closed;
        holds = subst (λ xs. SomeTrue d xs disjuncts) moved (some_image f (exchanged_twice e near) c 0 (front ++ e ∷ rest) disjuncts h.closed h.holds);
      }) in
      let count_is = w.length_is in record {
        candidate = w.candidate;
        suits = w.suits;
        same = same_more count near c d w.candidate same (same_fewer count near (near + 1) (omega arith) d w.candidate w.same);
        witnesses = near ∷ w.witnesses;
        length_is = omega (arith, count_is);
        below = (omega (arith, inside, new), w.below);
        within = (omega arith, each_map (λ x low. omega (arith, low)) w.witnesses w.within);
        are_near = (omega arith, subst (λ m. AreNear m w.witnesses) (let same : near + 1 ≡ max near (near + 1) = omega arith in same) w.are_near);
        holds = subst (λ xs. SomeTrue w.candidate xs disjuncts) (append_assoc front (near ∷ []) w.witnesses) w.holds;
      }

  walk_next : (n : ℕ) → CanWalk n → CanWalk (suc n)
  walk_next n walk near front [] c length_is h = absurd (omega (arith, length_is))
  walk_next n walk near front (e ∷ rest) c length_is h = by (nat_lt e near) refl
    where
      by : (b : Bool) → nat_lt e near ≡ b → Walked near front (suc n) c
      by true old = walk_stay n walk near front e rest c (omega (arith, length_is)) h (ltb-true e near old)
      by false new = walk_move n walk near front e rest c (omega (arith, length_is)) h (grind (arith, new))

  walk : (n : ℕ) → CanWalk n
  walk zero = walk_end
  walk (suc n) = walk_next n (walk n)

-- where constants are in order, they stand for the first elements
pub ordered_near : (size count : ℕ) (rules : List Rule) → AreFormedRules count rules → (s t : Drawn) → ((c : Candidate) → IsPlacedBelow size c → IsSuited c s)
    → GoesIf (IsOrdered count) s t → IsNearFair size rules count count t
ordered_near size count rules formed s t all goes c suits = let a = arranged size count rules formed c suits count in record {
  candidate = a.candidate;
  suits = a.suits;
  places = λ k h. let low = a.below k h in let few = a.few in omega (arith, low, few);
  suited = λ d below same. goes d
      (λ k h element e. let old = a.ordered k h element (same.places k h ∙ e) in record {
        earlier = old.earlier;
        before = old.before;
        stands = sym (same.places old.earlier (let b = old.before in omega (arith, b, h))) ∙ old.stands;
      })
      (all d below);
}

-- more elements are first ones
pub near_more : (size : ℕ) (rules : List Rule) (count near more : ℕ) (s : Drawn) → near ≤ more → IsNearFair size rules count near s
    → IsNearFair size rules count more s
near_more size rules count near more s few fair c suits = let h = fair c suits in record {
  candidate = h.candidate;
  suits = h.suits;
  places = λ k low. let p = h.places k low in omega (arith, p, few);
  suited = λ d below same. h.suited d below (same_fewer count near more few h.candidate d same);
}

-- the clauses are true of one of them
pub near_fair : (size : ℕ) (rules : List Rule) (count near : ℕ) (s : Drawn) → IsNearFair size rules count near s → IsFair size rules s
near_fair size rules count near s fair c suits = let h = fair c suits in record {
  candidate = h.candidate;
  suits = h.suits;
  suited = h.suited h.candidate h.suits.below (same_self count near h.candidate);
}

module _ (size count near : ℕ) (rules : List Rule) (formed : AreFormedRules count rules) (form : Form) (ruled : IsRuled size rules form)
    (well : IsWellFormed 0 form) (values : List ℕ) (length_is : length values ≡ form.universals) (low : AllByRecursion (λ x. x < near) values)
    (below : AllByRecursion (λ x. x < size) values) (s t : Drawn) (goes : GoesIf (NearTrue size near form values) s t) where
  -- where the premises are true
  near_true : (h : NearSuited size rules count near s) → AllByRecursion (AtomTrue (world h.candidate) values) form.premises
      → NearSuited size rules count (near + form.existentials) t
  near_true h premises =
      let c = h.candidate in
      let is = h.suits.below.size_is in
      let conclusion : ConclusionTrue (world c) form values = ruled c h.suits values
      (record { length_is = length_is; are = subst (λ n. AllByRecursion (λ x. x < n) values) (sym is) below }) premises in
      let es = conclusion.existentials in
      let lengths : length (values ++ es) ≡ form.universals + form.existentials =
      length_both values es ∙ (λ i. length_is i + conclusion.values.length_is i) in
      let w = walk size count rules formed form.disjuncts form.existentials near values es c conclusion.values.length_is (record {
        suits = h.suits;
        places = h.places;
        low = low;
        below = subst (λ n. AllByRecursion (λ x. x < n) es) is conclusion.values.are;
        closed = subst (λ n. AllByRecursion (AllByRecursion (AtomIsBelow n 0)) form.disjuncts) (sym lengths) well.disjuncts;
        holds = conclusion.holds;
      }) in
      let more = near + form.existentials in
      let found : length (values ++ w.witnesses) ≡ form.universals + form.existentials =
      length_both values w.witnesses ∙ (λ i. length_is i + w.length_is i) in
      let first : AllByRecursion (λ x. x < more) (values ++ w.witnesses) =
      each_append (λ x. x < more) values w.witnesses (each_map (λ x l. omega (arith, l)) values low) w.within in
      record {
        candidate = w.candidate;
        suits = w.suits;
        places = λ k l. subst (λ x. x < more) (w.same.places k l) (let p = h.places k l in omega (arith, p));
        suited = λ d placed same. goes d
            (λ truth. record {
              witnesses = w.witnesses;
              count = w.length_is;
              below = w.below;
              are_near = w.are_near;
              holds = some_same count more w.candidate d same (values ++ w.witnesses) first (form.universals + form.existentials) found
                  form.disjuncts well.disjuncts w.holds;
            })
            (h.suited d placed (same_more count near c w.candidate d w.same (same_fewer count near more (omega arith) w.candidate d same)));
      }

  -- where they are not
  near_false : (h : NearSuited size rules count near s) → (AllByRecursion (AtomTrue (world h.candidate) values) form.premises → ⊥)
      → NearSuited size rules count (near + form.existentials) t
  near_false h none =
      let c = h.candidate in
      let more = near + form.existentials in record {
        candidate = c;
        suits = h.suits;
        places = λ k l. let p = h.places k l in omega (arith, p);
        suited = λ d placed same. let same_near = same_fewer count near more (omega arith) c d same in goes d
            (λ truth. absurd (none (each_both (atom_same count near d c (same_back count near c d same_near) values low form.universals length_is)
            form.premises well.premises truth)))
            (h.suited d placed same_near);
      }

  -- one more clause
  pub near_next : IsNearFair size rules count near s → IsNearFair size rules count (near + form.existentials) t
  near_next fair c suits = let h = fair c suits in
      elim (premises_decided (λ atom. holds_in h.candidate atom.symbol (map (slot_value (world h.candidate) values) atom.args)) (λ atom. atom.positive) form.premises) [
        | inl holds ↦ near_true h holds
        | inr none ↦ near_false h none
      ]
