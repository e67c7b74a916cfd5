-- What alternatives, conclusions and forms mean where some variables have values already, and what joining them means.
use Rattle.std.proofs.Common.{◌≡◌, ℕ, suc, zero, ◌+◌, ◌-◌, ◌≤◌, ◌<◌, ◌⊎◌, inl, inr, Bool, true, false, nat_le, if◌then◌else◌, List, [], ◌∷◌, ◌++◌, map, length, slice_index, refl, ap, sym, ◌∙◌, subst, arith, append_assoc, length-append}
use Rattle.std.proofs.lemmas.List.{append-nil, get_or_append_left, get_or-append_right}
use Rattle.std.proofs.lemmas.Bool.Decides.{nat_tests}
use Rattle.std.specs.List.{AllByRecursion}
use Rattle.text_core.specs.Lists.{SomeOf}
use Rattle.text_core.proofs.Laws.{each_append, each_front, each_back, some_front, some_back, some_append}
use Rattle.logic_core.specs.Forms.{Interpretation, SlotIsBelow, AtomIsBelow, AtomTrue, AreElements, ConclusionTrue, slot_value}
use Rattle.logic_core.specs.declared.form.Slot.{Slot}
use Rattle.logic_core.specs.declared.form.Slot.TheVariants as slot
use Rattle.logic_core.specs.declared.form.Atom.{Atom}
use Rattle.logic_core.specs.declared.form.Form.{Form}
use Rattle.coherent_form.specs.Reading.{slot_moved, atom_moved, alternative_joined, alternatives_joined, alternative_bound, head_joined, head_bound, form_of_head, form_bound, form_guarded, forms_guarded}
use Rattle.coherent_form.specs.declared.alternative.Alternative.{Alternative}
use Rattle.coherent_form.specs.declared.alternative.Head.{Head}
use Rattle.coherent_form.proofs.Below.{each_image}
use Rattle.coherent_form.proofs.Values.{no_elements, none_of, elements_joined, elements_apart}

-- two statements that follow from each other
abbrev pub Same : Type 0 → Type 0 → Type 0
Same P Q = (P → Q) × (Q → P)

-- each member has P where each image has Q
pub each_of_image : {X Y : Type 0} (P : X → Type 0) (Q : Y → Type 0) (f : X → Y) → ((x : X) → Q (f x) → P x) → (xs : List X)
    → AllByRecursion Q (map f xs) → AllByRecursion P xs
each_of_image P Q f g [] h = tt
each_of_image P Q f g (x ∷ xs) h = (g x h.0, each_of_image P Q f g xs h.1)

-- some image has Q where some member has P
pub some_image : {X Y : Type 0} {P : X → Type 0} (Q : Y → Type 0) (f : X → Y) → ((x : X) → P x → Q (f x)) → (xs : List X)
    → SomeOf P xs → SomeOf Q (map f xs)
some_image Q f g [] h = h
some_image Q f g (x ∷ xs) (inl h) = inl (g x h)
some_image Q f g (x ∷ xs) (inr h) = inr (some_image Q f g xs h)

-- and the other way round
pub some_of_image : {X Y : Type 0} (P : X → Type 0) (Q : Y → Type 0) (f : X → Y) → ((x : X) → Q (f x) → P x) → (xs : List X)
    → SomeOf Q (map f xs) → SomeOf P xs
some_of_image P Q f g [] h = h
some_of_image P Q f g (x ∷ xs) (inl h) = inl (g x h)
some_of_image P Q f g (x ∷ xs) (inr h) = inr (some_of_image P Q f g xs h)

-- some member has what follows for each member that has P
pub some_that : {X : Type 0} {P : X → Type 0} (Q : X → Type 0) → ((x : X) → P x → Q x) → (xs : List X) → SomeOf P xs → SomeOf Q xs
some_that Q g [] h = h
some_that Q g (x ∷ xs) (inl h) = inl (g x h)
some_that Q g (x ∷ xs) (inr h) = inr (some_that Q g xs h)

-- some member has P and something follows from each
pub some_gives : {X : Type 0} {P : X → Type 0} (R : Type 0) → ((x : X) → P x → R) → (xs : List X) → SomeOf P xs → R
some_gives R g [] h = absurd h
some_gives R g (x ∷ xs) (inl h) = g x h
some_gives R g (x ∷ xs) (inr h) = some_gives R g xs h

-- where each member has P, and some has Q, that one has both
pub some_also : {X : Type 0} {P Q : X → Type 0} (R : X → Type 0) → ((x : X) → P x → Q x → R x) → (xs : List X)
    → AllByRecursion P xs → SomeOf Q xs → SomeOf R xs
some_also R g [] p h = h
some_also R g (x ∷ xs) p (inl h) = inl (g x p.0 h)
some_also R g (x ∷ xs) p (inr h) = inr (some_also R g xs p.1 h)

-- values in front, values that are put between, and values behind
between : (xs ys zs ws : List ℕ) → (xs ++ (ys ++ zs)) ++ ws ≡ xs ++ (ys ++ (zs ++ ws))
between xs ys zs ws = append_assoc xs (ys ++ zs) ws ∙ ap (λ (vs : List ℕ). xs ++ vs) (append_assoc ys zs ws)

module _ (i : Interpretation) where
  -- an atom whose variables are numbered higher, at values with as many more between
  module _ (vs es : List ℕ) (n k : ℕ) (long : length vs ≡ n) (more : length es ≡ k) where
    -- a slot that is moved has the value that it had
    moved_value : (fs : List ℕ) (s : Slot) → slot_value i (vs ++ (es ++ fs)) (slot_moved n k s) ≡ slot_value i (vs ++ fs) s
    moved_value fs (slot.Constant c) = refl
    moved_value fs (slot.Variable v) = go (nat_le n v) refl
      where
        far : n ≤ v → slice_index (vs ++ (es ++ fs)) (v + k) ≡ slice_index (vs ++ fs) v
        far le =
            let first = get_or-append_right vs (es ++ fs) n (v + k) 0 long (omega arith) in
            let second = get_or-append_right es fs k (v + k - n) 0 more (omega arith) in
            let third = get_or-append_right vs fs n v 0 long le in
            let place : v + k - n - k ≡ v - n = omega arith in
            first ∙ second ∙ ap (slice_index fs) place ∙ sym third

        near : v < n → slice_index (vs ++ (es ++ fs)) v ≡ slice_index (vs ++ fs) v
        near below = get_or_append_left vs (es ++ fs) 0 v (omega arith) ∙ sym (get_or_append_left vs fs 0 v (omega arith))

        go : (b : Bool) → nat_le n v ≡ b → slice_index (vs ++ (es ++ fs)) (if b then v + k else v) ≡ slice_index (vs ++ fs) v
        go true is = far (grind (arith, nat_tests))
        go false is = near (grind (arith, nat_tests))

    -- so have slots
    moved_values : (fs : List ℕ) (ss : List Slot) → map (slot_value i (vs ++ (es ++ fs))) (map (slot_moved n k) ss) ≡ map (slot_value i (vs ++ fs)) ss
    moved_values fs [] = refl
    moved_values fs (s ∷ ss) = λ j. moved_value fs s j ∷ moved_values fs ss j

    -- an atom that is moved is true where it was
    move_atom : (fs : List ℕ) (a : Atom) → AtomTrue i (vs ++ fs) a → AtomTrue i (vs ++ (es ++ fs)) (atom_moved n k a)
    move_atom fs a h = ap (i.holds a.symbol) (moved_values fs a.args) ∙ h

    -- and was true where it is
    unmove_atom : (fs : List ℕ) (a : Atom) → AtomTrue i (vs ++ (es ++ fs)) (atom_moved n k a) → AtomTrue i (vs ++ fs) a
    unmove_atom fs a h = sym (ap (i.holds a.symbol) (moved_values fs a.args)) ∙ h

    -- so are atoms that are moved
    pub move_atoms : (fs : List ℕ) (atoms : List Atom) → AllByRecursion (AtomTrue i (vs ++ fs)) atoms
        → AllByRecursion (AtomTrue i (vs ++ (es ++ fs))) (map (atom_moved n k) atoms)
    move_atoms fs atoms h = each_image (AtomTrue i (vs ++ (es ++ fs))) (atom_moved n k) (move_atom fs) atoms h

    -- and the other way round
    pub unmove_atoms : (fs : List ℕ) (atoms : List Atom) → AllByRecursion (AtomTrue i (vs ++ (es ++ fs))) (map (atom_moved n k) atoms)
        → AllByRecursion (AtomTrue i (vs ++ fs)) atoms
    unmove_atoms fs atoms h = each_of_image (AtomTrue i (vs ++ fs)) _ (atom_moved n k) (unmove_atom fs) atoms h

  -- an atom whose variables have values, at more values behind
  module _ (constants : ℕ) (vs es : List ℕ) where
    -- a slot keeps its value where more values follow
    grown_value : (s : Slot) → SlotIsBelow (length vs) constants s → slot_value i (vs ++ es) s ≡ slot_value i vs s
    grown_value (slot.Variable v) below = get_or_append_left vs es 0 v below
    grown_value (slot.Constant c) below = refl

    -- so do slots
    grown_values : (ss : List Slot) → AllByRecursion (SlotIsBelow (length vs) constants) ss → map (slot_value i (vs ++ es)) ss ≡ map (slot_value i vs) ss
    grown_values [] below = refl
    grown_values (s ∷ ss) below = λ j. grown_value s below.0 j ∷ grown_values ss below.1 j

  module _ (constants : ℕ) where
    -- atoms stay true where more values follow
    grow_atoms : (vs es : List ℕ) (n : ℕ) (atoms : List Atom) → length vs ≡ n → AllByRecursion (AtomIsBelow n constants) atoms
        → AllByRecursion (AtomTrue i vs) atoms → AllByRecursion (AtomTrue i (vs ++ es)) atoms
    grow_atoms vs es n [] e below h = tt
    grow_atoms vs es n (a ∷ atoms) e below h =
        let first : AllByRecursion (SlotIsBelow (length vs) constants) a.args = rw e below.0 in
        (ap (i.holds a.symbol) (grown_values constants vs es a.args first) ∙ h.0, grow_atoms vs es n atoms e below.1 h.1)

    -- and were true before they followed
    shrink_atoms : (vs es : List ℕ) (n : ℕ) (atoms : List Atom) → length vs ≡ n → AllByRecursion (AtomIsBelow n constants) atoms
        → AllByRecursion (AtomTrue i (vs ++ es)) atoms → AllByRecursion (AtomTrue i vs) atoms
    shrink_atoms vs es n [] e below h = tt
    shrink_atoms vs es n (a ∷ atoms) e below h =
        let first : AllByRecursion (SlotIsBelow (length vs) constants) a.args = rw e below.0 in
        (sym (ap (i.holds a.symbol) (grown_values constants vs es a.args first)) ∙ h.0, shrink_atoms vs es n atoms e below.1 h.1)

    -- the same with the values of some own variables between
    module _ (vs es fs : List ℕ) (n k : ℕ) (long : length vs ≡ n) (more : length es ≡ k) (atoms : List Atom) (below : AllByRecursion (AtomIsBelow (n + k) constants) atoms) where
      -- two lists of values are as long as both together
      both_long : length (vs ++ es) ≡ n + k
      both_long = omega (arith, length-append vs es)

      -- atoms stay true where values are put behind those that they use
      pub grow_between : AllByRecursion (AtomTrue i (vs ++ es)) atoms → AllByRecursion (AtomTrue i (vs ++ (es ++ fs))) atoms
      grow_between h = subst (λ (all : List ℕ). AllByRecursion (AtomTrue i all) atoms) (append_assoc vs es fs) (grow_atoms (vs ++ es) fs (n + k) atoms both_long below h)

      -- atoms stay true where values behind those that they use go
      pub shrink_between : AllByRecursion (AtomTrue i (vs ++ (es ++ fs))) atoms → AllByRecursion (AtomTrue i (vs ++ es)) atoms
      shrink_between h = shrink_atoms (vs ++ es) fs (n + k) atoms both_long below (subst (λ (all : List ℕ). AllByRecursion (AtomTrue i all) atoms) (sym (append_assoc vs es fs)) h)

  -- some values make every atom of an alternative true
  pub record AlternativeTrue (vs : List ℕ) (a : Alternative) : Type 0 where
    pub values : List ℕ
    pub elements : AreElements i a.variables values
    pub holds : AllByRecursion (AtomTrue i (vs ++ values)) a.atoms

  -- a conclusion is true
  abbrev pub HeadTrue : List ℕ → Head → Type 0
  HeadTrue vs h = ConclusionTrue i (form_of_head h) vs

  -- a form is true
  abbrev pub RuleTrue : List ℕ → Form → Type 0
  RuleTrue vs form = (us : List ℕ) → AreElements i form.universals us → AllByRecursion (AtomTrue i (vs ++ us)) form.premises → ConclusionTrue i form (vs ++ us)

  -- the same at the same values
  at_values : {A : Type 0} (P : List ℕ → A → Type 0) (vs ws : List ℕ) (a : A) → vs ≡ ws → P vs a → P ws a
  at_values P vs ws a e h = subst (λ (all : List ℕ). P all a) e h

  -- an alternative without variables of its own is true where its atoms are
  pub plain_alternative_true : (vs : List ℕ) (atoms : List Atom)
      → Same (AllByRecursion (AtomTrue i vs) atoms) (SomeOf (AlternativeTrue vs) (record { variables = 0; atoms = atoms } ∷ []))
  plain_alternative_true vs atoms = (
    (λ h. inl (record { values = []; elements = no_elements i; holds = at_values (λ all. AllByRecursion (AtomTrue i all)) vs (vs ++ []) atoms (sym (append-nil vs)) h })),
    (λ h. elim h [
      | inl t ↦ at_values (λ all. AllByRecursion (AtomTrue i all)) (vs ++ t.values) vs atoms (ap (λ (es : List ℕ). vs ++ es) (none_of i t.values t.elements) ∙ append-nil vs) t.holds
      | inr never ↦ absurd never
    ]),
  )

  -- a conclusion that is a conjunction is true where its atoms are
  pub plain_head_true : (vs : List ℕ) (atoms : List Atom)
      → Same (AllByRecursion (AtomTrue i vs) atoms) (HeadTrue vs (record { variables = 0; disjuncts = atoms ∷ [] }))
  plain_head_true vs atoms = (
    (λ h. record { existentials = []; values = no_elements i; holds = inl (at_values (λ all. AllByRecursion (AtomTrue i all)) vs (vs ++ []) atoms (sym (append-nil vs)) h) }),
    (λ t. elim t.holds [
      | inl h ↦ at_values (λ all. AllByRecursion (AtomTrue i all)) (vs ++ t.existentials) vs atoms
          (ap (λ (es : List ℕ). vs ++ es) (none_of i t.existentials t.values) ∙ append-nil vs) h
      | inr never ↦ absurd never
    ]),
  )

  -- alternatives

  module _ (constants : ℕ) (vs : List ℕ) (n : ℕ) (long : length vs ≡ n) where
    -- the variables and constants of an alternative are below their counts
    abbrev pub AlternativeBelow : Alternative → Type 0
    AlternativeBelow a = AllByRecursion (AtomIsBelow (n + a.variables) constants) a.atoms

    -- two alternatives that are true are true joined
    joined_true : (a b : Alternative) → AlternativeBelow a → AlternativeTrue vs a → AlternativeTrue vs b → AlternativeTrue vs (alternative_joined n a b)
    joined_true a b below s t = record {
      values = s.values ++ t.values;
      elements = elements_joined i a.variables b.variables s.values t.values s.elements t.elements;
      holds = each_append (AtomTrue i (vs ++ (s.values ++ t.values))) a.atoms (map (atom_moved n a.variables) b.atoms)
          (grow_between constants vs s.values t.values n a.variables long s.elements.length_is a.atoms below s.holds)
          (move_atoms vs s.values n a.variables long s.elements.length_is t.values b.atoms t.holds);
    }

    -- and the other way round
    apart_true : (a b : Alternative) → AlternativeBelow a → AlternativeTrue vs (alternative_joined n a b) → AlternativeTrue vs a × AlternativeTrue vs b
    apart_true a b below t =
        let parts = elements_apart i a.variables b.variables t.values t.elements in
        let holds : AllByRecursion (AtomTrue i (vs ++ (parts.front ++ parts.back))) (a.atoms ++ map (atom_moved n a.variables) b.atoms)
        = at_values (λ (es : List ℕ). AllByRecursion (AtomTrue i (vs ++ es))) t.values (parts.front ++ parts.back) (a.atoms ++ map (atom_moved n a.variables) b.atoms) parts.whole t.holds in
        let first = each_front (AtomTrue i (vs ++ (parts.front ++ parts.back))) a.atoms (map (atom_moved n a.variables) b.atoms) holds in
        let second = each_back (AtomTrue i (vs ++ (parts.front ++ parts.back))) a.atoms (map (atom_moved n a.variables) b.atoms) holds in (
          record {
            values = parts.front;
            elements = parts.first;
            holds = shrink_between constants vs parts.front parts.back n a.variables long parts.first.length_is a.atoms below first;
          },
          record {
            values = parts.back;
            elements = parts.second;
            holds = unmove_atoms vs parts.front n a.variables long parts.first.length_is parts.back b.atoms second;
          },
        )

    -- a true alternative of each of two lists gives a true one of the joined list
    some_joined : (firsts seconds : List Alternative) → AllByRecursion AlternativeBelow firsts → SomeOf (AlternativeTrue vs) firsts → SomeOf (AlternativeTrue vs) seconds
        → SomeOf (AlternativeTrue vs) (alternatives_joined n firsts seconds)
    some_joined [] seconds below s t = absurd s
    some_joined (a ∷ firsts) seconds below (inl s) t = some_front (AlternativeTrue vs) (map (alternative_joined n a) seconds) (alternatives_joined n firsts seconds)
        (some_image (AlternativeTrue vs) (alternative_joined n a) (λ b h. joined_true a b below.0 s h) seconds t)
    some_joined (a ∷ firsts) seconds below (inr s) t = some_back (AlternativeTrue vs) (map (alternative_joined n a) seconds) (alternatives_joined n firsts seconds)
        (some_joined firsts seconds below.1 s t)

    -- and the other way round
    some_apart : (firsts seconds : List Alternative) → AllByRecursion AlternativeBelow firsts → SomeOf (AlternativeTrue vs) (alternatives_joined n firsts seconds)
        → SomeOf (AlternativeTrue vs) firsts × SomeOf (AlternativeTrue vs) seconds
    some_apart [] seconds below h = absurd h
    some_apart (a ∷ firsts) seconds below h =
        elim (some_append (AlternativeTrue vs) (map (alternative_joined n a) seconds) (alternatives_joined n firsts seconds) h) [
          | inl here ↦ (let both = some_of_image (λ b. AlternativeTrue vs a × AlternativeTrue vs b) _ (alternative_joined n a) (λ b t. apart_true a b below.0 t) seconds here in
              (inl (some_gives (AlternativeTrue vs a) (λ b p. p.0) seconds both), some_that (AlternativeTrue vs) (λ b p. p.1) seconds both))
          | inr later ↦ (let both = some_apart firsts seconds below.1 later in (inr both.0, both.1))
        ]

    -- both of two premises
    pub both_true : (firsts seconds : List Alternative) → AllByRecursion AlternativeBelow firsts
        → Same (SomeOf (AlternativeTrue vs) firsts × SomeOf (AlternativeTrue vs) seconds) (SomeOf (AlternativeTrue vs) (alternatives_joined n firsts seconds))
    both_true firsts seconds below = ((λ h. some_joined firsts seconds below h.0 h.1), some_apart firsts seconds below)

  -- values for the variables of a quantifier in front
  pub record Chosen (k : ℕ) (P : List ℕ → Type 0) : Type 0 where
    pub values : List ℕ
    pub elements : AreElements i k values
    pub holds : P values

  -- values for the variables in front of alternatives
  pub bind_true : (vs ds : List ℕ) (k : ℕ) (alternatives : List Alternative) → AreElements i k ds → SomeOf (AlternativeTrue (vs ++ ds)) alternatives
      → SomeOf (AlternativeTrue vs) (map (alternative_bound k) alternatives)
  bind_true vs ds k alternatives are h = some_image (AlternativeTrue vs) (alternative_bound k)
      (λ a t. record {
        values = ds ++ t.values;
        elements = elements_joined i k a.variables ds t.values are t.elements;
        holds = at_values (λ all. AllByRecursion (AtomTrue i all)) ((vs ++ ds) ++ t.values) (vs ++ (ds ++ t.values)) a.atoms (append_assoc vs ds t.values) t.holds;
      }) alternatives h

  -- and the other way round for one alternative
  unbind_one : (vs : List ℕ) (k : ℕ) (a : Alternative) → AlternativeTrue vs (alternative_bound k a) → Chosen k (λ ds. AlternativeTrue (vs ++ ds) a)
  unbind_one vs k a t =
      let parts = elements_apart i k a.variables t.values t.elements in
      record {
        values = parts.front;
        elements = parts.first;
        holds = record {
          values = parts.back;
          elements = parts.second;
          holds = at_values (λ all. AllByRecursion (AtomTrue i all)) (vs ++ t.values) ((vs ++ parts.front) ++ parts.back) a.atoms
              (ap (λ (es : List ℕ). vs ++ es) parts.whole ∙ sym (append_assoc vs parts.front parts.back)) t.holds;
        };
      }

  -- and for some alternative
  pub unbind_true : (vs : List ℕ) (k : ℕ) (alternatives : List Alternative) → SomeOf (AlternativeTrue vs) (map (alternative_bound k) alternatives)
      → Chosen k (λ ds. SomeOf (AlternativeTrue (vs ++ ds)) alternatives)
  unbind_true vs k [] h = absurd h
  unbind_true vs k (a ∷ rest) (inl h) = let t = unbind_one vs k a h in record { values = t.values; elements = t.elements; holds = inl t.holds }
  unbind_true vs k (a ∷ rest) (inr h) = let t = unbind_true vs k rest h in record { values = t.values; elements = t.elements; holds = inr t.holds }

  -- conclusions

  module _ (some : ℕ) (inhabited : i.element some) where
    -- as many elements as asked for
    elements_for : (k : ℕ) → (es : List ℕ) × AreElements i k es
    elements_for zero = ([], no_elements i)
    elements_for (suc k) =
        let rest = elements_for k in
        (some ∷ rest.0, record { length_is = (let long = (rest.1).length_is in omega arith); are = (inhabited, (rest.1).are) })

    module _ (constants : ℕ) (vs : List ℕ) (n : ℕ) (long : length vs ≡ n) where
      -- the atoms of a conclusion use its own variables and those in scope
      abbrev pub HeadBelow : Head → Type 0
      HeadBelow h = AllByRecursion (AllByRecursion (AtomIsBelow (n + h.variables) constants)) h.disjuncts

      -- where the first of two conclusions is true, both joined are
      left_true : (h k : Head) → HeadBelow h → HeadTrue vs h → HeadTrue vs (head_joined n h k)
      left_true h k below t =
          let free = elements_for k.variables in
          record {
            existentials = t.existentials ++ free.0;
            values = elements_joined i h.variables k.variables t.existentials free.0 t.values free.1;
            holds = some_front (AllByRecursion (AtomTrue i (vs ++ (t.existentials ++ free.0)))) h.disjuncts (map (map (atom_moved n h.variables)) k.disjuncts)
                (some_also (AllByRecursion (AtomTrue i (vs ++ (t.existentials ++ free.0))))
                (λ atoms b holds. grow_between constants vs t.existentials free.0 n h.variables long t.values.length_is atoms b holds) h.disjuncts below t.holds);
          }

      -- where the second of two conclusions is true, both joined are
      right_true : (h k : Head) → HeadTrue vs k → HeadTrue vs (head_joined n h k)
      right_true h k t =
          let free = elements_for h.variables in
          record {
            existentials = free.0 ++ t.existentials;
            values = elements_joined i h.variables k.variables free.0 t.existentials free.1 t.values;
            holds = some_back (AllByRecursion (AtomTrue i (vs ++ (free.0 ++ t.existentials)))) h.disjuncts (map (map (atom_moved n h.variables)) k.disjuncts)
                (some_image (AllByRecursion (AtomTrue i (vs ++ (free.0 ++ t.existentials)))) (map (atom_moved n h.variables))
                (λ atoms holds. move_atoms vs free.0 n h.variables long (free.1).length_is t.existentials atoms holds) k.disjuncts t.holds);
          }

      -- where two conclusions joined are true, one of them is
      either_of : (h k : Head) → HeadBelow h → HeadTrue vs (head_joined n h k) → HeadTrue vs h ⊎ HeadTrue vs k
      either_of h k below t =
          let parts = elements_apart i h.variables k.variables t.existentials t.values in
          let disjuncts : List (List Atom) = h.disjuncts ++ map (map (atom_moved n h.variables)) k.disjuncts in
          let holds : SomeOf (AllByRecursion (AtomTrue i (vs ++ (parts.front ++ parts.back)))) disjuncts
          = at_values (λ (es : List ℕ). SomeOf (AllByRecursion (AtomTrue i (vs ++ es)))) t.existentials (parts.front ++ parts.back) disjuncts parts.whole t.holds in
          elim (some_append (AllByRecursion (AtomTrue i (vs ++ (parts.front ++ parts.back)))) h.disjuncts (map (map (atom_moved n h.variables)) k.disjuncts) holds) [
            | inl here ↦ inl (record {
              existentials = parts.front;
              values = parts.first;
              holds = some_also (AllByRecursion (AtomTrue i (vs ++ parts.front)))
                  (λ atoms b p. shrink_between constants vs parts.front parts.back n h.variables long parts.first.length_is atoms b p) h.disjuncts below here;
            })
            | inr later ↦ inr (record {
              existentials = parts.back;
              values = parts.second;
              holds = some_of_image (AllByRecursion (AtomTrue i (vs ++ parts.back))) _ (map (atom_moved n h.variables))
                  (λ atoms p. unmove_atoms vs parts.front n h.variables long parts.first.length_is parts.back atoms p) k.disjuncts later;
            })
          ]

      -- one of two conclusions
      pub either_true : (h k : Head) → HeadBelow h → Same (HeadTrue vs h ⊎ HeadTrue vs k) (HeadTrue vs (head_joined n h k))
      either_true h k below = ((λ s. elim s [ inl t ↦ left_true h k below t | inr t ↦ right_true h k t ]), either_of h k below)

  -- values for the variables of a quantifier in front
  pub bind_head : (vs ds : List ℕ) (k : ℕ) (h : Head) → AreElements i k ds → HeadTrue (vs ++ ds) h → HeadTrue vs (head_bound k h)
  bind_head vs ds k h are t = record {
    existentials = ds ++ t.existentials;
    values = elements_joined i k h.variables ds t.existentials are t.values;
    holds = at_values (λ all. SomeOf (AllByRecursion (AtomTrue i all))) ((vs ++ ds) ++ t.existentials) (vs ++ (ds ++ t.existentials)) h.disjuncts (append_assoc vs ds t.existentials) t.holds;
  }

  -- and the other way round
  pub unbind_head : (vs : List ℕ) (k : ℕ) (h : Head) → HeadTrue vs (head_bound k h) → Chosen k (λ ds. HeadTrue (vs ++ ds) h)
  unbind_head vs k h t =
      let parts = elements_apart i k h.variables t.existentials t.values in
      record {
        values = parts.front;
        elements = parts.first;
        holds = record {
          existentials = parts.back;
          values = parts.second;
          holds = at_values (λ all. SomeOf (AllByRecursion (AtomTrue i all))) (vs ++ t.existentials) ((vs ++ parts.front) ++ parts.back) h.disjuncts
              (ap (λ (es : List ℕ). vs ++ es) parts.whole ∙ sym (append_assoc vs parts.front parts.back)) t.holds;
        };
      }

  -- forms

  -- a rule without premises is its conclusion
  pub head_rule : (vs : List ℕ) (h : Head) → Same (HeadTrue vs h) (AllByRecursion (RuleTrue vs) (form_of_head h ∷ []))
  head_rule vs h = (
    (λ t. (
      (λ us are premises. at_values (λ (all : List ℕ) (k : Head). HeadTrue all k) vs (vs ++ us) h
          (sym (ap (λ (es : List ℕ). vs ++ es) (none_of i us are) ∙ append-nil vs)) t),
      tt,
    )),
    (λ r. at_values (λ (all : List ℕ) (k : Head). HeadTrue all k) (vs ++ []) vs h (append-nil vs) ((r.0) [] (no_elements i) tt)),
  )

  -- a conclusion is true by its variables and disjuncts alone
  same_conclusion : (form other : Form) (vs : List ℕ) → form.existentials ≡ other.existentials → form.disjuncts ≡ other.disjuncts
      → ConclusionTrue i form vs → ConclusionTrue i other vs
  same_conclusion form other vs e d t = record {
    existentials = t.existentials;
    values = subst (λ (k : ℕ). AreElements i k t.existentials) e t.values;
    holds = subst (SomeOf (AllByRecursion (AtomTrue i (vs ++ t.existentials)))) d t.holds;
  }

  -- a form is true with variables in front where it is true at each of their values
  bound_rule : (vs : List ℕ) (k : ℕ) (form : Form) → ((ds : List ℕ) → AreElements i k ds → RuleTrue (vs ++ ds) form) → RuleTrue vs (form_bound k form)
  bound_rule vs k form h us are premises =
      let parts = elements_apart i k form.universals us are in
      let whole : vs ++ us ≡ (vs ++ parts.front) ++ parts.back = ap (λ (es : List ℕ). vs ++ es) parts.whole ∙ sym (append_assoc vs parts.front parts.back) in
      let conclusion = h parts.front parts.first parts.back parts.second (at_values (λ all. AllByRecursion (AtomTrue i all)) (vs ++ us) ((vs ++ parts.front) ++ parts.back) form.premises whole premises) in
      same_conclusion form (form_bound k form) (vs ++ us) refl refl
      (at_values (λ (all : List ℕ) (f : Form). ConclusionTrue i f all) ((vs ++ parts.front) ++ parts.back) (vs ++ us) form (sym whole) conclusion)

  -- and the other way round
  unbound_rule : (vs ds : List ℕ) (k : ℕ) (form : Form) → AreElements i k ds → RuleTrue vs (form_bound k form) → RuleTrue (vs ++ ds) form
  unbound_rule vs ds k form are h us more premises =
      let whole : (vs ++ ds) ++ us ≡ vs ++ (ds ++ us) = append_assoc vs ds us in
      let conclusion = h (ds ++ us) (elements_joined i k form.universals ds us are more)
      (at_values (λ all. AllByRecursion (AtomTrue i all)) ((vs ++ ds) ++ us) (vs ++ (ds ++ us)) form.premises whole premises) in
      at_values (λ (all : List ℕ) (f : Form). ConclusionTrue i f all) (vs ++ (ds ++ us)) ((vs ++ ds) ++ us) form (sym whole)
      (same_conclusion (form_bound k form) form (vs ++ (ds ++ us)) refl refl conclusion)

  -- universal variables in front
  pub bind_rules : (vs : List ℕ) (k : ℕ) (forms : List Form) → ((ds : List ℕ) → AreElements i k ds → AllByRecursion (RuleTrue (vs ++ ds)) forms)
      → AllByRecursion (RuleTrue vs) (map (form_bound k) forms)
  bind_rules vs k [] h = tt
  bind_rules vs k (form ∷ forms) h = (bound_rule vs k form (λ ds are. (h ds are).0), bind_rules vs k forms (λ ds are. (h ds are).1))

  -- and the other way round
  pub unbind_rules : (vs ds : List ℕ) (k : ℕ) (forms : List Form) → AreElements i k ds → AllByRecursion (RuleTrue vs) (map (form_bound k) forms)
      → AllByRecursion (RuleTrue (vs ++ ds)) forms
  unbind_rules vs ds k forms are h = each_of_image (RuleTrue (vs ++ ds)) _ (form_bound k) (λ form r. unbound_rule vs ds k form are r) forms h

  module _ (constants : ℕ) (vs : List ℕ) (n : ℕ) (long : length vs ≡ n) where
    -- a form whose premises begin with those of an alternative
    unguarded : (a : Alternative) (form : Form) → AlternativeBelow constants vs n long a → RuleTrue vs (form_guarded n a form) → AlternativeTrue vs a → RuleTrue vs form
    unguarded a form below r t us are premises =
        let es : List ℕ = t.values in
        let conclusion = r (es ++ us) (elements_joined i a.variables form.universals es us t.elements are)
        (each_append (AtomTrue i (vs ++ (es ++ us))) a.atoms (map (atom_moved n a.variables) form.premises)
        (grow_between constants vs es us n a.variables long t.elements.length_is a.atoms below t.holds)
        (move_atoms vs es n a.variables long t.elements.length_is us form.premises premises)) in
        let ws : List ℕ = conclusion.existentials in
        record {
          existentials = ws;
          values = conclusion.values;
          holds = some_of_image (AllByRecursion (AtomTrue i ((vs ++ us) ++ ws))) _ (map (atom_moved n a.variables))
              (λ atoms p. at_values (λ all. AllByRecursion (AtomTrue i all)) (vs ++ (us ++ ws)) ((vs ++ us) ++ ws) atoms (sym (append_assoc vs us ws))
              (unmove_atoms vs es n a.variables long t.elements.length_is (us ++ ws) atoms
              (at_values (λ all. AllByRecursion (AtomTrue i all)) ((vs ++ (es ++ us)) ++ ws) (vs ++ (es ++ (us ++ ws))) (map (atom_moved n a.variables) atoms) (between vs es us ws) p)))
              form.disjuncts conclusion.holds;
        }

    -- and the other way round
    guarded : (a : Alternative) (form : Form) → AlternativeBelow constants vs n long a → (AlternativeTrue vs a → RuleTrue vs form) → RuleTrue vs (form_guarded n a form)
    guarded a form below h all are premises =
        let parts = elements_apart i a.variables form.universals all are in
        let es : List ℕ = parts.front in
        let us : List ℕ = parts.back in
        let holds : AllByRecursion (AtomTrue i (vs ++ (es ++ us))) (a.atoms ++ map (atom_moved n a.variables) form.premises)
        = at_values (λ (zs : List ℕ). AllByRecursion (AtomTrue i (vs ++ zs))) all (es ++ us) (a.atoms ++ map (atom_moved n a.variables) form.premises) parts.whole premises in
        let first = each_front (AtomTrue i (vs ++ (es ++ us))) a.atoms (map (atom_moved n a.variables) form.premises) holds in
        let second = each_back (AtomTrue i (vs ++ (es ++ us))) a.atoms (map (atom_moved n a.variables) form.premises) holds in
        let conclusion = h (record {
          values = es;
          elements = parts.first;
          holds = shrink_between constants vs es us n a.variables long parts.first.length_is a.atoms below first;
        }) us parts.second (unmove_atoms vs es n a.variables long parts.first.length_is us form.premises second) in
        let ws : List ℕ = conclusion.existentials in
        let at : (vs ++ (es ++ us)) ++ ws ≡ (vs ++ all) ++ ws = ap (λ (zs : List ℕ). (vs ++ zs) ++ ws) (sym parts.whole) in
        record {
          existentials = ws;
          values = conclusion.values;
          holds = some_image (AllByRecursion (AtomTrue i ((vs ++ all) ++ ws))) (map (atom_moved n a.variables))
              (λ atoms p. at_values (λ zs. AllByRecursion (AtomTrue i zs)) (vs ++ (es ++ (us ++ ws))) ((vs ++ all) ++ ws) (map (atom_moved n a.variables) atoms) (sym (between vs es us ws) ∙ at)
              (move_atoms vs es n a.variables long parts.first.length_is (us ++ ws) atoms
              (at_values (λ zs. AllByRecursion (AtomTrue i zs)) ((vs ++ us) ++ ws) (vs ++ (us ++ ws)) atoms (append_assoc vs us ws) p)))
              form.disjuncts conclusion.holds;
        }

    -- forms behind alternatives are true where they are if some alternative is
    all_guarded : (guards : List Alternative) (forms : List Form) → AllByRecursion (AlternativeBelow constants vs n long) guards
        → (SomeOf (AlternativeTrue vs) guards → AllByRecursion (RuleTrue vs) forms) → AllByRecursion (RuleTrue vs) (forms_guarded n guards forms)
    all_guarded [] forms below h = tt
    all_guarded (a ∷ guards) forms below h = each_append (RuleTrue vs) (map (form_guarded n a) forms) (forms_guarded n guards forms)
        (each_guarded forms (λ t. h (inl t)))
        (all_guarded guards forms below.1 (λ s. h (inr s)))
      where
        each_guarded : (fs : List Form) → (AlternativeTrue vs a → AllByRecursion (RuleTrue vs) fs) → AllByRecursion (RuleTrue vs) (map (form_guarded n a) fs)
        each_guarded [] k = tt
        each_guarded (form ∷ fs) k = (guarded a form below.0 (λ t. (k t).0), each_guarded fs (λ t. (k t).1))

    -- and the other way round
    all_unguarded : (guards : List Alternative) (forms : List Form) → AllByRecursion (AlternativeBelow constants vs n long) guards
        → AllByRecursion (RuleTrue vs) (forms_guarded n guards forms) → SomeOf (AlternativeTrue vs) guards → AllByRecursion (RuleTrue vs) forms
    all_unguarded [] forms below h s = absurd s
    all_unguarded (a ∷ guards) forms below h (inl t) = each_of_image (RuleTrue vs) _ (form_guarded n a) (λ form r. unguarded a form below.0 r t) forms
        (each_front (RuleTrue vs) (map (form_guarded n a) forms) (forms_guarded n guards forms) h)
    all_unguarded (a ∷ guards) forms below h (inr s) = all_unguarded guards forms below.1
        (each_back (RuleTrue vs) (map (form_guarded n a) forms) (forms_guarded n guards forms) h) s

    -- a rule under a premise
    pub guarded_true : (guards : List Alternative) (forms : List Form) → AllByRecursion (AlternativeBelow constants vs n long) guards
        → Same (SomeOf (AlternativeTrue vs) guards → AllByRecursion (RuleTrue vs) forms) (AllByRecursion (RuleTrue vs) (forms_guarded n guards forms))
    guarded_true guards forms below = (all_guarded guards forms below, all_unguarded guards forms below)
