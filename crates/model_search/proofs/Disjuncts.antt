-- What the options of an instance say of a candidate.
use Rattle.std.proofs.Common.{◌≡◌, ℕ, suc, ◌+◌, ◌-◌, ◌<◌, ◌≤◌, nat_lt, ◌⊎◌, inl, inr, Bool, true, false, List, [], ◌∷◌, ◌++◌, length, take, refl, sym, ◌∙◌, ap, subst, arith, append_assoc, length-append}
use Rattle.std.specs.Prelude.{slice_index_or, Result, Ok, Err, OnOk}
use Rattle.std.proofs.lemmas.List.{append-nil, take-append-le}
use Rattle.std.specs.List.{AllByRecursion}
use Rattle.text_core.specs.Lists.{SomeOf}
use Rattle.text_core.proofs.Laws.{take_next, take_all, some_append, each_get, each_front, each_back, each_append}
use Rattle.logic_core.specs.Forms.{AtomTrue}
use Rattle.logic_core.specs.declared.form.Atom.{Atom}
use Rattle.logic_core.specs.declared.form.Form.{Form}
use Rattle.model_search.specs.Candidates.{Candidate, world}
use Rattle.model_search.specs.Keys.{ground_true, AllTrue}
use Rattle.model_search.specs.Rules.{Means, SomeTrue, SuitsForm}
use Rattle.model_search.specs.Sheets.{Drawn, IsSuited, Covers, Goes, GoesIf}
use Rattle.model_search.specs.declared.key.Ground.{Ground}
use Rattle.model_search.proofs.Sheets.{both, item_at}

-- an atom that is true in no structure makes its disjunct false, or the clause is true
none_left : (c : Candidate) (values : List ℕ) (atom : Atom) (g : Ground) (s : Drawn) → ground_true c g ≡ false
    → Means c values atom g ⊎ Covers c s → AtomTrue (world c) values atom → Covers c s
none_left c values atom g s e (inl means) holds = absurd (let t = means.there holds in let both : true ≡ false = sym t ∙ e in cc)
none_left c values atom g s e (inr covers) holds = covers

-- so where the atom is one of several
pub none_left_at : (c : Candidate) (values : List ℕ) (atoms : List Atom) (i : ℕ) (atom : Atom) (g : Ground) (s : Drawn) → i < length atoms
    → atom ≡ slice_index_or atoms i atom → ground_true c g ≡ false → Means c values atom g ⊎ Covers c s
    → AllByRecursion (AtomTrue (world c) values) atoms → Covers c s
none_left_at c values atoms i atom g s below at e means all =
    none_left c values atom g s e means (each_get (AtomTrue (world c) values) atoms i atom all (item_at atoms i atom below at))

module _ (c : Candidate) (values : List ℕ) (atoms : List Atom) (i : ℕ) (atom : Atom) (below : i < length atoms)
    (at : atom ≡ slice_index_or atoms i atom) (s t : Drawn) (goes : Goes s t) (gs new : List Ground)
    (before : AllByRecursion (AtomTrue (world c) values) (take i atoms) → AllTrue c gs ⊎ Covers c s)
    (all : AllByRecursion (AtomTrue (world c) values) (take (i + 1) atoms)) where
  -- the atoms up to this one
  both_parts : AllByRecursion (AtomTrue (world c) values) (take i atoms ++ atom ∷ [])
  both_parts = subst (AllByRecursion (AtomTrue (world c) values)) (take_next atoms i atom (item_at atoms i atom below at)) all

  front : AllByRecursion (AtomTrue (world c) values) (take i atoms)
  front = each_front (AtomTrue (world c) values) (take i atoms) (atom ∷ []) both_parts

  last : AtomTrue (world c) values atom
  last = (each_back (AtomTrue (world c) values) (take i atoms) (atom ∷ []) both_parts).0

  -- no atom is left of this one
  pub left_same : new ≡ gs → AllTrue c new ⊎ Covers c t
  left_same is = elim (before front) [ inl h ↦ inl (subst (AllTrue c) (sym is) h) | inr covers ↦ inr (goes.grows.covers c covers) ]

  -- one is
  pub left_more : (g : Ground) → new ≡ gs ++ g ∷ [] → Means c values atom g ⊎ Covers c t → AllTrue c new ⊎ Covers c t
  left_more g is means =
      both c s t goes (λ h e. subst (AllTrue c) (sym is) (each_append (λ (x : Ground). ground_true c x ≡ true) gs (g ∷ []) h (e, tt))) (before front)
      (elim means [ inl m ↦ inl (m.there last) | inr covers ↦ inr covers ])

-- all atoms of a disjunct
pub left_all : (c : Candidate) (values : List ℕ) (atoms : List Atom) (i : ℕ) (gs : List Ground) (s : Drawn) → length atoms ≤ i
    → (AllByRecursion (AtomTrue (world c) values) (take i atoms) → AllTrue c gs ⊎ Covers c s)
    → AllByRecursion (AtomTrue (world c) values) atoms → AllTrue c gs ⊎ Covers c s
left_all c values atoms i gs s long h all = h (subst (AllByRecursion (AtomTrue (world c) values)) (sym (take_all atoms i long)) all)

-- the last of atoms that are all true
pub last_true : (c : Candidate) (gs before : List Ground) (g : Ground) → gs ≡ before ++ g ∷ [] → AllTrue c gs → ground_true c g ≡ true
last_true c gs before g e h = (each_back (λ (x : Ground). ground_true c x ≡ true) before (g ∷ []) (subst (AllTrue c) e h)).0

-- the atoms that are left of a disjunct are true, or the clause is
pub option_covers : {P : Type 0} (c : Candidate) (gs : List Ground) (s t : Drawn) → Goes s t → (P → AllTrue c gs ⊎ Covers c s)
    → (AllTrue c gs → Covers c t) → P → Covers c t
option_covers c gs s t goes left covers h = elim (left h) [ inl all ↦ covers all | inr y ↦ goes.grows.covers c y ]

-- what follows from two clauses of an answer
pub ok_both : {X E P Q R : Type 0} (r : Result X E) → (P → Q → R) → OnOk r P → OnOk r Q → OnOk r R
ok_both (Ok x) f p q = f p q
ok_both (Err e) f p q = tt

-- one more disjunct
pub disjuncts_next : (c : Candidate) (values : List ℕ) (disjuncts : List (List Atom)) (i : ℕ) (d shown : List Atom) (s t : Drawn)
    → i < length disjuncts → d ≡ slice_index_or disjuncts i d → shown ≡ d → Goes s t → (SomeTrue c values (take i disjuncts) → Covers c s)
    → (AllByRecursion (AtomTrue (world c) values) shown → Covers c t) → SomeTrue c values (take (i + 1) disjuncts) → Covers c t
disjuncts_next c values disjuncts i d shown s t below at same goes before here some =
    let P = λ (atoms : List Atom). AllByRecursion (AtomTrue (world c) values) atoms in
    elim (some_append P (take i disjuncts) (d ∷ []) (subst (SomeOf P) (take_next disjuncts i d (item_at disjuncts i d below at)) some)) [
      | inl h ↦ goes.grows.covers c (before h)
      | inr h ↦ elim h [ inl p ↦ here (subst P (sym same) p) | inr none ↦ absurd none ]
    ]

-- no further variables
pub no_further : (c : Candidate) (values shown xs : List ℕ) (count : ℕ) (disjuncts : List (List Atom)) (s : Drawn) → shown ≡ values
    → length xs ≡ count → count ≡ 0 → (SomeTrue c shown disjuncts → Covers c s) → SomeTrue c (values ++ xs) disjuncts → Covers c s
no_further c values shown [] count disjuncts s same long none h some =
    h (subst (λ ys. SomeTrue c ys disjuncts) (append-nil values ∙ sym same) some)
no_further c values shown (x ∷ xs) count disjuncts s same long none h some = absurd (omega arith)

-- one more first element of a choice
pub choices_next : (c : Candidate) (values old pushed : List ℕ) (element further size : ℕ) (disjuncts : List (List Atom)) (s t : Drawn)
    → old ≡ values → pushed ≡ old ++ element ∷ [] → Goes s t
    → ((x : ℕ) (xs : List ℕ) → x < element → suc (length xs) ≡ further → AllByRecursion (λ y. y < size) xs
    → SomeTrue c (values ++ x ∷ xs) disjuncts → Covers c s)
    → ((xs : List ℕ) → length xs ≡ further - 1 → AllByRecursion (λ y. y < size) xs → SomeTrue c (pushed ++ xs) disjuncts → Covers c t)
    → (x : ℕ) (xs : List ℕ) → x < element + 1 → suc (length xs) ≡ further → AllByRecursion (λ y. y < size) xs
    → SomeTrue c (values ++ x ∷ xs) disjuncts → Covers c t
choices_next c values old pushed element further size disjuncts s t kept is goes before here x xs less long below some =
    by (nat_lt x element) refl
  where
    by : (b : Bool) → nat_lt x element ≡ b → Covers c t
    by true e = goes.grows.covers c (before x xs (let h : x < element = grind (arith, e) in h) long below some)
    by false e =
        let same : x ≡ element = let h : element ≤ x = grind (arith, e) in omega arith in
        let whole : values ++ x ∷ xs ≡ pushed ++ xs
        = ap (λ y. values ++ y ∷ xs) same ∙ sym (append_assoc values (element ∷ []) xs) ∙ ap (λ ys. (ys ++ element ∷ []) ++ xs) (sym kept)
        ∙ ap (λ ys. ys ++ xs) (sym is) in
        here xs (omega arith) below (subst (λ ys. SomeTrue c ys disjuncts) whole some)

-- the first element of a choice
pub choices_all : (c : Candidate) (values : List ℕ) (element further size : ℕ) (disjuncts : List (List Atom)) (s : Drawn) → size ≤ element
    → (further ≡ 0 → ⊥)
    → ((x : ℕ) (xs : List ℕ) → x < element → suc (length xs) ≡ further → AllByRecursion (λ y. y < size) xs
    → SomeTrue c (values ++ x ∷ xs) disjuncts → Covers c s)
    → (xs : List ℕ) → length xs ≡ further → AllByRecursion (λ y. y < size) xs → SomeTrue c (values ++ xs) disjuncts → Covers c s
choices_all c values element further size disjuncts s all some_further h [] long below some = absurd (some_further (sym long))
choices_all c values element further size disjuncts s all some_further h (x ∷ xs) long below some =
    h x xs (let first : x < size = below.0 in omega arith) long below.1 some

-- a list from which the last member was taken
pub popped : (old pushed after rest : List ℕ) (x n : ℕ) → pushed ≡ old ++ x ∷ [] → after ≡ pushed → n ≡ length after → rest ≡ take (n - 1) after → rest ≡ old
popped old pushed after rest x n is same count taken =
    taken ∙ (λ j. take (length_is j) (whole j)) ∙ take-append-le (length old) old (x ∷ []) (omega arith) ∙ take_all old (length old) (omega arith)
  where
    whole : after ≡ old ++ x ∷ []
    whole = same ∙ is

    length_is : n - 1 ≡ length old
    length_is = let long = ap length whole in let more = length-append old (x ∷ []) in omega arith

-- what is added for an instance is true of each candidate that suits the form
instance_covers : (c : Candidate) (size : ℕ) (form : Form) (values : List ℕ) (s t : Drawn) → SuitsForm size form c → Goes s t
    → length values ≡ form.universals → AllByRecursion (λ x. x < size) values
    → AllByRecursion (AtomTrue (world c) values) form.premises ⊎ Covers c s
    → ((xs : List ℕ) → length xs ≡ form.existentials → AllByRecursion (λ x. x < size) xs → SomeTrue c (values ++ xs) form.disjuncts → Covers c t)
    → Covers c t
instance_covers c size form values s t suits goes count below (inr covers) options = goes.grows.covers c covers
instance_covers c size form values s t suits goes count below (inl premises) options =
    let are : AllByRecursion (λ x. x < c.size) values = subst (λ n. AllByRecursion (λ x. x < n) values) (sym suits.below.size_is) below in
    let conclusion = suits.holds values (record { length_is = count; are = are }) premises in
    options conclusion.existentials conclusion.values.length_is
    (subst (λ n. AllByRecursion (λ x. x < n) conclusion.existentials) suits.below.size_is conclusion.values.are) conclusion.holds

-- so the clauses of an instance are
pub instance_goes : (size : ℕ) (form : Form) (values shown checked : List ℕ) (premises : List Atom) (disjuncts : List (List Atom))
    (old begun opposed full new : Drawn) → shown ≡ values → checked ≡ values → premises ≡ form.premises → disjuncts ≡ form.disjuncts
    → ((c : Candidate) → IsSuited c old → IsSuited c begun) → Goes begun opposed → Goes opposed full → length values ≡ form.universals
    → AllByRecursion (λ x. x < size) checked → ((c : Candidate) → AllByRecursion (AtomTrue (world c) shown) premises ⊎ Covers c opposed)
    → ((c : Candidate) (xs : List ℕ) → length xs ≡ form.existentials → AllByRecursion (λ x. x < size) xs
    → SomeTrue c (values ++ xs) disjuncts → Covers c full)
    → GoesIf (λ c. Covers c full) full new → GoesIf (SuitsForm size form) old new
instance_goes size form values shown checked premises disjuncts old begun opposed full new same also first_are options_are
    begin first second count below premises_or options finish c suits suited =
    finish c
    (instance_covers c size form values opposed full suits second count (subst (AllByRecursion (λ x. x < size)) also below)
    (subst (λ atoms. AllByRecursion (AtomTrue (world c) values) atoms ⊎ Covers c opposed) first_are
    (subst (λ xs. AllByRecursion (AtomTrue (world c) xs) premises ⊎ Covers c opposed) same (premises_or c)))
    (λ xs long within some. options c xs long within (subst (SomeTrue c (values ++ xs)) (sym options_are) some)))
    (second.suited c (first.suited c (begin c suited)))
