-- The clauses that witnesses are near.
use Rattle.std.proofs.Common.{◌≡◌, ℕ, suc, ◌+◌, ◌-◌, ◌<◌, ◌≤◌, ◌⊎◌, inl, inr, Bool, true, false, List, [], ◌∷◌, ◌++◌, length, refl, sym, ◌∙◌, ap, subst, arith, append_assoc}
use Rattle.std.specs.Prelude.{nat_lt, max, Some, slice_get}
use Rattle.std.specs.List.{AllByRecursion}
use Rattle.text_core.proofs.Laws.{each_get, each_map}
use Rattle.logic_core.specs.Forms.{AtomTrue, FormTrue, IsWellFormed}
use Rattle.logic_core.specs.declared.form.Atom.{Atom}
use Rattle.logic_core.specs.declared.form.Form.{Form}
use Rattle.model_search.specs.Candidates.{Candidate, world}
use Rattle.model_search.specs.Nearness.{AreNear, NearConclusion, NearTrue, IsNearFair, IsRuled, GoesNearBy}
use Rattle.model_search.specs.Rules.{SomeTrue}
use Rattle.model_search.specs.Sheets.{Drawn, IsSuited, Covers, Goes, GoesIf}
use Rattle.model_search.specs.declared.rule.Rule.{Rule}
use Rattle.model_search.proofs.Nearby.{near_more, near_next}

-- one more first element of a choice
pub near_choices_next : (c : Candidate) (values old pushed : List ℕ) (element further size near more : ℕ) (disjuncts : List (List Atom)) (s t : Drawn)
    → old ≡ values → pushed ≡ old ++ element ∷ [] → more ≡ max near (element + 1) → Goes s t
    → ((x : ℕ) (xs : List ℕ) → x < element → suc (length xs) ≡ further → AllByRecursion (λ y. y < size) xs
    → AreNear (max near (x + 1)) xs → SomeTrue c (values ++ x ∷ xs) disjuncts → Covers c s)
    → ((xs : List ℕ) → length xs ≡ further - 1 → AllByRecursion (λ y. y < size) xs → AreNear more xs → SomeTrue c (pushed ++ xs) disjuncts → Covers c t)
    → (x : ℕ) (xs : List ℕ) → x < element + 1 → suc (length xs) ≡ further → AllByRecursion (λ y. y < size) xs
    → AreNear (max near (x + 1)) xs → SomeTrue c (values ++ x ∷ xs) disjuncts → Covers c t
near_choices_next c values old pushed element further size near more disjuncts s t kept is more_is goes before here x xs less long below close some =
    by (nat_lt x element) refl
  where
    by : (b : Bool) → nat_lt x element ≡ b → Covers c t
    by true e = goes.grows.covers c (before x xs (let h : x < element = grind (arith, e) in h) long below close some)
    by false e =
        let same : x ≡ element = let h : element ≤ x = grind (arith, e) in omega arith in
        let whole : values ++ x ∷ xs ≡ pushed ++ xs
        = ap (λ y. values ++ y ∷ xs) same ∙ sym (append_assoc values (element ∷ []) xs) ∙ ap (λ ys. (ys ++ element ∷ []) ++ xs) (sym kept)
        ∙ ap (λ ys. ys ++ xs) (sym is) in
        here xs (omega arith) below (subst (λ m. AreNear m xs) (ap (λ y. max near (y + 1)) same ∙ sym more_is) close)
        (subst (λ ys. SomeTrue c ys disjuncts) whole some)

-- the first element of a choice
pub near_choices_all : (c : Candidate) (values : List ℕ) (element further size near : ℕ) (disjuncts : List (List Atom)) (s : Drawn)
    → ((x : ℕ) → x < size → x ≤ near → x < element) → (further ≡ 0 → ⊥)
    → ((x : ℕ) (xs : List ℕ) → x < element → suc (length xs) ≡ further → AllByRecursion (λ y. y < size) xs
    → AreNear (max near (x + 1)) xs → SomeTrue c (values ++ x ∷ xs) disjuncts → Covers c s)
    → (xs : List ℕ) → length xs ≡ further → AllByRecursion (λ y. y < size) xs → AreNear near xs → SomeTrue c (values ++ xs) disjuncts → Covers c s
near_choices_all c values element further size near disjuncts s all some_further h [] long below close some = absurd (some_further (sym long))
near_choices_all c values element further size near disjuncts s all some_further h (x ∷ xs) long below close some =
    h x xs (all x below.0 close.0) long below.1 close.1 some

-- the clauses of an instance are true where it is, with witnesses that are near
pub near_instance_goes : (size near : ℕ) (form : Form) (values shown : List ℕ) (premises : List Atom) (disjuncts : List (List Atom))
    (old begun opposed full new : Drawn) → shown ≡ values → premises ≡ form.premises → disjuncts ≡ form.disjuncts
    → ((c : Candidate) → IsSuited c old → IsSuited c begun) → Goes begun opposed → Goes opposed full
    → ((c : Candidate) → AllByRecursion (AtomTrue (world c) shown) premises ⊎ Covers c opposed)
    → ((c : Candidate) (xs : List ℕ) → length xs ≡ form.existentials → AllByRecursion (λ x. x < size) xs → AreNear near xs
    → SomeTrue c (values ++ xs) disjuncts → Covers c full)
    → GoesIf (λ c. Covers c full) full new → GoesIf (NearTrue size near form values) old new
near_instance_goes size near form values shown premises disjuncts old begun opposed full new same first_are options_are
    begin first second premises_or options finish c instance suited =
    finish c (covers (premises_or c)) (second.suited c (first.suited c (begin c suited)))
  where
    covers : AllByRecursion (AtomTrue (world c) shown) premises ⊎ Covers c opposed → Covers c full
    covers (inr covered) = second.grows.covers c covered
    covers (inl holds) =
        let conclusion : NearConclusion size near form values c = instance (subst (AllByRecursion (AtomTrue (world c) values)) first_are
        (subst (λ xs. AllByRecursion (AtomTrue (world c) xs) premises) same holds)) in
        options c conclusion.witnesses conclusion.count conclusion.below conclusion.are_near
        (subst (SomeTrue c (values ++ conclusion.witnesses)) (sym options_are) conclusion.holds)

-- a clause at elements that are first ones
pub near_choice_goes : (size near first more : ℕ) (form : Form) (values : List ℕ) (s t : Drawn) → IsWellFormed 0 form → near ≤ first → first < size
    → more ≡ first + form.existentials → length values ≡ form.universals → AllByRecursion (λ x. x < first) values
    → GoesIf (NearTrue size first form values) s t → GoesNearBy size form near more s t
near_choice_goes size near first more form values s t well few inside more_is length_is low goes rules ruled count formed fair =
    subst (λ m. IsNearFair size rules count m t) (sym more_is)
    (near_next size count first rules formed form ruled well values length_is low (each_map (λ x l. omega (arith, l, inside)) values low) s t goes
    (near_more size rules count near first s few fair))

-- the form of a rule is true where the rules are suited
pub rule_ruled : (size : ℕ) (rules : List Rule) (i : ℕ) (rule : Rule) → slice_get rules i ≡ Some rule → IsRuled size rules rule.form.now
rule_ruled size rules i rule at c suits = each_get (λ (r : Rule). FormTrue (world c) r.form.now) rules i rule suits.hold at
