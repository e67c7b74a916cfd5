-- What is decided by trying all elements of a finite structure.
use Rattle.std.proofs.Common.{◌≡◌, ℕ, zero, suc, ◌<◌, ◌⊎◌, inl, inr, Bool, true, false, List, [], ◌∷◌, ◌++◌, length, refl, subst, arith}
use Rattle.std.specs.Prelude.{nat_lt}
use Rattle.std.specs.List.{AllByRecursion}
use Rattle.text_core.specs.Lists.{SomeOf}
use Rattle.logic_core.specs.Forms.{Interpretation, AtomTrue, ConclusionTrue, FormTrue}
use Rattle.logic_core.specs.declared.form.Atom.{Atom}
use Rattle.logic_core.specs.declared.form.Form.{Form}

-- it is so, or it is not
abbrev pub Decided : Type 0 → Type 0
Decided P = P ⊎ (P → ⊥)

-- two truth values are the same or not
same_decided : (a b : Bool) → Decided (a ≡ b)
same_decided true true = inl refl
same_decided true false = inr (λ e. absurd (cc))
same_decided false true = inr (λ e. absurd (cc))
same_decided false false = inl refl

-- each member has P or not each does
each_decided : {X : Type 0} (P : X → Type 0) → ((x : X) → Decided (P x)) → (xs : List X) → Decided (AllByRecursion P xs)
each_decided P decided [] = inl tt
each_decided P decided (x ∷ xs) =
    elim (decided x) [
      | inl p ↦ elim (each_decided P decided xs) [ inl ps ↦ inl (p, ps) | inr other ↦ inr (λ h. other h.1) ]
      | inr other ↦ inr (λ h. other h.0)
    ]

-- some member has P or none does
some_decided : {X : Type 0} (P : X → Type 0) → ((x : X) → Decided (P x)) → (xs : List X) → Decided (SomeOf P xs)
some_decided P decided [] = inr (λ h. h)
some_decided P decided (x ∷ xs) =
    elim (decided x) [
      | inl p ↦ inl (inl p)
      | inr other ↦ elim (some_decided P decided xs) [ inl some ↦ inl (inr some) | inr none ↦ inr (λ h. elim h [ inl p ↦ other p | inr some ↦ none some ]) ]
    ]

-- a number below the next one is below this one, or it is this one
pub below_or_this : (x n : ℕ) → x < suc n → (x < n) ⊎ (x ≡ n)
below_or_this x n h = by (nat_lt x n) refl
  where
    by : (b : Bool) → nat_lt x n ≡ b → (x < n) ⊎ (x ≡ n)
    by true e = inl (grind (arith, e))
    by false e = inr (grind (arith, e, h))

-- some number below has P or none does
record SomeBelow (n : ℕ) (P : ℕ → Type 0) : Type 0 where
  number : ℕ
  below : number < n
  holds : P number

below_decided : (P : ℕ → Type 0) → ((x : ℕ) → Decided (P x)) → (n : ℕ) → Decided (SomeBelow n P)
below_decided P decided zero = inr (λ h. let below = h.below in absurd (omega (arith, below)))
below_decided P decided (suc n) =
    elim (decided n) [
      | inl p ↦ inl (record { number = n; below = omega arith; holds = p })
      | inr other ↦ elim (below_decided P decided n) [
        | inl some ↦ inl (record { number = some.number; below = (let below = some.below in omega (arith, below)); holds = some.holds })
        | inr none ↦ inr (λ h. elim (below_or_this h.number n h.below) [
          | inl below ↦ none (record { number = h.number; below = below; holds = h.holds })
          | inr this ↦ other (subst P this h.holds)
        ])
      ]
    ]

-- so many numbers below have P together
pub record SomeNumbers (n count : ℕ) (P : List ℕ → Type 0) : Type 0 where
  pub numbers : List ℕ
  pub length_is : length numbers ≡ count
  pub below : AllByRecursion (λ x. x < n) numbers
  pub holds : P numbers

-- the first and the others
first_number : (n count : ℕ) (P : List ℕ → Type 0) (numbers : List ℕ) → length numbers ≡ suc count → AllByRecursion (λ x. x < n) numbers → P numbers
    → SomeBelow n (λ x. SomeNumbers n count (λ xs. P (x ∷ xs)))
first_number n count P [] e below holds = absurd (omega (arith, e))
first_number n count P (x ∷ xs) e below holds =
    record { number = x; below = below.0; holds = record { numbers = xs; length_is = omega (arith, e); below = below.1; holds = holds } }

no_numbers : (P : List ℕ → Type 0) (numbers : List ℕ) → length numbers ≡ 0 → P numbers → P []
no_numbers P [] e holds = holds
no_numbers P (x ∷ xs) e holds = absurd (omega (arith, e))

numbers_decided : (n count : ℕ) (P : List ℕ → Type 0) → ((xs : List ℕ) → Decided (P xs)) → Decided (SomeNumbers n count P)
numbers_decided n zero P decided =
    elim (decided []) [
      | inl p ↦ inl (record { numbers = []; length_is = refl; below = tt; holds = p })
      | inr other ↦ inr (λ h. other (no_numbers P h.numbers h.length_is h.holds))
    ]
numbers_decided n (suc count) P decided =
    elim (below_decided (λ x. SomeNumbers n count (λ xs. P (x ∷ xs))) (λ x. numbers_decided n count (λ xs. P (x ∷ xs)) (λ xs. decided (x ∷ xs))) n) [
      | inl some ↦ inl (record {
        numbers = some.number ∷ some.holds.numbers;
        length_is = (let rest = some.holds.length_is in omega (arith, rest));
        below = (some.below, some.holds.below);
        holds = some.holds.holds;
      })
      | inr none ↦ inr (λ h. none (first_number n count P h.numbers h.length_is h.below h.holds))
    ]

-- in a structure whose elements are the numbers below one
module _ (n : ℕ) (holds : ℕ → List ℕ → Bool) (place : ℕ → ℕ) where
  abbrev pub numbers_below : Interpretation
  numbers_below = record { element = λ x. x < n; holds = holds; place = place }

  atoms_decided : (values : List ℕ) (atoms : List Atom) → Decided (AllByRecursion (AtomTrue numbers_below values) atoms)
  atoms_decided values atoms = each_decided (AtomTrue numbers_below values) (λ atom. same_decided _ atom.positive) atoms

  -- a conclusion is true or not
  conclusion_decided : (form : Form) (universals : List ℕ) → Decided (ConclusionTrue numbers_below form universals)
  conclusion_decided form universals =
      elim (numbers_decided n form.existentials (λ xs. SomeOf (AllByRecursion (AtomTrue numbers_below (universals ++ xs))) form.disjuncts)
      (λ xs. some_decided (AllByRecursion (AtomTrue numbers_below (universals ++ xs))) (atoms_decided (universals ++ xs)) form.disjuncts)) [
        | inl h ↦ inl (record { existentials = h.numbers; values = record { length_is = h.length_is; are = h.below }; holds = h.holds })
        | inr none ↦ inr (λ c. none (record { numbers = c.existentials; length_is = c.values.length_is; below = c.values.are; holds = c.holds }))
      ]

  -- at these values a form is not true
  abbrev pub FailsAt : Form → List ℕ → Type 0
  FailsAt form xs = AllByRecursion (AtomTrue numbers_below xs) form.premises × (ConclusionTrue numbers_below form xs → ⊥)

  fails_decided : (form : Form) (xs : List ℕ) → Decided (FailsAt form xs)
  fails_decided form xs =
      elim (atoms_decided xs form.premises) [
        | inl premises ↦ elim (conclusion_decided form xs) [ inl c ↦ inr (λ h. h.1 c) | inr other ↦ inl (premises, other) ]
        | inr other ↦ inr (λ h. other h.0)
      ]

  -- a form that is not true has values at which it is not
  pub form_fails : (form : Form) → (FormTrue numbers_below form → ⊥) → SomeNumbers n form.universals (FailsAt form)
  form_fails form other =
      elim (numbers_decided n form.universals (FailsAt form) (fails_decided form)) [
        | inl h ↦ h
        | inr none ↦ absurd (other (λ xs are premises. elim (conclusion_decided form xs) [
          | inl c ↦ c
          | inr not ↦ absurd (none (record { numbers = xs; length_is = are.length_is; below = are.are; holds = (premises, not) }))
        ]))
      ]
