-- The counts of a formula are those of its reading: the forms are as many as is told, and the greatest numbers are reached.
use Rattle.std.proofs.Common.{◌≡◌, ℕ, suc, ◌+◌, ◌*◌, ◌≤◌, ◌⊎◌, inl, inr, max, Bool, true, false, if◌then◌else◌, nat_le, List, [], ◌∷◌, ◌++◌, map, length, refl, ap, sym, ◌∙◌, arith, length-append}
use Rattle.std.proofs.Math.Nat.{suc-mul}
use Rattle.std.proofs.lemmas.List.{length-map}
use Rattle.std.proofs.lemmas.List.Sums.{sum_by-cons, sum_by-append}
use Rattle.std.proofs.lemmas.Bool.Decides.{nat_tests}
use Rattle.std.specs.List.{AllByRecursion, flat_map, sum_by}
use Rattle.text_core.specs.Names.{Text}
use Rattle.text_core.specs.Numbered.{Tables}
use Rattle.text_core.specs.Lists.{SomeOf}
use Rattle.text_core.proofs.Laws.{each_map, each_append, some_front, some_back, some_with}
use Rattle.logic_core.specs.Allowed.{HasOne, IsBoundIn, EachIsBoundIn, TwoOrMore}
use Rattle.logic_core.specs.declared.formula.Op.TheVariants.{Implies, Implied, Iff, Xor, Nor, Nand}
use Rattle.logic_core.specs.declared.formula.Formula.{Formula, True, False, Pred, Equal, Not', And', Or', Binary', ForAll', Exists', Row_of-Formula, end_of-Formula, more_of-Formula}
use Rattle.logic_core.specs.declared.form.Atom.{Atom}
use Rattle.logic_core.specs.declared.form.Form.{Form}
use Rattle.text_core.specs.declared.limits.TheConstants.{MOST_ARGUMENTS}
use Rattle.coherent_form.specs.Counts.{AreSmall, product, sum, bound, no_form, no_atom, one_atom, argument_count, conjunction_counts, conjunctions_counts, premise_counts, choices_counts, offers_counts, conclusion_counts, conclusions_counts, rule_counts, rules_counts}
use Rattle.coherent_form.specs.Offending.{are_plain}
use Rattle.coherent_form.specs.Reading.{slot_moved, atom_moved, alternative_joined, alternatives_joined, alternative_bound, form_of_head, form_bound, form_guarded, forms_guarded, slot_of, terms_of, atom_of, atoms_of, atoms_of_each, alternatives, choices, offers, head_of, head_of_each, forms_of, forms_of_each}
use Rattle.coherent_form.specs.Wide.{AtomIsNarrow, FormIsNarrow, AreNarrow}
use Rattle.coherent_form.specs.declared.alternative.Alternative.{Alternative}
use Rattle.coherent_form.specs.declared.alternative.Head.{Head}
use Rattle.coherent_form.specs.declared.counts.Counts.{Counts}
use Rattle.coherent_form.proofs.Below.{each_image}
use Rattle.coherent_form.proofs.Meanings.{some_image, some_that}

-- the greatest number of arguments
abbrev pub widest : List Atom → ℕ
widest [] = 0
widest (a ∷ atoms) = max (length a.args) (widest atoms)

-- the greatest number of arguments in disjuncts
abbrev pub widest_each : List (List Atom) → ℕ
widest_each [] = 0
widest_each (atoms ∷ rest) = max (widest atoms) (widest_each rest)

-- the greatest number in two lists is the greater one of theirs
widest-append : (xs ys : List Atom) → widest (xs ++ ys) ≡ max (widest xs) (widest ys)
widest-append [] ys = omega arith
widest-append (x ∷ xs) ys = let e = widest-append xs ys in omega arith

-- the same of disjuncts
widest_each-append : (xs ys : List (List Atom)) → widest_each (xs ++ ys) ≡ max (widest_each xs) (widest_each ys)
widest_each-append [] ys = omega arith
widest_each-append (x ∷ xs) ys = let e = widest_each-append xs ys in omega arith

-- moved atoms have as many arguments
widest-moved : (n k : ℕ) (xs : List Atom) → widest (map (atom_moved n k) xs) ≡ widest xs
widest-moved n k [] = refl
widest-moved n k (x ∷ xs) = λ i. max (length-map x.args (slot_moved n k) i) (widest-moved n k xs i)

-- the same of disjuncts
widest_each-moved : (n k : ℕ) (ds : List (List Atom)) → widest_each (map (map (atom_moved n k)) ds) ≡ widest_each ds
widest_each-moved n k [] = refl
widest_each-moved n k (d ∷ ds) = λ i. max (widest-moved n k d i) (widest_each-moved n k ds i)

-- the number of atoms of disjuncts
abbrev total : List (List Atom) → ℕ
total ds = sum_by length ds

-- no disjunct has no atom
none_total : total [] ≡ 0
none_total = refl

-- the atoms of two lists of disjuncts are added
total-append : (xs ys : List (List Atom)) → total (xs ++ ys) ≡ total xs + total ys
total-append xs ys = sum_by-append length xs ys

-- moved disjuncts have as many atoms
total-moved : (n k : ℕ) (ds : List (List Atom)) → total (map (map (atom_moved n k)) ds) ≡ total ds
total-moved n k [] = refl
total-moved n k (d ∷ ds) =
    let first = sum_by-cons length (map (atom_moved n k) d) (map (map (atom_moved n k)) ds) in
    let second = sum_by-cons length d ds in
    let same = length-map d (atom_moved n k) in
    let rest = total-moved n k ds in
    first ∙ (λ i. same i + rest i) ∙ sym second

-- a greatest number that is reached, or nothing

pub record Attains {X : Type 0} (f : X → ℕ) (xs : List X) (most : ℕ) : Type 0 where
  pub within : AllByRecursion (λ x. f x ≤ most) xs
  pub reached : (most ≡ 0) ⊎ SomeOf (λ x. f x ≡ most) xs

-- some member of a list that has one reaches the greatest number
attained : {X : Type 0} (f : X → ℕ) (xs : List X) (most : ℕ) → HasOne xs → Attains f xs most → SomeOf (λ x. f x ≡ most) xs
attained f [] most one h = absurd one
attained f (x ∷ xs) most one h = go h.reached
  where
    go : (most ≡ 0) ⊎ SomeOf (λ y. f y ≡ most) (x ∷ xs) → SomeOf (λ y. f y ≡ most) (x ∷ xs)
    go (inl none) = inl (let le : f x ≤ most = (h.within).0 in omega arith)
    go (inr some) = some

-- a single member reaches its own number
attains_one : {X : Type 0} (f : X → ℕ) (x : X) (most : ℕ) → f x ≡ most → Attains f (x ∷ []) most
attains_one f x most e = record { within = (let le : f x ≤ most = omega arith in le, tt); reached = inr (inl e) }

-- the empty list reaches nothing
attains_none : {X : Type 0} (f : X → ℕ) → Attains f [] 0
attains_none f = record { within = tt; reached = inl refl }

-- images whose numbers are greater by one amount
attains_image : {X Y : Type 0} (f : X → ℕ) (g : Y → ℕ) (h : X → Y) (k : ℕ) → ((x : X) → g (h x) ≡ k + f x) → (xs : List X) (most : ℕ) → HasOne xs
    → Attains f xs most → Attains g (map h xs) (k + most)
attains_image f g h k same xs most one a = record {
  within = each_image (λ y. g y ≤ k + most) h (λ x le. let e = same x in let l : f x ≤ most = le in omega arith) xs a.within;
  reached = inr (some_image (λ y. g y ≡ k + most) h (λ x is. same x ∙ ap (λ (n : ℕ). k + n) is) xs (attained f xs most one a));
}

-- images with the same numbers
attains_same : {X Y : Type 0} (f : X → ℕ) (g : Y → ℕ) (h : X → Y) → ((x : X) → g (h x) ≡ f x) → (xs : List X) (most : ℕ)
    → Attains f xs most → Attains g (map h xs) most
attains_same f g h same xs most a = record {
  within = each_image (λ y. g y ≤ most) h (λ x le. let e = same x in let l : f x ≤ most = le in omega arith) xs a.within;
  reached = elim a.reached [ inl none ↦ inl none | inr some ↦ inr (some_image (λ y. g y ≡ most) h (λ x is. same x ∙ is) xs some) ];
}

-- two lists together reach the greater number
attains_sum : {X : Type 0} (f : X → ℕ) (xs ys : List X) (p q : ℕ) → Attains f xs p → Attains f ys q → Attains f (xs ++ ys) (max p q)
attains_sum f xs ys p q a b = record {
  within = each_append (λ x. f x ≤ max p q) xs ys
      (each_map {Q = λ x. f x ≤ max p q} (λ x le. let l : f x ≤ p = le in omega arith) xs a.within)
      (each_map {Q = λ x. f x ≤ max p q} (λ x le. let l : f x ≤ q = le in omega arith) ys b.within);
  reached = go (nat_le q p) refl;
}
  where
    left : q ≤ p → (p ≡ 0) ⊎ SomeOf (λ x. f x ≡ p) xs → (max p q ≡ 0) ⊎ SomeOf (λ x. f x ≡ max p q) (xs ++ ys)
    left le (inl none) = inl (omega arith)
    left le (inr some) = inr (some_front (λ x. f x ≡ max p q) xs ys (some_that (λ x. f x ≡ max p q) (λ x is. let e : f x ≡ p = is in omega arith) xs some))

    right : p ≤ q → (q ≡ 0) ⊎ SomeOf (λ x. f x ≡ q) ys → (max p q ≡ 0) ⊎ SomeOf (λ x. f x ≡ max p q) (xs ++ ys)
    right le (inl none) = inl (omega arith)
    right le (inr some) = inr (some_back (λ x. f x ≡ max p q) xs ys (some_that (λ x. f x ≡ max p q) (λ x is. let e : f x ≡ q = is in omega arith) ys some))

    go : (t : Bool) → nat_le q p ≡ t → (max p q ≡ 0) ⊎ SomeOf (λ x. f x ≡ max p q) (xs ++ ys)
    go true is = left (grind (arith, nat_tests)) a.reached
    go false is = right (grind (arith, nat_tests)) b.reached

-- each of one list with each of another
module _ {A B C : Type 0} (h : A → B → C) (fa : A → ℕ) (fb : B → ℕ) (fc : C → ℕ) (op : ℕ → ℕ → ℕ)
    (grows : (a b c d : ℕ) → a ≤ c → b ≤ d → op a b ≤ op c d) (same : (a : A) (b : B) → fc (h a b) ≡ op (fa a) (fb b)) where
  -- no pair has more than both together
  pairs_within : (xs : List A) (ys : List B) (p q : ℕ) → AllByRecursion (λ a. fa a ≤ p) xs → AllByRecursion (λ b. fb b ≤ q) ys
      → AllByRecursion (λ c. fc c ≤ op p q) (flat_map (λ a. map (h a) ys) xs)
  pairs_within [] ys p q h1 h2 = tt
  pairs_within (a ∷ xs) ys p q h1 h2 = each_append (λ c. fc c ≤ op p q) (map (h a) ys) (flat_map (λ x. map (h x) ys) xs)
      (each_image (λ c. fc c ≤ op p q) (h a) (λ b le. let e = same a b in let l = grows (fa a) (fb b) p q h1.0 le in omega arith) ys h2)
      (pairs_within xs ys p q h1.1 h2)

  -- some pair reaches both together
  some_pair : (xs : List A) (ys : List B) (p q : ℕ) → SomeOf (λ a. fa a ≡ p) xs → SomeOf (λ b. fb b ≡ q) ys
      → SomeOf (λ c. fc c ≡ op p q) (flat_map (λ a. map (h a) ys) xs)
  some_pair [] ys p q h1 h2 = absurd h1
  some_pair (a ∷ xs) ys p q (inl e) h2 = some_front (λ c. fc c ≡ op p q) (map (h a) ys) (flat_map (λ x. map (h x) ys) xs)
      (some_image (λ c. fc c ≡ op p q) (h a) (λ b is. same a b ∙ (λ i. op (e i) (is i))) ys h2)
  some_pair (a ∷ xs) ys p q (inr e) h2 = some_back (λ c. fc c ≡ op p q) (map (h a) ys) (flat_map (λ x. map (h x) ys) xs) (some_pair xs ys p q e h2)

  -- so the pairs reach what both together reach
  attains_product : (xs : List A) (ys : List B) (p q : ℕ) → HasOne xs → HasOne ys → Attains fa xs p → Attains fb ys q
      → Attains fc (flat_map (λ a. map (h a) ys) xs) (op p q)
  attains_product xs ys p q one another a b = record {
    within = pairs_within xs ys p q a.within b.within;
    reached = inr (some_pair xs ys p q (attained fa xs p one a) (attained fb ys q another b));
  }

  -- there are as many pairs as the product tells
  pairs_counted : (xs : List A) (ys : List B) → length (flat_map (λ a. map (h a) ys) xs) ≡ length xs * length ys
  pairs_counted [] ys = omega arith
  pairs_counted (a ∷ xs) ys =
      length-append (map (h a) ys) (flat_map (λ x. map (h x) ys) xs)
      ∙ (λ i. length-map ys (h a) i + pairs_counted xs ys i)
      ∙ times (length xs) (length ys)
    where
      times : (m n : ℕ) → n + m * n ≡ suc m * n
      times m n = let e = suc-mul m n in omega arith

-- there is a pair where there is one of each
one_of_pairs : {A B C : Type 0} (h : A → B → C) (xs : List A) (ys : List B) → HasOne xs → HasOne ys → HasOne (flat_map (λ a. map (h a) ys) xs)
one_of_pairs h [] ys one another = absurd one
one_of_pairs h (a ∷ xs) [] one another = absurd another
one_of_pairs h (a ∷ xs) (b ∷ ys) one another = tt

-- a list is not empty where its front is not
one_of_front : {X : Type 0} (xs ys : List X) → HasOne xs → HasOne (xs ++ ys)
one_of_front [] ys one = absurd one
one_of_front (x ∷ xs) ys one = tt

-- images are not none where members are not
one_of_image : {X Y : Type 0} (f : X → Y) (xs : List X) → HasOne xs → HasOne (map f xs)
one_of_image f [] one = absurd one
one_of_image f (x ∷ xs) one = tt

-- a sum grows with its parts
plus_grows : (a b c d : ℕ) → a ≤ c → b ≤ d → a + b ≤ c + d
plus_grows a b c d h k = omega arith

-- the greater of two numbers grows with them
max_grows : (a b c d : ℕ) → a ≤ c → b ≤ d → max a b ≤ max c d
max_grows a b c d h k = omega arith

-- what a list has is as is told
pub record Measured {X : Type 0} (variables atoms arguments : X → ℕ) (xs : List X) (counts : Counts) : Type 0 where
  pub count : length xs ≡ counts.forms
  pub variables_are : Attains variables xs counts.variables
  pub atoms_are : Attains atoms xs counts.atoms
  pub arguments_are : Attains arguments xs counts.arguments

-- two lists together are as the sum of their counts tells
measured_sum : {X : Type 0} (v m g : X → ℕ) (xs ys : List X) (s t : Counts) → Measured v m g xs s → Measured v m g ys t → Measured v m g (xs ++ ys) (sum s t)
measured_sum v m g xs ys s t a b = record {
  count = length-append xs ys ∙ (λ i. a.count i + b.count i);
  variables_are = attains_sum v xs ys s.variables t.variables a.variables_are b.variables_are;
  atoms_are = attains_sum m xs ys s.atoms t.atoms a.atoms_are b.atoms_are;
  arguments_are = attains_sum g xs ys s.arguments t.arguments a.arguments_are b.arguments_are;
}

-- the empty list is as no counts tell
measured_none : {X : Type 0} (v m g : X → ℕ) → Measured v m g [] no_form
measured_none v m g = record { count = refl; variables_are = attains_none v; atoms_are = attains_none m; arguments_are = attains_none g }

-- alternatives

-- the variables of an alternative
abbrev v1 : Alternative → ℕ
v1 a = a.variables

-- its atoms
abbrev m1 : Alternative → ℕ
m1 a = length a.atoms

-- the greatest number of arguments of one of them
abbrev g1 : Alternative → ℕ
g1 a = widest a.atoms

-- the variables of a form
abbrev v2 : Form → ℕ
v2 form = form.universals + form.existentials

-- its atoms
abbrev m2 : Form → ℕ
m2 form = length form.premises + sum_by length form.disjuncts

-- the greatest number of arguments of one of them
abbrev g2 : Form → ℕ
g2 form = max (widest form.premises) (widest_each form.disjuncts)

-- alternatives that are joined have the atoms of both
joined_atoms : (n : ℕ) (a b : Alternative) → m1 (alternative_joined n a b) ≡ m1 a + m1 b
joined_atoms n a b = length-append a.atoms (map (atom_moved n a.variables) b.atoms) ∙ ap (λ (k : ℕ). length a.atoms + k) (length-map b.atoms (atom_moved n a.variables))

-- and the greater number of arguments
joined_arguments : (n : ℕ) (a b : Alternative) → g1 (alternative_joined n a b) ≡ max (g1 a) (g1 b)
joined_arguments n a b = widest-append a.atoms (map (atom_moved n a.variables) b.atoms) ∙ ap (max (widest a.atoms)) (widest-moved n a.variables b.atoms)

-- a form behind an alternative has the variables of both
guarded_variables : (n : ℕ) (a : Alternative) (form : Form) → v2 (form_guarded n a form) ≡ v1 a + v2 form
guarded_variables n a form = omega arith

-- and the atoms of both
guarded_atoms : (n : ℕ) (a : Alternative) (form : Form) → m2 (form_guarded n a form) ≡ m1 a + m2 form
guarded_atoms n a form =
    let first = length-append a.atoms (map (atom_moved n a.variables) form.premises) in
    let second = length-map form.premises (atom_moved n a.variables) in
    let third : sum_by length (map (map (atom_moved n a.variables)) form.disjuncts) ≡ sum_by length form.disjuncts = total-moved n a.variables form.disjuncts in
    omega arith

-- and the greater number of arguments
guarded_arguments : (n : ℕ) (a : Alternative) (form : Form) → g2 (form_guarded n a form) ≡ max (g1 a) (g2 form)
guarded_arguments n a form =
    let first = widest-append a.atoms (map (atom_moved n a.variables) form.premises) in
    let second = widest-moved n a.variables form.premises in
    let third = widest_each-moved n a.variables form.disjuncts in
    omega arith

-- alternatives that are joined are as the product of their counts tells
measured_joined : (n : ℕ) (xs ys : List Alternative) (s t : Counts) → HasOne xs → HasOne ys → Measured v1 m1 g1 xs s → Measured v1 m1 g1 ys t
    → Measured v1 m1 g1 (alternatives_joined n xs ys) (product s t)
measured_joined n xs ys s t one another a b = record {
  count = pairs_counted (alternative_joined n) v1 v1 v1 (λ p q. p + q) plus_grows (λ x y. refl) xs ys ∙ (λ i. a.count i * b.count i);
  variables_are = attains_product (alternative_joined n) v1 v1 v1 (λ p q. p + q) plus_grows (λ x y. refl) xs ys s.variables t.variables one another a.variables_are b.variables_are;
  atoms_are = attains_product (alternative_joined n) m1 m1 m1 (λ p q. p + q) plus_grows (joined_atoms n) xs ys s.atoms t.atoms one another a.atoms_are b.atoms_are;
  arguments_are = attains_product (alternative_joined n) g1 g1 g1 max max_grows (joined_arguments n) xs ys s.arguments t.arguments one another a.arguments_are b.arguments_are;
}

-- so are forms behind alternatives
measured_guarded : (n : ℕ) (xs : List Alternative) (ys : List Form) (s t : Counts) → HasOne xs → HasOne ys → Measured v1 m1 g1 xs s → Measured v2 m2 g2 ys t
    → Measured v2 m2 g2 (forms_guarded n xs ys) (product s t)
measured_guarded n xs ys s t one another a b = record {
  count = pairs_counted (form_guarded n) v1 v2 v2 (λ p q. p + q) plus_grows (guarded_variables n) xs ys ∙ (λ i. a.count i * b.count i);
  variables_are = attains_product (form_guarded n) v1 v2 v2 (λ p q. p + q) plus_grows (guarded_variables n) xs ys s.variables t.variables one another a.variables_are b.variables_are;
  atoms_are = attains_product (form_guarded n) m1 m2 m2 (λ p q. p + q) plus_grows (guarded_atoms n) xs ys s.atoms t.atoms one another a.atoms_are b.atoms_are;
  arguments_are = attains_product (form_guarded n) g1 g2 g2 max max_grows (guarded_arguments n) xs ys s.arguments t.arguments one another a.arguments_are b.arguments_are;
}

module _ (tables : Tables) where
  -- conjunctions

  record ConjunctionCounted (atoms : List Atom) (c : Counts) : Type 0 where
    pub forms : c.forms ≡ 1
    pub variables : c.variables ≡ 0
    pub atoms_are : length atoms ≡ c.atoms
    pub arguments : widest atoms ≡ c.arguments

  -- a single atom is as is told
  one_counted : (scope : List Text) (positive : Bool) (f : Formula) (n : ℕ) → length (terms_of tables f) ≡ n → ConjunctionCounted (atom_of tables scope positive f ∷ []) (one_atom n)
  one_counted scope positive f n e = record {
    forms = refl;
    variables = refl;
    atoms_are = refl;
    arguments = (let long = length-map (terms_of tables f) (slot_of tables scope) in omega arith);
  }

  -- the arguments of what is negated are as many as is told
  negated_count : (f : Formula) → length (terms_of tables f) ≡ argument_count f
  negated_count True = refl
  negated_count False = refl
  negated_count (Pred p ts) = refl
  negated_count (Equal t u) = refl
  negated_count (Not' _ row) = refl
  negated_count (And' _ row) = refl
  negated_count (Or' _ row) = refl
  negated_count (Binary' op _ row _ more) = refl
  negated_count (ForAll' xs _ row) = refl
  negated_count (Exists' xs _ row) = refl

  -- no atom is as is told
  none_counted : ConjunctionCounted [] no_atom
  none_counted = record { forms = refl; variables = refl; atoms_are = refl; arguments = refl }

  mutual
    -- the atoms of a conjunction are as is told
    conjunction_counted : (f : Formula) (scope : List Text) → ConjunctionCounted (atoms_of tables scope f) (conjunction_counts f)
    conjunction_counted True scope = none_counted
    conjunction_counted False scope = none_counted
    conjunction_counted (Pred p ts) scope = one_counted scope true (Pred p ts) (length ts) refl
    conjunction_counted (Equal t u) scope = one_counted scope true (Equal t u) 2 refl
    conjunction_counted (Not' _ (more_of-Formula g _)) scope = one_counted scope false g (argument_count g) (negated_count g)
    conjunction_counted (And' _ members) scope = conjunctions_counted members scope
    conjunction_counted (Or' _ members) scope = none_counted
    conjunction_counted (Binary' op _ (more_of-Formula g _) _ (more_of-Formula h _)) scope = none_counted
    conjunction_counted (ForAll' xs _ (more_of-Formula g _)) scope = none_counted
    conjunction_counted (Exists' xs _ (more_of-Formula g _)) scope = none_counted

    -- those of members too
    conjunctions_counted : {n : _} (members : Row_of-Formula n) (scope : List Text) → ConjunctionCounted (atoms_of_each tables scope members) (conjunctions_counts members)
    conjunctions_counted end_of-Formula scope = none_counted
    conjunctions_counted (more_of-Formula g rest) scope =
        let a = conjunction_counted g scope in
        let b = conjunctions_counted rest scope in
        record {
          forms = (λ i. a.forms i * b.forms i);
          variables = (λ i. a.variables i + b.variables i);
          atoms_are = length-append (atoms_of tables scope g) (atoms_of_each tables scope rest) ∙ (λ i. a.atoms_are i + b.atoms_are i);
          arguments = widest-append (atoms_of tables scope g) (atoms_of_each tables scope rest) ∙ (λ i. max (a.arguments i) (b.arguments i));
        }

  -- premises

  -- an alternative without variables is as is told
  plain_measured : (atoms : List Atom) (c : Counts) → ConjunctionCounted atoms c → Measured v1 m1 g1 (record { variables = 0; atoms = atoms } ∷ []) c
  plain_measured atoms c k = record {
    count = sym k.forms;
    variables_are = attains_one v1 (record { variables = 0; atoms = atoms }) c.variables (sym k.variables);
    atoms_are = attains_one m1 (record { variables = 0; atoms = atoms }) c.atoms k.atoms_are;
    arguments_are = attains_one g1 (record { variables = 0; atoms = atoms }) c.arguments k.arguments;
  }

  -- variables in front of alternatives
  bound_measured : (k : ℕ) (xs : List Alternative) (c : Counts) → HasOne xs → Measured v1 m1 g1 xs c → Measured v1 m1 g1 (map (alternative_bound k) xs) (bound k c)
  bound_measured k xs c one a = record {
    count = length-map xs (alternative_bound k) ∙ a.count;
    variables_are = attains_image v1 v1 (alternative_bound k) k (λ x. refl) xs c.variables one a.variables_are;
    atoms_are = attains_same m1 m1 (alternative_bound k) (λ x. refl) xs c.atoms a.atoms_are;
    arguments_are = attains_same g1 g1 (alternative_bound k) (λ x. refl) xs c.arguments a.arguments_are;
  }

  -- a list that has a member and is as is told
  pub record Told {X : Type 0} (v m g : X → ℕ) (xs : List X) (c : Counts) : Type 0 where
    pub one : HasOne xs
    pub measured : Measured v m g xs c

  mutual
    -- the alternatives of a premise are as is told, and there is one
    premise_told : (f : Formula) (inside scope : List Text) → IsBoundIn inside f → Told v1 m1 g1 (alternatives tables scope f) (premise_counts f)
    premise_told True inside scope closed = record { one = tt; measured = plain_measured [] no_atom none_counted }
    premise_told False inside scope closed = record { one = tt; measured = plain_measured [] no_atom none_counted }
    premise_told (Pred p ts) inside scope closed = record { one = tt; measured = plain_measured (atoms_of tables scope (Pred p ts)) (one_atom (length ts)) (conjunction_counted (Pred p ts) scope) }
    premise_told (Equal t u) inside scope closed = record { one = tt; measured = plain_measured (atoms_of tables scope (Equal t u)) (one_atom 2) (conjunction_counted (Equal t u) scope) }
    premise_told (Not' s (more_of-Formula g rest)) inside scope closed =
        record { one = tt; measured = plain_measured (atoms_of tables scope (Not' s (more_of-Formula g rest))) (one_atom (argument_count g)) (conjunction_counted (Not' s (more_of-Formula g rest)) scope) }
    premise_told (And' _ members) inside scope closed = choices_told members inside scope closed.1
    premise_told (Or' _ members) inside scope closed = record { one = offers_one members inside scope closed.0 closed.1; measured = offers_told members inside scope closed.1 }
    premise_told (Binary' op _ (more_of-Formula g _) _ (more_of-Formula h _)) inside scope closed = record { one = tt; measured = plain_measured [] no_atom none_counted }
    premise_told (ForAll' xs _ (more_of-Formula g _)) inside scope closed = record { one = tt; measured = plain_measured [] no_atom none_counted }
    premise_told (Exists' xs _ (more_of-Formula g _)) inside scope closed =
        let a = premise_told g (xs ++ inside) (scope ++ xs) closed.1 in
        record {
          one = one_of_image (alternative_bound (length xs)) (alternatives tables (scope ++ xs) g) a.one;
          measured = bound_measured (length xs) (alternatives tables (scope ++ xs) g) (premise_counts g) a.one a.measured;
        }

    -- every choice from members
    choices_told : {n : _} (members : Row_of-Formula n) (inside scope : List Text) → EachIsBoundIn inside members → Told v1 m1 g1 (choices tables scope members) (choices_counts members)
    choices_told end_of-Formula inside scope closed = record { one = tt; measured = plain_measured [] no_atom none_counted }
    choices_told (more_of-Formula g rest) inside scope closed =
        let a = premise_told g inside scope closed.0 in
        let b = choices_told rest inside scope closed.1 in
        record {
          one = one_of_pairs (alternative_joined (length scope)) (alternatives tables scope g) (choices tables scope rest) a.one b.one;
          measured = measured_joined (length scope) (alternatives tables scope g) (choices tables scope rest) (premise_counts g) (choices_counts rest) a.one b.one a.measured b.measured;
        }

    -- some member of two or more has an alternative
    offers_one : {n : _} (members : Row_of-Formula n) (inside scope : List Text) → TwoOrMore members → EachIsBoundIn inside members → HasOne (offers tables scope members)
    offers_one end_of-Formula inside scope two closed = absurd two
    offers_one (more_of-Formula g rest) inside scope two closed = one_of_front (alternatives tables scope g) (offers tables scope rest) (premise_told g inside scope closed.0).one

    -- the alternatives of members
    offers_told : {n : _} (members : Row_of-Formula n) (inside scope : List Text) → EachIsBoundIn inside members → Measured v1 m1 g1 (offers tables scope members) (offers_counts members)
    offers_told end_of-Formula inside scope closed = measured_none v1 m1 g1
    offers_told (more_of-Formula g rest) inside scope closed =
        measured_sum v1 m1 g1 (alternatives tables scope g) (offers tables scope rest) (premise_counts g) (offers_counts rest)
        (premise_told g inside scope closed.0).measured (offers_told rest inside scope closed.1)

  -- conclusions

  record HeadCounted (h : Head) (c : Counts) : Type 0 where
    pub forms : c.forms ≡ 1
    pub variables : h.variables ≡ c.variables
    pub atoms_are : total h.disjuncts ≡ c.atoms
    pub arguments : widest_each h.disjuncts ≡ c.arguments

  -- a conjunction as a conclusion is as is told
  plain_head_counted : (atoms : List Atom) (c : Counts) → ConjunctionCounted atoms c → HeadCounted (record { variables = 0; disjuncts = atoms ∷ [] }) c
  plain_head_counted atoms c k = record {
    forms = k.forms;
    variables = sym k.variables;
    atoms_are = (let e = sum_by-cons length atoms [] in let none = none_total in let a = k.atoms_are in omega arith);
    arguments = (let a = k.arguments in omega arith);
  }

  -- a conclusion without disjuncts too
  no_head_counted : HeadCounted (record { variables = 0; disjuncts = [] }) no_atom
  no_head_counted = record { forms = refl; variables = refl; atoms_are = refl; arguments = refl }

  mutual
    -- a conclusion is as is told
    head_counted : (f : Formula) (scope : List Text) → HeadCounted (head_of tables scope f) (conclusion_counts f)
    head_counted True scope = plain_head_counted [] no_atom none_counted
    head_counted False scope = no_head_counted
    head_counted (Pred p ts) scope = plain_head_counted (atoms_of tables scope (Pred p ts)) (one_atom (length ts)) (conjunction_counted (Pred p ts) scope)
    head_counted (Equal t u) scope = plain_head_counted (atoms_of tables scope (Equal t u)) (one_atom 2) (conjunction_counted (Equal t u) scope)
    head_counted (Not' s (more_of-Formula g rest)) scope =
        plain_head_counted (atoms_of tables scope (Not' s (more_of-Formula g rest))) (one_atom (argument_count g)) (conjunction_counted (Not' s (more_of-Formula g rest)) scope)
    head_counted (And' s members) scope = plain_head_counted (atoms_of_each tables scope members) (conjunctions_counts members) (conjunctions_counted members scope)
    head_counted (Or' _ members) scope = heads_counted members scope
    head_counted (Binary' op _ (more_of-Formula g _) _ (more_of-Formula h _)) scope = plain_head_counted [] no_atom none_counted
    head_counted (ForAll' xs _ (more_of-Formula g _)) scope = plain_head_counted [] no_atom none_counted
    head_counted (Exists' xs _ (more_of-Formula g _)) scope =
        let a = head_counted g (scope ++ xs) in
        record { forms = a.forms; variables = ap (λ (k : ℕ). length xs + k) a.variables; atoms_are = a.atoms_are; arguments = a.arguments }

    -- the conclusion that is any of some members too
    heads_counted : {n : _} (members : Row_of-Formula n) (scope : List Text) → HeadCounted (head_of_each tables scope members) (conclusions_counts members)
    heads_counted end_of-Formula scope = no_head_counted
    heads_counted (more_of-Formula g rest) scope =
        let a = head_counted g scope in
        let b = heads_counted rest scope in
        let h : Head = head_of tables scope g in
        let k : Head = head_of_each tables scope rest in
        record {
          forms = (λ i. a.forms i * b.forms i);
          variables = (λ i. a.variables i + b.variables i);
          atoms_are = total-append h.disjuncts (map (map (atom_moved (length scope) h.variables)) k.disjuncts)
              ∙ (λ i. a.atoms_are i + (total-moved (length scope) h.variables k.disjuncts ∙ b.atoms_are) i);
          arguments = widest_each-append h.disjuncts (map (map (atom_moved (length scope) h.variables)) k.disjuncts)
              ∙ (λ i. max (a.arguments i) ((widest_each-moved (length scope) h.variables k.disjuncts ∙ b.arguments) i));
        }

  -- rules

  -- a conclusion as a form is as is told
  head_told : (h : Head) (c : Counts) → HeadCounted h c → Told v2 m2 g2 (form_of_head h ∷ []) c
  head_told h c k = record {
    one = tt;
    measured = record {
      count = sym k.forms;
      variables_are = attains_one v2 (form_of_head h) c.variables (let a = k.variables in omega arith);
      atoms_are = attains_one m2 (form_of_head h) c.atoms (let a : sum_by length h.disjuncts ≡ c.atoms = k.atoms_are in omega arith);
      arguments_are = attains_one g2 (form_of_head h) c.arguments (let a = k.arguments in omega arith);
    };
  }

  -- variables in front of a form are added
  form_bound_variables : (k : ℕ) (form : Form) → v2 (form_bound k form) ≡ k + v2 form
  form_bound_variables k form = omega arith

  -- variables in front of forms
  form_bound_measured : (k : ℕ) (xs : List Form) (c : Counts) → HasOne xs → Measured v2 m2 g2 xs c → Measured v2 m2 g2 (map (form_bound k) xs) (bound k c)
  form_bound_measured k xs c one a = record {
    count = length-map xs (form_bound k) ∙ a.count;
    variables_are = attains_image v2 v2 (form_bound k) k (form_bound_variables k) xs c.variables one a.variables_are;
    atoms_are = attains_same m2 m2 (form_bound k) (λ x. refl) xs c.atoms a.atoms_are;
    arguments_are = attains_same g2 g2 (form_bound k) (λ x. refl) xs c.arguments a.arguments_are;
  }

  -- forms behind alternatives
  guarded_told : (n : ℕ) (xs : List Alternative) (ys : List Form) (s t : Counts) → Told v1 m1 g1 xs s → Told v2 m2 g2 ys t → Told v2 m2 g2 (forms_guarded n xs ys) (product s t)
  guarded_told n xs ys s t a b = record { one = one_of_pairs (form_guarded n) xs ys a.one b.one; measured = measured_guarded n xs ys s t a.one b.one a.measured b.measured }

  -- two lists of forms
  sum_told : (xs ys : List Form) (s t : Counts) → Told v2 m2 g2 xs s → Measured v2 m2 g2 ys t → Told v2 m2 g2 (xs ++ ys) (sum s t)
  sum_told xs ys s t a b = record { one = one_of_front xs ys a.one; measured = measured_sum v2 m2 g2 xs ys s t a.measured b }

  -- of two choices by one test
  by_plain : (b : Bool) (xs ys : List Form) (s t : Counts) → Told v2 m2 g2 xs s → Told v2 m2 g2 ys t → Told v2 m2 g2 (if b then xs else ys) (if b then s else t)
  by_plain true xs ys s t a c = a
  by_plain false xs ys s t a c = c

  mutual
    -- the forms of a rule are as is told, and there is one
    pub rule_told : (f : Formula) (inside scope : List Text) → IsBoundIn inside f → Told v2 m2 g2 (forms_of tables scope f) (rule_counts f)
    rule_told True inside scope closed = head_told (head_of tables scope True) no_atom (head_counted True scope)
    rule_told False inside scope closed = head_told (head_of tables scope False) no_atom (head_counted False scope)
    rule_told (Pred p ts) inside scope closed = head_told (head_of tables scope (Pred p ts)) (one_atom (length ts)) (head_counted (Pred p ts) scope)
    rule_told (Equal t u) inside scope closed = head_told (head_of tables scope (Equal t u)) (one_atom 2) (head_counted (Equal t u) scope)
    rule_told (Not' s (more_of-Formula g rest)) inside scope closed =
        head_told (head_of tables scope (Not' s (more_of-Formula g rest))) (one_atom (argument_count g)) (head_counted (Not' s (more_of-Formula g rest)) scope)
    rule_told (Or' s members) inside scope closed = head_told (head_of tables scope (Or' s members)) (conclusions_counts members) (head_counted (Or' s members) scope)
    rule_told (Exists' xs s (more_of-Formula g rest)) inside scope closed =
        head_told (head_of tables scope (Exists' xs s (more_of-Formula g rest))) (bound (length xs) (conclusion_counts g)) (head_counted (Exists' xs s (more_of-Formula g rest)) scope)
    rule_told (And' s members) inside scope closed =
        by_plain (are_plain members) (form_of_head (head_of tables scope (And' s members)) ∷ []) (forms_of_each tables scope members)
        (conjunctions_counts members) (rules_counts members)
        (head_told (head_of tables scope (And' s members)) (conjunctions_counts members) (head_counted (And' s members) scope))
        (record { one = rules_one members inside scope closed.0 closed.1; measured = rules_told members inside scope closed.1 })
    rule_told (ForAll' xs _ (more_of-Formula g _)) inside scope closed =
        let a = rule_told g (xs ++ inside) (scope ++ xs) closed.1 in
        record {
          one = one_of_image (form_bound (length xs)) (forms_of tables (scope ++ xs) g) a.one;
          measured = form_bound_measured (length xs) (forms_of tables (scope ++ xs) g) (rule_counts g) a.one a.measured;
        }
    rule_told (Binary' Implies _ (more_of-Formula g _) _ (more_of-Formula h _)) inside scope closed =
        guarded_told (length scope) (alternatives tables scope g) (forms_of tables scope h) (premise_counts g) (rule_counts h) (premise_told g inside scope closed.0) (rule_told h inside scope closed.1)
    rule_told (Binary' Implied _ (more_of-Formula g _) _ (more_of-Formula h _)) inside scope closed =
        guarded_told (length scope) (alternatives tables scope h) (forms_of tables scope g) (premise_counts h) (rule_counts g) (premise_told h inside scope closed.1) (rule_told g inside scope closed.0)
    rule_told (Binary' Iff _ (more_of-Formula g _) _ (more_of-Formula h _)) inside scope closed =
        sum_told (forms_guarded (length scope) (alternatives tables scope g) (forms_of tables scope h)) (forms_guarded (length scope) (alternatives tables scope h) (forms_of tables scope g))
        (product (premise_counts g) (rule_counts h)) (product (premise_counts h) (rule_counts g))
        (guarded_told (length scope) (alternatives tables scope g) (forms_of tables scope h) (premise_counts g) (rule_counts h) (premise_told g inside scope closed.0) (rule_told h inside scope closed.1))
        (guarded_told (length scope) (alternatives tables scope h) (forms_of tables scope g) (premise_counts h) (rule_counts g) (premise_told h inside scope closed.1) (rule_told g inside scope closed.0)).measured
    rule_told (Binary' Xor s (more_of-Formula g r) t (more_of-Formula h q)) inside scope closed = head_told (record { variables = 0; disjuncts = [] ∷ [] }) no_atom (plain_head_counted [] no_atom none_counted)
    rule_told (Binary' Nor s (more_of-Formula g r) t (more_of-Formula h q)) inside scope closed = head_told (record { variables = 0; disjuncts = [] ∷ [] }) no_atom (plain_head_counted [] no_atom none_counted)
    rule_told (Binary' Nand s (more_of-Formula g r) t (more_of-Formula h q)) inside scope closed = head_told (record { variables = 0; disjuncts = [] ∷ [] }) no_atom (plain_head_counted [] no_atom none_counted)

    -- some member of two or more has a form
    rules_one : {n : _} (members : Row_of-Formula n) (inside scope : List Text) → TwoOrMore members → EachIsBoundIn inside members → HasOne (forms_of_each tables scope members)
    rules_one end_of-Formula inside scope two closed = absurd two
    rules_one (more_of-Formula g rest) inside scope two closed = one_of_front (forms_of tables scope g) (forms_of_each tables scope rest) (rule_told g inside scope closed.0).one

    -- the forms of members
    rules_told : {n : _} (members : Row_of-Formula n) (inside scope : List Text) → EachIsBoundIn inside members → Measured v2 m2 g2 (forms_of_each tables scope members) (rules_counts members)
    rules_told end_of-Formula inside scope closed = measured_none v2 m2 g2
    rules_told (more_of-Formula g rest) inside scope closed =
        measured_sum v2 m2 g2 (forms_of tables scope g) (forms_of_each tables scope rest) (rule_counts g) (rules_counts rest)
        (rule_told g inside scope closed.0).measured (rules_told rest inside scope closed.1)

-- the limits

-- atoms are narrow where their greatest number is small
narrow_atoms : (atoms : List Atom) → widest atoms ≤ MOST_ARGUMENTS → AllByRecursion AtomIsNarrow atoms
narrow_atoms [] h = tt
narrow_atoms (a ∷ atoms) h = (omega arith, narrow_atoms atoms (omega arith))

-- so are disjuncts
narrow_disjuncts : (ds : List (List Atom)) → widest_each ds ≤ MOST_ARGUMENTS → AllByRecursion (AllByRecursion AtomIsNarrow) ds
narrow_disjuncts [] h = tt
narrow_disjuncts (d ∷ ds) h = (narrow_atoms d (omega arith), narrow_disjuncts ds (omega arith))

-- the greatest number is small where the atoms are narrow
widest_narrow : (atoms : List Atom) → AllByRecursion AtomIsNarrow atoms → widest atoms ≤ MOST_ARGUMENTS
widest_narrow [] h = omega arith
widest_narrow (a ∷ atoms) h = let first : length a.args ≤ MOST_ARGUMENTS = h.0 in let rest = widest_narrow atoms h.1 in omega arith

-- the same of disjuncts
widest_each_narrow : (ds : List (List Atom)) → AllByRecursion (AllByRecursion AtomIsNarrow) ds → widest_each ds ≤ MOST_ARGUMENTS
widest_each_narrow [] h = omega arith
widest_each_narrow (d ∷ ds) h = let first = widest_narrow d h.0 in let rest = widest_each_narrow ds h.1 in omega arith

-- forms are narrow where their counts are small
forms_narrow : (c : Counts) (forms : List Form) → AreSmall c → AllByRecursion (λ f. v2 f ≤ c.variables) forms → AllByRecursion (λ f. m2 f ≤ c.atoms) forms
    → AllByRecursion (λ f. g2 f ≤ c.arguments) forms → AllByRecursion FormIsNarrow forms
forms_narrow c [] small v m g = tt
forms_narrow c (form ∷ forms) small v m g =
    let a = small.variables in
    let b = small.atoms in
    let d = small.arguments in
    let v0 : v2 form ≤ c.variables = v.0 in
    let m0 : m2 form ≤ c.atoms = m.0 in
    let g0 : g2 form ≤ c.arguments = g.0 in (
      record {
        variables = omega arith;
        atoms = omega arith;
        premises = narrow_atoms form.premises (omega arith);
        disjuncts = narrow_disjuncts form.disjuncts (omega arith);
      },
      forms_narrow c forms small v.1 m.1 g.1,
    )

module _ (tables : Tables) (f : Formula) (closed : IsBoundIn [] f) where
  -- forms of small counts are narrow
  pub small_narrow : AreSmall (rule_counts f) → AreNarrow (forms_of tables [] f)
  small_narrow small =
      let m = (rule_told tables f [] [] closed).measured in
      record {
        few = (let count = m.count in let most = small.forms in omega arith);
        each = forms_narrow (rule_counts f) (forms_of tables [] f) small m.variables_are.within m.atoms_are.within m.arguments_are.within;
      }

  -- and the other way round
  pub narrow_small : AreNarrow (forms_of tables [] f) → AreSmall (rule_counts f)
  narrow_small narrow =
      let t = rule_told tables f [] [] closed in
      let m = t.measured in
      let forms : List Form = forms_of tables [] f in
      record {
        forms = (let count = m.count in let most = narrow.few in omega arith);
        variables = some_with (λ form n is. let e : v2 form ≡ (rule_counts f).variables = is in let le = n.variables in omega arith) forms narrow.each
            (attained v2 forms (rule_counts f).variables t.one m.variables_are);
        atoms = some_with (λ form n is. let e : m2 form ≡ (rule_counts f).atoms = is in let le = n.atoms in omega arith) forms narrow.each
            (attained m2 forms (rule_counts f).atoms t.one m.atoms_are);
        arguments = some_with (λ form n is. let e : g2 form ≡ (rule_counts f).arguments = is in
            let a = widest_narrow form.premises n.premises in let b = widest_each_narrow form.disjuncts n.disjuncts in omega arith) forms narrow.each
            (attained g2 forms (rule_counts f).arguments t.one m.arguments_are);
      }
