-- The names of universal variables are as many as the variables, form by form, and each is an upper word.
use Rattle.std.proofs.Common.{◌≡◌, ℕ, ◌+◌, Bool, true, false, if◌then◌else◌, List, [], ◌∷◌, ◌++◌, map, length, refl, subst, sym, arith, length-append}
use Rattle.std.specs.List.{AllByRecursion, flat_map}
use Rattle.text_core.specs.Names.{Text}
use Rattle.text_core.specs.NameTexts.{is_upper_word}
use Rattle.text_core.specs.Numbered.{Tables}
use Rattle.text_core.proofs.Laws.{each_append}
use Rattle.logic_core.specs.Allowed.{IsBoundIn, EachIsBoundIn}
use Rattle.logic_core.specs.declared.formula.Op.TheVariants.{Implies, Implied, Iff, Xor, Nor, Nand}
use Rattle.logic_core.specs.declared.formula.Formula.{Formula, True, False, Pred, Equal, Not', And', Or', Binary', ForAll', Exists', Row_of-Formula, end_of-Formula, more_of-Formula}
use Rattle.logic_core.specs.declared.form.Form.{Form}
use Rattle.coherent_form.specs.Kept.{AreVariablesOf, AreVariables}
use Rattle.coherent_form.specs.Labels.{names_joined, alternative_names, choice_names, offer_names, universal_names, universal_names_of}
use Rattle.coherent_form.specs.Offending.{are_plain}
use Rattle.coherent_form.specs.Reading.{alternative_joined, alternatives_joined, alternative_bound, form_of_head, form_bound, form_guarded, forms_guarded, head_of, alternatives, choices, offers, forms_of, forms_of_each}
use Rattle.coherent_form.specs.Wide.{Reads}
use Rattle.coherent_form.specs.declared.alternative.Alternative.{Alternative}

-- a relation between the members of two lists, one by one
abbrev Alike : {A B : Type 0} → (A → B → Type 0) → List A → List B → Type 0
Alike R [] [] = Unit {0}
Alike R [] (y ∷ ys) = ⊥
Alike R (x ∷ xs) [] = ⊥
Alike R (x ∷ xs) (y ∷ ys) = R x y × Alike R xs ys

-- two lists behind two others
alike_append : {A B : Type 0} (R : A → B → Type 0) (xs : List A) (ys : List B) (us : List A) (vs : List B)
    → Alike R xs ys → Alike R us vs → Alike R (xs ++ us) (ys ++ vs)
alike_append R [] [] us vs h k = k
alike_append R [] (y ∷ ys) us vs h k = absurd h
alike_append R (x ∷ xs) [] us vs h k = absurd h
alike_append R (x ∷ xs) (y ∷ ys) us vs h k = (h.0, alike_append R xs ys us vs h.1 k)

-- images of two lists
alike_map : {A B C D : Type 0} {R : A → B → Type 0} (S : C → D → Type 0) (f : A → C) (g : B → D)
    → ((x : A) (y : B) → R x y → S (f x) (g y)) → (xs : List A) (ys : List B) → Alike R xs ys → Alike S (map f xs) (map g ys)
alike_map S f g keeps [] [] h = tt
alike_map S f g keeps [] (y ∷ ys) h = absurd h
alike_map S f g keeps (x ∷ xs) [] h = absurd h
alike_map S f g keeps (x ∷ xs) (y ∷ ys) h = (keeps x y h.0, alike_map S f g keeps xs ys h.1)

-- each of one list with each of another
alike_pairs : {A B C D E F : Type 0} {R : A → B → Type 0} {S : C → D → Type 0} (T : E → F → Type 0) (f : A → C → E) (g : B → D → F)
    → ((x : A) (y : B) (u : C) (v : D) → R x y → S u v → T (f x u) (g y v))
    → (xs : List A) (ys : List B) (us : List C) (vs : List D) → Alike R xs ys → Alike S us vs
    → Alike T (flat_map (λ x. map (f x) us) xs) (flat_map (λ y. map (g y) vs) ys)
alike_pairs T f g keeps [] [] us vs h k = tt
alike_pairs T f g keeps [] (y ∷ ys) us vs h k = absurd h
alike_pairs T f g keeps (x ∷ xs) [] us vs h k = absurd h
alike_pairs T f g keeps (x ∷ xs) (y ∷ ys) us vs h k =
    alike_append T (map (f x) us) (map (g y) vs) (flat_map (λ z. map (f z) us) xs) (flat_map (λ z. map (g z) vs) ys)
    (alike_map T (f x) (g y) (λ u v s. keeps x y u v h.0 s) us vs k)
    (alike_pairs T f g keeps xs ys us vs h.1 k)

-- each name is an upper word
abbrev AreUpper : List Text → Type 0
AreUpper names = AllByRecursion (λ name. is_upper_word name ≡ true) names

-- so many names, each an upper word
record AreSoMany (count : ℕ) (names : List Text) : Type 0 where
  pub count_is : length names ≡ count
  pub words : AreUpper names

-- names behind others
so_many_both : (m n : ℕ) (xs ys : List Text) → AreSoMany m xs → AreSoMany n ys → AreSoMany (m + n) (xs ++ ys)
so_many_both m n xs ys h k = record {
  count_is = let a = h.count_is in let b = k.count_is in omega (arith, length-append xs ys);
  words = each_append (λ name. is_upper_word name ≡ true) xs ys h.words k.words;
}

-- the variables of an alternative
abbrev AlternativeNamed : Alternative → List Text → Type 0
AlternativeNamed a names = AreSoMany a.variables names

-- the universal variables of a form
abbrev FormNamed : Form → List Text → Type 0
FormNamed form names = AreSoMany form.universals names

-- alternatives that are joined
joined_named : (n : ℕ) (firsts seconds : List Alternative) (xs ys : List (List Text)) → Alike AlternativeNamed firsts xs → Alike AlternativeNamed seconds ys
    → Alike AlternativeNamed (alternatives_joined n firsts seconds) (names_joined xs ys)
joined_named n firsts seconds xs ys h k = alike_pairs AlternativeNamed (alternative_joined n) (λ names more. names ++ more)
    (λ a names b more p q. so_many_both a.variables b.variables names more p q) firsts xs seconds ys h k

-- forms behind alternatives
guarded_named : (n : ℕ) (guards : List Alternative) (forms : List Form) (xs ys : List (List Text)) → Alike AlternativeNamed guards xs → Alike FormNamed forms ys
    → Alike FormNamed (forms_guarded n guards forms) (names_joined xs ys)
guarded_named n guards forms xs ys h k = alike_pairs FormNamed (form_guarded n) (λ names more. names ++ more)
    (λ a names form more p q. so_many_both a.variables form.universals names more p q) guards xs forms ys h k

-- no variables
none_named : AreSoMany 0 []
none_named = record { count_is = refl; words = tt }

module _ (tables : Tables) where
  mutual
    -- the alternatives of a premise
    alternatives_named : (f : Formula) (bound scope : List Text) → IsBoundIn bound f → Alike AlternativeNamed (alternatives tables scope f) (alternative_names f)
    alternatives_named True bound scope closed = (none_named, tt)
    alternatives_named False bound scope closed = (none_named, tt)
    alternatives_named (Pred p ts) bound scope closed = (none_named, tt)
    alternatives_named (Equal t u) bound scope closed = (none_named, tt)
    alternatives_named (Not' _ row) bound scope closed = (none_named, tt)
    alternatives_named (And' _ members) bound scope closed = choices_named members bound scope closed.1
    alternatives_named (Or' _ members) bound scope closed = offers_named members bound scope closed.1
    alternatives_named (Binary' op _ row _ more) bound scope closed = (none_named, tt)
    alternatives_named (ForAll' xs _ row) bound scope closed = (none_named, tt)
    alternatives_named (Exists' xs _ (more_of-Formula g _)) bound scope closed =
        alike_map AlternativeNamed (alternative_bound (length xs)) (λ names. xs ++ names)
        (λ a names h. so_many_both (length xs) a.variables xs names (record { count_is = refl; words = closed.0.1 }) h)
        (alternatives tables (scope ++ xs) g) (alternative_names g) (alternatives_named g (xs ++ bound) (scope ++ xs) closed.1)

    -- every choice of them
    choices_named : {n : _} (members : Row_of-Formula n) (bound scope : List Text) → EachIsBoundIn bound members
        → Alike AlternativeNamed (choices tables scope members) (choice_names members)
    choices_named end_of-Formula bound scope closed = (none_named, tt)
    choices_named (more_of-Formula g rest) bound scope closed =
        joined_named (length scope) (alternatives tables scope g) (choices tables scope rest) (alternative_names g) (choice_names rest)
        (alternatives_named g bound scope closed.0) (choices_named rest bound scope closed.1)

    -- those of each member
    offers_named : {n : _} (members : Row_of-Formula n) (bound scope : List Text) → EachIsBoundIn bound members
        → Alike AlternativeNamed (offers tables scope members) (offer_names members)
    offers_named end_of-Formula bound scope closed = tt
    offers_named (more_of-Formula g rest) bound scope closed =
        alike_append AlternativeNamed (alternatives tables scope g) (alternative_names g) (offers tables scope rest) (offer_names rest)
        (alternatives_named g bound scope closed.0) (offers_named rest bound scope closed.1)

  -- by a test
  by_either : (b : Bool) (xs us : List Form) (ys vs : List (List Text)) → Alike FormNamed xs ys → Alike FormNamed us vs
      → Alike FormNamed (if b then xs else us) (if b then ys else vs)
  by_either true xs us ys vs h k = h
  by_either false xs us ys vs h k = k

  mutual
    -- the forms of a rule
    forms_named : (f : Formula) (bound scope : List Text) → IsBoundIn bound f → Alike FormNamed (forms_of tables scope f) (universal_names f)
    forms_named True bound scope closed = (none_named, tt)
    forms_named False bound scope closed = (none_named, tt)
    forms_named (Pred p ts) bound scope closed = (none_named, tt)
    forms_named (Equal t u) bound scope closed = (none_named, tt)
    forms_named (Not' _ row) bound scope closed = (none_named, tt)
    forms_named (Or' _ members) bound scope closed = (none_named, tt)
    forms_named (Exists' xs _ row) bound scope closed = (none_named, tt)
    forms_named (And' k members) bound scope closed =
        by_either (are_plain members) (form_of_head (head_of tables scope (And' k members)) ∷ []) (forms_of_each tables scope members) ([] ∷ []) (universal_names_of members)
        (none_named, tt) (forms_of_each_named members bound scope closed.1)
    forms_named (ForAll' xs _ (more_of-Formula g _)) bound scope closed =
        alike_map FormNamed (form_bound (length xs)) (λ names. xs ++ names)
        (λ form names h. so_many_both (length xs) form.universals xs names (record { count_is = refl; words = closed.0.1 }) h)
        (forms_of tables (scope ++ xs) g) (universal_names g) (forms_named g (xs ++ bound) (scope ++ xs) closed.1)
    forms_named (Binary' Implies _ (more_of-Formula g _) _ (more_of-Formula h _)) bound scope closed =
        guarded_named (length scope) (alternatives tables scope g) (forms_of tables scope h) (alternative_names g) (universal_names h)
        (alternatives_named g bound scope closed.0) (forms_named h bound scope closed.1)
    forms_named (Binary' Implied _ (more_of-Formula g _) _ (more_of-Formula h _)) bound scope closed =
        guarded_named (length scope) (alternatives tables scope h) (forms_of tables scope g) (alternative_names h) (universal_names g)
        (alternatives_named h bound scope closed.1) (forms_named g bound scope closed.0)
    forms_named (Binary' Iff _ (more_of-Formula g _) _ (more_of-Formula h _)) bound scope closed =
        alike_append FormNamed (forms_guarded (length scope) (alternatives tables scope g) (forms_of tables scope h)) (names_joined (alternative_names g) (universal_names h))
        (forms_guarded (length scope) (alternatives tables scope h) (forms_of tables scope g)) (names_joined (alternative_names h) (universal_names g))
        (guarded_named (length scope) (alternatives tables scope g) (forms_of tables scope h) (alternative_names g) (universal_names h)
        (alternatives_named g bound scope closed.0) (forms_named h bound scope closed.1))
        (guarded_named (length scope) (alternatives tables scope h) (forms_of tables scope g) (alternative_names h) (universal_names g)
        (alternatives_named h bound scope closed.1) (forms_named g bound scope closed.0))
    forms_named (Binary' Xor _ (more_of-Formula g _) _ (more_of-Formula h _)) bound scope closed = (none_named, tt)
    forms_named (Binary' Nor _ (more_of-Formula g _) _ (more_of-Formula h _)) bound scope closed = (none_named, tt)
    forms_named (Binary' Nand _ (more_of-Formula g _) _ (more_of-Formula h _)) bound scope closed = (none_named, tt)

    -- the forms of some rules
    forms_of_each_named : {n : _} (members : Row_of-Formula n) (bound scope : List Text) → EachIsBoundIn bound members
        → Alike FormNamed (forms_of_each tables scope members) (universal_names_of members)
    forms_of_each_named end_of-Formula bound scope closed = tt
    forms_of_each_named (more_of-Formula g rest) bound scope closed =
        alike_append FormNamed (forms_of tables scope g) (universal_names g) (forms_of_each tables scope rest) (universal_names_of rest)
        (forms_named g bound scope closed.0) (forms_of_each_named rest bound scope closed.1)

-- so many names for each form are its variables
named_variables : (forms : List Form) (names : List (List Text)) → Alike FormNamed forms names → AreVariables forms names
named_variables [] [] h = tt
named_variables [] (xs ∷ names) h = absurd h
named_variables (form ∷ forms) [] h = absurd h
named_variables (form ∷ forms) (xs ∷ names) h = (record { count = (h.0).count_is; words = (h.0).words }, named_variables forms names h.1)

-- the names of a formula that is read are the variables of its forms
pub reads_variables : (tables after : Tables) (f : Formula) (forms : List Form) → IsBoundIn [] f → Reads tables f forms after → AreVariables forms (universal_names f)
reads_variables tables after f forms closed r =
    subst (λ fs. AreVariables fs (universal_names f)) (sym r.forms_are)
    (named_variables (forms_of after [] f) (universal_names f) (forms_named after f [] [] closed))

-- further forms behind others
pub variables_append : (xs us : List Form) (ys vs : List (List Text)) → AreVariables xs ys → AreVariables us vs → AreVariables (xs ++ us) (ys ++ vs)
variables_append [] us [] vs h k = k
variables_append [] us (y ∷ ys) vs h k = absurd h
variables_append (x ∷ xs) us [] vs h k = absurd h
variables_append (x ∷ xs) us (y ∷ ys) vs h k = (h.0, variables_append xs us ys vs h.1 k)

-- names that are made from each form
pub variables_made : (names : Form → List Text) → ((form : Form) → AreVariablesOf form (names form)) → (forms : List Form) → AreVariables forms (map names forms)
variables_made names are [] = tt
variables_made names are (form ∷ forms) = (are form, variables_made names are forms)
