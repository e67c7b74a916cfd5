-- What each atom of a reading has: a property of atoms that stays where variables are added in front or behind.
use Rattle.std.proofs.Common.{◌≡◌, ℕ, ◌+◌, ◌≤◌, ◌<◌, Bool, true, false, nat_le, if◌then◌else◌, inl, inr, List, [], ◌∷◌, ◌++◌, map, length, refl, arith, length-append}
use Rattle.std.specs.List.{AllByRecursion}
use Rattle.text_core.specs.Names.{Text}
use Rattle.text_core.specs.Numbered.{Tables}
use Rattle.text_core.specs.Lists.{IsAmong}
use Rattle.text_core.proofs.Laws.{each_map, each_append, among_append, among_front, among_back}
use Rattle.logic_core.specs.Allowed.{TermIsBound, IsBoundIn, EachIsBoundIn}
use Rattle.logic_core.specs.Forms.{SlotIsBelow, AtomIsBelow}
use Rattle.logic_core.specs.declared.formula.Term.{Term}
use Rattle.logic_core.specs.declared.formula.Term.TheVariants.{Variable, Constant}
use Rattle.logic_core.specs.declared.formula.Op.TheVariants.{Implies, Implied, Iff, Xor, Nor, Nand}
use Rattle.logic_core.specs.declared.formula.Formula.{Formula, True, False, Pred, Equal, Not', And', Or', Binary', ForAll', Exists', Row_of-Formula, end_of-Formula, more_of-Formula}
use Rattle.logic_core.specs.declared.form.Slot.{Slot}
use Rattle.logic_core.specs.declared.form.Slot.TheVariants as slot
use Rattle.logic_core.specs.declared.form.Atom.{Atom}
use Rattle.logic_core.specs.declared.form.Form.{Form}
use Rattle.coherent_form.specs.Offending.{nodes, is_atom, are_plain, conjunction_offenders, conjunctions_offenders, premise_offenders, premises_offenders, conclusion_offenders, conclusions_offenders, rule_offenders, rules_offenders}
use Rattle.coherent_form.specs.Reading.{slot_moved, atom_moved, alternative_joined, alternatives_joined, alternative_bound, head_joined, head_bound, form_of_head, form_bound, form_guarded, forms_guarded, slot_of, atom_of, atoms_of, atoms_of_each, alternatives, choices, offers, head_of, head_of_each, forms_of, forms_of_each}
use Rattle.coherent_form.specs.declared.alternative.Alternative.{Alternative}
use Rattle.coherent_form.specs.declared.alternative.Head.{Head}
use Rattle.coherent_form.proofs.Names.{HasTerm, HasNames, HasNamesOf, extends_same, constant_found}
use Rattle.coherent_form.proofs.Roles.{both_none, part_none, parts_none, offends_itself, negated_atom, by_test}
use Rattle.coherent_form.proofs.Values.{variable_below}

-- each image has Q where each member has P
pub each_image : {X Y : Type 0} {P : X → Type 0} (Q : Y → Type 0) (f : X → Y) → ((x : X) → P x → Q (f x)) → (xs : List X)
    → AllByRecursion P xs → AllByRecursion Q (map f xs)
each_image Q f g [] h = tt
each_image Q f g (x ∷ xs) h = (g x h.0, each_image Q f g xs h.1)

-- the variables in whose scope a formula is closed are in the scope that numbers them
abbrev pub Covers : List Text → List Text → Type 0
Covers bound scope = (x : Text) → IsAmong x bound → IsAmong x scope

-- names that a quantifier adds are in both scopes
pub covers_more : (xs bound scope : List Text) → Covers bound scope → Covers (xs ++ bound) (scope ++ xs)
covers_more xs bound scope covers x among = elim (among_append x xs bound among) [
  | inl inside ↦ among_back x scope xs inside
  | inr outside ↦ among_front x scope xs (covers x outside)
]

-- a property of atoms among so many variables
module _ (P : ℕ → Atom → Type 0)
    (grows : (m most : ℕ) (a : Atom) → m ≤ most → P m a → P most a)
    (moves : (n m k most : ℕ) (a : Atom) → m + k ≤ most → P m a → P most (atom_moved n k a)) where
  -- atoms among more variables
  all_grow : (m most : ℕ) (atoms : List Atom) → m ≤ most → AllByRecursion (P m) atoms → AllByRecursion (P most) atoms
  all_grow m most atoms le h = each_map {Q = P most} (λ a p. grows m most a le p) atoms h

  -- atoms that are moved among more variables
  all_move : (n m k most : ℕ) (atoms : List Atom) → m + k ≤ most → AllByRecursion (P m) atoms → AllByRecursion (P most) (map (atom_moved n k) atoms)
  all_move n m k most atoms le h = each_image (P most) (atom_moved n k) (λ a p. moves n m k most a le p) atoms h

  -- each atom of an alternative has the property
  abbrev pub AlternativeHas : ℕ → Alternative → Type 0
  AlternativeHas n a = AllByRecursion (P (n + a.variables)) a.atoms

  -- each atom of a conclusion has it
  abbrev pub HeadHas : ℕ → Head → Type 0
  HeadHas n h = AllByRecursion (AllByRecursion (P (n + h.variables))) h.disjuncts

  pub record FormHas (n : ℕ) (form : Form) : Type 0 where
    pub premises : AllByRecursion (P (n + form.universals)) form.premises
    pub disjuncts : AllByRecursion (AllByRecursion (P (n + (form.universals + form.existentials)))) form.disjuncts

  -- two alternatives that are joined
  joined_has : (n : ℕ) (a b : Alternative) → AlternativeHas n a → AlternativeHas n b → AlternativeHas n (alternative_joined n a b)
  joined_has n a b h k = each_append (P (n + (a.variables + b.variables))) a.atoms (map (atom_moved n a.variables) b.atoms)
      (all_grow (n + a.variables) (n + (a.variables + b.variables)) a.atoms (omega arith) h)
      (all_move n (n + b.variables) a.variables (n + (a.variables + b.variables)) b.atoms (omega arith) k)

  -- two lists of alternatives that are joined
  all_joined_have : (n : ℕ) (firsts seconds : List Alternative) → AllByRecursion (AlternativeHas n) firsts → AllByRecursion (AlternativeHas n) seconds
      → AllByRecursion (AlternativeHas n) (alternatives_joined n firsts seconds)
  all_joined_have n [] seconds h k = tt
  all_joined_have n (a ∷ firsts) seconds h k = each_append (AlternativeHas n) (map (alternative_joined n a) seconds) (alternatives_joined n firsts seconds)
      (each_image (AlternativeHas n) (alternative_joined n a) (λ b p. joined_has n a b h.0 p) seconds k)
      (all_joined_have n firsts seconds h.1 k)

  -- two conclusions that are joined
  heads_joined_have : (n : ℕ) (h k : Head) → HeadHas n h → HeadHas n k → HeadHas n (head_joined n h k)
  heads_joined_have n h k a b = each_append (AllByRecursion (P (n + (h.variables + k.variables)))) h.disjuncts (map (map (atom_moved n h.variables)) k.disjuncts)
      (each_map {Q = AllByRecursion (P (n + (h.variables + k.variables)))} (λ atoms p. all_grow (n + h.variables) (n + (h.variables + k.variables)) atoms (omega arith) p) h.disjuncts a)
      (each_image (AllByRecursion (P (n + (h.variables + k.variables)))) (map (atom_moved n h.variables))
      (λ atoms p. all_move n (n + k.variables) h.variables (n + (h.variables + k.variables)) atoms (omega arith) p) k.disjuncts b)

  -- a conclusion as a form
  head_form_has : (n : ℕ) (h : Head) → HeadHas n h → FormHas n (form_of_head h)
  head_form_has n h a = record {
    premises = tt;
    disjuncts = each_map {Q = AllByRecursion (P (n + (0 + h.variables)))} (λ atoms p. all_grow (n + h.variables) (n + (0 + h.variables)) atoms (omega arith) p) h.disjuncts a;
  }

  -- a form behind an alternative
  guarded_has : (n : ℕ) (a : Alternative) (form : Form) → AlternativeHas n a → FormHas n form → FormHas n (form_guarded n a form)
  guarded_has n a form h k = record {
    premises = each_append (P (n + (a.variables + form.universals))) a.atoms (map (atom_moved n a.variables) form.premises)
        (all_grow (n + a.variables) (n + (a.variables + form.universals)) a.atoms (omega arith) h)
        (all_move n (n + form.universals) a.variables (n + (a.variables + form.universals)) form.premises (omega arith) k.premises);
    disjuncts = each_image (AllByRecursion (P (n + (a.variables + form.universals + form.existentials)))) (map (atom_moved n a.variables))
        (λ atoms p. all_move n (n + (form.universals + form.existentials)) a.variables (n + (a.variables + form.universals + form.existentials)) atoms (omega arith) p)
        form.disjuncts k.disjuncts;
  }

  -- forms behind alternatives
  all_guarded_have : (n : ℕ) (guards : List Alternative) (forms : List Form) → AllByRecursion (AlternativeHas n) guards → AllByRecursion (FormHas n) forms
      → AllByRecursion (FormHas n) (forms_guarded n guards forms)
  all_guarded_have n [] forms h k = tt
  all_guarded_have n (a ∷ guards) forms h k = each_append (FormHas n) (map (form_guarded n a) forms) (forms_guarded n guards forms)
      (each_image (FormHas n) (form_guarded n a) (λ form p. guarded_has n a form h.0 p) forms k)
      (all_guarded_have n guards forms h.1 k)

  -- variables of a quantifier in front
  alternative_bound_has : (n k m : ℕ) (a : Alternative) → m ≡ n + k → AlternativeHas m a → AlternativeHas n (alternative_bound k a)
  alternative_bound_has n k m a e h = all_grow (m + a.variables) (n + (k + a.variables)) a.atoms (omega arith) h

  -- variables in front of a conclusion
  head_bound_has : (n k m : ℕ) (h : Head) → m ≡ n + k → HeadHas m h → HeadHas n (head_bound k h)
  head_bound_has n k m h e a = each_map {Q = AllByRecursion (P (n + (k + h.variables)))}
      (λ atoms p. all_grow (m + h.variables) (n + (k + h.variables)) atoms (omega arith) p) h.disjuncts a

  -- variables in front of a form
  form_bound_has : (n k m : ℕ) (form : Form) → m ≡ n + k → FormHas m form → FormHas n (form_bound k form)
  form_bound_has n k m form e h = record {
    premises = all_grow (m + form.universals) (n + (k + form.universals)) form.premises (omega arith) h.premises;
    disjuncts = each_map {Q = AllByRecursion (P (n + (k + form.universals + form.existentials)))}
        (λ atoms p. all_grow (m + (form.universals + form.existentials)) (n + (k + form.universals + form.existentials)) atoms (omega arith) p) form.disjuncts h.disjuncts;
  }

  -- what the reading of a formula has, where each of its atoms has it
  module _ (tables : Tables)
      (base : (bound scope : List Text) (positive : Bool) (f : Formula) → is_atom f ≡ true → Covers bound scope → IsBoundIn bound f → HasNames tables f
      → P (length scope) (atom_of tables scope positive f)) where
    mutual
      -- the atoms of a conjunction without offenders have P
      pub atoms_have : (f : Formula) (bound scope : List Text) → conjunction_offenders f ≡ [] → Covers bound scope → IsBoundIn bound f → HasNames tables f
          → AllByRecursion (P (length scope)) (atoms_of tables scope f)
      atoms_have True bound scope fits covers closed names = tt
      atoms_have False bound scope fits covers closed names = tt
      atoms_have (Pred p ts) bound scope fits covers closed names = (base bound scope true (Pred p ts) refl covers closed names, tt)
      atoms_have (Equal t u) bound scope fits covers closed names = (base bound scope true (Equal t u) refl covers closed names, tt)
      atoms_have (Not' _ (more_of-Formula g _)) bound scope fits covers closed names = (base bound scope false g (negated_atom g fits) covers closed names, tt)
      atoms_have (And' _ members) bound scope fits covers closed names = atoms_of_each_have members 1 bound scope fits covers closed.1 names
      atoms_have (Or' _ members) bound scope fits covers closed names = tt
      atoms_have (Binary' op _ (more_of-Formula g _) _ (more_of-Formula h _)) bound scope fits covers closed names = tt
      atoms_have (ForAll' xs _ (more_of-Formula g _)) bound scope fits covers closed names = tt
      atoms_have (Exists' xs _ (more_of-Formula g _)) bound scope fits covers closed names = tt

      -- the atoms of conjunctions without offenders have P
      atoms_of_each_have : {n : _} (members : Row_of-Formula n) (at : ℕ) (bound scope : List Text) → conjunctions_offenders at members ≡ [] → Covers bound scope
          → EachIsBoundIn bound members → HasNamesOf tables members → AllByRecursion (P (length scope)) (atoms_of_each tables scope members)
      atoms_of_each_have end_of-Formula at bound scope fits covers closed names = tt
      atoms_of_each_have (more_of-Formula g rest) at bound scope fits covers closed names =
          let parts = parts_none at (conjunction_offenders g) (conjunctions_offenders (at + nodes g) rest) fits in
          each_append (P (length scope)) (atoms_of tables scope g) (atoms_of_each tables scope rest)
          (atoms_have g bound scope parts.0 covers closed.0 names.0)
          (atoms_of_each_have rest (at + nodes g) bound scope parts.1 covers closed.1 names.1)

    -- an alternative without variables of its own
    plain_alternative : (n : ℕ) (atoms : List Atom) → AllByRecursion (P n) atoms → AllByRecursion (AlternativeHas n) (record { variables = 0; atoms = atoms } ∷ [])
    plain_alternative n atoms h = (all_grow n (n + 0) atoms (omega arith) h, tt)

    mutual
      -- the alternatives of a premise without offenders have P
      pub alternatives_have : (f : Formula) (bound scope : List Text) → premise_offenders f ≡ [] → Covers bound scope → IsBoundIn bound f → HasNames tables f
          → AllByRecursion (AlternativeHas (length scope)) (alternatives tables scope f)
      alternatives_have True bound scope fits covers closed names = plain_alternative (length scope) [] tt
      alternatives_have False bound scope fits covers closed names = absurd (offends_itself fits)
      alternatives_have (Pred p ts) bound scope fits covers closed names =
          plain_alternative (length scope) (atoms_of tables scope (Pred p ts)) (atoms_have (Pred p ts) bound scope refl covers closed names)
      alternatives_have (Equal t u) bound scope fits covers closed names =
          plain_alternative (length scope) (atoms_of tables scope (Equal t u)) (atoms_have (Equal t u) bound scope refl covers closed names)
      alternatives_have (Not' k (more_of-Formula g rest)) bound scope fits covers closed names =
          plain_alternative (length scope) (atoms_of tables scope (Not' k (more_of-Formula g rest))) (atoms_have (Not' k (more_of-Formula g rest)) bound scope fits covers closed names)
      alternatives_have (And' _ members) bound scope fits covers closed names = choices_have members 1 bound scope fits covers closed.1 names
      alternatives_have (Or' _ members) bound scope fits covers closed names = offers_have members 1 bound scope fits covers closed.1 names
      alternatives_have (Binary' op _ (more_of-Formula g _) _ (more_of-Formula h _)) bound scope fits covers closed names = absurd (offends_itself fits)
      alternatives_have (ForAll' xs _ (more_of-Formula g _)) bound scope fits covers closed names = absurd (offends_itself fits)
      alternatives_have (Exists' xs _ (more_of-Formula g _)) bound scope fits covers closed names =
          each_image (AlternativeHas (length scope)) (alternative_bound (length xs))
          (λ a h. alternative_bound_has (length scope) (length xs) (length (scope ++ xs)) a (length-append scope xs) h)
          (alternatives tables (scope ++ xs) g)
          (alternatives_have g (xs ++ bound) (scope ++ xs) (part_none 1 (premise_offenders g) fits) (covers_more xs bound scope covers) closed.1 names)

      -- every choice from premises without offenders has P
      choices_have : {n : _} (members : Row_of-Formula n) (at : ℕ) (bound scope : List Text) → premises_offenders at members ≡ [] → Covers bound scope
          → EachIsBoundIn bound members → HasNamesOf tables members → AllByRecursion (AlternativeHas (length scope)) (choices tables scope members)
      choices_have end_of-Formula at bound scope fits covers closed names = (tt, tt)
      choices_have (more_of-Formula g rest) at bound scope fits covers closed names =
          let parts = parts_none at (premise_offenders g) (premises_offenders (at + nodes g) rest) fits in
          all_joined_have (length scope) (alternatives tables scope g) (choices tables scope rest)
          (alternatives_have g bound scope parts.0 covers closed.0 names.0)
          (choices_have rest (at + nodes g) bound scope parts.1 covers closed.1 names.1)

      -- the alternatives of premises without offenders have P
      offers_have : {n : _} (members : Row_of-Formula n) (at : ℕ) (bound scope : List Text) → premises_offenders at members ≡ [] → Covers bound scope
          → EachIsBoundIn bound members → HasNamesOf tables members → AllByRecursion (AlternativeHas (length scope)) (offers tables scope members)
      offers_have end_of-Formula at bound scope fits covers closed names = tt
      offers_have (more_of-Formula g rest) at bound scope fits covers closed names =
          let parts = parts_none at (premise_offenders g) (premises_offenders (at + nodes g) rest) fits in
          each_append (AlternativeHas (length scope)) (alternatives tables scope g) (offers tables scope rest)
          (alternatives_have g bound scope parts.0 covers closed.0 names.0)
          (offers_have rest (at + nodes g) bound scope parts.1 covers closed.1 names.1)

    -- a conclusion that is a conjunction
    plain_head : (n : ℕ) (atoms : List Atom) → AllByRecursion (P n) atoms → HeadHas n (record { variables = 0; disjuncts = atoms ∷ [] })
    plain_head n atoms h = (all_grow n (n + 0) atoms (omega arith) h, tt)

    -- a conjunction as a conclusion
    conjunction_has : (f : Formula) (bound scope : List Text) → conjunction_offenders f ≡ [] → Covers bound scope → IsBoundIn bound f → HasNames tables f
        → HeadHas (length scope) (record { variables = 0; disjuncts = atoms_of tables scope f ∷ [] })
    conjunction_has f bound scope fits covers closed names = plain_head (length scope) (atoms_of tables scope f) (atoms_have f bound scope fits covers closed names)

    mutual
      -- the disjuncts of a conclusion without offenders have P
      pub head_has : (f : Formula) (bound scope : List Text) → conclusion_offenders f ≡ [] → Covers bound scope → IsBoundIn bound f → HasNames tables f
          → HeadHas (length scope) (head_of tables scope f)
      head_has True bound scope fits covers closed names = conjunction_has True bound scope fits covers closed names
      head_has False bound scope fits covers closed names = tt
      head_has (Pred p ts) bound scope fits covers closed names = conjunction_has (Pred p ts) bound scope fits covers closed names
      head_has (Equal t u) bound scope fits covers closed names = conjunction_has (Equal t u) bound scope fits covers closed names
      head_has (Not' k (more_of-Formula g rest)) bound scope fits covers closed names =
          conjunction_has (Not' k (more_of-Formula g rest)) bound scope fits covers closed names
      head_has (And' k members) bound scope fits covers closed names = conjunction_has (And' k members) bound scope fits covers closed names
      head_has (Or' _ members) bound scope fits covers closed names = heads_have members 1 bound scope fits covers closed.1 names
      head_has (Binary' op _ (more_of-Formula g _) _ (more_of-Formula h _)) bound scope fits covers closed names = absurd (offends_itself fits)
      head_has (ForAll' xs _ (more_of-Formula g _)) bound scope fits covers closed names = absurd (offends_itself fits)
      head_has (Exists' xs _ (more_of-Formula g _)) bound scope fits covers closed names =
          head_bound_has (length scope) (length xs) (length (scope ++ xs)) (head_of tables (scope ++ xs) g) (length-append scope xs)
          (head_has g (xs ++ bound) (scope ++ xs) (part_none 1 (conclusion_offenders g) fits) (covers_more xs bound scope covers) closed.1 names)

      -- the disjuncts of conclusions without offenders have P
      heads_have : {n : _} (members : Row_of-Formula n) (at : ℕ) (bound scope : List Text) → conclusions_offenders at members ≡ [] → Covers bound scope
          → EachIsBoundIn bound members → HasNamesOf tables members → HeadHas (length scope) (head_of_each tables scope members)
      heads_have end_of-Formula at bound scope fits covers closed names = tt
      heads_have (more_of-Formula g rest) at bound scope fits covers closed names =
          let parts = parts_none at (conclusion_offenders g) (conclusions_offenders (at + nodes g) rest) fits in
          heads_joined_have (length scope) (head_of tables scope g) (head_of_each tables scope rest)
          (head_has g bound scope parts.0 covers closed.0 names.0)
          (heads_have rest (at + nodes g) bound scope parts.1 covers closed.1 names.1)

    -- a rule that is a conclusion
    head_alone : (f : Formula) (bound scope : List Text) → conclusion_offenders f ≡ [] → Covers bound scope → IsBoundIn bound f → HasNames tables f
        → AllByRecursion (FormHas (length scope)) (form_of_head (head_of tables scope f) ∷ [])
    head_alone f bound scope fits covers closed names = (head_form_has (length scope) (head_of tables scope f) (head_has f bound scope fits covers closed names), tt)

    mutual
      -- the forms of a rule without offenders have P
      pub forms_have : (f : Formula) (bound scope : List Text) → rule_offenders f ≡ [] → Covers bound scope → IsBoundIn bound f → HasNames tables f
          → AllByRecursion (FormHas (length scope)) (forms_of tables scope f)
      forms_have True bound scope fits covers closed names = head_alone True bound scope fits covers closed names
      forms_have False bound scope fits covers closed names = head_alone False bound scope fits covers closed names
      forms_have (Pred p ts) bound scope fits covers closed names = head_alone (Pred p ts) bound scope fits covers closed names
      forms_have (Equal t u) bound scope fits covers closed names = head_alone (Equal t u) bound scope fits covers closed names
      forms_have (Not' k (more_of-Formula g rest)) bound scope fits covers closed names = head_alone (Not' k (more_of-Formula g rest)) bound scope fits covers closed names
      forms_have (Or' k members) bound scope fits covers closed names = head_alone (Or' k members) bound scope fits covers closed names
      forms_have (Exists' xs k (more_of-Formula g rest)) bound scope fits covers closed names =
          head_alone (Exists' xs k (more_of-Formula g rest)) bound scope fits covers closed names
      forms_have (And' k members) bound scope fits covers closed names =
          by_test (AllByRecursion (FormHas (length scope))) (are_plain members) (conclusion_offenders (And' k members)) (rules_offenders 1 members)
          (form_of_head (head_of tables scope (And' k members)) ∷ []) (forms_of_each tables scope members) fits
          (λ plain. head_alone (And' k members) bound scope plain covers closed names)
          (λ rules. forms_of_each_have members 1 bound scope rules covers closed.1 names)
      forms_have (ForAll' xs _ (more_of-Formula g _)) bound scope fits covers closed names =
          each_image (FormHas (length scope)) (form_bound (length xs))
          (λ form h. form_bound_has (length scope) (length xs) (length (scope ++ xs)) form (length-append scope xs) h)
          (forms_of tables (scope ++ xs) g)
          (forms_have g (xs ++ bound) (scope ++ xs) (part_none 1 (rule_offenders g) fits) (covers_more xs bound scope covers) closed.1 names)
      forms_have (Binary' Implies _ (more_of-Formula g _) _ (more_of-Formula h _)) bound scope fits covers closed names =
          let parts = parts_none 1 (premise_offenders g) _ fits in
          all_guarded_have (length scope) (alternatives tables scope g) (forms_of tables scope h)
          (alternatives_have g bound scope parts.0 covers closed.0 names.0)
          (forms_have h bound scope (part_none (1 + nodes g) (rule_offenders h) parts.1) covers closed.1 names.1)
      forms_have (Binary' Implied _ (more_of-Formula g _) _ (more_of-Formula h _)) bound scope fits covers closed names =
          let parts = parts_none 1 (rule_offenders g) _ fits in
          all_guarded_have (length scope) (alternatives tables scope h) (forms_of tables scope g)
          (alternatives_have h bound scope (part_none (1 + nodes g) (premise_offenders h) parts.1) covers closed.1 names.1)
          (forms_have g bound scope parts.0 covers closed.0 names.0)
      forms_have (Binary' Iff _ (more_of-Formula g _) _ (more_of-Formula h _)) bound scope fits covers closed names =
          let parts = parts_none 1 (premise_offenders g ++ rule_offenders g) _ fits in
          let left = both_none (premise_offenders g) (rule_offenders g) parts.0 in
          let right = both_none (premise_offenders h) (rule_offenders h) (part_none (1 + nodes g) (premise_offenders h ++ rule_offenders h) parts.1) in
          each_append (FormHas (length scope)) (forms_guarded (length scope) (alternatives tables scope g) (forms_of tables scope h))
          (forms_guarded (length scope) (alternatives tables scope h) (forms_of tables scope g))
          (all_guarded_have (length scope) (alternatives tables scope g) (forms_of tables scope h)
          (alternatives_have g bound scope left.0 covers closed.0 names.0) (forms_have h bound scope right.1 covers closed.1 names.1))
          (all_guarded_have (length scope) (alternatives tables scope h) (forms_of tables scope g)
          (alternatives_have h bound scope right.0 covers closed.1 names.1) (forms_have g bound scope left.1 covers closed.0 names.0))
      forms_have (Binary' Xor _ (more_of-Formula g _) _ (more_of-Formula h _)) bound scope fits covers closed names = absurd (offends_itself fits)
      forms_have (Binary' Nor _ (more_of-Formula g _) _ (more_of-Formula h _)) bound scope fits covers closed names = absurd (offends_itself fits)
      forms_have (Binary' Nand _ (more_of-Formula g _) _ (more_of-Formula h _)) bound scope fits covers closed names = absurd (offends_itself fits)

      -- the forms of rules without offenders have P
      forms_of_each_have : {n : _} (members : Row_of-Formula n) (at : ℕ) (bound scope : List Text) → rules_offenders at members ≡ [] → Covers bound scope
          → EachIsBoundIn bound members → HasNamesOf tables members → AllByRecursion (FormHas (length scope)) (forms_of_each tables scope members)
      forms_of_each_have end_of-Formula at bound scope fits covers closed names = tt
      forms_of_each_have (more_of-Formula g rest) at bound scope fits covers closed names =
          let parts = parts_none at (rule_offenders g) (rules_offenders (at + nodes g) rest) fits in
          each_append (FormHas (length scope)) (forms_of tables scope g) (forms_of_each tables scope rest)
          (forms_have g bound scope parts.0 covers closed.0 names.0)
          (forms_of_each_have rest (at + nodes g) bound scope parts.1 covers closed.1 names.1)

-- numbers of variables and constants are below their counts
module _ (tables : Tables) where
  -- a slot among more variables
  slot_grows : (m most constants : ℕ) (s : Slot) → m ≤ most → SlotIsBelow m constants s → SlotIsBelow most constants s
  slot_grows m most constants (slot.Variable v) le h = omega arith
  slot_grows m most constants (slot.Constant c) le h = h

  -- a slot that is moved among more variables
  slot_moves : (n m k most constants : ℕ) (s : Slot) → m + k ≤ most → SlotIsBelow m constants s → SlotIsBelow most constants (slot_moved n k s)
  slot_moves n m k most constants (slot.Variable v) le h = go (nat_le n v)
    where
      go : (b : Bool) → (if b then v + k else v) < most
      go true = omega arith
      go false = omega arith
  slot_moves n m k most constants (slot.Constant c) le h = h

  -- the slot of a term that is bound and there
  slot_is_below : (bound scope : List Text) (t : Term) → Covers bound scope → TermIsBound bound t → HasTerm tables t
      → SlotIsBelow (length scope) (length tables.constants) (slot_of tables scope t)
  slot_is_below bound scope (Variable x) covers closed names = variable_below x scope (covers x closed.0)
  slot_is_below bound scope (Constant c) covers closed names = (constant_found tables tables (extends_same tables) c names).below

  -- the slots of such terms
  slots_are_below : (bound scope : List Text) (ts : List Term) → Covers bound scope → AllByRecursion (TermIsBound bound) ts → AllByRecursion (HasTerm tables) ts
      → AllByRecursion (SlotIsBelow (length scope) (length tables.constants)) (map (slot_of tables scope) ts)
  slots_are_below bound scope [] covers closed names = tt
  slots_are_below bound scope (t ∷ ts) covers closed names =
      (slot_is_below bound scope t covers closed.0 names.0, slots_are_below bound scope ts covers closed.1 names.1)

  -- the variables and constants of an atom are below their counts
  abbrev pub Below : ℕ → Atom → Type 0
  Below n atom = AtomIsBelow n (length tables.constants) atom

  -- they stay so among more variables
  pub below_grows : (m most : ℕ) (a : Atom) → m ≤ most → Below m a → Below most a
  below_grows m most a le h = each_map (λ s b. slot_grows m most (length tables.constants) s le b) a.args h

  -- and where they are moved
  pub below_moves : (n m k most : ℕ) (a : Atom) → m + k ≤ most → Below m a → Below most (atom_moved n k a)
  below_moves n m k most a le h = each_image (SlotIsBelow most (length tables.constants)) (slot_moved n k)
      (λ s b. slot_moves n m k most (length tables.constants) s le b) a.args h

  -- and an atom of a formula has them so
  pub below_base : (bound scope : List Text) (positive : Bool) (f : Formula) → is_atom f ≡ true → Covers bound scope → IsBoundIn bound f → HasNames tables f
      → Below (length scope) (atom_of tables scope positive f)
  below_base bound scope positive (Pred p ts) is covers closed names = slots_are_below bound scope ts covers closed names.1
  below_base bound scope positive (Equal t u) is covers closed names = slots_are_below bound scope (t ∷ u ∷ []) covers (closed.0, (closed.1, tt)) (names.0, (names.1, tt))
  below_base bound scope positive True is covers closed names = absurd (cc)
  below_base bound scope positive False is covers closed names = absurd (cc)
  below_base bound scope positive (Not' _ row) is covers closed names = absurd (cc)
  below_base bound scope positive (And' _ row) is covers closed names = absurd (cc)
  below_base bound scope positive (Or' _ row) is covers closed names = absurd (cc)
  below_base bound scope positive (Binary' op _ row _ more) is covers closed names = absurd (cc)
  below_base bound scope positive (ForAll' xs _ row) is covers closed names = absurd (cc)
  below_base bound scope positive (Exists' xs _ row) is covers closed names = absurd (cc)
