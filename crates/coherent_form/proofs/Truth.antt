-- A formula is true exactly where its reading is, role by role.
use Rattle.std.proofs.Common.{◌≡◌, ℕ, ◌+◌, ◌⊎◌, inl, inr, Bool, true, false, List, [], ◌∷◌, ◌++◌, map, length, refl, ap, sym, ◌∙◌, subst, arith, length-append}
use Rattle.std.specs.List.{AllByRecursion}
use Rattle.std.proofs.lemmas.Bool.Decides.{Decides-eqb}
use Rattle.text_core.specs.Names.{Text}
use Rattle.text_core.specs.Numbered.{Tables, text_or_empty}
use Rattle.text_core.specs.Lists.{SomeOf}
use Rattle.text_core.proofs.Laws.{each_append, each_front, each_back, some_front, some_back, some_append, not_passes, not_both}
use Rattle.logic_core.specs.Allowed.{TermIsBound, IsBoundIn, EachIsBoundIn}
use Rattle.logic_core.specs.Truth.{Structure, Assignment, term_value, EveryValue, SomeValue, IsTrueIn, EachTrueIn, SomeTrueIn}
use Rattle.logic_core.specs.Forms.{Interpretation, interpretation, holds_by_name, holds_by_number, AtomTrue, AreElements, FormTrue, slot_value}
use Rattle.logic_core.specs.declared.formula.Term.{Term}
use Rattle.logic_core.specs.declared.formula.Term.TheVariants.{Variable, Constant}
use Rattle.logic_core.specs.declared.formula.Op.TheVariants.{Implies, Implied, Iff, Xor, Nor, Nand}
use Rattle.logic_core.specs.declared.formula.Formula.{Formula, True, False, Pred, Equal, Not', And', Or', Binary', ForAll', Exists', Row_of-Formula, end_of-Formula, more_of-Formula}
use Rattle.coherent_form.specs.Offending.{nodes, is_atom, are_plain, conjunction_offenders, conjunctions_offenders, premise_offenders, premises_offenders, conclusion_offenders, conclusions_offenders, rule_offenders, rules_offenders}
use Rattle.coherent_form.specs.Reading.{Extends, alternative_bound, head_bound, form_of_head, form_bound, forms_guarded, slot_of, symbol_of, terms_of, atoms_of, atoms_of_each, alternatives, choices, offers, head_of, head_of_each, forms_of, forms_of_each}
use Rattle.coherent_form.proofs.Below.{Covers, covers_more, Below, below_grows, below_moves, below_base, AlternativeHas, HeadHas, alternatives_have, head_has}
use Rattle.coherent_form.proofs.Meanings.{Same, AlternativeTrue, HeadTrue, RuleTrue, plain_alternative_true, plain_head_true, both_true, bind_true, unbind_true, either_true, bind_head, unbind_head, head_rule, bind_rules, unbind_rules, guarded_true}
use Rattle.coherent_form.proofs.Names.{HasTerm, HasNames, HasNamesOf, symbol_found, constant_found}
use Rattle.coherent_form.proofs.Roles.{both_none, part_none, parts_none, offends_itself, negated_atom, by_test}
use Rattle.coherent_form.proofs.Values.{assigned, assigned-append, variable_value, every_list, every_value, some_list, some_value}

-- from one statement to the next
along : {P Q R : Type 0} → Same P Q → Same Q R → Same P R
along f g = ((λ p. g.0 (f.0 p)), (λ r. f.1 (g.1 r)))

-- two premises, and two conclusions
both : {P Q R S : Type 0} → Same P R → Same Q S → Same (P × Q) (R × S)
both f g = ((λ h. (f.0 h.0, g.0 h.1)), (λ h. (f.1 h.0, g.1 h.1)))

-- one of two statements
either : {P Q R S : Type 0} → Same P R → Same Q S → Same (P ⊎ Q) (R ⊎ S)
either f g = ((λ h. elim h [ inl p ↦ inl (f.0 p) | inr q ↦ inr (g.0 q) ]), (λ h. elim h [ inl r ↦ inl (f.1 r) | inr s ↦ inr (g.1 s) ]))

-- an implication
implied : {P Q R S : Type 0} → Same P R → Same Q S → Same (P → Q) (R → S)
implied f g = ((λ h r. g.0 (h (f.1 r))), (λ h p. g.1 (h (f.0 p))))

-- two lists of alternatives, and of forms
some_of_both : {X : Type 0} (P : X → Type 0) (xs ys : List X) → Same (SomeOf P xs ⊎ SomeOf P ys) (SomeOf P (xs ++ ys))
some_of_both P xs ys = ((λ h. elim h [ inl p ↦ some_front P xs ys p | inr q ↦ some_back P xs ys q ]), some_append P xs ys)

-- the same of each member
each_of_both : {X : Type 0} (P : X → Type 0) (xs ys : List X) → Same (AllByRecursion P xs × AllByRecursion P ys) (AllByRecursion P (xs ++ ys))
each_of_both P xs ys = ((λ h. each_append P xs ys h.0 h.1), (λ h. (each_front P xs ys h, each_back P xs ys h)))

-- a test that says what a statement says, and its complement
opposite : (P : Type 0) (b : Bool) → Same P (b ≡ true) → Same (P → ⊥) (b ≡ false)
opposite P b f = ((λ none. not_passes b (λ e. none (f.1 e))), (λ fails p. not_both b (f.0 p) fails))

module _ (s : Structure) (numbers meanings : Tables) (longer : Extends numbers meanings) (some : ℕ) (inhabited : s.element some) where
  -- the structure, through the numbers of the tables
  abbrev i : Interpretation
  i = interpretation s meanings

  -- the variables in scope have values
  pub record At (bound scope : List Text) (vs : List ℕ) : Type 0 where
    pub covers : Covers bound scope
    pub long : length vs ≡ length scope

  -- the value of a variable by name
  abbrev env : List Text → List ℕ → Assignment
  env scope vs = assigned scope vs []

  -- the variables of a quantifier too
  under : (xs bound scope : List Text) (vs ds : List ℕ) → At bound scope vs → AreElements i (length xs) ds → At (xs ++ bound) (scope ++ xs) (vs ++ ds)
  under xs bound scope vs ds at are = record {
    covers = covers_more xs bound scope at.covers;
    long = omega (arith, length-append vs ds, length-append scope xs, at.long, are.length_is);
  }

  -- terms and atoms

  -- the value of a term is that of its slot
  term_same : (bound scope : List Text) (vs : List ℕ) (t : Term) → At bound scope vs → TermIsBound bound t → HasTerm numbers t
      → slot_value i vs (slot_of numbers scope t) ≡ term_value s (env scope vs) t
  term_same bound scope vs (Variable x) at closed names = sym (variable_value x scope vs at.long (at.covers x closed.0))
  term_same bound scope vs (Constant c) at closed names = ap (λ o. s.place (text_or_empty o)) (constant_found numbers meanings longer c names).at

  -- so are the values of terms
  terms_same : (bound scope : List Text) (vs : List ℕ) (ts : List Term) → At bound scope vs → AllByRecursion (TermIsBound bound) ts → AllByRecursion (HasTerm numbers) ts
      → map (slot_value i vs) (map (slot_of numbers scope) ts) ≡ map (term_value s (env scope vs)) ts
  terms_same bound scope vs [] at closed names = refl
  terms_same bound scope vs (t ∷ ts) at closed names = λ j. term_same bound scope vs t at closed.0 names.0 j ∷ terms_same bound scope vs ts at closed.1 names.1 j

  -- whether an atom holds
  abbrev holds_at : List Text → List ℕ → Formula → Bool
  holds_at scope vs f = i.holds (symbol_of numbers f) (map (slot_value i vs) (map (slot_of numbers scope) (terms_of numbers f)))

  -- a predicate holds as its symbol does
  predicate_same : (bound scope : List Text) (vs : List ℕ) (p : Text) (ts : List Term) → At bound scope vs → IsBoundIn bound (Pred p ts) → HasNames numbers (Pred p ts)
      → holds_at scope vs (Pred p ts) ≡ s.holds p (map (term_value s (env scope vs)) ts)
  predicate_same bound scope vs p ts at closed names =
      let found = symbol_found numbers meanings longer p (length ts) names.0 in
      let args = terms_same bound scope vs ts at closed names.1 in
      ap (λ n. holds_by_number s meanings n (map (slot_value i vs) (map (slot_of numbers scope) ts))) found.is
      ∙ ap (λ o. holds_by_name s o (map (slot_value i vs) (map (slot_of numbers scope) ts))) found.at
      ∙ ap (s.holds p) args

  -- an atom is true where it holds
  atom_same : (f : Formula) (bound scope : List Text) (vs : List ℕ) → is_atom f ≡ true → At bound scope vs → IsBoundIn bound f → HasNames numbers f
      → Same (IsTrueIn s f (env scope vs)) (holds_at scope vs f ≡ true)
  atom_same (Pred p ts) bound scope vs is at closed names =
      let same = predicate_same bound scope vs p ts at closed names in ((λ h. same ∙ h), (λ h. sym same ∙ h))
  atom_same (Equal t u) bound scope vs is at closed names =
      let first = term_same bound scope vs t at closed.0 names.0 in
      let second = term_same bound scope vs u at closed.1 names.1 in
      let decides = Decides-eqb (slot_value i vs (slot_of numbers scope t)) (slot_value i vs (slot_of numbers scope u)) in
      ((λ h. decides.1 (first ∙ h ∙ sym second)), (λ h. sym first ∙ decides.0 h ∙ second))
  atom_same True bound scope vs is at closed names = absurd (cc)
  atom_same False bound scope vs is at closed names = absurd (cc)
  atom_same (Not' _ row) bound scope vs is at closed names = absurd (cc)
  atom_same (And' _ row) bound scope vs is at closed names = absurd (cc)
  atom_same (Or' _ row) bound scope vs is at closed names = absurd (cc)
  atom_same (Binary' op _ row _ more) bound scope vs is at closed names = absurd (cc)
  atom_same (ForAll' xs _ row) bound scope vs is at closed names = absurd (cc)
  atom_same (Exists' xs _ row) bound scope vs is at closed names = absurd (cc)

  -- one statement in a list
  alone : {P Q : Type 0} → Same P Q → Same P (Q × Unit {0})
  alone f = ((λ p. (f.0 p, tt)), (λ q. f.1 q.0))

  -- conjunctions

  mutual
    -- a conjunction is true where its atoms are
    conjunction_same : (f : Formula) (bound scope : List Text) (vs : List ℕ) → conjunction_offenders f ≡ [] → At bound scope vs → IsBoundIn bound f → HasNames numbers f
        → Same (IsTrueIn s f (env scope vs)) (AllByRecursion (AtomTrue i vs) (atoms_of numbers scope f))
    conjunction_same True bound scope vs fits at closed names = ((λ h. tt), (λ h. tt))
    conjunction_same False bound scope vs fits at closed names = absurd (offends_itself fits)
    conjunction_same (Pred p ts) bound scope vs fits at closed names = alone (atom_same (Pred p ts) bound scope vs refl at closed names)
    conjunction_same (Equal t u) bound scope vs fits at closed names = alone (atom_same (Equal t u) bound scope vs refl at closed names)
    conjunction_same (Not' _ (more_of-Formula g _)) bound scope vs fits at closed names =
        alone (opposite (IsTrueIn s g (env scope vs)) (holds_at scope vs g) (atom_same g bound scope vs (negated_atom g fits) at closed names))
    conjunction_same (And' _ members) bound scope vs fits at closed names = conjunctions_same members 1 bound scope vs fits at closed.1 names
    conjunction_same (Or' _ members) bound scope vs fits at closed names = absurd (offends_itself fits)
    conjunction_same (Binary' op _ (more_of-Formula g _) _ (more_of-Formula h _)) bound scope vs fits at closed names = absurd (offends_itself fits)
    conjunction_same (ForAll' xs _ (more_of-Formula g _)) bound scope vs fits at closed names = absurd (offends_itself fits)
    conjunction_same (Exists' xs _ (more_of-Formula g _)) bound scope vs fits at closed names = absurd (offends_itself fits)

    -- so are members
    conjunctions_same : {n : _} (members : Row_of-Formula n) (first : ℕ) (bound scope : List Text) (vs : List ℕ) → conjunctions_offenders first members ≡ [] → At bound scope vs
        → EachIsBoundIn bound members → HasNamesOf numbers members → Same (EachTrueIn s members (env scope vs)) (AllByRecursion (AtomTrue i vs) (atoms_of_each numbers scope members))
    conjunctions_same end_of-Formula first bound scope vs fits at closed names = ((λ h. tt), (λ h. tt))
    conjunctions_same (more_of-Formula g rest) first bound scope vs fits at closed names =
        let parts = parts_none first (conjunction_offenders g) (conjunctions_offenders (first + nodes g) rest) fits in
        along (both (conjunction_same g bound scope vs parts.0 at closed.0 names.0) (conjunctions_same rest (first + nodes g) bound scope vs parts.1 at closed.1 names.1))
        (each_of_both (AtomTrue i vs) (atoms_of numbers scope g) (atoms_of_each numbers scope rest))

  -- premises

  -- the variables of alternatives are in scope
  abbrev constants : ℕ
  constants = length numbers.constants

  -- the variables and constants of alternatives are below their counts
  below_alternatives : (f : Formula) (bound scope : List Text) (vs : List ℕ) → premise_offenders f ≡ [] → At bound scope vs → IsBoundIn bound f → HasNames numbers f
      → AllByRecursion (AlternativeHas (Below numbers) (below_grows numbers) (below_moves numbers) (length scope)) (alternatives numbers scope f)
  below_alternatives f bound scope vs fits at closed names =
      alternatives_have (Below numbers) (below_grows numbers) (below_moves numbers) numbers (below_base numbers) f bound scope fits at.covers closed names

  -- a conjunction as a premise
  plain_premise : (f : Formula) (bound scope : List Text) (vs : List ℕ) → conjunction_offenders f ≡ [] → At bound scope vs → IsBoundIn bound f → HasNames numbers f
      → Same (IsTrueIn s f (env scope vs)) (SomeOf (AlternativeTrue i vs) (record { variables = 0; atoms = atoms_of numbers scope f } ∷ []))
  plain_premise f bound scope vs fits at closed names =
      along (conjunction_same f bound scope vs fits at closed names) (plain_alternative_true i vs (atoms_of numbers scope f))

  -- an existential formula, where its body is known
  exists_premise : (xs : List Text) (g : Formula) (bound scope : List Text) (vs : List ℕ) → At bound scope vs
      → ((ds : List ℕ) → AreElements i (length xs) ds → Same (IsTrueIn s g (env (scope ++ xs) (vs ++ ds))) (SomeOf (AlternativeTrue i (vs ++ ds)) (alternatives numbers (scope ++ xs) g)))
      → Same (SomeValue s xs (IsTrueIn s g) (env scope vs)) (SomeOf (AlternativeTrue i vs) (map (alternative_bound (length xs)) (alternatives numbers (scope ++ xs) g)))
  exists_premise xs g bound scope vs at body = (
    (λ h. let found = some_list s meanings xs (IsTrueIn s g) (env scope vs) h in
        bind_true i vs found.values (length xs) (alternatives numbers (scope ++ xs) g) found.elements
        ((body found.values found.elements).0 (subst (IsTrueIn s g) (sym (assigned-append scope xs vs found.values [] at.long)) found.holds))),
    (λ h. let found = unbind_true i vs (length xs) (alternatives numbers (scope ++ xs) g) h in
        some_value s meanings xs (IsTrueIn s g) (env scope vs) found.values found.elements
        (subst (IsTrueIn s g) (assigned-append scope xs vs found.values [] at.long) ((body found.values found.elements).1 found.holds))),
  )

  mutual
    -- a premise is true where some alternative is
    premise_same : (f : Formula) (bound scope : List Text) (vs : List ℕ) → premise_offenders f ≡ [] → At bound scope vs → IsBoundIn bound f → HasNames numbers f
        → Same (IsTrueIn s f (env scope vs)) (SomeOf (AlternativeTrue i vs) (alternatives numbers scope f))
    premise_same True bound scope vs fits at closed names = plain_premise True bound scope vs refl at closed names
    premise_same False bound scope vs fits at closed names = absurd (offends_itself fits)
    premise_same (Pred p ts) bound scope vs fits at closed names = plain_premise (Pred p ts) bound scope vs refl at closed names
    premise_same (Equal t u) bound scope vs fits at closed names = plain_premise (Equal t u) bound scope vs refl at closed names
    premise_same (Not' k (more_of-Formula g rest)) bound scope vs fits at closed names = plain_premise (Not' k (more_of-Formula g rest)) bound scope vs fits at closed names
    premise_same (And' _ members) bound scope vs fits at closed names = premises_same members 1 bound scope vs fits at closed.1 names
    premise_same (Or' _ members) bound scope vs fits at closed names = offers_same members 1 bound scope vs fits at closed.1 names
    premise_same (Binary' op _ (more_of-Formula g _) _ (more_of-Formula h _)) bound scope vs fits at closed names = absurd (offends_itself fits)
    premise_same (ForAll' xs _ (more_of-Formula g _)) bound scope vs fits at closed names = absurd (offends_itself fits)
    premise_same (Exists' xs _ (more_of-Formula g _)) bound scope vs fits at closed names =
        exists_premise xs g bound scope vs at
        (λ ds are. premise_same g (xs ++ bound) (scope ++ xs) (vs ++ ds) (part_none 1 (premise_offenders g) fits) (under xs bound scope vs ds at are) closed.1 names)

    -- members are true where some choice is
    premises_same : {n : _} (members : Row_of-Formula n) (first : ℕ) (bound scope : List Text) (vs : List ℕ) → premises_offenders first members ≡ [] → At bound scope vs
        → EachIsBoundIn bound members → HasNamesOf numbers members → Same (EachTrueIn s members (env scope vs)) (SomeOf (AlternativeTrue i vs) (choices numbers scope members))
    premises_same end_of-Formula first bound scope vs fits at closed names = along ((λ h. tt), (λ h. tt)) (plain_alternative_true i vs [])
    premises_same (more_of-Formula g rest) first bound scope vs fits at closed names =
        let parts = parts_none first (premise_offenders g) (premises_offenders (first + nodes g) rest) fits in
        along (both (premise_same g bound scope vs parts.0 at closed.0 names.0) (premises_same rest (first + nodes g) bound scope vs parts.1 at closed.1 names.1))
        (both_true i constants vs (length scope) at.long (alternatives numbers scope g) (choices numbers scope rest) (below_alternatives g bound scope vs parts.0 at closed.0 names.0))

    -- some member is true where some alternative is
    offers_same : {n : _} (members : Row_of-Formula n) (first : ℕ) (bound scope : List Text) (vs : List ℕ) → premises_offenders first members ≡ [] → At bound scope vs
        → EachIsBoundIn bound members → HasNamesOf numbers members → Same (SomeTrueIn s members (env scope vs)) (SomeOf (AlternativeTrue i vs) (offers numbers scope members))
    offers_same end_of-Formula first bound scope vs fits at closed names = ((λ h. h), (λ h. h))
    offers_same (more_of-Formula g rest) first bound scope vs fits at closed names =
        let parts = parts_none first (premise_offenders g) (premises_offenders (first + nodes g) rest) fits in
        along (either (premise_same g bound scope vs parts.0 at closed.0 names.0) (offers_same rest (first + nodes g) bound scope vs parts.1 at closed.1 names.1))
        (some_of_both (AlternativeTrue i vs) (alternatives numbers scope g) (offers numbers scope rest))

  -- conclusions

  -- the variables and constants of a conclusion are below their counts
  below_head : (f : Formula) (bound scope : List Text) (vs : List ℕ) → conclusion_offenders f ≡ [] → At bound scope vs → IsBoundIn bound f → HasNames numbers f
      → HeadHas (Below numbers) (below_grows numbers) (below_moves numbers) (length scope) (head_of numbers scope f)
  below_head f bound scope vs fits at closed names =
      head_has (Below numbers) (below_grows numbers) (below_moves numbers) numbers (below_base numbers) f bound scope fits at.covers closed names

  -- a conjunction as a conclusion
  plain_conclusion : (f : Formula) (bound scope : List Text) (vs : List ℕ) → conjunction_offenders f ≡ [] → At bound scope vs → IsBoundIn bound f → HasNames numbers f
      → Same (IsTrueIn s f (env scope vs)) (HeadTrue i vs (record { variables = 0; disjuncts = atoms_of numbers scope f ∷ [] }))
  plain_conclusion f bound scope vs fits at closed names =
      along (conjunction_same f bound scope vs fits at closed names) (plain_head_true i vs (atoms_of numbers scope f))

  -- an existential conclusion, where its body is known
  exists_conclusion : (xs : List Text) (g : Formula) (bound scope : List Text) (vs : List ℕ) → At bound scope vs
      → ((ds : List ℕ) → AreElements i (length xs) ds → Same (IsTrueIn s g (env (scope ++ xs) (vs ++ ds))) (HeadTrue i (vs ++ ds) (head_of numbers (scope ++ xs) g)))
      → Same (SomeValue s xs (IsTrueIn s g) (env scope vs)) (HeadTrue i vs (head_bound (length xs) (head_of numbers (scope ++ xs) g)))
  exists_conclusion xs g bound scope vs at body = (
    (λ h. let found = some_list s meanings xs (IsTrueIn s g) (env scope vs) h in
        bind_head i vs found.values (length xs) (head_of numbers (scope ++ xs) g) found.elements
        ((body found.values found.elements).0 (subst (IsTrueIn s g) (sym (assigned-append scope xs vs found.values [] at.long)) found.holds))),
    (λ h. let found = unbind_head i vs (length xs) (head_of numbers (scope ++ xs) g) h in
        some_value s meanings xs (IsTrueIn s g) (env scope vs) found.values found.elements
        (subst (IsTrueIn s g) (assigned-append scope xs vs found.values [] at.long) ((body found.values found.elements).1 found.holds))),
  )

  -- falsehood, and a disjunction without members
  no_conclusion : (vs : List ℕ) → Same ⊥ (HeadTrue i vs (record { variables = 0; disjuncts = [] }))
  no_conclusion vs = ((λ h. absurd h), (λ t. t.holds))

  mutual
    -- a conclusion is true where its reading is
    conclusion_same : (f : Formula) (bound scope : List Text) (vs : List ℕ) → conclusion_offenders f ≡ [] → At bound scope vs → IsBoundIn bound f → HasNames numbers f
        → Same (IsTrueIn s f (env scope vs)) (HeadTrue i vs (head_of numbers scope f))
    conclusion_same True bound scope vs fits at closed names = plain_conclusion True bound scope vs refl at closed names
    conclusion_same False bound scope vs fits at closed names = no_conclusion vs
    conclusion_same (Pred p ts) bound scope vs fits at closed names = plain_conclusion (Pred p ts) bound scope vs refl at closed names
    conclusion_same (Equal t u) bound scope vs fits at closed names = plain_conclusion (Equal t u) bound scope vs refl at closed names
    conclusion_same (Not' k (more_of-Formula g rest)) bound scope vs fits at closed names = plain_conclusion (Not' k (more_of-Formula g rest)) bound scope vs fits at closed names
    conclusion_same (And' k members) bound scope vs fits at closed names = plain_conclusion (And' k members) bound scope vs fits at closed names
    conclusion_same (Or' _ members) bound scope vs fits at closed names = conclusions_same members 1 bound scope vs fits at closed.1 names
    conclusion_same (Binary' op _ (more_of-Formula g _) _ (more_of-Formula h _)) bound scope vs fits at closed names = absurd (offends_itself fits)
    conclusion_same (ForAll' xs _ (more_of-Formula g _)) bound scope vs fits at closed names = absurd (offends_itself fits)
    conclusion_same (Exists' xs _ (more_of-Formula g _)) bound scope vs fits at closed names =
        exists_conclusion xs g bound scope vs at
        (λ ds are. conclusion_same g (xs ++ bound) (scope ++ xs) (vs ++ ds) (part_none 1 (conclusion_offenders g) fits) (under xs bound scope vs ds at are) closed.1 names)

    -- some member is true where their reading is
    conclusions_same : {n : _} (members : Row_of-Formula n) (first : ℕ) (bound scope : List Text) (vs : List ℕ) → conclusions_offenders first members ≡ [] → At bound scope vs
        → EachIsBoundIn bound members → HasNamesOf numbers members → Same (SomeTrueIn s members (env scope vs)) (HeadTrue i vs (head_of_each numbers scope members))
    conclusions_same end_of-Formula first bound scope vs fits at closed names = no_conclusion vs
    conclusions_same (more_of-Formula g rest) first bound scope vs fits at closed names =
        let parts = parts_none first (conclusion_offenders g) (conclusions_offenders (first + nodes g) rest) fits in
        along (either (conclusion_same g bound scope vs parts.0 at closed.0 names.0) (conclusions_same rest (first + nodes g) bound scope vs parts.1 at closed.1 names.1))
        (either_true i some inhabited constants vs (length scope) at.long (head_of numbers scope g) (head_of_each numbers scope rest) (below_head g bound scope vs parts.0 at closed.0 names.0))

  -- rules

  -- a conclusion as a rule
  plain_rule : (f : Formula) (bound scope : List Text) (vs : List ℕ) → conclusion_offenders f ≡ [] → At bound scope vs → IsBoundIn bound f → HasNames numbers f
      → Same (IsTrueIn s f (env scope vs)) (AllByRecursion (RuleTrue i vs) (form_of_head (head_of numbers scope f) ∷ []))
  plain_rule f bound scope vs fits at closed names =
      along (conclusion_same f bound scope vs fits at closed names) (head_rule i vs (head_of numbers scope f))

  -- a universal rule, where its body is known
  for_all_rule : (xs : List Text) (g : Formula) (bound scope : List Text) (vs : List ℕ) → At bound scope vs
      → ((ds : List ℕ) → AreElements i (length xs) ds → Same (IsTrueIn s g (env (scope ++ xs) (vs ++ ds))) (AllByRecursion (RuleTrue i (vs ++ ds)) (forms_of numbers (scope ++ xs) g)))
      → Same (EveryValue s xs (IsTrueIn s g) (env scope vs)) (AllByRecursion (RuleTrue i vs) (map (form_bound (length xs)) (forms_of numbers (scope ++ xs) g)))
  for_all_rule xs g bound scope vs at body = (
    (λ h. bind_rules i vs (length xs) (forms_of numbers (scope ++ xs) g)
        (λ ds are. (body ds are).0 (subst (IsTrueIn s g) (sym (assigned-append scope xs vs ds [] at.long)) (every_list s meanings xs (IsTrueIn s g) (env scope vs) h ds are)))),
    (λ h. every_value s meanings xs (IsTrueIn s g) (env scope vs)
        (λ ds are. subst (IsTrueIn s g) (assigned-append scope xs vs ds [] at.long) ((body ds are).1 (unbind_rules i vs ds (length xs) (forms_of numbers (scope ++ xs) g) are h)))),
  )

  -- an implication, where its sides are known
  guarded_rule : (g h : Formula) (bound scope : List Text) (vs : List ℕ) → premise_offenders g ≡ [] → At bound scope vs → IsBoundIn bound g → HasNames numbers g
      → Same (IsTrueIn s g (env scope vs)) (SomeOf (AlternativeTrue i vs) (alternatives numbers scope g))
      → Same (IsTrueIn s h (env scope vs)) (AllByRecursion (RuleTrue i vs) (forms_of numbers scope h))
      → Same (IsTrueIn s g (env scope vs) → IsTrueIn s h (env scope vs))
      (AllByRecursion (RuleTrue i vs) (forms_guarded (length scope) (alternatives numbers scope g) (forms_of numbers scope h)))
  guarded_rule g h bound scope vs fits at closed names left right =
      along (implied left right)
      (guarded_true i constants vs (length scope) at.long (alternatives numbers scope g) (forms_of numbers scope h) (below_alternatives g bound scope vs fits at closed names))

  mutual
    -- a rule is true where its forms are
    rule_same : (f : Formula) (bound scope : List Text) (vs : List ℕ) → rule_offenders f ≡ [] → At bound scope vs → IsBoundIn bound f → HasNames numbers f
        → Same (IsTrueIn s f (env scope vs)) (AllByRecursion (RuleTrue i vs) (forms_of numbers scope f))
    rule_same True bound scope vs fits at closed names = plain_rule True bound scope vs fits at closed names
    rule_same False bound scope vs fits at closed names = plain_rule False bound scope vs fits at closed names
    rule_same (Pred p ts) bound scope vs fits at closed names = plain_rule (Pred p ts) bound scope vs fits at closed names
    rule_same (Equal t u) bound scope vs fits at closed names = plain_rule (Equal t u) bound scope vs fits at closed names
    rule_same (Not' k (more_of-Formula g rest)) bound scope vs fits at closed names = plain_rule (Not' k (more_of-Formula g rest)) bound scope vs fits at closed names
    rule_same (Or' k members) bound scope vs fits at closed names = plain_rule (Or' k members) bound scope vs fits at closed names
    rule_same (Exists' xs k (more_of-Formula g rest)) bound scope vs fits at closed names = plain_rule (Exists' xs k (more_of-Formula g rest)) bound scope vs fits at closed names
    rule_same (And' k members) bound scope vs fits at closed names =
        by_test (λ forms. Same (EachTrueIn s members (env scope vs)) (AllByRecursion (RuleTrue i vs) forms))
        (are_plain members) (conclusion_offenders (And' k members)) (rules_offenders 1 members)
        (form_of_head (head_of numbers scope (And' k members)) ∷ []) (forms_of_each numbers scope members) fits
        (λ plain. plain_rule (And' k members) bound scope vs plain at closed names)
        (λ rules. rules_same members 1 bound scope vs rules at closed.1 names)
    rule_same (ForAll' xs _ (more_of-Formula g _)) bound scope vs fits at closed names =
        for_all_rule xs g bound scope vs at
        (λ ds are. rule_same g (xs ++ bound) (scope ++ xs) (vs ++ ds) (part_none 1 (rule_offenders g) fits) (under xs bound scope vs ds at are) closed.1 names)
    rule_same (Binary' Implies _ (more_of-Formula g _) _ (more_of-Formula h _)) bound scope vs fits at closed names =
        let parts = parts_none 1 (premise_offenders g) _ fits in
        guarded_rule g h bound scope vs parts.0 at closed.0 names.0
        (premise_same g bound scope vs parts.0 at closed.0 names.0)
        (rule_same h bound scope vs (part_none (1 + nodes g) (rule_offenders h) parts.1) at closed.1 names.1)
    rule_same (Binary' Implied _ (more_of-Formula g _) _ (more_of-Formula h _)) bound scope vs fits at closed names =
        let parts = parts_none 1 (rule_offenders g) _ fits in
        let premise = part_none (1 + nodes g) (premise_offenders h) parts.1 in
        guarded_rule h g bound scope vs premise at closed.1 names.1
        (premise_same h bound scope vs premise at closed.1 names.1)
        (rule_same g bound scope vs parts.0 at closed.0 names.0)
    rule_same (Binary' Iff _ (more_of-Formula g _) _ (more_of-Formula h _)) bound scope vs fits at closed names =
        let parts = parts_none 1 (premise_offenders g ++ rule_offenders g) _ fits in
        let left = both_none (premise_offenders g) (rule_offenders g) parts.0 in
        let right = both_none (premise_offenders h) (rule_offenders h) (part_none (1 + nodes g) (premise_offenders h ++ rule_offenders h) parts.1) in
        along (both
        (guarded_rule g h bound scope vs left.0 at closed.0 names.0 (premise_same g bound scope vs left.0 at closed.0 names.0) (rule_same h bound scope vs right.1 at closed.1 names.1))
        (guarded_rule h g bound scope vs right.0 at closed.1 names.1 (premise_same h bound scope vs right.0 at closed.1 names.1) (rule_same g bound scope vs left.1 at closed.0 names.0)))
        (each_of_both (RuleTrue i vs) (forms_guarded (length scope) (alternatives numbers scope g) (forms_of numbers scope h))
        (forms_guarded (length scope) (alternatives numbers scope h) (forms_of numbers scope g)))
    rule_same (Binary' Xor _ (more_of-Formula g _) _ (more_of-Formula h _)) bound scope vs fits at closed names = absurd (offends_itself fits)
    rule_same (Binary' Nor _ (more_of-Formula g _) _ (more_of-Formula h _)) bound scope vs fits at closed names = absurd (offends_itself fits)
    rule_same (Binary' Nand _ (more_of-Formula g _) _ (more_of-Formula h _)) bound scope vs fits at closed names = absurd (offends_itself fits)

    -- members are true where their forms are
    rules_same : {n : _} (members : Row_of-Formula n) (first : ℕ) (bound scope : List Text) (vs : List ℕ) → rules_offenders first members ≡ [] → At bound scope vs
        → EachIsBoundIn bound members → HasNamesOf numbers members → Same (EachTrueIn s members (env scope vs)) (AllByRecursion (RuleTrue i vs) (forms_of_each numbers scope members))
    rules_same end_of-Formula first bound scope vs fits at closed names = ((λ h. tt), (λ h. tt))
    rules_same (more_of-Formula g rest) first bound scope vs fits at closed names =
        let parts = parts_none first (rule_offenders g) (rules_offenders (first + nodes g) rest) fits in
        along (both (rule_same g bound scope vs parts.0 at closed.0 names.0) (rules_same rest (first + nodes g) bound scope vs parts.1 at closed.1 names.1))
        (each_of_both (RuleTrue i vs) (forms_of numbers scope g) (forms_of_each numbers scope rest))

  -- a closed formula as a whole
  pub formula_same : (f : Formula) → rule_offenders f ≡ [] → IsBoundIn [] f → HasNames numbers f
      → Same (IsTrueIn s f []) (AllByRecursion (FormTrue i) (forms_of numbers [] f))
  formula_same f fits closed names = rule_same f [] [] [] fits (record { covers = λ x among. among; long = refl }) closed names
