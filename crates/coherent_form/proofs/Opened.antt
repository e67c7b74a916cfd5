-- How the formulas that code takes apart are read: a list of members as a row.
use Rattle.std.proofs.Common.{◌≡◌, ℕ, zero, suc, ◌+◌, ◌<◌, arith, take, slice_index_or, Bool, true, false, ◌&&◌, if◌then◌else◌, List, [], ◌∷◌, ◌++◌, map, length, refl, ap, sym, ◌∙◌, append_assoc}
use Rattle.std.specs.Prelude.{Result, OnOk}
use Rattle.std.proofs.lemmas.List.{append-nil}
use Rattle.std.proofs.lemmas.Result.{on_ok_weaker}
use Rattle.text_core.specs.Names.{Text}
use Rattle.text_core.specs.Numbered.{Tables}
use Rattle.logic_core.proofs.Laws.{row_of, Not_opens, And_opens, Or_opens, Binary_opens, ForAll_opens, Exists_opens}
use Rattle.logic_core.specs.declared.formula.Op.{Op}
use Rattle.logic_core.specs.declared.formula.Term.{Term}
use Rattle.logic_core.specs.declared.formula.Op.TheVariants.{Implies, Implied, Iff}
use Rattle.logic_core.specs.declared.formula.Formula.{Formula, Not, And, Or, Binary, ForAll, Exists}
use Rattle.logic_core.specs.declared.formula.Formula.TheBlock.{shape-the_row-Formula-1}
use Rattle.logic_core.specs.declared.form.Atom.{Atom}
use Rattle.logic_core.specs.declared.form.Form.{Form}
use Rattle.coherent_form.specs.Offending.{is_atom, is_plain, are_plain}
use Rattle.coherent_form.specs.Reading.{with_term, with_terms, with_names, with_names_of, alternatives_joined, alternative_bound, head_joined, head_bound, form_of_head, form_bound, forms_guarded, atom_of, atoms_of, atoms_of_each, alternatives, choices, offers, head_of, head_of_each, forms_of, forms_of_each}
use Rattle.text_core.proofs.Laws.{and_true}
use Rattle.coherent_form.proofs.Steps.{front_more}
use Rattle.coherent_form.proofs.Joining.{joined_nothing, nothing_joined, joined-joined, head_nothing, nothing_head, heads-joined}
use Rattle.coherent_form.specs.Each.{with_names_of_each, each_is_plain, atoms_in, choices_in, offers_in, head_in, forms_in}
use Rattle.coherent_form.specs.declared.alternative.Alternative.{Alternative}
use Rattle.coherent_form.specs.declared.alternative.Head.{Head}

-- the names

-- members in a row as a list
names_row : (gs : List Formula) (tables : Tables) → with_names_of (row_of gs) tables ≡ with_names_of_each gs tables
unfolding row_of shape-the_row-Formula-1
names_row [] tables = refl
names_row (g ∷ gs) tables = names_row gs (with_names g tables)

-- the names of a negation
pub with_names-Not : (g : Formula) (tables : Tables) → with_names (Not g) tables ≡ with_names g tables
with_names-Not g tables = ap (λ f. with_names f tables) (Not_opens g)

-- of a conjunction
pub with_names-And : (gs : List Formula) (tables : Tables) → with_names (And gs) tables ≡ with_names_of_each gs tables
with_names-And gs tables = ap (λ f. with_names f tables) (And_opens gs) ∙ names_row gs tables

-- of a disjunction
pub with_names-Or : (gs : List Formula) (tables : Tables) → with_names (Or gs) tables ≡ with_names_of_each gs tables
with_names-Or gs tables = ap (λ f. with_names f tables) (Or_opens gs) ∙ names_row gs tables

-- of two formulas
pub with_names-Binary : (op : Op) (g h : Formula) (tables : Tables) → with_names (Binary op g h) tables ≡ with_names h (with_names g tables)
with_names-Binary op g h tables = ap (λ f. with_names f tables) (Binary_opens op g h)

-- of a universal formula
pub with_names-ForAll : (xs : List Text) (g : Formula) (tables : Tables) → with_names (ForAll xs g) tables ≡ with_names g tables
with_names-ForAll xs g tables = ap (λ f. with_names f tables) (ForAll_opens xs g)

-- of an existential formula
pub with_names-Exists : (xs : List Text) (g : Formula) (tables : Tables) → with_names (Exists xs g) tables ≡ with_names g tables
with_names-Exists xs g tables = ap (λ f. with_names f tables) (Exists_opens xs g)

-- one term more
pub with_terms_more : (ts : List Term) (t : Term) (tables : Tables) → with_terms tables (ts ++ t ∷ []) ≡ with_term (with_terms tables ts) t
with_terms_more [] t tables = refl
with_terms_more (u ∷ ts) t tables = with_terms_more ts t (with_term tables u)

-- one formula more
pub with_names_of_each_more : (gs : List Formula) (g : Formula) (tables : Tables)
    → with_names_of_each (gs ++ g ∷ []) tables ≡ with_names g (with_names_of_each gs tables)
with_names_of_each_more [] g tables = refl
with_names_of_each_more (h ∷ gs) g tables = with_names_of_each_more gs g (with_names h tables)

pub ruleset names = (with_names-Not, with_names-And, with_names-Or, with_names-Binary, with_names-ForAll, with_names-Exists, with_names_of_each_more, with_terms_more)

-- the names of a formula that code takes apart, where its parts are read as other values
module _ {E : Type 0} (r : Result (Unit {0}) E) (old new : Tables) (f g h : Formula) where
  -- a universal formula
  pub named_ForAll : (xs : List Text) → f ≡ ForAll xs g → h ≡ g → OnOk r (new ≡ with_names h old) → OnOk r (new ≡ with_names f old)
  named_ForAll xs is same named = on_ok_weaker r (λ e. e ∙ ap (λ k. with_names k old) same ∙ sym (with_names-ForAll xs g old) ∙ ap (λ k. with_names k old) (sym is)) named

  -- an existential formula
  pub named_Exists : (xs : List Text) → f ≡ Exists xs g → h ≡ g → OnOk r (new ≡ with_names h old) → OnOk r (new ≡ with_names f old)
  named_Exists xs is same named = on_ok_weaker r (λ e. e ∙ ap (λ k. with_names k old) same ∙ sym (with_names-Exists xs g old) ∙ ap (λ k. with_names k old) (sym is)) named

  -- two formulas
  pub named_Binary : (op : Op) (k l : Formula) (middle : Tables) → f ≡ Binary op g k → h ≡ g → l ≡ k → middle ≡ with_names h old → OnOk r (new ≡ with_names l middle)
      → OnOk r (new ≡ with_names f old)
  named_Binary op k l middle is left right first named = on_ok_weaker r
      (λ e. e ∙ ap (λ (t : Tables). with_names l t) first ∙ ap (λ x. with_names x (with_names h old)) right ∙ ap (λ x. with_names k (with_names x old)) left
      ∙ sym (with_names-Binary op g k old) ∙ ap (λ x. with_names x old) (sym is)) named

-- plain formulas

-- plain members in a row as a list
plain_row : (gs : List Formula) → are_plain (row_of gs) ≡ each_is_plain gs
unfolding row_of shape-the_row-Formula-1
plain_row [] = refl
plain_row (g ∷ gs) = ap (λ b. is_plain g && b) (plain_row gs)

-- whether a conjunction is plain
pub is_plain-And : (gs : List Formula) → is_plain (And gs) ≡ each_is_plain gs
is_plain-And gs = ap is_plain (And_opens gs) ∙ plain_row gs

-- whether a negation is plain
pub is_plain-Not : (g : Formula) → is_plain (Not g) ≡ is_atom g
is_plain-Not g = ap is_plain (Not_opens g)

pub ruleset plain = (is_plain-And, is_plain-Not)

-- one member more
pub each_is_plain_more : (gs : List Formula) (g : Formula) → each_is_plain (gs ++ g ∷ []) ≡ (each_is_plain gs && is_plain g)
each_is_plain_more [] g = and_true_last (is_plain g)
  where
    and_true_last : (b : Bool) → (b && true) ≡ b
    and_true_last true = refl
    and_true_last false = refl
each_is_plain_more (h ∷ gs) g = ap (λ b. is_plain h && b) (each_is_plain_more gs g) ∙ and_assoc (is_plain h) (each_is_plain gs) (is_plain g)
  where
    and_assoc : (a b c : Bool) → (a && (b && c)) ≡ ((a && b) && c)
    and_assoc true b c = refl
    and_assoc false b c = refl

-- one member that is not plain
pub one_not_plain : (gs : List Formula) (i : ℕ) (g : Formula) → i < length gs → g ≡ slice_index_or gs i g → is_plain g ≡ false → each_is_plain gs ≡ false
one_not_plain [] i g within is fails = absurd (omega arith)
one_not_plain (h ∷ gs) zero g within is fails = ap (λ b. b && each_is_plain gs) (ap is_plain (sym is) ∙ fails)
one_not_plain (h ∷ gs) (suc i) g within is fails = and_false (is_plain h) (each_is_plain gs) (one_not_plain gs i g (omega arith) is fails)
  where
    and_false : (a b : Bool) → b ≡ false → (a && b) ≡ false
    and_false true b e = e
    and_false false b e = refl

-- one more member that is plain
pub more_plain : (gs : List Formula) (i : ℕ) (g : Formula) → i < length gs → g ≡ slice_index_or gs i g → each_is_plain (take i gs) ≡ true → is_plain g ≡ true
    → each_is_plain (take (i + 1) gs) ≡ true
more_plain gs i g within is so_far passes = ap each_is_plain (front_more gs i g within is) ∙ each_is_plain_more (take i gs) g ∙ and_true (each_is_plain (take i gs)) (is_plain g) so_far passes

-- conjunctions

module _ (tables : Tables) (scope : List Text) where
  -- the atoms of members in a row as a list
  atoms_row : (gs : List Formula) → atoms_of_each tables scope (row_of gs) ≡ atoms_in tables scope gs
  unfolding row_of shape-the_row-Formula-1
  atoms_row [] = refl
  atoms_row (g ∷ gs) = ap (λ (rest : List Atom). atoms_of tables scope g ++ rest) (atoms_row gs)

  -- the atoms of a conjunction
  pub atoms_of-And : (gs : List Formula) → atoms_of tables scope (And gs) ≡ atoms_in tables scope gs
  atoms_of-And gs = ap (atoms_of tables scope) (And_opens gs) ∙ atoms_row gs

  -- the atom of a negation
  pub atoms_of-Not : (g : Formula) → atoms_of tables scope (Not g) ≡ atom_of tables scope false g ∷ []
  atoms_of-Not g = ap (atoms_of tables scope) (Not_opens g)

  -- the atoms of one member more
  pub atoms_in_more : (gs : List Formula) (g : Formula) → atoms_in tables scope (gs ++ g ∷ []) ≡ atoms_in tables scope gs ++ atoms_of tables scope g
  atoms_in_more [] g = append-nil (atoms_of tables scope g)
  atoms_in_more (h ∷ gs) g = ap (λ (rest : List Atom). atoms_of tables scope h ++ rest) (atoms_in_more gs g)
      ∙ sym (append_assoc (atoms_of tables scope h) (atoms_in tables scope gs) (atoms_of tables scope g))

  -- premises

  -- every choice from members in a row as a list
  choices_row : (gs : List Formula) → choices tables scope (row_of gs) ≡ choices_in tables scope gs
  unfolding row_of shape-the_row-Formula-1
  choices_row [] = refl
  choices_row (g ∷ gs) = ap (alternatives_joined (length scope) (alternatives tables scope g)) (choices_row gs)

  -- the alternatives of members in a row as a list
  offers_row : (gs : List Formula) → offers tables scope (row_of gs) ≡ offers_in tables scope gs
  unfolding row_of shape-the_row-Formula-1
  offers_row [] = refl
  offers_row (g ∷ gs) = ap (λ (rest : List Alternative). alternatives tables scope g ++ rest) (offers_row gs)

  -- the alternatives of a conjunction
  pub alternatives-And : (gs : List Formula) → alternatives tables scope (And gs) ≡ choices_in tables scope gs
  alternatives-And gs = ap (alternatives tables scope) (And_opens gs) ∙ choices_row gs

  -- the alternatives of a disjunction
  pub alternatives-Or : (gs : List Formula) → alternatives tables scope (Or gs) ≡ offers_in tables scope gs
  alternatives-Or gs = ap (alternatives tables scope) (Or_opens gs) ∙ offers_row gs

  -- the alternatives of an existential premise
  pub alternatives-Exists : (xs : List Text) (g : Formula)
      → alternatives tables scope (Exists xs g) ≡ map (alternative_bound (length xs)) (alternatives tables (scope ++ xs) g)
  alternatives-Exists xs g = ap (alternatives tables scope) (Exists_opens xs g)

  -- the alternatives of one member more
  pub offers_in_more : (gs : List Formula) (g : Formula) → offers_in tables scope (gs ++ g ∷ []) ≡ offers_in tables scope gs ++ alternatives tables scope g
  offers_in_more [] g = append-nil (alternatives tables scope g)
  offers_in_more (h ∷ gs) g = ap (λ (rest : List Alternative). alternatives tables scope h ++ rest) (offers_in_more gs g)
      ∙ sym (append_assoc (alternatives tables scope h) (offers_in tables scope gs) (alternatives tables scope g))

  -- every choice from one member more
  pub choices_in_more : (gs : List Formula) (g : Formula)
      → choices_in tables scope (gs ++ g ∷ []) ≡ alternatives_joined (length scope) (choices_in tables scope gs) (alternatives tables scope g)
  choices_in_more [] g = joined_nothing (length scope) (alternatives tables scope g) ∙ sym (nothing_joined (length scope) (alternatives tables scope g))
  choices_in_more (h ∷ gs) g = ap (alternatives_joined (length scope) (alternatives tables scope h)) (choices_in_more gs g)
      ∙ sym (joined-joined (length scope) (alternatives tables scope h) (choices_in tables scope gs) (alternatives tables scope g))

  -- an existential premise, where its parts are read as other values
  pub exists_alternatives : (f body g : Formula) (xs slice inside : List Text) (count : ℕ) (inner : List Alternative)
      → f ≡ Exists xs body → slice ≡ xs → g ≡ body → inside ≡ scope ++ slice → inner ≡ alternatives tables inside g → count ≡ length xs
      → map (alternative_bound count) inner ≡ alternatives tables scope f
  exists_alternatives f body g xs slice inside count inner is names same bound value counted =
      (λ i. map (alternative_bound (counted i)) ((value ∙ (λ j. alternatives tables (bound j) (same j)) ∙ ap (λ ys. alternatives tables (scope ++ ys) body) names) i))
      ∙ sym (alternatives-Exists xs body) ∙ ap (alternatives tables scope) (sym is)

  -- conclusions

  -- the conclusion that is any of members in a row as a list
  head_row : (gs : List Formula) → head_of_each tables scope (row_of gs) ≡ head_in tables scope gs
  unfolding row_of shape-the_row-Formula-1
  head_row [] = refl
  head_row (g ∷ gs) = ap (head_joined (length scope) (head_of tables scope g)) (head_row gs)

  -- a disjunction as a conclusion
  pub head_of-Or : (gs : List Formula) → head_of tables scope (Or gs) ≡ head_in tables scope gs
  head_of-Or gs = ap (head_of tables scope) (Or_opens gs) ∙ head_row gs

  -- an existential conclusion
  pub head_of-Exists : (xs : List Text) (g : Formula) → head_of tables scope (Exists xs g) ≡ head_bound (length xs) (head_of tables (scope ++ xs) g)
  head_of-Exists xs g = ap (head_of tables scope) (Exists_opens xs g)

  -- one member more
  pub head_in_more : (gs : List Formula) (g : Formula) → head_in tables scope (gs ++ g ∷ []) ≡ head_joined (length scope) (head_in tables scope gs) (head_of tables scope g)
  head_in_more [] g = head_nothing (length scope) (head_of tables scope g) ∙ sym (nothing_head (length scope) (head_of tables scope g))
  head_in_more (h ∷ gs) g = ap (head_joined (length scope) (head_of tables scope h)) (head_in_more gs g)
      ∙ sym (heads-joined (length scope) (head_of tables scope h) (head_in tables scope gs) (head_of tables scope g))

  -- an existential conclusion, where its parts are read as other values
  pub exists_head : (f body g : Formula) (xs slice inside : List Text) (count : ℕ) (inner : Head)
      → f ≡ Exists xs body → slice ≡ xs → g ≡ body → inside ≡ scope ++ slice → inner ≡ head_of tables inside g → count ≡ length xs
      → head_bound count inner ≡ head_of tables scope f
  exists_head f body g xs slice inside count inner is names same bound value counted =
      (λ i. head_bound (counted i) ((value ∙ (λ j. head_of tables (bound j) (same j)) ∙ ap (λ ys. head_of tables (scope ++ ys) body) names) i))
      ∙ sym (head_of-Exists xs body) ∙ ap (head_of tables scope) (sym is)

  -- rules

  -- the forms of members in a row as a list
  forms_row : (gs : List Formula) → forms_of_each tables scope (row_of gs) ≡ forms_in tables scope gs
  unfolding row_of shape-the_row-Formula-1
  forms_row [] = refl
  forms_row (g ∷ gs) = ap (λ (rest : List Form). forms_of tables scope g ++ rest) (forms_row gs)

  -- the forms of one member more
  pub forms_in_more : (gs : List Formula) (g : Formula) → forms_in tables scope (gs ++ g ∷ []) ≡ forms_in tables scope gs ++ forms_of tables scope g
  forms_in_more [] g = append-nil (forms_of tables scope g)
  forms_in_more (h ∷ gs) g = ap (λ (rest : List Form). forms_of tables scope h ++ rest) (forms_in_more gs g)
      ∙ sym (append_assoc (forms_of tables scope h) (forms_in tables scope gs) (forms_of tables scope g))

  -- the forms of a universal rule
  pub forms_of-ForAll : (xs : List Text) (g : Formula) → forms_of tables scope (ForAll xs g) ≡ map (form_bound (length xs)) (forms_of tables (scope ++ xs) g)
  forms_of-ForAll xs g = ap (forms_of tables scope) (ForAll_opens xs g)

  -- the forms of an implication
  pub forms_of-Implies : (g h : Formula)
      → forms_of tables scope (Binary Implies g h) ≡ forms_guarded (length scope) (alternatives tables scope g) (forms_of tables scope h)
  forms_of-Implies g h = ap (forms_of tables scope) (Binary_opens Implies g h)

  -- the forms of a reversed implication
  pub forms_of-Implied : (g h : Formula)
      → forms_of tables scope (Binary Implied g h) ≡ forms_guarded (length scope) (alternatives tables scope h) (forms_of tables scope g)
  forms_of-Implied g h = ap (forms_of tables scope) (Binary_opens Implied g h)

  -- the forms of an equivalence
  pub forms_of-Iff : (g h : Formula) → forms_of tables scope (Binary Iff g h)
      ≡ forms_guarded (length scope) (alternatives tables scope g) (forms_of tables scope h) ++ forms_guarded (length scope) (alternatives tables scope h) (forms_of tables scope g)
  forms_of-Iff g h = ap (forms_of tables scope) (Binary_opens Iff g h)

  -- the forms of a conjunction
  pub forms_of-And : (gs : List Formula)
      → forms_of tables scope (And gs) ≡ (if each_is_plain gs then form_of_head (head_of tables scope (And gs)) ∷ [] else forms_in tables scope gs)
  forms_of-And gs = ap (forms_of tables scope) (And_opens gs)
      ∙ (λ i. if plain_row gs i then form_of_head (head_of tables scope (sym (And_opens gs) i)) ∷ [] else forms_row gs i)

-- a universal rule, where its parts are read as other values
pub for_all_forms : (tables : Tables) (scope : List Text) (f body g : Formula) (xs slice inside : List Text) (count : ℕ) (inner : List Form)
    → f ≡ ForAll xs body → slice ≡ xs → g ≡ body → inside ≡ scope ++ slice → inner ≡ forms_of tables inside g → count ≡ length xs
    → map (form_bound count) inner ≡ forms_of tables scope f
for_all_forms tables scope f body g xs slice inside count inner is names same bound value counted =
    (λ i. map (form_bound (counted i)) ((value ∙ (λ j. forms_of tables (bound j) (same j)) ∙ ap (λ ys. forms_of tables (scope ++ ys) body) names) i))
    ∙ sym (forms_of-ForAll tables scope xs body) ∙ ap (forms_of tables scope) (sym is)

-- implications, where their parts are read as other values
module _ (tables : Tables) (scope : List Text) (f left right g h : Formula) (count : ℕ) (guards : List Alternative) (forms : List Form)
    (same_left : g ≡ left) (same_right : h ≡ right) (counted : count ≡ length scope) where
  -- an implication
  pub implies_forms : f ≡ Binary Implies left right → guards ≡ alternatives tables scope g → forms ≡ forms_of tables scope h
      → forms_guarded count guards forms ≡ forms_of tables scope f
  implies_forms is first second =
      (λ i. forms_guarded (counted i) ((first ∙ ap (alternatives tables scope) same_left) i) ((second ∙ ap (forms_of tables scope) same_right) i))
      ∙ sym (forms_of-Implies tables scope left right) ∙ ap (forms_of tables scope) (sym is)

  -- a reversed implication
  pub implied_forms : f ≡ Binary Implied left right → guards ≡ alternatives tables scope h → forms ≡ forms_of tables scope g
      → forms_guarded count guards forms ≡ forms_of tables scope f
  implied_forms is first second =
      (λ i. forms_guarded (counted i) ((first ∙ ap (alternatives tables scope) same_right) i) ((second ∙ ap (forms_of tables scope) same_left) i))
      ∙ sym (forms_of-Implied tables scope left right) ∙ ap (forms_of tables scope) (sym is)

  -- an equivalence
  pub iff_forms : f ≡ Binary Iff left right → (more_count : ℕ) (more_guards : List Alternative) (more_forms : List Form) → more_count ≡ length scope
      → guards ≡ alternatives tables scope g → forms ≡ forms_of tables scope h
      → more_guards ≡ alternatives tables scope h → more_forms ≡ forms_of tables scope g
      → forms_guarded count guards forms ++ forms_guarded more_count more_guards more_forms ≡ forms_of tables scope f
  iff_forms is more_count more_guards more_forms more_counted first second third fourth =
      (λ i. forms_guarded (counted i) ((first ∙ ap (alternatives tables scope) same_left) i) ((second ∙ ap (forms_of tables scope) same_right) i)
      ++ forms_guarded (more_counted i) ((third ∙ ap (alternatives tables scope) same_right) i) ((fourth ∙ ap (forms_of tables scope) same_left) i))
      ∙ sym (forms_of-Iff tables scope left right) ∙ ap (forms_of tables scope) (sym is)

-- a conjunction, by whether it is plain
module _ (tables : Tables) (scope : List Text) (f : Formula) (gs : List Formula) (is : f ≡ And gs) where
  -- one that is plain
  pub plain_forms : each_is_plain gs ≡ true → form_of_head (head_of tables scope f) ∷ [] ≡ forms_of tables scope f
  plain_forms passes = ap (λ g. form_of_head (head_of tables scope g) ∷ []) is
      ∙ sym (ap (λ b. if b then form_of_head (head_of tables scope (And gs)) ∷ [] else forms_in tables scope gs) passes)
      ∙ sym (forms_of-And tables scope gs) ∙ ap (forms_of tables scope) (sym is)

  -- one that is not
  pub rules_forms : each_is_plain gs ≡ false → forms_in tables scope gs ≡ forms_of tables scope f
  rules_forms fails =
      sym (ap (λ b. if b then form_of_head (head_of tables scope (And gs)) ∷ [] else forms_in tables scope gs) fails)
      ∙ sym (forms_of-And tables scope gs) ∙ ap (forms_of tables scope) (sym is)
