-- What is told of a formula follows from what is told of its parts.
use Rattle.std.proofs.Common.{◌≡◌, ℕ, zero, suc, ◌+◌, ◌*◌, ◌≤◌, ◌<◌, min, max, Bool, true, false, if◌then◌else◌, nat_le, List, [], ◌∷◌, ◌++◌, length, Option, Some, None, refl, ap, sym, ◌∙◌, arith}
use Rattle.std.proofs.Math.Nat.{mul_assoc}
use Rattle.std.proofs.lemmas.Nat.{mul-le}
use Rattle.std.proofs.lemmas.Bool.Decides.{nat_tests}
use Rattle.std.proofs.lemmas.List.{append-nil}
use Rattle.text_core.specs.Names.{Text}
use Rattle.text_core.proofs.Laws.{not_both}
use Rattle.logic_core.proofs.Laws.{row_of, Not_opens, And_opens, Or_opens, Binary_opens, ForAll_opens, Exists_opens}
use Rattle.logic_core.specs.declared.formula.Op.{Op}
use Rattle.logic_core.specs.declared.formula.Op.TheVariants.{Implies, Implied, Iff, Xor, Nor, Nand}
use Rattle.logic_core.specs.declared.formula.Formula.{Formula, True, False, Pred, Equal, Not, And, Or, Binary, ForAll, Exists, Not', And', Or', Binary', ForAll', Exists', end_of-Formula, more_of-Formula}
use Rattle.logic_core.specs.declared.formula.Formula.TheBlock.{shape-the_row-Formula-0, shape-the_row-Formula-1}
use Rattle.coherent_form.proofs.Roles.{members_fit, fitting_are_plain}
use Rattle.coherent_form.specs.Counts.{product, sum, bound, saturated, most, no_form, no_atom, one_atom, argument_count, conjunction_counts, conjunctions_counts, premise_counts, choices_counts, offers_counts, conclusion_counts, conclusions_counts, rule_counts, rules_counts}
use Rattle.coherent_form.specs.Offending.{nodes, nodes_of, are_plain, placed_at, unless_atom, conjunction_offenders, conjunctions_offenders, premise_offenders, premises_offenders, conclusion_offenders, conclusions_offenders, rule_offenders, rules_offenders}
use Rattle.coherent_form.specs.Surveys.{first_told, placed_told, first_of, survey, offending, survey_product, survey_sum, survey_placed, survey_bound, account_of, nodes_in, offenders_in, product_in, sum_in, members_of, members_more, arguments_of, negated, negation_account, unless_plain, conjunction_account, disjunction_account, universal_account, existential_account, binary_rule, binary_account}
use Rattle.coherent_form.specs.declared.counts.Counts.{Counts}
use Rattle.coherent_form.specs.declared.survey.Survey.{Survey}

-- the first of some nodes

-- the lesser of three nodes
first_told_assoc : (a b c : Option ℕ) → first_told (first_told a b) c ≡ first_told a (first_told b c)
first_told_assoc (Some m) (Some n) (Some k) = ap Some (let e : min (min m n) k ≡ min m (min n k) = omega arith in e)
first_told_assoc (Some m) (Some n) None = refl
first_told_assoc (Some m) None c = refl
first_told_assoc None b c = refl

-- the lesser of two nodes, in either order
first_told_comm : (a b : Option ℕ) → first_told a b ≡ first_told b a
first_told_comm (Some m) (Some n) = ap Some (let e : min m n ≡ min n m = omega arith in e)
first_told_comm (Some m) None = refl
first_told_comm None (Some n) = refl
first_told_comm None None = refl

-- the first of two lists is the lesser of their first ones
pub first_of-append : (xs ys : List ℕ) → first_of (xs ++ ys) ≡ first_told (first_of xs) (first_of ys)
first_of-append [] ys = refl
first_of-append (x ∷ xs) ys = ap (first_told (Some (min x most))) (first_of-append xs ys) ∙ sym (first_told_assoc (Some (min x most)) (first_of xs) (first_of ys))

-- the lesser of two nodes of a part
placed-first : (at : ℕ) (a b : Option ℕ) → placed_told at (first_told a b) ≡ first_told (placed_told at a) (placed_told at b)
placed-first at (Some m) (Some n) = ap Some (let e : min (at + min m n) most ≡ min (min (at + m) most) (min (at + n) most) = omega arith in e)
placed-first at (Some m) None = refl
placed-first at None b = refl

-- the first of the nodes of a part
pub placed-first_of : (at : ℕ) (xs : List ℕ) → placed_told (min at most) (first_of xs) ≡ first_of (placed_at at xs)
placed-first_of at [] = refl
placed-first_of at (x ∷ xs) =
    placed-first (min at most) (Some (min x most)) (first_of xs)
    ∙ (λ i. first_told (Some (told i)) (placed-first_of at xs i))
  where
    told : min (min at most + min x most) most ≡ min (at + x) most
    told = omega arith

-- counts that are told

-- a product that is told
mul_told : (x y : ℕ) → min (min x most * min y most) most ≡ min (x * y) most
mul_told x y = go (nat_le x most) (nat_le y most) refl refl
  where
    small : x ≤ most → y ≤ most → min (min x most * min y most) most ≡ min (x * y) most
    small h k =
        let first : min x most ≡ x = omega arith in
        let second : min y most ≡ y = omega arith in
        (λ i. min (first i * second i) most)

    left_large : (z : ℕ) → y ≡ z → most < x → min (min x most * min y most) most ≡ min (x * y) most
    left_large zero e h = rw e (omega arith)
    left_large (suc z) e h =
        let one : most * 1 ≤ min x most * min y most = mul-le most 1 (min x most) (min y most) (omega arith) (omega arith) in
        let other : most * 1 ≤ x * y = mul-le most 1 x y (omega arith) (omega arith) in
        omega arith

    right_large : (z : ℕ) → x ≡ z → most < y → min (min x most * min y most) most ≡ min (x * y) most
    right_large zero e h = rw e (omega arith)
    right_large (suc z) e h =
        let one : 1 * most ≤ min x most * min y most = mul-le 1 most (min x most) (min y most) (omega arith) (omega arith) in
        let other : 1 * most ≤ x * y = mul-le 1 most x y (omega arith) (omega arith) in
        omega arith

    go : (a b : Bool) → nat_le x most ≡ a → nat_le y most ≡ b → min (min x most * min y most) most ≡ min (x * y) most
    go true true p q = small (grind (arith, nat_tests)) (grind (arith, nat_tests))
    go false b p q = left_large y refl (grind (arith, nat_tests))
    go true false p q = right_large x refl (grind (arith, nat_tests))

-- a sum that is told
add_told : (x y : ℕ) → min (min x most + min y most) most ≡ min (x + y) most
add_told x y = omega arith

-- the greater of two numbers that is told
max_told : (x y : ℕ) → min (max (min x most) (min y most)) most ≡ min (max x y) most
max_told x y = omega arith

-- a product of counts that are told
saturated-product : (a b : Counts) → saturated (product (saturated a) (saturated b)) ≡ saturated (product a b)
saturated-product a b = λ i. record {
  forms = mul_told a.forms b.forms i;
  variables = add_told a.variables b.variables i;
  atoms = add_told a.atoms b.atoms i;
  arguments = max_told a.arguments b.arguments i;
}

-- a sum of counts that are told
saturated-sum : (a b : Counts) → saturated (sum (saturated a) (saturated b)) ≡ saturated (sum a b)
saturated-sum a b = λ i. record {
  forms = add_told a.forms b.forms i;
  variables = max_told a.variables b.variables i;
  atoms = max_told a.atoms b.atoms i;
  arguments = max_told a.arguments b.arguments i;
}

-- a number that is told twice
twice_told : (x : ℕ) → min (min x most) most ≡ min x most
twice_told x = omega arith

-- variables in front of counts that are told
saturated-bound : (k : ℕ) (a : Counts) → saturated (bound k (saturated a)) ≡ saturated (bound k a)
saturated-bound k a = λ i. record {
  forms = twice_told a.forms i;
  variables = more i;
  atoms = twice_told a.atoms i;
  arguments = twice_told a.arguments i;
}
  where
    more : min (k + min a.variables most) most ≡ min (k + a.variables) most
    more = omega arith

-- surveys

-- each of one reading with each of another
product-survey : (xs ys : List ℕ) (s t : Counts) → survey_product (survey xs s) (survey ys t) ≡ survey (xs ++ ys) (product s t)
product-survey xs ys s t = λ i. record { offender = sym (first_of-append xs ys) i; counts = saturated-product s t i }

-- all of one reading and all of another
sum-survey : (xs ys : List ℕ) (s t : Counts) → survey_sum (survey xs s) (survey ys t) ≡ survey (xs ++ ys) (sum s t)
sum-survey xs ys s t = λ i. record { offender = sym (first_of-append xs ys) i; counts = saturated-sum s t i }

-- the reading of a part
placed-survey : (at : ℕ) (xs : List ℕ) (s : Counts) → survey_placed (min at most) (survey xs s) ≡ survey (placed_at at xs) s
placed-survey at xs s = λ i. record { offender = placed-first_of at xs i; counts = saturated s }

-- the reading of a quantified formula
bound-survey : (k : ℕ) (xs : List ℕ) (s : Counts) → survey_bound k (survey xs s) ≡ survey (placed_at 1 xs) (bound k s)
bound-survey k xs s = λ i. record { offender = placed-first_of 1 xs i; counts = saturated-bound k s i }

-- members, one by one

-- three readings may be multiplied in either order
product_assoc : (a b c : Counts) → product (product a b) c ≡ product a (product b c)
product_assoc a b c = λ i. record {
  forms = mul_assoc a.forms b.forms c.forms i;
  variables = plus a.variables b.variables c.variables i;
  atoms = plus a.atoms b.atoms c.atoms i;
  arguments = greater i;
}
  where
    plus : (x y z : ℕ) → x + y + z ≡ x + (y + z)
    plus x y z = omega arith

    greater : max (max a.arguments b.arguments) c.arguments ≡ max a.arguments (max b.arguments c.arguments)
    greater = omega arith

-- three readings may be added in either order
sum_assoc : (a b c : Counts) → sum (sum a b) c ≡ sum a (sum b c)
sum_assoc a b c = λ i. record {
  forms = plus i;
  variables = greater a.variables b.variables c.variables i;
  atoms = greater a.atoms b.atoms c.atoms i;
  arguments = greater a.arguments b.arguments c.arguments i;
}
  where
    plus : a.forms + b.forms + c.forms ≡ a.forms + (b.forms + c.forms)
    plus = omega arith

    greater : (x y z : ℕ) → max (max x y) z ≡ max x (max y z)
    greater x y z = omega arith

-- the empty conjunction on either side
product_swapped : (a : Counts) → product a no_atom ≡ product no_atom a
product_swapped a = λ i. record { forms = times i; variables = plus a.variables i; atoms = plus a.atoms i; arguments = greater i }
  where
    times : a.forms * 1 ≡ 1 * a.forms
    times = omega arith

    plus : (x : ℕ) → x + 0 ≡ 0 + x
    plus x = omega arith

    greater : max a.arguments 0 ≡ max 0 a.arguments
    greater = omega arith

-- nothing on either side
sum_swapped : (a : Counts) → sum a no_form ≡ sum no_form a
sum_swapped a = λ i. record { forms = plus i; variables = greater a.variables i; atoms = greater a.atoms i; arguments = greater a.arguments i }
  where
    plus : a.forms + 0 ≡ 0 + a.forms
    plus = omega arith

    greater : (x : ℕ) → max x 0 ≡ max 0 x
    greater x = omega arith

-- the product with one formula more
product_in-more : (f : Formula → Counts) (gs : List Formula) (g : Formula) → product_in f (gs ++ g ∷ []) ≡ product (product_in f gs) (f g)
product_in-more f [] g = product_swapped (f g)
product_in-more f (h ∷ gs) g = ap (product (f h)) (product_in-more f gs g) ∙ sym (product_assoc (f h) (product_in f gs) (f g))

-- the sum with one formula more
sum_in-more : (f : Formula → Counts) (gs : List Formula) (g : Formula) → sum_in f (gs ++ g ∷ []) ≡ sum (sum_in f gs) (f g)
sum_in-more f [] g = sum_swapped (f g)
sum_in-more f (h ∷ gs) g = ap (sum (f h)) (sum_in-more f gs g) ∙ sym (sum_assoc (f h) (sum_in f gs) (f g))

-- the nodes with one formula more
nodes_in-more : (gs : List Formula) (g : Formula) → nodes_in (gs ++ g ∷ []) ≡ nodes_in gs + nodes g
nodes_in-more [] g = omega arith
nodes_in-more (h ∷ gs) g = let e = nodes_in-more gs g in omega arith

-- the nodes that offend with one formula more
offenders_in-more : (f : Formula → List ℕ) (at : ℕ) (gs : List Formula) (g : Formula)
    → offenders_in f at (gs ++ g ∷ []) ≡ offenders_in f at gs ++ placed_at (at + nodes_in gs) (f g)
offenders_in-more f at [] g = append-nil (placed_at at (f g)) ∙ ap (λ (k : ℕ). placed_at k (f g)) (let e : at ≡ at + 0 = omega arith in e)
offenders_in-more f at (h ∷ gs) g =
    ap (λ (rest : List ℕ). placed_at at (f h) ++ rest) (offenders_in-more f (at + nodes h) gs g ∙ ap (λ (k : ℕ). offenders_in f (at + nodes h) gs ++ placed_at k (f g))
    (let e : at + nodes h + nodes_in gs ≡ at + (nodes h + nodes_in gs) = omega arith in e))
    ∙ sym (assoc (placed_at at (f h)) (offenders_in f (at + nodes h) gs) (placed_at (at + (nodes h + nodes_in gs)) (f g)))
  where
    assoc : (xs ys zs : List ℕ) → (xs ++ ys) ++ zs ≡ xs ++ (ys ++ zs)
    assoc [] ys zs = refl
    assoc (x ∷ xs) ys zs = ap (λ (rest : List ℕ). x ∷ rest) (assoc xs ys zs)

-- one member more, where all are joined
product_more : (f : Formula → List ℕ) (k : Formula → Counts) (gs : List Formula) (g : Formula)
    → survey_product (survey (offenders_in f 1 gs) (product_in k gs)) (survey_placed (min (1 + nodes_in gs) most) (survey (f g) (k g)))
    ≡ survey (offenders_in f 1 (gs ++ g ∷ [])) (product_in k (gs ++ g ∷ []))
product_more f k gs g =
    ap (survey_product (survey (offenders_in f 1 gs) (product_in k gs))) (placed-survey (1 + nodes_in gs) (f g) (k g))
    ∙ product-survey (offenders_in f 1 gs) (placed_at (1 + nodes_in gs) (f g)) (product_in k gs) (k g)
    ∙ (λ i. survey (sym (offenders_in-more f 1 gs g) i) (sym (product_in-more k gs g) i))

-- and where any is taken
sum_more : (f : Formula → List ℕ) (k : Formula → Counts) (gs : List Formula) (g : Formula)
    → survey_sum (survey (offenders_in f 1 gs) (sum_in k gs)) (survey_placed (min (1 + nodes_in gs) most) (survey (f g) (k g)))
    ≡ survey (offenders_in f 1 (gs ++ g ∷ [])) (sum_in k (gs ++ g ∷ []))
sum_more f k gs g =
    ap (survey_sum (survey (offenders_in f 1 gs) (sum_in k gs))) (placed-survey (1 + nodes_in gs) (f g) (k g))
    ∙ sum-survey (offenders_in f 1 gs) (placed_at (1 + nodes_in gs) (f g)) (sum_in k gs) (k g)
    ∙ (λ i. survey (sym (offenders_in-more f 1 gs g) i) (sym (sum_in-more k gs g) i))

-- what members give with one formula more
pub members_of-more : (gs : List Formula) (g : Formula) → members_of (gs ++ g ∷ []) ≡ members_more (members_of gs) (account_of g)
members_of-more gs g = sym (λ i. record {
  nodes = count i;
  conjunctions = product_more conjunction_offenders conjunction_counts gs g i;
  choices = product_more premise_offenders premise_counts gs g i;
  offers = sum_more premise_offenders premise_counts gs g i;
  conclusions = product_more conclusion_offenders conclusion_counts gs g i;
  rules = sum_more rule_offenders rule_counts gs g i;
})
  where
    count : min (min (1 + nodes_in gs) most + min (nodes g) most) most ≡ min (1 + nodes_in (gs ++ g ∷ [])) most
    count = let e = nodes_in-more gs g in omega arith

-- rows as lists

-- the nodes of a row as a list
nodes_row : (gs : List Formula) → nodes_of (row_of gs) ≡ nodes_in gs
unfolding row_of shape-the_row-Formula-1
nodes_row [] = refl
nodes_row (g ∷ gs) = ap (λ (k : ℕ). nodes g + k) (nodes_row gs)

-- the nodes that offend as conjunctions
conjunctions_row : (at : ℕ) (gs : List Formula) → conjunctions_offenders at (row_of gs) ≡ offenders_in conjunction_offenders at gs
unfolding row_of shape-the_row-Formula-1
conjunctions_row at [] = refl
conjunctions_row at (g ∷ gs) = ap (λ (rest : List ℕ). placed_at at (conjunction_offenders g) ++ rest) (conjunctions_row (at + nodes g) gs)

-- as premises
premises_row : (at : ℕ) (gs : List Formula) → premises_offenders at (row_of gs) ≡ offenders_in premise_offenders at gs
unfolding row_of shape-the_row-Formula-1
premises_row at [] = refl
premises_row at (g ∷ gs) = ap (λ (rest : List ℕ). placed_at at (premise_offenders g) ++ rest) (premises_row (at + nodes g) gs)

-- as conclusions
conclusions_row : (at : ℕ) (gs : List Formula) → conclusions_offenders at (row_of gs) ≡ offenders_in conclusion_offenders at gs
unfolding row_of shape-the_row-Formula-1
conclusions_row at [] = refl
conclusions_row at (g ∷ gs) = ap (λ (rest : List ℕ). placed_at at (conclusion_offenders g) ++ rest) (conclusions_row (at + nodes g) gs)

-- as rules
rules_row : (at : ℕ) (gs : List Formula) → rules_offenders at (row_of gs) ≡ offenders_in rule_offenders at gs
unfolding row_of shape-the_row-Formula-1
rules_row at [] = refl
rules_row at (g ∷ gs) = ap (λ (rest : List ℕ). placed_at at (rule_offenders g) ++ rest) (rules_row (at + nodes g) gs)

-- the counts of a row as conjunctions
conjunctions_counted : (gs : List Formula) → conjunctions_counts (row_of gs) ≡ product_in conjunction_counts gs
unfolding row_of shape-the_row-Formula-1
conjunctions_counted [] = refl
conjunctions_counted (g ∷ gs) = ap (product (conjunction_counts g)) (conjunctions_counted gs)

-- as premises of which all are asked for
choices_counted : (gs : List Formula) → choices_counts (row_of gs) ≡ product_in premise_counts gs
unfolding row_of shape-the_row-Formula-1
choices_counted [] = refl
choices_counted (g ∷ gs) = ap (product (premise_counts g)) (choices_counted gs)

-- as premises of which any is asked for
offers_counted : (gs : List Formula) → offers_counts (row_of gs) ≡ sum_in premise_counts gs
unfolding row_of shape-the_row-Formula-1
offers_counted [] = refl
offers_counted (g ∷ gs) = ap (sum (premise_counts g)) (offers_counted gs)

-- as conclusions
conclusions_counted : (gs : List Formula) → conclusions_counts (row_of gs) ≡ product_in conclusion_counts gs
unfolding row_of shape-the_row-Formula-1
conclusions_counted [] = refl
conclusions_counted (g ∷ gs) = ap (product (conclusion_counts g)) (conclusions_counted gs)

-- as rules
rules_counted : (gs : List Formula) → rules_counts (row_of gs) ≡ sum_in rule_counts gs
unfolding row_of shape-the_row-Formula-1
rules_counted [] = refl
rules_counted (g ∷ gs) = ap (sum (rule_counts g)) (rules_counted gs)

-- what is plain has no offender as a conjunction, and the other way round

-- the reading of rules, unless the members are plain
plain_first : (offenders : List ℕ) (b : Bool) → (b ≡ true → offenders ≡ []) → (b ≡ false → offenders ≡ [] → ⊥) → (rules plain : Survey)
    → unless_plain (first_of offenders) rules plain ≡ (if b then plain else rules)
plain_first [] true yes_none no_none rules plain = refl
plain_first [] false yes_none no_none rules plain = absurd (no_none refl refl)
plain_first (n ∷ ns) true yes_none no_none rules plain = let wrong : n ∷ ns ≡ [] = yes_none refl in absurd (cc)
plain_first (n ∷ ns) false yes_none no_none rules plain = some_first (first_of ns)
  where
    some_first : (o : Option ℕ) → unless_plain (first_told (Some (min n most)) o) rules plain ≡ rules
    some_first (Some m) = refl
    some_first None = refl

-- a formula by its parts

-- a reading by one test
two_choices : (b : Bool) (xs ys : List ℕ) (s t : Counts) → (if b then survey xs s else survey ys t) ≡ survey (if b then xs else ys) (if b then s else t)
two_choices true xs ys s t = refl
two_choices false xs ys s t = refl

-- a conjunction
account_And : (gs : List Formula) → conjunction_account (members_of gs) ≡ account_of (And gs)
account_And gs = (λ i. record {
  nodes = min (1 + sym (nodes_row gs) i) most;
  conjunction = survey (sym (conjunctions_row 1 gs) i) (sym (conjunctions_counted gs) i);
  premise = survey (sym (premises_row 1 gs) i) (sym (choices_counted gs) i);
  conclusion = survey (sym (conjunctions_row 1 gs) i) (sym (conjunctions_counted gs) i);
  rule = rule i;
}) ∙ ap account_of (sym (And_opens gs))
  where
    plain : Survey
    plain = survey (conjunctions_offenders 1 (row_of gs)) (conjunctions_counts (row_of gs))

    rules : Survey
    rules = survey (rules_offenders 1 (row_of gs)) (rules_counts (row_of gs))

    same : unless_plain (first_of (offenders_in conjunction_offenders 1 gs)) (survey (offenders_in rule_offenders 1 gs) (sum_in rule_counts gs))
        (survey (offenders_in conjunction_offenders 1 gs) (product_in conjunction_counts gs))
        ≡ unless_plain (first_of (conjunctions_offenders 1 (row_of gs))) rules plain
    same = λ i. unless_plain (first_of (sym (conjunctions_row 1 gs) i)) (survey (sym (rules_row 1 gs) i) (sym (rules_counted gs) i))
        (survey (sym (conjunctions_row 1 gs) i) (sym (conjunctions_counted gs) i))

    rule : unless_plain (first_of (offenders_in conjunction_offenders 1 gs)) (survey (offenders_in rule_offenders 1 gs) (sum_in rule_counts gs))
        (survey (offenders_in conjunction_offenders 1 gs) (product_in conjunction_counts gs))
        ≡ survey (if are_plain (row_of gs) then conjunctions_offenders 1 (row_of gs) else rules_offenders 1 (row_of gs))
        (if are_plain (row_of gs) then conjunctions_counts (row_of gs) else rules_counts (row_of gs))
    rule = same
        ∙ plain_first (conjunctions_offenders 1 (row_of gs)) (are_plain (row_of gs)) (members_fit (row_of gs) 1)
        (λ fails fits. let is = fitting_are_plain (row_of gs) 1 fits in absurd (not_both (are_plain (row_of gs)) is fails)) rules plain
        ∙ two_choices (are_plain (row_of gs)) (conjunctions_offenders 1 (row_of gs)) (rules_offenders 1 (row_of gs)) (conjunctions_counts (row_of gs)) (rules_counts (row_of gs))

-- a disjunction
account_Or : (gs : List Formula) → disjunction_account (members_of gs) ≡ account_of (Or gs)
account_Or gs = (λ i. record {
  nodes = min (1 + sym (nodes_row gs) i) most;
  conjunction = offending;
  premise = survey (sym (premises_row 1 gs) i) (sym (offers_counted gs) i);
  conclusion = survey (sym (conclusions_row 1 gs) i) (sym (conclusions_counted gs) i);
  rule = survey (sym (conclusions_row 1 gs) i) (sym (conclusions_counted gs) i);
}) ∙ ap account_of (sym (Or_opens gs))

-- a number that is greater by one
next_told : (x : ℕ) → min (min x most + 1) most ≡ min (1 + x) most
next_told x = omega arith

-- a universal formula
account_ForAll : (xs : List Text) (g : Formula) → universal_account (length xs) (account_of g) ≡ account_of (ForAll xs g)
account_ForAll xs g = (λ i. record {
  nodes = next_told (nodes g) i;
  conjunction = offending;
  premise = offending;
  conclusion = offending;
  rule = bound-survey (length xs) (rule_offenders g) (rule_counts g) i;
}) ∙ ap account_of (sym (ForAll_opens xs g))

-- an existential formula
account_Exists : (xs : List Text) (g : Formula) → existential_account (length xs) (account_of g) ≡ account_of (Exists xs g)
account_Exists xs g = (λ i. record {
  nodes = next_told (nodes g) i;
  conjunction = offending;
  premise = bound-survey (length xs) (premise_offenders g) (premise_counts g) i;
  conclusion = bound-survey (length xs) (conclusion_offenders g) (conclusion_counts g) i;
  rule = bound-survey (length xs) (conclusion_offenders g) (conclusion_counts g) i;
}) ∙ ap account_of (sym (Exists_opens xs g))

-- what is told of a negation
negated_survey : (g : Formula) → negated (arguments_of g) ≡ survey (unless_atom g) (one_atom (argument_count g))
negated_survey True = refl
negated_survey False = refl
negated_survey (Pred p ts) = refl
negated_survey (Equal t u) = refl
negated_survey (Not' _ row) = refl
negated_survey (And' _ row) = refl
negated_survey (Or' _ row) = refl
negated_survey (Binary' op _ row _ more) = refl
negated_survey (ForAll' xs _ row) = refl
negated_survey (Exists' xs _ row) = refl

-- a negation
account_Not : (g : Formula) → negation_account (arguments_of g) (account_of g).nodes ≡ account_of (Not g)
account_Not g = (λ i. record {
  nodes = next_told (nodes g) i;
  conjunction = negated_survey g i;
  premise = negated_survey g i;
  conclusion = negated_survey g i;
  rule = negated_survey g i;
}) ∙ ap account_of (sym (Not_opens g))

-- the sides of a connective

-- the left side of a connective
left_placed : (xs : List ℕ) (s : Counts) → survey_placed 1 (survey xs s) ≡ survey (placed_at 1 xs) s
left_placed xs s = placed-survey 1 xs s

-- the right side of a connective
right_placed : (n : ℕ) (xs : List ℕ) (s : Counts) → survey_placed (min (min n most + 1) most) (survey xs s) ≡ survey (placed_at (1 + n) xs) s
right_placed n xs s = ap (λ (k : ℕ). survey_placed k (survey xs s)) (next_told n) ∙ placed-survey (1 + n) xs s

-- the nodes of a product in either order
survey_product_comm : (a b : Survey) → (record { offender = first_told a.offender b.offender; counts = saturated (product b.counts a.counts) }) ≡ survey_product b a
survey_product_comm a b = λ i. record { offender = first_told_comm a.offender b.offender i; counts = saturated (product b.counts a.counts) }

-- nodes in either order
turned : (xs ys : List ℕ) (s : Counts) → survey (xs ++ ys) s ≡ survey (ys ++ xs) s
turned xs ys s = λ i. record { offender = (first_of-append xs ys ∙ first_told_comm (first_of xs) (first_of ys) ∙ sym (first_of-append ys xs)) i; counts = saturated s }

-- an implication as a rule
rule_Implies : (g h : Formula) → binary_rule Implies (survey_placed 1 (account_of g).premise) (survey_placed (min ((account_of g).nodes + 1) most) (account_of h).premise)
    (survey_placed 1 (account_of g).rule) (survey_placed (min ((account_of g).nodes + 1) most) (account_of h).rule)
    ≡ survey (placed_at 1 (premise_offenders g) ++ placed_at (1 + nodes g) (rule_offenders h)) (product (premise_counts g) (rule_counts h))
rule_Implies g h = (λ i. survey_product (left_placed (premise_offenders g) (premise_counts g) i) (right_placed (nodes g) (rule_offenders h) (rule_counts h) i))
    ∙ product-survey (placed_at 1 (premise_offenders g)) (placed_at (1 + nodes g) (rule_offenders h)) (premise_counts g) (rule_counts h)

-- a reversed implication as a rule
rule_Implied : (g h : Formula) → binary_rule Implied (survey_placed 1 (account_of g).premise) (survey_placed (min ((account_of g).nodes + 1) most) (account_of h).premise)
    (survey_placed 1 (account_of g).rule) (survey_placed (min ((account_of g).nodes + 1) most) (account_of h).rule)
    ≡ survey (placed_at 1 (rule_offenders g) ++ placed_at (1 + nodes g) (premise_offenders h)) (product (premise_counts h) (rule_counts g))
rule_Implied g h = (λ i. survey_product (right_placed (nodes g) (premise_offenders h) (premise_counts h) i) (left_placed (rule_offenders g) (rule_counts g) i))
    ∙ product-survey (placed_at (1 + nodes g) (premise_offenders h)) (placed_at 1 (rule_offenders g)) (premise_counts h) (rule_counts g)
    ∙ turned (placed_at (1 + nodes g) (premise_offenders h)) (placed_at 1 (rule_offenders g)) (product (premise_counts h) (rule_counts g))

-- four lists of nodes in another order
four_firsts : (a b c d : Option ℕ) → first_told (first_told a d) (first_told c b) ≡ first_told (first_told a b) (first_told c d)
four_firsts a b c d =
    first_told_assoc a d (first_told c b)
    ∙ ap (first_told a) (first_told_comm d (first_told c b) ∙ ap (λ o. first_told o d) (first_told_comm c b) ∙ first_told_assoc b c d)
    ∙ sym (first_told_assoc a b (first_told c d))

-- nodes of a part in two lists
placed_apart : (at : ℕ) (xs ys : List ℕ) → placed_at at (xs ++ ys) ≡ placed_at at xs ++ placed_at at ys
placed_apart at [] ys = refl
placed_apart at (x ∷ xs) ys = ap (λ (rest : List ℕ). (at + x) ∷ rest) (placed_apart at xs ys)

-- an equivalence as a rule
rule_Iff : (g h : Formula) → binary_rule Iff (survey_placed 1 (account_of g).premise) (survey_placed (min ((account_of g).nodes + 1) most) (account_of h).premise)
    (survey_placed 1 (account_of g).rule) (survey_placed (min ((account_of g).nodes + 1) most) (account_of h).rule)
    ≡ survey (placed_at 1 (premise_offenders g ++ rule_offenders g) ++ placed_at (1 + nodes g) (premise_offenders h ++ rule_offenders h))
    (sum (product (premise_counts g) (rule_counts h)) (product (premise_counts h) (rule_counts g)))
rule_Iff g h =
    (λ i. survey_sum
    (survey_product (left_placed (premise_offenders g) (premise_counts g) i) (right_placed (nodes g) (rule_offenders h) (rule_counts h) i))
    (survey_product (right_placed (nodes g) (premise_offenders h) (premise_counts h) i) (left_placed (rule_offenders g) (rule_counts g) i)))
    ∙ (λ i. survey_sum (product-survey a d (premise_counts g) (rule_counts h) i) (product-survey c b (premise_counts h) (rule_counts g) i))
    ∙ sum-survey (a ++ d) (c ++ b) (product (premise_counts g) (rule_counts h)) (product (premise_counts h) (rule_counts g))
    ∙ (λ i. record { offender = nodes_told i; counts = saturated (sum (product (premise_counts g) (rule_counts h)) (product (premise_counts h) (rule_counts g))) })
  where
    a : List ℕ
    a = placed_at 1 (premise_offenders g)

    b : List ℕ
    b = placed_at 1 (rule_offenders g)

    c : List ℕ
    c = placed_at (1 + nodes g) (premise_offenders h)

    d : List ℕ
    d = placed_at (1 + nodes g) (rule_offenders h)

    nodes_told : first_of ((a ++ d) ++ (c ++ b))
        ≡ first_of (placed_at 1 (premise_offenders g ++ rule_offenders g) ++ placed_at (1 + nodes g) (premise_offenders h ++ rule_offenders h))
    nodes_told =
        first_of-append (a ++ d) (c ++ b)
        ∙ (λ i. first_told (first_of-append a d i) (first_of-append c b i))
        ∙ four_firsts (first_of a) (first_of b) (first_of c) (first_of d)
        ∙ (λ i. first_told (sym (first_of-append a b) i) (sym (first_of-append c d) i))
        ∙ sym (first_of-append (a ++ b) (c ++ d))
        ∙ (λ i. first_of (sym (placed_apart 1 (premise_offenders g) (rule_offenders g)) i ++ sym (placed_apart (1 + nodes g) (premise_offenders h) (rule_offenders h)) i))

-- the nodes of a connective
binary_nodes : (m n : ℕ) → min (min (min m most + 1) most + min n most) most ≡ min (1 + m + n) most
binary_nodes m n = omega arith

-- a connective
account_Binary : (op : Op) (g h : Formula) → binary_account op (account_of g) (account_of h) ≡ account_of (Binary op g h)
account_Binary op g h = go op ∙ ap account_of (sym (Binary_opens op g h))
  where
    go : (o : Op) → binary_account o (account_of g) (account_of h) ≡ account_of (Binary' o (shape-the_row-Formula-0 g) (more_of-Formula g end_of-Formula) (shape-the_row-Formula-0 h) (more_of-Formula h end_of-Formula))
    go Implies = λ i. record { nodes = binary_nodes (nodes g) (nodes h) i; conjunction = offending; premise = offending; conclusion = offending; rule = rule_Implies g h i }
    go Implied = λ i. record { nodes = binary_nodes (nodes g) (nodes h) i; conjunction = offending; premise = offending; conclusion = offending; rule = rule_Implied g h i }
    go Iff = λ i. record { nodes = binary_nodes (nodes g) (nodes h) i; conjunction = offending; premise = offending; conclusion = offending; rule = rule_Iff g h i }
    go Xor = λ i. record { nodes = binary_nodes (nodes g) (nodes h) i; conjunction = offending; premise = offending; conclusion = offending; rule = offending }
    go Nor = λ i. record { nodes = binary_nodes (nodes g) (nodes h) i; conjunction = offending; premise = offending; conclusion = offending; rule = offending }
    go Nand = λ i. record { nodes = binary_nodes (nodes g) (nodes h) i; conjunction = offending; premise = offending; conclusion = offending; rule = offending }

-- the same where parts are read as other values

-- a conjunction
pub told_And : (f : Formula) (gs slice : List Formula) → f ≡ And gs → slice ≡ gs → conjunction_account (members_of slice) ≡ account_of f
told_And f gs slice is same = ap (λ hs. conjunction_account (members_of hs)) same ∙ account_And gs ∙ ap account_of (sym is)

-- a disjunction
pub told_Or : (f : Formula) (gs slice : List Formula) → f ≡ Or gs → slice ≡ gs → disjunction_account (members_of slice) ≡ account_of f
told_Or f gs slice is same = ap (λ hs. disjunction_account (members_of hs)) same ∙ account_Or gs ∙ ap account_of (sym is)

-- a universal formula
pub told_ForAll : (f body g : Formula) (xs : List Text) (count : ℕ) → f ≡ ForAll xs body → g ≡ body → count ≡ length xs
    → universal_account count (account_of g) ≡ account_of f
told_ForAll f body g xs count is same counted = (λ i. universal_account (counted i) (account_of (same i))) ∙ account_ForAll xs body ∙ ap account_of (sym is)

-- an existential formula
pub told_Exists : (f body g : Formula) (xs : List Text) (count : ℕ) → f ≡ Exists xs body → g ≡ body → count ≡ length xs
    → existential_account count (account_of g) ≡ account_of f
told_Exists f body g xs count is same counted = (λ i. existential_account (counted i) (account_of (same i))) ∙ account_Exists xs body ∙ ap account_of (sym is)

-- a negation
pub told_Not : (f body g h : Formula) → f ≡ Not body → g ≡ body → h ≡ body → negation_account (arguments_of g) (account_of h).nodes ≡ account_of f
told_Not f body g h is first second = (λ i. negation_account (arguments_of (first i)) (account_of (second i)).nodes) ∙ account_Not body ∙ ap account_of (sym is)

-- a connective
pub told_Binary : (f left right g h : Formula) (op : Op) → f ≡ Binary op left right → g ≡ left → h ≡ right → binary_account op (account_of g) (account_of h) ≡ account_of f
told_Binary f left right g h op is first second = (λ i. binary_account op (account_of (first i)) (account_of (second i))) ∙ account_Binary op left right ∙ ap account_of (sym is)
