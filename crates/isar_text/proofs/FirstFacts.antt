-- The first line of each fact, as facts and lines are added.
use Rattle.std.proofs.Common.{◌≡◌, ℕ, zero, suc, ◌+◌, ◌*◌, ◌<◌, ◌≤◌, ◌==◌, ◌⊎◌, inl, inr, Bool, true, false, ◌&&◌, ◌||◌, cond, not, if◌then◌else◌, nat_lt, nat_eq, List, [], ◌∷◌, ◌++◌, map, length, take, slice_get, slice_index, Option, Some, None, position, unwrap_or, refl, ap, sym, ◌∙◌, subst, arith, append_assoc, append-nil, length-append}
use Rattle.std.proofs.lemmas.Bool.{false≢true}
use Rattle.std.proofs.lemmas.Bool.Decides.{Decides-eqb}
use Rattle.std.specs.List.{AllByRecursion, list_any, position_or_len}
use Rattle.std.specs.Option.{option_map, option_and_then}
use Rattle.std.specs.Cmp.Lexicographic.{pointwise, bytes_decides}
use Rattle.text_core.proofs.Laws.{and_both, and_true, or_neither, number_same, get_behind}
use Rattle.logic_core.specs.declared.form.Slot.{Slot}
use Rattle.logic_core.specs.declared.form.Slot.TheVariants.{Variable, Constant}
use Rattle.logic_core.specs.declared.form.Atom.{Atom}
use Rattle.vernacular_tree.specs.Contexts.{slot_at, atom_at}
use Rattle.vernacular_tree.specs.declared.context.Line.{Line}
use Rattle.vernacular_tree.specs.declared.context.Line.TheVariants as line
use Rattle.fact_store.specs.Facts as store
use Rattle.instance_cursor.specs.Facts.{signed_number, element_at, elements_at}
use Rattle.proof_text.specs.Showing.{IsElement}
use Rattle.isar_text.specs.FirstLines.{same_slot, same_slots, same_sign, same_atom, has_fact, is_falsum, first_with}
use Rattle.isar_text.specs.Firsts.{Firsts, stored, IsOfElements, AreFirst, with_fact, with_facts, with_line, Grows, point_of, cut}

-- the number of the first item that passes, an item at a time
abbrev found : {X : Type 0} → (X → Bool) → List X → Option ℕ
found p [] = None
found p (x ∷ xs) = cond (p x) (Some 0) (option_map (λ n. suc n) (found p xs))

one_more : (k n : ℕ) (b : Bool) → nat_lt k n ≡ b → cond (nat_lt (1 + k) (suc n)) (Some (1 + k)) None ≡ option_map (λ n. suc n) (cond b (Some k) None)
one_more k n true e =
    let less : nat_lt (1 + k) (suc n) ≡ true = grind arith in
    let next : 1 + k ≡ suc k = omega arith in
    (λ i. cond (less i) (Some (next i)) None)
one_more k n false e =
    let less : nat_lt (1 + k) (suc n) ≡ false = grind arith in
    ap (λ b. cond b (Some (1 + k)) None) less

position_found : {X : Type 0} (p : X → Bool) (xs : List X) → position p xs ≡ found p xs
position_found p [] = refl
position_found p (x ∷ xs) = by (p x) (position_found p xs)
  where
    by : (b : Bool) → position p xs ≡ found p xs
        → cond (nat_lt (cond (not b) (1 + position_or_len p xs) 0) (suc (length xs))) (Some (cond (not b) (1 + position_or_len p xs) 0)) None
        ≡ cond b (Some 0) (option_map (λ n. suc n) (found p xs))
    by true e = let less : nat_lt 0 (suc (length xs)) ≡ true = grind arith in ap (λ b. cond b (Some 0) None) less
    by false e = one_more (position_or_len p xs) (length xs) (nat_lt (position_or_len p xs) (length xs)) refl ∙ ap (option_map (λ (n : ℕ). suc n)) e

-- a number, or else one where a test passes
abbrev or_at : Option ℕ → Bool → ℕ → Option ℕ
or_at (Some n) b k = Some n
or_at None b k = cond b (Some k) None

or_at_none : (o : Option ℕ) (k : ℕ) → or_at o false k ≡ o
or_at_none None k = refl
or_at_none (Some n) k = refl

or_at_some : (o : Option ℕ) (k : ℕ) → or_at o true k ≡ Some (unwrap_or o k)
or_at_some None k = refl
or_at_some (Some n) k = refl

or_at_next : (a : Bool) (o : Option ℕ) (b : Bool) (k : ℕ)
    → cond a (Some 0) (option_map (λ n. suc n) (or_at o b k)) ≡ or_at (cond a (Some 0) (option_map (λ n. suc n) o)) b (suc k)
or_at_next true o b k = refl
or_at_next false (Some n) b k = refl
or_at_next false None true k = refl
or_at_next false None false k = refl

found_last : {X : Type 0} (p : X → Bool) (xs : List X) (y : X) → found p (xs ++ y ∷ []) ≡ or_at (found p xs) (p y) (length xs)
found_last p [] y = refl
found_last p (x ∷ xs) y =
    ap (λ (r : Option ℕ). cond (p x) (Some 0) (option_map (λ n. suc n) r)) (found_last p xs y) ∙ or_at_next (p x) (found p xs) (p y) (length xs)

-- the first that passes where one item more is behind
position_last : {X : Type 0} (p : X → Bool) (xs : List X) (y : X) → position p (xs ++ y ∷ []) ≡ or_at (position p xs) (p y) (length xs)
position_last p xs y =
    position_found p (xs ++ y ∷ []) ∙ found_last p xs y ∙ ap (λ (o : Option ℕ). or_at o (p y) (length xs)) (sym (position_found p xs))

-- arguments and atoms that pass the test are the same
same_slot_is : (s t : Slot) → same_slot s t ≡ true → s ≡ t
same_slot_is (Variable i) (Variable j) e = ap Variable (number_same i j e)
same_slot_is (Variable i) (Constant b) e = absurd (false≢true e)
same_slot_is (Constant a) (Variable j) e = absurd (false≢true e)
same_slot_is (Constant a) (Constant b) e = ap Constant (number_same a b e)

same_slots_are : (ss ts : List Slot) → same_slots ss ts ≡ true → ss ≡ ts
same_slots_are [] [] e = refl
same_slots_are [] (t ∷ ts) e = absurd (false≢true e)
same_slots_are (s ∷ ss) [] e = absurd (false≢true e)
same_slots_are (s ∷ ss) (t ∷ ts) e =
    let both = and_both (same_slot s t) (same_slots ss ts) e in
    let first = same_slot_is s t both.0 in
    let rest = same_slots_are ss ts both.1 in
    λ i. first i ∷ rest i

same_sign_is : (a b : Bool) → same_sign a b ≡ true → a ≡ b
same_sign_is true true e = refl
same_sign_is true false e = absurd (false≢true e)
same_sign_is false true e = absurd (false≢true e)
same_sign_is false false e = refl

same_atom_is : (a b : Atom) → same_atom a b ≡ true → a ≡ b
same_atom_is a b e =
    let both = and_both (same_sign a.positive b.positive && a.symbol == b.symbol) (same_slots a.args b.args) e in
    let front = and_both (same_sign a.positive b.positive) (a.symbol == b.symbol) both.0 in
    let sign = same_sign_is a.positive b.positive front.0 in
    let symbol = number_same a.symbol b.symbol front.1 in
    let args = same_slots_are a.args b.args both.1 in
    λ i. record { positive = sign i; symbol = symbol i; args = args i }

same_slot_self : (s : Slot) → same_slot s s ≡ true
same_slot_self (Variable i) = grind arith
same_slot_self (Constant a) = grind arith

same_slots_self : (ss : List Slot) → same_slots ss ss ≡ true
same_slots_self [] = refl
same_slots_self (s ∷ ss) = and_true (same_slot s s) (same_slots ss ss) (same_slot_self s) (same_slots_self ss)

same_sign_self : (a : Bool) → same_sign a a ≡ true
same_sign_self true = refl
same_sign_self false = refl

same_atom_self : (a : Atom) → same_atom a a ≡ true
same_atom_self a =
    let symbol : (a.symbol == a.symbol) ≡ true = grind arith in
    and_true (same_sign a.positive a.positive && a.symbol == a.symbol) (same_slots a.args a.args)
    (and_true (same_sign a.positive a.positive) (a.symbol == a.symbol) (same_sign_self a.positive) symbol) (same_slots_self a.args)

-- facts of elements that are stored as one are one
abbrev sign : Bool → ℕ
sign positive = if positive then 0 else 1

signed_same : (p q : Bool) (s t : ℕ) → 2 * s + sign p ≡ 2 * t + sign q → (p ≡ q) × (s ≡ t)
signed_same true true s t e = (refl, omega arith)
signed_same true false s t e = absurd (omega arith)
signed_same false true s t e = absurd (omega arith)
signed_same false false s t e = (refl, omega arith)

elements_same : (ss ts : List Slot) → AllByRecursion IsElement ss → AllByRecursion IsElement ts → map (element_at []) ss ≡ map (element_at []) ts → ss ≡ ts
elements_same [] [] a b e = refl
elements_same [] (t ∷ ts) a b e = absurd (cc)
elements_same (s ∷ ss) [] a b e = absurd (cc)
elements_same (Variable i ∷ ss) (t ∷ ts) a b e = absurd a.0
elements_same (Constant x ∷ ss) (Variable j ∷ ts) a b e = absurd b.0
elements_same (Constant x ∷ ss) (Constant y ∷ ts) a b e =
    let first : x ≡ y = cc in
    let rest : map (element_at []) ss ≡ map (element_at []) ts = cc in
    let same = elements_same ss ts a.1 b.1 rest in
    λ i. Constant (first i) ∷ same i

stored_same : (f g : Atom) → IsOfElements f → IsOfElements g → stored f ≡ stored g → f ≡ g
stored_same f g a b e =
    let number : signed_number f ≡ signed_number g = ap (λ (x : store.Fact). x.signed) e in
    let same = signed_same f.positive g.positive f.symbol g.symbol number in
    let args = elements_same f.args g.args a b (ap (λ (x : store.Fact). x.args) e) in
    λ i. record { positive = same.0 i; symbol = same.1 i; args = args i }

-- whether a fact of a store is the one with a number and elements
is_fact_is : (signed : ℕ) (args : List ℕ) (f : store.Fact) → store.is_fact signed args f ≡ true → f ≡ record { signed = signed; args = args }
is_fact_is signed args f e =
    let both = and_both (signed == f.signed) (pointwise nat_eq args f.args) e in
    let number = (Decides-eqb signed f.signed).0 both.0 in
    let elements = (bytes_decides args f.args).0 both.1 in
    λ i. record { signed = sym number i; args = sym elements i }

is_fact_self : (signed : ℕ) (args : List ℕ) → store.is_fact signed args (record { signed = signed; args = args }) ≡ true
is_fact_self signed args =
    and_true (signed == signed) (pointwise nat_eq args args) ((Decides-eqb signed signed).1 refl) ((bytes_decides args args).1 refl)

-- a fact that is there stands
get_stands : (signed : ℕ) (args : List ℕ) (fs : List store.Fact) (k : ℕ) → slice_get fs k ≡ Some (record { signed = signed; args = args })
    → store.stands signed args fs ≡ true
get_stands signed args [] k e = absurd (cc)
get_stands signed args (f ∷ fs) zero e =
    let same : f ≡ record { signed = signed; args = args } = cc in
    let first : store.is_fact signed args f ≡ true = ap (store.is_fact signed args) same ∙ is_fact_self signed args in
    ap (λ b. b || store.stands signed args fs) first
get_stands signed args (f ∷ fs) (suc k) e = or_right (store.is_fact signed args f) (store.stands signed args fs) (get_stands signed args fs k e)
  where
    or_right : (a b : Bool) → b ≡ true → (a || b) ≡ true
    or_right true b e = refl
    or_right false b e = e

-- one fact more
stands_last : (signed : ℕ) (args : List ℕ) (fs : List store.Fact) (f : store.Fact)
    → store.stands signed args (fs ++ f ∷ []) ≡ (store.stands signed args fs || store.is_fact signed args f)
stands_last signed args [] f = nor (store.is_fact signed args f)
  where
    nor : (b : Bool) → (b || false) ≡ b
    nor true = refl
    nor false = refl
stands_last signed args (g ∷ fs) f =
    ap (λ b. store.is_fact signed args g || b) (stands_last signed args fs f) ∙ shifted (store.is_fact signed args g) (store.stands signed args fs) (store.is_fact signed args f)
  where
    shifted : (a b c : Bool) → (a || (b || c)) ≡ ((a || b) || c)
    shifted true b c = refl
    shifted false b c = refl

any_last : (g : Atom) (front : List Atom) (x : Atom) → list_any (same_atom g) (front ++ x ∷ []) ≡ (list_any (same_atom g) front || same_atom g x)
any_last g [] x = nor (same_atom g x)
  where
    nor : (b : Bool) → (b || false) ≡ b
    nor true = refl
    nor false = refl
any_last g (y ∷ front) x = ap (λ b. same_atom g y || b) (any_last g front x) ∙ shifted (same_atom g y) (list_any (same_atom g) front) (same_atom g x)
  where
    shifted : (a b c : Bool) → (a || (b || c)) ≡ ((a || b) || c)
    shifted true b c = refl
    shifted false b c = refl

-- items by their number
get_below : {X : Type 0} (xs : List X) (k : ℕ) (x : X) → slice_get xs k ≡ Some x → k < length xs
get_below [] k x e = absurd (cc)
get_below (y ∷ xs) zero x e = omega arith
get_below (y ∷ xs) (suc k) x e = let rest = get_below xs k x e in omega arith

get_kept : {X : Type 0} (xs ys : List X) (k : ℕ) → k < length xs → slice_get (xs ++ ys) k ≡ slice_get xs k
get_kept [] ys k h = absurd (omega arith)
get_kept (x ∷ xs) ys zero h = refl
get_kept (x ∷ xs) ys (suc k) h = get_kept xs ys k (omega arith)

get_none : {X : Type 0} (xs : List X) (k : ℕ) → k < length xs → None ≡ slice_get xs k → ⊥
get_none [] k h e = omega arith
get_none (x ∷ xs) zero h e = cc
get_none (x ∷ xs) (suc k) h e = get_none xs k (omega arith) e

get_last : {X : Type 0} (xs : List X) (y : X) (k : ℕ) (z : X) → slice_get (xs ++ y ∷ []) k ≡ Some z → (slice_get xs k ≡ Some z) ⊎ ((k ≡ length xs) × (y ≡ z))
get_last [] y zero z e = inr (refl, (cc))
get_last [] y (suc k) z e = absurd (cc)
get_last (x ∷ xs) y zero z e = inl e
get_last (x ∷ xs) y (suc k) z e = elim (get_last xs y k z e) [ inl here ↦ inl here | inr last ↦ inr (ap (λ n. suc n) last.0, last.1) ]

-- what an option says, of two numbers
at_some : (a : Option ℕ) (m k : ℕ) → a ≡ Some m → or_at a true k ≡ Some m
at_some None m k e = absurd (cc)
at_some (Some n) m k e = e

or_at_empty : (o : Option ℕ) (a : Bool) (k : ℕ) → or_at o a k ≡ None → o ≡ None
or_at_empty None a k e = refl
or_at_empty (Some n) a k e = absurd (cc)

-- where a test passes already, or its number is told, one more test that passes changes nothing
or_at_both : (o : Option ℕ) (a : Bool) (k : ℕ) → (None ≡ or_at o a k → ⊥) → or_at o (a || true) k ≡ or_at o a k
or_at_both (Some n) a k h = refl
or_at_both None true k h = refl
or_at_both None false k h = absurd (h refl)

-- a further test that passes is told where nothing was
or_at_first : (o : Option ℕ) (a : Bool) (k : ℕ) → or_at o a k ≡ None → or_at o (a || true) k ≡ Some k
or_at_first (Some n) a k e = absurd (cc)
or_at_first None true k e = absurd (cc)
or_at_first None false k e = refl

-- where a store has a fact already, and where it gets it
module _ (lines : List Line) (number : ℕ) (number_is : length lines ≡ number) (front : List Atom) (x : Atom) (of_elements : IsOfElements x) (f : Firsts) where
  -- the first line of a fact with the facts so far, and with one more
  before_is : (g : Atom) → position (has_fact g) (lines ++ line.Facts front ∷ []) ≡ or_at (position (has_fact g) lines) (list_any (same_atom g) front) (length lines)
  before_is g = position_last (has_fact g) lines (line.Facts front)

  after_is : (g : Atom) → position (has_fact g) (lines ++ line.Facts (front ++ x ∷ []) ∷ [])
      ≡ or_at (position (has_fact g) lines) (list_any (same_atom g) front || same_atom g x) (length lines)
  after_is g =
      position_last (has_fact g) lines (line.Facts (front ++ x ∷ [])) ∙ ap (λ b. or_at (position (has_fact g) lines) b (length lines)) (any_last g front x)

  -- for another fact nothing changes
  other_same : (g : Atom) → same_atom g x ≡ false
      → position (has_fact g) (lines ++ line.Facts (front ++ x ∷ []) ∷ []) ≡ position (has_fact g) (lines ++ line.Facts front ∷ [])
  other_same g e =
      after_is g ∙ ap (λ b. or_at (position (has_fact g) lines) (list_any (same_atom g) front || b) (length lines)) e
      ∙ ap (λ b. or_at (position (has_fact g) lines) b (length lines)) (nor (list_any (same_atom g) front)) ∙ sym (before_is g)
    where
      nor : (b : Bool) → (b || false) ≡ b
      nor true = refl
      nor false = refl

  -- for the fact itself
  own_after : position (has_fact x) (lines ++ line.Facts (front ++ x ∷ []) ∷ [])
      ≡ or_at (position (has_fact x) lines) (list_any (same_atom x) front || true) (length lines)
  own_after = after_is x ∙ ap (λ b. or_at (position (has_fact x) lines) (list_any (same_atom x) front || b) (length lines)) (same_atom_self x)

  module _ (first : AreFirst (lines ++ line.Facts front ∷ []) f) where
    -- where it stands already
    stands_first : store.stands (signed_number x) (elements_at [] x) f.facts ≡ true → AreFirst (lines ++ line.Facts (front ++ x ∷ []) ∷ []) f
    stands_first stands = record {
      facts = λ g of number. by g of number (same_atom g x) refl;
      falsum = falsum_last ∙ first.falsum;
      one_each = first.one_each;
    }
      where
        falsum_last : position is_falsum (lines ++ line.Facts (front ++ x ∷ []) ∷ []) ≡ position is_falsum (lines ++ line.Facts front ∷ [])
        falsum_last = position_last is_falsum lines (line.Facts (front ++ x ∷ [])) ∙ sym (position_last is_falsum lines (line.Facts front))

        own : (number : Option ℕ) → store.IsNumberOf (signed_number x) (elements_at [] x) f.facts number
            → position (has_fact x) (lines ++ line.Facts (front ++ x ∷ []) ∷ []) ≡ option_and_then (slice_get f.lines) number
        own None is = absurd (false≢true (sym is ∙ stands))
        own (Some k) is =
            let was = first.facts x of_elements (Some k) is in
            let below : k < length f.lines = omega (arith, get_below f.facts k (stored x) is, first.one_each) in
            own_after ∙ or_at_both (position (has_fact x) lines) (list_any (same_atom x) front) (length lines)
            (λ e. get_none f.lines k below (e ∙ sym (before_is x) ∙ was)) ∙ sym (before_is x) ∙ was

        by : (g : Atom) → IsOfElements g → (number : Option ℕ) → (b : Bool) → same_atom g x ≡ b
            → store.IsNumberOf (signed_number g) (elements_at [] g) f.facts number
            → position (has_fact g) (lines ++ line.Facts (front ++ x ∷ []) ∷ []) ≡ option_and_then (slice_get f.lines) number
        by g of number true e is =
            let same = same_atom_is g x e in
            ap (λ (a : Atom). position (has_fact a) (lines ++ line.Facts (front ++ x ∷ []) ∷ [])) same
            ∙ own number (subst (λ (a : Atom). store.IsNumberOf (signed_number a) (elements_at [] a) f.facts number) same is)
        by g of number false e is = other_same g e ∙ first.facts g of number is

    -- where it is added
    added_first : store.stands (signed_number x) (elements_at [] x) f.facts ≡ false
        → AreFirst (lines ++ line.Facts (front ++ x ∷ []) ∷ [])
        (record { facts = f.facts ++ stored x ∷ []; lines = f.lines ++ number ∷ []; falsum = f.falsum; signed = f.signed })
    added_first stands = record {
      facts = λ g of number. by g of number (same_atom g x) refl;
      falsum = falsum_last ∙ first.falsum;
      one_each = length-append f.lines (number ∷ []) ∙ ap (λ n. n + 1) first.one_each ∙ sym (length-append f.facts (stored x ∷ []));
    }
      where
        falsum_last : position is_falsum (lines ++ line.Facts (front ++ x ∷ []) ∷ []) ≡ position is_falsum (lines ++ line.Facts front ∷ [])
        falsum_last = position_last is_falsum lines (line.Facts (front ++ x ∷ [])) ∙ sym (position_last is_falsum lines (line.Facts front))

        none_before : or_at (position (has_fact x) lines) (list_any (same_atom x) front) (length lines) ≡ None
        none_before = sym (before_is x) ∙ first.facts x of_elements None stands

        own : (k : ℕ) → (slice_get f.facts k ≡ Some (stored x)) ⊎ ((k ≡ length f.facts) × (stored x ≡ stored x))
            → position (has_fact x) (lines ++ line.Facts (front ++ x ∷ []) ∷ []) ≡ slice_get (f.lines ++ number ∷ []) k
        own k (inl there) = absurd (false≢true (sym stands ∙ get_stands (signed_number x) (elements_at [] x) f.facts k there))
        own k (inr last) =
            let at : k ≡ length f.lines = last.0 ∙ sym first.one_each in
            own_after ∙ or_at_first (position (has_fact x) lines) (list_any (same_atom x) front) (length lines) none_before
            ∙ ap (λ (n : ℕ). Some n) number_is ∙ sym (get_behind f.lines number []) ∙ ap (slice_get (f.lines ++ number ∷ [])) (sym at)

        numbered : (n : Option ℕ) → store.IsNumberOf (signed_number x) (elements_at [] x) (f.facts ++ stored x ∷ []) n
            → position (has_fact x) (lines ++ line.Facts (front ++ x ∷ []) ∷ []) ≡ option_and_then (slice_get (f.lines ++ number ∷ [])) n
        numbered None is = absurd (false≢true (sym is ∙ get_stands (signed_number x) (elements_at [] x) (f.facts ++ stored x ∷ []) (length f.facts) (get_behind f.facts (stored x) [])))
        numbered (Some k) is = own k (get_last f.facts (stored x) k (stored x) is)

        other : (g : Atom) → IsOfElements g → same_atom g x ≡ false → (k : ℕ) → (slice_get f.facts k ≡ Some (stored g)) ⊎ ((k ≡ length f.facts) × (stored x ≡ stored g))
            → position (has_fact g) (lines ++ line.Facts front ∷ []) ≡ slice_get (f.lines ++ number ∷ []) k
        other g of e k (inl there) =
            let below : k < length f.lines = omega (arith, get_below f.facts k (stored g) there, first.one_each) in
            first.facts g of (Some k) there ∙ sym (get_kept f.lines (number ∷ []) k below)
        other g of e k (inr last) =
            let same : x ≡ g = stored_same x g of_elements of last.1 in
            absurd (false≢true (sym e ∙ ap (λ (a : Atom). same_atom g a) same ∙ same_atom_self g))

        others : (g : Atom) → IsOfElements g → same_atom g x ≡ false → (n : Option ℕ) → store.IsNumberOf (signed_number g) (elements_at [] g) (f.facts ++ stored x ∷ []) n
            → position (has_fact g) (lines ++ line.Facts front ∷ []) ≡ option_and_then (slice_get (f.lines ++ number ∷ [])) n
        others g of e None is =
            first.facts g of None (or_neither (store.stands (signed_number g) (elements_at [] g) f.facts) (store.is_fact (signed_number g) (elements_at [] g) (stored x))
            (sym (stands_last (signed_number g) (elements_at [] g) f.facts (stored x)) ∙ is)).0
        others g of e (Some k) is = other g of e k (get_last f.facts (stored x) k (stored g) is)

        by : (g : Atom) → IsOfElements g → (n : Option ℕ) → (b : Bool) → same_atom g x ≡ b
            → store.IsNumberOf (signed_number g) (elements_at [] g) (f.facts ++ stored x ∷ []) n
            → position (has_fact g) (lines ++ line.Facts (front ++ x ∷ []) ∷ []) ≡ option_and_then (slice_get (f.lines ++ number ∷ [])) n
        by g of n true e is =
            let same = same_atom_is g x e in
            ap (λ (a : Atom). position (has_fact a) (lines ++ line.Facts (front ++ x ∷ []) ∷ [])) same
            ∙ numbered n (subst (λ (a : Atom). store.IsNumberOf (signed_number a) (elements_at [] a) (f.facts ++ stored x ∷ []) n) same is)
        by g of n false e is = other_same g e ∙ others g of e n is

    -- with one fact more
    fact_first : AreFirst (lines ++ line.Facts (front ++ x ∷ []) ∷ []) (with_fact number x f)
    fact_first = by (store.stands (signed_number x) (elements_at [] x) f.facts) refl
      where
        by : (b : Bool) → store.stands (signed_number x) (elements_at [] x) f.facts ≡ b
            → AreFirst (lines ++ line.Facts (front ++ x ∷ []) ∷ [])
            (if b then f else record { facts = f.facts ++ stored x ∷ []; lines = f.lines ++ number ∷ []; falsum = f.falsum; signed = f.signed })
        by true e = stands_first e
        by false e = added_first e

-- with the facts that are left
facts_first : (lines : List Line) (number : ℕ) → length lines ≡ number → (front rest : List Atom) (f : Firsts) → AllByRecursion IsOfElements rest
    → AreFirst (lines ++ line.Facts front ∷ []) f → AreFirst (lines ++ line.Facts (front ++ rest) ∷ []) (with_facts number rest f)
facts_first lines number is front [] f of first = subst (λ (fs : List Atom). AreFirst (lines ++ line.Facts fs ∷ []) f) (sym (append-nil front)) first
facts_first lines number is front (x ∷ rest) f of first =
    subst (λ (fs : List Atom). AreFirst (lines ++ line.Facts fs ∷ []) (with_facts number rest (with_fact number x f))) (append_assoc front (x ∷ []) rest)
    (facts_first lines number is (front ++ x ∷ []) rest (with_fact number x f) of.1 (fact_first lines number is front x of.0 f first))

-- a line without facts has none first
empty_first : (lines : List Line) (l : Line) (f : Firsts) → ((g : Atom) → has_fact g l ≡ false) → AreFirst lines f
    → (g : Atom) → IsOfElements g → (n : Option ℕ) → store.IsNumberOf (signed_number g) (elements_at [] g) f.facts n
    → position (has_fact g) (lines ++ l ∷ []) ≡ option_and_then (slice_get f.lines) n
empty_first lines l f none first g of n is =
    position_last (has_fact g) lines l ∙ ap (λ b. or_at (position (has_fact g) lines) b (length lines)) (none g)
    ∙ or_at_none (position (has_fact g) lines) (length lines) ∙ first.facts g of n is

-- a line that is no falsehood is not the first
not_falsum : (lines : List Line) (l : Line) → is_falsum l ≡ false → position is_falsum (lines ++ l ∷ []) ≡ position is_falsum lines
not_falsum lines l e =
    position_last is_falsum lines l ∙ ap (λ b. or_at (position is_falsum lines) b (length lines)) e ∙ or_at_none (position is_falsum lines) (length lines)

-- the facts of a line are of elements
abbrev pub LineIsOfElements : Line → Type 0
LineIsOfElements (line.Facts facts) = AllByRecursion IsOfElements facts
LineIsOfElements (line.Cases lists) = Unit {0}
LineIsOfElements line.Falsum = Unit {0}

-- first lines stay so behind a further line
pub line_first : (lines : List Line) (number : ℕ) → length lines ≡ number → (l : Line) (f : Firsts) → LineIsOfElements l → AreFirst lines f
    → AreFirst (lines ++ l ∷ []) (with_line number l f)
line_first lines number is (line.Facts facts) f of first =
    facts_first lines number is [] facts f of (record {
      facts = empty_first lines (line.Facts []) f (λ g. refl) first;
      falsum = not_falsum lines (line.Facts []) refl ∙ first.falsum;
      one_each = first.one_each;
    })
line_first lines number is (line.Cases lists) f of first = record {
  facts = empty_first lines (line.Cases lists) f (λ g. refl) first;
  falsum = not_falsum lines (line.Cases lists) refl ∙ first.falsum;
  one_each = first.one_each;
}
line_first lines number is line.Falsum f of first = record {
  facts = empty_first lines line.Falsum f (λ g. refl) first;
  falsum = position_last is_falsum lines line.Falsum ∙ or_at_some (position is_falsum lines) (length lines)
      ∙ (λ i. Some (unwrap_or (first.falsum i) (is i)));
  one_each = first.one_each;
}

-- an atom of a form at elements is of elements
slots_are : (xs : List ℕ) (ss : List Slot) → AllByRecursion IsElement (map (slot_at xs) ss)
slots_are xs [] = tt
slots_are xs (Variable i ∷ ss) = (tt, slots_are xs ss)
slots_are xs (Constant c ∷ ss) = (tt, slots_are xs ss)

-- its elements are those of the atom
elements_are : (xs : List ℕ) (ss : List Slot) → map (element_at []) (map (slot_at xs) ss) ≡ map (element_at xs) ss
elements_are xs [] = refl
elements_are xs (Variable i ∷ ss) = ap (λ (es : List ℕ). slice_index xs i ∷ es) (elements_are xs ss)
elements_are xs (Constant c ∷ ss) = ap (λ (es : List ℕ). c ∷ es) (elements_are xs ss)

-- the line that is found is the first with the atom at elements
first_found : (lines : List Line) (f : Firsts) → AreFirst lines f → (elements : List ℕ) (atom : Atom) (number : Option ℕ)
    → store.IsNumberOf (signed_number atom) (elements_at elements atom) f.facts number
    → (found : ℕ) → found ≡ unwrap_or (option_and_then (slice_get f.lines) number) 0 → found ≡ first_with lines (atom_at elements atom)
first_found lines f first elements atom number is found found_is =
    let numbered = subst (λ (es : List ℕ). store.IsNumberOf (signed_number atom) es f.facts number) (sym (elements_are elements atom.args)) is in
    found_is ∙ ap (λ (o : Option ℕ). unwrap_or o 0) (sym (first.facts (atom_at elements atom) (slots_are elements atom.args) number numbered))

-- the same, of what was read
pub first_read : (lines : List Line) (f : Firsts) → AreFirst lines f → (elements : List ℕ) (atom : Atom) (signed : ℕ) (args : List ℕ) (facts : List store.Fact)
    (number : Option ℕ) → signed ≡ signed_number atom → args ≡ elements_at elements atom → facts ≡ f.facts → store.IsNumberOf signed args facts number
    → (found : ℕ) → found ≡ unwrap_or (option_and_then (slice_get f.lines) number) 0 → found ≡ first_with lines (atom_at elements atom)
first_read lines f first elements atom signed args facts number signed_is args_are facts_are is =
    first_found lines f first elements atom number
    (subst (λ (s : ℕ). store.IsNumberOf s (elements_at elements atom) f.facts number) signed_is
    (subst (λ (es : List ℕ). store.IsNumberOf signed es f.facts number) args_are (subst (λ (fs : List store.Fact). store.IsNumberOf signed args fs number) facts_are is)))

-- with a fact, with facts and with a line what is kept grows
pub grows_none : (f : Firsts) → Grows f f
grows_none f = record { facts = []; lines = []; facts_are = sym (append-nil f.facts); lines_are = sym (append-nil f.lines); signed_is = refl }

pub grows_more : (a b c : Firsts) → Grows a b → Grows b c → Grows a c
grows_more a b c g h = record {
  facts = g.facts ++ h.facts;
  lines = g.lines ++ h.lines;
  facts_are = h.facts_are ∙ ap (λ (fs : List store.Fact). fs ++ h.facts) g.facts_are ∙ append_assoc a.facts g.facts h.facts;
  lines_are = h.lines_are ∙ ap (λ (ls : List ℕ). ls ++ h.lines) g.lines_are ∙ append_assoc a.lines g.lines h.lines;
  signed_is = h.signed_is ∙ g.signed_is;
}

fact_grows : (number : ℕ) (x : Atom) (f : Firsts) → Grows f (with_fact number x f)
fact_grows number x f = by (store.stands (signed_number x) (elements_at [] x) f.facts)
  where
    by : (b : Bool) → Grows f (if b then f else record { facts = f.facts ++ stored x ∷ []; lines = f.lines ++ number ∷ []; falsum = f.falsum; signed = f.signed })
    by true = grows_none f
    by false = record { facts = stored x ∷ []; lines = number ∷ []; facts_are = refl; lines_are = refl; signed_is = refl }

facts_grow : (number : ℕ) (facts : List Atom) (f : Firsts) → Grows f (with_facts number facts f)
facts_grow number [] f = grows_none f
facts_grow number (x ∷ facts) f =
    grows_more f (with_fact number x f) (with_facts number facts (with_fact number x f)) (fact_grows number x f) (facts_grow number facts (with_fact number x f))

pub line_grows : (number : ℕ) (l : Line) (f : Firsts) → Grows f (with_line number l f)
line_grows number (line.Facts facts) f = facts_grow number facts f
line_grows number (line.Cases lists) f = grows_none f
line_grows number line.Falsum f = record { facts = []; lines = []; facts_are = sym (append-nil f.facts); lines_are = sym (append-nil f.lines); signed_is = refl }

-- what has grown goes back
take_front : {X : Type 0} (xs ys : List X) → take (length xs) (xs ++ ys) ≡ xs
take_front [] ys = refl
take_front (x ∷ xs) ys = ap (λ zs. x ∷ zs) (take_front xs ys)

pub goes_back : (old new : Firsts) → Grows old new → cut (point_of old) new ≡ old
goes_back old new g =
    let facts = ap (take (length old.facts)) g.facts_are ∙ take_front old.facts g.facts in
    let lines = ap (take (length old.lines)) g.lines_are ∙ take_front old.lines g.lines in
    λ i. record { facts = facts i; lines = lines i; falsum = old.falsum; signed = g.signed_is i }

-- the point is inside what has grown
pub point_inside : (old new : Firsts) → Grows old new → length old.facts ≤ length new.facts
point_inside old new g = omega (arith, length-append old.facts g.facts, ap length g.facts_are)
