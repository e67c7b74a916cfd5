-- A store to which atoms at elements were added has their facts.
use Rattle.std.proofs.Common.{◌≡◌, ℕ, ◌+◌, ◌*◌, ◌-◌, ◌<◌, ◌≤◌, inl, inr, Bool, true, false, ◌||◌, ◌==◌, not, if◌then◌else◌, List, [], ◌∷◌, ◌++◌, length, take, map, get_or, sum_by, refl, ap, sym, ◌∙◌, subst, arith, append_assoc, append-nil, nat_eq, length-append}
use Rattle.std.specs.List.{list_any}
use Rattle.std.specs.Bool.{Decides}
use Rattle.std.specs.Cmp.Lexicographic.{pointwise, bytes_decides}
use Rattle.std.proofs.lemmas.Bool.Decides.{Decides-eqb}
use Rattle.std.proofs.lemmas.List.Sums.{sum_by-append, sum_by-cons}
use Rattle.text_core.specs.Lists.{IsAmong}
use Rattle.text_core.proofs.Laws.{and_both, and_true, or_either, take_next}
use Rattle.logic_core.specs.declared.form.Slot.{Slot}
use Rattle.logic_core.specs.declared.form.Slot.TheVariants.{Variable, Constant}
use Rattle.logic_core.specs.declared.form.Atom.{Atom}
use Rattle.fact_store.specs.Facts as store
use Rattle.vernacular_tree.specs.Contexts.{slot_at, atom_at}
use Rattle.instance_cursor.specs.Facts.{signed_number, element_at, elements_at}
use Rattle.kept_context.specs.Kept.{fact_of}
use Rattle.kept_context.specs.Noted.{args_of, is_numbered, Adds, HasAlso}
use Rattle.kept_context.proofs.Lists.{or_left, or_right, or_shifted, any_append, item_read}

-- ---- atoms at elements as facts

-- a bit of a number
abbrev sign : Bool → ℕ
sign positive = if positive then 0 else 1

-- two signed numbers that are the same are of one symbol with one sign
signed_same : (p q : Bool) (s t : ℕ) → 2 * s + sign p ≡ 2 * t + sign q → (p ≡ q) × (s ≡ t)
signed_same true true s t e = (refl, omega arith)
signed_same true false s t e = absurd (omega arith)
signed_same false true s t e = absurd (omega arith)
signed_same false false s t e = (refl, omega arith)

-- the element of an argument
abbrev element_in : Slot → ℕ
element_in (Variable i) = i
element_in (Constant e) = e

-- lists of elements that are the same arguments are the same
elements_same : (xs ys : List ℕ) → map Constant xs ≡ map Constant ys → xs ≡ ys
elements_same [] [] e = refl
elements_same [] (y ∷ ys) e = absurd (cc)
elements_same (x ∷ xs) [] e = absurd (cc)
elements_same (x ∷ xs) (y ∷ ys) e =
    let first : Constant x ≡ Constant y = cc in
    let rest : map Constant xs ≡ map Constant ys = cc in
    λ i. ap element_in first i ∷ elements_same xs ys rest i

-- arguments at elements
slots_seen : (elements : List ℕ) (slots : List Slot) → map (slot_at elements) slots ≡ map Constant (map (element_at elements) slots)
slots_seen elements [] = refl
slots_seen elements (Variable i ∷ slots) = ap (λ rest. slot_at elements (Variable i) ∷ rest) (slots_seen elements slots)
slots_seen elements (Constant c ∷ slots) = ap (λ rest. Constant c ∷ rest) (slots_seen elements slots)

-- an atom at elements is the fact of its elements
pub atom_seen : (elements : List ℕ) (atom : Atom) → atom_at elements atom ≡ fact_of atom.positive atom.symbol (elements_at elements atom)
atom_seen elements atom = λ i. record { positive = atom.positive; symbol = atom.symbol; args = slots_seen elements atom.args i }

-- an atom whose number and elements are those of a fact is it
numbered_seen : (positive : Bool) (symbol : ℕ) (args elements : List ℕ) (atom : Atom)
    → is_numbered (signed_number (fact_of positive symbol args)) args elements atom ≡ true → atom_at elements atom ≡ fact_of positive symbol args
numbered_seen positive symbol args elements atom e =
    let number = signed_number (fact_of positive symbol args) in
    let both = and_both (number == signed_number atom) (pointwise nat_eq args (elements_at elements atom)) e in
    let same = signed_same positive atom.positive symbol atom.symbol ((Decides-eqb number (signed_number atom)).0 both.0) in
    let elements_are : args ≡ elements_at elements atom = (bytes_decides args (elements_at elements atom)).0 both.1 in
    atom_seen elements atom ∙ sym (λ i. fact_of (same.0 i) (same.1 i) (elements_are i))

-- an atom that is a fact has its number and elements
seen_numbered : (positive : Bool) (symbol : ℕ) (args elements : List ℕ) (atom : Atom)
    → atom_at elements atom ≡ fact_of positive symbol args → is_numbered (signed_number (fact_of positive symbol args)) args elements atom ≡ true
seen_numbered positive symbol args elements atom e =
    let number = signed_number (fact_of positive symbol args) in
    let whole : fact_of positive symbol args ≡ fact_of atom.positive atom.symbol (elements_at elements atom) = sym e ∙ atom_seen elements atom in
    let sign_is : positive ≡ atom.positive = ap (λ (a : Atom). a.positive) whole in
    let symbol_is : symbol ≡ atom.symbol = ap (λ (a : Atom). a.symbol) whole in
    let elements_are : args ≡ elements_at elements atom = elements_same args (elements_at elements atom) (ap (λ (a : Atom). a.args) whole) in
    and_true (number == signed_number atom) (pointwise nat_eq args (elements_at elements atom))
    ((Decides-eqb number (signed_number atom)).1 (λ i. 2 * symbol_is i + sign (sign_is i)))
    ((bytes_decides args (elements_at elements atom)).1 elements_are)

module _ (positive : Bool) (symbol : ℕ) (args elements : List ℕ) where
  -- a fact whose number and elements some atom has is among the atoms
  any_seen : (atoms : List Atom) → list_any (is_numbered (signed_number (fact_of positive symbol args)) args elements) atoms ≡ true
      → IsAmong (fact_of positive symbol args) (map (atom_at elements) atoms)
  any_seen [] e = absurd (cc)
  any_seen (atom ∷ atoms) e =
      let test = is_numbered (signed_number (fact_of positive symbol args)) args elements in
      elim (or_either (test atom) (list_any test atoms) e) [
        | inl here ↦ inl (numbered_seen positive symbol args elements atom here)
        | inr later ↦ inr (any_seen atoms later)
      ]

  -- a fact that is among the atoms has the number and elements of one
  seen_any : (atoms : List Atom) → IsAmong (fact_of positive symbol args) (map (atom_at elements) atoms)
      → list_any (is_numbered (signed_number (fact_of positive symbol args)) args elements) atoms ≡ true
  seen_any [] among = absurd among
  seen_any (atom ∷ atoms) (inl here) =
      let test = is_numbered (signed_number (fact_of positive symbol args)) args elements in
      or_left (test atom) (list_any test atoms) (seen_numbered positive symbol args elements atom here)
  seen_any (atom ∷ atoms) (inr later) =
      let test = is_numbered (signed_number (fact_of positive symbol args)) args elements in
      or_right (test atom) (list_any test atoms) (seen_any atoms later)

  -- whether a fact is among atoms at elements
  pub among_told : (atoms : List Atom) → Decides (list_any (is_numbered (signed_number (fact_of positive symbol args)) args elements) atoms)
      (IsAmong (fact_of positive symbol args) (map (atom_at elements) atoms))
  among_told atoms = (any_seen atoms, seen_any atoms)

-- ---- how many facts are added

-- the arguments of facts
abbrev fact_args : List store.Fact → ℕ
fact_args facts = sum_by (λ (fact : store.Fact). length fact.args) facts

-- nothing is added
pub adds_none : (m n : ℕ) (s : store.Facts) → Adds m n s s
adds_none m n s = record {
  added = [];
  facts_are = sym (append-nil s.facts);
  few = omega arith;
  few_args = omega arith;
  spare_facts = omega arith;
  spare_args = omega arith;
  signed_is = refl;
}

-- facts are added, and then further ones
pub adds_more : (m n p q : ℕ) (a b c : store.Facts) → Adds m n a b → Adds p q b c → Adds (m + p) (n + q) a c
adds_more m n p q a b c x y =
    let long : length (x.added ++ y.added) ≡ length x.added + length y.added = length-append x.added y.added in
    let wide : fact_args (x.added ++ y.added) ≡ fact_args x.added + fact_args y.added
    = sum_by-append (λ (fact : store.Fact). length fact.args) x.added y.added in
    record {
      added = x.added ++ y.added;
      facts_are = y.facts_are ∙ ap (λ (fs : List store.Fact). fs ++ y.added) x.facts_are ∙ append_assoc a.facts x.added y.added;
      few = omega arith;
      few_args = omega arith;
      spare_facts = omega arith;
      spare_args = omega arith;
      signed_is = y.signed_is ∙ x.signed_is;
    }

-- at most so many facts are at most more
pub adds_less : (m n p q : ℕ) (a b : store.Facts) → m ≤ p → n ≤ q → Adds m n a b → Adds p q a b
adds_less m n p q a b fewer fewer_args x = record {
  added = x.added;
  facts_are = x.facts_are;
  few = omega arith;
  few_args = omega arith;
  spare_facts = x.spare_facts;
  spare_args = x.spare_args;
  signed_is = x.signed_is;
}

-- ---- atoms that are added one after another

-- a store with no atoms more
pub also_none : (elements : List ℕ) (s : store.Facts) → HasAlso elements [] s s
also_none elements s = record {
  stands = λ number args. sym (nor (store.stands number args s.facts));
  adds = adds_none 0 0 s;
}
  where
    nor : (b : Bool) → (b || false) ≡ b
    nor true = refl
    nor false = refl

-- a store with atoms more, and then further ones
also_more : (elements : List ℕ) (xs ys : List Atom) (a b c : store.Facts) → HasAlso elements xs a b → HasAlso elements ys b c → HasAlso elements (xs ++ ys) a c
also_more elements xs ys a b c x y = record {
  stands = λ number args.
      let test = is_numbered number args elements in
      y.stands number args ∙ ap (λ t. t || list_any test ys) (x.stands number args)
      ∙ sym (or_shifted (store.stands number args a.facts) (list_any test xs) (list_any test ys))
      ∙ ap (λ t. store.stands number args a.facts || t) (sym (any_append test xs ys));
  adds = subst (λ m. Adds m (args_of (xs ++ ys)) a c) (sym (length-append xs ys))
      (subst (λ n. Adds (length xs + length ys) n a c) (sym (sum_by-append (λ (atom : Atom). length atom.args) xs ys))
      (adds_more (length xs) (args_of xs) (length ys) (args_of ys) a b c x.adds y.adds));
}

-- a store with one more of a list's atoms
pub also_next : (elements : List ℕ) (atoms : List Atom) (i : ℕ) (atom : Atom) (a b c : store.Facts) → i < length atoms → atom ≡ get_or atoms i atom
    → HasAlso elements (take i atoms) a b → HasAlso elements (atom ∷ []) b c → HasAlso elements (take (i + 1) atoms) a c
also_next elements atoms i atom a b c below is x y =
    subst (λ (xs : List Atom). HasAlso elements xs a c) (sym (take_next atoms i atom (item_read atoms i atom below is)))
    (also_more elements (take i atoms) (atom ∷ []) a b c x y)

-- a test that another one implies
absorbed : (a b : Bool) → (b ≡ true → a ≡ true) → a ≡ (a || (b || false))
absorbed true b h = refl
absorbed false true h = h refl
absorbed false false h = refl

-- a test whose opposite fails passes
passed : (a : Bool) → not a ≡ false → a ≡ true
passed true e = refl
passed false e = absurd (cc)

-- a store to which a fact is added
abbrev with_fact : ℕ → List ℕ → store.Facts → store.Facts
with_fact number args old = record old {
  facts = old.facts ++ record { signed = number; args = args } ∷ [];
  spare_facts = old.spare_facts - 1;
  spare_args = old.spare_args - length args;
}

-- a store after one more atom was added, or was there
pub fact_added : (elements : List ℕ) (atom : Atom) (old new : store.Facts) (args : List ℕ) (number : ℕ) (done : Bool)
    → number ≡ signed_number atom → args ≡ elements_at elements atom → length args ≡ length atom.args → 0 < old.spare_facts → length args ≤ old.spare_args
    → done ≡ not (store.stands number args old.facts) → (done ≡ true → new ≡ with_fact number args old) → (done ≡ false → new ≡ old)
    → HasAlso elements (atom ∷ []) old new
fact_added elements atom old new args number true number_is args_are long spare spare_args test added stays =
    subst (HasAlso elements (atom ∷ []) old) (sym (added refl)) (record {
      stands = λ n xs.
          let made : record { signed = number; args = args } ≡ record { signed = signed_number atom; args = elements_at elements atom }
          = λ i. record { signed = number_is i; args = args_are i } in
          any_append (store.is_fact n xs) old.facts (record { signed = number; args = args } ∷ [])
          ∙ ap (λ (f : store.Fact). store.stands n xs old.facts || (store.is_fact n xs f || false)) made;
      adds = record {
        added = record { signed = number; args = args } ∷ [];
        facts_are = refl;
        few = omega arith;
        few_args = omega (arith, one, same);
        spare_facts = omega arith;
        spare_args = omega (arith, one);
        signed_is = refl;
      };
    })
  where
    one : fact_args (record { signed = number; args = args } ∷ []) ≡ length args
    one = sum_by-cons {X = store.Fact} (λ fact. length fact.args) (record { signed = number; args = args }) [] ∙ omega arith

    same : args_of (atom ∷ []) ≡ length atom.args
    same = sum_by-cons {X = Atom} (λ a. length a.args) atom [] ∙ omega arith
fact_added elements atom old new args number false number_is args_are long spare spare_args test added stays =
    subst (HasAlso elements (atom ∷ []) old) (sym (stays refl)) (record {
      stands = λ n xs. absorbed (store.stands n xs old.facts) (is_numbered n xs elements atom) (λ e.
          let both = and_both (n == signed_number atom) (pointwise nat_eq xs (elements_at elements atom)) e in
          let one : n ≡ number = (Decides-eqb n (signed_number atom)).0 both.0 ∙ sym number_is in
          let two : xs ≡ args = (bytes_decides xs (elements_at elements atom)).0 both.1 ∙ sym args_are in
          (λ i. store.stands (one i) (two i) old.facts) ∙ passed (store.stands number args old.facts) (sym test));
      adds = adds_none 1 (args_of (atom ∷ [])) old;
    })
