-- Symbols are found and added as their pairs are, of a name's number and an arity.
use Rattle.std.proofs.Common.{◌≡◌, ℕ, suc, zero, ◌+◌, ◌^◌, ◌<◌, ◌≤◌, ◌==◌, nat_lt, position, if◌then◌else◌, Bool, true, false, cond, not, ◌||◌, ◌&&◌, List, [], ◌∷◌, ◌++◌, length, slice_get, Option, Some, None, refl, sym, ap, subst, ◌∙◌, arith, nat_eq}
use Rattle.std.proofs.lemmas.List.{map-append, length-append}
use Rattle.std.specs.List.{AllByRecursion, IsDistinct, list_any, position_or_len}
use Rattle.std.specs.Cmp.Lexicographic.{pointwise, bytes_decides, nat_list_eq_equiv}
use Rattle.std.proofs.lemmas.Bool.Decides.{nat_tests}
use Rattle.text_core.specs.Names.{Text}
use Rattle.text_core.proofs.Laws.{number_same}
use Rattle.text_core.specs.Numbered.{text_or_empty}
use Rattle.std.specs.Option.{option_map}
use Rattle.signature.proofs.Positions.{position-seen, position_or_len-seen, list_any-seen}
use Rattle.signature.specs.Numbers.{AreDistinctSymbols, is_symbol, symbol_number, found_symbol, with_symbol}
use Rattle.signature.specs.Columns.{name_number, found_name, with_name, symbol_in, symbols_in, is_same_pair, AreTables}

-- the text with this number, or the empty one past the end
abbrev text_at : List Text → ℕ → Text
text_at names j = text_or_empty (slice_get names j)

-- a number below one that is at most another
≤_lt_trans : {a b c : ℕ} → a ≤ b → c < a → c < b
≤_lt_trans h k = omega arith

-- tests of numbers that are both greater by one
one_more : (p j : ℕ) → (1 + p == suc j) ≡ (p == j)
one_more p j = grind (arith, nat_tests)

-- a number that is greater by one is not 0
not_zero : (p : ℕ) → (1 + p == 0) ≡ false
not_zero p = grind (arith, nat_tests)

-- 0 is not a number that is greater by one
not_next : (j : ℕ) → (0 == suc j) ≡ false
not_next j = grind (arith, nat_tests)

-- a number is not one below it
past : (p j : ℕ) → j < p → (p == j) ≡ false
past p j h = grind (arith, nat_tests)

-- the text with a number has what each text has
text_has : (P : Text → Type 0) (names : List Text) → AllByRecursion P names → (j : ℕ) → j < length names → P (text_at names j)
text_has P [] h j below = absurd (omega arith)
text_has P (x ∷ names) h zero below = h.0
text_has P (x ∷ names) h (suc j) below = text_has P names h.1 j (omega arith)

-- the text with a number that is greater by one, in a list with one more in front
text_at-cons : (x : Text) (names : List Text) (p : ℕ) → text_at (x ∷ names) (1 + p) ≡ text_at names p
text_at-cons x names p = let e : 1 + p ≡ suc p = omega arith in rw e

-- a text keeps its number where more follow
text_at-append : (names more : List Text) (j : ℕ) → j < length names → text_at (names ++ more) j ≡ text_at names j
text_at-append [] more j below = absurd (omega arith)
text_at-append (x ∷ names) more zero below = refl
text_at-append (x ∷ names) more (suc j) below = text_at-append names more j (omega arith)

-- a name is at its number alone
module _ (name : Text) where
  -- the test of the first number
  at_first : (b : Bool) (p : ℕ) → b ≡ (cond (not b) (1 + p) 0 == 0)
  at_first true p = refl
  at_first false p = sym (not_zero p)

  -- the test of a later number
  at_next : (x y : Text) (b : Bool) (p j : ℕ) → pointwise nat_eq name x ≡ b → pointwise nat_eq x y ≡ false → pointwise nat_eq name y ≡ (p == j)
      → pointwise nat_eq name y ≡ (cond (not b) (1 + p) 0 == suc j)
  at_next x y true p j e apart rest = subst (λ l. pointwise nat_eq l y ≡ false) (sym ((bytes_decides name x).0 e)) apart ∙ sym (not_next j)
  at_next x y false p j e apart rest = rest ∙ sym (one_more p j)

  -- a text is the name where its number is that of the name
  pub text_test : (names : List Text) → IsDistinct (pointwise nat_eq) names → (j : ℕ) → j < length names
      → pointwise nat_eq name (text_at names j) ≡ (name_number names name == j)
  unfolding IsDistinct
  text_test [] d j below = absurd (omega arith)
  text_test (x ∷ names) d zero below = at_first (pointwise nat_eq name x) _
  text_test (x ∷ names) d (suc j) below =
      at_next x (text_at names j) (pointwise nat_eq name x) (name_number names name) j refl
      (text_has (λ y. pointwise nat_eq x y ≡ false) names d.0 j (omega arith))
      (text_test names d.1 j (omega arith))

  -- the name is at its number once it is added
  here_at : (x : Text) (names : List Text) (b any : Bool) (p : ℕ) → pointwise nat_eq name x ≡ b
      → text_at (cond any names (names ++ name ∷ [])) p ≡ name
      → text_at (cond (b || any) (x ∷ names) (x ∷ (names ++ name ∷ []))) (cond (not b) (1 + p) 0) ≡ name
  here_at x names true any p e rest = sym ((bytes_decides name x).0 e)
  here_at x names false true p e rest = text_at-cons x names p ∙ rest
  here_at x names false false p e rest = text_at-cons x (names ++ name ∷ []) p ∙ rest

  -- the name is at its number
  pub text_here : (names : List Text) → text_at (with_name names name) (name_number names name) ≡ name
  text_here [] = refl
  text_here (x ∷ names) = here_at x names (pointwise nat_eq name x) (list_any (pointwise nat_eq name) names) (name_number names name) refl (text_here names)

  -- and the other texts keep theirs
  stays_at : (names : List Text) (b : Bool) (j : ℕ) → j < length names → text_at (cond b names (names ++ name ∷ [])) j ≡ text_at names j
  stays_at names true j below = refl
  stays_at names false j below = text_at-append names (name ∷ []) j below

  -- the texts before it keep their numbers
  pub text_stays : (names : List Text) (j : ℕ) → j < length names → text_at (with_name names name) j ≡ text_at names j
  text_stays names j below = stays_at names (list_any (pointwise nat_eq name) names) j below

-- what a look-up of a name tells
found_is : (b : Bool) (p n : ℕ) → Some n ≡ cond b (Some p) None → n ≡ p
found_is true p n e = cc
found_is false p n e = cc

-- a look-up that finds nothing tells that the test fails
not_found : (b : Bool) (p : ℕ) → None ≡ cond b (Some p) None → b ≡ false
not_found true p e = cc
not_found false p e = refl

-- a number that a look-up of a name finds is the number of the name
pub number_is : (names : List Text) (name : Text) (n : ℕ) → Some n ≡ found_name names name → n ≡ name_number names name
number_is names name n e = found_is (nat_lt (name_number names name) (length names)) (name_number names name) n e

-- a name that is not found has the number past the end
is_past : (names : List Text) (name : Text) → None ≡ found_name names name → length names ≤ name_number names name
is_past names name e =
    let h = not_found (nat_lt (name_number names name) (length names)) (name_number names name) e in grind (arith, nat_tests)

-- no item passes
never : {A : Type 0} (xs : List A) → position_or_len (λ _. false) xs ≡ length xs
never [] = refl
never (x ∷ xs) = let e = never xs in omega arith

-- no item that passes has a number
none_passes : {A : Type 0} (xs : List A) → position (λ _. false) xs ≡ None
none_passes xs = let e = never xs in let no : nat_lt (position_or_len (λ _. false) xs) (length xs) ≡ false = grind (arith, nat_tests) in rw no

-- the test of a pair for the symbol with this name's number and this arity
abbrev pub is_pair : ℕ → ℕ → ℕ × ℕ → Bool
is_pair n arity pair = nat_eq n pair.0 && nat_eq arity pair.1

-- the pairs after this one is put last, unless it is there
abbrev pub with_pair : List (ℕ × ℕ) → ℕ → ℕ → List (ℕ × ℕ)
with_pair pairs n arity = if list_any (is_pair n arity) pairs then pairs else pairs ++ (n, arity) ∷ []

-- each pair has the number of a name
abbrev pub AreNamed : List Text → List (ℕ × ℕ) → Type 0
AreNamed names pairs = AllByRecursion (λ pair. pair.0 < length names) pairs

module _ (name : Text) (arity : ℕ) (names : List Text) (distinct : IsDistinct (pointwise nat_eq) names) where
  -- the test of a symbol is that of its pair
  tests_agree : (pairs : List (ℕ × ℕ)) → AreNamed names pairs
      → AllByRecursion (λ pair. is_symbol name arity (symbol_in names pair) ≡ is_pair (name_number names name) arity pair) pairs
  tests_agree [] h = tt
  tests_agree (p ∷ pairs) h = ((λ i. text_test name names distinct p.0 h.0 i && nat_eq arity p.1), tests_agree pairs h.1)

  -- and fails where the name is not there
  tests_fail : None ≡ found_name names name → (pairs : List (ℕ × ℕ)) → AreNamed names pairs
      → AllByRecursion (λ pair. is_symbol name arity (symbol_in names pair) ≡ false) pairs
  tests_fail none [] h = tt
  tests_fail none (p ∷ pairs) h =
      let apart : (name_number names name == p.0) ≡ false = past _ _ (≤_lt_trans (is_past names name none) h.0) in
      ((λ i. (text_test name names distinct p.0 h.0 ∙ apart) i && nat_eq arity p.1), tests_fail none pairs h.1)

  -- a symbol whose name is not there is not there
  pub no_name : (pairs : List (ℕ × ℕ)) → AreNamed names pairs → None ≡ found_name names name → None ≡ found_symbol (symbols_in names pairs) name arity
  unfolding found_symbol
  no_name pairs h none =
      ap (option_map (λ n. n + 1)) (sym (position-seen (symbol_in names) (is_symbol name arity) (λ _. false) pairs (tests_fail none pairs h) ∙ none_passes pairs))

  -- and one whose name is there is found as its pair is
  pub by_pair : (pairs : List (ℕ × ℕ)) → AreNamed names pairs → (n : ℕ) → Some n ≡ found_name names name
      → (o : Option ℕ) → o ≡ position (is_pair n arity) pairs → option_map (λ n. n + 1) o ≡ found_symbol (symbols_in names pairs) name arity
  unfolding found_symbol
  by_pair pairs h n some o e =
      ap (option_map (λ n. n + 1))
      (e ∙ ap (λ n. position (is_pair n arity) pairs) (number_is names name n some)
      ∙ sym (position-seen (symbol_in names) (is_symbol name arity) (is_pair (name_number names name) arity) pairs (tests_agree pairs h)))

  -- the number of a symbol is one more than that of its pair
  pub number_by_pair : (pairs : List (ℕ × ℕ)) → AreNamed names pairs
      → position_or_len (is_pair (name_number names name) arity) pairs + 1 ≡ symbol_number (symbols_in names pairs) name arity
  unfolding symbol_number
  number_by_pair pairs h =
      ap (λ n. n + 1) (sym (position_or_len-seen (symbol_in names) (is_symbol name arity) (is_pair (name_number names name) arity) pairs (tests_agree pairs h)))

  -- the old symbols stay when the name is added
  symbols_stay : (pairs : List (ℕ × ℕ)) → AreNamed names pairs → symbols_in (with_name names name) pairs ≡ symbols_in names pairs
  symbols_stay [] h = refl
  symbols_stay (p ∷ pairs) h = λ i. record { name = text_stays name names p.0 h.0 i; arity = p.1 } ∷ symbols_stay pairs h.1 i

  -- a symbol is added as its pair is
  added : (pairs : List (ℕ × ℕ)) (b : Bool) → AreNamed names pairs
      → symbols_in (with_name names name) (cond b pairs (pairs ++ (name_number names name, arity) ∷ []))
      ≡ cond b (symbols_in names pairs) (symbols_in names pairs ++ record { name = name; arity = arity } ∷ [])
  added pairs true h = symbols_stay pairs h
  added pairs false h =
      map-append _ pairs ((name_number names name, arity) ∷ [])
      ∙ (λ i. symbols_stay pairs h i ++ record { name = text_here name names i; arity = arity } ∷ [])

  -- to add the name and the pair is to add the symbol
  pub symbols_with_pair : (pairs : List (ℕ × ℕ)) → AreNamed names pairs
      → symbols_in (with_name names name) (with_pair pairs (name_number names name) arity) ≡ with_symbol (symbols_in names pairs) name arity
  unfolding with_symbol
  symbols_with_pair pairs h =
      let same = list_any-seen (symbol_in names) (is_symbol name arity) (is_pair (name_number names name) arity) pairs (tests_agree pairs h) in
      added pairs (list_any (is_pair (name_number names name) arity) pairs) h
      ∙ ap (λ b. cond b (symbols_in names pairs) (symbols_in names pairs ++ record { name = name; arity = arity } ∷ [])) (sym same)

-- ---- the tables after a symbol was added

-- there are as many symbols as pairs
pub length-symbols_in : (names : List Text) (pairs : List (ℕ × ℕ)) → length (symbols_in names pairs) ≡ length pairs
length-symbols_in names [] = refl
length-symbols_in names (p ∷ pairs) = let e = length-symbols_in names pairs in omega arith

-- pairs of names, where there are more names
named_more : (old new : List Text) → length old ≤ length new → (pairs : List (ℕ × ℕ)) → AreNamed old pairs → AreNamed new pairs
named_more old new more [] h = tt
named_more old new more (p ∷ pairs) h = (≤_lt_trans more h.0, named_more old new more pairs h.1)

-- pairs of names, and one more
named_last : (names : List Text) (n arity : ℕ) → n < length names → (pairs : List (ℕ × ℕ)) → AreNamed names pairs → AreNamed names (pairs ++ (n, arity) ∷ [])
named_last names n arity there [] h = (there, tt)
named_last names n arity there (p ∷ pairs) h = (h.0, named_last names n arity there pairs h.1)

-- a new name is in no pair
no_pair : (n arity : ℕ) (names : List Text) → length names ≤ n → (pairs : List (ℕ × ℕ)) → AreNamed names pairs → list_any (is_pair n arity) pairs ≡ false
no_pair n arity names new [] h = refl
no_pair n arity names new (p ∷ pairs) h =
    let apart : (n == p.0) ≡ false = past n p.0 (≤_lt_trans new h.0) in
    (λ i. (apart i && nat_eq arity p.1) || no_pair n arity names new pairs h.1 i)

-- no names are lost
longer : (name : Text) (names : List Text) (b : Bool) → length names ≤ length (cond b names (names ++ name ∷ []))
longer name names true = omega arith
longer name names false = omega (arith, length-append names (name ∷ []))

-- a name has a number once it is added
pub number_below : (name : Text) (names : List Text) → name_number names name < length (with_name names name)
number_below name [] = omega arith
number_below name (x ∷ names) = by (pointwise nat_eq name x) (list_any (pointwise nat_eq name) names) (number_below name names)
  where
    by : (b any : Bool) → name_number names name < length (cond any names (names ++ name ∷ []))
        → cond (not b) (1 + name_number names name) 0 < length (cond (b || any) (x ∷ names) (x ∷ (names ++ name ∷ [])))
    by true any h = omega arith
    by false true h = omega arith
    by false false h = omega arith

-- a name that is not there has the number after the last
absent_after : (b any : Bool) (p n : ℕ) → (any ≡ false → p ≡ n) → (b || any) ≡ false → cond (not b) (1 + p) 0 ≡ suc n
absent_after true any p n rest e = cc
absent_after false any p n rest e = let same = rest e in omega arith

-- the number of a name that is not there is the length
absent_last : (name : Text) (names : List Text) → list_any (pointwise nat_eq name) names ≡ false → name_number names name ≡ length names
absent_last name [] e = refl
absent_last name (x ∷ names) e = absent_after (pointwise nat_eq name x) _ _ _ (absent_last name names) e

module _ (name : Text) (arity : ℕ) (names : List Text) (pairs : List (ℕ × ℕ)) (h : AreNamed names pairs) (few : length names ≤ length pairs) where
  -- pairs of names, with the new pair
  named_with_pair : (b : Bool) → AreNamed (with_name names name) (cond b pairs (pairs ++ (name_number names name, arity) ∷ []))
  named_with_pair true = named_more names _ (longer name names _) pairs h
  named_with_pair false = named_last _ _ arity (number_below name names) pairs (named_more names _ (longer name names _) pairs h)

  -- there are no more names than pairs
  few_still : (any b : Bool) → (any ≡ false → b ≡ false) → length (cond any names (names ++ name ∷ [])) ≤ length (cond b pairs (pairs ++ (name_number names name, arity) ∷ []))
  few_still true true e = few
  few_still true false e = omega (arith, length-append pairs ((name_number names name, arity) ∷ []))
  few_still false true e = cc (e refl)
  few_still false false e = omega (arith, length-append names (name ∷ []), length-append pairs ((name_number names name, arity) ∷ []))

  -- a new name makes a new pair
  new_pair : list_any (pointwise nat_eq name) names ≡ false → list_any (is_pair (name_number names name) arity) pairs ≡ false
  new_pair e = no_pair (name_number names name) arity names (let last = absent_last name names e in omega arith) pairs h

  -- there is at most one pair more
  one_pair_more : (b : Bool) → length (cond b pairs (pairs ++ (name_number names name, arity) ∷ [])) ≤ length pairs + 1
  one_pair_more true = omega arith
  one_pair_more false = omega (arith, length-append pairs ((name_number names name, arity) ∷ []))

-- the tables are right after a symbol was added
pub AreTables-symbol : (name : Text) (arity : ℕ) (names : List Text) (pairs : List (ℕ × ℕ)) (constants : List Text)
    → AreTables names pairs constants → length pairs + 2 < 2 ^ 32
    → IsDistinct (pointwise nat_eq) (with_name names name) → IsDistinct is_same_pair (with_pair pairs (name_number names name) arity)
    → AreTables (with_name names name) (with_pair pairs (name_number names name) arity) constants
AreTables-symbol name arity names pairs constants tables room names_distinct pairs_distinct =
    let there = list_any (is_pair (name_number names name) arity) pairs in
    let more = one_pair_more name arity names pairs tables.named tables.names_few there in
    record {
      named = named_with_pair name arity names pairs tables.named tables.names_few there;
      names_distinct = names_distinct;
      pairs_distinct = pairs_distinct;
      constants_distinct = tables.constants_distinct;
      names_few = few_still name arity names pairs tables.named tables.names_few _ there (new_pair name arity names pairs tables.named tables.names_few);
      pairs_few = omega arith;
      constants_few = tables.constants_few;
    }

-- ---- no symbol is there twice

module _ (names : List Text) (distinct : IsDistinct (pointwise nat_eq) names) where
  -- the number of the name with a number
  number_at : (i : ℕ) → i < length names → name_number names (text_at names i) ≡ i
  number_at i below =
      let same = sym (text_test (text_at names i) names distinct i below) ∙ nat_list_eq_equiv.refl (text_at names i) in
      number_same (name_number names (text_at names i)) i same

  -- names are the same where their numbers are
  names_agree : (i j : ℕ) → i < length names → j < length names → pointwise nat_eq (text_at names i) (text_at names j) ≡ nat_eq i j
  names_agree i j below there = text_test (text_at names i) names distinct j there ∙ ap (λ n. n == j) (number_at i below)

  -- symbols of pairs that differ differ
  apart_symbols : (p : ℕ × ℕ) → p.0 < length names → (pairs : List (ℕ × ℕ)) → AreNamed names pairs → AllByRecursion (λ q. is_same_pair p q ≡ false) pairs
      → AllByRecursion (λ t. is_symbol (text_at names p.0) p.1 t ≡ false) (symbols_in names pairs)
  apart_symbols p below [] h apart = tt
  apart_symbols p below (q ∷ pairs) h apart =
      ((λ i. names_agree p.0 q.0 below h.0 i && nat_eq p.1 q.1) ∙ apart.0, apart_symbols p below pairs h.1 apart.1)

  -- symbols of distinct pairs are distinct
  pub distinct_symbols : (pairs : List (ℕ × ℕ)) → AreNamed names pairs → IsDistinct is_same_pair pairs → AreDistinctSymbols (symbols_in names pairs)
  unfolding IsDistinct
  distinct_symbols [] h apart = tt
  distinct_symbols (p ∷ pairs) h apart = (apart_symbols p h.0 pairs h.1 apart.0, distinct_symbols pairs h.1 apart.1)
