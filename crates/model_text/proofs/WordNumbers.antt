-- The numbers of words: a name keeps its number where more names follow, and its number tells it.
use Rattle.std.specs.Prelude.{◌≡◌, ℕ, ◌+◌, ◌<◌, ◌≤◌, take, IsSomeAnd, Bool, true, false, not, ◌||◌, List, [], ◌∷◌, ◌++◌, map, length, slice_get, Some, nat_eq, cond}
use Rattle.std.specs.List.{AllByRecursion, list_any}
use Rattle.std.specs.Cmp.Lexicographic.{pointwise, bytes_decides}
use Rattle.std.proofs.Common.{refl, sym, ◌∙◌, ap, subst, inl, inr, arith}
use Rattle.std.proofs.lemmas.Option.{slice_get_cases}
use Rattle.std.proofs.lemmas.List.{map-append}
use Rattle.text_core.specs.Names.{Text}
use Rattle.text_core.proofs.Laws.{each_map, each_same, take_next, take_all}
use Rattle.signature.specs.Columns.{name_number, with_name}
use Rattle.signature.proofs.Laws.{text_here, number_below}
use Rattle.tptp_lexer.specs.Tokens.{Token, name_of}
use Rattle.model_text.specs.Words.{is_word_kind, names_after, names_behind, names_in, number_among, name_numbered, AreNumbered}

-- the name is among names
abbrev pub Has : List Text → Text → Type 0
Has names name = list_any (pointwise nat_eq name) names ≡ true

-- a name that is there keeps its number where more follow
kept : (name : Text) (names more : List Text) → Has names name → name_number (names ++ more) name ≡ name_number names name
kept name [] more h = absurd (cc)
kept name (x ∷ names) more h = by (pointwise nat_eq name x) h (kept name names more)
  where
    by : (b : Bool) → (b || list_any (pointwise nat_eq name) names) ≡ true →
        (Has names name → name_number (names ++ more) name ≡ name_number names name) →
        cond (not b) (1 + name_number (names ++ more) name) 0 ≡ cond (not b) (1 + name_number names name) 0
    by true h later = refl
    by false h later = ap (λ (n : ℕ). 1 + n) (later h)

-- a new name has as its number how many there were before
last : (name : Text) (names : List Text) → list_any (pointwise nat_eq name) names ≡ false →
    name_number (names ++ name ∷ []) name ≡ name_number names name
last name [] h = by (pointwise nat_eq name name) ((bytes_decides name name).1 refl)
  where
    by : (b : Bool) → b ≡ true → cond (not b) (1 + 0) 0 ≡ 0
    by true e = refl
    by false e = absurd (cc)
last name (x ∷ names) h = by (pointwise nat_eq name x) h (last name names)
  where
    by : (b : Bool) → (b || list_any (pointwise nat_eq name) names) ≡ false →
        (list_any (pointwise nat_eq name) names ≡ false → name_number (names ++ name ∷ []) name ≡ name_number names name) →
        cond (not b) (1 + name_number (names ++ name ∷ []) name) 0 ≡ cond (not b) (1 + name_number names name) 0
    by true h later = absurd (cc)
    by false h later = ap (λ (n : ℕ). 1 + n) (later h)

-- a name has the same number once it is there
pub number_once : (names : List Text) (name : Text) → name_number (with_name names name) name ≡ name_number names name
number_once names name = by (list_any (pointwise nat_eq name) names) refl
  where
    by : (b : Bool) → list_any (pointwise nat_eq name) names ≡ b → name_number (cond b names (names ++ name ∷ [])) name ≡ name_number names name
    by true e = refl
    by false e = last name names e

-- a name that is there keeps its number where another one comes
pub number_stays : (names : List Text) (other name : Text) → Has names name → name_number (with_name names other) name ≡ name_number names name
number_stays names other name h = by (list_any (pointwise nat_eq other) names)
  where
    by : (b : Bool) → name_number (cond b names (names ++ other ∷ [])) name ≡ name_number names name
    by true = refl
    by false = kept name names (other ∷ []) h

-- a name of a front is one of the whole
any_front : (name : Text) (names more : List Text) → Has names name → Has (names ++ more) name
any_front name [] more h = absurd (cc)
any_front name (x ∷ names) more h = by (pointwise nat_eq name x) h (any_front name names more)
  where
    by : (b : Bool) → (b || list_any (pointwise nat_eq name) names) ≡ true → (Has names name → Has (names ++ more) name) →
        (b || list_any (pointwise nat_eq name) (names ++ more)) ≡ true
    by true h later = refl
    by false h later = later h

-- the last name is there
any_last : (name : Text) (names : List Text) → Has (names ++ name ∷ []) name
any_last name [] = by (pointwise nat_eq name name) ((bytes_decides name name).1 refl)
  where
    by : (b : Bool) → b ≡ true → (b || false) ≡ true
    by true e = refl
    by false e = absurd (cc)
any_last name (x ∷ names) = by (pointwise nat_eq name x) (any_last name names)
  where
    by : (b : Bool) → Has (names ++ name ∷ []) name → (b || list_any (pointwise nat_eq name) (names ++ name ∷ [])) ≡ true
    by true later = refl
    by false later = later

-- a name that is there stays where another one comes
with_has : (names : List Text) (other name : Text) → Has names name → Has (with_name names other) name
with_has names other name h = by (list_any (pointwise nat_eq other) names)
  where
    by : (b : Bool) → Has (cond b names (names ++ other ∷ [])) name
    by true = h
    by false = any_front name names (other ∷ []) h

-- a name that comes is there
with_itself : (names : List Text) (name : Text) → Has (with_name names name) name
with_itself names name = by (list_any (pointwise nat_eq name) names) refl
  where
    by : (b : Bool) → list_any (pointwise nat_eq name) names ≡ b → Has (cond b names (names ++ name ∷ [])) name
    by true e = e
    by false e = any_last name names

-- the name of a token is there, if it is a word
abbrev pub IsNamed : List Text → Token → Type 0
IsNamed names t = is_word_kind t.kind ≡ true → Has names (name_of t)

-- a name stays behind a token
after_has : (names : List Text) (t : Token) (name : Text) → Has names name → Has (names_after names t) name
after_has names t name h = by (is_word_kind t.kind)
  where
    by : (b : Bool) → Has (cond b (with_name names (name_of t)) names) name
    by true = with_has names (name_of t) name h
    by false = h

-- a token's own name is there behind it
pub after_itself : (names : List Text) (t : Token) → IsNamed (names_after names t) t
after_itself names t word = subst (λ b. Has (cond b (with_name names (name_of t)) names) (name_of t)) (sym word) (with_itself names (name_of t))

-- a name stays behind tokens
behind_has : (ts : List Token) (names : List Text) (name : Text) → Has names name → Has (names_behind names ts) name
behind_has [] names name h = h
behind_has (t ∷ ts) names name h = behind_has ts (names_after names t) name (after_has names t name h)

-- the names of tokens are there behind them
pub each_named : (ts : List Token) (names : List Text) → AllByRecursion (IsNamed (names_behind names ts)) ts
each_named [] names = tt
each_named (t ∷ ts) names =
    ((λ word. behind_has ts (names_after names t) (name_of t) (after_itself names t word)), each_named ts (names_after names t))

-- the names behind tokens and one more
pub behind_last : (ts : List Token) (names : List Text) (t : Token) → names_behind names (ts ++ t ∷ []) ≡ names_after (names_behind names ts) t
behind_last [] names t = refl
behind_last (u ∷ ts) names t = behind_last ts (names_after names u) t

-- a token keeps its number behind another one
token_stays : (names : List Text) (t u : Token) → IsNamed names u → number_among (names_after names t) u ≡ number_among names u
token_stays names t u named = by (is_word_kind u.kind) (is_word_kind t.kind) refl
  where
    by : (b c : Bool) → is_word_kind u.kind ≡ b →
        cond b (name_number (cond c (with_name names (name_of t)) names) (name_of u)) 0 ≡ cond b (name_number names (name_of u)) 0
    by true true e = number_stays names (name_of t) (name_of u) (named e)
    by true false e = refl
    by false c e = refl

-- and behind itself
pub token_once : (names : List Text) (t : Token) → number_among (names_after names t) t ≡ number_among names t
token_once names t = by (is_word_kind t.kind)
  where
    by : (b : Bool) → cond b (name_number (cond b (with_name names (name_of t)) names) (name_of t)) 0 ≡ cond b (name_number names (name_of t)) 0
    by true = number_once names (name_of t)
    by false = refl

-- the numbers of tokens and of one more
pub numbers_grow : (ts : List Token) (t : Token) (names : List Text) (numbers : List ℕ) (word : ℕ) → names ≡ names_in ts →
    numbers ≡ map (number_among names) ts → word ≡ number_among names t →
    numbers ++ word ∷ [] ≡ map (number_among (names_after names t)) (ts ++ t ∷ [])
numbers_grow ts t names numbers word is are number =
    let named = subst (λ ns. AllByRecursion (IsNamed ns) ts) (sym is) (each_named ts []) in
    let stay = each_same (number_among names) (number_among (names_after names t)) ts
    (each_map {Q = λ u. number_among names u ≡ number_among (names_after names t) u} (λ u h. sym (token_stays names t u h)) ts named) in
    (λ i. are i ++ number i ∷ []) ∙
    (λ i. stay i ++ sym (token_once names t) i ∷ []) ∙ sym (map-append (number_among (names_after names t)) ts (t ∷ []))

-- the number of a name that is there tells it
pub number_tells : (names : List Text) (name : Text) → Has names name → name_numbered names (name_number names name) ≡ name
number_tells names name h =
    ap (λ b. name_numbered (cond b names (names ++ name ∷ [])) (name_number names name)) (sym h) ∙ text_here name names

-- and is the number of one of them
pub number_there : (names : List Text) (name : Text) → Has names name → name_number names name < length names
number_there names name h =
    let below = number_below name names in
    subst (λ b. name_number names name < length (cond b names (names ++ name ∷ []))) h below

-- the names and numbers of tokens, with those of one more
pub next_numbered : (ts : List Token) (i : ℕ) (names later : List Text) (numbers : List ℕ) (word : ℕ) → i < length ts →
    AreNumbered (take i ts) names numbers → IsSomeAnd (slice_get ts i) (λ t. later ≡ names_after names t) →
    IsSomeAnd (slice_get ts i) (λ t. word ≡ number_among names t) → AreNumbered (take (i + 1) ts) later (numbers ++ word ∷ [])
next_numbered ts i names later numbers word within so_far grown number = elim ((slice_get_cases ts i).1) [
  | inl there ↦
      let t : Token = there.0 in
      let at : slice_get ts i ≡ Some t = there.2 in
      let later_is : later ≡ names_after names t = subst (λ o. IsSomeAnd o (λ t. later ≡ names_after names t)) at grown in
      let word_is : word ≡ number_among names t = subst (λ o. IsSomeAnd o (λ t. word ≡ number_among names t)) at number in
      let front : take (i + 1) ts ≡ take i ts ++ t ∷ [] = take_next ts i t at in
      record {
        names_are = later_is ∙ (ap (λ ns. names_after ns t) so_far.names_are ∙ (sym (behind_last (take i ts) [] t) ∙ ap names_in (sym front)));
        numbers_are = numbers_grow (take i ts) t names numbers word so_far.names_are so_far.numbers_are word_is ∙
            (λ j. map (number_among (sym later_is j)) (sym front j));
      }
  | inr past ↦ let few = past.0 in absurd (omega arith)
]

-- behind the last token they are those of all
pub all_numbered : (ts : List Token) (i : ℕ) (names : List Text) (numbers : List ℕ) → length ts ≤ i → AreNumbered (take i ts) names numbers →
    AreNumbered ts names numbers
all_numbered ts i names numbers past so_far = subst (λ us. AreNumbered us names numbers) (take_all ts i past) so_far
