-- The numbers of upper words from token to token, and that a number tells its word.
use Rattle.std.proofs.Common.{◌≡◌, ℕ, zero, suc, ◌+◌, ◌<◌, ◌≤◌, Bool, true, false, cond, not, List, [], ◌∷◌, length, take, slice_get, position, Option, Some, None, is_some, unwrap_or, refl, sym, ap, ◌∙◌, inl, inr, arith}
use Rattle.std.proofs.lemmas.Bool.Decides.{nat_tests}
use Rattle.std.proofs.lemmas.List.{length-append, length-take-le}
use Rattle.std.proofs.lemmas.List.Folds.{position_or_len_push}
use Rattle.std.proofs.lemmas.List.Sums.{prefix_len-le-length}
use Rattle.std.proofs.lemmas.Option.{none-some, same_Some, slice_get_within}
use Rattle.std.proofs.lemmas.Slice.Eq.{bytes_eq-Decides}
use Rattle.std.specs.Cmp.Lexicographic.{bytes_decides, nat_list_eq_equiv}
use Rattle.std.specs.List.{position_or_len}
use Rattle.std.specs.Prelude.{IsSomeAnd}
use Rattle.std.specs.Str.{bytes_eq}
use Rattle.text_core.specs.Lists.{IsAmong}
use Rattle.text_core.specs.Names.{Text}
use Rattle.text_core.proofs.Laws.{take_next}
use Rattle.tptp_lexer.specs.declared.kind.Kind.{Kind}
use Rattle.tptp_lexer.specs.declared.kind.Kind.TheVariants.{Upper}
use Rattle.tptp_lexer.specs.Kinds.{kind_of}
use Rattle.tptp_lexer.specs.Numbering.{number_of, AreNumbers}
use Rattle.tptp_lexer.specs.Tokens.{Token, Reads, stop, blank, comment, token, IsEnd, AreTokens}
use Rattle.tptp_lexer.proofs.Heads.{empty_kind}

-- the first element that passes is among those up to one that passes
position_or_len_front : {X : Type 0} (p : X → Bool) (xs : List X) (n : ℕ) (x : X) → slice_get xs n ≡ Some x → p x ≡ true →
    position_or_len p (take n xs) ≡ position_or_len p xs
position_or_len_front p [] n x h passes = absurd (none-some _ h)
position_or_len_front p (y ∷ xs) zero x h passes = let same = same_Some _ _ h in let passed : p y ≡ true = ap p same ∙ passes in grind arith
position_or_len_front p (y ∷ xs) (suc n) x h passes = ap (λ m. cond (not (p y)) (1 + m) 0) (position_or_len_front p xs n x h passes)

-- the first number, where an element passes
position_is : {X : Type 0} (p : X → Bool) (xs : List X) (n : ℕ) (x : X) → slice_get xs n ≡ Some x → p x ≡ true →
    unwrap_or (position p xs) 0 ≡ position_or_len p xs
position_is p xs n x h passes =
    let within = slice_get_within xs n x h in
    let long : length (take n xs) ≡ n = length-take-le n xs (omega arith) in
    let most = prefix_len-le-length (λ y. not (p y)) (take n xs) in
    let front = position_or_len_front p xs n x h passes in
    grind (arith, nat_tests)

-- the first number among one element more
one_more : {X : Type 0} (p : X → Bool) (xs : List X) (n : ℕ) (x : X) → slice_get xs n ≡ Some x → position p (take (n + 1) xs)
    ≡ cond (is_some (position p (take n xs))) (position p (take n xs)) (cond (p x) (Some n) None)
one_more p xs n x h =
    let within = slice_get_within xs n x h in
    let long : length (take n xs) ≡ n = length-take-le n xs (omega arith) in
    let most = prefix_len-le-length (λ y. not (p y)) (take n xs) in
    let push = position_or_len_push p (take n xs) x in
    rw (take_next xs n x h) (grind (arith, nat_tests, length-append))

-- it stays where that one does not pass
stays : {X : Type 0} (p : X → Bool) (xs : List X) (n : ℕ) (x : X) → slice_get xs n ≡ Some x → p x ≡ false →
    position p (take (n + 1) xs) ≡ position p (take n xs)
stays p xs n x h fails = let o = position p (take n xs) in
    one_more p xs n x h ∙ ap (λ b. cond (is_some o) o (cond b (Some n) None)) fails ∙ or_none o
  where
    or_none : (o : Option ℕ) → cond (is_some o) o None ≡ o
    or_none None = refl
    or_none (Some m) = refl

-- and is there where it passes
comes : {X : Type 0} (p : X → Bool) (xs : List X) (n : ℕ) (x : X) → slice_get xs n ≡ Some x → p x ≡ true →
    position p (take (n + 1) xs) ≡ Some (unwrap_or (position p (take n xs)) n)
comes p xs n x h passes = let o = position p (take n xs) in
    one_more p xs n x h ∙ ap (λ b. cond (is_some o) o (cond b (Some n) None)) passes ∙ or_this o
  where
    or_this : (o : Option ℕ) → cond (is_some o) o (Some n) ≡ Some (unwrap_or o n)
    or_this None = refl
    or_this (Some m) = refl

-- whether a token's text is the word
abbrev spells : Text → Token → Bool
spells word t = bytes_eq t.text word

module _ (ts : List Token) (n : ℕ) (t : Token) (kind : Kind) (text : Text) (there : slice_get ts n ≡ Some t) (k : kind ≡ t.kind)
    (x : text ≡ t.text) (its : kind_of t.text ≡ Some t.kind) where
  -- the token there is a word or is not
  spells_there : (word : Text) (b : Bool) → bytes_eq text word ≡ b → spells word t ≡ b
  spells_there word b e = ap (λ bs. bytes_eq bs word) (sym x) ∙ e

  -- a word that is this text has the kind
  kind_there : (word : Text) → bytes_eq text word ≡ true → kind_of word ≡ Some kind
  kind_there word e = ap kind_of (sym ((bytes_decides text word).0 e) ∙ x) ∙ its ∙ ap Some (sym k)

  -- an upper word has its number
  pub word_numbered : (number : Text → Option ℕ) → IsSomeAnd (slice_get ts n) (λ t. t.kind ≡ Upper) → AreNumbers ts number →
      (given : ℕ) → given ≡ unwrap_or (number text) 0 → IsSomeAnd (slice_get ts n) (λ t. given ≡ number_of ts t.text)
  word_numbered number wanted are given is =
      let upper : t.kind ≡ Upper = rw there at wanted in
      rw there
      (is ∙ (ap (λ bs. unwrap_or (number bs) 0) x ∙ (ap (λ o. unwrap_or o 0) (are t.text (its ∙ ap Some upper)) ∙
      position_is (spells t.text) ts n t there (nat_list_eq_equiv.refl t.text))))

  -- the numbers stay at a token of another kind
  pub numbers_stay : (number : Text → Option ℕ) → (kind ≡ Upper → ⊥) →
      AreNumbers (take n ts) number → AreNumbers (take (n + 1) ts) number
  numbers_stay number other before word upper = by (bytes_eq text word) refl
    where
      by : (b : Bool) → bytes_eq text word ≡ b → number word ≡ position (spells word) (take (n + 1) ts)
      by true e = absurd (other (same_Some _ _ (sym (kind_there word e) ∙ upper)))
      by false e = before word upper ∙ sym (stays (spells word) ts n t there (spells_there word false e))

  -- the numbers with one upper word more
  pub numbers_grow : (number later : Text → Option ℕ) → AreNumbers (take n ts) number → (given : ℕ) →
      given ≡ unwrap_or (number text) n →
      ((word : Text) → later word ≡ cond (bytes_eq text word) (Some given) (number word)) → AreNumbers (take (n + 1) ts) later
  numbers_grow number later before given is noted word upper = by (bytes_eq text word) refl
    where
      at_word : (b : Bool) → bytes_eq text word ≡ b → later word ≡ cond b (Some given) (number word)
      at_word b e = noted word ∙ ap (λ c. cond c (Some given) (number word)) e

      by : (b : Bool) → bytes_eq text word ≡ b → later word ≡ position (spells word) (take (n + 1) ts)
      by true e =
          let same = (bytes_decides text word).0 e in
          at_word true e ∙ ap Some (is ∙ ap (λ o. unwrap_or o n) (ap number same ∙ before word upper))
          ∙ sym (comes (spells word) ts n t there (spells_there word true e))
      by false e = at_word false e ∙ before word upper ∙ sym (stays (spells word) ts n t there (spells_there word false e))

module _ (t u : Token) (ts : List Token) (x : Text) where
  -- what the tests of the first token tell
  told : (a b : Bool) → bytes_eq u.text t.text ≡ a → bytes_eq u.text x ≡ b →
      (IsAmong t ts → number_of ts t.text ≡ number_of ts x → t.text ≡ x) → IsAmong t (u ∷ ts) →
      cond (not a) (1 + number_of ts t.text) 0 ≡ cond (not b) (1 + number_of ts x) 0 → t.text ≡ x
  told true true d e later among same = sym ((bytes_eq-Decides u.text t.text).0 d) ∙ (bytes_eq-Decides u.text x).0 e
  told true false d e later among same = absurd (omega arith)
  told false true d e later among same = absurd (omega arith)
  told false false d e later (inl here) same =
      let true_too = (bytes_eq-Decides u.text t.text).1 (ap (λ (v : Token). v.text) here) in absurd (cc)
  told false false d e later (inr among) same = later among (omega arith)

-- the number of a word among tokens tells the word, where a token is this word
pub number_of_same : (ts : List Token) (t : Token) (x : Text) → IsAmong t ts → number_of ts t.text ≡ number_of ts x → t.text ≡ x
number_of_same [] t x among same = absurd among
number_of_same (u ∷ ts) t x among same =
    told t u ts x (bytes_eq u.text t.text) (bytes_eq u.text x) refl refl (number_of_same ts t x) among same

-- a token has a byte
has_byte : (kind : Kind) (text : Text) → kind_of text ≡ Some kind → 0 < length text
has_byte kind [] is = absurd (none-some kind (sym empty_kind ∙ is))
has_byte kind (b ∷ text) is = omega arith

-- a source has no more tokens than bytes
few_from : (left : ℕ → Text → Type 0) (at : ℕ) (bytes : Text) (ts : List Token) → Reads left at bytes ts →
    length ts ≤ length bytes
few_from left at bytes _ (stop h) = omega arith
few_from left at _ ts (blank {rest = rest} h r) = let few = few_from left (at + 1) rest ts r in omega arith
few_from left at bytes ts (comment text rest s c r) =
    let few = few_from left (at + length text) rest ts r in let whole = ap length s ∙ length-append text rest in omega arith
few_from left at bytes _ (token {ts = ts} kind text rest s l r) =
    let few = few_from left (at + length text) rest ts r in
    let whole = ap length s ∙ length-append text rest in
    let some = has_byte kind text l.token in omega arith

-- tokens of a source are no more than its bytes
pub few_tokens : (bytes : Text) (ts : List Token) → AreTokens bytes ts → length ts ≤ length bytes
few_tokens bytes ts r = few_from IsEnd 0 bytes ts r
