-- The kind of a text by its first byte.
use Rattle.std.proofs.Common.{◌≡◌, ℕ, ◌==◌, true, false, cond, List, [], ◌∷◌, drop, refl, ap, Some, None, arith}
use Rattle.std.specs.Prelude.{bytes_eq}
use Rattle.std.specs.List.{list_all}
use Rattle.std.proofs.lemmas.Bool.Decides.{nat_tests}
use Rattle.text_core.specs.Names.{Text}
use Rattle.tptp_lexer.specs.declared.kind.Kind.TheVariants.{Lower, Upper, Quoted, Distinct, Integer, Dollar}
use Rattle.tptp_lexer.specs.Kinds.{kind_of, kind_among, kinds, is_lower, is_upper, is_digit, is_word, is_natural, is_quoted, is_quoted_word, is_word_from}
use Rattle.tptp_lexer.specs.Tokens.{is_blank}
use Rattle.tptp_lexer.proofs.Apart.{Apart, apart, number_other}

-- the bytes that begin a sign or a word behind a dollar
abbrev pub signs_and_dollar : List ℕ
signs_and_dollar = 36 ∷ 40 ∷ 41 ∷ 91 ∷ 93 ∷ 44 ∷ 46 ∷ 58 ∷ 33 ∷ 63 ∷ 126 ∷ 38 ∷ 124 ∷ 61 ∷ 60 ∷ []

-- the quotes, the plus and the minus
abbrev pub quotes_plus_minus : List ℕ
quotes_plus_minus = 39 ∷ 34 ∷ 43 ∷ 45 ∷ []

-- another byte begins neither a sign nor a word behind a dollar
pub no_sign : (b : ℕ) (bs : Text) → Apart b signs_and_dollar → kind_among (drop 5 kinds) (b ∷ bs) ≡ None
no_sign b bs a = simp (a.0, a.1.0, a.1.1.0, a.1.1.1.0, a.1.1.1.1.0, a.1.1.1.1.1.0, a.1.1.1.1.1.1.0, a.1.1.1.1.1.1.1.0, a.1.1.1.1.1.1.1.1.0, a.1.1.1.1.1.1.1.1.1.0, a.1.1.1.1.1.1.1.1.1.1.0, a.1.1.1.1.1.1.1.1.1.1.1.0, a.1.1.1.1.1.1.1.1.1.1.1.1.0, a.1.1.1.1.1.1.1.1.1.1.1.1.1.0, a.1.1.1.1.1.1.1.1.1.1.1.1.1.1.0)

-- another byte begins no token but a word
pub no_head : (b : ℕ) (bs : Text) → Apart b quotes_plus_minus → is_digit b ≡ false → Apart b signs_and_dollar → kind_among (drop 2 kinds) (b ∷ bs) ≡ None
no_head b bs a d m = simp (a.0, a.1.0, a.1.1.0, a.1.1.1.0, zero, d, no_sign b bs m)
  where
    zero : (b == 48) ≡ false
    zero = number_other b 48 (λ e. absurd (cc (ap is_digit e)))

-- what begins with a to z
pub lower_kind : (b : ℕ) (bs : Text) → is_lower b ≡ true → kind_of (b ∷ bs) ≡ cond (list_all is_word bs) (Some Lower) None
unfolding kind_of
lower_kind b bs h = rw (h, upper, no_head b bs (apart is_lower b quotes_plus_minus h refl) digit (apart is_lower b signs_and_dollar h refl)) refl
  where
    upper : is_upper b ≡ false
    upper = grind (arith, nat_tests)

    digit : is_digit b ≡ false
    digit = grind (arith, nat_tests)

-- what begins with A to Z
pub upper_kind : (b : ℕ) (bs : Text) → is_upper b ≡ true → kind_of (b ∷ bs) ≡ cond (list_all is_word bs) (Some Upper) None
unfolding kind_of
upper_kind b bs h = rw (h, lower, no_head b bs (apart is_upper b quotes_plus_minus h refl) digit (apart is_upper b signs_and_dollar h refl)) refl
  where
    lower : is_lower b ≡ false
    lower = grind (arith, nat_tests)

    digit : is_digit b ≡ false
    digit = grind (arith, nat_tests)

-- what begins with 1 to 9
pub digit_kind : (b : ℕ) (bs : Text) → is_digit b ≡ true → (b == 48) ≡ false → kind_of (b ∷ bs) ≡ cond (list_all is_digit bs) (Some Integer) None
unfolding kind_of
digit_kind b bs h z = simp (lower, upper, a.0, a.1.0, a.1.1.0, a.1.1.1.0, z, h, no_sign b bs (apart is_digit b signs_and_dollar h refl))
  where
    lower : is_lower b ≡ false
    lower = grind (arith, nat_tests)

    upper : is_upper b ≡ false
    upper = grind (arith, nat_tests)

    a : Apart b quotes_plus_minus
    a = apart is_digit b quotes_plus_minus h refl

-- what begins with 0
pub zero_kind : (bs : Text) → kind_of (48 ∷ bs) ≡ cond (bytes_eq bs []) (Some Integer) None
unfolding kind_of
zero_kind bs = refl

-- what begins with a plus
pub plus_kind : (bs : Text) → kind_of (43 ∷ bs) ≡ cond (is_natural bs) (Some Integer) None
unfolding kind_of
plus_kind bs = refl

-- what begins with a minus
pub minus_kind : (bs : Text) → kind_of (45 ∷ bs) ≡ cond (is_natural bs) (Some Integer) None
unfolding kind_of
minus_kind bs = refl

-- what begins with a single quote
pub single_kind : (bs : Text) → kind_of (39 ∷ bs) ≡ cond (is_quoted_word (39 ∷ bs)) (Some Quoted) None
unfolding kind_of
single_kind bs = refl

-- what begins with a double quote
pub double_kind : (bs : Text) → kind_of (34 ∷ bs) ≡ cond (is_quoted 34 (34 ∷ bs)) (Some Distinct) None
unfolding kind_of
double_kind bs = refl

-- what begins with a dollar
pub dollar_kind : (bs : Text) → kind_of (36 ∷ bs) ≡ cond (is_word_from is_lower bs) (Some Dollar) None
unfolding kind_of
dollar_kind bs = refl

-- no bytes are no token
pub empty_kind : kind_of [] ≡ None
unfolding kind_of
empty_kind = refl

-- what begins with `/` is no token
pub slash_kind : (bs : Text) → kind_of (47 ∷ bs) ≡ None
unfolding kind_of
slash_kind bs = refl

-- what begins with `%` is no token
pub percent_kind : (bs : Text) → kind_of (37 ∷ bs) ≡ None
unfolding kind_of
percent_kind bs = refl

-- what begins with none of these is no token
pub other_kind : (b : ℕ) (bs : Text) → is_lower b ≡ false → is_upper b ≡ false → Apart b quotes_plus_minus → is_digit b ≡ false → Apart b signs_and_dollar → kind_of (b ∷ bs) ≡ None
unfolding kind_of
other_kind b bs l u a d m = rw (l, u, no_head b bs a d m) refl

-- what begins with a blank is no token
pub blank_kind : (b : ℕ) (bs : Text) → is_blank b ≡ true → kind_of (b ∷ bs) ≡ None
blank_kind b bs h = other_kind b bs lower upper (apart is_blank b quotes_plus_minus h refl) digit (apart is_blank b signs_and_dollar h refl)
  where
    lower : is_lower b ≡ false
    lower = grind (arith, nat_tests)

    upper : is_upper b ≡ false
    upper = grind (arith, nat_tests)

    digit : is_digit b ≡ false
    digit = grind (arith, nat_tests)
