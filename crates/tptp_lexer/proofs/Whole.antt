-- Words and numbers as the longest token in front of a rest.
use Rattle.std.proofs.Common.{◌≡◌, ℕ, ◌==◌, Bool, true, false, cond, ◌&&◌, ◌||◌, [], ◌∷◌, ◌++◌, refl, ap, sym, ◌∙◌, Some, None, append_assoc}
use Rattle.std.specs.Prelude.{bytes_eq}
use Rattle.std.specs.List.{list_all}
use Rattle.std.proofs.Math.Bool.{and-false}
use Rattle.std.proofs.lemmas.Bool.{eqb-true}
use Rattle.text_core.specs.Names.{Text, is_lower, is_upper, is_digit, is_word, is_word_from}
use Rattle.text_core.specs.NameTexts.{is_upper_word}
use Rattle.text_core.proofs.Laws.{and_both, not_true}
use Rattle.tptp_lexer.specs.declared.kind.Kind.TheVariants.{Lower, Upper, Integer, Dollar}
use Rattle.tptp_lexer.specs.Kinds.{kind_of, is_natural, is_integer}
use Rattle.tptp_lexer.specs.Tokens.{IsLongest}
use Rattle.tptp_lexer.proofs.Heads.{lower_kind, upper_kind, dollar_kind, digit_kind, zero_kind, plus_kind, minus_kind}
use Rattle.tptp_lexer.proofs.Runs.{stops, broken, stopped_at}
use Rattle.tptp_lexer.proofs.Fronts.{run_longest}

-- a word in lower case
pub lower_longest : (text rest : Text) → is_word_from is_lower text ≡ true → stops is_word rest ≡ true → IsLongest Lower text rest
lower_longest [] rest h stopped = absurd (cc)
lower_longest (b ∷ bs) rest h stopped = let w = and_both (is_lower b) (list_all is_word bs) h in run_longest is_word Lower (b ∷ []) (λ cs. lower_kind b cs w.0) bs rest w.1 stopped

-- a word in upper case
pub upper_longest : (text rest : Text) → is_upper_word text ≡ true → stops is_word rest ≡ true → IsLongest Upper text rest
upper_longest [] rest h stopped = absurd (cc)
upper_longest (b ∷ bs) rest h stopped = let w = and_both (is_upper b) (list_all is_word bs) h in run_longest is_word Upper (b ∷ []) (λ cs. upper_kind b cs w.0) bs rest w.1 stopped

-- a word behind a dollar (36)
pub dollar_longest : (text rest : Text) → is_word_from is_lower text ≡ true → stops is_word rest ≡ true → IsLongest Dollar (36 ∷ text) rest
dollar_longest [] rest h stopped = absurd (cc)
dollar_longest (b ∷ bs) rest h stopped =
    let w = and_both (is_lower b) (list_all is_word bs) h in
    run_longest is_word Dollar (36 ∷ b ∷ []) (λ cs. dollar_kind (b ∷ cs) ∙ ap (λ t. cond (t && list_all is_word cs) (Some Dollar) None) w.0) bs rest w.1 stopped

-- the third of four tests of which none passes
third : (s t u v : Bool) → (s || t || u || v) ≡ false → u ≡ false
third true t u v h = absurd (cc)
third false true u v h = absurd (cc)
third false false true v h = absurd (cc)
third false false false v h = refl

-- a rest that does not go on with a word does not go on with digits
stops_digits : (rest : Text) → stops is_word rest ≡ true → stops is_digit rest ≡ true
stops_digits [] stopped = refl
stops_digits (c ∷ cs) stopped = rw (third (is_lower c) (is_upper c) (is_digit c) (c == 95) (not_true (is_word c) stopped))

-- bytes with one more behind them are some
some_more : (bs : Text) (c : ℕ) (cs : Text) → bytes_eq (bs ++ c ∷ cs) [] ≡ false
some_more [] c cs = refl
some_more (b ∷ bs) c cs = refl

-- a number is none with more bytes of the rest
number_ends : (x rest : Text) (c : ℕ) (more after : Text) → stops is_digit rest ≡ true → rest ≡ c ∷ more ++ after → is_natural x ≡ true → is_natural (x ++ c ∷ more) ≡ false
number_ends [] rest c more after stopped e h = absurd (cc)
number_ends (b ∷ bs) rest c more after stopped e h = go (b == 48)
  where
    go : (t : Bool) → cond t (bytes_eq (bs ++ c ∷ more) []) (is_digit b && list_all is_digit (bs ++ c ∷ more)) ≡ false
    go true = some_more bs c more
    go false = ap (λ t. is_digit b && t) (broken is_digit bs c more (stopped_at is_digit rest c (more ++ after) e stopped)) ∙ and-false (is_digit b)

-- a natural number begins with a digit
number_begins : (b : ℕ) (bs : Text) → is_natural (b ∷ bs) ≡ true → is_digit b ≡ true
number_begins b bs h = go (b == 48) refl h
  where
    go : (t : Bool) → (b == 48) ≡ t → cond t (bytes_eq bs []) (is_digit b && list_all is_digit bs) ≡ true → is_digit b ≡ true
    go true e h = ap is_digit (eqb-true b 48 e)
    go false e h = (and_both (is_digit b) (list_all is_digit bs) h).0

-- what begins with a digit
number_kind : (b : ℕ) → is_digit b ≡ true → (cs : Text) → kind_of (b ∷ cs) ≡ cond (is_natural (b ∷ cs)) (Some Integer) None
number_kind b d cs = go (b == 48) refl
  where
    go : (t : Bool) → (b == 48) ≡ t → kind_of (b ∷ cs) ≡ cond (cond t (bytes_eq cs []) (is_digit b && list_all is_digit cs)) (Some Integer) None
    go true e = ap (λ c. kind_of (c ∷ cs)) (eqb-true b 48 e) ∙ zero_kind cs
    go false e = digit_kind b cs d e ∙ ap (λ t. cond (t && list_all is_digit cs) (Some Integer) None) (sym d)

-- what a number makes a token of, with what may be before it
module _ (head lead : Text) (test : (cs : Text) → kind_of (head ++ cs) ≡ cond (is_natural (lead ++ cs)) (Some Integer) None) where
  -- a natural number is the longest token in front of a rest that does not go on with digits
  number_longest : (bs rest : Text) → is_natural (lead ++ bs) ≡ true → stops is_digit rest ≡ true → IsLongest Integer (head ++ bs) rest
  number_longest bs rest h may = record {
    token = test bs ∙ rw h;
    longest = λ c more after e. rw append_assoc (test (bs ++ c ∷ more) ∙ rw (← append_assoc lead bs (c ∷ more), number_ends (lead ++ bs) rest c more after may e h));
  }

-- an integer
pub integer_longest : (text rest : Text) → is_integer text ≡ true → stops is_word rest ≡ true → IsLongest Integer text rest
integer_longest [] rest h stopped = absurd (cc)
integer_longest (b ∷ bs) rest h stopped = go (stops_digits rest stopped) (b == 43) refl (b == 45) refl h
  where
    go : stops is_digit rest ≡ true → (s : Bool) → (b == 43) ≡ s → (t : Bool) → (b == 45) ≡ t → cond (s || t) (is_natural bs) (is_natural (b ∷ bs)) ≡ true → IsLongest Integer (b ∷ bs) rest
    go ends true e t f h = rw (eqb-true b 43 e) (number_longest (43 ∷ []) [] plus_kind bs rest h ends)
    go ends false e true f h = rw (eqb-true b 45 f) (number_longest (45 ∷ []) [] minus_kind bs rest h ends)
    go ends false e false f h = number_longest (b ∷ []) (b ∷ []) (number_kind b (number_begins b bs h)) bs rest h ends
