-- What a token names is a name.
use Rattle.std.proofs.Common.{◌≡◌, ◌≢◌, ℕ, ◌+◌, ◌-◌, ◌==◌, ◌<◌, ◌≤◌, ◌⊎◌, inl, inr, Bool, true, false, not, cond, ◌&&◌, ◌||◌, List, [], ◌∷◌, ◌++◌, length, drop, get_or, refl, ap, sym, ◌∙◌, subst, arith, Some, length-drop, length-append, append_assoc, take}
use Rattle.std.specs.Prelude.{bytes_eq, nat_lt, nat_eq, IsTrue}
use Rattle.std.specs.List.{list_all, list_any}
use Rattle.std.proofs.lemmas.Bool.{eqb-true, eq-eqb, cond_both}
use borrow.Author.Tests.{ltb-true, lt-ltb}
use Rattle.std.proofs.lemmas.Bool.Decides.{nat_tests}
use Rattle.std.proofs.lemmas.List.{drop_more}
use Rattle.std.proofs.lemmas.Slice.Eq.{bytes_eq-Decides}
use Rattle.text_core.specs.Names.{Text}
use Rattle.text_core.specs.NameTexts.{IsPrintable, IsNameText}
use Rattle.text_core.proofs.Laws.{and_both, or_neither, name_printable}
use Rattle.tptp_lexer.specs.declared.kind.Kind.{Kind}
use Rattle.tptp_lexer.specs.declared.kind.Kind.TheVariants.{Quoted}
use Rattle.tptp_lexer.specs.Kinds.{kind_of, kind_among, kinds, is_lower, is_upper, is_digit, is_word, is_word_from, is_natural, is_integer, is_quoted, is_quoted_word, is_body, is_escapable, is_printable, inside}
use Rattle.tptp_lexer.specs.Tokens.{unescaped}
use Rattle.tptp_lexer.specs.Columns.{is_name}
use Rattle.tptp_lexer.specs.Scanning.{shown_at}
use Rattle.tptp_lexer.proofs.Bodies.{Plain, plain, first_of_body}
use Rattle.tptp_lexer.proofs.Quoted.{quoted_shape}

-- letters, digits and low lines are printable
pub word_printable : (bs : Text) → list_all is_word bs ≡ true → IsPrintable bs
word_printable [] h = tt
word_printable (b ∷ bs) h = let w = (and_both (is_word b) (list_all is_word bs) h).0 in (low b w, high b w, word_printable bs (and_both (is_word b) (list_all is_word bs) h).1)
  where
    low : (b : ℕ) → is_word b ≡ true → 32 ≤ b
    low b h = grind (arith, nat_tests)

    high : (b : ℕ) → is_word b ≡ true → b ≤ 126
    high b h = grind (arith, nat_tests)

-- digits are printable
digits_printable : (bs : Text) → list_all is_digit bs ≡ true → IsPrintable bs
digits_printable [] h = tt
digits_printable (b ∷ bs) h = let w = (and_both (is_digit b) (list_all is_digit bs) h).0 in (low b w, high b w, digits_printable bs (and_both (is_digit b) (list_all is_digit bs) h).1)
  where
    low : (b : ℕ) → is_digit b ≡ true → 32 ≤ b
    low b h = grind (arith, nat_tests)

    high : (b : ℕ) → is_digit b ≡ true → b ≤ 126
    high b h = grind (arith, nat_tests)

-- a printable byte and printable bytes are a name
printable_from : (b : ℕ) (bs : Text) → 32 ≤ b → b ≤ 126 → IsPrintable bs → IsNameText (b ∷ bs)
printable_from b bs l h r = (l, h, r)

-- a word in lower case is a name
lower_name : (text : Text) → is_word_from is_lower text ≡ true → IsNameText text
lower_name [] h = absurd (cc)
lower_name (b ∷ bs) h = printable_from b bs (low b w) (high b w) (word_printable bs (and_both (is_lower b) (list_all is_word bs) h).1)
  where
    w : is_lower b ≡ true
    w = (and_both (is_lower b) (list_all is_word bs) h).0

    low : (b : ℕ) → is_lower b ≡ true → 32 ≤ b
    low b h = grind (arith, nat_tests)

    high : (b : ℕ) → is_lower b ≡ true → b ≤ 126
    high b h = grind (arith, nat_tests)

-- a word in upper case is a name
upper_name : (text : Text) → is_word_from is_upper text ≡ true → IsNameText text
upper_name [] h = absurd (cc)
upper_name (b ∷ bs) h = printable_from b bs (low b w) (high b w) (word_printable bs (and_both (is_upper b) (list_all is_word bs) h).1)
  where
    w : is_upper b ≡ true
    w = (and_both (is_upper b) (list_all is_word bs) h).0

    low : (b : ℕ) → is_upper b ≡ true → 32 ≤ b
    low b h = grind (arith, nat_tests)

    high : (b : ℕ) → is_upper b ≡ true → b ≤ 126
    high b h = grind (arith, nat_tests)

-- a natural number is a name
natural_name : (text : Text) → is_natural text ≡ true → IsNameText text
natural_name [] h = absurd (cc)
natural_name (b ∷ bs) h = go (b == 48) refl h
  where
    low : (b : ℕ) → is_digit b ≡ true → 32 ≤ b
    low b h = grind (arith, nat_tests)

    high : (b : ℕ) → is_digit b ≡ true → b ≤ 126
    high b h = grind (arith, nat_tests)

    go : (t : Bool) → (b == 48) ≡ t → cond t (bytes_eq bs []) (is_digit b && list_all is_digit bs) ≡ true → IsNameText (b ∷ bs)
    go true e h = let zero = eqb-true b 48 e in printable_from b bs (omega arith) (omega arith) (subst IsPrintable (sym ((bytes_eq-Decides bs []).0 h)) tt)
    go false e h = let d = (and_both (is_digit b) (list_all is_digit bs) h).0 in printable_from b bs (low b d) (high b d) (digits_printable bs (and_both (is_digit b) (list_all is_digit bs) h).1)

-- an integer is a name
integer_name : (text : Text) → is_integer text ≡ true → IsNameText text
integer_name [] h = absurd (cc)
integer_name (b ∷ bs) h = go (b == 43) refl (b == 45) refl h
  where
    go : (s : Bool) → (b == 43) ≡ s → (t : Bool) → (b == 45) ≡ t → cond (s || t) (is_natural bs) (is_natural (b ∷ bs)) ≡ true → IsNameText (b ∷ bs)
    go true e t f h = let p = eqb-true b 43 e in printable_from b bs (omega arith) (omega arith) (name_printable bs (natural_name bs h))
    go false e true f h = let p = eqb-true b 45 f in printable_from b bs (omega arith) (omega arith) (name_printable bs (natural_name bs h))
    go false e false f h = natural_name (b ∷ bs) h

-- what is between the quotes of a quoted word
pub record QuotedText (text : Text) : Type 0 where
  pub shape : text ≡ 39 ∷ inside text ++ 39 ∷ []
  pub body : is_body 39 (inside text) ≡ true
  pub some : inside text ≢ []

-- a quoted word has such a text
quoted_text : (text : Text) → is_quoted_word text ≡ true → QuotedText text
quoted_text text h = record {
  shape = (quoted_shape 39 text (and_both (is_quoted 39 text) (not (bytes_eq (inside text) [])) h).0).0;
  body = (quoted_shape 39 text (and_both (is_quoted 39 text) (not (bytes_eq (inside text) [])) h).0).1;
  some = λ e. filled (inside text) (and_both (is_quoted 39 text) (not (bytes_eq (inside text) [])) h).1 e;
}
  where
    filled : (xs : Text) → not (bytes_eq xs []) ≡ true → xs ≡ [] → ⊥
    filled [] h e = absurd (cc)
    filled (x ∷ xs) h e = absurd (cc)

-- what makes a text of a kind a name
abbrev pub NameFacts : Kind → Text → Type 0
NameFacts Quoted text = QuotedText text
NameFacts _ text = IsNameText text

-- what holds by each row of a table holds of the kind that it tells
module _ (Q : Kind → Text → Type 0) (text : Text) where
  -- a property of each kind holds of the texts of its row
  abbrev pub ByRow : List (Kind × (Text → Bool)) → Type 0
  ByRow [] = Unit {0}
  ByRow (k ∷ ks) = (k.1 text ≡ true → Q k.0 text) × ByRow ks

  -- so it is with the kind that a table tells
  by_row : (ks : List (Kind × (Text → Bool))) (kind : Kind) → ByRow ks → kind_among ks text ≡ Some kind → Q kind text
  by_row [] kind rows h = absurd (cc)
  by_row (k ∷ ks) kind rows h = go (k.1 text) refl h (by_row ks kind rows.1)
    where
      go : (t : Bool) → k.1 text ≡ t → cond t (Some k.0) (kind_among ks text) ≡ Some kind → (kind_among ks text ≡ Some kind → Q kind text) → Q kind text
      go true e h rest = let same : k.0 ≡ kind = cc in subst (λ x. Q x text) same (rows.0 e)
      go false e h rest = rest h

-- a text of a kind that names something has what makes it a name
Named : Kind → Text → Type 0
Named kind text = is_name kind ≡ true → NameFacts kind text

-- a token that names something has what makes it a name
pub name_facts : (kind : Kind) (text : Text) → kind_of text ≡ Some kind → is_name kind ≡ true → NameFacts kind text
unfolding kind_of Named
name_facts kind text = by_row Named text kinds kind
    (λ h n. lower_name text h, (λ h n. upper_name text h, (λ h n. quoted_text text h, (λ h n. absurd (cc), (λ h n. integer_name text h, (λ h n. absurd (cc), (none, (none, (none, (none, (none, (none, (none, (none, (none, (none, (none, (none, (none, (none, (none, (none, (none, (none, (none, (none, tt))))))))))))))))))))))))))
  where
    none : {A B : Type 0} → A → false ≡ true → B
    none h n = absurd (cc)

-- escapes

-- a byte that is no backslash, or the last, stands for itself
own_first : (b : ℕ) (rest : Text) → (0 < length rest → (b == 92) ≡ false) → unescaped (b ∷ rest) ≡ b ∷ unescaped rest
own_first b [] h = refl
own_first b (c ∷ cs) h = rw (h (omega arith))

-- of two tests that do not both pass the first fails where the second passes
alone : (s t : Bool) → (s && t) ≡ false → t ≡ true → s ≡ false
alone true t h g = absurd (cc)
alone false t h g = refl

-- the bytes from an offset on stand for the byte that is shown there and for what those behind it stand for
pub shown_step : (body : Text) (at : ℕ) → at < length body → unescaped (drop at body) ≡ get_or body (shown_at body at) 0 ∷ unescaped (drop (shown_at body at + 1) body)
shown_step body at below = ap unescaped front ∙ cond_both (get_or body at 0 == 92 && nat_lt (at + 1) (length body)) (at + 1) at (λ k. unescaped (get_or body at 0 ∷ drop (at + 1) body) ≡ get_or body k 0 ∷ unescaped (drop (k + 1) body)) escape own
  where
    front : drop at body ≡ get_or body at 0 ∷ drop (at + 1) body
    front = drop_more body at 0 below

    escape : (get_or body at 0 == 92 && nat_lt (at + 1) (length body)) ≡ true → unescaped (get_or body at 0 ∷ drop (at + 1) body) ≡ get_or body (at + 1) 0 ∷ unescaped (drop (at + 1 + 1) body)
    escape e =
        let more : at + 1 < length body = ltb-true (at + 1) (length body) (and_both (get_or body at 0 == 92) (nat_lt (at + 1) (length body)) e).1 in
        rw (drop_more body (at + 1) 0 more, (and_both (get_or body at 0 == 92) (nat_lt (at + 1) (length body)) e).0) refl

    own : (get_or body at 0 == 92 && nat_lt (at + 1) (length body)) ≡ false → unescaped (get_or body at 0 ∷ drop (at + 1) body) ≡ get_or body at 0 ∷ unescaped (drop (at + 1) body)
    own e = own_first (get_or body at 0) (drop (at + 1) body) (λ more. alone (get_or body at 0 == 92) (nat_lt (at + 1) (length body)) e (lt-ltb (at + 1) (length body) (omega (arith, length-drop (at + 1) body))))

-- one more byte that is shown
pub shown_kept : (body bytes new : Text) (at shown : ℕ) → bytes ++ unescaped (drop at body) ≡ unescaped body → at < length body → shown ≡ shown_at body at → new ≡ bytes ++ get_or body shown 0 ∷ [] → new ++ unescaped (drop (shown + 1) body) ≡ unescaped body
shown_kept body bytes new at shown so_far below s n =
    ap (λ (xs : Text). xs ++ unescaped (drop (shown + 1) body)) n ∙ append_assoc bytes (get_or body shown 0 ∷ []) (unescaped (drop (shown + 1) body)) ∙ ap (λ k. bytes ++ get_or body k 0 ∷ unescaped (drop (k + 1) body)) s ∙ ap (λ (xs : Text). bytes ++ xs) (sym (shown_step body at below)) ∙ so_far

-- one more printable byte
printable_cons : (b : ℕ) (bs : Text) → is_printable b ≡ true → IsPrintable bs → IsPrintable (b ∷ bs)
printable_cons b bs h r = (low b h, high b h, r)
  where
    low : (b : ℕ) → is_printable b ≡ true → 32 ≤ b
    low b h = grind (arith, nat_tests)

    high : (b : ℕ) → is_printable b ≡ true → b ≤ 126
    high b h = grind (arith, nat_tests)

-- what may follow a backslash is printable
escapable_printable : (c : ℕ) → is_escapable 39 c ≡ true → is_printable c ≡ true
escapable_printable c h = go (c == 92) refl h
  where
    go : (t : Bool) → (c == 92) ≡ t → (t || c == 39) ≡ true → is_printable c ≡ true
    go true e h = ap is_printable (eqb-true c 92 e)
    go false e h = ap is_printable (eqb-true c 39 h)

-- what a body stands for is printable
pub body_printable : (body : Text) → is_body 39 body ≡ true → IsPrintable (unescaped body)
body_printable [] h = tt
body_printable (b ∷ []) h = printable_cons b [] (plain 39 b h).printable tt
body_printable (b ∷ c ∷ cs) h = go (first_of_body 39 b c cs h) (body_printable cs) (body_printable (c ∷ cs))
  where
    go : ((b ≡ 92) × (is_escapable 39 c ≡ true) × (is_body 39 cs ≡ true)) ⊎ (Plain 39 b × (is_body 39 (c ∷ cs) ≡ true)) → (is_body 39 cs ≡ true → IsPrintable (unescaped cs)) → (is_body 39 (c ∷ cs) ≡ true → IsPrintable (unescaped (c ∷ cs))) → IsPrintable (unescaped (b ∷ c ∷ cs))
    go (inl e) shorter short = subst (λ t. IsPrintable (cond t (c ∷ unescaped cs) (b ∷ unescaped (c ∷ cs)))) (sym (eq-eqb b 92 e.0)) (printable_cons c (unescaped cs) (escapable_printable c e.1) (shorter e.2))
    go (inr p) shorter short = subst (λ t. IsPrintable (cond t (c ∷ unescaped cs) (b ∷ unescaped (c ∷ cs)))) (sym (p.0).unescaped) (printable_cons b (unescaped (c ∷ cs)) (p.0).printable (short p.1))

-- some printable bytes are a name
some_name : (bs : Text) → bs ≢ [] → IsPrintable bs → IsNameText bs
some_name [] n h = n refl
some_name (b ∷ bs) n h = h

-- what some bytes stand for are some bytes
filled : (body : Text) → body ≢ [] → unescaped body ≢ []
filled [] n e = n refl
filled (b ∷ []) n e = absurd (cc)
filled (b ∷ c ∷ cs) n e = go (b == 92) e
  where
    go : (t : Bool) → cond t (c ∷ unescaped cs) (b ∷ unescaped (c ∷ cs)) ≡ [] → ⊥
    go true e = absurd (cc)
    go false e = absurd (cc)

-- what some body stands for is a name
pub body_name : (body : Text) → body ≢ [] → is_body 39 body ≡ true → IsNameText (unescaped body)
body_name body n h = some_name (unescaped body) (filled body n) (body_printable body h)

-- without a backslash each byte stands for itself
pub no_escape : (body : Text) → list_any (λ b. nat_eq b 92) body ≡ false → unescaped body ≡ body
no_escape [] h = refl
no_escape (b ∷ bs) h = own_first b bs (λ more. (or_neither (b == 92) (list_any (λ c. nat_eq c 92) bs) h).0) ∙ ap (λ (xs : Text). b ∷ xs) (no_escape bs (or_neither (b == 92) (list_any (λ c. nat_eq c 92) bs) h).1)

-- the part of a quoted word between its quotes
pub record Quotation (text : Text) : Type 0 where
  pub long : 2 ≤ length text
  pub inner : take (length text - 1 - 1) (drop 1 text) ≡ inside text
  pub body : is_body 39 (inside text) ≡ true
  pub some : inside text ≢ []

-- a quoted word has such a part
pub quotation : (kind : Kind) (text : Text) → kind_of text ≡ Some kind → kind ≡ Quoted → Quotation text
quotation kind text k e = go (name_facts Quoted text (k ∙ ap Some e) refl)
  where
    go : QuotedText text → Quotation text
    go q = record {
      long = let l = ap length q.shape in let m = length-append (inside text) (39 ∷ []) in omega arith;
      inner = ap (λ k. take k (drop 1 text)) (omega arith);
      body = q.body;
      some = q.some;
    }

-- a token that names something and is no quoted word is a name
pub plain_name : (kind : Kind) (text : Text) → kind_of text ≡ Some kind → IsTrue (is_name kind) → kind ≢ Quoted → IsNameText text
plain_name kind text k n other = go kind (name_facts kind text k n) other
  where
    go : (kind : Kind) → NameFacts kind text → kind ≢ Quoted → IsNameText text
    go Quoted f n = absurd (n refl)
    go _ f n = f
