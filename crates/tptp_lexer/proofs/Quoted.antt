-- Quotes at a front.
use Rattle.std.proofs.Common.{◌≡◌, ◌≢◌, ℕ, ◌+◌, ◌-◌, ◌==◌, inr, true, false, not, cond, ◌&&◌, [], ◌∷◌, ◌++◌, length, refl, ap, sym, ◌∙◌, arith, Some, None, append_assoc, length-append}
use Rattle.std.specs.Prelude.{bytes_eq}
use Rattle.std.proofs.lemmas.Bool.{eqb-true, eqb-false, cond_both}
use Rattle.std.proofs.lemmas.List.{take_at, append-nil}
use Rattle.std.proofs.lemmas.Slice.Eq.{bytes_eq-Decides}
use Rattle.text_core.specs.Names.{Text}
use Rattle.text_core.proofs.Laws.{and_both, and_true, not_passes}
use Rattle.tptp_lexer.specs.declared.kind.Kind.{Kind}
use Rattle.tptp_lexer.specs.declared.kind.Kind.TheVariants.{Quoted, Distinct}
use Rattle.tptp_lexer.specs.declared.quote.QuoteEnd.{QuoteEnd}
use Rattle.tptp_lexer.specs.declared.quote.QuoteEnd.TheVariants.{Closed, Stray, Open}
use Rattle.tptp_lexer.specs.Kinds.{kind_of, is_body, is_quoted, inside}
use Rattle.tptp_lexer.specs.Tokens.{IsLongest}
use Rattle.tptp_lexer.specs.Scanning.{quoted_piece, distinct_piece, quote_end, further}
use Rattle.tptp_lexer.proofs.Heads.{single_kind, double_kind}
use Rattle.tptp_lexer.proofs.Bodies.{EndMeans, end_means, body_end}
use Rattle.tptp_lexer.proofs.Quotes.{at_quote}
use Rattle.tptp_lexer.proofs.Fronts.{FoundFront, Means}

-- what is between the quotes
pub inside_of : (q : ℕ) (body : Text) → inside (q ∷ body ++ q ∷ []) ≡ body
inside_of q body = take_at body (q ∷ []) (length (q ∷ body ++ q ∷ []) - 2) (let l = length-append body (q ∷ []) in omega arith)

-- the quote, a body and the quote
pub is_quoted_text : (q : ℕ) (body : Text) → is_body q body ≡ true → is_quoted q (q ∷ body ++ q ∷ []) ≡ true
is_quoted_text q body h = and_true (bytes_eq (q ∷ body ++ q ∷ []) (q ∷ inside (q ∷ body ++ q ∷ []) ++ q ∷ [])) (is_body q (inside (q ∷ body ++ q ∷ [])))
    ((bytes_eq-Decides (q ∷ body ++ q ∷ []) (q ∷ inside (q ∷ body ++ q ∷ []) ++ q ∷ [])).1 (ap (λ (xs : Text). q ∷ xs ++ q ∷ []) (sym (inside_of q body))))
    (ap (is_body q) (inside_of q body) ∙ h)

-- a quoted text is the quote, a body and the quote
pub quoted_shape : (q : ℕ) (text : Text) → is_quoted q text ≡ true → (text ≡ q ∷ inside text ++ q ∷ []) × (is_body q (inside text) ≡ true)
quoted_shape q text h = ((bytes_eq-Decides text (q ∷ inside text ++ q ∷ [])).0 (and_both (bytes_eq text (q ∷ inside text ++ q ∷ [])) (is_body q (inside text)) h).0, (and_both (bytes_eq text (q ∷ inside text ++ q ∷ [])) (is_body q (inside text)) h).1)

-- behind the first quote of a quoted text the bytes end by its last one, whatever follows
pub quoted_end : (q : ℕ) (cs after : Text) → q ≢ 92 → is_quoted q (q ∷ cs) ≡ true → (quote_end q (cs ++ after) ≡ Closed (length (inside (q ∷ cs)))) × (length cs ≡ length (inside (q ∷ cs)) + 1)
quoted_end q cs after n h =
    let s = quoted_shape q (q ∷ cs) h in
    let tail : cs ≡ inside (q ∷ cs) ++ q ∷ [] = (let whole = s.0 in cc) in (
      ap (λ (xs : Text). quote_end q (xs ++ after)) tail ∙ ap (quote_end q) (append_assoc (inside (q ∷ cs)) (q ∷ []) after) ∙ body_end q (inside (q ∷ cs)) (q ∷ after) n s.1 ∙ ap (further (length (inside (q ∷ cs)))) (at_quote q q after refl) ∙ ap Closed (omega arith),
      ap length tail ∙ length-append (inside (q ∷ cs)) (q ∷ []) ∙ omega arith,
    )

-- a quoted text is none with more bytes
pub quoted_longest : (q : ℕ) (cs : Text) (c : ℕ) (more : Text) → q ≢ 92 → is_quoted q (q ∷ cs) ≡ true → is_quoted q (q ∷ cs ++ c ∷ more) ≡ false
quoted_longest q cs c more n h = not_passes (is_quoted q (q ∷ cs ++ c ∷ more)) (λ longer. go (quoted_end q cs (c ∷ more) n h) (quoted_end q (cs ++ c ∷ more) [] n longer))
  where
    go : (quote_end q (cs ++ c ∷ more) ≡ Closed (length (inside (q ∷ cs)))) × (length cs ≡ length (inside (q ∷ cs)) + 1) → (quote_end q ((cs ++ c ∷ more) ++ []) ≡ Closed (length (inside (q ∷ cs ++ c ∷ more)))) × (length (cs ++ c ∷ more) ≡ length (inside (q ∷ cs ++ c ∷ more)) + 1) → ⊥
    go a b =
        let same : Closed (length (inside (q ∷ cs))) ≡ Closed (length (inside (q ∷ cs ++ c ∷ more))) = sym a.0 ∙ ap (quote_end q) (sym (append-nil (cs ++ c ∷ more))) ∙ b.0 in
        let equal : length (inside (q ∷ cs)) ≡ length (inside (q ∷ cs ++ c ∷ more)) = cc in
        let first = a.1 in let second = b.1 in let l = length-append cs (c ∷ more) in
        omega arith

-- a token in quotes, whose kind a further test may narrow, is the longest in front of any rest
body_longest : (kind : Kind) (q : ℕ) (body rest : Text) → q ≢ 92 → is_body q body ≡ true → kind_of (q ∷ body ++ q ∷ []) ≡ Some kind → ((cs : Text) → is_quoted q (q ∷ cs) ≡ false → kind_of (q ∷ cs) ≡ None) → IsLongest kind (q ∷ body ++ q ∷ []) rest
body_longest kind q body rest n h token none = record {
  token = token;
  longest = λ c more after e. none (body ++ q ∷ [] ++ c ∷ more) (quoted_longest q (body ++ q ∷ []) c more n (is_quoted_text q body h));
}

-- such a token is at the front
quoted_found : (kind : Kind) (q : ℕ) (body rest : Text) → q ≢ 92 → is_body q body ≡ true → kind_of (q ∷ body ++ q ∷ []) ≡ Some kind → ((cs : Text) → is_quoted q (q ∷ cs) ≡ false → kind_of (q ∷ cs) ≡ None) → FoundFront kind (length body + 2) (q ∷ body ++ q ∷ rest)
quoted_found kind q body rest n h token none = record {
  text = q ∷ body ++ q ∷ [];
  rest = rest;
  split = ap (λ (xs : Text). q ∷ xs) (sym (append_assoc body (q ∷ []) rest));
  count = let l = length-append body (q ∷ []) in omega arith;
  longest = body_longest kind q body rest n h token none;
}

-- what begins with a single quote and is not quoted is no token
pub single_none : (cs : Text) → is_quoted 39 (39 ∷ cs) ≡ false → kind_of (39 ∷ cs) ≡ None
single_none cs h = single_kind cs ∙ ap (λ t. cond (t && not (bytes_eq (inside (39 ∷ cs)) [])) (Some Quoted) None) h

-- what begins with a double quote and is not quoted is no token
pub double_none : (cs : Text) → is_quoted 34 (34 ∷ cs) ≡ false → kind_of (34 ∷ cs) ≡ None
double_none cs h = double_kind cs ∙ ap (λ t. cond t (Some Distinct) None) h

-- a body whose length is not 0 has some bytes
some_length : (body : Text) (n : ℕ) → n ≡ length body → (n == 0) ≡ false → bytes_eq body [] ≡ false
some_length [] n e h = absurd (eqb-false n 0 h e)
some_length (b ∷ bs) n e h = refl

-- some body in single quotes is a quoted word
single_token : (body : Text) → is_body 39 body ≡ true → bytes_eq body [] ≡ false → kind_of (39 ∷ body ++ 39 ∷ []) ≡ Some Quoted
single_token body h s = single_kind (body ++ 39 ∷ []) ∙ ap (λ t. cond (t && not (bytes_eq (inside (39 ∷ body ++ 39 ∷ [])) [])) (Some Quoted) None) (is_quoted_text 39 body h) ∙ ap (λ (xs : Text). cond (not (bytes_eq xs [])) (Some Quoted) None) (inside_of 39 body) ∙ ap (λ t. cond (not t) (Some Quoted) None) s

-- a quoted word is the longest token in front of any rest
pub word_longest : (body rest : Text) → is_body 39 body ≡ true → bytes_eq body [] ≡ false → IsLongest Quoted (39 ∷ body ++ 39 ∷ []) rest
word_longest body rest h some = body_longest Quoted 39 body rest (λ x. absurd (omega arith)) h (single_token body h some) single_none

-- a body in double quotes is a distinct text
double_token : (body : Text) → is_body 34 body ≡ true → kind_of (34 ∷ body ++ 34 ∷ []) ≡ Some Distinct
double_token body h = double_kind (body ++ 34 ∷ []) ∙ ap (λ t. cond t (Some Distinct) None) (is_quoted_text 34 body h)

-- a body whose length is 0 has none
none_left : (body : Text) (n : ℕ) → n ≡ length body → (n == 0) ≡ true → body ≡ []
none_left [] n e h = refl
none_left (b ∷ bs) n e h = let z = eqb-true n 0 h in absurd (omega arith)

-- what begins with a single quote, by its end
single_front : (bs : Text) (e : QuoteEnd) → EndMeans 39 bs e → Means (quoted_piece e) (39 ∷ bs)
single_front bs (Closed n) m = cond_both (n == 0) _ _ (λ p. Means p (39 ∷ bs))
    (λ z. let e = none_left m.0 n m.4 z in (m.1, ap (λ (xs : Text). 39 ∷ xs) (m.2 ∙ ap (λ (xs : Text). xs ++ 39 ∷ m.1) e)))
    (λ s. rw (m.2, m.4) (quoted_found Quoted 39 m.0 m.1 (λ x. absurd (omega arith)) m.3 (single_token m.0 m.3 (some_length m.0 n m.4 s)) single_none))
single_front bs (Stray n) m = inr (39, m.0, m.1, ap (λ (xs : Text). 39 ∷ xs) m.2, refl, m.3, m.4, ap (λ k. 1 + k) m.5)
single_front bs Open m = (39, m.0, m.1, ap (λ (xs : Text). 39 ∷ xs) m.2, refl, m.3, m.4)

-- what begins with a single quote
pub single_means : (bs : Text) → Means (quoted_piece (quote_end 39 bs)) (39 ∷ bs)
single_means bs = single_front bs (quote_end 39 bs) (end_means 39 bs)

-- what begins with a double quote, by its end
double_front : (bs : Text) (e : QuoteEnd) → EndMeans 34 bs e → Means (distinct_piece e) (34 ∷ bs)
double_front bs (Closed n) m = rw (m.2, m.4) (quoted_found Distinct 34 m.0 m.1 (λ x. absurd (omega arith)) m.3 (double_token m.0 m.3) double_none)
double_front bs (Stray n) m = inr (34, m.0, m.1, ap (λ (xs : Text). 34 ∷ xs) m.2, refl, m.3, m.4, ap (λ k. 1 + k) m.5)
double_front bs Open m = (34, m.0, m.1, ap (λ (xs : Text). 34 ∷ xs) m.2, refl, m.3, m.4)

-- what begins with a double quote
pub double_means : (bs : Text) → Means (distinct_piece (quote_end 34 bs)) (34 ∷ bs)
double_means bs = double_front bs (quote_end 34 bs) (end_means 34 bs)
