-- Numbers, words behind a dollar, and comments at a front.
use Rattle.std.proofs.Common.{◌≡◌, ℕ, ◌+◌, ◌==◌, inl, inr, Bool, true, false, not, cond, ◌&&◌, [], ◌∷◌, ◌++◌, refl, ap, sym, ◌∙◌, subst, arith, Option, Some, None, append_assoc, length-append}
use Rattle.std.specs.List.{list_all, prefix_len}
use Rattle.std.proofs.lemmas.Bool.{eqb-true, cond_both}
use Rattle.text_core.specs.Names.{Text}
use Rattle.tptp_lexer.specs.declared.kind.Kind.TheVariants.{Integer, Dollar}
use Rattle.tptp_lexer.specs.Kinds.{kind_of, is_lower, is_digit, is_word, is_natural}
use Rattle.tptp_lexer.specs.Tokens.{is_blank, is_end_of_line}
use Rattle.tptp_lexer.specs.Refused.{is_quote, begins_comment}
use Rattle.tptp_lexer.specs.Scanning.{slash_from, dollar_from, signed_from, block_piece, natural_len, block_end, is_not_feed}
use Rattle.tptp_lexer.proofs.Apart.{number_other}
use Rattle.tptp_lexer.proofs.Heads.{digit_kind, zero_kind, dollar_kind, slash_kind}
use Rattle.tptp_lexer.proofs.Runs.{Run, run_of, stops}
use Rattle.tptp_lexer.proofs.Blocks.{BlockMeans, block_means}
use Rattle.tptp_lexer.proofs.Fronts.{GapFront, FoundFront, Means, run_found, token_found, no_front}
use Rattle.tptp_lexer.proofs.Signs.{nil_front}

-- a number is at the front
pub number_found : (b : ℕ) (bs : Text) → is_digit b ≡ true → FoundFront Integer (natural_len b bs) (b ∷ bs)
number_found b bs d = cond_both (b == 48) 1 (1 + prefix_len is_digit bs) (λ n. FoundFront Integer n (b ∷ bs))
    (λ e. rw (eqb-true b 48 e) (token_found Integer (48 ∷ []) bs (zero_kind []) (λ c cs after s. zero_kind (c ∷ cs))))
    (λ n. run_found is_digit Integer (b ∷ []) (λ cs. digit_kind b cs d n) bs)

-- digits behind 1 to 9 are a natural number
natural_head : (b : ℕ) (cs : Text) → is_digit b ≡ true → (b == 48) ≡ false → is_natural (b ∷ cs) ≡ list_all is_digit cs
natural_head b cs d n = rw (n, d)

-- what begins with no digit is no natural number
not_natural : (b : ℕ) (cs : Text) → is_digit b ≡ false → is_natural (b ∷ cs) ≡ false
not_natural b cs d = rw (number_other b 48 (λ e. absurd (cc (ap is_digit e))), d)

-- a plus or a minus: what it begins is decided by the number behind it
module _ (s : ℕ) (kind : (cs : Text) → kind_of (s ∷ cs) ≡ cond (is_natural cs) (Some Integer) None) where
  -- a number behind it is at the front
  signed_found : (b : ℕ) (bs : Text) → is_digit b ≡ true → FoundFront Integer (1 + natural_len b bs) (s ∷ b ∷ bs)
  signed_found b bs d = cond_both (b == 48) 1 (1 + prefix_len is_digit bs) (λ n. FoundFront Integer (1 + n) (s ∷ b ∷ bs))
      (λ e. rw (eqb-true b 48 e) (token_found Integer (s ∷ 48 ∷ []) bs (kind (48 ∷ [])) (λ c cs after q. kind (48 ∷ c ∷ cs))))
      (λ n. let two : 2 + prefix_len is_digit bs ≡ 1 + (1 + prefix_len is_digit bs) = omega arith in
      subst (λ k. FoundFront Integer k (s ∷ b ∷ bs)) two (run_found is_digit Integer (s ∷ b ∷ []) (λ cs. kind (b ∷ cs) ∙ ap (λ t. cond t (Some Integer) None) (natural_head b cs d n)) bs))

  -- with no digit behind it there is no token
  signed_none : (b : ℕ) (bs cs after : Text) → is_digit b ≡ false → b ∷ bs ≡ cs ++ after → kind_of (s ∷ cs) ≡ None
  signed_none b bs [] after d e = kind []
  signed_none b bs (c ∷ cs) after d e = let same : b ≡ c = cc in kind (c ∷ cs) ∙ ap (λ t. cond t (Some Integer) None) (not_natural c cs (ap is_digit (sym same) ∙ d))

  -- what begins with it
  pub signed_means : is_blank s ≡ false → ((cs : Text) → begins_comment (s ∷ cs) ≡ false) → is_quote s ≡ false → (bs : Text) → Means (signed_from bs) (s ∷ bs)
  unfolding signed_from
  signed_means blank comment quote [] = inl ((blank, comment [], quote, no_front s [] (λ cs after e. ap (λ xs. kind_of (s ∷ xs)) (nil_front cs after e) ∙ kind [])), refl)
  signed_means blank comment quote (b ∷ bs) = cond_both (is_digit b) _ _ (λ p. Means p (s ∷ b ∷ bs)) (signed_found b bs)
      (λ d. inl ((blank, comment (b ∷ bs), quote, no_front s (b ∷ bs) (λ cs after e. signed_none b bs cs after d e)), refl))

-- a dollar with no letter behind it begins no token
dollar_none : (b : ℕ) (bs cs after : Text) → is_lower b ≡ false → b ∷ bs ≡ cs ++ after → kind_of (36 ∷ cs) ≡ None
dollar_none b bs [] after d e = dollar_kind []
dollar_none b bs (c ∷ cs) after d e = let same : b ≡ c = cc in dollar_kind (c ∷ cs) ∙ ap (λ t. cond (t && list_all is_word cs) (Some Dollar) None) (ap is_lower (sym same) ∙ d)

-- what begins with a dollar
pub dollar_means : (bs : Text) → Means (dollar_from bs) (36 ∷ bs)
unfolding dollar_from
dollar_means [] = inl ((refl, refl, refl, no_front 36 [] (λ cs after e. ap (λ xs. kind_of (36 ∷ xs)) (nil_front cs after e) ∙ dollar_kind [])), refl)
dollar_means (b ∷ bs) = cond_both (is_lower b) _ _ (λ p. Means p (36 ∷ b ∷ bs))
    (λ l. run_found is_word Dollar (36 ∷ b ∷ []) (λ cs. dollar_kind (b ∷ cs) ∙ ap (λ t. cond (t && list_all is_word cs) (Some Dollar) None) l) bs)
    (λ n. inl ((refl, refl, refl, no_front 36 (b ∷ bs) (λ cs after e. dollar_none b bs cs after n e)), refl))

-- what begins with `/*`, by the offset of the first `*/`
block_front : (bs : Text) (o : Option ℕ) → BlockMeans bs o → Means (block_piece o) (47 ∷ 42 ∷ bs)
block_front bs None m = (bs, refl, m)
block_front bs (Some n) m = record {
  text = 47 ∷ 42 ∷ m.0 ++ 42 ∷ 47 ∷ [];
  rest = m.1;
  split = ap (λ (xs : Text). 47 ∷ 42 ∷ xs) (m.2 ∙ sym (append_assoc m.0 (42 ∷ 47 ∷ []) m.1));
  count = let l = length-append m.0 (42 ∷ 47 ∷ []) in let k = m.4 in omega arith;
  gap = inr (inr (m.0, refl, m.3));
}

-- what begins with `/`
pub slash_means : (bs : Text) → Means (slash_from bs) (47 ∷ bs)
unfolding slash_from
slash_means [] = inl ((refl, refl, refl, no_front 47 [] (λ cs after e. slash_kind cs)), refl)
slash_means (b ∷ bs) = cond_both (b == 42) _ _ (λ p. Means p (47 ∷ b ∷ bs))
    (λ e. subst (λ x. Means (block_piece (block_end bs)) (47 ∷ x ∷ bs)) (sym (eqb-true b 42 e)) (block_front bs (block_end bs) (block_means bs)))
    (λ n. inl ((refl, n, refl, no_front 47 (b ∷ bs) (λ cs after e. slash_kind cs)), refl))

-- a line ends with the text or at its line feed
line_end : (rest : Text) → stops is_not_feed rest ≡ true → is_end_of_line rest ≡ true
line_end [] h = refl
line_end (b ∷ bs) h = twice (b == 10) h
  where
    twice : (t : Bool) → not (not t) ≡ true → t ≡ true
    twice true h = refl
    twice false h = h

-- a comment up to the end of its line is at the front
pub line_front : (bs : Text) → GapFront (1 + prefix_len is_not_feed bs) (37 ∷ bs)
line_front bs = go (run_of is_not_feed bs)
  where
    go : Run is_not_feed bs → GapFront (1 + prefix_len is_not_feed bs) (37 ∷ bs)
    go r = record {
      text = 37 ∷ r.run;
      rest = r.rest;
      split = ap (λ (xs : Text). 37 ∷ xs) r.split;
      count = ap (λ n. 1 + n) r.count ∙ omega arith;
      gap = inr (inl (r.run, refl, r.all, line_end r.rest r.stopped));
    }
