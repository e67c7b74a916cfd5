-- How the bytes behind a quote end, as a whole.
use Rattle.std.proofs.Common.{◌≡◌, ◌≢◌, ℕ, ◌+◌, ◌==◌, ◌⊎◌, inl, inr, Bool, true, false, not, cond, ◌&&◌, ◌||◌, [], ◌∷◌, ◌++◌, length, refl, ap, sym, ◌∙◌, arith}
use Rattle.std.proofs.lemmas.Bool.{eqb-true, eqb-false, cond_both}
use Rattle.text_core.specs.Names.{Text}
use Rattle.text_core.proofs.Laws.{and_both, not_true, not_both}
use Rattle.tptp_lexer.specs.declared.quote.QuoteEnd.{QuoteEnd}
use Rattle.tptp_lexer.specs.declared.quote.QuoteEnd.TheVariants.{Closed, Stray, Open}
use Rattle.tptp_lexer.specs.Kinds.{is_printable, is_escapable, is_plain, is_body}
use Rattle.tptp_lexer.specs.Refused.{is_stray, is_wrong_escape, is_quote}
use Rattle.tptp_lexer.specs.Scanning.{further, quote_end}
use Rattle.tptp_lexer.proofs.Quotes.{further_zero, further_more, at_plain, at_unprintable, at_escape, at_wrong}

-- what a plain byte is
pub record Plain (q b : ℕ) : Type 0 where
  pub printable : is_printable b ≡ true
  pub unquoted : (b == q) ≡ false
  pub unescaped : (b == 92) ≡ false

-- a byte that passes the test is plain
pub plain : (q b : ℕ) → is_plain q b ≡ true → Plain q b
plain q b h = record {
  printable = (and_both (is_printable b) (not (b == q)) (and_both (is_printable b && not (b == q)) (not (b == 92)) h).0).0;
  unquoted = not_true (b == q) (and_both (is_printable b) (not (b == q)) (and_both (is_printable b && not (b == q)) (not (b == 92)) h).0).1;
  unescaped = not_true (b == 92) (and_both (is_printable b && not (b == q)) (not (b == 92)) h).1;
}

-- a plain byte passes the test
pub is_plain_from : (q b : ℕ) → Plain q b → is_plain q b ≡ true
is_plain_from q b p = rw (p.printable, p.unquoted, p.unescaped)

-- a body with one more byte, or one more escape
pub body_plain : (q b : ℕ) (body : Text) → Plain q b → is_body q body ≡ true → is_body q (b ∷ body) ≡ true
body_plain q b [] p h = is_plain_from q b p
body_plain q b (c ∷ cs) p h = rw (p.printable, p.unquoted, p.unescaped, h)

-- a body with one more escape
pub body_escape : (q c : ℕ) (body : Text) → is_escapable q c ≡ true → is_body q body ≡ true → is_body q (92 ∷ c ∷ body) ≡ true
body_escape q c body e h = rw (e, h)

-- a body of two or more bytes begins with an escape or a plain byte
pub first_of_body : (q b c : ℕ) (cs : Text) → is_body q (b ∷ c ∷ cs) ≡ true → ((b ≡ 92) × (is_escapable q c ≡ true) × (is_body q cs ≡ true)) ⊎ (Plain q b × (is_body q (c ∷ cs) ≡ true))
first_of_body q b c cs = go (b == 92) refl
  where
    go : (t : Bool) → (b == 92) ≡ t → cond t (is_escapable q c && is_body q cs) (is_plain q b && is_body q (c ∷ cs)) ≡ true → ((b ≡ 92) × (is_escapable q c ≡ true) × (is_body q cs ≡ true)) ⊎ (Plain q b × (is_body q (c ∷ cs) ≡ true))
    go true e h = inl (eqb-true b 92 e, (and_both (is_escapable q c) (is_body q cs) h).0, (and_both (is_escapable q c) (is_body q cs) h).1)
    go false e h = inr (plain q b (and_both (is_plain q b) (is_body q (c ∷ cs)) h).0, (and_both (is_plain q b) (is_body q (c ∷ cs)) h).1)

-- behind a body the rest decides how the bytes end
pub body_end : (q : ℕ) (body after : Text) → q ≢ 92 → is_body q body ≡ true → quote_end q (body ++ after) ≡ further (length body) (quote_end q after)
body_end q [] after n h = sym (further_zero (quote_end q after))
body_end q (b ∷ []) after n h = let p = plain q b h in at_plain q b after (eqb-false b q p.unquoted) (eqb-false b 92 p.unescaped) p.printable
body_end q (b ∷ c ∷ cs) after n h = go (first_of_body q b c cs h) (body_end q cs after n) (body_end q (c ∷ cs) after n)
  where
    go : ((b ≡ 92) × (is_escapable q c ≡ true) × (is_body q cs ≡ true)) ⊎ (Plain q b × (is_body q (c ∷ cs) ≡ true)) → (is_body q cs ≡ true → quote_end q (cs ++ after) ≡ further (length cs) (quote_end q after)) → (is_body q (c ∷ cs) ≡ true → quote_end q (c ∷ cs ++ after) ≡ further (length (c ∷ cs)) (quote_end q after)) → quote_end q (b ∷ c ∷ cs ++ after) ≡ further (length (b ∷ c ∷ cs)) (quote_end q after)
    go (inl e) shorter short = at_escape q b c (cs ++ after) (λ s. n (sym s ∙ e.0)) e.0 e.1 ∙ ap (further 2) (shorter e.2) ∙ further_more 2 (length cs) (quote_end q after) ∙ ap (λ k. further k (quote_end q after)) (omega arith)
    go (inr p) shorter short = let pl = p.0 in at_plain q b (c ∷ cs ++ after) (eqb-false b q pl.unquoted) (eqb-false b 92 pl.unescaped) pl.printable ∙ ap (further 1) (short p.1) ∙ further_more 1 (length (c ∷ cs)) (quote_end q after) ∙ ap (λ k. further k (quote_end q after)) (omega arith)

-- what an end says of the bytes behind a quote
abbrev pub EndMeans : ℕ → Text → QuoteEnd → Type 0
EndMeans q bs (Closed n) = (body : Text) × (rest : Text) × (bs ≡ body ++ q ∷ rest) × (is_body q body ≡ true) × (n ≡ length body)
EndMeans q bs (Stray n) = (body : Text) × (rest : Text) × (bs ≡ body ++ rest) × (is_body q body ≡ true) × (is_stray q rest ≡ true) × (n ≡ length body)
EndMeans q bs Open = (body : Text) × (rest : Text) × (bs ≡ body ++ rest) × (is_body q body ≡ true) × ((rest ≡ []) ⊎ (rest ≡ 92 ∷ []))

-- a plain byte before bytes of whose end that is known
means_plain : (q b : ℕ) (bs : Text) (e : QuoteEnd) → Plain q b → EndMeans q bs e → EndMeans q (b ∷ bs) (further 1 e)
means_plain q b bs (Closed n) p m = (b ∷ m.0, m.1, ap (λ (xs : Text). b ∷ xs) m.2, body_plain q b m.0 p m.3, ap (λ k. 1 + k) m.4 ∙ omega arith)
means_plain q b bs (Stray n) p m = (b ∷ m.0, m.1, ap (λ (xs : Text). b ∷ xs) m.2, body_plain q b m.0 p m.3, m.4, ap (λ k. 1 + k) m.5 ∙ omega arith)
means_plain q b bs Open p m = (b ∷ m.0, m.1, ap (λ (xs : Text). b ∷ xs) m.2, body_plain q b m.0 p m.3, m.4)

-- an escape before them
means_escape : (q c : ℕ) (cs : Text) (e : QuoteEnd) → is_escapable q c ≡ true → EndMeans q cs e → EndMeans q (92 ∷ c ∷ cs) (further 2 e)
means_escape q c cs (Closed n) p m = (92 ∷ c ∷ m.0, m.1, ap (λ (xs : Text). 92 ∷ c ∷ xs) m.2, body_escape q c m.0 p m.3, ap (λ k. 2 + k) m.4 ∙ omega arith)
means_escape q c cs (Stray n) p m = (92 ∷ c ∷ m.0, m.1, ap (λ (xs : Text). 92 ∷ c ∷ xs) m.2, body_escape q c m.0 p m.3, m.4, ap (λ k. 2 + k) m.5 ∙ omega arith)
means_escape q c cs Open p m = (92 ∷ c ∷ m.0, m.1, ap (λ (xs : Text). 92 ∷ c ∷ xs) m.2, body_escape q c m.0 p m.3, m.4)

-- the quote at the front
means_quote : (q b : ℕ) (bs : Text) → (b == q) ≡ true → EndMeans q (b ∷ bs) (Closed 0)
means_quote q b bs e = ([], bs, ap (λ x. x ∷ bs) (eqb-true b q e), refl, refl)

-- a byte at the front that is not printable
means_unprintable : (q b : ℕ) (bs : Text) → is_printable b ≡ false → EndMeans q (b ∷ bs) (Stray 0)
means_unprintable q b bs h = ([], b ∷ bs, refl, refl, rw h, refl)

-- the end that is answered says so
pub end_means : (q : ℕ) (bs : Text) → EndMeans q bs (quote_end q bs)
end_means q [] = ([], [], refl, refl, inl refl)
end_means q (b ∷ []) =
    cond_both (b == q) _ _ (EndMeans q (b ∷ [])) (means_quote q b []) (λ n.
    cond_both (is_printable b) _ _ (EndMeans q (b ∷ [])) (λ p. last (b == 92) refl n p) (means_unprintable q b []))
  where
    last : (t : Bool) → (b == 92) ≡ t → (b == q) ≡ false → is_printable b ≡ true → EndMeans q (b ∷ []) Open
    last true e n p = ([], b ∷ [], refl, refl, inr (ap (λ x. x ∷ []) (eqb-true b 92 e)))
    last false e n p = (b ∷ [], [], refl, is_plain_from q b (record { printable = p; unquoted = n; unescaped = e }), inl refl)
end_means q (b ∷ c ∷ cs) = go (end_means q cs) (end_means q (c ∷ cs))
  where
    go : EndMeans q cs (quote_end q cs) → EndMeans q (c ∷ cs) (quote_end q (c ∷ cs)) → EndMeans q (b ∷ c ∷ cs) (quote_end q (b ∷ c ∷ cs))
    go shorter short =
        cond_both (b == q) _ _ (EndMeans q (b ∷ c ∷ cs)) (means_quote q b (c ∷ cs)) (λ n.
        cond_both (b == 92) _ _ (EndMeans q (b ∷ c ∷ cs))
        (λ e. cond_both (is_escapable q c) _ _ (EndMeans q (b ∷ c ∷ cs))
        (λ p. rw (eqb-true b 92 e) (means_escape q c cs (quote_end q cs) p shorter))
        (λ w. ([], b ∷ c ∷ cs, refl, refl, rw (eqb-true b 92 e, w) refl, refl)))
        (λ u. cond_both (is_printable b) _ _ (EndMeans q (b ∷ c ∷ cs))
        (λ p. means_plain q b (c ∷ cs) (quote_end q (c ∷ cs)) (record { printable = p; unquoted = n; unescaped = u }) short)
        (means_unprintable q b (c ∷ cs))))

-- a quote is no backslash, and printable
pub quote_cases : (q : ℕ) → is_quote q ≡ true → (q ≡ 39) ⊎ (q ≡ 34)
quote_cases q h = go (q == 39) refl h
  where
    go : (t : Bool) → (q == 39) ≡ t → (t || q == 34) ≡ true → (q ≡ 39) ⊎ (q ≡ 34)
    go true e h = inl (eqb-true q 39 e)
    go false e h = inr (eqb-true q 34 h)

-- a quote is printable
quote_printable : (q : ℕ) → (q ≡ 39) ⊎ (q ≡ 34) → is_printable q ≡ true
quote_printable q (inl e) = ap is_printable e
quote_printable q (inr e) = ap is_printable e

-- a quote is no backslash
pub quote_unescaped : (q : ℕ) → (q ≡ 39) ⊎ (q ≡ 34) → q ≢ 92
quote_unescaped q (inl e) = λ s. absurd (omega arith)
quote_unescaped q (inr e) = λ s. absurd (omega arith)

-- the backslash of a wrong escape ends the bytes at once
wrong_end : (q b : ℕ) (bs : Text) → q ≢ 92 → b ≡ 92 → is_wrong_escape q bs ≡ true → quote_end q (b ∷ bs) ≡ Stray 0
wrong_end q b [] n e w = absurd (cc)
wrong_end q b (c ∷ cs) n e w = at_wrong q b c cs (λ s. n (sym s ∙ e)) e (not_true (is_escapable q c) w)

-- a stray byte ends the bytes at once
pub stray_end : (q : ℕ) (rest : Text) → (q ≡ 39) ⊎ (q ≡ 34) → is_stray q rest ≡ true → quote_end q rest ≡ Stray 0
stray_end q [] c h = absurd (cc)
stray_end q (b ∷ bs) c h = go (is_printable b) refl h
  where
    go : (t : Bool) → is_printable b ≡ t → (not t || b == 92 && is_wrong_escape q bs) ≡ true → quote_end q (b ∷ bs) ≡ Stray 0
    go true e h = wrong_end q b bs (quote_unescaped q c) (eqb-true b 92 (and_both (b == 92) (is_wrong_escape q bs) h).0) (and_both (b == 92) (is_wrong_escape q bs) h).1
    go false e h = at_unprintable q b bs (λ s. not_both (is_printable b) (ap is_printable s ∙ quote_printable q c) e) (λ s. not_both (is_printable b) (ap is_printable s) e) e
