-- The signs at a front.
use Rattle.std.proofs.Common.{◌≡◌, ℕ, ◌==◌, inl, Bool, true, false, cond, ◌&&◌, [], ◌∷◌, ◌++◌, refl, Some, None}
use Rattle.std.proofs.lemmas.Bool.{eqb-true, cond_both}
use Rattle.std.proofs.Math.Bool.{and-false}
use Rattle.text_core.specs.Names.{Text}
use Rattle.text_core.proofs.Laws.{and_both}
use Rattle.tptp_lexer.specs.declared.kind.Kind.{Kind}
use Rattle.tptp_lexer.specs.declared.kind.Kind.TheVariants.{OpenParenthesis, CloseParenthesis, OpenBracket, CloseBracket, Comma, Dot, Colon, Exclamation, Question, Tilde, Ampersand, Bar, Implies, Implied, Iff, Xor, Nor, Nand, Equal, NotEqual}
use Rattle.tptp_lexer.specs.declared.piece.Piece.{Piece}
use Rattle.tptp_lexer.specs.declared.piece.Piece.TheVariants.{BadByte}
use Rattle.tptp_lexer.specs.Kinds.{kind_of, begins_with}
use Rattle.tptp_lexer.specs.Scanning.{sign_from, long_sign, less_from}
use Rattle.tptp_lexer.proofs.Fronts.{FoundFront, Means, token_found, no_front, next_is, next_other}

-- `<`, `~` and `>` that are not all there are no sign
neither : (s t : Bool) → (s && t) ≡ false → cond (s && (t && true)) (Some Xor) None ≡ None
neither true true h = absurd (cc)
neither true false h = refl
neither false t h = refl

-- nothing is at the front of nothing
pub nil_front : (cs after : Text) → [] ≡ cs ++ after → cs ≡ []
nil_front [] after e = refl
nil_front (c ∷ cs) after e = absurd (cc)

-- `<` that begins no sign
less_none : (c : ℕ) (cs : Text) → (c == 61) ≡ false → (c == 126 && begins_with 62 cs) ≡ false → (ds after : Text) → c ∷ cs ≡ ds ++ after → kind_of (60 ∷ ds) ≡ None
unfolding kind_of
less_none c cs n f [] after e = refl
less_none c cs n f (d ∷ ds) after e = let same : c ≡ d = cc in let more : cs ≡ ds ++ after = cc in go ds (rw same at n) (rw (same, more) at f)
  where
    go : (es : Text) → (d == 61) ≡ false → (d == 126 && begins_with 62 (es ++ after)) ≡ false → kind_of (60 ∷ d ∷ es) ≡ None
    go [] m g = simp (m, and-false)
    go (x ∷ []) m g = rw m (neither (d == 126) (x == 62) g)
    go (x ∷ y ∷ ys) m g = simp (m, and-false)

-- what begins with `<`
pub less_means : (bs : Text) → Means (less_from bs) (60 ∷ bs)
unfolding kind_of less_from
less_means [] = inl ((refl, refl, refl, no_front 60 [] (λ cs after e. rw (nil_front cs after e) refl)), refl)
less_means (c ∷ cs) =
    cond_both (c == 61) _ _ (λ p. Means p (60 ∷ c ∷ cs))
    (λ e. cond_both (begins_with 62 cs) _ _ (λ p. Means p (60 ∷ c ∷ cs))
    (λ t. let r = next_is 62 cs t in rw (eqb-true c 61 e, r.1) (token_found Iff (60 ∷ 61 ∷ 62 ∷ []) r.0 refl (λ d ds after s. refl)))
    (λ f. rw (eqb-true c 61 e) (token_found Implied (60 ∷ 61 ∷ []) cs refl (λ d ds after s. rw (next_other 62 cs d (ds ++ after) f s)))))
    (λ n. cond_both (c == 126 && begins_with 62 cs) _ _ (λ p. Means p (60 ∷ c ∷ cs))
    (λ t. let r = next_is 62 cs (and_both (c == 126) (begins_with 62 cs) t).1 in rw (eqb-true c 126 (and_both (c == 126) (begins_with 62 cs) t).0, r.1) (token_found Xor (60 ∷ 126 ∷ 62 ∷ []) r.0 refl (λ d ds after s. refl)))
    (λ f. inl ((refl, refl, refl, no_front 60 (c ∷ cs) (less_none c cs n f)), refl)))

-- what is left to say of a byte that begins no sign of these
abbrev pub NoLong : ℕ → Text → Type 0
NoLong b bs = (b == 33) ≡ false → (b == 126) ≡ false → (b == 61) ≡ false → (b == 60) ≡ false → Means (BadByte 0) (b ∷ bs)

-- what begins with a sign that may go on
pub long_means : (b : ℕ) (bs : Text) → NoLong b bs → Means (long_sign b bs) (b ∷ bs)
unfolding kind_of long_sign
long_means b bs bad =
    cond_both (b == 33) _ _ (λ p. Means p (b ∷ bs))
    (λ e. rw (eqb-true b 33 e) (cond_both (begins_with 61 bs) _ _ (λ p. Means p (33 ∷ bs))
    (λ t. let r = next_is 61 bs t in rw r.1 (token_found NotEqual (33 ∷ 61 ∷ []) r.0 refl (λ d ds after s. refl)))
    (λ f. token_found Exclamation (33 ∷ []) bs refl (λ d ds after s. rw (next_other 61 bs d (ds ++ after) f s)))))
    (λ n33. cond_both (b == 126) _ _ (λ p. Means p (b ∷ bs))
    (λ e. rw (eqb-true b 126 e) (cond_both (begins_with 124 bs) _ _ (λ p. Means p (126 ∷ bs))
    (λ t. let r = next_is 124 bs t in rw r.1 (token_found Nor (126 ∷ 124 ∷ []) r.0 refl (λ d ds after s. refl)))
    (λ f. cond_both (begins_with 38 bs) _ _ (λ p. Means p (126 ∷ bs))
    (λ t. let r = next_is 38 bs t in rw r.1 (token_found Nand (126 ∷ 38 ∷ []) r.0 refl (λ d ds after s. refl)))
    (λ g. token_found Tilde (126 ∷ []) bs refl (λ d ds after s. rw (next_other 124 bs d (ds ++ after) f s, next_other 38 bs d (ds ++ after) g s))))))
    (λ n126. cond_both (b == 61) _ _ (λ p. Means p (b ∷ bs))
    (λ e. rw (eqb-true b 61 e) (cond_both (begins_with 62 bs) _ _ (λ p. Means p (61 ∷ bs))
    (λ t. let r = next_is 62 bs t in rw r.1 (token_found Implies (61 ∷ 62 ∷ []) r.0 refl (λ d ds after s. refl)))
    (λ f. token_found Equal (61 ∷ []) bs refl (λ d ds after s. rw (next_other 62 bs d (ds ++ after) f s)))))
    (λ n61. cond_both (b == 60) _ _ (λ p. Means p (b ∷ bs))
    (λ e. rw (eqb-true b 60 e) (less_means bs))
    (λ n60. bad n33 n126 n61 n60))))

-- a sign of one byte
single : (kind : Kind) (m b : ℕ) (bs : Text) → (b == m) ≡ true → kind_of (m ∷ []) ≡ Some kind → ((c : ℕ) (cs : Text) → kind_of (m ∷ c ∷ cs) ≡ None) → FoundFront kind 1 (b ∷ bs)
single kind m b bs e token longest = rw (eqb-true b m e) (token_found kind (m ∷ []) bs token (λ c cs after s. longest c cs))

-- what is left to say of a byte that begins no sign
abbrev pub NoSign : ℕ → Text → Type 0
NoSign b bs = (b == 40) ≡ false → (b == 41) ≡ false → (b == 91) ≡ false → (b == 93) ≡ false → (b == 44) ≡ false → (b == 46) ≡ false → (b == 58) ≡ false → (b == 63) ≡ false → (b == 38) ≡ false → (b == 124) ≡ false → NoLong b bs

-- what begins with a sign
pub sign_means : (b : ℕ) (bs : Text) → NoSign b bs → Means (sign_from b bs) (b ∷ bs)
unfolding kind_of sign_from
sign_means b bs bad =
    cond_both (b == 40) _ _ M (λ e. single OpenParenthesis 40 b bs e refl (λ c cs. refl)) (λ n1.
    cond_both (b == 41) _ _ M (λ e. single CloseParenthesis 41 b bs e refl (λ c cs. refl)) (λ n2.
    cond_both (b == 91) _ _ M (λ e. single OpenBracket 91 b bs e refl (λ c cs. refl)) (λ n3.
    cond_both (b == 93) _ _ M (λ e. single CloseBracket 93 b bs e refl (λ c cs. refl)) (λ n4.
    cond_both (b == 44) _ _ M (λ e. single Comma 44 b bs e refl (λ c cs. refl)) (λ n5.
    cond_both (b == 46) _ _ M (λ e. single Dot 46 b bs e refl (λ c cs. refl)) (λ n6.
    cond_both (b == 58) _ _ M (λ e. single Colon 58 b bs e refl (λ c cs. refl)) (λ n7.
    cond_both (b == 63) _ _ M (λ e. single Question 63 b bs e refl (λ c cs. refl)) (λ n8.
    cond_both (b == 38) _ _ M (λ e. single Ampersand 38 b bs e refl (λ c cs. refl)) (λ n9.
    cond_both (b == 124) _ _ M (λ e. single Bar 124 b bs e refl (λ c cs. refl)) (λ n10.
    long_means b bs (bad n1 n2 n3 n4 n5 n6 n7 n8 n9 n10)))))))))))
  where
    M : Piece → Type 0
    M p = Means p (b ∷ bs)
