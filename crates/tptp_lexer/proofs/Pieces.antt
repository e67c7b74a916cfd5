-- What the scanner's function answers for any bytes is what is at their front.
use Rattle.std.proofs.Common.{◌≡◌, ℕ, ◌==◌, inl, Bool, true, false, ◌||◌, [], ◌∷◌, refl, sym, subst}
use Rattle.std.proofs.lemmas.Bool.{eqb-true, cond_both}
use Rattle.text_core.specs.Names.{Text}
use Rattle.text_core.proofs.Laws.{or_neither}
use Rattle.tptp_lexer.specs.declared.kind.Kind.TheVariants.{Lower, Upper}
use Rattle.tptp_lexer.specs.declared.piece.Piece.{Piece}
use Rattle.tptp_lexer.specs.Kinds.{is_lower, is_upper, is_digit, is_word}
use Rattle.tptp_lexer.specs.Tokens.{is_blank}
use Rattle.tptp_lexer.specs.Scanning.{piece_at, piece_from, other_from, signed_from}
use Rattle.tptp_lexer.proofs.Heads.{lower_kind, upper_kind, plus_kind, minus_kind, other_kind}
use Rattle.tptp_lexer.proofs.Fronts.{GapFront, Means, run_found, no_front}
use Rattle.tptp_lexer.proofs.Signs.{sign_means}
use Rattle.tptp_lexer.proofs.Words.{number_found, signed_means, dollar_means, slash_means, line_front}
use Rattle.tptp_lexer.proofs.Quoted.{single_means, double_means}

-- a blank is a gap
blank_front : (b : ℕ) (bs : Text) → is_blank b ≡ true → GapFront 1 (b ∷ bs)
blank_front b bs h = record { text = b ∷ []; rest = bs; split = refl; count = refl; gap = inl (b, refl, h) }

-- what begins with a plus or a minus
plus_minus_means : (b : ℕ) (bs : Text) → (b == 43 || b == 45) ≡ true → Means (signed_from bs) (b ∷ bs)
plus_minus_means b bs = go (b == 43) refl
  where
    go : (t : Bool) → (b == 43) ≡ t → (t || b == 45) ≡ true → Means (signed_from bs) (b ∷ bs)
    go true e h = subst (λ x. Means (signed_from bs) (x ∷ bs)) (sym (eqb-true b 43 e)) (signed_means 43 plus_kind refl (λ cs. refl) refl bs)
    go false e h = subst (λ x. Means (signed_from bs) (x ∷ bs)) (sym (eqb-true b 45 h)) (signed_means 45 minus_kind refl (λ cs. refl) refl bs)

-- what is at the front of any bytes
pub piece_means : (bytes : Text) → Means (piece_at bytes) bytes
unfolding piece_from other_from
piece_means [] = refl
piece_means (b ∷ bs) =
    cond_both (is_blank b) _ _ M (blank_front b bs) (λ blank.
    cond_both (is_lower b) _ _ M (λ e. run_found is_word Lower (b ∷ []) (λ cs. lower_kind b cs e) bs) (λ l.
    cond_both (is_upper b) _ _ M (λ e. run_found is_word Upper (b ∷ []) (λ cs. upper_kind b cs e) bs) (λ u.
    cond_both (is_digit b) _ _ M (number_found b bs) (λ d.
    cond_both (b == 39) _ _ M (λ e. rw (eqb-true b 39 e) (single_means bs)) (λ n39.
    cond_both (b == 34) _ _ M (λ e. rw (eqb-true b 34 e) (double_means bs)) (λ n34.
    cond_both (b == 37) _ _ M (λ e. rw (eqb-true b 37 e) (line_front bs)) (λ n37.
    cond_both (b == 47) _ _ M (λ e. rw (eqb-true b 47 e) (slash_means bs)) (λ n47.
    cond_both (b == 36) _ _ M (λ e. rw (eqb-true b 36 e) (dollar_means bs)) (λ n36.
    cond_both (b == 43 || b == 45) _ _ M (plus_minus_means b bs) (λ signs.
    sign_means b bs (λ n40 n41 n91 n93 n44 n46 n58 n63 n38 n124 n33 n126 n61 n60.
    inl (
      (
        blank,
        rw (n37, n47) refl,
        rw (n39, n34) refl,
        no_front b bs (λ cs after e.
            other_kind b cs l u (n39, (n34, ((or_neither (b == 43) (b == 45) signs).0, ((or_neither (b == 43) (b == 45) signs).1, tt)))) d
            (n36, (n40, (n41, (n91, (n93, (n44, (n46, (n58, (n33, (n63, (n126, (n38, (n124, (n61, (n60, tt)))))))))))))))),
      ),
      refl,
    ))))))))))))
  where
    M : Piece → Type 0
    M p = Means p (b ∷ bs)
