-- Where the first `*/` is, as a whole.
use Rattle.std.proofs.Common.{◌≡◌, ℕ, ◌+◌, ◌==◌, true, false, not, ◌&&◌, [], ◌∷◌, ◌++◌, length, refl, ap, ◌∙◌, arith, Option, Some, None, option_map}
use Rattle.std.proofs.lemmas.Bool.{eqb-true, cond_both}
use Rattle.text_core.specs.Names.{Text}
use Rattle.text_core.proofs.Laws.{and_both, not_true}
use Rattle.tptp_lexer.specs.Kinds.{begins_with}
use Rattle.tptp_lexer.specs.Tokens.{is_unclosed}
use Rattle.tptp_lexer.specs.Scanning.{block_end}
use Rattle.tptp_lexer.proofs.Fronts.{next_is}

-- the first byte decides
same_next : (body xs ys : Text) → begins_with 47 (body ++ 42 ∷ xs) ≡ begins_with 47 (body ++ 42 ∷ ys)
same_next [] xs ys = refl
same_next (b ∷ bs) xs ys = refl

-- what the offset of the first `*/` says of the bytes
abbrev pub BlockMeans : Text → Option ℕ → Type 0
BlockMeans bs None = is_unclosed bs ≡ true
BlockMeans bs (Some n) = (body : Text) × (rest : Text) × (bs ≡ body ++ 42 ∷ 47 ∷ rest) × (is_unclosed (body ++ 42 ∷ []) ≡ true) × (n ≡ length body)

-- a byte that closes nothing before bytes of which that is known
further_on : (b : ℕ) (bs : Text) (o : Option ℕ) → (b == 42 && begins_with 47 bs) ≡ false → BlockMeans bs o → BlockMeans (b ∷ bs) (option_map (λ n. 1 + n) o)
further_on b bs None e m = rw (e, m)
further_on b bs (Some n) e m =
    let next : begins_with 47 bs ≡ begins_with 47 (m.0 ++ 42 ∷ []) = ap (begins_with 47) m.2 ∙ same_next m.0 (47 ∷ m.1) [] in
    let closed : (b == 42 && begins_with 47 (m.0 ++ 42 ∷ [])) ≡ false = rw (← next) e in
    (b ∷ m.0, m.1, ap (λ (xs : Text). b ∷ xs) m.2, rw (closed, m.3), ap (λ k. 1 + k) m.4 ∙ omega arith)

-- `*/` at the front
at_close : (b : ℕ) (bs rest : Text) → b ≡ 42 → bs ≡ 47 ∷ rest → BlockMeans (b ∷ bs) (Some 0)
at_close b bs rest e r = ([], rest, cc, refl, refl)

-- the offset that is answered says so
pub block_means : (bs : Text) → BlockMeans bs (block_end bs)
block_means [] = refl
block_means (b ∷ bs) = go (block_means bs)
  where
    go : BlockMeans bs (block_end bs) → BlockMeans (b ∷ bs) (block_end (b ∷ bs))
    go m =
        cond_both (b == 42 && begins_with 47 bs) _ _ (BlockMeans (b ∷ bs))
        (λ e. let r = next_is 47 bs (and_both (b == 42) (begins_with 47 bs) e).1 in at_close b bs r.0 (eqb-true b 42 (and_both (b == 42) (begins_with 47 bs) e).0) r.1)
        (λ e. further_on b bs (block_end bs) e m)

-- behind bytes in which none begins the first `*/` is found
pub block_close : (body rest : Text) → is_unclosed (body ++ 42 ∷ []) ≡ true → block_end (body ++ 42 ∷ 47 ∷ rest) ≡ Some (length body)
block_close [] rest h = refl
block_close (b ∷ bs) rest h =
    let e : (b == 42 && begins_with 47 (bs ++ 42 ∷ [])) ≡ false = not_true (b == 42 && begins_with 47 (bs ++ 42 ∷ [])) (and_both (not (b == 42 && begins_with 47 (bs ++ 42 ∷ []))) (is_unclosed (bs ++ 42 ∷ [])) h).0 in
    rw (same_next bs (47 ∷ rest) [], e, block_close bs rest (and_both (not (b == 42 && begins_with 47 (bs ++ 42 ∷ []))) (is_unclosed (bs ++ 42 ∷ [])) h).1) (ap Some (omega arith))

-- in bytes that nothing closes none is found
pub block_open : (bs : Text) → is_unclosed bs ≡ true → block_end bs ≡ None
block_open [] h = refl
block_open (b ∷ bs) h =
    let e : (b == 42 && begins_with 47 bs) ≡ false = not_true (b == 42 && begins_with 47 bs) (and_both (not (b == 42 && begins_with 47 bs)) (is_unclosed bs) h).0 in
    rw (e, block_open bs (and_both (not (b == 42 && begins_with 47 bs)) (is_unclosed bs) h).1)
