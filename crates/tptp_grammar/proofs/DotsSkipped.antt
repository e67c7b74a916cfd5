-- No token of an annotation is a dot.
use Rattle.std.specs.Prelude.{◌≡◌, ℕ, false, List, [], ◌∷◌, ◌++◌, refl}
use Rattle.std.proofs.Common.{◌∙◌, ◌⊎◌, inl, inr, append_assoc}
use Rattle.tptp_lexer.specs.declared.kind.Kind.{Kind}
use Rattle.tptp_lexer.specs.declared.kind.Kind.TheVariants as kind
use Rattle.tptp_lexer.specs.Tokens.{Token}
use Rattle.tptp_lexer.specs.Same.{same_kind}
use Rattle.tptp_grammar.specs.Reading.{behind_dot}
use Rattle.tptp_grammar.specs.Spells.{IsGeneral, IsGeneralList, AreGenerals, IsData, IsAnnotation}
use Rattle.tptp_lexer.specs.Spelling.{IsWord}
use Rattle.tptp_grammar.specs.Spells.IsGeneral.{data_alone, data_with, in_list}
use Rattle.tptp_grammar.specs.Spells.IsGeneralList.{empty_list, whole_list}
use Rattle.tptp_grammar.specs.Spells.AreGenerals.{no_general, next_general}
use Rattle.tptp_grammar.specs.Spells.IsData.{plain, word_alone, word_with}
use Rattle.tptp_grammar.specs.Spells.IsAnnotation.{no_annotation, source_alone, source_with}
use Rattle.tptp_grammar.proofs.ReaderSteps.{behind_dot-other}

-- the first dot is sought behind these tokens
abbrev pub IsSkipped : List Token → Type 0
IsSkipped us = (ts : List Token) → behind_dot (us ++ ts) ≡ behind_dot ts

-- a token that is no dot, before others
token_skipped : (k : Kind) (t : Token) (us : List Token) → t.kind ≡ k → same_kind k kind.Dot ≡ false → IsSkipped us → IsSkipped (t ∷ us)
token_skipped k t us is apart skipped ts = behind_dot-other k t (us ++ ts) is apart ∙ skipped ts

-- tokens before others
both_skipped : (us vs : List Token) → IsSkipped us → IsSkipped vs → IsSkipped (us ++ vs)
both_skipped us vs first second ts = rw (append_assoc us vs ts) (first (vs ++ ts) ∙ second ts)

-- a token that is no dot
one_skipped : (k : Kind) (t : Token) → t.kind ≡ k → same_kind k kind.Dot ≡ false → IsSkipped (t ∷ [])
one_skipped k t is apart = token_skipped k t [] is apart (λ ts. refl)

-- a word before others
word_skipped : (t : Token) (us : List Token) → IsWord t → IsSkipped us → IsSkipped (t ∷ us)
word_skipped t us (inl is) skipped = token_skipped kind.Lower t us is refl skipped
word_skipped t us (inr is) skipped = token_skipped kind.Quoted t us is refl skipped

-- plain data
plain_skipped : (t : Token) → (t.kind ≡ kind.Upper) ⊎ ((t.kind ≡ kind.Integer) ⊎ (t.kind ≡ kind.Distinct)) → IsSkipped (t ∷ [])
plain_skipped t (inl is) = one_skipped kind.Upper t is refl
plain_skipped t (inr (inl is)) = one_skipped kind.Integer t is refl
plain_skipped t (inr (inr is)) = one_skipped kind.Distinct t is refl

mutual
  -- a general term has no dot
  general_skipped : {level : ℕ} {us : List Token} → IsGeneral level us → IsSkipped us
  general_skipped (data_alone d) = data_skipped d
  general_skipped (data_with us colon vs d is g split) = rw split
      (both_skipped us (colon ∷ vs) (data_skipped d) (token_skipped kind.Colon colon vs is refl (general_skipped g)))
  general_skipped (in_list l) = list_skipped l

  -- a list of general terms has no dot
  list_skipped : {level : ℕ} {us : List Token} → IsGeneralList level us → IsSkipped us
  list_skipped (empty_list first last less opens closes split) = rw split
      (token_skipped kind.OpenBracket first (last ∷ []) opens refl (one_skipped kind.CloseBracket last closes refl))
  list_skipped (whole_list first us vs last less opens g gs closes split) = rw split
      (token_skipped kind.OpenBracket first (us ++ (vs ++ (last ∷ []))) opens refl
      (both_skipped us (vs ++ (last ∷ [])) (general_skipped g)
      (both_skipped vs (last ∷ []) (generals_skipped gs) (one_skipped kind.CloseBracket last closes refl))))

  -- further general terms have no dot
  generals_skipped : {level : ℕ} {us : List Token} → AreGenerals level us → IsSkipped us
  generals_skipped no_general = λ ts. refl
  generals_skipped (next_general comma us vs is g gs split) = rw split
      (token_skipped kind.Comma comma (us ++ vs) is refl (both_skipped us vs (general_skipped g) (generals_skipped gs)))

  -- data have no dot
  data_skipped : {level : ℕ} {us : List Token} → IsData level us → IsSkipped us
  data_skipped (plain t is split) = rw split (plain_skipped t is)
  data_skipped (word_alone t is split) = rw split (word_skipped t [] is (λ ts. refl))
  data_skipped (word_with t first us vs last is less opens g gs closes split) = rw split
      (word_skipped t (first ∷ (us ++ (vs ++ (last ∷ [])))) is
      (token_skipped kind.OpenParenthesis first (us ++ (vs ++ (last ∷ []))) opens refl
      (both_skipped us (vs ++ (last ∷ [])) (general_skipped g)
      (both_skipped vs (last ∷ []) (generals_skipped gs) (one_skipped kind.CloseParenthesis last closes refl)))))

-- an annotation has no dot
pub annotation_skipped : {us : List Token} → IsAnnotation us → IsSkipped us
annotation_skipped no_annotation = λ ts. refl
annotation_skipped (source_alone comma us is g split) = rw split (token_skipped kind.Comma comma us is refl (general_skipped g))
annotation_skipped (source_with comma us between vs is g mark l split) = rw split
    (token_skipped kind.Comma comma (us ++ (between ∷ vs)) is refl
    (both_skipped us (between ∷ vs) (general_skipped g) (token_skipped kind.Comma between vs mark refl (list_skipped l))))
