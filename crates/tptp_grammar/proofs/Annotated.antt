-- Annotations: the watcher finds nothing in them.
use Rattle.std.specs.Prelude.{ℕ, List, [], ◌∷◌}
use Rattle.std.proofs.Common.{refl, sym, inl, inr, append-nil}
use Rattle.text_core.specs.Names.{Text}
use Rattle.tptp_lexer.specs.declared.kind.Kind.TheVariants as kind
use Rattle.tptp_lexer.specs.Tokens.{Token}
use Rattle.tptp_grammar.specs.declared.item_part.ItemPart.TheVariants as parts
use Rattle.tptp_grammar.specs.Spells.{IsGeneral, IsGeneralList, AreGenerals, IsData}
use Rattle.tptp_grammar.specs.Spells.IsGeneral.{data_alone, data_with, in_list}
use Rattle.tptp_grammar.specs.Spells.IsGeneralList.{empty_list, whole_list}
use Rattle.tptp_grammar.specs.Spells.AreGenerals.{no_general, next_general}
use Rattle.tptp_grammar.specs.Spells.IsData.{plain, word_alone, word_with}
use Rattle.tptp_grammar.proofs.Watching.{Watching, nothing, right, chosen, respelled, deeper, loosened}
use Rattle.tptp_grammar.proofs.Single.{takes_other, token_of, word_of, plain_of}

module _ (all : List Token) (scope : List Text) where
  mutual
    -- a general term
    pub general_watched : {level : ℕ} {us : List Token} → IsGeneral level us →
        Watching all (parts.General level ∷ []) level level us scope scope (Unit {0})
    general_watched {us = us} (data_alone datum) =
        respelled all (append-nil us)
        (chosen all (inl refl) (right all (data_watched datum) (chosen all (inl refl) (nothing all))))
    general_watched (data_with us colon vs datum mark general split) =
        respelled all (sym split)
        (chosen all (inl refl) (right all (data_watched datum)
        (chosen all (inr (inl refl)) (right all (token_of all kind.Colon colon refl mark) (general_watched general)))))
    general_watched (in_list list) = chosen all (inr (inl refl)) (general_list_watched list)

    -- a list of general terms
    pub general_list_watched : {level : ℕ} {us : List Token} → IsGeneralList level us →
        Watching all (parts.List level ∷ []) level level us scope scope (Unit {0})
    general_list_watched (empty_list {level = level} first last below opens closes split) =
        respelled all (sym split)
        (chosen all (inl refl)
        (deeper all level kind.OpenBracket first below (takes_other all first kind.OpenBracket refl opens)
        (chosen all (inl refl) (token_of all kind.CloseBracket last refl closes))))
    general_list_watched (whole_list {level = level} first us vs last below opens general generals closes split) =
        respelled all (sym split)
        (chosen all (inl refl)
        (deeper all level kind.OpenBracket first below (takes_other all first kind.OpenBracket refl opens)
        (loosened all level
        (chosen all (inr (inl refl)) (right all (general_watched general) (right all (generals_watched generals)
        (token_of all kind.CloseBracket last refl closes)))))))

    -- further general terms
    generals_watched : {level : ℕ} {us : List Token} → AreGenerals level us →
        Watching all (parts.GeneralsRest level ∷ []) level level us scope scope (Unit {0})
    generals_watched no_general = chosen all (inl refl) (nothing all)
    generals_watched (next_general comma us vs mark general generals split) =
        respelled all (sym split)
        (chosen all (inr (inl refl)) (right all (token_of all kind.Comma comma refl mark)
        (right all (general_watched general) (generals_watched generals))))

    -- data
    data_watched : {level : ℕ} {us : List Token} → IsData level us →
        Watching all (parts.Data level ∷ []) level level us scope scope (Unit {0})
    data_watched (plain t kinds split) = respelled all (sym split) (chosen all (inl refl) (plain_of all t kinds))
    data_watched (word_alone t is_word split) =
        respelled all (sym split)
        (chosen all (inr (inl refl)) (right all (word_of all t is_word) (chosen all (inl refl) (nothing all))))
    data_watched (word_with {level = level} t first us vs last is_word below opens general generals closes split) =
        respelled all (sym split)
        (chosen all (inr (inl refl)) (right all (word_of all t is_word)
        (chosen all (inr (inl refl))
        (deeper all level kind.OpenParenthesis first below (takes_other all first kind.OpenParenthesis refl opens)
        (loosened all level
        (right all (general_watched general) (right all (generals_watched generals)
        (token_of all kind.CloseParenthesis last refl closes))))))))
