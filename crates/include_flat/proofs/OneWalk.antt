-- The walk from a file on is one list of entries.
use Rattle.std.proofs.Common.{ℕ, ◌≡◌, List, [], ◌∷◌, ◌++◌, length, refl, sym, ap, subst, ◌∙◌, arith}
use Rattle.text_core.specs.Names.{Text}
use Rattle.logic_core.specs.declared.problem.Item.{Item}
use Rattle.io_core.specs.Held.{Held}
use Rattle.tptp_lexer.specs.Tokens.{Token}
use Rattle.tptp_lexer.proofs.Laws as exact
use Rattle.tptp_grammar.specs.Spells.{AreItemsOf}
use Rattle.tptp_grammar.specs.Texts.{SyntaxFault}
use Rattle.tptp_grammar.proofs.Laws.{items_same, fault_same, items_no_fault}
use Rattle.include_flat.specs.declared.refusal.FlatWhy.TheVariants.{Lex, Syntax}
use Rattle.include_flat.specs.Walks.{Entry, Selections, WalksFile, WalksBytes, WalksItems, kept_entries, with_selection}
use Rattle.include_flat.specs.Walks.Entry.{fetched, stop}
use Rattle.include_flat.specs.Walks.WalksFile.{too_deep, not_held, too_long, read}
use Rattle.include_flat.specs.Walks.WalksBytes.{no_tokens, no_items, with_items}
use Rattle.include_flat.specs.Walks.WalksItems.{end, formula, inclusion}

module _ (held : Held) where
  mutual
    -- a file has one walk
    pub one_walk : (left : ℕ) (selections : Selections) (file : Text) (a b : List Entry) →
        WalksFile held left selections file a → WalksFile held left selections file b → a ≡ b
    one_walk _ selections file _ _ too_deep too_deep = refl
    one_walk _ selections file _ _ (not_held none) (not_held also) = refl
    one_walk _ selections file _ _ (not_held none) (too_long bytes some long) = absurd cc
    one_walk _ selections file _ _ (not_held none) (read bytes some short walk) = absurd cc
    one_walk _ selections file _ _ (too_long bytes some long) (not_held none) = absurd cc
    one_walk _ selections file _ _ (too_long bytes some long) (too_long also here more) = refl
    one_walk _ selections file _ _ (too_long bytes some long) (read also here short walk) =
        let same : bytes ≡ also = cc in
        absurd (let e = ap length same in omega arith)
    one_walk _ selections file _ _ (read bytes some short walk) (not_held none) = absurd cc
    one_walk _ selections file _ _ (read bytes some short walk) (too_long also here long) =
        let same : bytes ≡ also = cc in
        absurd (let e = ap length same in omega arith)
    one_walk _ selections file _ _ (read {left = left} {entries = es} bytes some short walk) (read {entries = fs} also here few other) =
        let same : bytes ≡ also = cc in
        let rest : es ≡ fs = one_of_bytes left selections file bytes es fs walk
        (subst (λ (bs : Text). WalksBytes held left selections file bs fs) (sym same) other) in
        λ i. fetched file (length (same i)) ∷ rest i

    -- bytes have one walk
    one_of_bytes : (left : ℕ) (selections : Selections) (file bytes : Text) (a b : List Entry) →
        WalksBytes held left selections file bytes a → WalksBytes held left selections file bytes b → a ≡ b
    one_of_bytes left selections file bytes _ _ (no_tokens refusal fault) (no_tokens other also) =
        ap (λ r. stop file (Lex r) ∷ []) (exact.one_fault bytes refusal other fault also)
    one_of_bytes left selections file bytes _ _ (no_tokens refusal fault) (no_items ts other tokens also) =
        absurd (exact.never_both bytes ts refusal tokens fault)
    one_of_bytes left selections file bytes _ b (no_tokens refusal fault) (with_items ts items tokens text walk) =
        absurd (exact.never_both bytes ts refusal tokens fault)
    one_of_bytes left selections file bytes _ _ (no_items ts refusal tokens fault) (no_tokens other also) =
        absurd (exact.never_both bytes ts other tokens also)
    one_of_bytes left selections file bytes _ _ (no_items ts refusal tokens fault) (no_items us other others also) =
        let same = exact.one_list bytes ts us tokens others in
        ap (λ r. stop file (Syntax r) ∷ []) (fault_same (record { source = bytes; tokens = ts }) refusal other fault
        (subst (λ (xs : List Token). SyntaxFault (record { source = bytes; tokens = xs }) other) (sym same) also))
    one_of_bytes left selections file bytes _ b (no_items ts refusal tokens fault) (with_items us items others text walk) =
        let same = exact.one_list bytes ts us tokens others in
        absurd (items_no_fault (record { source = bytes; tokens = ts }) items refusal (subst (λ (xs : List Token). AreItemsOf xs items) (sym same) text) fault)
    one_of_bytes left selections file bytes a _ (with_items ts items tokens text walk) (no_tokens refusal fault) =
        absurd (exact.never_both bytes ts refusal tokens fault)
    one_of_bytes left selections file bytes a _ (with_items ts items tokens text walk) (no_items us refusal others fault) =
        let same = exact.one_list bytes ts us tokens others in
        absurd (items_no_fault (record { source = bytes; tokens = us }) items refusal (subst (λ (xs : List Token). AreItemsOf xs items) same text) fault)
    one_of_bytes left selections file bytes a b (with_items ts items tokens text walk) (with_items us others also also_text other) =
        let same = exact.one_list bytes ts us tokens also in
        let one = items_same ts items others text (subst (λ (xs : List Token). AreItemsOf xs others) (sym same) also_text) in
        one_of_items left selections file items a b walk
        (subst (λ (xs : List Item). WalksItems held left selections file xs b) (sym one) other)

    -- items have one walk
    one_of_items : (left : ℕ) (selections : Selections) (file : Text) (items : List Item) (a b : List Entry) →
        WalksItems held left selections file items a → WalksItems held left selections file items b → a ≡ b
    one_of_items left selections file _ _ _ end end = refl
    one_of_items left selections file _ a b (formula {items = items} fof rest walk split) (formula _ more other also) =
        split ∙ ap (λ (es : List Entry). kept_entries file selections fof ++ es)
        (one_of_items left selections file items rest more walk other) ∙ sym also
    one_of_items left selections file _ a b (inclusion {items = items} name only front rest inner walk split)
        (inclusion _ _ first more outer other parts) =
        let fronts : front ≡ first = one_walk left (with_selection only selections) name front first inner outer in
        let rests : rest ≡ more = one_of_items left selections file items rest more walk other in
        split ∙ (λ i. fronts i ++ rests i) ∙ sym parts
