-- Each file has a walk.
use Rattle.std.proofs.Common.{ℕ, zero, suc, ◌≡◌, ◌≤◌, ◌<◌, ◌⊎◌, inl, inr, Bool, true, false, List, [], ◌∷◌, ◌++◌, length, Option, Some, None, refl, arith, nat_lt}
use Rattle.std.proofs.lemmas.Bool.Decides.{nat_tests}
use Rattle.std.specs.FinMap as finite
use Rattle.text_core.specs.declared.limits.TheConstants.{MOST_FILE_BYTES}
use Rattle.text_core.specs.Names.{Text}
use Rattle.logic_core.specs.declared.problem.Item.{Item}
use Rattle.logic_core.specs.declared.problem.Item.TheVariants.{Fof as ItemFof, Include}
use Rattle.io_core.specs.Held.{Held}
use Rattle.tptp_lexer.specs.declared.refusal.LexRefusal.{LexRefusal}
use Rattle.tptp_lexer.specs.Tokens.{Token, AreTokens}
use Rattle.tptp_lexer.specs.Refused.{LexFault}
use Rattle.tptp_lexer.proofs.Laws.{some_answer}
use Rattle.tptp_grammar.specs.declared.refusal.SyntaxRefusal.{SyntaxRefusal}
use Rattle.tptp_grammar.specs.Spells.{AreItemsOf}
use Rattle.tptp_grammar.specs.Texts.{SyntaxFault}
use Rattle.tptp_grammar.proofs.Laws.{items_or_refusal}
use Rattle.include_flat.specs.declared.refusal.FlatWhy.TheVariants.{Lex, Syntax, FileTooLong, IncludeDepth}
use Rattle.include_flat.specs.Walks.{Entry, Selections, WalksFile, WalksBytes, WalksItems, kept_entries, with_selection}
use Rattle.include_flat.specs.Walks.Entry.{fetched, missing, stop}
use Rattle.include_flat.specs.Walks.WalksFile.{too_deep, not_held, too_long, read}
use Rattle.include_flat.specs.Walks.WalksBytes.{no_tokens, no_items, with_items}
use Rattle.include_flat.specs.Walks.WalksItems.{end, formula, inclusion}

-- the bytes of a file are within the bound, or too many
short_or_long : (bytes : Text) → (length bytes ≤ MOST_FILE_BYTES) ⊎ (MOST_FILE_BYTES < length bytes)
short_or_long bytes = by (nat_lt MOST_FILE_BYTES (length bytes)) refl
  where
    by : (test : Bool) → nat_lt MOST_FILE_BYTES (length bytes) ≡ test → (length bytes ≤ MOST_FILE_BYTES) ⊎ (MOST_FILE_BYTES < length bytes)
    by true e = inr (grind (arith, nat_tests))
    by false e = inl (grind (arith, nat_tests))

module _ (held : Held) where
  -- a walk over a file, over bytes and over items
  pub record HasWalk (left : ℕ) (selections : Selections) (file : Text) : Type 0 where
    pub entries : List Entry
    pub walk : WalksFile held left selections file entries

  -- a walk over bytes
  pub record HasWalkOfBytes (left : ℕ) (selections : Selections) (file bytes : Text) : Type 0 where
    pub entries : List Entry
    pub walk : WalksBytes held left selections file bytes entries

  -- a walk over items
  pub record HasWalkOfItems (left : ℕ) (selections : Selections) (file : Text) (items : List Item) : Type 0 where
    pub entries : List Entry
    pub walk : WalksItems held left selections file items entries

  -- with one level less
  module _ (left : ℕ) (inner : (selections : Selections) (file : Text) → HasWalk left selections file) (selections : Selections) (file : Text) where
    -- items have a walk where the files below have one
    items_walk : (items : List Item) → HasWalkOfItems left selections file items
    items_walk [] = record { entries = []; walk = end }
    items_walk (ItemFof fof ∷ items) =
        let rest = items_walk items in
        record { entries = kept_entries file selections fof ++ rest.entries; walk = formula fof rest.entries rest.walk refl }
    items_walk (Include name only ∷ items) =
        let front = inner (with_selection only selections) name in
        let rest = items_walk items in
        record { entries = front.entries ++ rest.entries; walk = inclusion name only front.entries rest.entries front.walk rest.walk refl }

    -- bytes have a walk where the files below have one
    bytes_walk : (bytes : Text) → HasWalkOfBytes left selections file bytes
    bytes_walk bytes = by (some_answer bytes)
      where
        by_items : (ts : List Token) → AreTokens bytes ts →
            ((items : List Item) × AreItemsOf ts items) ⊎ ((fault : SyntaxRefusal) × SyntaxFault (record { source = bytes; tokens = ts }) fault) →
            HasWalkOfBytes left selections file bytes
        by_items ts tokens (inl (items, text)) =
            let rest = items_walk items in
            record { entries = rest.entries; walk = with_items ts items tokens text rest.walk }
        by_items ts tokens (inr (refusal, fault)) = record { entries = stop file (Syntax refusal) ∷ []; walk = no_items ts refusal tokens fault }

        by : ((ts : List Token) × AreTokens bytes ts) ⊎ ((refusal : LexRefusal) × LexFault bytes refusal) → HasWalkOfBytes left selections file bytes
        by (inl (ts, tokens)) = by_items ts tokens (items_or_refusal bytes ts tokens)
        by (inr (refusal, fault)) = record { entries = stop file (Lex refusal) ∷ []; walk = no_tokens refusal fault }

    -- a file has a walk where the files below have one
    file_walk : HasWalk (suc left) selections file
    file_walk = by (finite.get held file) refl
      where
        opened : (bytes : Text) → finite.get held file ≡ Some bytes → (length bytes ≤ MOST_FILE_BYTES) ⊎ (MOST_FILE_BYTES < length bytes) →
            HasWalk (suc left) selections file
        opened bytes e (inl short) =
            let rest = bytes_walk bytes in
            record { entries = fetched file (length bytes) ∷ rest.entries; walk = read bytes e short rest.walk }
        opened bytes e (inr long) = record { entries = stop file FileTooLong ∷ []; walk = too_long bytes e long }

        by : (found : Option Text) → finite.get held file ≡ found → HasWalk (suc left) selections file
        by None e = record { entries = missing file ∷ []; walk = not_held e }
        by (Some bytes) e = opened bytes e (short_or_long bytes)

  -- each file has a walk
  pub some_walk : (left : ℕ) (selections : Selections) (file : Text) → HasWalk left selections file
  some_walk zero selections file = record { entries = stop file IncludeDepth ∷ []; walk = too_deep }
  some_walk (suc left) selections file = file_walk left (λ inner name. some_walk left inner name) selections file

  -- bytes have a walk
  pub some_walk_of_bytes : (left : ℕ) (selections : Selections) (file bytes : Text) → HasWalkOfBytes left selections file bytes
  some_walk_of_bytes left selections file bytes = bytes_walk left (some_walk left) selections file bytes

  -- items have a walk
  pub some_walk_of_items : (left : ℕ) (selections : Selections) (file : Text) (items : List Item) → HasWalkOfItems left selections file items
  some_walk_of_items left selections file items = items_walk left (some_walk left) selections file items
