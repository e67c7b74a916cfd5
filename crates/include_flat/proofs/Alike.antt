-- A walk depends only on which names are in every selection.
use Rattle.std.proofs.Common.{ℕ, ◌≡◌, Bool, cond, List, [], ◌∷◌, ◌++◌, Option, Some, None, ap, ◌∙◌, ◌&&◌}
use Rattle.std.specs.List.{list_any}
use Rattle.std.specs.Str.{bytes_eq}
use Rattle.text_core.specs.Names.{Text}
use Rattle.logic_core.specs.declared.problem.Fof.{Fof}
use Rattle.logic_core.specs.declared.problem.Item.{Item}
use Rattle.io_core.specs.Held.{Held}
use Rattle.include_flat.specs.declared.refusal.FlatWhy.{FlatWhy}
use Rattle.include_flat.specs.declared.walked.Walked.{Walked}
use Rattle.include_flat.specs.Walks.{Entry, Selections, WalksFile, WalksBytes, WalksItems, kept_entries, with_selection}
use Rattle.include_flat.specs.Walks.Entry.{kept}
use Rattle.include_flat.specs.Walks.WalksFile.{too_deep, not_held, too_long, read}
use Rattle.include_flat.specs.Walks.WalksBytes.{no_tokens, no_items, with_items}
use Rattle.include_flat.specs.Walks.WalksItems.{end, formula, inclusion}
use Rattle.io_core.specs.Known.{Known}
use Rattle.include_flat.specs.Progress.{PassesOver, RefusesOver, over_file, AreAlike}
use Rattle.include_flat.proofs.Told.{where_told}
use Rattle.include_flat.proofs.Passing.{refuses_so}

-- selections that are alike stay so with one more
alike_further : (only : Option (List Text)) (selections others : Selections) → AreAlike selections others →
    AreAlike (with_selection only selections) (with_selection only others)
alike_further None selections others h = h
alike_further (Some names) selections others h = record { alike = λ name. ap (λ b. list_any (bytes_eq name) names && b) (h.alike name) }

-- selections that are alike keep a formula, or leave it out, alike
entries_alike : (file : Text) (selections others : Selections) (fof : Fof) → AreAlike selections others →
    kept_entries file selections fof ≡ kept_entries file others fof
entries_alike file selections others fof h = ap (λ (test : Bool). cond test (kept file fof ∷ []) []) (h.alike fof.name)

module _ (held : Held) where
  mutual
    -- a walk over a file is one with selections that are alike
    walk_alike : (left : ℕ) (selections others : Selections) (file : Text) (entries : List Entry) → AreAlike selections others →
        WalksFile held left selections file entries → WalksFile held left others file entries
    walk_alike _ selections others file _ alike too_deep = too_deep
    walk_alike _ selections others file _ alike (not_held none) = not_held none
    walk_alike _ selections others file _ alike (too_long bytes is long) = too_long bytes is long
    walk_alike _ selections others file _ alike (read {left = left} {entries = rest} bytes is short walk) =
        read bytes is short (bytes_alike left selections others file bytes rest alike walk)

    -- a walk over bytes is one with selections that are alike
    bytes_alike : (left : ℕ) (selections others : Selections) (file bytes : Text) (entries : List Entry) → AreAlike selections others →
        WalksBytes held left selections file bytes entries → WalksBytes held left others file bytes entries
    bytes_alike left selections others file bytes _ alike (no_tokens refusal fault) = no_tokens refusal fault
    bytes_alike left selections others file bytes _ alike (no_items ts refusal tokens fault) = no_items ts refusal tokens fault
    bytes_alike left selections others file bytes entries alike (with_items ts items tokens text walk) =
        with_items ts items tokens text (items_alike left selections others file items entries alike walk)

    -- a walk over items is one with selections that are alike
    items_alike : (left : ℕ) (selections others : Selections) (file : Text) (items : List Item) (entries : List Entry) →
        AreAlike selections others → WalksItems held left selections file items entries → WalksItems held left others file items entries
    items_alike left selections others file _ _ alike end = end
    items_alike left selections others file _ entries alike (formula {items = items} fof rest walk split) =
        formula fof rest (items_alike left selections others file items rest alike walk)
        (split ∙ ap (λ (front : List Entry). front ++ rest) (entries_alike file selections others fof alike))
    items_alike left selections others file _ entries alike (inclusion {items = items} name only front rest inner walk split) =
        inclusion name only front rest
        (walk_alike left (with_selection only selections) (with_selection only others) name front (alike_further only selections others alike) inner)
        (items_alike left selections others file items rest alike walk) split

module _ (left : ℕ) (selections others : Selections) (file : Text) (files later : Known) (before : Walked) (alike : AreAlike selections others) where
  -- a file that is passed is passed with selections that are alike
  pub passes_alike : (after : Walked) → PassesOver (over_file left selections file) files later before after →
      PassesOver (over_file left others file) files later before after
  passes_alike after p = record {
    stays = p.stays;
    part = where_told files.held _ _ (λ held w. record {
      entries = w.entries;
      walk = walk_alike held left selections others file w.entries alike w.walk;
      passed = w.passed;
    }) p.part;
  }

  -- a file that is refused is refused with selections that are alike
  pub refuses_alike : (refused : Text) (why : FlatWhy) → RefusesOver (over_file left selections file) files later before refused why →
      RefusesOver (over_file left others file) files later before refused why
  refuses_alike refused why r = record {
    leaves = r.leaves;
    memory = r.memory;
    ends = where_told files.held _ _ (λ held h. refuses_so (over_file left others file held) (over_file left selections file held) before
        (λ entries walk. walk_alike held left selections others file entries alike walk) refused why h) r.ends;
  }

-- with one more selection
module _ (left : ℕ) (selections others : Selections) (only : Option (List Text)) (names : List Text) (name file : Text) (files later : Known)
    (before : Walked) (is : only ≡ Some names) (same : name ≡ file) (alike : AreAlike selections (names ∷ others)) where
  -- a file that is passed with one more selection is passed inside the inclusion that has it
  pub passes_within : (after : Walked) → PassesOver (over_file left selections name) files later before after →
      PassesOver (over_file left (with_selection only others) file) files later before after
  passes_within after p = rw is (passes_alike left selections (names ∷ others) file files later before alike after (rw same at p))

  -- a file that is refused with one more selection is refused inside the inclusion that has it
  pub refuses_within : (refused : Text) (why : FlatWhy) → RefusesOver (over_file left selections name) files later before refused why →
      RefusesOver (over_file left (with_selection only others) file) files later before refused why
  refuses_within refused why r = rw is (refuses_alike left selections (names ∷ others) file files later before alike refused why (rw same at r))
