-- The formulas of a flat problem are those that a problem may have.
use Rattle.std.proofs.Common.{ℕ, Bool, true, false, if◌then◌else◌, List, [], ◌∷◌, sym, subst}
use Rattle.std.specs.List.{AllByRecursion}
use Rattle.text_core.specs.Names.{Text}
use Rattle.text_core.proofs.Laws.{each_append}
use Rattle.logic_core.specs.Allowed.{FofIsAllowed, ItemIsAllowed}
use Rattle.logic_core.specs.declared.problem.Fof.{Fof}
use Rattle.logic_core.specs.declared.problem.Item.{Item}
use Rattle.io_core.specs.Held.{Held}
use Rattle.tptp_grammar.proofs.Laws.{items_allowed}
use Rattle.include_flat.specs.Walks.{Entry, Selections, WalksFile, WalksBytes, WalksItems, kept_entries, is_selected, with_selection}
use Rattle.include_flat.specs.Walks.Entry.{fetched, kept, missing, stop}
use Rattle.include_flat.specs.Walks.WalksFile.{too_deep, not_held, too_long, read}
use Rattle.include_flat.specs.Walks.WalksBytes.{no_tokens, no_items, with_items}
use Rattle.include_flat.specs.Walks.WalksItems.{end, formula, inclusion}
use Rattle.include_flat.specs.Flattened.{IsFlat, kept_of}

-- the formula of an entry may be in a problem
abbrev EntryIsAllowed : Entry → Type 0
EntryIsAllowed (kept file fof) = FofIsAllowed fof
EntryIsAllowed entry = Unit {0}

-- so may those that are kept
kept_allowed : (entries : List Entry) → AllByRecursion EntryIsAllowed entries → AllByRecursion FofIsAllowed (kept_of entries)
kept_allowed [] each = tt
kept_allowed (fetched file n ∷ entries) each = kept_allowed entries each.1
kept_allowed (kept file fof ∷ entries) each = (each.0, kept_allowed entries each.1)
kept_allowed (missing file ∷ entries) each = kept_allowed entries each.1
kept_allowed (stop file why ∷ entries) each = kept_allowed entries each.1

-- the entries of a formula
entries_allowed : (file : Text) (selections : Selections) (fof : Fof) → FofIsAllowed fof → AllByRecursion EntryIsAllowed (kept_entries file selections fof)
entries_allowed file selections fof allowed = go (is_selected selections fof.name)
  where
    go : (b : Bool) → AllByRecursion EntryIsAllowed (if b then kept file fof ∷ [] else [])
    go true = (allowed, tt)
    go false = tt

module _ (held : Held) where
  mutual
    -- the formulas of the walk over a file may be in a problem
    file_allowed : (left : ℕ) (selections : Selections) (file : Text) (entries : List Entry) → WalksFile held left selections file entries
        → AllByRecursion EntryIsAllowed entries
    file_allowed _ selections file _ too_deep = (tt, tt)
    file_allowed _ selections file _ (not_held none) = (tt, tt)
    file_allowed _ selections file _ (too_long bytes some long) = (tt, tt)
    file_allowed _ selections file _ (read {left = left} {entries = entries} bytes some short walk) =
        (tt, bytes_allowed left selections file bytes entries walk)

    -- and those of the walk over its bytes
    bytes_allowed : (left : ℕ) (selections : Selections) (file bytes : Text) (entries : List Entry) → WalksBytes held left selections file bytes entries
        → AllByRecursion EntryIsAllowed entries
    bytes_allowed left selections file bytes _ (no_tokens refusal fault) = (tt, tt)
    bytes_allowed left selections file bytes _ (no_items ts refusal tokens fault) = (tt, tt)
    bytes_allowed left selections file bytes entries (with_items ts items tokens text walk) =
        of_items_allowed left selections file items entries walk (items_allowed ts items text.spelled text.closed)

    -- and those of the walk over items that may be in a problem
    of_items_allowed : (left : ℕ) (selections : Selections) (file : Text) (items : List Item) (entries : List Entry)
        → WalksItems held left selections file items entries → AllByRecursion ItemIsAllowed items → AllByRecursion EntryIsAllowed entries
    of_items_allowed left selections file _ _ end allowed = tt
    of_items_allowed left selections file _ all (formula {items = items} fof rest walk is) allowed =
        subst (AllByRecursion EntryIsAllowed) (sym is)
        (each_append EntryIsAllowed (kept_entries file selections fof) rest (entries_allowed file selections fof allowed.0)
        (of_items_allowed left selections file items rest walk allowed.1))
    of_items_allowed left selections file _ all (inclusion {items = items} name only front rest inner walk is) allowed =
        subst (AllByRecursion EntryIsAllowed) (sym is)
        (each_append EntryIsAllowed front rest (file_allowed left (with_selection only selections) name front inner)
        (of_items_allowed left selections file items rest walk allowed.1))

-- the formulas of a flat problem may be in a problem
pub flat_allowed : (held : Held) (name : Text) (problem : List Fof) → IsFlat held name problem → AllByRecursion FofIsAllowed problem
flat_allowed held name problem (entries, walk, none, is) =
    subst (AllByRecursion FofIsAllowed) (sym is) (kept_allowed entries (file_allowed held _ _ _ entries walk))
