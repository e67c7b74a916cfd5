-- A hash table of texts answers as the finite map of its entries.
use Rattle.std.proofs.Common.{◌≡◌, ℕ, Bool, true, false, cond, List, [], ◌∷◌, Option, Some, None, refl, sym, ap, subst, ◌∙◌, nat_eq}
use Rattle.std.specs.Global.{Vec}
use Rattle.std.specs.Option.{option_map}
use Rattle.std.specs.Map.{lookup, IsKeyTest, AreApart, KeepsOthers}
use Rattle.std.specs.Ordering.{nat_cmp}
use Rattle.std.specs.Cmp.{unsigned_ties}
use Rattle.std.specs.Cmp.Lexicographic.{slice_cmp, pointwise, lists_ties, bytes_decides, nat_list_cmp_total, nat_list_eq_equiv}
use Rattle.std.specs.FinMap as finite
use Rattle.io_core.specs.Entries.{texts_of, held_by}

-- the entries of a table, each a key with its value
abbrev Entries : Type 0
Entries = List (Vec ℕ × Vec ℕ)

-- whether the key has this name
abbrev has_name : List ℕ → Vec ℕ → Bool
has_name name key = pointwise nat_eq name key.items

-- the bytes of a choice are the choice of the bytes
items_of_cond : (b : Bool) (v : Vec ℕ) (o : Option (Vec ℕ))
    → option_map (λ v. v.items) (cond b (Some v) o) ≡ cond b (Some v.items) (option_map (λ v. v.items) o)
items_of_cond true v o = refl
items_of_cond false v o = refl

-- the bytes that a look-up of a name finds are those that a search for the name finds
found : (es : Entries) (name : List ℕ) → option_map (λ v. v.items) (lookup (has_name name) es) ≡ finite.find (slice_cmp nat_cmp) name (texts_of es)
found [] name = refl
found (e ∷ es) name =
    items_of_cond (has_name name e.0) e.1 (lookup (has_name name) es)
    ∙ (λ i. cond (lists_ties nat_cmp unsigned_ties name e.0.items i) (Some e.1.items) (found es name i))

-- what the map has under a name is what a look-up finds
pub get-held_by : (es : Entries) (name : List ℕ) → finite.get (held_by es) name ≡ option_map (λ v. v.items) (lookup (λ k. pointwise nat_eq name k.items) es)
get-held_by es name = finite.get-from_entries nat_list_cmp_total (texts_of es) name ∙ sym (found es name)

-- a look-up that found nothing, and one that found bytes
pub get-held_by-none : (es : Entries) (name : List ℕ) → lookup (λ k. pointwise nat_eq name k.items) es ≡ None → finite.get (held_by es) name ≡ None
get-held_by-none es name e = get-held_by es name ∙ ap (option_map (λ v. v.items)) e

-- what the map has under a name, where a look-up found bytes
pub get-held_by-some : (es : Entries) (name : List ℕ) (v : Vec ℕ) → lookup (λ k. pointwise nat_eq name k.items) es ≡ Some v → finite.get (held_by es) name ≡ Some v.items
get-held_by-some es name v e = get-held_by es name ∙ ap (option_map (λ v. v.items)) e

-- a look-up by a test that is apart from the changed one finds what it found before
other_names : (test : Vec ℕ → Bool) (old new : Entries) → KeepsOthers (λ x y. pointwise nat_eq x.items y.items) test old new
    → (other : Vec ℕ → Bool) → IsKeyTest (λ x y. pointwise nat_eq x.items y.items) other → AreApart test other → lookup other new ≡ lookup other old
unfolding KeepsOthers
other_names test old new h = h

module _ (old new : Entries) (key value : Vec ℕ)
    (here : lookup (has_name key.items) new ≡ Some value)
    (others : KeepsOthers (λ x y. pointwise nat_eq x.items y.items) (has_name key.items) old new) where
  -- the tests for two names that differ are apart
  apart : (name : List ℕ) → pointwise nat_eq name key.items ≡ false → AreApart (has_name key.items) (has_name name)
  apart name n k y =
      nat_list_eq_equiv.symm name k.items
      ∙ sym (nat_list_eq_equiv.congr key.items k.items name y)
      ∙ nat_list_eq_equiv.symm key.items name
      ∙ n

  -- the new table has the value under its key, and under any other name what the old one has
  at_name : (name : List ℕ) (b : Bool) → pointwise nat_eq name key.items ≡ b
      → option_map (λ v. v.items) (lookup (has_name name) new) ≡ cond b (Some value.items) (option_map (λ v. v.items) (lookup (has_name name) old))
  at_name name true e =
      subst (λ l. option_map (λ v. v.items) (lookup (has_name l) new) ≡ Some value.items) (sym ((bytes_decides name key.items).0 e)) (ap (option_map (λ v. v.items)) here)
  at_name name false e =
      ap (option_map (λ v. v.items)) (other_names (has_name key.items) old new others (has_name name) (λ x y. nat_list_eq_equiv.congr name x.items y.items) (apart name e))

  -- after an entry is put into the table, the map has its bytes under its name
  pub held_by-insert : held_by new ≡ finite.insert (held_by old) key.items value.items
  held_by-insert =
      finite.same_map nat_list_cmp_total (finite.slice_cmp-IsAntisymmetric finite.nat_cmp-IsAntisymmetric) (held_by new) (finite.insert (held_by old) key.items value.items)
      (λ name.
      get-held_by new name
      ∙ at_name name (pointwise nat_eq name key.items) refl
      ∙ (λ i. cond (lists_ties nat_cmp unsigned_ties name key.items i) (Some value.items) (sym (get-held_by old name) i))
      ∙ sym (finite.get-insert nat_list_cmp_total (held_by old) key.items value.items name))
