-- A spelled structure has an element, and its constants stand for elements.
use Rattle.std.specs.Prelude.{ℕ, ◌≡◌, ◌<◌, nat_lt, Bool, true, false, List, [], ◌∷◌, if◌then◌else◌}
use Rattle.std.proofs.Common.{refl}
use Rattle.std.proofs.Math.Nat.{zero-lt-suc}
use Rattle.std.proofs.lemmas.Bool.{ltb-true}
use Rattle.text_core.specs.Names.{Text}
use Rattle.finite_model.specs.Coded.{IsCodedElement, coded_size, coded_blocks, coded_place, within_size, place_among}

-- what is kept within a size is below it
pub kept_within : (size x : ℕ) → 0 < size → within_size size x < size
kept_within size x some = by (nat_lt x size) refl
  where
    by : (b : Bool) → nat_lt x size ≡ b → (if b then x else 0) < size
    by true e = ltb-true x size e
    by false e = some

pub coded_inhabited : (ks : List ℕ) → IsCodedElement ks 0
coded_inhabited [] = zero-lt-suc 0
coded_inhabited (n ∷ ks) = zero-lt-suc n

pub coded_placed : (ks : List ℕ) (constant : Text) → IsCodedElement ks (coded_place ks constant)
coded_placed ks constant =
    kept_within (coded_size ks) (place_among (coded_blocks ks) constant) (coded_inhabited ks)
