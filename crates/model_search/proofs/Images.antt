-- The image of a candidate under an exchange of elements: what is true of the one is true of the
-- other.
use Rattle.std.proofs.Common.{◌≡◌, ℕ, zero, suc, ◌+◌, ◌<◌, ◌==◌, Bool, true, false, List, [], ◌∷◌, ◌++◌, map, length, refl, sym, ◌∙◌, ap, subst, arith, eq-eqb}
use Rattle.std.specs.Prelude.{slice_index}
use Rattle.std.specs.List.{AllByRecursion}
use Rattle.text_core.proofs.Laws.{number_same, not_passes, each_both, some_both}
use Rattle.logic_core.specs.Forms.{are_equal, slot_value, SlotIsBelow, AtomIsBelow, IsWellFormed, AreElements, AtomTrue, ConclusionTrue, FormTrue}
use Rattle.logic_core.specs.declared.form.Atom.{Atom}
use Rattle.logic_core.specs.declared.form.Form.{Form}
use Rattle.logic_core.specs.declared.form.Slot.{Slot}
use Rattle.logic_core.specs.declared.form.Slot.TheVariants.{Variable, Constant}
use Rattle.model_search.specs.Candidates.{Candidate, world, holds_in}
use Rattle.model_search.specs.Orders.{AreFormedRules}
use Rattle.model_search.specs.Rules.{SomeTrue, SuitsRules}
use Rattle.model_search.specs.declared.rule.Rule.{Rule}

-- the number at an index of images
index_map : (f : ℕ → ℕ) (xs : List ℕ) (i : ℕ) → i < length xs → f (slice_index xs i) ≡ slice_index (map f xs) i
index_map f [] i h = absurd (omega arith)
index_map f (x ∷ xs) zero h = refl
index_map f (x ∷ xs) (suc i) h = index_map f xs i (omega arith)

pub map_length : (f : ℕ → ℕ) (xs : List ℕ) → length (map f xs) ≡ length xs
map_length f [] = refl
map_length f (x ∷ xs) = ap suc (map_length f xs)

pub length_both : (xs ys : List ℕ) → length (xs ++ ys) ≡ length xs + length ys
length_both [] ys = omega arith
length_both (x ∷ xs) ys = let rest = length_both xs ys in omega (arith, rest)

module _ (f : ℕ → ℕ) (twice : (x : ℕ) → f (f x) ≡ x) where
  -- equal images are of equal numbers
  same_images : (x y : ℕ) → (x == y) ≡ (f x == f y)
  same_images x y = by (x == y) refl
    where
      by : (b : Bool) → (x == y) ≡ b → b ≡ (f x == f y)
      by true e = sym (eq-eqb (f x) (f y) (ap f (number_same x y e)))
      by false e = sym (not_passes (f x == f y) (λ same.
          let t : true ≡ false = sym (eq-eqb x y (sym (twice x) ∙ ap f (number_same (f x) (f y) same) ∙ twice y)) ∙ e in absurd (cc)))

  equal_images : (xs : List ℕ) → are_equal xs ≡ are_equal (map f xs)
  equal_images [] = refl
  equal_images (x ∷ []) = refl
  equal_images (x ∷ y ∷ []) = same_images x y
  equal_images (x ∷ y ∷ z ∷ xs) = refl

  -- images behind an image of a front
  map_back : (zs : List ℕ) → zs ≡ map f (map f zs)
  map_back [] = refl
  map_back (z ∷ zs) = (λ i. sym (twice z) i ∷ map_back zs i)

  map_front : (xs ys : List ℕ) → map f xs ++ ys ≡ map f (xs ++ map f ys)
  map_front [] ys = map_back ys
  map_front (x ∷ xs) ys = ap (λ (zs : List ℕ). f x ∷ zs) (map_front xs ys)

  module _ (c : Candidate) where
    -- the image of a candidate
    abbrev pub image : Candidate
    image = record { size = c.size; holds = λ n xs. c.holds n (map f xs); place = λ k. f (c.place k) }

    holds_image : (symbol : ℕ) (xs : List ℕ) → holds_in image symbol xs ≡ holds_in c symbol (map f xs)
    holds_image zero xs = equal_images xs
    holds_image (suc n) xs = refl

    module _ (constants : ℕ) (values : List ℕ) where
      slot_image : (slot : Slot) → SlotIsBelow (length values) constants slot
          → f (slot_value (world image) values slot) ≡ slot_value (world c) (map f values) slot
      slot_image (Variable v) below = index_map f values v below
      slot_image (Constant k) below = twice (c.place k)

      slots_image : (slots : List Slot) → AllByRecursion (SlotIsBelow (length values) constants) slots
          → map f (map (slot_value (world image) values) slots) ≡ map (slot_value (world c) (map f values)) slots
      slots_image [] below = refl
      slots_image (slot ∷ slots) below = (λ i. slot_image slot below.0 i ∷ slots_image slots below.1 i)

      atom_image : (atom : Atom) → AtomIsBelow (length values) constants atom
          → holds_in image atom.symbol (map (slot_value (world image) values) atom.args)
          ≡ holds_in c atom.symbol (map (slot_value (world c) (map f values)) atom.args)
      atom_image atom below = holds_image atom.symbol (map (slot_value (world image) values) atom.args)
          ∙ ap (holds_in c atom.symbol) (slots_image atom.args below)

    -- an atom at values is true of the image where it is true of the candidate at the images
    atom_there : (constants n : ℕ) (values : List ℕ) → length values ≡ n → (atom : Atom) → AtomIsBelow n constants atom
        → AtomTrue (world image) values atom → AtomTrue (world c) (map f values) atom
    atom_there constants n values count atom below h =
        sym (atom_image constants values atom (subst (λ m. AtomIsBelow m constants atom) (sym count) below)) ∙ h

    atom_back : (constants n : ℕ) (values images : List ℕ) → length values ≡ n → images ≡ map f values → (atom : Atom)
        → AtomIsBelow n constants atom → AtomTrue (world c) images atom → AtomTrue (world image) values atom
    atom_back constants n values images count are atom below h =
        atom_image constants values atom (subst (λ m. AtomIsBelow m constants atom) (sym count) below)
        ∙ subst (λ xs. AtomTrue (world c) xs atom) are h

    -- some disjunct is true of the image at the images
    pub some_image : (constants : ℕ) (values : List ℕ) (disjuncts : List (List Atom))
        → AllByRecursion (AllByRecursion (AtomIsBelow (length values) constants)) disjuncts → SomeTrue c values disjuncts
        → SomeTrue image (map f values) disjuncts
    some_image constants values disjuncts below h =
        some_both
        (λ atoms low true. each_both
        (atom_back constants (length values) (map f values) values (map_length f values) (map_back values)) atoms low true)
        disjuncts below h

    module _ (within : (x : ℕ) → x < c.size → f x < c.size) where
      elements_image : (xs : List ℕ) → AllByRecursion (λ x. x < c.size) xs → AllByRecursion (λ x. x < c.size) (map f xs)
      elements_image [] h = tt
      elements_image (x ∷ xs) h = (within x h.0, elements_image xs h.1)

      are_image : (n : ℕ) (xs : List ℕ) → AreElements (world image) n xs → AreElements (world c) n (map f xs)
      are_image n xs h = record { length_is = map_length f xs ∙ h.length_is; are = elements_image xs h.are }

      are_back : (n : ℕ) (xs : List ℕ) → AreElements (world c) n xs → AreElements (world image) n (map f xs)
      are_back n xs h = record { length_is = map_length f xs ∙ h.length_is; are = elements_image xs h.are }

      -- a form is true of the image
      form_image : (constants : ℕ) (form : Form) → IsWellFormed constants form → FormTrue (world c) form → FormTrue (world image) form
      form_image constants form formed h values are premises =
          let conclusion : ConclusionTrue (world c) form (map f values) = h (map f values) (are_image form.universals values are)
          (each_both (atom_there constants form.universals values are.length_is) form.premises formed.premises premises) in
          let more = conclusion.existentials in
          let count : length (values ++ map f more) ≡ form.universals + form.existentials =
          length_both values (map f more)
          ∙ (λ i. are.length_is i + (map_length f more ∙ conclusion.values.length_is) i) in
          record {
            existentials = map f more;
            values = are_back form.existentials more conclusion.values;
            holds = some_both
                (λ atoms below true. each_both
                (atom_back constants (form.universals + form.existentials) (values ++ map f more) (map f values ++ more) count (map_front values more))
                atoms below true)
                form.disjuncts formed.disjuncts conclusion.holds;
          }

      -- the image suits the same rules
      pub suits_image : (size constants : ℕ) (rules : List Rule) → AreFormedRules constants rules → SuitsRules size rules c
          → SuitsRules size rules image
      suits_image size constants rules formed suits = record {
        below = record {
          size_is = suits.below.size_is;
          placed = λ k. subst (λ n. f (c.place k) < n) suits.below.size_is
              (within (c.place k) (subst (λ n. c.place k < n) (sym suits.below.size_is) (suits.below.placed k)));
        };
        hold = each_both (λ rule well h. form_image constants rule.form.now well h) rules formed suits.hold;
      }
