-- Places of facts in a set, and what is known of it.
use Rattle.std.proofs.Common.{◌≡◌, ℕ, ◌+◌, ◌*◌, List, [], ◌∷◌, ◌++◌, map, take, slice_get, slice_index, Some, refl, ap, sym, ◌∙◌}
use Rattle.text_core.proofs.Laws.{take_next}
use Rattle.logic_core.specs.declared.form.Slot.{Slot}
use Rattle.logic_core.specs.declared.form.Atom.{Atom}
use Rattle.vernacular_tree.specs.Contexts.{slot_at, atom_at}
use Rattle.proof_plans.specs.Landmarks.{element_in, digits, sign_digit, place_in}
use Rattle.proof_plans.proofs.Steps.{get_index}

-- digits with one more
digits_more : (base first : ℕ) (slots : List Slot) (slot : Slot) → digits base first (slots ++ slot ∷ []) ≡ digits base first slots * base + element_in slot
digits_more base first [] slot = refl
digits_more base first (s ∷ slots) slot = digits_more base (first * base + element_in s) slots slot

-- those of images, where one more slot is taken
digits_next : (base first : ℕ) (f : Slot → Slot) (slots : List Slot) (at : ℕ) (slot : Slot) → slice_get slots at ≡ Some slot
    → digits base first (map f (take (at + 1) slots)) ≡ digits base first (map f (take at slots)) * base + element_in (f slot)
digits_next base first f slots at slot is =
    ap (λ (l : List Slot). digits base first (map f l)) (take_next slots at slot is)
    ∙ ap (digits base first) (mapped (take at slots)) ∙ digits_more base first (map f (take at slots)) (f slot)
  where
    mapped : (xs : List Slot) → map f (xs ++ slot ∷ []) ≡ map f xs ++ f slot ∷ []
    mapped [] = refl
    mapped (x ∷ xs) = ap (λ (l : List Slot). f x ∷ l) (mapped xs)

-- a number with one more digit
pub number_next : (base first : ℕ) (f : Slot → Slot) (slots : List Slot) (at : ℕ) (slot : Slot) (number product element next : ℕ) → slice_get slots at ≡ Some slot
    → next ≡ product + element → product ≡ number * base → number ≡ digits base first (map f (take at slots)) → element ≡ element_in (f slot)
    → next ≡ digits base first (map f (take (at + 1) slots))
number_next base first f slots at slot number product element next is a b c d =
    a ∙ ap (λ (n : ℕ). n + element) (b ∙ ap (λ (n : ℕ). n * base) c) ∙ ap (λ (n : ℕ). digits base first (map f (take at slots)) * base + n) d
    ∙ sym (digits_next base first f slots at slot is)

-- a place is put together
pub place_is : (elements : ℕ) (starts values : List ℕ) (atom : Atom) (slots : List Slot) (place start first number : ℕ) → place ≡ start + number
    → slice_get starts atom.symbol ≡ Some start → first ≡ sign_digit atom.positive → slots ≡ atom.args → number ≡ digits elements first (map (slot_at values) slots)
    → place ≡ place_in elements starts (atom_at values atom)
place_is elements starts values atom slots place start first number a b c d e =
    a ∙ ap (λ (n : ℕ). n + number) (sym (get_index starts atom.symbol start b))
    ∙ ap (λ (n : ℕ). slice_index starts atom.symbol + n) (e ∙ ap (λ (n : ℕ). digits elements n (map (slot_at values) slots)) c
    ∙ ap (λ (l : List Slot). digits elements (sign_digit atom.positive) (map (slot_at values) l)) d)
