-- What a proof with the fewest applications tells of its context: facts and elements that differ in
-- it do so in the whole proof, and a body that is smaller is one of no proof.
use Rattle.std.proofs.Common.{◌≡◌, ℕ, zero, suc, ◌+◌, ◌<◌, ◌≤◌, ◌⊎◌, inl, inr, ⊎_elim, List, [], ◌∷◌, ◌++◌, map, length, slice_index, refl, ap, sym, ◌∙◌, subst, arith}
use Rattle.std.proofs.lemmas.Bool.{cases_lt}
use Rattle.std.specs.List.{AllByRecursion}
use Rattle.text_core.specs.Lists.{SomeOf, IsAmong}
use Rattle.text_core.proofs.Laws.{among_append}
use Rattle.logic_core.specs.Forms.{SlotIsBelow}
use Rattle.logic_core.specs.declared.form.Slot.{Slot}
use Rattle.logic_core.specs.declared.form.Slot.TheVariants.{Variable, Constant}
use Rattle.logic_core.specs.declared.form.Atom.{Atom}
use Rattle.vernacular_tree.specs.Contexts.{Task, counted, LineHas, Stands}
use Rattle.vernacular_tree.specs.Rules.{IsProof}
use Rattle.vernacular_tree.specs.Sizes.{size}
use Rattle.vernacular_tree.specs.Carries.{slot_image, image, HasElements}
use Rattle.vernacular_tree.specs.declared.context.Line.{Line}
use Rattle.vernacular_tree.specs.declared.context.Line.TheVariants.{Facts, Cases, Falsum}
use Rattle.vernacular_tree.specs.declared.context.Context.{Context}
use Rattle.vernacular_tree.specs.declared.tree.Body.{Body}
use Rattle.vernacular_tree.proofs.Numbers.{counted_at}
use Rattle.vernacular_tree.proofs.Images.{Keeps, elements_kept, image_same}
use Rattle.proof_plans.specs.Runs.{all_facts}

-- no proof from a context has fewer applications
abbrev pub NoneSmaller : Task → Context → ℕ → Type 0
NoneSmaller task context count = (body : Body) → IsProof task context body → size body < count → ⊥

-- each number of a list is greater than the one before
abbrev pub Rises : ℕ → List ℕ → Type 0
Rises low [] = Unit {0}
Rises low (x ∷ xs) = (low ≤ x) × Rises (x + 1) xs

-- it stays so from a lesser number on
rises_lower : (low other : ℕ) → other ≤ low → (xs : List ℕ) → Rises low xs → Rises other xs
rises_lower low other le [] h = tt
rises_lower low other le (x ∷ xs) h = let a : low ≤ x = h.0 in (omega arith, h.1)

-- numbers in a row rise
pub counted_rises : (first count : ℕ) → Rises first (counted first count)
counted_rises first zero = tt
counted_rises first (suc count) = (omega arith, counted_rises (first + 1) count)

-- rising numbers behind others that are below them
pub rises_append : (low next : ℕ) (xs ys : List ℕ) → low ≤ next → Rises low xs → AllByRecursion (λ x. x < next) xs → Rises next ys → Rises low (xs ++ ys)
rises_append low next [] ys le h below more = rises_lower next low le ys more
rises_append low next (x ∷ xs) ys le h below more = let a : x < next = below.0 in (h.0, rises_append (x + 1) next xs ys (omega arith) h.1 below.1 more)

-- each of them is no less than the bound
rises_from : (low : ℕ) (xs : List ℕ) → Rises low xs → (b : ℕ) → b < length xs → low ≤ slice_index xs b
rises_from low [] h b less = absurd (omega arith)
rises_from low (x ∷ xs) h zero less = h.0
rises_from low (x ∷ xs) h (suc b) less = let a : low ≤ x = h.0 in let rest = rises_from (x + 1) xs h.1 b (omega arith) in omega arith

-- a later one is greater
rises_less : (low : ℕ) (xs : List ℕ) → Rises low xs → (a b : ℕ) → a < b → b < length xs → slice_index xs a < slice_index xs b
rises_less low [] h a b less there = absurd (omega arith)
rises_less low (x ∷ xs) h a zero less there = absurd (omega arith)
rises_less low (x ∷ xs) h zero (suc b) less there = let rest = rises_from (x + 1) xs h.1 b (omega arith) in omega arith
rises_less low (x ∷ xs) h (suc a) (suc b) less there = rises_less (x + 1) xs h.1 a b (omega arith) (omega arith)

module _ (e : List ℕ) (rises : Rises 0 e) where
  -- equal elements have one number
  one_number : (a b : ℕ) → a < length e → b < length e → slice_index e a ≡ slice_index e b → a ≡ b
  one_number a b low high same =
      ⊎_elim (λ less. let l = rises_less 0 e rises a b less high in absurd (omega arith))
      (λ more. ⊎_elim (λ less. let l = rises_less 0 e rises b a less low in absurd (omega arith)) (λ also. omega arith) (cases_lt b a)) (cases_lt a b)

  -- slots with equal images are equal
  one_slot : (s t : Slot) → SlotIsBelow 0 (length e) s → SlotIsBelow 0 (length e) t → slot_image e s ≡ slot_image e t → s ≡ t
  one_slot (Variable v) t h k same = let no : v < 0 = h in absurd (omega arith)
  one_slot (Constant a) (Variable v) h k same = let no : v < 0 = k in absurd (omega arith)
  one_slot (Constant a) (Constant b) h k same = ap Constant (one_number a b h k (let numbers : slice_index e a ≡ slice_index e b = cc in numbers))

  one_list_of : (ss ts : List Slot) → AllByRecursion (SlotIsBelow 0 (length e)) ss → AllByRecursion (SlotIsBelow 0 (length e)) ts → map (slot_image e) ss ≡ map (slot_image e) ts → ss ≡ ts
  one_list_of [] [] h k same = refl
  one_list_of [] (t ∷ ts) h k same = absurd (cc)
  one_list_of (s ∷ ss) [] h k same = absurd (cc)
  one_list_of (s ∷ ss) (t ∷ ts) h k same =
      let first : slot_image e s ≡ slot_image e t = cc in
      let rest : map (slot_image e) ss ≡ map (slot_image e) ts = cc in
      let a = one_slot s t h.0 k.0 first in let b = one_list_of ss ts h.1 k.1 rest in cc

  -- facts with equal images are equal
  pub one_fact : (f g : Atom) → HasElements (length e) f → HasElements (length e) g → image e f ≡ image e g → f ≡ g
  one_fact f g h k same =
      let args = one_list_of f.args g.args h k (ap (λ (a : Atom). a.args) same) in
      let positive = ap (λ (a : Atom). a.positive) same in
      let symbol = ap (λ (a : Atom). a.symbol) same in
      λ i. record { positive = positive i; symbol = symbol i; args = args i }

-- a fact of the whole proof is one that stands in a context
pub record Found (context : Context) (e : List ℕ) (fact : Atom) : Type 0 where
  pub original : Atom
  pub within : HasElements (length e) original
  pub stands : Stands context original
  pub same : image e original ≡ fact

-- facts stand in a context where their images are found in it
pub all_stand : (context : Context) (e e2 : List ℕ) → Keeps e e2 → Rises 0 e2 → (facts : List Atom) → AllByRecursion (HasElements (length e2)) facts
    → AllByRecursion (Found context e) (map (image e2) facts) → AllByRecursion (Stands context) facts
all_stand context e e2 keeps rises [] within found = tt
all_stand context e e2 keeps rises (fact ∷ facts) within found =
    let f : Found context e (image e2 fact) = found.0 in
    let same : image e2 f.original ≡ image e2 fact = image_same e e2 keeps f.original f.within ∙ f.same in
    let one = one_fact e2 rises f.original fact (elements_kept e e2 keeps f.original f.within) within.0 same in
    (subst (Stands context) one f.stands, all_stand context e e2 keeps rises facts within.1 found.1)

-- what holds of each image holds of the image of each item
pub each_unmapped : {X Y : Type 0} (P : Y → Type 0) (f : X → Y) (xs : List X) → AllByRecursion P (map f xs) → AllByRecursion (λ x. P (f x)) xs
each_unmapped P f [] h = tt
each_unmapped P f (x ∷ xs) h = (h.0, each_unmapped P f xs h.1)

-- a fact of the lines of a context stands in it
pub line_stands : (lines : List Line) (fact : Atom) → IsAmong fact (all_facts lines) → SomeOf (LineHas fact) lines
line_stands [] fact h = absurd h
line_stands (Facts facts ∷ lines) fact h = ⊎_elim (λ here. inl here) (λ later. inr (line_stands lines fact later)) (among_append fact facts (all_facts lines) h)
line_stands (Cases lists ∷ lines) fact h = inr (line_stands lines fact h)
line_stands (Falsum ∷ lines) fact h = inr (line_stands lines fact h)

-- as many numbers in a row as there are elements stand for themselves
module _ (n : ℕ) where
  slot_same : (s : Slot) → SlotIsBelow 0 n s → slot_image (counted 0 n) s ≡ s
  slot_same (Variable v) h = refl
  slot_same (Constant a) h = ap Constant (let same = counted_at 0 n a h in omega arith)

  slots_same : (ss : List Slot) → AllByRecursion (SlotIsBelow 0 n) ss → map (slot_image (counted 0 n)) ss ≡ ss
  slots_same [] h = refl
  slots_same (s ∷ ss) h = let first = slot_same s h.0 in let rest = slots_same ss h.1 in cc

  pub image_itself : (fact : Atom) → HasElements n fact → image (counted 0 n) fact ≡ fact
  image_itself fact h = ap (λ (args : List Slot). record { positive = fact.positive; symbol = fact.symbol; args = args }) (slots_same fact.args h)

  pub facts_itself : (facts : List Atom) → AllByRecursion (HasElements n) facts → map (image (counted 0 n)) facts ≡ facts
  facts_itself [] h = refl
  facts_itself (f ∷ fs) h = let first = image_itself f h.0 in let rest = facts_itself fs h.1 in cc

  pub lists_itself : (lists : List (List Atom)) → AllByRecursion (AllByRecursion (HasElements n)) lists → map (map (image (counted 0 n))) lists ≡ lists
  lists_itself [] h = refl
  lists_itself (l ∷ ls) h = let first = facts_itself l h.0 in let rest = lists_itself ls h.1 in cc
