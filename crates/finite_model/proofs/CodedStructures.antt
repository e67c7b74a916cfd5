-- The structure that a sound one's numbers spell is that one.
use Rattle.std.specs.Prelude.{◌≡◌, ℕ, ◌<◌, Bool, true, false, ◌&&◌, ◌||◌, List, [], ◌∷◌, ◌++◌, map, take, drop, length, Some, if◌then◌else◌, unwrap_or}
use Rattle.std.specs.List.{AllByRecursion, list_any}
use Rattle.std.specs.Str.{bytes_eq}
use Rattle.std.proofs.Common.{refl, ◌∙◌, ap, arith}
use Rattle.text_core.specs.Names.{Text}
use Rattle.logic_core.specs.Truth.{Structure, structure}
use Rattle.model_text.specs.declared.structure.Place.{Place}
use Rattle.model_text.specs.declared.structure.Fact.{Fact}
use Rattle.model_text.specs.Structures.{Finite, IsSound}
use Rattle.finite_model.specs.Structures.{is_fact, has_fact, found_place, place_in, finite}
use Rattle.finite_model.specs.Coded.{in_front, blocks_of, coded_size, coded_blocks, place_block, fact_block, place_among, is_fact_of, coded_holds, coded_place, within_size, block_code, blocks_code, code, IsCodedElement}
use Rattle.finite_model.proofs.CodedSizes.{kept_same}

-- a block in front of others is read again
block_read : (block more : List ℕ) → blocks_of (block_code block more) ≡ block ∷ blocks_of more
block_read [] more = refl
block_read (n ∷ block) more = ap (in_front n) (block_read block more)

-- blocks are read again
blocks_read : (blocks : List (List ℕ)) → blocks_of (blocks_code blocks) ≡ blocks
blocks_read [] = refl
blocks_read (block ∷ blocks) = block_read block (blocks_code blocks) ∙ ap (λ bs. block ∷ bs) (blocks_read blocks)

-- the front of two texts, and what is left
front_read : (xs ys : List ℕ) → take (length xs) (xs ++ ys) ≡ xs
front_read [] ys = refl
front_read (x ∷ xs) ys = ap (λ zs. x ∷ zs) (front_read xs ys)

rest_read : (xs ys : List ℕ) → drop (length xs) (xs ++ ys) ≡ ys
rest_read [] ys = refl
rest_read (x ∷ xs) ys = rest_read xs ys

-- the block of a fact is that of its predicate with its arguments
fact_read : (predicate : Text) (xs : List ℕ) (f : Fact) → is_fact_of predicate xs (fact_block f) ≡ is_fact predicate xs f
fact_read predicate xs f =
    λ i. bytes_eq predicate (front_read f.predicate f.arguments i) && bytes_eq xs (rest_read f.predicate f.arguments i)

-- the facts are found among the blocks
facts_read : (predicate : Text) (xs : List ℕ) (facts : List Fact) → list_any (is_fact_of predicate xs) (map fact_block facts) ≡ has_fact facts predicate xs
facts_read predicate xs [] = refl
facts_read predicate xs (f ∷ facts) = λ i. fact_read predicate xs f i || facts_read predicate xs facts i

-- no place is a fact
holds_read : (predicate : Text) (xs : List ℕ) (places : List Place) (facts : List Fact) →
    list_any (is_fact_of predicate xs) (map place_block places ++ map fact_block facts) ≡ has_fact facts predicate xs
holds_read predicate xs [] facts = facts_read predicate xs facts
holds_read predicate xs (p ∷ places) facts = holds_read predicate xs places facts

-- no fact is a place
no_place : (constant : Text) (facts : List Fact) → place_among (map fact_block facts) constant ≡ 0
no_place constant [] = refl
no_place constant (f ∷ facts) = no_place constant facts

-- the element of a constant is found among the blocks
place_read : (constant : Text) (places : List Place) (facts : List Fact) →
    place_among (map place_block places ++ map fact_block facts) constant ≡ place_in places constant
place_read constant [] facts = no_place constant facts
place_read constant (p ∷ places) facts = by (bytes_eq p.constant constant) (place_read constant places facts)
  where
    by : (b : Bool) → place_among (map place_block places ++ map fact_block facts) constant ≡ place_in places constant →
        (if b then p.element else place_among (map place_block places ++ map fact_block facts) constant) ≡
        unwrap_or (if b then Some p.element else found_place places constant) 0
    by true later = refl
    by false later = later

-- each constant stands for an element
place_below : (size : ℕ) (places : List Place) (constant : Text) → 0 < size → AllByRecursion (λ (p : Place). p.element < size) places →
    place_in places constant < size
place_below size [] constant some all = some
place_below size (p ∷ places) constant some all = by (bytes_eq p.constant constant) (place_below size places constant some all.1)
  where
    by : (b : Bool) → place_in places constant < size → unwrap_or (if b then Some p.element else found_place places constant) 0 < size
    by true later = all.0
    by false later = later

-- the structure that numbers spell
abbrev pub coded : List ℕ → Structure
coded ks = structure (IsCodedElement ks) (coded_holds ks) (coded_place ks)

-- the blocks of a structure's numbers
blocks_are : (m : Finite) → coded_blocks (code m) ≡ map place_block m.places ++ map fact_block m.facts
blocks_are m = blocks_read (map place_block m.places ++ map fact_block m.facts)

-- its size
size_is : (m : Finite) → IsSound m → coded_size (code m) ≡ m.size
size_is m sound = let some = sound.some in omega (arith, some)

-- where its constants stand
place_is : (m : Finite) → IsSound m → (constant : Text) → coded_place (code m) constant ≡ place_in m.places constant
place_is m sound constant =
    let among = ap (λ bs. place_among bs constant) (blocks_are m) ∙ place_read constant m.places m.facts in
    let some : 0 < m.size = (let some = sound.some in omega (arith, some)) in
    let below = place_below m.size m.places constant some sound.placed in
    (λ i. within_size (size_is m sound i) (among i)) ∙ kept_same m.size (place_in m.places constant) below

-- a sound structure is what its numbers spell
pub coded_same : (m : Finite) → IsSound m → coded (code m) ≡ finite m
coded_same m sound = λ i. structure (λ x. x < size_is m sound i) (λ predicate xs. holds_is predicate xs i) (λ constant. place_is m sound constant i)
  where
    holds_is : (predicate : Text) (xs : List ℕ) → coded_holds (code m) predicate xs ≡ has_fact m.facts predicate xs
    holds_is predicate xs = ap (list_any (is_fact_of predicate xs)) (blocks_are m) ∙ holds_read predicate xs m.places m.facts
