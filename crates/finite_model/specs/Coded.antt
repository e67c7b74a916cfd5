-- Finite structures spelled by lists of whole numbers: one less than the size, and then blocks, for
-- each place and for each fact, in which each number is greater by one, and 0 ends a block.
use Rattle.std.specs.Prelude.{ℕ, zero, suc, ◌-◌, ◌<◌, ◌==◌, nat_lt, Bool, false, ◌&&◌, List, [], ◌∷◌, ◌++◌, map, take, drop, length, if◌then◌else◌}
use Rattle.std.specs.List.{list_any}
use Rattle.std.specs.Str.{bytes_eq}
use Rattle.text_core.specs.Names.{Text}
use Rattle.model_text.specs.declared.structure.Place.{Place}
use Rattle.model_text.specs.declared.structure.Fact.{Fact}
use Rattle.model_text.specs.Structures.{Finite}

-- a number in front of the first block
abbrev pub in_front : ℕ → List (List ℕ) → List (List ℕ)
in_front n [] = (n ∷ []) ∷ []
in_front n (block ∷ blocks) = (n ∷ block) ∷ blocks

-- the blocks that numbers spell
abbrev pub blocks_of : List ℕ → List (List ℕ)
blocks_of [] = []
blocks_of (zero ∷ ks) = [] ∷ blocks_of ks
blocks_of (suc n ∷ ks) = in_front n (blocks_of ks)

-- the size, which is greater by one than the first number
abbrev pub coded_size : List ℕ → ℕ
coded_size [] = 1
coded_size (n ∷ ks) = suc n

abbrev pub coded_blocks : List ℕ → List (List ℕ)
coded_blocks [] = []
coded_blocks (n ∷ ks) = blocks_of ks

-- the block of a place: 0, the element, and the constant
abbrev pub place_block : Place → List ℕ
place_block p = 0 ∷ p.element ∷ p.constant

-- the block of a fact: 1, the length of the predicate, the predicate, and the arguments
abbrev pub fact_block : Fact → List ℕ
fact_block f = 1 ∷ length f.predicate ∷ f.predicate ++ f.arguments

-- whether a block is that of a place of the constant
abbrev pub is_place_of : Text → List ℕ → Bool
is_place_of constant (k ∷ e ∷ name) = k == 0 && bytes_eq name constant
is_place_of constant _ = false

-- the element in the block of a place
abbrev pub element_in : List ℕ → ℕ
element_in (k ∷ e ∷ name) = e
element_in _ = 0

-- the element of the first place of the constant
abbrev pub place_among : List (List ℕ) → Text → ℕ
place_among [] constant = 0
place_among (block ∷ blocks) constant =
    if is_place_of constant block then element_in block else place_among blocks constant

-- whether a block is that of a fact of this predicate with these arguments
abbrev pub is_fact_of : Text → List ℕ → List ℕ → Bool
is_fact_of predicate xs (k ∷ n ∷ rest) =
    k == 1 && (bytes_eq predicate (take n rest) && bytes_eq xs (drop n rest))
is_fact_of predicate xs _ = false

-- an element, of which there is one at least
abbrev pub IsCodedElement : List ℕ → ℕ → Type 0
IsCodedElement ks x = x < coded_size ks

abbrev pub coded_holds : List ℕ → Text → List ℕ → Bool
coded_holds ks predicate xs = list_any (is_fact_of predicate xs) (coded_blocks ks)

-- a number that is an element, or 0
abbrev pub within_size : ℕ → ℕ → ℕ
within_size size x = if nat_lt x size then x else 0

abbrev pub coded_place : List ℕ → Text → ℕ
coded_place ks constant = within_size (coded_size ks) (place_among (coded_blocks ks) constant)

-- the numbers that spell a block in front of others
abbrev pub block_code : List ℕ → List ℕ → List ℕ
block_code [] more = zero ∷ more
block_code (n ∷ ns) more = suc n ∷ block_code ns more

abbrev pub blocks_code : List (List ℕ) → List ℕ
blocks_code [] = []
blocks_code (block ∷ blocks) = block_code block (blocks_code blocks)

-- the numbers that spell a structure
abbrev pub code : Finite → List ℕ
code m = (m.size - 1) ∷ blocks_code (map place_block m.places ++ map fact_block m.facts)
