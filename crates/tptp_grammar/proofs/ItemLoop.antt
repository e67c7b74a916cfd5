-- Items that a loop reads one by one, where it is known that they are read up to the end.
use Rattle.std.specs.Prelude.{◌≡◌, ℕ, zero, suc, ◌+◌, ◌-◌, ◌<◌, ◌≤◌, List, [], ◌∷◌, ◌++◌, length, Some, None, Err, refl}
use Rattle.std.specs.List.{AllByRecursion}
use Rattle.std.proofs.Common.{ap, sym, ◌∙◌, subst, append-nil, length-append, arith}
use Rattle.text_core.proofs.Laws.{each_front, each_back, value_same}
use Rattle.logic_core.specs.declared.problem.Item.{Item}
use Rattle.tptp_lexer.specs.Tokens.{Token}
use Rattle.tptp_lexer.specs.declared.reader.NotRead.{NotRead}
use Rattle.tptp_lexer.specs.declared.reader.NotRead.TheVariants.{NoText, Memory}
use Rattle.tptp_grammar.specs.Reading.{item_from, items_from}
use Rattle.tptp_lexer.specs.Reading.{Read, Gives, with_front}
use Rattle.tptp_lexer.proofs.Laws.{with_front-append}

-- the items so far are in front of those that are left
abbrev pub StillReads : ℕ → List Token → List Item → List Token → Type 0
StillReads depth ts front rest = with_front front (items_from depth (length ts - length front) rest) ≡ items_from depth (length ts) ts

-- a token is left only where an item may be read
left_for : (depth most : ℕ) (front : List Item) (rest : List Token) (items : List Item) → 0 < length rest → with_front front (items_from depth most rest) ≡ Some (items, []) → 0 < most
unfolding items_from
left_for depth zero front [] items some all = absurd (omega arith)
left_for depth zero front (t ∷ ts) items some all = absurd (cc)
left_for depth (suc most) front rest items some all = omega arith

-- an item is read, and others behind it
one_from : (depth most : ℕ) (rest tail : List Token) (x : Item) → 0 < length rest → item_from depth rest ≡ Some (x, tail) → items_from depth (suc most) rest ≡ with_front (x ∷ []) (items_from depth most tail)
unfolding items_from
one_from depth most [] tail x some read = absurd (omega arith)
one_from depth most (t ∷ ts) tail x some read = rw read refl

-- where no item is read, none are
none_from : (depth most : ℕ) (rest : List Token) → 0 < length rest → item_from depth rest ≡ None → items_from depth most rest ≡ None
unfolding items_from
none_from depth most [] some read = absurd (omega arith)
none_from depth zero (t ∷ ts) some read = refl
none_from depth (suc most) (t ∷ ts) some read = rw read refl

-- where no tokens are left, no items are read
nil_from : (depth most : ℕ) (rest : List Token) → length rest ≤ 0 → items_from depth most rest ≡ Some ([], [])
unfolding items_from
nil_from depth zero [] none = refl
nil_from depth (suc most) [] none = refl
nil_from depth most (t ∷ ts) none = absurd (omega arith)

module _ (depth : ℕ) (ts : List Token) where
  -- while a token is left, so is an item
  pub item_left : (front : List Item) (rest : List Token) (items : List Item) → 0 < length rest
      → StillReads depth ts front rest → items_from depth (length ts) ts ≡ Some (items, []) → length front < length ts
  item_left front rest items some so_far all = let left = left_for depth (length ts - length front) front rest items some (so_far ∙ all) in omega arith

  -- one more item was read
  pub one_read : (front new : List Item) (rest tail : List Token) (x : Item) → 0 < length rest → length front < length ts
      → new ≡ front ++ x ∷ [] → item_from depth rest ≡ Some (x, tail) → StillReads depth ts front rest → StillReads depth ts new tail
  one_read front new rest tail x some left pushed read so_far =
      let longer : length new ≡ length front + 1 = ap length pushed ∙ length-append front (x ∷ []) in
      let most : length ts - length front ≡ suc (length ts - length new) = omega arith in
      let more = items_from depth (length ts - length new) tail in
      let one : items_from depth (length ts - length front) rest ≡ with_front (x ∷ []) more = ap (λ n. items_from depth n rest) most ∙ one_from depth (length ts - length new) rest tail x some read in
      ap (λ xs. with_front xs more) pushed ∙ with_front-append front (x ∷ []) more ∙ sym (ap (with_front front) one) ∙ so_far

  -- an item cannot be read, or memory ran out
  pub gives_up : (fault : NotRead) (front : List Item) (rest : List Token) → 0 < length rest
      → Gives {X = Item × List Token} (λ r. r) (Err fault) (item_from depth rest) → StillReads depth ts front rest → Gives {X = List Item} (λ items. (items, [])) (Err fault) (items_from depth (length ts) ts)
  gives_up NoText front rest some read so_far = sym so_far ∙ ap (with_front front) (none_from depth (length ts - length front) rest some read)
  gives_up Memory front rest some read so_far = tt

  -- where no tokens are left, all items were read
  pub all_read : (front : List Item) (rest : List Token) → length rest ≤ 0 → StillReads depth ts front rest → items_from depth (length ts) ts ≡ Some (front, [])
  all_read front rest none so_far = sym so_far ∙ ap (with_front front) (nil_from depth (length ts - length front) rest none) ∙ ap (λ xs. Some (xs, [])) (append-nil front)

-- what holds of each item that is read holds of the one behind the front
read_holds : (P : Item → Type 0) (front new : List Item) (x : Item) (more : Read (List Item)) (items : List Item) → new ≡ front ++ x ∷ [] → with_front new more ≡ Some (items, []) → AllByRecursion P items → P x
read_holds P front new x None items pushed all holds = absurd (cc)
read_holds P front new x (Some read) items pushed all holds =
    let same : new ++ read.0 ≡ items = ap (λ (r : List Item × List Token). r.0) (value_same all) in
    (each_back P front (x ∷ []) (each_front P (front ++ x ∷ []) read.0
    (subst (AllByRecursion P) (sym same ∙ ap (λ (xs : List Item). xs ++ read.0) pushed) holds))).0

-- an item that is read is one of those that are known to be read
pub is_one : (P : Item → Type 0) (depth : ℕ) (ts : List Token) (front : List Item) (rest tail : List Token) (x : Item) (items : List Item) → 0 < length rest
    → item_from depth rest ≡ Some (x, tail) → StillReads depth ts front rest → items_from depth (length ts) ts ≡ Some (items, []) → AllByRecursion P items → P x
is_one P depth ts front rest tail x items some read so_far all holds =
    let left = item_left depth ts front rest items some so_far all in
    let new = front ++ x ∷ [] in
    read_holds P front new x (items_from depth (length ts - length new) tail) items refl (one_read depth ts front new rest tail x some left refl read so_far ∙ all) holds
