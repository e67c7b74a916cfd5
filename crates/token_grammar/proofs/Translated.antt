-- A part that stands for rows of another grammar takes what one of them takes.
use Rattle.std.proofs.Common.{◌≡◌, refl, sym, ◌∙◌, ap, subst, Bool, true, false, inl, inr, List, [], ◌∷◌, ◌++◌, append_assoc}
use Rattle.std.specs.Prelude.{IsFalse}
use Rattle.std.proofs.lemmas.Bool.{true≢false}
use Rattle.token_grammar.specs.Grammar.{Grammar, IsText, BeginsText}
use Rattle.text_core.specs.Lists.{IsAmong}
use Rattle.token_grammar.specs.Taken.{Taken, MayLeave}
use Rattle.token_grammar.specs.Taken.Taken.{stop, token, part}
use Rattle.token_grammar.specs.Plan.{is_empty}
use Rattle.token_grammar.specs.Factored.{after_row, joined_rows, stood_rows, Becomes, OneBecomes, EachIsMade, AlternativesAreMade, Translates}
use Rattle.token_grammar.specs.Factored.Becomes.{done, keep, replace}
use Rattle.token_grammar.proofs.Spelling.{joined, taken_spelled, spelled_taken, taken_begun, begun_taken}
use Rattle.text_core.proofs.Laws.{among_front, among_back, among_append}

-- rows that are joined

-- a member of the rows, behind the first row
after_among : {Q : Type 0} (first row : List Q) (rows : List (List Q)) → IsAmong row rows → IsAmong (first ++ row) (after_row first rows)
after_among first row [] a = a
after_among first row (other ∷ rows) (inl e) = inl (ap (λ r. first ++ r) e)
after_among first row (other ∷ rows) (inr a) = inr (after_among first row rows a)

-- a member of each list of rows, one behind the other
joined_among : {Q : Type 0} (first row : List Q) (firsts rows : List (List Q)) → IsAmong first firsts → IsAmong row rows →
    IsAmong (first ++ row) (joined_rows firsts rows)
joined_among first row [] rows a b = a
joined_among first row (other ∷ firsts) rows (inl e) b =
    among_front (first ++ row) (after_row other rows) (joined_rows firsts rows)
    (subst (λ r. IsAmong (r ++ row) (after_row other rows)) e (after_among other row rows b))
joined_among first row (other ∷ firsts) rows (inr a) b =
    among_back (first ++ row) (after_row other rows) (joined_rows firsts rows) (joined_among first row firsts rows a b)

-- a row behind the first row is that row and a member of the rows
after_split : {Q : Type 0} (all first : List Q) (rows : List (List Q)) → IsAmong all (after_row first rows) →
    (row : List Q) × IsAmong row rows × (all ≡ first ++ row)
after_split all first [] a = absurd a
after_split all first (row ∷ rows) (inl e) = (row, inl refl, sym e)
after_split all first (row ∷ rows) (inr a) = let (found, b, e) = after_split all first rows a in (found, inr b, e)

-- a row that is a member of some rows and a member of others, one behind the other
record Parted {Q : Type 0} (all : List Q) (firsts rows : List (List Q)) : Type 0 where
  first : List Q
  second : List Q
  is_first : IsAmong first firsts
  is_second : IsAmong second rows
  split : all ≡ first ++ second

-- a row of joined rows is a member of the one list and a member of the other
joined_split : {Q : Type 0} (all : List Q) (firsts rows : List (List Q)) → IsAmong all (joined_rows firsts rows) → Parted all firsts rows
joined_split all [] rows a = absurd a
joined_split all (first ∷ firsts) rows a = elim (among_append all (after_row first rows) (joined_rows firsts rows) a) [
  | inl h ↦ let (row, b, e) = after_split all first rows h in
      record { first = first; second = row; is_first = inl refl; is_second = b; split = e }
  | inr h ↦ let found = joined_split all firsts rows h in
      record { first = found.first; second = found.second; is_first = inr found.is_first; is_second = found.is_second; split = found.split }
]

-- a row that two rows stand for is one of the first and one of the second
stood_split : {P Q : Type 0} (stands : P → List (List Q)) (row below : List P) (all : List Q) →
    IsAmong all (stood_rows stands (row ++ below)) → Parted all (stood_rows stands row) (stood_rows stands below)
stood_split stands [] below all a = record { first = []; second = all; is_first = inl refl; is_second = a; split = refl }
stood_split stands (p ∷ row) below all a =
    let here = joined_split all (stands p) (stood_rows stands (row ++ below)) a in
    let rest = stood_split stands row below here.second here.is_second in record {
      first = here.first ++ rest.first;
      second = rest.second;
      is_first = joined_among here.first rest.first (stands p) (stood_rows stands row) here.is_first rest.is_first;
      is_second = rest.is_second;
      split = (here.split ∙ ap (λ r. here.first ++ r) rest.split) ∙ sym (append_assoc here.first rest.first rest.second);
    }

-- some member of rows that are not empty
one_row : {A : Type 0} (rows : List A) → IsFalse (is_empty rows) → (row : A) × IsAmong row rows
one_row [] h = absurd (true≢false h)
one_row (row ∷ rows) h = (row, inl refl)

-- a row that becomes another takes what that takes

-- what may be left of a row does not hang on what follows its first part
may_leave_any : {Q : Type 0} (whole : Bool) (q : Q) (row other : List Q) → MayLeave whole (q ∷ row) → MayLeave whole (q ∷ other)
may_leave_any true q row other h = absurd h
may_leave_any false q row other h = tt

module _ {Q T : Type 0} (h : Grammar Q T) (whole : Bool) (row other : List Q)
    (turn : (ts : List T) (takers : List Q) → Taken h whole other ts takers → Taken h whole row ts takers) where
  -- what takes the tokens behind a front takes them with another row behind it
  kept : {all : List Q} {ts : List T} {takers : List Q} → Taken h whole all ts takers → (front : List Q) → all ≡ front ++ other →
      Taken h whole (front ++ row) ts takers
  kept {ts = ts} {takers = takers} taken [] e = turn ts takers (subst (λ r. Taken h whole r ts takers) e taken)
  kept {all = all} (stop leave) (q ∷ front) e =
      stop (may_leave_any whole q (front ++ other) (front ++ row) (subst (MayLeave whole) e leave))
  kept (token {p = p} {row = rest} {t = t} {ts = ts} {takers = takers} takes taken) (q ∷ front) e =
      let one : p ≡ q = cc in
      let tail : rest ≡ front ++ other = cc in
      subst (λ x. Taken h whole (x ∷ (front ++ row)) (t ∷ ts) (p ∷ takers)) one (token takes (kept taken front tail))
  kept (part {p = p} {row = rest} {ts = ts} {takers = takers} alternative a taken) (q ∷ front) e =
      let one : p ≡ q = cc in
      let tail : rest ≡ front ++ other = cc in
      let further = kept taken (alternative ++ front) (ap (λ r. alternative ++ r) tail ∙ sym (append_assoc alternative front other)) in
      subst (λ x. Taken h whole (x ∷ (front ++ row)) ts takers) one
      (part alternative a (subst (λ r. Taken h whole r ts takers) (append_assoc alternative front row) further))

-- the row that becomes another takes what the other takes
becomes_taken : {Q T : Type 0} (h : Grammar Q T) (whole : Bool) {row other : List Q} (below : List Q) → Becomes h row other →
    (ts : List T) (takers : List Q) → Taken h whole (other ++ below) ts takers → Taken h whole (row ++ below) ts takers
becomes_taken h whole below done ts takers taken = taken
becomes_taken h whole below (keep {q = q} {row = row} {other = other} rest) ts takers taken =
    kept h whole (row ++ below) (other ++ below) (becomes_taken h whole below rest) taken (q ∷ []) refl
becomes_taken h whole below (replace {q = q} {row = row} alternative a rest) ts takers taken =
    part alternative a
    (subst (λ r. Taken h whole r ts takers) (append_assoc alternative row below) (becomes_taken h whole below rest ts takers taken))

-- what stands for a row

-- the one of the rows that becomes the other row
one_becomes : {Q T : Type 0} (h : Grammar Q T) (rows : List (List Q)) (other : List Q) → OneBecomes h rows other →
    (row : List Q) × IsAmong row rows × Becomes h row other
one_becomes h [] other b = absurd b
one_becomes h (row ∷ rows) other (inl b) = (row, inl refl, b)
one_becomes h (row ∷ rows) other (inr b) = let (found, a, k) = one_becomes h rows other b in (found, inr a, k)

-- a member of the rows that are made is made of one of the rows
each_made : {Q T : Type 0} (h : Grammar Q T) (rows others : List (List Q)) (other : List Q) → EachIsMade h rows others →
    IsAmong other others → OneBecomes h rows other
each_made h rows [] other made a = absurd a
each_made h rows (first ∷ others) other made (inl e) = subst (OneBecomes h rows) e made.0
each_made h rows (first ∷ others) other made (inr a) = each_made h rows others other made.1 a

-- a row that an alternative stands for is made of one of the rows
alternative_made : {P Q T : Type 0} (h : Grammar Q T) (stands : P → List (List Q)) (rows : List (List Q)) (alternatives : List (List P))
    (alternative : List P) → AlternativesAreMade h stands rows alternatives → IsAmong alternative alternatives →
    EachIsMade h rows (stood_rows stands alternative)
alternative_made h stands rows [] alternative made a = absurd a
alternative_made h stands rows (first ∷ rest) alternative made (inl e) =
    subst (λ r. EachIsMade h rows (stood_rows stands r)) e made.0
alternative_made h stands rows (first ∷ rest) alternative made (inr a) = alternative_made h stands rows rest alternative made.1 a

module _ {P Q T : Type 0} (g : Grammar P T) (h : Grammar Q T) (stands : P → List (List Q)) (tr : Translates g h stands) where
  -- some row that a row stands for
  some_row : (row : List P) → (other : List Q) × IsAmong other (stood_rows stands row)
  some_row [] = ([], inl refl)
  some_row (p ∷ row) =
      let (first, a) = one_row (stands p) (tr.some p) in
      let (rest, b) = some_row row in
      (first ++ rest, joined_among first rest (stands p) (stood_rows stands row) a b)

  -- one of the rows that a row stands for takes what the row takes
  translated : {whole : Bool} {row : List P} {ts : List T} {takers : List P} → Taken g whole row ts takers →
      (other : List Q) × IsAmong other (stood_rows stands row) × ((others : List Q) × Taken h whole other ts others)
  translated {whole = true} {row = []} (stop leave) = ([], inl refl, ([], stop tt))
  translated {whole = true} {row = p ∷ row} (stop leave) = absurd leave
  translated {whole = false} {row = row} (stop leave) = let (other, a) = some_row row in (other, a, ([], stop tt))
  translated (token {p = p} {row = row} {t = t} takes rest) =
      let (first, a, spelled) = tr.takes p t takes in
      let (ps, front) = taken_spelled h spelled in
      let (second, b, (qs, back)) = translated rest in
      (first ++ second, joined_among first second (stands p) (stood_rows stands row) a b, (ps ++ qs, joined h front back))
  translated {whole = whole} {ts = ts} (part {p = p} {row = row} alternative a rest) =
      let (all, b, (qs, taken)) = translated rest in
      let parted = stood_split stands alternative row all b in
      let made = each_made h (stands p) (stood_rows stands alternative) parted.first
      (alternative_made h stands (stands p) (g.alternatives p) alternative (tr.alternatives p) a) parted.is_first in
      let (found, m, becomes) = one_becomes h (stands p) parted.first made in (
        found ++ parted.second,
        joined_among found parted.second (stands p) (stood_rows stands row) m parted.is_second,
        (qs, becomes_taken h whole parted.second becomes ts qs (subst (λ r. Taken h whole r ts qs) parted.split taken)),
      )

  -- a part that stands for one part alone
  only_start : (start : P) (other : Q) (row : List Q) → stands start ≡ (other ∷ []) ∷ [] →
      IsAmong row (stood_rows stands (start ∷ [])) → row ≡ other ∷ []
  only_start start other row e a =
      let parted = joined_split row (stands start) ([] ∷ []) a in
      let one = only (other ∷ []) parted.first (subst (IsAmong parted.first) e parted.is_first) in
      let none = only [] parted.second parted.is_second in
      parted.split ∙ (ap (λ r. r ++ parted.second) one ∙ ap (λ r. other ∷ r) none)
    where
      only : {A : Type 0} (x y : A) → IsAmong y (x ∷ []) → y ≡ x
      only x y (inl e) = sym e
      only x y (inr h) = absurd h

  -- the start of the other grammar takes what the start takes
  taken_start : (start : P) (other : Q) (whole : Bool) (ts : List T) (takers : List P) → stands start ≡ (other ∷ []) ∷ [] →
      Taken g whole (start ∷ []) ts takers → (others : List Q) × Taken h whole (other ∷ []) ts others
  taken_start start other whole ts takers e taken =
      let (row, a, (others, also)) = translated taken in
      (others, subst (λ r. Taken h whole r ts others) (only_start start other row e a) also)

  -- a text of the grammar is a text of the other
  pub text_translated : (start : P) (other : Q) → stands start ≡ (other ∷ []) ∷ [] → (ts : List T) → IsText g start ts → IsText h other ts
  text_translated start other e ts text =
      let (takers, taken) = taken_spelled g text in
      let (others, also) = taken_start start other true ts takers e taken in
      spelled_taken h also

  -- what begins a text of the grammar begins one of the other
  pub begun_translated : (start : P) (other : Q) → stands start ≡ (other ∷ []) ∷ [] → (ts : List T) → BeginsText g start ts → BeginsText h other ts
  begun_translated start other e ts begun =
      let (takers, taken) = taken_begun g begun in
      let (others, also) = taken_start start other false ts takers e taken in
      begun_taken h also
