-- What the tests of a grammar and its plan give: a token asks for at most one alternative.
use Rattle.std.proofs.Common.{◌≡◌, refl, sym, ap, subst, ℕ, zero, suc, ◌+◌, ◌<◌, Bool, true, false, cond, not, ◌&&◌, ◌||◌, ◌⊎◌, inl, inr, List, [], ◌∷◌, ◌++◌, arith}
use Rattle.std.specs.Prelude.{Option, Some, None}
use Rattle.std.proofs.lemmas.Bool.{true≢false, false≢true, and_parts, and_from, and_cases, or_cases, or_left, or_right, not-true, ltb-true, both_ways}
use Rattle.token_grammar.specs.Grammar.{Grammar}
use Rattle.text_core.specs.Lists.{IsAmong}
use Rattle.token_grammar.specs.Taken.{Taken}
use Rattle.token_grammar.specs.Taken.Taken.{stop, token, part}
use Rattle.token_grammar.specs.Plan.{Plan, IsPredictive, numbered, is_first, one_less, is_empty, has_empty, is_nullable, all_nullable, predicted, is_row, may_begin, row_begins, weight, rows_pass, follow_passes, asks, choice_passes}

-- a test that follows from another
pub implied : (x y : Bool) → (y || not x) ≡ true → x ≡ true → y ≡ true
implied x true h e = refl
implied true false h e = h
implied false false h e = absurd (false≢true e)

-- lists of rows

-- where the empty row is a member, the test for an empty row is true
pub among_empty : {A : Type 0} (rows : List (List A)) → IsAmong [] rows → has_empty rows ≡ true
among_empty [] h = absurd h
among_empty (row ∷ rows) (inl e) = or_left _ _ (subst (λ r. is_empty r ≡ true) (sym e) refl)
among_empty (row ∷ rows) (inr h) = or_right _ _ (among_empty rows h)

-- where the test for an empty row is true, the empty row is a member
pub empty_among : {A : Type 0} (rows : List (List A)) → has_empty rows ≡ true → IsAmong [] rows
empty_among [] h = absurd (false≢true h)
empty_among ([] ∷ rows) h = inl refl
empty_among ((a ∷ row) ∷ rows) h = inr (empty_among rows h)

-- an empty list has no members
none_among : {A : Type 0} (rows : List A) (row : A) → is_empty rows ≡ true → IsAmong row rows → ⊥
none_among [] row h a = a
none_among (r ∷ rows) row h a = false≢true h

-- the first row has the first number
first_numbered : {A : Type 0} (number : Option ℕ) (row : A) (rows : List A) → is_first number ≡ true →
    numbered number (row ∷ rows) ≡ Some row
first_numbered None row rows h = absurd (false≢true h)
first_numbered (Some zero) row rows h = refl
first_numbered (Some (suc n)) row rows h = absurd (false≢true h)

-- behind one more row a row has a number that is higher by one
later_numbered : {A : Type 0} (number : Option ℕ) (row other : A) (rows : List A) → numbered (one_less number) rows ≡ Some row →
    numbered number (other ∷ rows) ≡ Some row
later_numbered None row other rows h = h
later_numbered (Some zero) row other rows h = cc
later_numbered (Some (suc n)) row other rows h = h

-- the row with a number is one of the rows
pub numbered_among : {A : Type 0} (number : Option ℕ) (row : A) (rows : List A) → numbered number rows ≡ Some row → IsAmong row rows
numbered_among None row rows h = cc
numbered_among (Some n) row [] h = cc
numbered_among (Some zero) row (other ∷ rows) h = inl (cc)
numbered_among (Some (suc n)) row (other ∷ rows) h = inr (numbered_among (Some n) row rows h)

module _ {P T : Type 0} (g : Grammar P T) (plan : Plan P T) where
  -- rows that are joined

  -- a token that may begin two joined rows may begin the first, or the second behind no tokens of the first
  pub begins-append : (row below : List P) (t : T) → row_begins g plan (row ++ below) t ≡ true →
      (row_begins g plan row t ≡ true) ⊎ ((all_nullable g row ≡ true) × (row_begins g plan below t ≡ true))
  begins-append [] below t h = inr (refl, h)
  begins-append (p ∷ row) below t h = elim (or_cases (may_begin g plan p t) (is_nullable g p && row_begins g plan (row ++ below) t) h) [
    | inl m ↦ inl (or_left _ _ m)
    | inr k ↦ let (empty, later) = and_parts (is_nullable g p) (row_begins g plan (row ++ below) t) k in
        elim (begins-append row below t later) [
          | inl r ↦ inl (or_right _ _ (and_from _ _ empty r))
          | inr both ↦ inr (and_from _ _ empty both.0, both.1)
        ]
  ]

  -- where each member of two joined rows may stand for no tokens, each of either does
  pub nullable-append : (row below : List P) → all_nullable g (row ++ below) ≡ true →
      (all_nullable g row ≡ true) × (all_nullable g below ≡ true)
  nullable-append [] below h = (refl, h)
  nullable-append (p ∷ row) below h =
      let (empty, later) = and_parts (is_nullable g p) (all_nullable g (row ++ below)) h in
      let both = nullable-append row below later in
      (and_from _ _ empty both.0, both.1)

  -- a row behind one that stands for some token adds no weight
  pub weight-append : (row below : List P) → all_nullable g row ≡ false → weight g plan (row ++ below) ≡ weight g plan row
  weight-append [] below h = absurd (true≢false h)
  weight-append (p ∷ row) below h = elim (and_cases (is_nullable g p) (all_nullable g row) h) [
    | inl e ↦ rw e refl
    | inr e ↦ ap (λ (w : ℕ). plan.cost p + cond (is_nullable g p) w 0) (weight-append row below e)
  ]

  -- one row of a list of alternatives

  -- an alternative is empty, or stands for some token
  filled : (row : List P) (rows : List (List P)) → cond (is_empty row) (not (has_empty rows)) (not (all_nullable g row)) ≡ true →
      (is_empty row || not (all_nullable g row)) ≡ true
  filled [] rows h = refl
  filled (q ∷ row) rows h = h

  -- an alternative of rows that pass is empty or stands for some token, and weighs less than the part
  row_facts : (most : ℕ) (rows : List (List P)) (row : List P) → rows_pass g plan most rows ≡ true → IsAmong row rows →
      ((is_empty row || not (all_nullable g row)) ≡ true) × (weight g plan row < most)
  row_facts most [] row h a = absurd a
  row_facts most (r ∷ rows) row h (inl e) =
      let (empty, more) = and_parts _ _ h in
      let (light, later) = and_parts _ _ more in
      rw (← e) (filled r rows empty, ltb-true _ _ light)
  row_facts most (r ∷ rows) row h (inr a) =
      let (empty, more) = and_parts _ _ h in
      let (light, later) = and_parts _ _ more in
      row_facts most rows row later a

  -- an alternative of rows that pass at a token is followed as the plan says, and chosen where it is asked for
  choice_facts : (p : P) (t : T) (number : Option ℕ) (rows : List (List P)) (row : List P) →
      choice_passes g plan p t number rows ≡ true → IsAmong row rows →
      (follow_passes g plan p t row ≡ true) × (asks g plan p t row ≡ true → numbered number rows ≡ Some row)
  choice_facts p t number [] row h a = absurd a
  choice_facts p t number (r ∷ rows) row h (inl e) =
      let (choice, more) = and_parts _ _ h in
      let (follows, later) = and_parts _ _ more in
      rw (← e) (follows, λ asked. first_numbered number r rows (implied _ _ choice asked))
  choice_facts p t number (r ∷ rows) row h (inr a) =
      let (choice, more) = and_parts _ _ h in
      let (follows, later) = and_parts _ _ more in
      let facts = choice_facts p t (one_less number) rows row later a in
      (facts.0, λ asked. later_numbered number row r rows (facts.1 asked))

  -- the firsts of what comes after a part of the row may follow it
  abbrev pub Safe : List P → Type 0
  Safe [] = Unit {0}
  Safe (p ∷ row) = ((t : T) → row_begins g plan row t ≡ true → plan.follow p t ≡ true) × Safe row

module _ {P T : Type 0} (g : Grammar P T) (plan : Plan P T) (law : IsPredictive g plan) where
  -- a part that takes a token has no alternatives
  pub takes_alone : (p : P) (t : T) (row : List P) → g.takes p t ≡ true → IsAmong row (g.alternatives p) → ⊥
  takes_alone p t row h a =
      none_among (g.alternatives p) row (implied _ _ (and_parts _ _ (law.at_token p t)).0 h) a

  -- the alternatives of a part pass at each token
  pub choices_pass : (p : P) (t : T) → choice_passes g plan p t (plan.chosen p t) (g.alternatives p) ≡ true
  choices_pass p t = (and_parts _ _ (law.at_token p t)).1

  -- an alternative that a token asks for is the predicted one
  pub asked_row : (p : P) (t : T) (row : List P) → IsAmong row (g.alternatives p) → asks g plan p t row ≡ true →
      predicted g plan p t ≡ Some row
  asked_row p t row a =
      (choice_facts g plan p t (plan.chosen p t) (g.alternatives p) row (choices_pass p t) a).1

  -- what stands behind a member of an alternative may follow it
  follow_row : (p : P) (t : T) (row : List P) → IsAmong row (g.alternatives p) → follow_passes g plan p t row ≡ true
  follow_row p t row a =
      (choice_facts g plan p t (plan.chosen p t) (g.alternatives p) row (choices_pass p t) a).0

  -- an alternative with members stands for some token
  pub no_nullable : (p q : P) (row : List P) → IsAmong (q ∷ row) (g.alternatives p) → all_nullable g (q ∷ row) ≡ false
  no_nullable p q row a = not-true _ (row_facts g plan (plan.cost p) (g.alternatives p) (q ∷ row) (law.at_part p) a).0

  -- an alternative weighs less than its part
  pub row_cost : (p : P) (row : List P) → IsAmong row (g.alternatives p) → weight g plan row < plan.cost p
  row_cost p row a = (row_facts g plan (plan.cost p) (g.alternatives p) row (law.at_part p) a).1

  -- a token that begins what is left once a part was replaced may begin what was there before
  replaced : (p : P) (row : List P) (t : T) (alternative : List P) → IsAmong alternative (g.alternatives p) →
      row_begins g plan (alternative ++ row) t ≡ true → row_begins g plan (p ∷ row) t ≡ true
  replaced p row t [] a h = or_right _ _ (and_from _ _ (among_empty (g.alternatives p) a) h)
  replaced p row t (q ∷ rest) a h = elim (begins-append g plan (q ∷ rest) row t h) [
    | inl m ↦ or_left _ _ (or_right _ _ (subst (λ o. is_row o ≡ true) (sym (asked_row p t (q ∷ rest) a m)) refl))
    | inr both ↦ absurd (both_ways _ (no_nullable p q rest a) both.0)
  ]

  -- a row that takes tokens is one that the first of them may begin
  pub begins_taken : {whole : Bool} {row : List P} {t : T} {ts : List T} {takers : List P} → Taken g whole row (t ∷ ts) takers →
      row_begins g plan row t ≡ true
  begins_taken (token h rest) = or_left _ _ (or_left _ _ h)
  begins_taken {row = p ∷ row} {t = t} (part alternative a rest) = replaced p row t alternative a (begins_taken rest)

  -- a token that begins an alternative with what stands behind its part asks for the alternative
  asks_from : (p : P) (row : List P) (t : T) (alternative : List P) → Safe g plan (p ∷ row) → IsAmong alternative (g.alternatives p) →
      row_begins g plan (alternative ++ row) t ≡ true → asks g plan p t alternative ≡ true
  asks_from p row t [] safe a h = safe.0 t h
  asks_from p row t (q ∷ rest) safe a h = elim (begins-append g plan (q ∷ rest) row t h) [
    | inl m ↦ m
    | inr both ↦ absurd (both_ways _ (no_nullable p q rest a) both.0)
  ]

  -- the first of the tokens asks for an alternative by which a row takes them
  pub asks_taken : {whole : Bool} {t : T} {ts : List T} {takers : List P} (p : P) (row alternative : List P) →
      Safe g plan (p ∷ row) → IsAmong alternative (g.alternatives p) → Taken g whole (alternative ++ row) (t ∷ ts) takers →
      asks g plan p t alternative ≡ true
  asks_taken {t = t} p row alternative safe a taken = asks_from p row t alternative safe a (begins_taken taken)

  -- an alternative by which a row takes tokens is the one that the first of them asks for
  pub predicted_taken : {whole : Bool} {t : T} {ts : List T} {takers : List P} (p : P) (row alternative : List P) →
      Safe g plan (p ∷ row) → IsAmong alternative (g.alternatives p) → Taken g whole (alternative ++ row) (t ∷ ts) takers →
      predicted g plan p t ≡ Some alternative
  predicted_taken {t = t} p row alternative safe a taken = asked_row p t alternative a (asks_taken p row alternative safe a taken)

  -- an alternative in front of what is below its part is safe
  safe_rest : (p : P) (row below : List P) → ((t : T) → follow_passes g plan p t row ≡ true) → Safe g plan (p ∷ below) →
      Safe g plan (row ++ below)
  safe_rest p [] below closed safe = safe.1
  safe_rest p (q ∷ row) below closed safe = (
    (λ t h. let later = all_nullable g row && plan.follow p t in
        let begins = row_begins g plan row t in
        implied (begins || later) (plan.follow q t) (and_parts _ (follow_passes g plan p t row) (closed t)).0
        (elim (begins-append g plan row below t h) [
          | inl m ↦ or_left begins later m
          | inr both ↦ or_right begins later (and_from _ _ both.0 (safe.0 t both.1))
        ])),
    safe_rest p row below (λ t. (and_parts _ (follow_passes g plan p t row) (closed t)).1) safe,
  )

  -- a safe row is safe where an alternative stands for its first part
  pub safe_replaced : (p : P) (row alternative : List P) → IsAmong alternative (g.alternatives p) → Safe g plan (p ∷ row) →
      Safe g plan (alternative ++ row)
  safe_replaced p row alternative a safe = safe_rest p alternative row (λ t. follow_row p t alternative a) safe

  -- a row weighs less once the chosen alternative stands for its first part
  pub weight_replaced : (p : P) (row alternative : List P) → IsAmong alternative (g.alternatives p) →
      weight g plan (alternative ++ row) < weight g plan (p ∷ row)
  weight_replaced p row [] a =
      rw (among_empty (g.alternatives p) a) (let light = row_cost p [] a in omega (arith, light))
  weight_replaced p row (q ∷ rest) a =
      rw (weight-append g plan (q ∷ rest) row (no_nullable p q rest a))
      (let light = row_cost p (q ∷ rest) a in omega (arith, light))

  -- a row that takes no tokens up to its end has nothing but members that may stand for none
  pub taken_nullable : {row takers : List P} → Taken g true row [] takers → all_nullable g row ≡ true
  taken_nullable {row = []} (stop h) = refl
  taken_nullable {row = p ∷ row} (stop h) = absurd h
  taken_nullable {row = p ∷ row} (part alternative a rest) = from_parts p row alternative a (nullable-append g plan alternative row (taken_nullable rest))
    where
      from_parts : (p : P) (row alternative : List P) → IsAmong alternative (g.alternatives p) →
          (all_nullable g alternative ≡ true) × (all_nullable g row ≡ true) → all_nullable g (p ∷ row) ≡ true
      from_parts p row [] a both = and_from _ _ (among_empty (g.alternatives p) a) both.1
      from_parts p row (q ∷ rest) a both = absurd (both_ways _ (no_nullable p q rest a) both.0)

  -- a row whose members may all stand for no tokens takes none, up to its end
  pub nullable_taken : (row : List P) → all_nullable g row ≡ true → Taken g true row [] []
  nullable_taken [] h = stop tt
  nullable_taken (p ∷ row) h =
      let (empty, later) = and_parts (is_nullable g p) (all_nullable g row) h in
      part [] (empty_among (g.alternatives p) empty) (nullable_taken row later)
