-- A text of a predictive grammar has no more than one value: the alternatives and the splits of its tokens are settled.
use Rattle.std.proofs.Common.{◌≡◌, refl, sym, ◌∙◌, ap, subst, ℕ, zero, suc, true, false, cond, not, ◌⊎◌, inl, inr, List, [], ◌∷◌, ◌++◌, append_assoc, append-nil}
use Rattle.std.specs.Prelude.{Option, Some, None}
use Rattle.std.proofs.Math.Bool.{Bool-set}
use Rattle.std.proofs.lemmas.Bool.{false≢true, and_parts, both_ways, not-true, or_left, or_right}
use Rattle.std.proofs.lemmas.List.{append_cancel_left}
use Rattle.token_grammar.specs.Grammar.{Grammar, Spelled}
use Rattle.text_core.specs.Lists.{IsAmong}
use Rattle.token_grammar.specs.Taken.{Taken}
use Rattle.token_grammar.specs.Taken.Taken.{stop, token, part}
use Rattle.token_grammar.specs.Plan.{Plan, IsPredictive, is_first, one_less, is_empty, has_empty, all_nullable, rows_pass, asks, choice_passes, follow_passes}
use Rattle.token_grammar.specs.Making.{Choice, element, RowValues, Making}
use Rattle.token_grammar.specs.SpelledAs.{SpelledAs, SpelledRow}
use Rattle.token_grammar.specs.SpelledAs.SpelledAs.{of_token, of_row}
use Rattle.token_grammar.specs.SpelledAs.SpelledRow.{member}
use Rattle.token_grammar.proofs.Predicted.{Safe, implied, takes_alone, choices_pass, asks_taken, predicted_taken, safe_replaced, no_nullable, taken_nullable}
use Rattle.token_grammar.proofs.Leaves.{leaves_start}
use Rattle.token_grammar.proofs.Spelling.{joined, spelled_joined, taken_spelled}
use Rattle.token_grammar.proofs.OfValues.{choice_among, element_among, first_spelled, value_spelled, row_spelled}
use Rattle.text_core.proofs.Laws.{no_front}

-- one less than the first number is none
none_after_first : (number : Option ℕ) → is_first number ≡ true → one_less number ≡ None
none_after_first None h = refl
none_after_first (Some zero) h = refl
none_after_first (Some (suc n)) h = absurd (false≢true h)

-- where a chosen row is empty, the rows have an empty one
choice_empty : {A : Type 0} (rows : List (List A)) (choice : Choice rows) → is_empty (element rows choice) ≡ true → has_empty rows ≡ true
choice_empty [] choice h = absurd choice
choice_empty (row ∷ rows) (inl here) h = or_left _ _ h
choice_empty (row ∷ rows) (inr choice) h = or_right _ _ (choice_empty rows choice h)

module _ {P T : Type 0} (g : Grammar P T) (plan : Plan P T) where
  -- a token for which no alternative is chosen asks for none
  none_asks : (p : P) (t : T) (rows : List (List P)) → choice_passes g plan p t None rows ≡ true → (choice : Choice rows) →
      asks g plan p t (element rows choice) ≡ true → ⊥
  none_asks p t [] h choice asked = choice
  none_asks p t (row ∷ rows) h (inl here) asked = both_ways _ (not-true _ (and_parts _ _ h).0) asked
  none_asks p t (row ∷ rows) h (inr choice) asked =
      none_asks p t rows (and_parts (follow_passes g plan p t row) _ (and_parts _ _ h).1).1 choice asked

  -- a token asks for one alternative at most
  asked_once : (p : P) (t : T) (number : Option ℕ) (rows : List (List P)) → choice_passes g plan p t number rows ≡ true →
      (i j : Choice rows) → asks g plan p t (element rows i) ≡ true → asks g plan p t (element rows j) ≡ true → i ≡ j
  asked_once p t number [] h i j first second = absurd i
  asked_once p t number (row ∷ rows) h (inl here) (inl there) first second = refl
  asked_once p t number (row ∷ rows) h (inl here) (inr j) first second =
      let (choice, more) = and_parts _ _ h in
      let later = (and_parts (follow_passes g plan p t row) _ more).1 in
      let none = none_after_first number (implied _ _ choice first) in
      absurd (none_asks p t rows (subst (λ n. choice_passes g plan p t n rows ≡ true) none later) j second)
  asked_once p t number (row ∷ rows) h (inr i) (inl there) first second =
      let (choice, more) = and_parts _ _ h in
      let later = (and_parts (follow_passes g plan p t row) _ more).1 in
      let none = none_after_first number (implied _ _ choice second) in
      absurd (none_asks p t rows (subst (λ n. choice_passes g plan p t n rows ≡ true) none later) i first)
  asked_once p t number (row ∷ rows) h (inr i) (inr j) first second =
      let later = (and_parts (follow_passes g plan p t row) _ (and_parts _ _ h).1).1 in
      ap inr (asked_once p t (one_less number) rows later i j first second)

  -- behind an empty alternative no other is empty
  one_empty : (row : List P) (rows : List (List P)) → cond (is_empty row) (not (has_empty rows)) (not (all_nullable g row)) ≡ true →
      is_empty row ≡ true → has_empty rows ≡ false
  one_empty [] rows h e = not-true _ h
  one_empty (q ∷ row) rows h e = absurd (false≢true e)

  -- one alternative at most is empty
  empty_once : (most : ℕ) (rows : List (List P)) → rows_pass g plan most rows ≡ true → (i j : Choice rows) →
      is_empty (element rows i) ≡ true → is_empty (element rows j) ≡ true → i ≡ j
  empty_once most [] h i j first second = absurd i
  empty_once most (row ∷ rows) h (inl here) (inl there) first second = refl
  empty_once most (row ∷ rows) h (inl here) (inr j) first second =
      absurd (both_ways _ (one_empty row rows (and_parts _ _ h).0 first) (choice_empty rows j second))
  empty_once most (row ∷ rows) h (inr i) (inl there) first second =
      absurd (both_ways _ (one_empty row rows (and_parts _ _ h).0 second) (choice_empty rows i first))
  empty_once most (row ∷ rows) h (inr i) (inr j) first second =
      ap inr (empty_once most rows (and_parts _ _ (and_parts _ _ h).1).1 i j first second)

-- where a row without parts takes tokens up to its end, there are none
nothing_taken : {P T : Type 0} {g : Grammar P T} {us : List T} {takers : List P} → Taken g true [] us takers → us ≡ []
nothing_taken (stop h) = refl

module _ {P T : Type 0} (g : Grammar P T) (plan : Plan P T) (law : IsPredictive g plan) where
  -- a token that the first part takes stands first in what the row takes
  token_first : (p : P) (row : List P) (t : T) {us : List T} {takers : List P} → g.takes p t ≡ true → Taken g true (p ∷ row) us takers →
      (rest : List T) × ((u : T) × (us ≡ u ∷ rest)) × ((later : List P) × Taken g true row rest later)
  token_first p row t h (stop leave) = absurd leave
  token_first p row t h (token {t = u} {ts = ts} {takers = later} k rest) = (ts, (u, refl), (later, rest))
  token_first p row t h (part alternative a rest) = absurd (takes_alone g plan law p t alternative h a)

  -- what a row takes by an alternative of its first part, it takes by some alternative
  part_first : (p : P) (row alternative : List P) {us : List T} {takers : List P} → IsAmong alternative (g.alternatives p) →
      Taken g true (p ∷ row) us takers → (other : List P) × IsAmong other (g.alternatives p) × Taken g true (other ++ row) us takers
  part_first p row alternative a (stop leave) = absurd leave
  part_first p row alternative a (token {t = u} h rest) = absurd (takes_alone g plan law p u alternative h a)
  part_first p row alternative a (part other b rest) = (other, b, rest)

  -- two alternatives by which a row takes the same tokens are one, or there are no tokens
  same_alternative : (p : P) (row first second : List P) → Safe g plan (p ∷ row) → IsAmong first (g.alternatives p) →
      IsAmong second (g.alternatives p) → (all : List T) (ps qs : List P) → Taken g true (first ++ row) all ps →
      Taken g true (second ++ row) all qs → (all ≡ []) ⊎ (second ≡ first)
  same_alternative p row first second safe a b [] ps qs d e = inl refl
  same_alternative p row first second safe a b (t ∷ ts) ps qs d e =
      let one = predicted_taken g plan law p row first safe a d in
      let other = predicted_taken g plan law p row second safe b e in
      inr (cc)

  -- the tokens are split in one way between a row and what stands below it
  split_once : {row : List P} {us : List T} {ps : List P} → Taken g true row us ps → (below : List P) (vs : List T) (qs : List P) →
      Safe g plan (row ++ below) → Taken g true below vs qs → (others left : List T) (ps' qs' : List P) → Taken g true row others ps' →
      Taken g true below left qs' → us ++ vs ≡ others ++ left → us ≡ others
  split_once {row = []} (stop h) below vs qs safe dv others left ps' qs' second dl e = sym (nothing_taken second)
  split_once {row = p ∷ row} (stop h) below vs qs safe dv others left ps' qs' second dl e = absurd h
  split_once (token {p = p} {row = row} {t = t} {ts = ts} h rest) below vs qs safe dv others left ps' qs' second dl e =
      let (later, (u, first), (takers, tail)) = token_first p row t h second in
      let all : t ∷ (ts ++ vs) ≡ u ∷ (later ++ left) = e ∙ ap (λ x. x ++ left) first in
      let one : t ≡ u = cc in
      let equal : ts ++ vs ≡ later ++ left = cc in
      let same = split_once rest below vs qs safe.1 dv later left takers qs' tail dl equal in
      cc
  split_once {us = us} {ps = ps} (part {p = p} {row = row} alternative a rest) below vs qs safe dv others left ps' qs' second dl e =
      let (other, b, tail) = part_first p row alternative a second in
      let first_whole = subst (λ r. Taken g true r (us ++ vs) (ps ++ qs)) (append_assoc alternative row below) (joined g rest dv) in
      let second_whole = subst (λ r. Taken g true r (others ++ left) (ps' ++ qs')) (append_assoc other row below) (joined g tail dl) in
      elim (same_alternative p (row ++ below) alternative other safe a b (us ++ vs) (ps ++ qs) (ps' ++ qs') first_whole
      (subst (λ all. Taken g true (other ++ (row ++ below)) all (ps' ++ qs')) (sym e) second_whole)) [
        | inl none ↦ let mine = no_front us vs none in let theirs = no_front others left (sym e ∙ none) in mine ∙ sym theirs
        | inr same ↦ split_once rest below vs qs
            (subst (Safe g plan) (sym (append_assoc alternative row below)) (safe_replaced g plan law p (row ++ below) alternative a safe))
            dv others left ps' qs' (subst (λ r. Taken g true (r ++ row) others ps') same tail) dl e
      ]

  -- an alternative whose members may all stand for no tokens is the empty one
  nullable_empty : (p : P) (row : List P) → IsAmong row (g.alternatives p) → all_nullable g row ≡ true → is_empty row ≡ true
  nullable_empty p [] a h = refl
  nullable_empty p (q ∷ row) a h = absurd (both_ways _ (no_nullable g plan law p q row a) h)

  -- the choice of the alternative is settled by the tokens that it spells and those that stand after it
  same_choice : (p : P) (row : List P) (i j : Choice (g.alternatives p)) (us later : List T) → Safe g plan (p ∷ row) →
      Spelled g (element (g.alternatives p) i) us → Spelled g (element (g.alternatives p) j) us → Spelled g row later → i ≡ j
  same_choice p row i j us later safe first second below =
      let (ps, d) = taken_spelled g first in
      let (qs, e) = taken_spelled g second in
      let (rs, f) = taken_spelled g below in
      by_tokens us later (ps ++ rs) (qs ++ rs) ps qs (joined g d f) (joined g e f) d e
    where
      a : IsAmong (element (g.alternatives p) i) (g.alternatives p)
      a = element_among (g.alternatives p) i

      b : IsAmong (element (g.alternatives p) j) (g.alternatives p)
      b = element_among (g.alternatives p) j

      at_token : (t : T) (ts : List T) (ps qs : List P) → Taken g true (element (g.alternatives p) i ++ row) (t ∷ ts) ps →
          Taken g true (element (g.alternatives p) j ++ row) (t ∷ ts) qs → i ≡ j
      at_token t ts ps qs d e =
          asked_once g plan p t (plan.chosen p t) (g.alternatives p) (choices_pass g plan law p t) i j
          (asks_taken g plan law p row (element (g.alternatives p) i) safe a d)
          (asks_taken g plan law p row (element (g.alternatives p) j) safe b e)

      by_tokens : (us later : List T) (ps qs ps' qs' : List P) → Taken g true (element (g.alternatives p) i ++ row) (us ++ later) ps →
          Taken g true (element (g.alternatives p) j ++ row) (us ++ later) qs → Taken g true (element (g.alternatives p) i) us ps' →
          Taken g true (element (g.alternatives p) j) us qs' → i ≡ j
      by_tokens [] later ps qs ps' qs' d e d' e' =
          empty_once g plan (plan.cost p) (g.alternatives p) (law.at_part p) i j
          (nullable_empty p (element (g.alternatives p) i) a (taken_nullable g plan law d'))
          (nullable_empty p (element (g.alternatives p) j) b (taken_nullable g plan law e'))
      by_tokens (t ∷ us) later ps qs ps' qs' d e d' e' = at_token t (us ++ later) ps qs d e

module _ {P T : Type 0} (g : Grammar P T) (plan : Plan P T) (law : IsPredictive g plan) (Value : P → Type 0) (making : Making g Value) where
  -- values of a part and a row spell the tokens that the part and the row spell
  aligned : (p : P) (row : List P) (us ts all : List T) → Spelled g (p ∷ []) us → Spelled g row ts → all ≡ us ++ ts →
      (below : List P) (later : List T) → Safe g plan (p ∷ (row ++ below)) → Spelled g below later →
      (values : RowValues Value (p ∷ row)) → SpelledRow g Value making (p ∷ row) values all →
      SpelledAs g Value making p values.0 us × SpelledRow g Value making row values.1 ts
  aligned p row us ts all first second split below later safe end values spelled =
      let it = first_spelled g Value making p row values all spelled in
      let (ps, d) = taken_spelled g first in
      let (ps', d') = taken_spelled g (value_spelled g Value making it.first) in
      let (qs, f) = taken_spelled g (spelled_joined g second end) in
      let (qs', f') = taken_spelled g (spelled_joined g (row_spelled g Value making it.second) end) in
      let whole : it.front ++ (it.back ++ later) ≡ us ++ (ts ++ later) =
      sym (append_assoc it.front it.back later) ∙ (ap (λ x. x ++ later) (sym it.split ∙ split) ∙ append_assoc us ts later) in
      let same = split_once g plan law d' (row ++ below) (it.back ++ later) qs' safe f' us (ts ++ later) ps qs d f whole in
      let rest = append_cancel_left us it.back ts (ap (λ x. x ++ it.back) (sym same) ∙ (sym it.split ∙ split)) in
      (subst (SpelledAs g Value making p values.0) same it.first, subst (SpelledRow g Value making row values.1) rest it.second)

  -- the value of a part that takes a token is made of the token
  token_value : (p : P) (t : T) (taken : g.takes p t ≡ true) (value : Value p) → SpelledAs g Value making p value (t ∷ []) → value ≡ making.of_token p t taken
  token_value p t taken value (of_token u taken' is e) =
      let one : t ≡ u = cc in
      is ∙ sym (subst (λ x. (k : g.takes p x ≡ true) → making.of_token p t taken ≡ making.of_token p x k) one
      (λ k. ap (making.of_token p t) (Bool-set _ _ taken k)) taken')
  token_value p t taken value (of_row choice values made is) =
      absurd (takes_alone g plan law p t (element (g.alternatives p) choice) taken (element_among (g.alternatives p) choice))

  -- the value of a part is made of the values of this alternative
  MadeAt : (p : P) → Choice (g.alternatives p) → Value p → List T → Type 0
  MadeAt p choice value us = (values : RowValues Value (element (g.alternatives p) choice)) ×
      SpelledRow g Value making (element (g.alternatives p) choice) values us × (value ≡ making.of_row p choice values)

  -- the value of a part is made of the values of the alternative that its tokens spell
  made_at : (p : P) (row : List P) (choice : Choice (g.alternatives p)) (us later : List T) → Safe g plan (p ∷ row) →
      Spelled g (element (g.alternatives p) choice) us → Spelled g row later → (value : Value p) → SpelledAs g Value making p value us →
      MadeAt p choice value us
  unfolding MadeAt
  made_at p row choice us later safe first end value (of_token u taken is e) =
      absurd (takes_alone g plan law p u (element (g.alternatives p) choice) taken (element_among (g.alternatives p) choice))
  made_at p row choice us later safe first end value (of_row other values made is) =
      let same = same_choice g plan law p row other choice us later safe (row_spelled g Value making made) first end in
      subst (λ i. MadeAt p i value us) same (values, made, is)

  -- no two lists of values of the row spell the tokens
  OneRow : List P → List T → Type 0
  OneRow row ts = (first second : RowValues Value row) → SpelledRow g Value making row first ts → SpelledRow g Value making row second ts →
      first ≡ second

  -- no two values of a part spell the same tokens, where that holds of its alternative
  one_part : (p : P) (row : List P) (choice : Choice (g.alternatives p)) (us later : List T) → Safe g plan (p ∷ row) →
      Spelled g (element (g.alternatives p) choice) us → Spelled g row later → OneRow (element (g.alternatives p) choice) us →
      (first second : Value p) → SpelledAs g Value making p first us → SpelledAs g Value making p second us → first ≡ second
  unfolding MadeAt OneRow
  one_part p row choice us later safe spelled end one first second s r =
      let (values, k, is) = made_at p row choice us later safe spelled end first s in
      let (others, l, also) = made_at p row choice us later safe spelled end second r in
      (is ∙ ap (making.of_row p choice) (one values others k l)) ∙ sym also

  -- values are one where the first is and the others are
  values_pair : (p : P) (row : List P) (first second : RowValues Value (p ∷ row)) → first.0 ≡ second.0 → first.1 ≡ second.1 → first ≡ second
  values_pair p row first second e f = λ i. (e i, f i)

  -- no two lists of values of a row spell the same tokens
  one_row : {row : List P} {ts : List T} → Spelled g row ts → (below : List P) (later : List T) → Safe g plan (row ++ below) →
      Spelled g below later → OneRow row ts
  unfolding OneRow
  one_row Spelled.none below later safe end = λ first second k l. refl
  one_row (Spelled.token {p = p} {row = row} {t = t} {ts = ts} taken rest) below later safe end = λ first second k l.
      let one = Spelled.token taken Spelled.none in
      let (s, tail) = aligned p row (t ∷ []) ts (t ∷ ts) one rest refl below later safe end first k in
      let (r, tail') = aligned p row (t ∷ []) ts (t ∷ ts) one rest refl below later safe end second l in
      values_pair p row first second (token_value p t taken first.0 s ∙ sym (token_value p t taken second.0 r))
      (one_row rest below later safe.1 end first.1 second.1 tail tail')
  one_row (Spelled.part {p = p} {row = row} {all = all} alternative us ts a inner rest e) below later safe end = λ first second k l.
      let one = Spelled.part alternative us [] a inner Spelled.none (sym (append-nil us)) in
      let (s, tail) = aligned p row us ts all one rest e below later safe end first k in
      let (r, tail') = aligned p row us ts all one rest e below later safe end second l in
      let (choice, same) = choice_among (g.alternatives p) alternative a in
      let after = spelled_joined g rest end in
      let inside = one_row inner (row ++ below) (ts ++ later) (safe_replaced g plan law p (row ++ below) alternative a safe) after in
      values_pair p row first second
      (one_part p (row ++ below) choice us (ts ++ later) safe (subst (λ x. Spelled g x us) (sym same) inner) after
      (subst (λ x. OneRow x us) (sym same) inside) first.0 second.0 s r)
      (one_row rest below later safe.1 end first.1 second.1 tail tail')

  -- no two values of a part spell the same tokens
  pub one_value : (p : P) (ts : List T) (first second : Value p) → SpelledAs g Value making p first ts → SpelledAs g Value making p second ts → first ≡ second
  unfolding OneRow
  one_value p ts first second s r =
      ap (λ (pair : RowValues Value (p ∷ [])). pair.0)
      (one_row (value_spelled g Value making s) [] [] (leaves_start g plan law p).safe Spelled.none (first, tt) (second, tt) (alone s) (alone r))
    where
      alone : {value : Value p} → SpelledAs g Value making p value ts → SpelledRow g Value making (p ∷ []) (value, tt) ts
      alone spelled = member ts [] spelled SpelledRow.none (sym (append-nil ts))

-- the same where the values are made over a grammar that is equal
pub one_value_of : {P T : Type 0} (g : Grammar P T) (plan : Plan P T) → IsPredictive g plan → (h : Grammar P T) → g ≡ h →
    (Value : P → Type 0) (making : Making h Value) (p : P) (ts : List T) (first second : Value p) →
    SpelledAs h Value making p first ts → SpelledAs h Value making p second ts → first ≡ second
one_value_of g plan law h same Value making p ts first second =
    one_value h plan (subst (λ x. IsPredictive x plan) same law) Value making p ts first second
