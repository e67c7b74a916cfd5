-- What is left of a text to read after some tokens: the row of parts on the machine's stack.
use Rattle.std.proofs.Common.{◌≡◌, refl, sym, ◌∙◌, ap, subst, Bool, true, false, List, [], ◌∷◌, ◌++◌, append_assoc, append-nil}
use Rattle.std.specs.Prelude.{Some}
use Rattle.std.proofs.lemmas.Bool.{false≢true, both_ways}
use Rattle.token_grammar.specs.Grammar.{Grammar}
use Rattle.token_grammar.specs.Taken.{Taken}
use Rattle.token_grammar.specs.Taken.Taken.{stop, token, part}
use Rattle.token_grammar.specs.Plan.{Plan, IsPredictive, predicted, all_nullable}
use Rattle.token_grammar.specs.Step.{Expanded, IsBlocked}
use Rattle.token_grammar.specs.Step.Expanded.{here, further}
use Rattle.token_grammar.proofs.Predicted.{Safe, takes_alone, predicted_taken, safe_replaced, numbered_among, taken_nullable, nullable_taken}

-- after the tokens us, taken by the parts qs, the row is left: what may follow is what the row takes
pub record Leaves {P T : Type 0} (g : Grammar P T) (plan : Plan P T) (start : P) (us : List T) (qs row : List P) : Type 0 where
  pub only : (whole : Bool) (ts : List T) (takers : List P) → Taken g whole (start ∷ []) (us ++ ts) takers →
      (later : List P) × (takers ≡ qs ++ later) × Taken g whole row ts later
  pub made : (whole : Bool) (ts : List T) (later : List P) → Taken g whole row ts later →
      Taken g whole (start ∷ []) (us ++ ts) (qs ++ later)
  pub safe : Safe g plan row

-- the same where the token t comes next
pub record LeavesAt {P T : Type 0} (g : Grammar P T) (plan : Plan P T) (start : P) (us : List T) (t : T) (qs row : List P) : Type 0 where
  pub only : (whole : Bool) (ts : List T) (takers : List P) → Taken g whole (start ∷ []) (us ++ (t ∷ ts)) takers →
      (later : List P) × (takers ≡ qs ++ later) × Taken g whole row (t ∷ ts) later
  pub made : (whole : Bool) (ts : List T) (later : List P) → Taken g whole row (t ∷ ts) later →
      Taken g whole (start ∷ []) (us ++ (t ∷ ts)) (qs ++ later)
  pub safe : Safe g plan row

-- an expanded row is one still where the chosen alternative stands for its first part
pub expanded_once : {P T : Type 0} (g : Grammar P T) (plan : Plan P T) (t : T) (p : P) (row alternative : List P) {first : List P} →
    Expanded g plan t first (p ∷ row) → predicted g plan p t ≡ Some alternative → Expanded g plan t first (alternative ++ row)
expanded_once g plan t p row alternative here chosen = further alternative chosen here
expanded_once g plan t p row alternative (further other e rest) chosen =
    further other e (expanded_once g plan t p row alternative rest chosen)

module _ {P T : Type 0} (g : Grammar P T) (plan : Plan P T) (law : IsPredictive g plan) (start : P) where
  -- before the first token the start part is left
  pub leaves_start : Leaves g plan start [] [] (start ∷ [])
  leaves_start = record {
    only = λ whole ts takers taken. (takers, refl, taken);
    made = λ whole ts later taken. taken;
    safe = ((λ t h. absurd (false≢true h)), tt);
  }

  -- what is left, is left where a token comes next
  pub leaves_at : (us : List T) (t : T) (qs row : List P) → Leaves g plan start us qs row → LeavesAt g plan start us t qs row
  leaves_at us t qs row l = record {
    only = λ whole ts takers taken. l.only whole (t ∷ ts) takers taken;
    made = λ whole ts later taken. l.made whole (t ∷ ts) later taken;
    safe = l.safe;
  }

  -- a row whose first part stands for the chosen alternative takes what the row takes
  pub by_chosen : {whole : Bool} {t : T} {ts : List T} (p : P) (row alternative : List P) {takers : List P} → Safe g plan (p ∷ row) →
      predicted g plan p t ≡ Some alternative → Taken g whole (p ∷ row) (t ∷ ts) takers →
      Taken g whole (alternative ++ row) (t ∷ ts) takers
  by_chosen {t = t} p row alternative safe chosen (token h rest) =
      absurd (takes_alone g plan law p t alternative h (numbered_among (plan.chosen p t) alternative (g.alternatives p) chosen))
  by_chosen {whole = whole} {t = t} {ts = ts} p row alternative {takers = takers} safe chosen (part other a rest) =
      let same = predicted_taken g plan law p row other safe a rest in
      let equal : other ≡ alternative = cc in
      subst (λ x. Taken g whole (x ++ row) (t ∷ ts) takers) equal rest

  -- the chosen alternative is left in place of the first part
  leaves_chosen : (us : List T) (t : T) (qs : List P) (p : P) (row alternative : List P) → predicted g plan p t ≡ Some alternative →
      LeavesAt g plan start us t qs (p ∷ row) → LeavesAt g plan start us t qs (alternative ++ row)
  leaves_chosen us t qs p row alternative chosen l =
      let among = numbered_among (plan.chosen p t) alternative (g.alternatives p) chosen in
      record {
        only = λ whole ts takers taken.
            let (later, split, rest) = l.only whole ts takers taken in
            (later, split, by_chosen p row alternative l.safe chosen rest);
        made = λ whole ts later taken. l.made whole ts later (part alternative among taken);
        safe = safe_replaced g plan law p row alternative among l.safe;
      }

  -- an expanded row is left in place of a row
  pub leaves_expanded : (us : List T) (t : T) (qs : List P) {row last : List P} → Expanded g plan t row last →
      LeavesAt g plan start us t qs row → LeavesAt g plan start us t qs last
  leaves_expanded us t qs here l = l
  leaves_expanded us t qs {row = p ∷ row} (further alternative chosen rest) l =
      leaves_expanded us t qs rest (leaves_chosen us t qs p row alternative chosen l)

  -- a token that the first part takes is taken by it, and the others by what is behind it
  pub by_token : {whole : Bool} {t : T} {ts : List T} (p : P) (row : List P) {takers : List P} → g.takes p t ≡ true →
      Taken g whole (p ∷ row) (t ∷ ts) takers → (later : List P) × (takers ≡ p ∷ later) × Taken g whole row ts later
  by_token p row h (token {takers = later} e rest) = (later, refl, rest)
  by_token {t = t} p row h (part alternative a rest) = absurd (takes_alone g plan law p t alternative h a)

  -- behind a token that the first part takes, what is behind the part is left
  pub leaves_taken : (us : List T) (t : T) (qs : List P) (p : P) (row : List P) → g.takes p t ≡ true →
      LeavesAt g plan start us t qs (p ∷ row) → Leaves g plan start (us ++ (t ∷ [])) (qs ++ (p ∷ [])) row
  leaves_taken us t qs p row h l = record {
    only = λ whole ts takers taken.
        let (first, split, rest) = l.only whole ts takers (rw append_assoc at taken) in
        let (later, one, end) = by_token p row h rest in
        (later, (split ∙ ap (λ x. qs ++ x) one) ∙ sym (append_assoc qs (p ∷ []) later), end);
    made = λ whole ts later taken. rw (append_assoc us (t ∷ []) ts, append_assoc qs (p ∷ []) later) (l.made whole ts (p ∷ later) (token h taken));
    safe = l.safe.1;
  }

  -- a row whose first part can do nothing with a token does not take it
  no_part : {t : T} {ts : List T} (p : P) (row : List P) {takers : List P} → Safe g plan (p ∷ row) → IsBlocked g plan t (p ∷ row) →
      Taken g false (p ∷ row) (t ∷ ts) takers → ⊥
  no_part p row safe stuck (token h rest) = both_ways _ stuck.0 h
  no_part p row safe stuck (part alternative a rest) =
      let chosen = predicted_taken g plan law p row alternative safe a rest in
      let none = stuck.1 in
      cc

  -- a row that is blocked at a token does not take it
  no_step : {t : T} {ts : List T} {takers : List P} (row : List P) → Safe g plan row → IsBlocked g plan t row →
      Taken g false row (t ∷ ts) takers → ⊥
  no_step [] safe stuck taken = elim taken [ ]
  no_step (p ∷ row) safe stuck taken = no_part p row safe stuck taken

  -- a token at which what is left is blocked is not taken
  pub leaves_refused : (us : List T) (t : T) (qs row takers : List P) → IsBlocked g plan t row → LeavesAt g plan start us t qs row →
      Taken g false (start ∷ []) (us ++ (t ∷ [])) takers → ⊥
  leaves_refused us t qs row takers stuck l taken =
      let (later, split, rest) = l.only false [] takers taken in
      no_step row l.safe stuck rest

  -- the tokens that were taken begin a text
  pub leaves_begun : (us : List T) (qs row : List P) → Leaves g plan start us qs row → Taken g false (start ∷ []) us qs
  leaves_begun us qs row l = rw (append-nil us, append-nil qs) at (l.made false [] [] (stop tt))

  -- the tokens that were taken are a text, where each part that is left may stand for none
  pub leaves_ended : (us : List T) (qs row : List P) → all_nullable g row ≡ true → Leaves g plan start us qs row →
      Taken g true (start ∷ []) us qs
  leaves_ended us qs row empty l =
      rw (append-nil us, append-nil qs) at (l.made true [] [] (nullable_taken g plan law row empty))

  -- they are none, where some part that is left may not
  pub leaves_no_end : (us : List T) (qs row takers : List P) → all_nullable g row ≡ false → Leaves g plan start us qs row →
      Taken g true (start ∷ []) us takers → ⊥
  leaves_no_end us qs row takers filled l taken =
      let (later, split, rest) = l.only true [] takers (rw (sym (append-nil us)) at taken) in
      both_ways _ filled (taken_nullable g plan law rest)
