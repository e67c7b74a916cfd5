-- Each list of tokens has an answer: the machine's proof without the machine.
use Rattle.std.proofs.Common.{◌≡◌, refl, sym, subst, ℕ, zero, suc, ◌+◌, ◌<◌, ◌≤◌, arith, Bool, true, false, inl, inr, List, [], ◌∷◌, ◌++◌, take, length, reverse}
use Rattle.std.specs.Prelude.{Option, Some, None, slice_get, Ok, Err}
use Rattle.std.specs.List.{list_all}
use Rattle.std.proofs.lemmas.List.{reverse-reverse}
use Rattle.std.proofs.lemmas.Option.{slice_get_cases}
use Rattle.token_grammar.specs.Grammar.{Grammar}
use Rattle.token_grammar.specs.Watch.{Watcher, IsDecided}
use Rattle.token_grammar.specs.Plan.{Plan, IsPredictive, predicted, weight, is_nullable}
use Rattle.token_grammar.specs.Step.{Moves}
use Rattle.token_grammar.specs.Step.Expanded.{here, further}
use Rattle.token_grammar.specs.declared.refusal.Refusal.TheVariants.{Unexpected, Stopped, EndsEarly}
use Rattle.token_grammar.specs.Answered.{HasAnswer}
use Rattle.token_grammar.proofs.Predicted.{numbered_among, weight_replaced}
use Rattle.token_grammar.proofs.Reading.{Reading, reading_start, reading_taken, reading_unexpected, reading_stopped, reading_accepted, reading_ended}
use Rattle.text_core.proofs.Laws.{take_next}

-- at the token a part of the row takes it, or none can
abbrev HasMove : {P T : Type 0} → Grammar P T → Plan P T → T → List P → Type 0
HasMove {P = P} g plan t row = (after : List P) × (taker : Option P) × Moves g plan t row after taker

-- the first part of the row was replaced by the alternative that the token asks for
further_moves : {P T : Type 0} (g : Grammar P T) (plan : Plan P T) (t : T) (p : P) (row alternative after : List P) (taker : Option P) →
    predicted g plan p t ≡ Some alternative → Moves g plan t (alternative ++ row) after taker → Moves g plan t (p ∷ row) after taker
further_moves g plan t p row alternative after (Some q) chosen (expanded, takes) = (further alternative chosen expanded, takes)
further_moves g plan t p row alternative after None chosen (stuck, expanded, blocked) =
    (stuck, further alternative chosen expanded, blocked)

module _ {P T : Type 0} (g : Grammar P T) (plan : Plan P T) (law : IsPredictive g plan) (n : ℕ) (t : T)
    (lighter : (row : List P) → weight g plan row < n → HasMove g plan t row) (p : P) (row : List P)
    (light : weight g plan (p ∷ row) < suc n) where
  -- the first part does not take the token: it asks for an alternative, or for none
  choice_moves : g.takes p t ≡ false → (choice : Option (List P)) → predicted g plan p t ≡ choice → HasMove g plan t (p ∷ row)
  choice_moves fails None e = (row, None, (p ∷ row, here, (fails, e)))
  choice_moves fails (Some alternative) e =
      let among = numbered_among (plan.chosen p t) alternative (g.alternatives p) e in
      let less : weight g plan (alternative ++ row) < weight g plan (p ∷ row) = weight_replaced g plan law p row alternative among in
      let (after, taker, moves) = lighter (alternative ++ row) (omega arith) in
      (after, taker, further_moves g plan t p row alternative after taker e moves)

  -- a row that is not empty
  first_moves : (test : Bool) → g.takes p t ≡ test → HasMove g plan t (p ∷ row)
  first_moves true e = (row, Some p, (here, e))
  first_moves false e = choice_moves e (predicted g plan p t) refl

module _ {P T : Type 0} (g : Grammar P T) (plan : Plan P T) (law : IsPredictive g plan) where
  -- a row that weighs less than a number
  light_moves : (n : ℕ) (t : T) (row : List P) → weight g plan row < n → HasMove g plan t row
  light_moves zero t row light = absurd (omega arith)
  light_moves (suc n) t [] light = ([], None, ([], here, tt))
  light_moves (suc n) t (p ∷ row) light = first_moves g plan law n t (light_moves n t) p row light (g.takes p t) refl

  -- each row
  row_moves : (t : T) (row : List P) → HasMove g plan t row
  row_moves t row = light_moves (suc (weight g plan row)) t row (omega arith)

module _ {P T S F : Type 0} (g : Grammar P T) (plan : Plan P T) (watcher : Watcher P T S F) (law : IsPredictive g plan)
    (decided : IsDecided watcher) (start : P) (before : S) (ts : List T) where
  -- the tokens before the one with this number are read, and a row is left
  abbrev ReadTo : ℕ → List P → S → Option P → Type 0
  ReadTo number row now last = Reading g plan watcher start before (take number ts) row now last

  -- where all tokens are read: the row may stand for no tokens, or not
  end_answered : (number : ℕ) (row : List P) (now : S) (last : Option P) → length ts ≤ number → ReadTo number row now last →
      (empty : Bool) → list_all (is_nullable g) (reverse row) ≡ empty → HasAnswer g watcher start before ts
  end_answered number row now last end r true e = record {
    answer = Ok tt;
    after = now;
    is_answer = reading_accepted g plan watcher law start before ts number (reverse row) now last end e
        (subst (λ stack. ReadTo number stack now last) (sym (reverse-reverse row)) r);
    known = λ h. cc;
  }
  end_answered number row now last end r false e = record {
    answer = Err EndsEarly;
    after = now;
    is_answer = reading_ended g plan watcher law start before ts number (reverse row) now last end e
        (subst (λ stack. ReadTo number stack now last) (sym (reverse-reverse row)) r);
    known = λ h. cc;
  }

  -- where one more token is read, by an answer for the tokens behind it
  token_answered : (number : ℕ) (row : List P) (now : S) (last : Option P) (t : T) → slice_get ts number ≡ Some t →
      ReadTo number row now last →
      ((row : List P) (now : S) (last : Option P) → ReadTo (number + 1) row now last → HasAnswer g watcher start before ts) →
      (after : List P) (taker : Option P) → Moves g plan t row after taker → HasAnswer g watcher start before ts
  token_answered number row now last t at r later after None moves = record {
    answer = Err (Unexpected number last);
    after = now;
    is_answer = reading_unexpected g plan watcher law start before ts number row after now last t at r moves;
    known = λ h. cc;
  }
  token_answered number row now last t at r later after (Some p) moves = elim (decided.does now p t) [
    | inl goes ↦ later after goes.0 (Some p) (subst (λ us. Reading g plan watcher start before us after goes.0 (Some p))
        (sym (take_next ts number t at))
        (reading_taken g plan watcher law start before (take number ts) row after now goes.0 last t p r moves goes.1))
    | inr finds ↦ record {
      answer = Err (Stopped number finds.0);
      after = now;
      is_answer = reading_stopped g plan watcher law start before ts number row after now last t p finds.0 at r moves finds.1;
      known = λ h. cc;
    }
  ]

  -- where no more than so many tokens are left
  rest_answered : (n number : ℕ) (row : List P) (now : S) (last : Option P) → length ts ≤ number + n → ReadTo number row now last →
      HasAnswer g watcher start before ts
  rest_answered zero number row now last few r =
      end_answered number row now last (omega arith) r (list_all (is_nullable g) (reverse row)) refl
  rest_answered (suc n) number row now last few r = elim ((slice_get_cases ts number).1) [
    | inl there ↦
        let (after, taker, moves) = row_moves g plan law there.0 row in
        token_answered number row now last there.0 there.2 r
        (λ row now last r. rest_answered n (number + 1) row now last (omega arith) r) after taker moves
    | inr end ↦ end_answered number row now last end.0 r (list_all (is_nullable g) (reverse row)) refl
  ]

  -- from the first token on
  pub tokens_answered : HasAnswer g watcher start before ts
  tokens_answered = rest_answered (length ts) 0 (start ∷ []) before None (omega arith) (reading_start g plan watcher law start before)
