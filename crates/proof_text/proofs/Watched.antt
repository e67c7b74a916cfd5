-- The watcher lets a text pass exactly where its script is within the bounds.
use Rattle.std.specs.Prelude.{◌≡◌, ◌+◌, ◌≤◌, max, nat_lt, Bool, true, false, List, [], ◌∷◌, length, Result, Ok, Err}
use Rattle.std.proofs.Common.{refl, sym, ◌∙◌, ap, subst, arith, cond}
use Rattle.std.proofs.lemmas.Bool.{ltb-true}
use Rattle.text_core.specs.declared.limits.TheConstants.{MOST_APPLICATIONS, MOST_SPLITS}
use Rattle.token_grammar.specs.SpelledAs.{SpelledAs}
use Rattle.token_grammar.specs.Taken.{Taken}
use Rattle.token_grammar.specs.Watch.{Watcher, Sees, watcher_of}
use Rattle.token_grammar.proofs.Laws.{taken_length, taken_spelled, value_spelled, seen_value}
use Rattle.tptp_lexer.specs.Tokens.{Token as LexToken}
use Rattle.proof_text.specs.declared.fixed.Fixed.TheVariants as fixed
use Rattle.proof_text.specs.declared.mark.Token.{Token}
use Rattle.proof_text.specs.declared.part.TextPart as TextPart
use Rattle.proof_text.specs.declared.part.TextPart.TheVariants.{Taken as TakenBy, Row}
use Rattle.proof_text.specs.declared.part.Taker.TheVariants as taker
use Rattle.proof_text.specs.declared.part.Rule.TheVariants.{Text as WholeText}
use Rattle.proof_text.specs.declared.watch.Limit as Limit
use Rattle.proof_text.specs.declared.watch.Limit.TheVariants.{TooLarge, TooDeep}
use Rattle.proof_text.specs.declared.watch.Tally.{Tally}
use Rattle.proof_text.specs.Marks.{marked}
use Rattle.proof_text.specs.Grammar.{proof_texts, proof_text_plan}
use Rattle.proof_text.specs.GrammarLaw.{proof_text_law}
use Rattle.proof_text.specs.Values.{Value, Written, proof_text_making}
use Rattle.proof_text.specs.Watching.{proof_text_watcher, look, counted, opened, opened_after}
use Rattle.proof_text.specs.Proper.{IsBounded}
use Rattle.proof_text.specs.Scripts.{AreScriptOf}
use Rattle.proof_text.specs.Told.{IsAcceptedText}
use Rattle.proof_text.proofs.Totals.{Total, total_of, looks, total_effect, total_building, with_body, end_deepest_is}

-- what is counted without a limit, as a watcher that finds no fault
abbrev counting : Watcher TextPart.TextPart Token Total Limit.Limit
counting = watcher_of (λ s p t. Ok (looks p t s))

-- the total after tokens with their takers
abbrev run : List TextPart.TextPart → List Token → Total → Total
run [] ts s = s
run (p ∷ ps) [] s = s
run (p ∷ ps) (t ∷ ts) s = run ps ts (looks p t s)

-- it is what the watcher without a limit comes to
run_seen : (ps : List TextPart.TextPart) (ts : List Token) (s : Total) → length ps ≡ length ts → Sees counting s ps ts (run ps ts s)
run_seen [] [] s e = refl
run_seen [] (t ∷ ts) s e = absurd (omega (arith, e))
run_seen (p ∷ ps) [] s e = absurd (omega (arith, e))
run_seen (p ∷ ps) (t ∷ ts) s e = (looks p t s, refl, run_seen ps ts (looks p t s) (omega (arith, e)))

-- what the watcher keeps of a total
abbrev tally_of : Total → Tally
tally_of s = record { applications = s.applications; splits = s.splits }

-- a total is within the limits
record IsWithin (s : Total) : Type 0 where
  few : s.applications ≤ MOST_APPLICATIONS
  shallow : s.deepest ≤ MOST_SPLITS
  right : s.wrong ≡ 0

-- each open split counts as a level of the deepest
abbrev IsSound : Total → Type 0
IsSound s = s.splits ≤ s.deepest

-- a total that a token leaves within the limits was within them
within_before : (p : TextPart.TextPart) (t : Token) (s : Total) → IsWithin (looks p t s) → IsWithin s
within_before (TakenBy (taker.Fixed fixed.Mp does)) t s h = record { few = let f = h.few in omega (arith, f); shallow = let d = h.shallow in omega (arith, d); right = h.right }
within_before (TakenBy (taker.Fixed fixed.As does)) t s h = record { few = let f = h.few in omega (arith, f); shallow = let d = h.shallow in omega (arith, d); right = h.right }
within_before (TakenBy (taker.Fixed fixed.Efq does)) t s h = record { few = let f = h.few in omega (arith, f); shallow = let d = h.shallow in omega (arith, d); right = h.right }
within_before (TakenBy (taker.Fixed fixed.Gap does)) t s h = record { few = let f = h.few in omega (arith, f); shallow = let d = h.shallow in omega (arith, d); right = h.right }
within_before (TakenBy (taker.Fixed fixed.Cs does)) t s h = record { few = let f = h.few in omega (arith, f); shallow = let d = h.shallow in omega (arith, d); right = h.right }
within_before (TakenBy (taker.Fixed fixed.End does)) t s h = record { few = h.few; shallow = h.shallow; right = h.right }
within_before (TakenBy taker.WrongVersion) t s h = absurd (let w = h.right in omega (arith, w))
within_before _ t s h = h

-- a total that tokens leave within the limits was within them
within_start : (ps : List TextPart.TextPart) (ts : List Token) (s : Total) → IsWithin (run ps ts s) → IsWithin s
within_start [] ts s h = h
within_start (p ∷ ps) [] s h = h
within_start (p ∷ ps) (t ∷ ts) s h = within_before p t s (within_start ps ts (looks p t s) h)

-- a count below the limit goes on
pub counted_passes : (s : Tally) → s.applications + 1 ≤ MOST_APPLICATIONS → counted s ≡ Ok (record s { applications = s.applications + 1 })
counted_passes s h = by_test (nat_lt s.applications MOST_APPLICATIONS) refl
  where
    by_test : (b : Bool) → nat_lt s.applications MOST_APPLICATIONS ≡ b →
        cond b (Ok (record s { applications = s.applications + 1 })) (Err TooLarge) ≡ Ok (record s { applications = s.applications + 1 })
    by_test true is = refl
    by_test false is = absurd (grind (arith, is, h))

-- a split below the limit opens
pub opened_passes : (s : Tally) → s.splits + 1 ≤ MOST_SPLITS → opened s ≡ Ok (record s { splits = s.splits + 1 })
opened_passes s h = by_test (nat_lt s.splits MOST_SPLITS) refl
  where
    by_test : (b : Bool) → nat_lt s.splits MOST_SPLITS ≡ b →
        cond b (Ok (record s { splits = s.splits + 1 })) (Err TooDeep) ≡ Ok (record s { splits = s.splits + 1 })
    by_test true is = refl
    by_test false is = absurd (grind (arith, is, h))

-- where a token leaves the total within the limits, the watcher finds no fault in it
look_passes : (p : TextPart.TextPart) (t : Token) (s : Total) → IsWithin (looks p t s) → look (tally_of s) p t ≡ Ok (tally_of (looks p t s))
look_passes (TakenBy (taker.Fixed fixed.Mp does)) t s h = counted_passes (tally_of s) h.few
look_passes (TakenBy (taker.Fixed fixed.As does)) t s h = counted_passes (tally_of s) h.few
look_passes (TakenBy (taker.Fixed fixed.Efq does)) t s h = counted_passes (tally_of s) h.few
look_passes (TakenBy (taker.Fixed fixed.Gap does)) t s h = counted_passes (tally_of s) h.few
look_passes (TakenBy (taker.Fixed fixed.Cs does)) t s h =
    ap opened_after (counted_passes (tally_of s) h.few) ∙
    opened_passes (record (tally_of s) { applications = s.applications + 1 }) (let d = h.shallow in omega (arith, d))
look_passes (TakenBy (taker.Fixed fixed.End does)) t s h = refl
look_passes (TakenBy taker.WrongVersion) t s h = absurd (let w = h.right in omega (arith, w))
look_passes _ t s h = refl

-- where tokens leave the total within the limits, the watcher finds no fault in them
run_passes : (ps : List TextPart.TextPart) (ts : List Token) (s : Total) → length ps ≡ length ts → IsWithin (run ps ts s) →
    Sees proof_text_watcher (tally_of s) ps ts (tally_of (run ps ts s))
run_passes [] [] s e h = refl
run_passes [] (t ∷ ts) s e h = absurd (omega (arith, e))
run_passes (p ∷ ps) [] s e h = absurd (omega (arith, e))
run_passes (p ∷ ps) (t ∷ ts) s e h =
    (tally_of (looks p t s), look_passes p t s (within_start ps ts (looks p t s) h), run_passes ps ts (looks p t s) (omega (arith, e)) h)

-- a count that goes on was below the limit
pub counted_is : (s after : Tally) → counted s ≡ Ok after → (s.applications + 1 ≤ MOST_APPLICATIONS) × (after ≡ record s { applications = s.applications + 1 })
counted_is s after e = by_test (nat_lt s.applications MOST_APPLICATIONS) refl e
  where
    by_test : (b : Bool) → nat_lt s.applications MOST_APPLICATIONS ≡ b →
        cond b (Ok (record s { applications = s.applications + 1 })) (Err TooLarge) ≡ Ok after →
        (s.applications + 1 ≤ MOST_APPLICATIONS) × (after ≡ record s { applications = s.applications + 1 })
    by_test true is e = (let less = ltb-true s.applications MOST_APPLICATIONS is in omega (arith, less), cc)
    by_test false is e = cc

-- a split that opens was below the limit
pub opened_is : (s after : Tally) → opened s ≡ Ok after → (s.splits + 1 ≤ MOST_SPLITS) × (after ≡ record s { splits = s.splits + 1 })
opened_is s after e = by_test (nat_lt s.splits MOST_SPLITS) refl e
  where
    by_test : (b : Bool) → nat_lt s.splits MOST_SPLITS ≡ b →
        cond b (Ok (record s { splits = s.splits + 1 })) (Err TooDeep) ≡ Ok after →
        (s.splits + 1 ≤ MOST_SPLITS) × (after ≡ record s { splits = s.splits + 1 })
    by_test true is e = (let less = ltb-true s.splits MOST_SPLITS is in omega (arith, less), cc)
    by_test false is e = cc

-- a split that opens was counted before
split_is : (s after : Tally) (outcome : Result Tally Limit.Limit) → counted s ≡ outcome → opened_after outcome ≡ Ok after →
    (between : Tally) × (counted s ≡ Ok between) × (opened between ≡ Ok after)
split_is s after (Ok between) is e = (between, is, e)
split_is s after (Err limit) is e = cc

-- what a token leaves: what the watcher keeps, within the limits
record Left (after : Tally) (s : Total) : Type 0 where
  same : after ≡ tally_of s
  within : IsWithin s
  sound : IsSound s

-- one rule word more is within the limits where it is counted
left_counted : (s : Total) (after : Tally) → counted (tally_of s) ≡ Ok after → IsWithin s → IsSound s → Left after (total_of (s.applications + 1) s.splits (max s.deepest 0) s.wrong)
left_counted s after e h sound =
    let (few, same) = counted_is (tally_of s) after e in
    record {
      same = same;
      within = record { few = few; shallow = let d = h.shallow in omega (arith, d); right = h.right };
      sound = omega (arith, sound);
    }

-- a token in which the watcher finds no fault leaves the total within the limits
look_left : (p : TextPart.TextPart) (t : Token) (s : Total) (after : Tally) → look (tally_of s) p t ≡ Ok after → IsWithin s → IsSound s →
    Left after (looks p t s)
look_left (TakenBy (taker.Fixed fixed.Mp does)) t s after e h sound = left_counted s after e h sound
look_left (TakenBy (taker.Fixed fixed.As does)) t s after e h sound = left_counted s after e h sound
look_left (TakenBy (taker.Fixed fixed.Efq does)) t s after e h sound = left_counted s after e h sound
look_left (TakenBy (taker.Fixed fixed.Gap does)) t s after e h sound = left_counted s after e h sound
look_left (TakenBy (taker.Fixed fixed.Cs does)) t s after e h sound =
    let (between, counts, opens) = split_is (tally_of s) after (counted (tally_of s)) refl e in
    let (few, first) = counted_is (tally_of s) between counts in
    let (room, second) = opened_is between after opens in
    let levels : between.splits ≡ s.splits = ap (λ (tally : Tally). tally.splits) first in
    let d = h.shallow in
    record {
      same = second ∙ ap (λ (tally : Tally). record tally { splits = tally.splits + 1 }) first;
      within = record { few = few; shallow = omega (arith, d, room, levels); right = h.right };
      sound = omega arith;
    }
look_left (TakenBy (taker.Fixed fixed.End does)) t s after e h sound =
    record { same = cc; within = record { few = h.few; shallow = h.shallow; right = h.right }; sound = omega (arith, sound) }
look_left (TakenBy taker.WrongVersion) t s after e h sound = cc
look_left _ t s after e h sound = record { same = cc; within = h; sound = sound }

-- tokens in which the watcher finds no fault leave the total within the limits
run_within : (ps : List TextPart.TextPart) (ts : List Token) (s : Total) (after : Tally) → Sees proof_text_watcher (tally_of s) ps ts after →
    IsWithin s → IsSound s → IsWithin (run ps ts s)
run_within [] [] s after seen h sound = h
run_within [] (t ∷ ts) s after seen h sound = absurd seen
run_within (p ∷ ps) [] s after seen h sound = absurd seen
run_within (p ∷ ps) (t ∷ ts) s after (between, sees, rest) h sound =
    let left = look_left p t s between sees h sound in
    run_within ps ts (looks p t s) after (subst (λ tally. Sees proof_text_watcher tally ps ts after) left.same rest) left.within left.sound

-- nothing is counted
abbrev none_yet : Total
none_yet = total_of 0 0 0 0

-- the total of a text is told by its script
total_told : (ts : List LexToken) (script : Written) (takers : List TextPart.TextPart) →
    SpelledAs proof_texts Value (proof_text_making ts) (Row WholeText) script (marked ts) →
    Taken proof_texts true (Row WholeText ∷ []) (marked ts) takers →
    run takers (marked ts) none_yet ≡ with_body script.body none_yet
total_told ts script takers spelled taken =
    seen_value proof_texts proof_text_plan proof_text_law counting Value (proof_text_making ts) looks total_effect
    (λ before after p t e. cc) (total_building ts) (Row WholeText) none_yet (run takers (marked ts) none_yet) (marked ts) script
    (record {
      text = value_spelled proof_texts Value (proof_text_making ts) spelled;
      clean = (takers, record { taken = taken; seen = run_seen takers (marked ts) none_yet (taken_length taken) });
    })
    spelled

-- a script that is spelled is within the bounds where the watcher lets its text pass
pub accepted_bounded : (ts : List LexToken) (script : Written) → IsAcceptedText ts →
    SpelledAs proof_texts Value (proof_text_making ts) (Row WholeText) script (marked ts) → IsBounded script.body
accepted_bounded ts script (after, accepted) spelled =
    let (takers, clean) = accepted.clean in
    let told = total_told ts script takers spelled clean.taken in
    let start : IsWithin none_yet = record { few = omega arith; shallow = omega arith; right = refl } in
    let within = subst IsWithin told (run_within takers (marked ts) none_yet after clean.seen start (omega arith)) in
    let few = within.few in
    let shallow = within.shallow in
    let deep = end_deepest_is 0 script.body.end in
    record { small = omega (arith, few); shallow = omega (arith, shallow, deep) }

-- the watcher lets the text of a script pass that is within the bounds
pub script_accepted : (ts : List LexToken) (script : Written) → AreScriptOf ts script → IsAcceptedText ts
script_accepted ts script are =
    let text = value_spelled proof_texts Value (proof_text_making ts) are.spelled in
    let (takers, taken) = taken_spelled proof_texts text in
    let told = total_told ts script takers are.spelled taken in
    let small = are.bounded.small in
    let shallow = are.bounded.shallow in
    let deep = end_deepest_is 0 script.body.end in
    let within : IsWithin (with_body script.body none_yet) =
    record { few = omega (arith, small); shallow = omega (arith, shallow, deep); right = refl } in
    let passes = run_passes takers (marked ts) none_yet (taken_length taken) (subst IsWithin (sym told) within) in
    (tally_of (run takers (marked ts) none_yet), record { text = text; clean = (takers, record { taken = taken; seen = passes }) })
