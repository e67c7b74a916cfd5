-- The watcher lets a text pass exactly where its body is within the bounds.
use Rattle.std.specs.Prelude.{◌≡◌, ℕ, ◌+◌, ◌≤◌, max, true, List, [], ◌∷◌, length, Result, Ok, Err}
use Rattle.std.proofs.Common.{refl, sym, ◌∙◌, ap, subst, arith}
use Rattle.text_core.specs.declared.limits.TheConstants.{MOST_APPLICATIONS, MOST_SPLITS}
use Rattle.token_grammar.specs.SpelledAs.{SpelledAs}
use Rattle.token_grammar.specs.Taken.{Taken}
use Rattle.token_grammar.specs.Watch.{Watcher, Sees, watcher_of}
use Rattle.token_grammar.proofs.Laws.{taken_length, taken_spelled, value_spelled, seen_value}
use Rattle.proof_text.specs.declared.body.BodyText.{BodyText}
use Rattle.proof_text.specs.declared.part.Act.TheVariants.{EndAs, EndEfq, EndSplit}
use Rattle.proof_text.specs.declared.watch.Limit as Limit
use Rattle.proof_text.specs.declared.watch.Tally.{Tally}
use Rattle.proof_text.specs.Watching.{counted, opened}
use Rattle.proof_text.specs.Proper.{IsBounded}
use Rattle.proof_text.proofs.Laws.{end_deepest_is, counted_passes, opened_passes, counted_is, opened_is}
use Rattle.isar_text.specs.declared.fixed.Fixed.TheVariants as fixed
use Rattle.isar_text.specs.declared.mark.Token.{Token}
use Rattle.isar_text.specs.declared.part.IsarPart as IsarPart
use Rattle.isar_text.specs.declared.part.IsarPart.TheVariants.{Taken as TakenBy, Row}
use Rattle.isar_text.specs.declared.part.Taker.TheVariants as taker
use Rattle.isar_text.specs.declared.part.Rule.TheVariants.{Rest}
use Rattle.isar_text.specs.declared.watch.Excess.{Excess}
use Rattle.isar_text.specs.declared.watch.RuleWords.{RuleWords}
use Rattle.isar_text.specs.Grammar.{isar_rests, isar_plan}
use Rattle.isar_text.specs.GrammarLaw.{isar_law}
use Rattle.isar_text.specs.Values.{Lexed, Value, isar_making}
use Rattle.isar_text.specs.Watching.{isar_watcher, look, told_at}
use Rattle.isar_text.specs.Scripts.{AreBodyOf, seen_in}
use Rattle.isar_text.specs.Told.{IsAcceptedRest}
use Rattle.isar_text.proofs.Totals.{Total, total_of, looks, total_effect, total_building, with_body}

-- what is counted without a limit, as a watcher that finds no fault
abbrev counting : Watcher IsarPart.IsarPart Token Total Excess
counting = watcher_of (λ s p t. Ok (looks p t s))

-- the total after tokens with their takers
abbrev run : List IsarPart.IsarPart → List Token → Total → Total
run [] ts s = s
run (p ∷ ps) [] s = s
run (p ∷ ps) (t ∷ ts) s = run ps ts (looks p t s)

-- it is what the watcher without a limit comes to
run_seen : (ps : List IsarPart.IsarPart) (ts : List Token) (s : Total) → length ps ≡ length ts → Sees counting s ps ts (run ps ts s)
run_seen [] [] s e = refl
run_seen [] (t ∷ ts) s e = absurd (omega (arith, e))
run_seen (p ∷ ps) [] s e = absurd (omega (arith, e))
run_seen (p ∷ ps) (t ∷ ts) s e = (looks p t s, refl, run_seen ps ts (looks p t s) (omega (arith, e)))

-- the last rule word after a token, and after tokens with their takers
abbrev word_at : IsarPart.IsarPart → Token → ℕ → ℕ
word_at (TakenBy (taker.Fixed fixed.Have does)) t word = t.number
word_at (TakenBy (taker.Fixed fixed.Obtain does)) t word = t.number
word_at (TakenBy (taker.Fixed fixed.Show does)) t word = t.number
word_at _ t word = word

abbrev last_word : List IsarPart.IsarPart → List Token → ℕ → ℕ
last_word [] ts word = word
last_word (p ∷ ps) [] word = word
last_word (p ∷ ps) (t ∷ ts) word = last_word ps ts (word_at p t word)

-- what the watcher keeps of a total, behind this rule word
abbrev tally_of : Total → Tally
tally_of s = record { applications = s.applications; splits = s.splits }

abbrev words_of : Total → ℕ → RuleWords
words_of s word = record { tally = tally_of s; last = word }

-- a total is within the limits
record IsWithin (s : Total) : Type 0 where
  few : s.applications ≤ MOST_APPLICATIONS
  shallow : s.deepest ≤ MOST_SPLITS

-- each open split counts as a level of the deepest
abbrev IsSound : Total → Type 0
IsSound s = s.splits ≤ s.deepest

-- a total is within the limits where one is that counts as much, or more
within_less : (s t : Total) → s.applications ≤ t.applications → s.deepest ≤ t.deepest → IsWithin t → IsWithin s
within_less s t few shallow h =
    record { few = let f = h.few in omega (arith, f, few); shallow = let d = h.shallow in omega (arith, d, shallow) }

-- a total that a token leaves within the limits was within them
within_before : (p : IsarPart.IsarPart) (t : Token) (s : Total) → IsWithin (looks p t s) → IsWithin s
within_before (TakenBy (taker.Fixed fixed.Have does)) t s h =
    within_less s (looks (TakenBy (taker.Fixed fixed.Have does)) t s) (omega arith) (omega arith) h
within_before (TakenBy (taker.Fixed fixed.Obtain does)) t s h =
    within_less s (looks (TakenBy (taker.Fixed fixed.Obtain does)) t s) (omega arith) (omega arith) h
within_before (TakenBy (taker.Fixed fixed.Show does)) t s h =
    within_less s (looks (TakenBy (taker.Fixed fixed.Show does)) t s) (omega arith) (omega arith) h
within_before (TakenBy (taker.Fixed fixed.Proof does)) t s h =
    within_less s (looks (TakenBy (taker.Fixed fixed.Proof does)) t s) (omega arith) (omega arith) h
within_before (TakenBy (taker.Fixed fixed.Qed EndSplit)) t s h = record { few = h.few; shallow = h.shallow }
within_before (TakenBy (taker.Fixed fixed.CloseComment EndAs)) t s h = record { few = h.few; shallow = h.shallow }
within_before (TakenBy (taker.Fixed fixed.CloseComment EndEfq)) t s h = record { few = h.few; shallow = h.shallow }
within_before (TakenBy (taker.SplitLine n)) t s h = record { few = h.few; shallow = h.shallow }
within_before _ t s h = h

-- a total that tokens leave within the limits was within them
within_start : (ps : List IsarPart.IsarPart) (ts : List Token) (s : Total) → IsWithin (run ps ts s) → IsWithin s
within_start [] ts s h = h
within_start (p ∷ ps) [] s h = h
within_start (p ∷ ps) (t ∷ ts) s h = within_before p t s (within_start ps ts (looks p t s) h)

-- where a token leaves the total within the limits, the watcher finds no fault in it
look_passes : (p : IsarPart.IsarPart) (t : Token) (s : Total) (word : ℕ) → IsWithin (looks p t s) →
    look (words_of s word) p t ≡ Ok (words_of (looks p t s) (word_at p t word))
look_passes (TakenBy (taker.Fixed fixed.Have does)) t s word h = ap (told_at t.number) (counted_passes (tally_of s) h.few)
look_passes (TakenBy (taker.Fixed fixed.Obtain does)) t s word h = ap (told_at t.number) (counted_passes (tally_of s) h.few)
look_passes (TakenBy (taker.Fixed fixed.Show does)) t s word h = ap (told_at t.number) (counted_passes (tally_of s) h.few)
look_passes (TakenBy (taker.Fixed fixed.Proof does)) t s word h =
    let d = h.shallow in
    let none : s.applications ≡ s.applications + 0 = omega arith in
    ap (told_at word) (opened_passes (tally_of s) (omega (arith, d))) ∙
    ap (λ (n : ℕ). Ok (record { tally = record { applications = n; splits = s.splits + 1 }; last = word })) none
look_passes (TakenBy (taker.Fixed fixed.Qed EndSplit)) t s word h = refl
look_passes (TakenBy (taker.Fixed fixed.CloseComment EndAs)) t s word h = refl
look_passes (TakenBy (taker.Fixed fixed.CloseComment EndEfq)) t s word h = refl
look_passes (TakenBy (taker.SplitLine n)) t s word h = refl
look_passes _ t s word h = refl

-- where tokens leave the total within the limits, the watcher finds no fault in them
run_passes : (ps : List IsarPart.IsarPart) (ts : List Token) (s : Total) (word : ℕ) → length ps ≡ length ts → IsWithin (run ps ts s) →
    Sees isar_watcher (words_of s word) ps ts (words_of (run ps ts s) (last_word ps ts word))
run_passes [] [] s word e h = refl
run_passes [] (t ∷ ts) s word e h = absurd (omega (arith, e))
run_passes (p ∷ ps) [] s word e h = absurd (omega (arith, e))
run_passes (p ∷ ps) (t ∷ ts) s word e h = (
  words_of (looks p t s) (word_at p t word),
  look_passes p t s word (within_start ps ts (looks p t s) h),
  run_passes ps ts (looks p t s) (word_at p t word) (omega (arith, e)) h,
)

-- where no limit is passed at a rule word, the counts go on
told_is : (word : ℕ) (outcome : Result Tally Limit.Limit) (after : RuleWords) → told_at word outcome ≡ Ok after →
    outcome ≡ Ok after.tally
told_is word (Ok tally) after e = cc
told_is word (Err limit) after e = cc

-- what a token leaves: what the watcher keeps, within the limits
record Left (after : RuleWords) (s : Total) : Type 0 where
  same : after.tally ≡ tally_of s
  within : IsWithin s
  sound : IsSound s

-- one rule word more is within the limits where it is counted
left_counted : (s : Total) (word : ℕ) (after : RuleWords) → told_at word (counted (tally_of s)) ≡ Ok after → IsWithin s → IsSound s →
    Left after (total_of (s.applications + 1) s.splits (max s.deepest 0) s.label)
left_counted s word after e h sound =
    let (few, same) = counted_is (tally_of s) after.tally (told_is word (counted (tally_of s)) after e) in
    record {
      same = same;
      within = record { few = few; shallow = let d = h.shallow in omega (arith, d) };
      sound = omega (arith, sound);
    }

-- one split more is within the limits where it opens
left_opened : (s : Total) (word : ℕ) (after : RuleWords) → told_at word (opened (tally_of s)) ≡ Ok after → IsWithin s → IsSound s →
    Left after (total_of (s.applications + 0) (s.splits + 1) (max s.deepest (s.splits + 1)) s.label)
left_opened s word after e h sound =
    let (room, same) = opened_is (tally_of s) after.tally (told_is word (opened (tally_of s)) after e) in
    let none : s.applications ≡ s.applications + 0 = omega arith in
    record {
      same = same ∙ ap (λ (n : ℕ). record { applications = n; splits = s.splits + 1 }) none;
      within = record { few = let f = h.few in omega (arith, f); shallow = let d = h.shallow in omega (arith, d, room) };
      sound = omega arith;
    }

-- a token in which the watcher finds no fault leaves the total within the limits
look_left : (p : IsarPart.IsarPart) (t : Token) (s : Total) (word : ℕ) (after : RuleWords) → look (words_of s word) p t ≡ Ok after →
    IsWithin s → IsSound s → Left after (looks p t s)
look_left (TakenBy (taker.Fixed fixed.Have does)) t s word after e h sound = left_counted s t.number after e h sound
look_left (TakenBy (taker.Fixed fixed.Obtain does)) t s word after e h sound = left_counted s t.number after e h sound
look_left (TakenBy (taker.Fixed fixed.Show does)) t s word after e h sound = left_counted s t.number after e h sound
look_left (TakenBy (taker.Fixed fixed.Proof does)) t s word after e h sound = left_opened s word after e h sound
look_left (TakenBy (taker.Fixed fixed.Qed EndSplit)) t s word after e h sound =
    record { same = cc; within = record { few = h.few; shallow = h.shallow }; sound = omega (arith, sound) }
look_left (TakenBy (taker.Fixed fixed.CloseComment EndAs)) t s word after e h sound =
    record { same = cc; within = record { few = h.few; shallow = h.shallow }; sound = sound }
look_left (TakenBy (taker.Fixed fixed.CloseComment EndEfq)) t s word after e h sound =
    record { same = cc; within = record { few = h.few; shallow = h.shallow }; sound = sound }
look_left (TakenBy (taker.SplitLine n)) t s word after e h sound =
    record { same = cc; within = record { few = h.few; shallow = h.shallow }; sound = sound }
look_left _ t s word after e h sound = record { same = cc; within = h; sound = sound }

-- tokens in which the watcher finds no fault leave the total within the limits
run_within : (ps : List IsarPart.IsarPart) (ts : List Token) (s : Total) (before after : RuleWords) → before.tally ≡ tally_of s →
    Sees isar_watcher before ps ts after → IsWithin s → IsSound s → IsWithin (run ps ts s)
run_within [] [] s before after same seen h sound = h
run_within [] (t ∷ ts) s before after same seen h sound = absurd seen
run_within (p ∷ ps) [] s before after same seen h sound = absurd seen
run_within (p ∷ ps) (t ∷ ts) s before after same (between, sees, rest) h sound =
    let looked : look (words_of s before.last) p t ≡ Ok between =
    subst (λ (tally : Tally). look (record { tally = tally; last = before.last }) p t ≡ Ok between) same sees in
    let left = look_left p t s before.last between looked h sound in
    run_within ps ts (looks p t s) between after left.same rest left.within left.sound

-- nothing is counted
abbrev none_yet : Total
none_yet = total_of 0 0 0 0

-- the total of a text is told by its body
total_told : (lexed : Lexed) (body : BodyText) (takers : List IsarPart.IsarPart) →
    SpelledAs isar_rests Value (isar_making lexed) (Row Rest) body (seen_in lexed) →
    Taken isar_rests true (Row Rest ∷ []) (seen_in lexed) takers →
    run takers (seen_in lexed) none_yet ≡ with_body body none_yet
total_told lexed body takers spelled taken =
    seen_value isar_rests isar_plan isar_law counting Value (isar_making lexed) looks total_effect
    (λ before after p t e. cc) (total_building lexed) (Row Rest) none_yet (run takers (seen_in lexed) none_yet) (seen_in lexed) body
    (record {
      text = value_spelled isar_rests Value (isar_making lexed) spelled;
      clean = (takers, record { taken = taken; seen = run_seen takers (seen_in lexed) none_yet (taken_length taken) });
    })
    spelled

-- a body that is spelled is within the bounds where the watcher lets its text pass
pub accepted_bounded : (lexed : Lexed) (body : BodyText) → IsAcceptedRest (seen_in lexed) →
    SpelledAs isar_rests Value (isar_making lexed) (Row Rest) body (seen_in lexed) → IsBounded body
accepted_bounded lexed body (after, accepted) spelled =
    let (takers, clean) = accepted.clean in
    let told = total_told lexed body takers spelled clean.taken in
    let start : IsWithin none_yet = record { few = omega arith; shallow = omega arith } in
    let within = subst IsWithin told (run_within takers (seen_in lexed) none_yet (words_of none_yet 0) after refl clean.seen start (omega arith)) in
    let few = within.few in
    let shallow = within.shallow in
    let deep = end_deepest_is 0 body.end in
    record { small = omega (arith, few); shallow = omega (arith, shallow, deep) }

-- the watcher lets the text of a body pass that is within the bounds
pub body_accepted : (lexed : Lexed) (body : BodyText) → AreBodyOf lexed body → IsAcceptedRest (seen_in lexed)
body_accepted lexed body are =
    let text = value_spelled isar_rests Value (isar_making lexed) are.spelled in
    let (takers, taken) = taken_spelled isar_rests text in
    let told = total_told lexed body takers are.spelled taken in
    let small = are.bounded.small in
    let shallow = are.bounded.shallow in
    let deep = end_deepest_is 0 body.end in
    let within : IsWithin (with_body body none_yet) =
    record { few = omega (arith, small); shallow = omega (arith, shallow, deep) } in
    let passes = run_passes takers (seen_in lexed) none_yet 0 (taken_length taken) (subst IsWithin (sym told) within) in (
      words_of (run takers (seen_in lexed) none_yet) (last_word takers (seen_in lexed) 0),
      record { text = text; clean = (takers, record { taken = taken; seen = passes }) },
    )
