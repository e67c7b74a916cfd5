-- What the watcher refuses: no version, and at the number of a token.
use Rattle.std.specs.Prelude.{◌≡◌, ◌≢◌, ℕ, ◌+◌, ◌<◌, ◌⊎◌, nat_lt, Bool, true, false, List, [], ◌∷◌, length, take, drop, slice_get, option_map, Some, Result, Ok, Err}
use Rattle.std.specs.List.{AllByRecursion}
use Rattle.std.proofs.Common.{sym, ◌∙◌, ap, subst, arith, cond, inl, inr}
use Rattle.std.proofs.lemmas.List.{take-append-drop}
use Rattle.std.proofs.lemmas.Option.{slice_get-map, slice_get_cases}
use Rattle.text_core.specs.declared.limits.TheConstants.{MOST_APPLICATIONS, MOST_SPLITS}
use Rattle.text_core.proofs.Laws.{each_get, each_front}
use Rattle.token_grammar.specs.Answers.{IsStopped}
use Rattle.token_grammar.specs.Watch.{Sees}
use Rattle.proof_text.specs.declared.watch.Limit as Limit
use Rattle.proof_text.specs.declared.watch.Limit.TheVariants as limit
use Rattle.proof_text.specs.declared.watch.Tally.{Tally}
use Rattle.proof_text.specs.declared.part.Act.TheVariants.{EndSplit}
use Rattle.proof_text.specs.Watching.{counted, opened}
use Rattle.isar_text.specs.declared.fixed.Fixed.TheVariants as fixed
use Rattle.isar_text.specs.declared.mark.Token.{Token as Seen}
use Rattle.isar_text.specs.declared.part.IsarPart as IsarPart
use Rattle.isar_text.specs.declared.part.IsarPart.TheVariants.{Taken, Row}
use Rattle.isar_text.specs.declared.part.Taker.TheVariants as taker
use Rattle.isar_text.specs.declared.part.Rule.TheVariants.{Rest}
use Rattle.isar_text.specs.declared.watch.RuleWords.{RuleWords}
use Rattle.isar_text.specs.declared.watch.Excess.{Excess}
use Rattle.isar_text.specs.Grammar.{isar_rests}
use Rattle.isar_text.specs.Marks.{marked, marked_from}
use Rattle.isar_text.specs.Scripts.{starts_of}
use Rattle.isar_text.specs.Tokens.{Token}
use Rattle.isar_text.specs.Watching.{isar_watcher, look, told_at, nothing_seen}

-- where numbers are below this one they are below any that is not less
below_more : (m n : ℕ) (ms : List Seen) → m ≡ n → AllByRecursion (λ (t : Seen). t.number < m) ms → AllByRecursion (λ (t : Seen). t.number < n) ms
below_more m n ms same all = subst (λ (k : ℕ). AllByRecursion (λ (t : Seen). t.number < k) ms) same all

-- the numbers of tokens are below that of the last one, and one more
marked_below : (forms n : ℕ) (ts : List Token) → AllByRecursion (λ (t : Seen). t.number < n + length ts) (marked_from forms n ts)
marked_below forms n [] = tt
marked_below forms n (t ∷ ts) =
    (omega arith, below_more ((n + 1) + length ts) (n + length (t ∷ ts)) (marked_from forms (n + 1) ts) (omega arith) (marked_below forms (n + 1) ts))

-- the same, numbered from 0
numbers_below : (forms : ℕ) (ts : List Token) → AllByRecursion (λ (t : Seen). t.number < length ts) (marked forms ts)
numbers_below forms ts = below_more (0 + length ts) (length ts) (marked forms ts) (omega arith) (marked_below forms 0 ts)

-- a count goes on, or is one too many
counted_limit : (s : Tally) (why : Limit.Limit) → counted s ≡ Err why → why ≢ limit.Version
counted_limit s why e = by_test (nat_lt s.applications MOST_APPLICATIONS) e
  where
    by_test : (b : Bool) → cond b (Ok (record s { applications = s.applications + 1 })) (Err limit.TooLarge) ≡ Err why → why ≢ limit.Version
    by_test true e = λ h. cc
    by_test false e = λ h. cc

-- a split opens, or is too deep
opened_limit : (s : Tally) (why : Limit.Limit) → opened s ≡ Err why → why ≢ limit.Version
opened_limit s why e = by_test (nat_lt s.splits MOST_SPLITS) e
  where
    by_test : (b : Bool) → cond b (Ok (record s { splits = s.splits + 1 })) (Err limit.TooDeep) ≡ Err why → why ≢ limit.Version
    by_test true e = λ h. cc
    by_test false e = λ h. cc

-- what is told of a rule word
told_limit : (word : ℕ) (outcome : Result Tally Limit.Limit) (excess : Excess) → told_at word outcome ≡ Err excess →
    (outcome ≡ Err excess.limit) × (excess.word ≡ word)
told_limit word (Ok tally) excess e = absurd (cc)
told_limit word (Err why) excess e = (cc, cc)

-- no version is refused, and what is refused is told of the token or of the last rule word
record IsTold (before : RuleWords) (t : Seen) (excess : Excess) : Type 0 where
  known : excess.limit ≢ limit.Version
  place : (excess.word ≡ t.number) ⊎ (excess.word ≡ before.last)

-- a rule word is refused as one too many
told_counted : (before : RuleWords) (t : Seen) (excess : Excess) → told_at t.number (counted before.tally) ≡ Err excess → IsTold before t excess
told_counted before t excess e =
    let (is, word) = told_limit t.number (counted before.tally) excess e in
    record { known = counted_limit before.tally excess.limit is; place = inl word }

-- what the watcher finds at a token
look_told : (before : RuleWords) (p : IsarPart.IsarPart) (t : Seen) (excess : Excess) → look before p t ≡ Err excess → IsTold before t excess
look_told before (Taken (taker.Fixed fixed.Have does)) t excess e = told_counted before t excess e
look_told before (Taken (taker.Fixed fixed.Obtain does)) t excess e = told_counted before t excess e
look_told before (Taken (taker.Fixed fixed.Show does)) t excess e = told_counted before t excess e
look_told before (Taken (taker.Fixed fixed.Proof does)) t excess e =
    let (is, word) = told_limit before.last (opened before.tally) excess e in
    record { known = opened_limit before.tally excess.limit is; place = inr word }
look_told before (Taken (taker.Fixed fixed.Qed EndSplit)) t excess e = absurd (cc)
look_told before _ t excess e = absurd (cc)

-- the last rule word after what goes on
told_last : (word : ℕ) (outcome : Result Tally Limit.Limit) (after : RuleWords) → told_at word outcome ≡ Ok after → after.last ≡ word
told_last word (Ok tally) after e = cc
told_last word (Err why) after e = absurd (cc)

-- the last rule word after a token is the token or the one before
look_last : (before after : RuleWords) (p : IsarPart.IsarPart) (t : Seen) → look before p t ≡ Ok after →
    (after.last ≡ t.number) ⊎ (after.last ≡ before.last)
look_last before after (Taken (taker.Fixed fixed.Have does)) t e = inl (told_last t.number (counted before.tally) after e)
look_last before after (Taken (taker.Fixed fixed.Obtain does)) t e = inl (told_last t.number (counted before.tally) after e)
look_last before after (Taken (taker.Fixed fixed.Show does)) t e = inl (told_last t.number (counted before.tally) after e)
look_last before after (Taken (taker.Fixed fixed.Proof does)) t e = inr (told_last before.last (opened before.tally) after e)
look_last before after (Taken (taker.Fixed fixed.Qed EndSplit)) t e = inr (cc)
look_last before after _ t e = inr (cc)

-- a number that is one of two is below what both are below
either_below : (k m n limit : ℕ) → (k ≡ m) ⊎ (k ≡ n) → m < limit → n < limit → k < limit
either_below k m n limit is first second = elim is [ inl e ↦ omega (arith, e, first) | inr e ↦ omega (arith, e, second) ]

-- the last rule word is the number of a token
last_below : (limit : ℕ) (ps : List IsarPart.IsarPart) (ms : List Seen) (before after : RuleWords) →
    AllByRecursion (λ (t : Seen). t.number < limit) ms → Sees isar_watcher before ps ms after → before.last < limit → after.last < limit
last_below limit [] [] before after all seen below = subst (λ (words : RuleWords). words.last < limit) (sym seen) below
last_below limit [] (t ∷ ms) before after all seen below = absurd seen
last_below limit (p ∷ ps) [] before after all seen below = absurd seen
last_below limit (p ∷ ps) (t ∷ ms) before after all (between, sees, rest) below =
    last_below limit ps ms between after all.1 rest
    (either_below between.last t.number before.last limit (look_last before between p t sees) all.0 below)

-- what the watcher refuses among the marks of tokens
pub record IsKnown (tokens : ℕ) (excess : Excess) : Type 0 where
  pub known : excess.limit ≢ limit.Version
  pub within : excess.word < tokens

pub stopped_known : (forms : ℕ) (ts : List Token) (n : ℕ) (excess : Excess) →
    IsStopped isar_rests isar_watcher (Row Rest) nothing_seen (marked forms ts) n excess → IsKnown (length ts) excess
stopped_known forms ts n excess stopped =
    let (takers, between, taker, token, at, clean, taken, finds) = stopped.found in
    let all = numbers_below forms ts in
    let here : token.number < length ts = each_get (λ (t : Seen). t.number < length ts) (marked forms ts) n token all at in
    let front = each_front (λ (t : Seen). t.number < length ts) (take n (marked forms ts)) (drop n (marked forms ts))
    (subst (AllByRecursion (λ (t : Seen). t.number < length ts)) (sym (take-append-drop n (marked forms ts))) all) in
    let some : 0 < length ts = omega (arith, here) in
    let last = last_below (length ts) takers (take n (marked forms ts)) nothing_seen between front clean.seen some in
    let told = look_told between taker token excess finds in
    record { known = told.known; within = either_below excess.word token.number between.last (length ts) told.place here last }

-- the start of the token with a number
pub start_at : (ts : List Token) (n : ℕ) → n < length ts → (offset : ℕ) × slice_get (starts_of ts) n ≡ Some offset
start_at ts n within = elim ((slice_get_cases ts n).1) [
  | inl there ↦
      let t : Token = there.0 in
      (t.start, slice_get-map (λ (t : Token). t.start) ts n ∙ ap (option_map (λ (t : Token). t.start)) there.2)
  | inr past ↦ let few = past.0 in absurd (omega (arith, few, within))
]
