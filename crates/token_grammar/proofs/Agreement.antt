-- The answers exclude each other: which parts took the tokens, and what the watcher makes of them, is settled.
use Rattle.std.proofs.Common.{◌≡◌, refl, sym, ◌∙◌, ap, subst, ℕ, zero, suc, ◌+◌, ◌<◌, ◌≤◌, arith, Bool, true, false, inl, inr, List, [], ◌∷◌, ◌++◌, take, length}
use Rattle.std.specs.Prelude.{Option, Result, Ok, Err}
use Rattle.std.proofs.lemmas.Bool.{cases_order}
use Rattle.token_grammar.specs.Grammar.{Grammar, IsText, BeginsText}
use Rattle.token_grammar.specs.Taken.{Taken}
use Rattle.token_grammar.specs.Taken.Taken.{stop, token, part}
use Rattle.token_grammar.specs.Watch.{Watcher, Sees, IsDecided}
use Rattle.token_grammar.specs.Plan.{Plan, IsPredictive}
use Rattle.token_grammar.specs.Answers.{last_of, IsClean, IsAccepted, IsUnexpected, IsStopped, IsEarlyEnd, IsAnswer, AreOne}
use Rattle.token_grammar.specs.declared.refusal.Refusal.{Refusal}
use Rattle.token_grammar.specs.declared.refusal.Refusal.TheVariants.{Memory, Unexpected, Stopped, EndsEarly}
use Rattle.token_grammar.proofs.Predicted.{Safe, predicted_taken, safe_replaced}
use Rattle.token_grammar.proofs.Leaves.{by_chosen, by_token, leaves_start}
use Rattle.token_grammar.proofs.Spelling.{taken_spelled, taken_begun, begun_taken}
use Rattle.token_grammar.proofs.Reading.{last_of-append}
use Rattle.token_grammar.proofs.Seeing.{sees_apart, sees_once}
use Rattle.text_core.proofs.Laws.{take_next, take_all}

-- no tokens have no takers
none_taken : {P T : Type 0} {g : Grammar P T} {whole : Bool} {row takers : List P} → Taken g whole row [] takers → takers ≡ []
none_taken (stop h) = refl
none_taken (part alternative a rest) = none_taken rest

-- the beginning of what is taken is taken
pub front_taken : {P T : Type 0} {g : Grammar P T} {whole : Bool} {row : List P} {all : List T} {takers : List P} →
    Taken g whole row all takers → (us vs : List T) → all ≡ us ++ vs →
    (qs : List P) × ((rs : List P) × (takers ≡ qs ++ rs)) × Taken g false row us qs
front_taken {takers = takers} taken [] vs e = ([], (takers, refl), stop tt)
front_taken (stop h) (u ∷ us) vs e = cc
front_taken {g = g} (token {p = p} {row = row} {t = t} {ts = ts} h rest) (u ∷ us) vs e =
    let one : t ≡ u = cc in
    let tail : ts ≡ us ++ vs = cc in
    let (qs, (rs, split), front) = front_taken rest us vs tail in
    (p ∷ qs, (rs, ap (λ x. p ∷ x) split), subst (λ x. Taken g false (p ∷ row) (x ∷ us) (p ∷ qs)) one (token h front))
front_taken (part alternative a rest) (u ∷ us) vs e =
    let (qs, found, front) = front_taken rest (u ∷ us) vs e in (qs, found, part alternative a front)

module _ {P T : Type 0} (g : Grammar P T) (plan : Plan P T) (law : IsPredictive g plan) where
  -- which parts take the tokens is settled by the tokens
  one_taking : {whole other : Bool} {row : List P} {ts : List T} {takers : List P} (others : List P) → Safe g plan row →
      Taken g whole row ts takers → Taken g other row ts others → takers ≡ others
  one_taking others safe (stop h) second = sym (none_taken second)
  one_taking {row = p ∷ row} others safe (token h rest) second =
      let (later, e, tail) = by_token g plan law p p row h second in
      ap (λ x. p ∷ x) (one_taking later safe.1 rest tail) ∙ sym e
  one_taking {row = p ∷ row} {ts = []} others safe (part alternative a rest) second = none_taken rest ∙ sym (none_taken second)
  one_taking {row = p ∷ row} {ts = t ∷ ts} others safe (part alternative a rest) second =
      let chosen = predicted_taken g plan law p row alternative safe a rest in
      one_taking others (safe_replaced g plan law p row alternative a safe) rest
      (by_chosen g plan law p p row alternative safe chosen second)

  -- which parts take a text, or the beginning of one, is settled by the tokens
  pub one_taking_of_text : (start : P) (whole other : Bool) (ts : List T) (takers others : List P) →
      Taken g whole (start ∷ []) ts takers → Taken g other (start ∷ []) ts others → takers ≡ others
  one_taking_of_text start whole other ts takers others first second =
      one_taking others (leaves_start g plan law start).safe first second

-- there are as many takers as tokens
pub taken_length : {P T : Type 0} {g : Grammar P T} {whole : Bool} {row : List P} {ts : List T} {takers : List P} →
    Taken g whole row ts takers → length takers ≡ length ts
taken_length (stop h) = refl
taken_length (token h rest) = ap suc (taken_length rest)
taken_length (part alternative a rest) = taken_length rest

-- what takes the tokens up to its end takes them
pub any_end : {P T : Type 0} {g : Grammar P T} {whole : Bool} {row : List P} {ts : List T} {takers : List P} →
    Taken g whole row ts takers → Taken g false row ts takers
any_end (stop h) = stop tt
any_end (token h rest) = token h (any_end rest)
any_end (part alternative a rest) = part alternative a (any_end rest)

-- a longer front of a list begins with each shorter one
front_of : {A : Type 0} (xs : List A) (n m : ℕ) → n ≤ m → (vs : List A) × (take m xs ≡ take n xs ++ vs)
front_of xs zero m h = (take m xs, refl)
front_of [] (suc n) zero h = ([], refl)
front_of [] (suc n) (suc m) h = ([], refl)
front_of (x ∷ xs) (suc n) zero h = absurd (omega arith)
front_of (x ∷ xs) (suc n) (suc m) h = let (vs, e) = front_of xs n m (omega arith) in (vs, ap (λ ys. x ∷ ys) e)

module _ {P T S F : Type 0} (g : Grammar P T) (plan : Plan P T) (watcher : Watcher P T S F) (law : IsPredictive g plan)
    (decided : IsDecided watcher) (start : P) (before : S) (ts : List T) where
  -- the first tokens begin a text, and the watcher finds no fault in them
  CleanTo : ℕ → Type 0
  CleanTo n = (takers : List P) × (now : S) × IsClean g watcher false start before (take n ts) takers now

  -- no more than the first tokens do
  Barrier : ℕ → Type 0
  Barrier n = (m : ℕ) → n < m → CleanTo m → ⊥

  -- where more of the tokens begin a text without a fault, fewer do
  clean_front : (n m : ℕ) → n ≤ m → CleanTo m → CleanTo n
  unfolding CleanTo
  clean_front n m h (takers, now, clean) =
      let (vs, e) = front_of ts n m h in
      let (qs, (rs, split), front) = front_taken clean.taken (take n ts) vs e in
      let all = subst (λ us. Sees watcher before takers us now) e clean.seen in
      let (between, seen, rest) =
      sees_apart watcher qs rs (take n ts) vs before now (taken_length front)
      (subst (λ ps. Sees watcher before ps (take n ts ++ vs) now) split all) in
      (qs, between, record { taken = front; seen = seen })

  -- behind an unexpected token no tokens begin a text
  unexpected_barrier : (after : S) (n : ℕ) (last : Option P) → IsUnexpected g watcher start before ts after n last → Barrier n
  unfolding CleanTo Barrier
  unexpected_barrier after n last u m h c =
      let (qs, now, clean) = clean_front (n + 1) m (omega arith) c in
      u.first.refused (begun_taken g clean.taken)

  -- behind a token at which the watcher stops no tokens are without a fault
  stopped_barrier : (n : ℕ) (fault : F) → IsStopped g watcher start before ts n fault → Barrier n
  unfolding CleanTo Barrier
  stopped_barrier n fault s m h c =
      let (qs, now, clean) = clean_front (n + 1) m (omega arith) c in
      let (takers, between, taker, tok, at, first, taken, faulted) = s.found in
      let next = take_next ts n tok at in
      let same = one_taking_of_text g plan law start false false (take n ts ++ (tok ∷ [])) qs (takers ++ (taker ∷ []))
      (subst (λ us. Taken g false (start ∷ []) us qs) next clean.taken) taken in
      let all = subst (λ us. Sees watcher before qs us now) next clean.seen in
      let (b, seen, (x, k, end)) = sees_apart watcher takers (taker ∷ []) (take n ts) (tok ∷ []) before now
      (taken_length first.taken) (subst (λ ps. Sees watcher before ps (take n ts ++ (tok ∷ [])) now) same all) in
      let equal = sees_once watcher decided takers (take n ts) before b between seen first.seen in
      decided.apart between taker tok x fault (subst (λ s. watcher.sees s taker tok x) equal k) faulted

  -- the tokens before an unexpected one begin a text without a fault
  unexpected_clean : (after : S) (n : ℕ) (last : Option P) → IsUnexpected g watcher start before ts after n last → CleanTo n
  unfolding CleanTo
  unexpected_clean after n last u = let (takers, clean, ending) = u.clean in (takers, after, clean)

  -- the tokens before one at which the watcher stops begin a text without a fault
  stopped_clean : (n : ℕ) (fault : F) → IsStopped g watcher start before ts n fault → CleanTo n
  unfolding CleanTo
  stopped_clean n fault s =
      let (takers, between, taker, tok, at, first, taken, faulted) = s.found in (takers, between, first)

  -- all tokens that are taken and seen begin a text without a fault
  whole_clean : (whole : Bool) (after : S) (takers : List P) → IsClean g watcher whole start before ts takers after → CleanTo (length ts)
  unfolding CleanTo
  whole_clean whole after takers clean =
      let e = take_all ts (length ts) (omega arith) in (
        takers,
        after,
        record {
          taken = subst (λ us. Taken g false (start ∷ []) us takers) (sym e) (any_end clean.taken);
          seen = subst (λ us. Sees watcher before takers us after) (sym e) clean.seen;
        },
      )

  -- accepted tokens begin a text without a fault
  accepted_clean : (after : S) → IsAccepted g watcher start before ts after → CleanTo (length ts)
  accepted_clean after a = whole_clean true after a.clean.0 a.clean.1

  -- tokens that end early begin a text without a fault
  early_clean : (after : S) → IsEarlyEnd g watcher start before ts after → CleanTo (length ts)
  early_clean after e = whole_clean false after e.clean.0 e.clean.1

  -- two numbers up to which, and no further, the tokens begin a text without a fault are the same
  same_number : (i j : ℕ) → CleanTo i → CleanTo j → Barrier i → Barrier j → i ≡ j
  unfolding Barrier
  same_number i j first second here there = elim (cases_order i j) [
    | inl e ↦ e
    | inr apart ↦ elim apart [ inl less ↦ absurd (here j less second) | inr more ↦ absurd (there i more first) ]
  ]

  -- two unexpected tokens are one, with one part before it
  one_unexpected : (a b : S) (i j : ℕ) (last other : Option P) → IsUnexpected g watcher start before ts a i last →
      IsUnexpected g watcher start before ts b j other → ◌≡◌ {A = Refusal P F} (Unexpected i last) (Unexpected j other)
  one_unexpected a b i j last other u v =
      let one = same_number i j (unexpected_clean a i last u) (unexpected_clean b j other v)
      (unexpected_barrier a i last u) (unexpected_barrier b j other v) in
      let (takers, clean, ending) = u.clean in
      let (others, also, ended) = v.clean in
      let same = one_taking_of_text g plan law start false false (take i ts) takers others clean.taken
      (subst (λ n. Taken g false (start ∷ []) (take n ts) others) (sym one) also.taken) in
      cc (ap last_of same)

  -- no token is unexpected where the watcher stops
  no_both : (a : S) (i j : ℕ) (last : Option P) (fault : F) → IsUnexpected g watcher start before ts a i last →
      IsStopped g watcher start before ts j fault → ⊥
  no_both a i j last fault u s =
      let one = same_number i j (unexpected_clean a i last u) (stopped_clean j fault s)
      (unexpected_barrier a i last u) (stopped_barrier j fault s) in
      u.first.refused (subst (λ n. BeginsText g start (take (n + 1) ts)) (sym one) s.begins)

  -- at one token the watcher stops with one fault
  faults_at : (n : ℕ) (e f : F) → IsStopped g watcher start before ts n e → IsStopped g watcher start before ts n f → e ≡ f
  faults_at n e f s r =
      let (takers, between, taker, tok, at, first, taken, faulted) = s.found in
      let (takers', between', taker', tok', at', first', taken', faulted') = r.found in
      let same = one_taking_of_text g plan law start false false (take n ts) takers' takers first'.taken first.taken in
      let one_tok : tok' ≡ tok = cc in
      let all : takers' ++ (taker' ∷ []) ≡ takers ++ (taker ∷ []) =
      one_taking_of_text g plan law start false false (take n ts ++ (tok ∷ [])) (takers' ++ (taker' ∷ [])) (takers ++ (taker ∷ []))
      (subst (λ t. Taken g false (start ∷ []) (take n ts ++ (t ∷ [])) (takers' ++ (taker' ∷ []))) one_tok taken') taken in
      let one_taker : taker' ≡ taker = cc (ap last_of all, last_of-append takers' taker', last_of-append takers taker) in
      let one_state = sees_once watcher decided takers (take n ts) before between' between
      (subst (λ ps. Sees watcher before ps (take n ts) between') same first'.seen) first.seen in
      decided.one_fault between taker tok e f faulted
      (subst (λ s. watcher.faults s taker tok f) one_state
      (subst (λ p. watcher.faults between' p tok f) one_taker
      (subst (λ t. watcher.faults between' taker' t f) one_tok faulted')))

  -- two stops of the watcher are one
  one_stopped : (i j : ℕ) (e f : F) → IsStopped g watcher start before ts i e → IsStopped g watcher start before ts j f →
      ◌≡◌ {A = Refusal P F} (Stopped i e) (Stopped j f)
  one_stopped i j e f s r =
      let one = same_number i j (stopped_clean i e s) (stopped_clean j f r) (stopped_barrier i e s) (stopped_barrier j f r) in
      let fault = faults_at i e f s (subst (λ n. IsStopped g watcher start before ts n f) (sym one) r) in
      cc

  -- two answers for the same tokens, neither of them want of memory, are one
  pub answers_agree : (a b : S) (first second : Result (Unit {0}) (Refusal P F)) → IsAnswer g watcher start before ts a first →
      IsAnswer g watcher start before ts b second → AreOne first second
  unfolding Barrier
  answers_agree a b (Err Memory) second h k = tt
  answers_agree a b (Ok done) (Err Memory) h k = tt
  answers_agree a b (Ok done) (Ok also) h k = refl
  answers_agree a b (Ok done) (Err EndsEarly) h k = absurd (k.unfinished.no_text h.text)
  answers_agree a b (Ok done) (Err (Unexpected number last)) h k =
      absurd (unexpected_barrier b number last k (length ts) k.first.within (accepted_clean a h))
  answers_agree a b (Ok done) (Err (Stopped number fault)) h k =
      absurd (stopped_barrier number fault k (length ts) k.within (accepted_clean a h))
  answers_agree a b (Err EndsEarly) (Err Memory) h k = tt
  answers_agree a b (Err EndsEarly) (Ok also) h k = absurd (h.unfinished.no_text k.text)
  answers_agree a b (Err EndsEarly) (Err EndsEarly) h k = refl
  answers_agree a b (Err EndsEarly) (Err (Unexpected number last)) h k =
      absurd (unexpected_barrier b number last k (length ts) k.first.within (early_clean a h))
  answers_agree a b (Err EndsEarly) (Err (Stopped number fault)) h k =
      absurd (stopped_barrier number fault k (length ts) k.within (early_clean a h))
  answers_agree a b (Err (Unexpected number last)) (Err Memory) h k = tt
  answers_agree a b (Err (Unexpected number last)) (Ok also) h k =
      absurd (unexpected_barrier a number last h (length ts) h.first.within (accepted_clean b k))
  answers_agree a b (Err (Unexpected number last)) (Err EndsEarly) h k =
      absurd (unexpected_barrier a number last h (length ts) h.first.within (early_clean b k))
  answers_agree a b (Err (Unexpected number last)) (Err (Unexpected other end)) h k =
      ap Err (one_unexpected a b number other last end h k)
  answers_agree a b (Err (Unexpected number last)) (Err (Stopped other fault)) h k = absurd (no_both a number other last fault h k)
  answers_agree a b (Err (Stopped number fault)) (Err Memory) h k = tt
  answers_agree a b (Err (Stopped number fault)) (Ok also) h k =
      absurd (stopped_barrier number fault h (length ts) h.within (accepted_clean b k))
  answers_agree a b (Err (Stopped number fault)) (Err EndsEarly) h k =
      absurd (stopped_barrier number fault h (length ts) h.within (early_clean b k))
  answers_agree a b (Err (Stopped number fault)) (Err (Unexpected other end)) h k = absurd (no_both b other number end fault k h)
  answers_agree a b (Err (Stopped number fault)) (Err (Stopped other also)) h k = ap Err (one_stopped number other fault also h k)

module _ {P T : Type 0} (g : Grammar P T) (start : P) where
  -- a text begins a text
  pub text_begins : (ts : List T) → IsText g start ts → BeginsText g start ts
  text_begins ts text = let (takers, taken) = taken_spelled g text in begun_taken g (any_end taken)

  -- the first tokens of what begins a text begin one
  pub front_begins : (front back : List T) → BeginsText g start (front ++ back) → BeginsText g start front
  front_begins front back begun =
      let (takers, taken) = taken_begun g begun in
      let (first, rest, begins) = front_taken taken front back refl in
      begun_taken g begins
