-- How far the machine has come: the tokens before one are taken and seen, and a row is left on the stack.
use Rattle.std.proofs.Common.{◌≡◌, refl, sym, ◌∙◌, ap, ℕ, ◌≤◌, Bool, true, false, ◌&&◌, List, [], ◌∷◌, ◌++◌, take, length, reverse}
use Rattle.std.specs.Prelude.{Option, Some, None, slice_get}
use Rattle.std.specs.List.{list_all}
use Rattle.std.proofs.lemmas.List.{reverse-append}
use Rattle.std.proofs.lemmas.Option.{slice_get_within}
use Rattle.token_grammar.specs.Grammar.{Grammar}
use Rattle.token_grammar.specs.Watch.{Watcher, Sees}
use Rattle.token_grammar.specs.Plan.{Plan, IsPredictive, all_nullable, is_nullable}
use Rattle.token_grammar.specs.Step.{Moves}
use Rattle.token_grammar.specs.Answers.{last_of, IsClean, IsAccepted, IsUnexpected, IsStopped, IsEarlyEnd}
use Rattle.token_grammar.proofs.Leaves.{Leaves, leaves_start, leaves_at, leaves_expanded, leaves_taken, leaves_refused, leaves_begun, leaves_ended, leaves_no_end}
use Rattle.token_grammar.proofs.Spelling.{taken_spelled, spelled_taken, taken_begun, begun_taken}
use Rattle.token_grammar.proofs.Seeing.{sees_both}
use Rattle.text_core.proofs.Laws.{take_next, take_all}

-- the last member of a list with one more
pub last_of-append : {A : Type 0} (xs : List A) (a : A) → last_of (xs ++ (a ∷ [])) ≡ Some a
last_of-append [] a = refl
last_of-append (x ∷ []) a = refl
last_of-append (x ∷ y ∷ xs) a = last_of-append (y ∷ xs) a

-- each member of a list with one more passes
pub list_all-append : {A : Type 0} (test : A → Bool) (xs : List A) (a : A) → list_all test (xs ++ (a ∷ [])) ≡ (test a && list_all test xs)
list_all-append test [] a = refl
list_all-append test (x ∷ xs) a = rw (list_all-append test xs a) (swapped (test x) (test a) (list_all test xs))
  where
    swapped : (x y z : Bool) → (x && (y && z)) ≡ (y && (x && z))
    swapped true true z = refl
    swapped true false z = refl
    swapped false true z = refl
    swapped false false z = refl

-- each member of a list passes, from whichever end
list_all-reverse : {A : Type 0} (test : A → Bool) (xs : List A) → list_all test (reverse xs) ≡ list_all test xs
list_all-reverse test [] = refl
list_all-reverse test (x ∷ xs) =
    rw (reverse-append (x ∷ []) xs) (list_all-append test (reverse xs) x ∙ ap (λ b. test x && b) (list_all-reverse test xs))

-- each part of a row may be empty, from whichever end
pub nullable-reverse : {P T : Type 0} (g : Grammar P T) (stack : List P) →
    all_nullable g (reverse stack) ≡ list_all (is_nullable g) stack
nullable-reverse g stack = list_all-reverse (is_nullable g) stack

-- after the tokens us the row is left, and the watcher has gone from its first state to the present one
pub record Reading {P T S F : Type 0} (g : Grammar P T) (plan : Plan P T) (watcher : Watcher P T S F) (start : P) (before : S)
    (us : List T) (row : List P) (now : S) (last : Option P) : Type 0 where
  pub takers : List P
  pub leaves : Leaves g plan start us takers row
  pub seen : Sees watcher before takers us now
  pub ending : last ≡ last_of takers

module _ {P T S F : Type 0} (g : Grammar P T) (plan : Plan P T) (watcher : Watcher P T S F) (law : IsPredictive g plan) (start : P)
    (before : S) where
  -- nothing is read before the first token
  pub reading_start : Reading g plan watcher start before [] (start ∷ []) before None
  reading_start = record { takers = []; leaves = leaves_start g plan law start; seen = refl; ending = refl }

  -- a token that a part takes is read
  pub reading_taken : (us : List T) (row after : List P) (now later : S) (last : Option P) (t : T) (p : P) →
      Reading g plan watcher start before us row now last → Moves g plan t row after (Some p) → watcher.sees now p t later →
      Reading g plan watcher start before (us ++ (t ∷ [])) after later (Some p)
  reading_taken us row after now later last t p r (expanded, takes) h =
      let at_p = leaves_expanded g plan law start us t r.takers expanded (leaves_at g plan law start us t r.takers row r.leaves) in
      record {
        takers = r.takers ++ (p ∷ []);
        leaves = leaves_taken g plan law start us t r.takers p after takes at_p;
        seen = sees_both watcher r.takers (p ∷ []) us (t ∷ []) before now later r.seen (later, h, refl);
        ending = sym (last_of-append r.takers p);
      }

  -- what is read is taken without a fault
  clean : (us : List T) (row : List P) (now : S) (last : Option P) (r : Reading g plan watcher start before us row now last) →
      IsClean g watcher false start before us r.takers now
  clean us row now last r = record { taken = leaves_begun g plan law start us r.takers row r.leaves; seen = r.seen }

  -- a token that no part takes is unexpected
  pub reading_unexpected : (ts : List T) (number : ℕ) (row after : List P) (now : S) (last : Option P) (t : T) →
      slice_get ts number ≡ Some t → Reading g plan watcher start before (take number ts) row now last → Moves g plan t row after None →
      IsUnexpected g watcher start before ts now number last
  reading_unexpected ts number row after now last t at r (stuck, expanded, blocked) =
      let us = take number ts in
      let at_t = leaves_expanded g plan law start us t r.takers expanded (leaves_at g plan law start us t r.takers row r.leaves) in
      record {
        first = record {
          within = slice_get_within ts number t at;
          begins = begun_taken g (leaves_begun g plan law start us r.takers row r.leaves);
          refused = λ begun. let (takers, taken) = taken_begun g (rw (take_next ts number t at) at begun) in
              leaves_refused g plan law start us t r.takers stuck takers blocked at_t taken;
        };
        clean = (r.takers, clean us row now last r, r.ending);
      }

  -- a token at which the watcher finds a fault stops the reading
  pub reading_stopped : (ts : List T) (number : ℕ) (row after : List P) (now : S) (last : Option P) (t : T) (p : P) (fault : F) →
      slice_get ts number ≡ Some t → Reading g plan watcher start before (take number ts) row now last →
      Moves g plan t row after (Some p) → watcher.faults now p t fault → IsStopped g watcher start before ts number fault
  reading_stopped ts number row after now last t p fault at r (expanded, takes) h =
      let us = take number ts in
      let at_p = leaves_expanded g plan law start us t r.takers expanded (leaves_at g plan law start us t r.takers row r.leaves) in
      let next = leaves_taken g plan law start us t r.takers p after takes at_p in
      let taken = leaves_begun g plan law start (us ++ (t ∷ [])) (r.takers ++ (p ∷ [])) after next in
      record {
        within = slice_get_within ts number t at;
        begins = rw (take_next ts number t at) (begun_taken g taken);
        found = (r.takers, now, p, t, at, clean us row now last r, taken, h);
      }

  -- tokens that are read are accepted where each part that is left may be empty
  accepted : (ts : List T) (row : List P) (now : S) (last : Option P) → all_nullable g row ≡ true →
      Reading g plan watcher start before ts row now last → IsAccepted g watcher start before ts now
  accepted ts row now last empty r =
      let taken = leaves_ended g plan law start ts r.takers row empty r.leaves in
      record { text = spelled_taken g taken; clean = (r.takers, record { taken = taken; seen = r.seen }) }

  -- all tokens are accepted where each part on the stack may be empty
  pub reading_accepted : (ts : List T) (number : ℕ) (stack : List P) (now : S) (last : Option P) → length ts ≤ number →
      list_all (is_nullable g) stack ≡ true → Reading g plan watcher start before (take number ts) (reverse stack) now last →
      IsAccepted g watcher start before ts now
  reading_accepted ts number stack now last end empty r =
      accepted ts (reverse stack) now last (nullable-reverse g stack ∙ empty) (rw (take_all ts number end) at r)

  -- tokens that are read end early where some part that is left may not be empty
  ended : (ts : List T) (row : List P) (now : S) (last : Option P) → all_nullable g row ≡ false →
      Reading g plan watcher start before ts row now last → IsEarlyEnd g watcher start before ts now
  ended ts row now last filled r = record {
    unfinished = record {
      begins = begun_taken g (leaves_begun g plan law start ts r.takers row r.leaves);
      no_text = λ text. let (takers, taken) = taken_spelled g text in
          leaves_no_end g plan law start ts r.takers row takers filled r.leaves taken;
    };
    clean = (r.takers, clean ts row now last r);
  }

  -- all tokens end early where some part on the stack may not be empty
  pub reading_ended : (ts : List T) (number : ℕ) (stack : List P) (now : S) (last : Option P) → length ts ≤ number →
      list_all (is_nullable g) stack ≡ false → Reading g plan watcher start before (take number ts) (reverse stack) now last →
      IsEarlyEnd g watcher start before ts now
  reading_ended ts number stack now last end filled r =
      ended ts (reverse stack) now last (nullable-reverse g stack ∙ filled) (rw (take_all ts number end) at r)
