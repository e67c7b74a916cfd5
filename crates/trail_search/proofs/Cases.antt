-- Where the last case has no proof, or the others have none beside it, the cases have none.
use Rattle.std.proofs.Common.{◌≡◌, ℕ, zero, suc, ◌+◌, ◌-◌, ◌<◌, ◌≤◌, ◌⊎◌, inl, inr, List, [], ◌∷◌, ◌++◌, length, slice_get, take, Some, length-take-le, add-one, refl, sym, ap, ◌∙◌, subst, arith}
use Rattle.std.specs.List.{sum_by}
use Rattle.logic_core.specs.declared.form.Atom.{Atom}
use Rattle.vernacular_tree.specs.Contexts.{Task, with_facts}
use Rattle.vernacular_tree.specs.Sizes.{size}
use Rattle.vernacular_tree.specs.declared.context.Context.{Context}
use Rattle.vernacular_tree.specs.declared.context.Line.TheVariants.{Cases}
use Rattle.vernacular_tree.specs.declared.tree.Body.{Body}
use Rattle.coherent_form.specs.Tasks.{CitedTask, proof_task}
use Rattle.kept_context.specs.Kept.{Kept, Represents}
use Rattle.text_core.proofs.Laws.{take_next}
use Rattle.trail_search.specs.Branches.{AreProofs, HaveNone, AreNoted}
use Rattle.trail_search.specs.Recorded.{Recorded}
use Rattle.trail_search.specs.Searches.{IsNoted}
use Rattle.trail_search.specs.Least.{HasNone}
use Rattle.trail_search.proofs.Branching.{EndsWith, proofs_last, proofs_size, sizes_next}
use Rattle.trail_search.proofs.Noting.{noted_next}
use Rattle.trail_search.proofs.Ready.{HasCases, item_there}

-- of two numbers the first is smaller or not
below_or_not : (m n : ℕ) → (m < n) ⊎ (n ≤ m)
below_or_not zero zero = inr (omega arith)
below_or_not zero (suc n) = inl (omega arith)
below_or_not (suc m) zero = inr (omega arith)
below_or_not (suc m) (suc n) = elim (below_or_not m n) [ inl below ↦ inl (omega arith) | inr not_below ↦ inr (omega arith) ]

-- the rule applications of all proofs, by those of the last and of the others
all_sizes : (task : Task) (context : Context) (lists : List (List Atom)) (facts : List Atom) (bodies : List Body) (e : EndsWith task context lists facts bodies)
    → sum_by size bodies ≡ sum_by size e.others + size e.body
all_sizes task context lists facts bodies e = ap (sum_by size) e.bodies_are ∙ sizes_next e.others e.body

-- the last case has no proof that leaves one rule application for each of the others
pub none_last : (task : Task) (context : Context) (lists : List (List Atom)) (facts : List Atom) (left : ℕ)
    → HasNone task (with_facts context facts) (left - length lists) → HaveNone task context (lists ++ facts ∷ []) left
none_last task context lists facts left none bodies prove small =
    let e = proofs_last task context lists facts bodies prove in
    let sum = all_sizes task context lists facts bodies e in
    let others = proofs_size task context lists e.others e.prove in
    none e.body e.proves (omega arith)

-- the last case has a proof of no less than n rule applications, and the others none with what is left
pub none_others : (task : Task) (context : Context) (lists : List (List Atom)) (facts : List Atom) (n left : ℕ)
    → HasNone task (with_facts context facts) (n - 1) → HaveNone task context lists (left - n) → HaveNone task context (lists ++ facts ∷ []) left
none_others task context lists facts n left last others bodies prove small =
    let e = proofs_last task context lists facts bodies prove in
    let sum = all_sizes task context lists facts bodies e in
    elim (below_or_not (size e.body) n) [
      | inl below ↦ last e.body e.proves (omega arith)
      | inr not_below ↦ others e.others e.prove (omega arith)
    ]

-- of cases that are the same line there are the same lists
pub same_cases : (context : Context) (line : ℕ) (a b : List (List Atom)) → slice_get context.lines line ≡ Some (Cases a) → slice_get context.lines line ≡ Some (Cases b) → a ≡ b
same_cases context line a b first second = let e : Some (Cases a) ≡ Some (Cases b) = sym first ∙ second in cc

-- the first lists of a line's cases, but for the last of them, and that one
pub record Last (count : ℕ) (lists : List (List Atom)) : Type 0 where
  pub facts : List Atom
  pub is : slice_get lists (count - 1) ≡ Some facts
  pub all : take count lists ≡ take (count - 1) lists ++ facts ∷ []
  pub others : length (take (count - 1) lists) ≡ count - 1

-- the last one of one more than so many
last_at : (others : ℕ) (lists : List (List Atom)) (facts : List Atom) → others < length lists → slice_get lists others ≡ Some facts → Last (suc others) lists
last_at others lists facts long is =
    let one : others ≡ suc others - 1 = omega arith in
    let next : take (suc others) lists ≡ take others lists ++ facts ∷ [] = let e : suc others ≡ others + 1 = omega arith in
    ap (λ (n : ℕ). take n lists) e ∙ take_next lists others facts is in record {
      facts = facts;
      is = subst (λ (n : ℕ). slice_get lists n ≡ Some facts) one is;
      all = subst (λ (n : ℕ). take (suc others) lists ≡ take n lists ++ facts ∷ []) one next;
      others = subst (λ (n : ℕ). length (take n lists) ≡ n) one (length-take-le others lists (omega arith));
    }

-- there is a last one
pub last_of : (task : CitedTask) (lent : Context) (kept : Kept) (line count : ℕ) → HasCases task lent kept line count → (count ≡ 0 → ⊥)
    → (context : Context) (lists : List (List Atom)) → Represents task lent kept context → slice_get context.lines line ≡ Some (Cases lists) → Last count lists
last_of task lent kept line zero there some context lists r is = absurd (some refl)
last_of task lent kept line (suc others) there some context lists r is =
    let cases = there context r in
    let same : lists ≡ cases.0 = same_cases context line lists cases.0 is cases.1 in
    let most : suc others ≤ length cases.0 = cases.2 in
    let long : others < length lists = let e = ap length same in omega arith in
    let last = item_there lists others long in last_at others lists last.0 long last.1

-- a case is entered
abbrev pub Enters : CitedTask → Context → Kept → Kept → ℕ → ℕ → Type 0
Enters task lent old new line case = (context : Context) (lists : List (List Atom)) (facts : List Atom) → Represents task lent old context
    → slice_get context.lines line ≡ Some (Cases lists) → slice_get lists case ≡ Some facts → Represents task lent new (with_facts context facts)

-- a proof from what is kept was noted
abbrev pub Notes : CitedTask → Context → Kept → ℕ → Recorded → Recorded → Type 0
Notes task lent kept n before after = (context : Context) → Represents task lent kept context → IsNoted (proof_task task) context n before after

-- no proof from what is kept has so many rule applications or fewer
abbrev pub LacksProof : CitedTask → Context → Kept → ℕ → Type 0
LacksProof task lent kept n = (context : Context) → Represents task lent kept context → HasNone (proof_task task) context n

-- proofs of the first cases of a line were noted
abbrev pub NotesCases : CitedTask → Context → Kept → ℕ → ℕ → ℕ → Recorded → Recorded → Type 0
NotesCases task lent kept line count left before after = (context : Context) (lists : List (List Atom)) → Represents task lent kept context
    → slice_get context.lines line ≡ Some (Cases lists) → AreNoted (proof_task task) context (take count lists) left before after

-- there are none of them
abbrev pub LacksCases : CitedTask → Context → Kept → ℕ → ℕ → ℕ → Type 0
LacksCases task lent kept line count left = (context : Context) (lists : List (List Atom)) → Represents task lent kept context
    → slice_get context.lines line ≡ Some (Cases lists) → HaveNone (proof_task task) context (take count lists) left

module _ (task : CitedTask) (lent : Context) (line count : ℕ) (old entered : Kept) (there : HasCases task lent old line count) (some : count ≡ 0 → ⊥)
    (enters : Enters task lent old entered line (count - 1)) where
  -- the last case has no proof that leaves one rule application for each of the others
  pub cases_last : (left : ℕ) → LacksProof task lent entered (left - (count - 1)) → LacksCases task lent old line count left
  cases_last left none context lists r is =
      let last = last_of task lent old line count there some context lists r is in
      rw last.all (none_last (proof_task task) context (take (count - 1) lists) last.facts left
      (rw last.others (none (with_facts context last.facts) (enters context lists last.facts r is last.is))))

  -- the others have none beside the last one
  pub cases_others : (n left : ℕ) → LacksProof task lent entered (n - 1) → LacksCases task lent old line (count - 1) (left - n) → LacksCases task lent old line count left
  cases_others n left none others context lists r is =
      let last = last_of task lent old line count there some context lists r is in
      rw last.all (none_others (proof_task task) context (take (count - 1) lists) last.facts n left
      (none (with_facts context last.facts) (enters context lists last.facts r is last.is)) (others context lists r is))

  -- the last one and the others are noted
  pub cases_noted : (n left : ℕ) (before mid after : Recorded) → n ≤ left → Notes task lent entered n before mid
      → NotesCases task lent old line (count - 1) (left - n) mid after → NotesCases task lent old line count left before after
  cases_noted n left before mid after le first others context lists r is =
      let last = last_of task lent old line count there some context lists r is in
      rw last.all (noted_next (proof_task task) context (take (count - 1) lists) last.facts n left before mid after le
      (first (with_facts context last.facts) (enters context lists last.facts r is last.is)) (others context lists r is))

  -- some context that was noted as the last case, where there is one that is represented
  pub last_noted : (n : ℕ) (before after : Recorded) (context : Context) → Represents task lent old context → Notes task lent entered n before after
      → (inside : Context) × IsNoted (proof_task task) inside n before after
  last_noted n before after context r notes =
      let cases = there context r in
      let last = last_of task lent old line count there some context cases.0 r cases.1 in
      let inside = with_facts context last.facts in (inside, notes inside (enters context cases.0 last.facts r cases.1 last.is))
