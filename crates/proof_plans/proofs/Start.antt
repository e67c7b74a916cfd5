-- A plan that is a part of no proof rules all proofs out.
use Rattle.std.proofs.Common.{◌≡◌, ℕ, zero, suc, ◌+◌, ◌<◌, ◌≤◌, inl, inr, List, [], ◌∷◌, map, length, refl, ap, sym, subst, arith}
use Rattle.std.specs.List.{AllByRecursion}
use Rattle.text_core.specs.Lists.{IsAmong}
use Rattle.logic_core.specs.Forms.{SlotIsBelow}
use Rattle.logic_core.specs.declared.form.Slot.{Slot}
use Rattle.logic_core.specs.declared.form.Slot.TheVariants.{Variable, Constant}
use Rattle.logic_core.specs.declared.form.Atom.{Atom}
use Rattle.vernacular_tree.specs.Contexts.{Task, counted}
use Rattle.vernacular_tree.specs.Rules.{Closes, IsProof}
use Rattle.vernacular_tree.specs.Sizes.{size, end_size}
use Rattle.vernacular_tree.specs.Tasks.{IsTask}
use Rattle.vernacular_tree.specs.Carries.{slot_image, image, HasElements}
use Rattle.vernacular_tree.specs.Witnessed.{IsContext, LineIsBelow}
use Rattle.vernacular_tree.specs.declared.context.Line.{Line}
use Rattle.vernacular_tree.specs.declared.context.Line.TheVariants.{Facts, Cases, Falsum}
use Rattle.vernacular_tree.specs.declared.context.Context.{Context}
use Rattle.vernacular_tree.specs.declared.tree.Body.{Body}
use Rattle.vernacular_tree.specs.declared.tree.End.{End}
use Rattle.proof_plans.specs.Runs.{Fire, Has, IsKnown, IsClosed, all_given, all_facts, root_of}
use Rattle.proof_plans.specs.Plans.{first_plan}
use Rattle.proof_plans.specs.Embeds.{branch_image, Embeds}
use Rattle.text_core.proofs.Laws.{each_map, each_append, each_member, some_front, some_back}
use Rattle.proof_plans.proofs.Least.{NoneSmaller, counted_rises, Found, line_stands, image_itself, facts_itself, lists_itself}
use Rattle.vernacular_tree.proofs.Numbers.{counted_length, counted_at}
use Rattle.proof_plans.proofs.Seen.{above_same}
use Rattle.proof_plans.proofs.Flat.{LineIs, Stage, Front, EndIs, steps_flat, end_flat}

-- numbers in a row are below their end
counted_low : (n first k : ℕ) → first + k ≤ n → AllByRecursion (λ x. x < n) (counted first k)
counted_low n first zero h = tt
counted_low n first (suc k) h = (omega arith, counted_low n (first + 1) k (omega arith))

module _ (constants : ℕ) (task : Task) (right : IsTask constants task) (from : Context) (ok : IsContext task from) where
  -- the elements of the context, in order
  abbrev elements : List ℕ
  elements = counted 0 from.elements

  -- the facts of lines have elements of the context
  pub facts_within : (lines : List Line) → AllByRecursion (LineIsBelow from.elements) lines → AllByRecursion (HasElements from.elements) (all_facts lines)
  facts_within [] h = tt
  facts_within (Facts facts ∷ lines) h = each_append (HasElements from.elements) facts (all_facts lines) h.0 (facts_within lines h.1)
  facts_within (Cases lists ∷ lines) h = facts_within lines h.1
  facts_within (Falsum ∷ lines) h = facts_within lines h.1

  -- each line of the context is found in the branch in which a proof begins
  lines_flat : (lines : List Line) → AllByRecursion (LineIsBelow from.elements) lines
      → ((fact : Atom) → IsAmong fact (all_facts lines) → IsAmong fact (all_facts from.lines))
      → ((lists : List (List Atom)) → IsAmong lists (all_given lines) → IsAmong lists (all_given from.lines))
      → AllByRecursion (LineIs constants task right from ok.start [] (root_of from) elements) lines
  lines_flat [] h facts given = tt
  lines_flat (Facts fs ∷ lines) h facts given = (
    (
      subst (λ (n : ℕ). AllByRecursion (HasElements n) fs) (sym (counted_length 0 from.elements)) h.0,
      go fs h.0 (λ fact among. facts fact (some_front (λ f. f ≡ fact) fs (all_facts lines) among)),
    ),
    lines_flat lines h.1 (λ fact among. facts fact (some_back (λ f. f ≡ fact) fs (all_facts lines) among)) given,
  )
    where
      go : (fs : List Atom) → AllByRecursion (HasElements from.elements) fs → ((fact : Atom) → IsAmong fact fs → IsAmong fact (all_facts from.lines))
          → AllByRecursion (λ fact. Has [] (image elements fact) 0 (root_of from)) fs
      go [] h there = tt
      go (f ∷ fs) h there = (
        inl (inl (subst (λ (x : Atom). IsAmong x (all_facts from.lines)) (sym (image_itself from.elements f h.0)) (there f (inl refl)))),
        go fs h.1 (λ fact among. there fact (inr among)),
      )
  lines_flat (Cases lists ∷ lines) h facts given = (
    (
      subst (λ (n : ℕ). AllByRecursion (AllByRecursion (HasElements n)) lists) (sym (counted_length 0 from.elements)) h.0,
      inl (subst (λ (ls : List (List Atom)). IsAmong ls (all_given from.lines)) (sym (lists_itself from.elements lists h.0)) (given lists (inl refl))),
    ),
    lines_flat lines h.1 facts (λ ls among. given ls (inr among)),
  )
  lines_flat (Falsum ∷ lines) h facts given = (inl (given [] (inl refl)), lines_flat lines h.1 facts (λ ls among. given ls (inr among)))

  -- the context in which a proof begins
  first_stage : Stage constants task right from ok.start [] (root_of from) from elements
  first_stage = record {
    length_is = counted_length 0 from.elements;
    itself = λ a below. let long = counted_length 0 from.elements in
        (omega arith, let same = counted_at 0 from.elements a below in omega arith);
    known = each_map {Q = λ x. IsKnown from.elements [] 0 x (root_of from)} (λ x low. inl low) elements (counted_low from.elements 0 from.elements (omega arith));
    lines = lines_flat from.lines ok.lines (λ fact among. among) (λ lists among. among);
    rooted = above_same (root_of from);
    ok = ok;
    rises = counted_rises 0 from.elements;
    found = found_first;
  }
    where
      found_first : (fact : Atom) → Has [] fact 0 (root_of from) → Found from elements fact
      found_first fact (inl (inl among)) =
          let low : HasElements from.elements fact = each_member (HasElements from.elements) (all_facts from.lines) (facts_within from.lines ok.lines) fact among in record {
            original = fact;
            within = subst (λ (n : ℕ). HasElements n fact) (sym (counted_length 0 from.elements)) low;
            stands = line_stands from.lines fact among;
            same = image_itself from.elements fact low;
          }
      found_first fact (inl (inr none)) = absurd none
      found_first fact (inr made) = let before : made.index < 0 = made.before in absurd (omega arith)

  -- no applications are a run
  first_front : Front constants task right from ok.start [] from.elements
  first_front = record {
    run = record { right = λ index fire is. absurd (cc); apart = λ i j fire later less is also. absurd (cc); rooted = λ index fire is. absurd (cc) };
    low = omega arith;
    ends = λ i fire is. absurd (cc);
    tight = λ index fire is. absurd (cc);
  }

  -- each proof from the context, where none is smaller, is a run, which is as large
  pub flat : (body : Body) → NoneSmaller task from (size body) → IsProof task from body → EndIs constants task right from ok.start [] (root_of from) body.end (size body)
  flat body best proves = steps_flat constants task right from ok.start body.steps body.end (root_of from)
      (end_flat constants task right from ok.start body.end (root_of from)) [] from.elements from elements first_front first_stage tt best proves

  -- the branch in which a proof begins is its own image
  root_itself : branch_image elements (root_of from) ≡ root_of from
  root_itself = ap (λ (fs : List Atom). record { number = 0; facts = fs } ∷ []) (facts_itself from.elements (all_facts from.lines) (facts_within from.lines ok.lines))

  -- the first plan is a part of each proof
  pub first_embeds : (fires : List Fire) (end : End) → IsClosed task from fires end (root_of from)
      → Embeds task from fires (first_plan (root_of from)) elements [] (end ∷ [])
  first_embeds fires end closed =
      let long : length elements ≡ from.elements = counted_length 0 from.elements in record {
        length_is = omega arith;
        flags = refl;
        itself = λ a below. let same = counted_at 0 from.elements a below in omega arith;
        bound_within = tt;
        agrees = λ i a is. absurd (cc);
        new = λ i is. absurd (cc);
        steps = tt;
        apart = tt;
        branches = (
          (subst (λ (n : ℕ). AllByRecursion (HasElements n) (all_facts from.lines)) (sym long) (facts_within from.lines ok.lines), tt),
          subst (IsClosed task from fires end) (sym root_itself) closed,
          (λ inner. absurd (inner refl)),
          tt,
        );
        ties = tt;
        goals = tt;
      }
