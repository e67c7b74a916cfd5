-- Moves that only say more of where the steps of a plan stand, bind variables or leave goals out.
use Rattle.std.proofs.Common.{◌≡◌, ℕ, ◌<◌, ◌⊎◌, inl, inr, List, [], ◌∷◌, ◌++◌, length, refl, ap, sym, ◌∙◌, arith}
use Rattle.std.proofs.lemmas.List.{map-append}
use Rattle.std.specs.List.{AllByRecursion}
use Rattle.vernacular_tree.specs.Contexts.{Task}
use Rattle.vernacular_tree.specs.declared.context.Context.{Context}
use Rattle.vernacular_tree.specs.declared.tree.End.{End}
use Rattle.proof_plans.specs.Runs.{Case, Above, Fire}
use Rattle.proof_plans.specs.Plans.{Tie, Goal, Plan}
use Rattle.proof_plans.specs.Embeds.{branch_image, TieHolds, GoalIs, Embeds}
use Rattle.proof_plans.specs.Moves.{tied, with_goals, with_bound, Agrees, word_of}
use Rattle.proof_plans.specs.Words.{IsEndOf}
use Rattle.text_core.proofs.Laws.{each_append}

module _ (task : Task) (context : Context) (fires : List Fire) (plan : Plan) (values indices : List ℕ) (left : List End) (h : Embeds task context fires plan values indices left) where
  -- more is known of where a step stands
  pub tie_embeds : (tie : Tie) → TieHolds fires values indices tie → Embeds task context fires (tied tie plan) values indices left
  tie_embeds tie holds = record {
    length_is = h.length_is;
    flags = h.flags;
    itself = h.itself;
    bound_within = h.bound_within;
    agrees = h.agrees;
    new = h.new;
    steps = h.steps;
    apart = h.apart;
    branches = h.branches;
    ties = each_append (TieHolds fires values indices) plan.ties (tie ∷ []) h.ties (holds, tt);
    goals = h.goals;
  }

  -- variables are bound otherwise, with which the values agree
  pub bind_embeds : (bound : List ℕ) → length bound ≡ length plan.bound → AllByRecursion (λ a. a < length values) bound → Agrees context.elements bound values
      → Embeds task context fires (with_bound bound plan) values indices left
  bind_embeds bound long within agrees = record {
    length_is = let l = h.length_is in omega arith;
    flags = let f = h.flags in omega arith;
    itself = h.itself;
    bound_within = within;
    agrees = agrees;
    new = h.new;
    steps = h.steps;
    apart = h.apart;
    branches = h.branches;
    ties = h.ties;
    goals = h.goals;
  }

  -- goals are left out
  pub goals_embed : (goals : List Goal) → AllByRecursion (GoalIs fires values indices) goals → Embeds task context fires (with_goals goals plan) values indices left
  goals_embed goals stand = record {
    length_is = h.length_is;
    flags = h.flags;
    itself = h.itself;
    bound_within = h.bound_within;
    agrees = h.agrees;
    new = h.new;
    steps = h.steps;
    apart = h.apart;
    branches = h.branches;
    ties = h.ties;
    goals = stand;
  }

-- the images of a branch have its word
word_kept : (values : List ℕ) (branch : List Case) → word_of (branch_image values branch) ≡ word_of branch
word_kept values [] = refl
word_kept values (case ∷ branch) = ap (λ (w : List ℕ). case.number ∷ w) (word_kept values branch)

-- the word of a branch that leads to another one is an end of its word
pub word_above : (values : List ℕ) (a c : List Case) → Above (branch_image values a) (branch_image values c) → IsEndOf (word_of a) (word_of c)
word_above values a c h =
    let split = map-append (λ (case : Case). case.number) h.0 (branch_image values a) in
    let whole : word_of (branch_image values c) ≡ word_of (h.0 ++ branch_image values a) = ap word_of h.1 in
    (word_of h.0, sym (word_kept values c) ∙ whole ∙ split ∙ ap (λ (w : List ℕ). word_of h.0 ++ w) (word_kept values a))

-- of two ends of one list, the shorter is an end of the other
ends_order : (p q u v : List ℕ) → p ++ u ≡ q ++ v → IsEndOf u v ⊎ IsEndOf v u
ends_order [] q u v e = inr (q, e)
ends_order (x ∷ p) [] u v e = inl (x ∷ p, sym e)
ends_order (x ∷ p) (y ∷ q) u v e = ends_order p q u v (let same : p ++ u ≡ q ++ v = cc in same)

-- of two branches that lead to one, the word of the one is an end of that of the other
pub words_order : (values : List ℕ) (a c b : List Case) → Above (branch_image values a) b → Above (branch_image values c) b
    → IsEndOf (word_of a) (word_of c) ⊎ IsEndOf (word_of c) (word_of a)
words_order values a c b h k =
    let one = map-append (λ (case : Case). case.number) h.0 (branch_image values a) in
    let two = map-append (λ (case : Case). case.number) k.0 (branch_image values c) in
    let first : word_of b ≡ word_of (h.0 ++ branch_image values a) = ap word_of h.1 in
    let second : word_of b ≡ word_of (k.0 ++ branch_image values c) = ap word_of k.1 in
    ends_order (word_of h.0) (word_of k.0) (word_of a) (word_of c)
    (ap (λ (w : List ℕ). word_of h.0 ++ w) (sym (word_kept values a)) ∙ sym one ∙ sym first ∙ second ∙ two ∙ ap (λ (w : List ℕ). word_of k.0 ++ w) (word_kept values c))
