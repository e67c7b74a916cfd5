-- A proof from a context carries over to another one, and is no larger there.
use Rattle.std.proofs.Common.{◌≡◌, ℕ, zero, suc, ◌+◌, ◌-◌, ◌≤◌, max, ⊎_elim, List, [], ◌∷◌, ◌++◌, map, length, slice_get, slice_index, Some, refl, ap, sym, ◌∙◌, subst, arith, sum_by, length-append}
use Rattle.std.proofs.lemmas.List.{map-append}
use Rattle.std.proofs.lemmas.List.Sums.{sum_by-cons}
use Rattle.std.specs.List.{AllByRecursion}
use Rattle.text_core.specs.Lists.{SomeOf}
use Rattle.logic_core.specs.Forms.{IsWellFormed, AtomIsBelow}
use Rattle.logic_core.specs.declared.form.Atom.{Atom}
use Rattle.vernacular_tree.specs.Contexts.{Task, counted, parameters, atom_at, Stands, with_facts, after_mp}
use Rattle.vernacular_tree.specs.Rules.{IsAnswer, StepsThen, Closes, EachProves, IsProof}
use Rattle.vernacular_tree.specs.Sizes.{size, sizes, end_size, nesting, end_nesting, greatest_nesting}
use Rattle.vernacular_tree.specs.Tasks.{IsTask}
use Rattle.vernacular_tree.specs.Carries.{image, HasElements, ImagesStand, LineCarries, Carries, HasProof}
use Rattle.vernacular_tree.specs.Readings.{AreShallow}
use Rattle.vernacular_tree.specs.declared.context.Line.TheVariants.{Cases, Falsum}
use Rattle.vernacular_tree.specs.declared.context.Context.{Context}
use Rattle.vernacular_tree.specs.declared.tree.Mp.{Mp}
use Rattle.vernacular_tree.specs.declared.tree.Body.{Body}
use Rattle.vernacular_tree.specs.declared.tree.End.{End, As, Efq, Cs', Cs, Row_of-Body, end_of-Body, more_of-Body}
use Rattle.text_core.proofs.Laws.{each_map, each_get, some_with}
use Rattle.vernacular_tree.proofs.Numbers.{counted_length}
use Rattle.vernacular_tree.proofs.Rows.{Cs_size, Cs_shallow}
use Rattle.vernacular_tree.proofs.Splits.{ListProves, split_closes}
use Rattle.vernacular_tree.proofs.Images.{args_carry, atoms_carry, instance_carries, facts_carry, standing_facts_carry, step_carries}

-- proofs for the cases of a line
pub record HaveProofs (task : Task) (context : Context) (lists : List (List Atom)) (most deepest : ℕ) : Type 0 where
  pub bodies : List Body
  pub prove : ListProves task bodies lists context
  pub small : sum_by size bodies ≤ most
  pub shallow : AreShallow deepest bodies

module _ (constants : ℕ) (task : Task) (right : IsTask constants task) where
  -- the parameters stand for themselves
  parameters_fixed : (e : List ℕ) (from to : Context) → Carries task e from to → map (slice_index e) (parameters task) ≡ parameters task
  parameters_fixed e from to c =
      let start : task.start ≡ max 1 (constants + task.goal.universals) = right.start in
      go (task.start - task.goal.universals) task.goal.universals (omega arith)
    where
      go : (first k : ℕ) → first + k ≤ task.start → map (slice_index e) (counted first k) ≡ counted first k
      go first zero h = refl
      go first (suc k) h =
          let head : slice_index e first ≡ first = (c.start_fixed first (omega arith)).1 in
          let rest = go (first + 1) k (omega arith) in cc

  -- an answer in the first context is one in the other, at the images of its arguments
  answer_carries : (e : List ℕ) (from to : Context) → Carries task e from to → (disjunct : ℕ) (args : List ℕ) → IsAnswer task from disjunct args
      → IsAnswer task to disjunct (map (slice_index e) args)
  answer_carries e from to c disjunct args h =
      let xs : List ℕ = parameters task ++ args in
      let long : length xs ≡ task.goal.universals + task.goal.existentials
      = omega (arith, length-append (parameters task) args, counted_length (task.start - task.goal.universals) task.goal.universals, h.args_known.length_is) in
      let below = each_get (AllByRecursion (AtomIsBelow (task.goal.universals + task.goal.existentials) constants)) task.goal.disjuncts (disjunct - 1) h.atoms right.goal.disjuncts h.disjunct_is in
      let reads : map (slice_index e) xs ≡ parameters task ++ map (slice_index e) args
      = map-append (slice_index e) (parameters task) args ∙ ap (λ (ps : List ℕ). ps ++ map (slice_index e) args) (parameters_fixed e from to c) in
      record {
        atoms = h.atoms;
        from_one = h.from_one;
        disjunct_is = h.disjunct_is;
        args_known = args_carry constants task right e from to c task.goal.existentials args h.args_known;
        stand = subst (λ (zs : List ℕ). AllByRecursion (λ atom. Stands to (atom_at zs atom)) h.atoms) reads
            (atoms_carry constants task right e from to c (task.goal.universals + task.goal.existentials) xs long h.atoms below h.stand);
      }

  -- where there is a proof behind the steps, there is one with them that is longer by their number
  -- at most
  steps_carry : (steps : List Mp) (P : Context → Type 0) (most deepest : ℕ)
      → ((e : List ℕ) (from to : Context) → Carries task e from to → P from → HasProof task to most deepest)
      → (e : List ℕ) (from to : Context) → Carries task e from to → StepsThen task steps P from → HasProof task to (length steps + most) deepest
  steps_carry [] P most deepest go e from to c h =
      let found = go e from to c h in
      record { body = found.body; proves = found.proves; small = omega (arith, found.small); shallow = found.shallow }
  steps_carry (step ∷ steps) P most deepest go e from to c h =
      let formed = each_get (IsWellFormed constants) task.forms step.form h.0 right.forms h.1 in
      let args : List ℕ = map (slice_index e) step.args in
      let found = steps_carry steps P most deepest go (e ++ counted to.elements h.0.existentials) (after_mp from h.0 step.args) (after_mp to h.0 args)
      (step_carries constants task right e from to c h.0 step.args formed h.2) h.3 in
      let small : size found.body ≤ length steps + most = found.small in
      record {
        body = record { steps = record { form = step.form; args = args } ∷ found.body.steps; end = found.body.end };
        proves = (h.0, h.1, instance_carries constants task right e from to c h.0 step.args formed h.2, found.proves);
        small = omega arith;
        shallow = found.shallow;
      }

  -- a split proves where there are proofs for the cases of the line
  split_carries : (to : Context) (line : ℕ) (lists : List (List Atom)) (most deepest : ℕ) → slice_get to.lines line ≡ Some (Cases lists)
      → HaveProofs task to lists most deepest → HasProof task to (1 + most) (1 + deepest)
  split_carries to line lists most deepest is h =
      let count : end_size (Cs line h.bodies) ≡ 1 + sum_by size h.bodies = Cs_size line h.bodies in
      let few : sum_by size h.bodies ≤ most = h.small in
      let deep : end_nesting (Cs line h.bodies) ≤ deepest + 1 = Cs_shallow line h.bodies deepest h.shallow in
      record {
        body = record { steps = []; end = Cs line h.bodies };
        proves = split_closes task line h.bodies lists to is h.prove;
        small = let total : 0 + end_size (Cs line h.bodies) ≤ 1 + most = omega arith in total;
        shallow = let total : end_nesting (Cs line h.bodies) ≤ 1 + deepest = omega arith in total;
      }

  -- a line of falsehood carries over
  falsum_carries : (e : List ℕ) (from to : Context) → Carries task e from to → SomeOf (λ line. line ≡ Falsum) from.lines → SomeOf (λ line. line ≡ Falsum) to.lines
  falsum_carries e from to c h = some_with (λ line carried same. subst (LineCarries e to) same carried) from.lines c.lines h

  -- a proof for the first case and proofs for the others are proofs for all
  more_proofs : (to : Context) (facts : List Atom) (rest lists : List (List Atom)) (most deepest others deepest_other : ℕ) → lists ≡ facts ∷ rest
      → HasProof task (with_facts to facts) most deepest → HaveProofs task to rest others deepest_other → HaveProofs task to lists (most + others) (max deepest deepest_other)
  more_proofs to facts rest lists most deepest others deepest_other is first h =
      let sum : sum_by size (first.body ∷ h.bodies) ≡ size first.body + sum_by size h.bodies = sum_by-cons size first.body h.bodies in
      record {
        bodies = first.body ∷ h.bodies;
        prove = subst (λ (ls : List (List Atom)). ListProves task (first.body ∷ h.bodies) ls to) (sym is)
            (facts, rest, refl, first.proves, h.prove);
        small = let a = first.small in let b = h.small in omega arith;
        shallow = (
          let a : nesting first.body ≤ deepest = first.shallow in omega arith,
          each_map {P = λ b. nesting b ≤ deepest_other} {Q = λ b. nesting b ≤ max deepest deepest_other}
              (λ b low. let l : nesting b ≤ deepest_other = low in omega arith) h.bodies h.shallow,
        );
      }

  mutual
    -- an end that closes the first context gives a proof from the other that is no larger
    end_carries : (end : End) (e : List ℕ) (from to : Context) → Carries task e from to → Closes task end from → HasProof task to (end_size end) (end_nesting end)
    end_carries (As disjunct args) e from to c h = record {
      body = record { steps = []; end = As disjunct (map (slice_index e) args) };
      proves = answer_carries e from to c disjunct args h;
      small = omega arith;
      shallow = omega arith;
    }
    end_carries Efq e from to c h = record {
      body = record { steps = []; end = Efq };
      proves = falsum_carries e from to c h;
      small = omega arith;
      shallow = omega arith;
    }
    end_carries (Cs' line s row) e from to c h =
        let carried : LineCarries e to (Cases h.0) = each_get (LineCarries e to) from.lines line (Cases h.0) c.lines h.1 in
        ⊎_elim
        (λ l. split_carries to l.0 (map (map (image e)) h.0) (sizes row) (greatest_nesting row) l.1 (row_carries row h.0 e from to c carried.0 h.2))
        (λ r. let found = one_carries row h.0 e from to c carried.0 r h.2 in
        record { body = found.body; proves = found.proves; small = omega (arith, found.small); shallow = omega (arith, found.shallow) })
        carried.1

    -- branches that prove each case give proofs from the images of the cases
    row_carries : {n : _} (row : Row_of-Body n) (lists : List (List Atom)) (e : List ℕ) (from to : Context) → Carries task e from to
        → AllByRecursion (AllByRecursion (HasElements (length e))) lists → EachProves task row lists from
        → HaveProofs task to (map (map (image e)) lists) (sizes row) (greatest_nesting row)
    row_carries end_of-Body lists e from to c within h = record {
      bodies = [];
      prove = subst (λ (ls : List (List Atom)). ListProves task [] (map (map (image e)) ls) to) (sym h) refl;
      small = omega arith;
      shallow = tt;
    }
    row_carries (more_of-Body steps end rest) lists e from to c within h =
        let all : AllByRecursion (AllByRecursion (HasElements (length e))) (h.0 ∷ h.1) = subst (AllByRecursion (AllByRecursion (HasElements (length e)))) h.2 within in
        let first = steps_carry steps (Closes task end) (end_size end) (end_nesting end) (end_carries end) e (with_facts from h.0) (with_facts to (map (image e) h.0))
        (facts_carry constants task right e from to c h.0 all.0) h.3 in
        let others = row_carries rest h.1 e from to c all.1 h.4 in
        more_proofs to (map (image e) h.0) (map (map (image e)) h.1) (map (map (image e)) lists) (length steps + end_size end) (end_nesting end) (sizes rest) (greatest_nesting rest)
        (ap (map (map (image e))) h.2) first others

    -- where the images of one case stand, its branch alone gives a proof
    one_carries : {n : _} (row : Row_of-Body n) (lists : List (List Atom)) (e : List ℕ) (from to : Context) → Carries task e from to
        → AllByRecursion (AllByRecursion (HasElements (length e))) lists → SomeOf (ImagesStand e to) lists → EachProves task row lists from
        → HasProof task to (sizes row) (greatest_nesting row)
    one_carries end_of-Body lists e from to c within stand h = absurd (subst (SomeOf (ImagesStand e to)) h stand)
    one_carries (more_of-Body steps end rest) lists e from to c within stand h =
        let all : AllByRecursion (AllByRecursion (HasElements (length e))) (h.0 ∷ h.1) = subst (AllByRecursion (AllByRecursion (HasElements (length e)))) h.2 within in
        ⊎_elim
        (λ here. let found = steps_carry steps (Closes task end) (end_size end) (end_nesting end) (end_carries end) e (with_facts from h.0) to
        (standing_facts_carry constants task right e from to c h.0 all.0 here) h.3 in
        record { body = found.body; proves = found.proves; small = omega (arith, found.small); shallow = omega (arith, found.shallow) })
        (λ later. let found = one_carries rest h.1 e from to c all.1 later h.4 in
        record { body = found.body; proves = found.proves; small = omega (arith, found.small); shallow = omega (arith, found.shallow) })
        (subst (SomeOf (ImagesStand e to)) h.2 stand)

  -- a proof from the first context gives a proof from the other that is no larger
  pub proof_carries : (e : List ℕ) (from to : Context) (body : Body) → Carries task e from to → IsProof task from body → HasProof task to (size body) (nesting body)
  proof_carries e from to body c h = steps_carry body.steps (Closes task body.end) (end_size body.end) (end_nesting body.end) (end_carries body.end) e from to c h
