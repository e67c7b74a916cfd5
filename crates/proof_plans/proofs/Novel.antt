-- Facts that are known to stand in a branch, and an open branch whose case says nothing else.
use Rattle.std.proofs.Common.{◌≡◌, ◌≢◌, ℕ, zero, suc, ◌+◌, ◌<◌, inl, inr, List, [], ◌∷◌, ◌++◌, map, take, drop, length, slice_get, slice_index, Some, refl, ap, sym, ◌∙◌, subst, arith}
use Rattle.std.proofs.lemmas.List.{map-append}
use Rattle.std.specs.List.{AllByRecursion}
use Rattle.text_core.specs.Lists.{SomeOf, IsAmong}
use Rattle.text_core.proofs.Laws.{each_get, some_back}
use Rattle.logic_core.specs.Forms.{SlotIsBelow}
use Rattle.logic_core.specs.declared.form.Slot.{Slot}
use Rattle.logic_core.specs.declared.form.Slot.TheVariants.{Variable, Constant}
use Rattle.logic_core.specs.declared.form.Atom.{Atom}
use Rattle.logic_core.specs.declared.form.Form.{Form}
use Rattle.vernacular_tree.specs.Carries.{slot_image, image, HasElements}
use Rattle.vernacular_tree.specs.Contexts.{Task, atom_at}
use Rattle.vernacular_tree.specs.Witnessed.{LineIsBelow}
use Rattle.vernacular_tree.specs.declared.context.Line.TheVariants.{Facts, Cases}
use Rattle.vernacular_tree.specs.declared.context.Context.{Context}
use Rattle.vernacular_tree.specs.declared.tree.End.{End}
use Rattle.proof_plans.specs.declared.draft.Node.{Node}
use Rattle.proof_plans.specs.declared.draft.ListOf as ListOf
use Rattle.proof_plans.specs.declared.draft.ListOf.TheVariants as list
use Rattle.proof_plans.specs.declared.draft.PlanTie.TheVariants as tie
use Rattle.proof_plans.specs.declared.scene.Scene.{Scene}
use Rattle.proof_plans.specs.Runs.{Case, Above, Fire, Has, IsFresh, IsNovel, all_facts, root_of}
use Rattle.proof_plans.specs.Embeds.{case_image, branch_image, IsOver, BranchesAre}
use Rattle.proof_plans.specs.Drafts.{Drafted, AreListed, IsCase, IsBranch, form_variables}
use Rattle.proof_plans.specs.Hopes.{Hope}
use Rattle.proof_plans.specs.Scenes.{IsScene, list_base}
use Rattle.proof_plans.specs.Repeats.{fact_of, IsGiven, IsInCases, IsOfStep, StandsAt}
use Rattle.proof_plans.proofs.Climbs.{climb}
use Rattle.proof_plans.proofs.Placed.{tie_at, tie_over}
use Rattle.proof_plans.proofs.Reading.{listed_reads, mapped_get}
use Rattle.proof_plans.proofs.Repeats.{fact_reads}
use Rattle.proof_plans.proofs.Flat.{get_below}
use Rattle.proof_plans.proofs.Seen.{has_down}
use Rattle.proof_plans.proofs.Start.{facts_within}
use Rattle.proof_plans.proofs.Tying.{both_at}

-- a branch leads to itself and to those in which it was split
drop_above : (values : List ℕ) (count : ℕ) (branch : List Case) → Above (branch_image values (drop count branch)) (branch_image values branch)
drop_above values zero branch = ([], refl)
drop_above values (suc count) [] = ([], refl)
drop_above values (suc count) (case ∷ branch) =
    let rest = drop_above values count branch in (case_image values case ∷ rest.0, ap (λ (b : List Case). case_image values case ∷ b) rest.1)

-- the case of an open branch says something new
novel_at : (task : Task) (context : Context) (fires : List Fire) (values : List ℕ) (branches : List (List Case)) (ends : List End) → BranchesAre task context fires values branches ends
    → (k : ℕ) (branch : List Case) → slice_get branches k ≡ Some branch → IsNovel fires (branch_image values branch)
novel_at task context fires values [] ends h k branch is = absurd (cc)
novel_at task context fires values (b ∷ branches) [] h k branch is = absurd h
novel_at task context fires values (b ∷ branches) (end ∷ ends) h zero branch is =
    subst (λ (x : List Case). IsNovel fires (branch_image values x)) (let same : b ≡ branch = cc in same) h.2
novel_at task context fires values (b ∷ branches) (end ∷ ends) h (suc k) branch is = novel_at task context fires values branches ends h.3 k branch is

-- what holds of each item by its number holds of each
each_by : {X : Type 0} (P : X → Type 0) (xs : List X) → ((k : ℕ) (x : X) → slice_get xs k ≡ Some x → P x) → AllByRecursion P xs
each_by P [] all = tt
each_by P (x ∷ xs) all = (all 0 x refl, each_by P xs (λ k y is. all (suc k) y is))

-- each number of a branch that is kept is that of one branch
module _ (task : Task) (lent : Context) (nodes : List Node) where
  listed_same : (of : ListOf.ListOf) (atoms others : List Atom) (variables more : List ℕ) → AreListed task lent of atoms variables → AreListed task lent of others more
      → (atoms ≡ others) × (variables ≡ more)
  listed_same (list.Line line) atoms others variables more h k =
      let told : Some (Facts atoms) ≡ Some (Facts others) = sym h.0 ∙ k.0 in ((let same : atoms ≡ others = cc in same), h.1 ∙ sym k.1)
  listed_same (list.Case line number) atoms others variables more h k =
      let told : Some (Cases h.0) ≡ Some (Cases k.0) = sym h.1 ∙ k.1 in
      let lists : h.0 ≡ k.0 = cc in
      let there : Some atoms ≡ Some others = sym h.2 ∙ ap (λ (ls : List (List Atom)). slice_get ls number) lists ∙ k.2 in ((let same : atoms ≡ others = cc in same), h.3 ∙ sym k.3)
  listed_same (list.Disjunct form base number) atoms others variables more h k =
      let told : Some h.0 ≡ Some k.0 = sym h.1 ∙ k.1 in
      let forms : h.0 ≡ k.0 = cc in
      let there : Some atoms ≡ Some others = sym h.2 ∙ ap (λ (f : Form). slice_get f.disjuncts number) forms ∙ k.2 in
      ((let same : atoms ≡ others = cc in same), h.3 ∙ ap (form_variables base) forms ∙ sym k.3)

  case_same : (node : Node) (one other : Case) → IsCase task lent node one → IsCase task lent node other → one ≡ other
  case_same node one other h k =
      let same = listed_same node.of h.atoms k.atoms h.variables k.variables h.listed k.listed in
      let number : one.number ≡ other.number = h.number_is ∙ sym k.number_is in
      let facts : one.facts ≡ other.facts = h.facts_are ∙ (λ i. map (atom_at (same.1 i)) (same.0 i)) ∙ sym k.facts_are in
      λ i. record { number = number i; facts = facts i }

  branch_same : (number : ℕ) (one other : List Case) → IsBranch task lent nodes number one → IsBranch task lent nodes number other → one ≡ other
  branch_same number [] other h k = absurd h
  branch_same number (case ∷ upper) [] h k = absurd k
  branch_same number (case ∷ upper) (also ∷ more) (inl h) (inl k) = h.1 ∙ sym k.1
  branch_same number (case ∷ upper) (also ∷ more) (inl h) (inr k) = absurd (k.2 h.0)
  branch_same number (case ∷ upper) (also ∷ more) (inr h) (inl k) = absurd (h.2 k.0)
  branch_same number (case ∷ upper) (also ∷ more) (inr h) (inr k) =
      let told : Some h.0 ≡ Some k.0 = sym h.1 ∙ k.1 in
      let node : h.0 ≡ k.0 = cc in
      let first : case ≡ also = case_same k.0 case also (subst (λ (x : Node). IsCase task lent x case) node h.3) k.3 in
      let rest : upper ≡ more = branch_same k.0.parent upper more (subst (λ (x : Node). IsBranch task lent nodes x.parent upper) node h.4) k.4 in
      λ i. first i ∷ rest i

  -- it has a case
  branch_some : (values : List ℕ) (number : ℕ) (branch : List Case) → IsBranch task lent nodes number branch → branch_image values branch ≢ []
  branch_some values number [] h = absurd h
  branch_some values number (case ∷ upper) h = λ none. absurd (cc)

-- facts of the context are their own images
facts_same : (n : ℕ) (values : List ℕ) → ((a : ℕ) → a < n → slice_index values a ≡ a) → (facts : List Atom) → AllByRecursion (HasElements n) facts → map (image values) facts ≡ facts
facts_same n values itself [] h = refl
facts_same n values itself (fact ∷ facts) h =
    let first : image values fact ≡ fact = ap (λ (args : List Slot). record { positive = fact.positive; symbol = fact.symbol; args = args }) (go fact.args h.0) in
    let rest = facts_same n values itself facts h.1 in cc
  where
    go : (slots : List Slot) → AllByRecursion (SlotIsBelow 0 n) slots → map (slot_image values) slots ≡ slots
    go [] h = refl
    go (Variable v ∷ ss) h = let no : v < 0 = h.0 in absurd (omega arith)
    go (Constant a ∷ ss) h = let first : slice_index values a ≡ a = itself a h.0 in let rest = go ss h.1 in cc

module _ (scene : Scene) (d : Drafted) (base : ℕ) (atom : Atom) where
  -- a fact of the context stands in each branch
  pub given_at : IsGiven scene d base atom → (node : ℕ) → StandsAt scene d node base atom
  given_at given node = λ task lent n is h branch there. inl (go task lent n h (given task lent n is h) node branch there)
    where
      go : (task : Task) (lent : Context) (n : ℕ) (h : Hope task lent n d) → IsAmong (fact_of h.values base atom) (all_facts lent.lines)
          → (node : ℕ) (branch : List Case) → IsBranch task lent d.nodes node branch
          → SomeOf (λ case. IsAmong (fact_of h.values base atom) case.facts) (branch_image h.values branch)
      go task lent n h among node [] there = absurd there
      go task lent n h among node (case ∷ upper) (inl root) =
          let same = facts_same lent.elements h.values h.embeds.itself (all_facts lent.lines) (facts_within h.constants task h.right lent h.ok lent.lines h.ok.lines) in
          subst (λ (b : List Case). SomeOf (λ case. IsAmong (fact_of h.values base atom) case.facts) (branch_image h.values b)) (sym root.1)
          (inl (subst (IsAmong (fact_of h.values base atom)) (sym same) among))
      go task lent n h among node (case ∷ upper) (inr b) = inr (go task lent n h among b.0.parent upper b.4)

  -- a fact of a case of a branch stands in it
  pub case_at : (node : ℕ) → IsInCases scene d base atom node → StandsAt scene d node base atom
  case_at node cases = λ task lent n is h branch there. inl (cases task lent n is h branch there)

  -- a fact of a step that is seen from a branch stands in it
  pub seen_at : (k step node : ℕ) → slice_get d.ties k ≡ Some (tie.Over step node) → IsOfStep scene d base atom step → StandsAt scene d node base atom
  seen_at k step node tie_is made = λ task lent n is h branch there.
      let t = tie_at task lent d.nodes h.values h.fires h.indices d.ties h.plan.ties h.keeps.ties_are h.embeds.ties k (tie.Over step node) tie_is in
      let u = tie_over task lent d.nodes h.values h.fires h.indices step node t.0 t.1 t.2 in
      let facts = made task lent n is h u.2.index u.2.fire u.2.index_is u.2.fire_is in
      inr (record {
        index = u.2.index;
        before = get_below h.fires u.2.fire u.2.index u.2.fire_is;
        seen = record {
          fire = u.2.fire;
          is = u.2.fire_is;
          above = subst (λ (b : List Case). Above u.2.fire.branch (branch_image h.values b)) (branch_same task lent d.nodes node u.0 branch u.1 there) u.2.stands;
        };
        facts = facts.0;
        one = facts.1;
        among = facts.2;
      })

  -- what stands in a branch stands in those into which it is split
  pub upper_at : (node upper count : ℕ) → ((task : Task) (lent : Context) (branch : List Case) → IsBranch task lent d.nodes node branch → IsBranch task lent d.nodes upper (drop count branch))
      → StandsAt scene d upper base atom → StandsAt scene d node base atom
  upper_at node upper count lifts stands = λ task lent n is h branch there.
      has_down h.fires (fact_of h.values base atom) (length h.fires) (length h.fires) (branch_image h.values (drop count branch)) (branch_image h.values branch) (omega arith)
      (drop_above h.values count branch) (stands task lent n is h (drop count branch) (lifts task lent branch there))

-- an open branch whose case says nothing new is one of no proof
pub useless_hopeless : (scene : Scene) (d : Drafted) (number node : ℕ) (kept : Node) (facts : List Atom) → slice_get d.branches number ≡ Some node → node ≢ 0 → slice_get d.nodes node ≡ Some kept
    → ((task : Task) (lent : Context) (atoms : List Atom) (variables : List ℕ) → IsScene task lent scene → AreListed task lent kept.of atoms variables → facts ≡ atoms)
    → AllByRecursion (StandsAt scene d kept.parent (list_base kept.of)) facts
    → (task : Task) (lent : Context) (n : ℕ) → IsScene task lent scene → Hope task lent n d → ⊥
useless_hopeless scene d number node kept facts branch_is inner kept_is listed stand task lent n is h =
    let found = both_at (IsBranch task lent d.nodes) d.branches h.plan.branches h.keeps.branches_are number node branch_is in
    let up = climb task lent d.nodes node found.0 kept inner kept_is found.2 in
    let c = up.case_is in
    let novel : IsNovel h.fires (branch_image h.values (up.case ∷ up.upper))
    = subst (λ (b : List Case). IsNovel h.fires (branch_image h.values b)) up.branch_is (novel_at task lent h.fires h.values h.plan.branches h.left h.embeds.branches number found.0 found.1) in
    let equal : facts ≡ c.atoms = listed task lent c.atoms c.variables is c.listed in
    let P : Atom → Type 0 = λ fact. Has h.fires fact (length h.fires) (branch_image h.values up.upper) in
    let all : AllByRecursion P (map (image h.values) (map (atom_at c.variables) c.atoms))
    = each_by P (map (image h.values) (map (atom_at c.variables) c.atoms)) (λ k fact fact_is.
    let variable = mapped_get (image h.values) (map (atom_at c.variables) c.atoms) k fact fact_is in
    let slot = mapped_get (atom_at c.variables) c.atoms k variable.0 variable.1 in
    let own = each_get (StandsAt scene d kept.parent (list_base kept.of)) facts k slot.0 stand (subst (λ (fs : List Atom). slice_get fs k ≡ Some slot.0) (sym equal) slot.1) in
    let reads = listed_reads h.constants task h.right lent h.ok kept.of c.atoms c.variables slot.0 k c.listed slot.1 in
    let one : fact_of h.values (list_base kept.of) slot.0 ≡ fact
    = sym (fact_reads h.values slot.0 (list_base kept.of) (atom_at c.variables slot.0) reads) ∙ ap (image h.values) slot.2 ∙ variable.2 in
    subst P one (own task lent n is h up.upper up.upper_is)) in
    novel (branch_some task lent d.nodes h.values kept.parent up.upper up.upper_is)
    (subst (λ (fs : List Atom). AllByRecursion P (map (image h.values) fs)) (sym c.facts_are) all)
