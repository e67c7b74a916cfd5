-- Each proof from a context than which none is smaller is a run: its applications in one list, with
-- elements that have one number in the whole proof. No application of it is barren, and each case of
-- it says something new, since without them the proof would be smaller.
use Rattle.std.proofs.Common.{◌≡◌, ℕ, zero, suc, ◌+◌, ◌-◌, ◌<◌, ◌≤◌, max, ◌⊎◌, inl, inr, ⊎_elim, List, [], ◌∷◌, ◌++◌, map, length, slice_get, slice_index, Some, refl, ap, sym, ◌∙◌, subst, append_assoc, append-nil, arith, length-append}
use Rattle.std.proofs.lemmas.List.{map-append, get_or_append_left, length-map}
use Rattle.std.specs.List.{AllByRecursion}
use Rattle.logic_core.specs.Forms.{IsWellFormed, AtomIsBelow}
use Rattle.logic_core.specs.declared.form.Atom.{Atom}
use Rattle.logic_core.specs.declared.form.Form.{Form}
use Rattle.vernacular_tree.specs.Contexts.{Task, counted, parameters, atom_at, line_of, LineHas, Stands, with_facts, after_mp}
use Rattle.vernacular_tree.specs.Rules.{IsInstance, IsAnswer, StepsThen, Closes, EachProves, IsProof}
use Rattle.vernacular_tree.specs.Sizes.{size, sizes, end_size}
use Rattle.vernacular_tree.specs.Tasks.{IsTask}
use Rattle.vernacular_tree.specs.Carries.{image, HasElements, ImagesStand}
use Rattle.vernacular_tree.specs.Witnessed.{LineIsBelow, IsContext, Witnessed}
use Rattle.vernacular_tree.specs.declared.context.Line.{Line}
use Rattle.vernacular_tree.specs.declared.context.Line.TheVariants.{Facts, Cases, Falsum}
use Rattle.vernacular_tree.specs.declared.context.Context.{Context}
use Rattle.vernacular_tree.specs.declared.tree.Mp.{Mp}
use Rattle.vernacular_tree.specs.declared.tree.Body.{Body}
use Rattle.vernacular_tree.specs.declared.tree.End.{End, As, Efq, Cs', Row_of-Body, end_of-Body, more_of-Body}
use Rattle.proof_plans.specs.Runs.{Case, Above, Fire, elements_of, lists_of, IsSeen, IsMade, Has, IsFresh, IsKnown, IsRight, IsRun, MaySplit, IsAnswered, IsClosed, AreClosed, root_of, end_count, end_counts}
use Rattle.proof_plans.specs.Barren.{IsBarren, IsTight}
use Rattle.text_core.specs.Lists.{SomeOf, IsAmong}
use Rattle.text_core.proofs.Laws.{each_map, each_append, each_index, each_get, each_both, each_mapped, some_with, get_behind, each_image_is_among, each_member, some_front, some_back}
use Rattle.vernacular_tree.proofs.Numbers.{counted_length, counted_below, both_read, below_greater}
use Rattle.vernacular_tree.proofs.Images.{keeps_self, keeps_more, standing_facts_carry, elements_kept, image_same, atom_at_within, atom_at_image, lists_at_image}
use Rattle.proof_plans.proofs.Seen.{above_same, above_on, above_case, has_grows, known_grows, split_grows, right_grows, closed_grows, NoneAbove, AreAside, has_front, has_back}
use Rattle.vernacular_tree.proofs.Kept.{after_is_context, carries_self, witnessed_carries}
use Rattle.vernacular_tree.proofs.Carrying.{proof_carries}
use Rattle.proof_plans.proofs.Guide.{among_map, one_list}
use Rattle.proof_plans.proofs.Least.{NoneSmaller, Rises, counted_rises, rises_append, Found, all_stand, each_unmapped, image_itself}

-- what has a number in a list with one more behind it
snoc_get : {X : Type 0} (xs : List X) (x y : X) (i : ℕ) → slice_get (xs ++ x ∷ []) i ≡ Some y → (slice_get xs i ≡ Some y) ⊎ ((i ≡ length xs) × (x ≡ y))
snoc_get [] x y zero e = inr (refl, let same : x ≡ y = cc in same)
snoc_get [] x y (suc i) e = absurd (cc)
snoc_get (z ∷ zs) x y zero e = inl e
snoc_get (z ∷ zs) x y (suc i) e = ⊎_elim (λ l. inl l) (λ r. inr (let n : i ≡ length zs = r.0 in omega arith, r.1)) (snoc_get zs x y i e)

-- a number of an item is below the length
pub get_below : {X : Type 0} (xs : List X) (x : X) (i : ℕ) → slice_get xs i ≡ Some x → i < length xs
get_below [] x i e = absurd (cc)
get_below (y ∷ ys) x zero e = omega arith
get_below (y ∷ ys) x (suc i) e = let low = get_below ys x i e in omega arith

-- a branch does not lead on to itself
never_below : (branch more : List Case) (case : Case) → branch ≡ more ++ case ∷ branch → ⊥
never_below branch more case is = let long = ap length is in let total = length-append more (case ∷ branch) in omega (arith, long, total)

-- a branch to which another one leads does not lead to that one
below_not_above : (branch word more : List Case) (case : Case) → word ≡ more ++ case ∷ branch → Above word branch → ⊥
below_not_above branch word more case is above =
    let long = ap length is in let total = length-append more (case ∷ branch) in
    let other = ap length above.1 in let sum = length-append above.0 word in omega (arith, long, total, other, sum)

-- one branch has one case behind another one
same_case : (branch a b : List Case) (x y : Case) → a ++ x ∷ branch ≡ b ++ y ∷ branch → x ≡ y
same_case branch [] [] x y is = cc
same_case branch [] (z ∷ b) x y is = absurd (never_below branch b y (let rest : branch ≡ b ++ y ∷ branch = cc in rest))
same_case branch (z ∷ a) [] x y is = absurd (never_below branch a x (let rest : a ++ x ∷ branch ≡ branch = cc in sym rest))
same_case branch (z ∷ a) (w ∷ b) x y is = same_case branch a b x y (let rest : a ++ x ∷ branch ≡ b ++ y ∷ branch = cc in rest)

-- no application stands in a branch to which this one leads
abbrev pub NoneBelow : List Case → List Fire → Type 0
NoneBelow branch fires = AllByRecursion (λ fire. (more : List Case) (case : Case) → fire.branch ≡ more ++ case ∷ branch → ⊥) fires

-- no application stands in a case of a branch that has this number or a greater one
abbrev NoneFrom : ℕ → List Case → List Fire → Type 0
NoneFrom number branch fires = AllByRecursion (λ fire. (more : List Case) (case : Case) → number ≤ case.number → fire.branch ≡ more ++ case ∷ branch → ⊥) fires

-- a branch is one in a case of another one that has this number or a greater one
abbrev IsIn : ℕ → List Case → List Case → Type 0
IsIn number branch word = (more : List Case) × (case : Case) × (number ≤ case.number) × (word ≡ more ++ case ∷ branch)

module _ (constants : ℕ) (task : Task) (right : IsTask constants task) (from : Context) (start : task.start ≤ from.elements) where
  -- how a line of the context of a body is found again among the applications
  abbrev pub LineIs : List Fire → List Case → List ℕ → Line → Type 0
  LineIs fires branch e (Facts facts) = AllByRecursion (HasElements (length e)) facts
      × AllByRecursion (λ fact. Has fires (image e fact) (length fires) branch) facts
  LineIs fires branch e (Cases lists) = AllByRecursion (AllByRecursion (HasElements (length e))) lists
      × MaySplit task from fires (map (map (image e)) lists) branch
  LineIs fires branch e Falsum = MaySplit task from fires [] branch

  -- the context of a body, where these applications stand before it; element a of it is number a of
  -- the list
  pub record Stage (fires : List Fire) (branch : List Case) (c : Context) (e : List ℕ) : Type 0 where
    pub length_is : length e ≡ c.elements
    pub itself : (a : ℕ) → a < from.elements → (a < length e) × (slice_index e a ≡ a)
    pub known : AllByRecursion (λ x. IsKnown from.elements fires (length fires) x branch) e
    pub lines : AllByRecursion (LineIs fires branch e) c.lines
    pub rooted : Above (root_of from) branch
    pub ok : IsContext task c
    pub rises : Rises 0 e
    pub found : (fact : Atom) → Has fires fact (length fires) branch → Found c e fact

  -- applications in order, whose new elements are below a number
  pub record Front (fires : List Fire) (next : ℕ) : Type 0 where
    pub run : IsRun task from fires
    pub low : from.elements ≤ next
    pub ends : (i : ℕ) (fire : Fire) → slice_get fires i ≡ Some fire → fire.first + fire.form.existentials ≤ next
    pub tight : IsTight fires

  -- a line is still found where more applications follow, more elements are there, and in a branch
  -- below
  line_grows : (fires more : List Fire) (branch below : List Case) (e more_e : List ℕ) → Above branch below
      → (line : Line) → LineIs fires branch e line → LineIs (fires ++ more) below (e ++ more_e) line
  line_grows fires more branch below e more_e down (Facts facts) h =
      let long = length-append fires more in (
        each_map (elements_kept e (e ++ more_e) (keeps_more e more_e)) facts h.0,
        each_both {R = λ fact. Has (fires ++ more) (image (e ++ more_e) fact) (length (fires ++ more)) below}
            (λ fact within has. subst (λ (f : Atom). Has (fires ++ more) f (length (fires ++ more)) below)
            (sym (image_same e (e ++ more_e) (keeps_more e more_e) fact within))
            (has_grows fires more (image e fact) (length fires) (length (fires ++ more)) branch below (omega arith) down has)) facts h.0 h.1,
      )
  line_grows fires more branch below e more_e down (Cases lists) h = (
    each_map (λ facts has. each_map (elements_kept e (e ++ more_e) (keeps_more e more_e)) facts has) lists h.0,
    subst (λ (ls : List (List Atom)). MaySplit task from (fires ++ more) ls below) (sym (lists_kept lists h.0))
        (split_grows task from fires more (map (map (image e)) lists) branch below down h.1),
  )
    where
      facts_kept : (facts : List Atom) → AllByRecursion (HasElements (length e)) facts → map (image (e ++ more_e)) facts ≡ map (image e) facts
      facts_kept [] h = refl
      facts_kept (f ∷ fs) h = let first = image_same e (e ++ more_e) (keeps_more e more_e) f h.0 in let rest = facts_kept fs h.1 in cc

      lists_kept : (lists : List (List Atom)) → AllByRecursion (AllByRecursion (HasElements (length e))) lists → map (map (image (e ++ more_e))) lists ≡ map (map (image e)) lists
      lists_kept [] h = refl
      lists_kept (l ∷ ls) h = let first = facts_kept l h.0 in let rest = lists_kept ls h.1 in cc
  line_grows fires more branch below e more_e down Falsum h = split_grows task from fires more [] branch below down h

  -- the context of a body, where more applications follow, or in a branch below
  stage_grows : (fires more : List Fire) (branch below : List Case) (c : Context) (e : List ℕ) → Above branch below
      → Stage fires branch c e → ((fact : Atom) → Has (fires ++ more) fact (length (fires ++ more)) below → Found c e fact) → Stage (fires ++ more) below c e
  stage_grows fires more branch below c e down h found =
      let long = length-append fires more in record {
        length_is = h.length_is;
        itself = h.itself;
        known = each_map (λ x k. known_grows from.elements fires more (length fires) (length (fires ++ more)) x branch below (omega arith) down k) e h.known;
        lines = subst (λ (es : List ℕ). AllByRecursion (LineIs (fires ++ more) below es) c.lines) (append-nil e)
            (each_map (line_grows fires more branch below e [] down) c.lines h.lines);
        rooted = above_on (root_of from) branch below h.rooted down;
        ok = h.ok;
        rises = h.rises;
        found = found;
      }

  -- a fact that stands in the context stands among the applications at its image
  in_line : (fires : List Fire) (branch : List Case) (e : List ℕ) (fact : Atom) (line : Line) → LineIs fires branch e line → LineHas fact line
      → Has fires (image e fact) (length fires) branch
  in_line fires branch e fact (Facts facts) h has =
      some_with (λ other stands same. subst (λ (f : Atom). Has fires (image e f) (length fires) branch) same stands) facts h.1 has
  in_line fires branch e fact (Cases lists) h has = absurd has
  in_line fires branch e fact Falsum h has = absurd has

  stands : (fires : List Fire) (branch : List Case) (c : Context) (e : List ℕ) → Stage fires branch c e → (fact : Atom) → Stands c fact
      → Has fires (image e fact) (length fires) branch
  stands fires branch c e h fact s = some_with (in_line fires branch e fact) c.lines h.lines s

  -- constants stand for themselves
  constants_fixed : (fires : List Fire) (branch : List Case) (c : Context) (e : List ℕ) → Stage fires branch c e → (k : ℕ) → k < constants → slice_index e k ≡ k
  constants_fixed fires branch c e h k below = let s = right.start in (h.itself k (omega arith)).1

  constants_known : (fires : List Fire) (branch : List Case) (c : Context) (e : List ℕ) → Stage fires branch c e → constants ≤ length e
  constants_known fires branch c e h = go constants refl
    where
      go : (k : ℕ) → constants ≡ k → constants ≤ length e
      go zero is = omega arith
      go (suc k) is = let s = right.start in let last : k < length e = (h.itself k (omega arith)).0 in omega arith

  -- a step behind the applications
  module _ (fires : List Fire) (next : ℕ) (branch : List Case) (c : Context) (e : List ℕ) (front : Front fires next) (stage : Stage fires branch c e)
      (step : Mp) (form : Form) (form_is : slice_get task.forms step.form ≡ Some form) (inst : IsInstance c form step.args) where
    -- the form is well-formed
    formed : IsWellFormed constants form
    formed = each_get (IsWellFormed constants) task.forms step.form form right.forms form_is

    -- the application of the step
    abbrev fire : Fire
    fire = record { number = step.form; form = form; args = map (slice_index e) step.args; first = next; branch = branch }

    -- the elements of the context after the step
    abbrev after_e : List ℕ
    after_e = e ++ counted next form.existentials

    -- the arguments are elements of the context
    args_low : AllByRecursion (λ x. x < length e) step.args
    args_low = rw stage.length_is inst.args_known.known

    -- the new application is right
    fire_right : IsRight task from (fires ++ fire ∷ []) (length fires) fire
    fire_right = record {
      form_is = form_is;
      length_is = length-map step.args (slice_index e) ∙ inst.args_known.length_is;
      known = each_mapped {P = λ x. x < length e} {Q = λ x. x < length e} (λ x. IsKnown from.elements (fires ++ fire ∷ []) (length fires) x branch) (slice_index e)
          (λ x low _. known_grows from.elements fires (fire ∷ []) (length fires) (length fires) (slice_index e x) branch branch (omega arith) (above_same branch)
          (each_index (λ y. IsKnown from.elements fires (length fires) y branch) e x low stage.known)) step.args args_low args_low;
      premises = each_both {R = λ atom. Has (fires ++ fire ∷ []) (atom_at (map (slice_index e) step.args) atom) (length fires) branch}
          (λ atom below stand. has_grows fires (fire ∷ []) (atom_at (map (slice_index e) step.args) atom) (length fires) (length fires) branch branch (omega arith) (above_same branch)
          (subst (λ (f : Atom). Has fires f (length fires) branch)
          (atom_at_image constants form.universals step.args inst.args_known.length_is e (constants_fixed fires branch c e stage) atom below)
          (stands fires branch c e stage (atom_at step.args atom) stand))) form.premises formed.premises inst.premises;
      new = front.low;
    }

    -- all applications with the new one are a run, if that makes something new
    front_after : (IsBarren (fires ++ fire ∷ []) (length fires) fire → ⊥) → Front (fires ++ fire ∷ []) (next + form.existentials)
    front_after needed = record {
      run = record {
        right = λ index other is. ⊎_elim
            (λ old. right_grows task from fires (fire ∷ []) index other (front.run.right index other old))
            (λ new. let at : length fires ≡ index = sym new.0 in
            subst (λ (f : Fire). IsRight task from (fires ++ fire ∷ []) index f) new.1 (subst (λ (n : ℕ). IsRight task from (fires ++ fire ∷ []) n fire) at fire_right))
            (snoc_get fires fire other index is);
        apart = λ i j other later less is later_is. apart_by i j other later less (snoc_get fires fire other i is) (snoc_get fires fire later j later_is);
        rooted = λ index other is. ⊎_elim (λ old. front.run.rooted index other old)
            (λ new. subst (λ (f : Fire). Above (root_of from) f.branch) new.1 stage.rooted) (snoc_get fires fire other index is);
      };
      low = let l = front.low in omega arith;
      ends = λ i other is. ⊎_elim (λ old. let end = front.ends i other old in omega arith)
          (λ new. let same : fire ≡ other = new.1 in subst (λ (f : Fire). f.first + f.form.existentials ≤ next + form.existentials) same (omega arith)) (snoc_get fires fire other i is);
      tight = λ index other is barren. ⊎_elim
          (λ old. front.tight index other old (let low = get_below fires other index old in record {
            facts = barren.facts;
            one = barren.one;
            none = barren.none;
            stand = each_map (λ fact has. has_front fires (fire ∷ []) fact index other.branch (omega arith) has) barren.facts barren.stand;
          }))
          (λ new. needed (subst (λ (f : Fire). IsBarren (fires ++ fire ∷ []) (length fires) f) (sym new.1) (subst (λ (n : ℕ). IsBarren (fires ++ fire ∷ []) n other) new.0 barren)))
          (snoc_get fires fire other index is);
    }
      where
        apart_by : (i j : ℕ) (other later : Fire) → i < j → (slice_get fires i ≡ Some other) ⊎ ((i ≡ length fires) × (fire ≡ other))
            → (slice_get fires j ≡ Some later) ⊎ ((j ≡ length fires) × (fire ≡ later)) → other.first + other.form.existentials ≤ later.first
        apart_by i j other later less (inl old) (inl also) = front.run.apart i j other later less old also
        apart_by i j other later less (inl old) (inr new) = let same : fire ≡ later = new.1 in subst (λ (f : Fire). other.first + other.form.existentials ≤ f.first) same (front.ends i other old)
        apart_by i j other later less (inr new) (inl old) = let low = get_below fires later j old in let at : i ≡ length fires = new.0 in absurd (omega arith)
        apart_by i j other later less (inr new) (inr also) = let a : i ≡ length fires = new.0 in let b : j ≡ length fires = also.0 in absurd (omega arith)

    -- the elements of the line of the step, and as many as the form has variables
    abbrev line_elements : List ℕ
    line_elements = step.args ++ counted c.elements form.existentials

    line_long : length line_elements ≡ form.universals + form.existentials
    line_long = omega (arith, length-append step.args (counted c.elements form.existentials), inst.args_known.length_is, counted_length c.elements form.existentials)

    -- they are those of the application
    line_read : map (slice_index after_e) line_elements ≡ elements_of fire
    line_read = both_read e (counted next form.existentials) step.args c.elements form.existentials stage.length_is (counted_length next form.existentials) inst.args_known.known

    -- each of them is an element after the step
    line_known : AllByRecursion (λ x. x < length after_e) line_elements
    line_known =
        let long : length after_e ≡ length e + length (counted next form.existentials) = length-append e (counted next form.existentials) in
        let many : length (counted next form.existentials) ≡ form.existentials = counted_length next form.existentials in
        let same : length e ≡ c.elements = stage.length_is in
        each_append (λ x. x < length after_e) step.args (counted c.elements form.existentials)
        (below_greater c.elements (length after_e) step.args (omega arith) inst.args_known.known)
        (counted_below c.elements form.existentials (length after_e) (omega arith))

    -- constants stand for themselves after the step
    after_fixed : (k : ℕ) → k < constants → slice_index after_e k ≡ k
    after_fixed k below = let all = constants_known fires branch c e stage in
        get_or_append_left e (counted next form.existentials) 0 k (omega arith) ∙ constants_fixed fires branch c e stage k below

    -- the lists of the line have elements of the context after the step
    abbrev line_lists : List (List Atom)
    line_lists = map (map (atom_at line_elements)) form.disjuncts

    line_within : AllByRecursion (AllByRecursion (HasElements (length after_e))) line_lists
    line_within =
        let long : length after_e ≡ length e + length (counted next form.existentials) = length-append e (counted next form.existentials) in
        let all = constants_known fires branch c e stage in
        each_mapped (AllByRecursion (HasElements (length after_e))) (map (atom_at line_elements))
        (λ atoms below also. each_mapped (HasElements (length after_e)) (atom_at line_elements)
        (λ atom b bb. atom_at_within constants (form.universals + form.existentials) line_elements line_long (length after_e) (omega arith) line_known atom b) atoms below also)
        form.disjuncts formed.disjuncts formed.disjuncts

    -- their images are the lists of the application
    line_image : map (map (image after_e)) line_lists ≡ lists_of fire
    line_image = lists_at_image constants (form.universals + form.existentials) line_elements line_long after_e after_fixed form.disjuncts formed.disjuncts
        ∙ ap (λ (zs : List ℕ). map (map (atom_at zs)) form.disjuncts) line_read

    -- the application is seen from its branch
    abbrev fire_seen : IsSeen (fires ++ fire ∷ []) (length fires) branch
    fire_seen = record { fire = fire; is = get_behind fires fire []; above = above_same branch }

    -- a form has as many lists as its line
    many_lists : (lists : List (List Atom)) → map (map (image after_e)) lists ≡ lists_of fire → length lists ≡ length fire.form.disjuncts
    many_lists lists same = sym (length-map lists (map (image after_e))) ∙ ap length same ∙ length-map fire.form.disjuncts (map (atom_at (elements_of fire)))

    -- the new line is found again
    new_line : (lists : List (List Atom)) → AllByRecursion (AllByRecursion (HasElements (length after_e))) lists → map (map (image after_e)) lists ≡ lists_of fire
        → LineIs (fires ++ fire ∷ []) branch after_e (line_of lists)
    new_line [] within same = inr (length fires, fire_seen, same, (let many = many_lists [] same in λ one. absurd (let no : 0 ≡ 1 = many ∙ one in cc)))
    new_line (facts ∷ []) within same =
        let long = length-append fires (fire ∷ []) in (
          within.0,
          each_map (λ fact among. inr (record {
            index = length fires;
            before = omega arith;
            seen = fire_seen;
            facts = map (image after_e) facts;
            one = sym same;
            among = among;
          })) facts (each_image_is_among (image after_e) facts),
        )
    new_line (facts ∷ more ∷ rest) within same =
        (within, inr (length fires, fire_seen, same, (let many = many_lists (facts ∷ more ∷ rest) same in λ one. absurd (omega (arith, many, one)))))

    -- new elements are known
    new_known : (k j : ℕ) → j + k ≤ form.existentials → AllByRecursion (λ x. IsKnown from.elements (fires ++ fire ∷ []) (length (fires ++ fire ∷ [])) x branch) (counted (next + j) k)
    new_known zero j le = tt
    new_known (suc k) j le =
        let long = length-append fires (fire ∷ []) in (
          inr (record { index = length fires; before = omega arith; seen = fire_seen; from = (omega arith); below = (omega arith) }),
          subst (λ (n : ℕ). AllByRecursion (λ x. IsKnown from.elements (fires ++ fire ∷ []) (length (fires ++ fire ∷ [])) x branch) (counted n k))
              (let same : next + (j + 1) ≡ next + j + 1 = omega arith in same) (new_known k (j + 1) (omega arith)),
        )

    -- elements are below the next new one
    e_low : AllByRecursion (λ x. x < next) e
    e_low = each_map below_next e stage.known
      where
        below_next : (x : ℕ) → IsKnown from.elements fires (length fires) x branch → x < next
        below_next x (inl low) = let l = front.low in let b : x < from.elements = low in omega arith
        below_next x (inr new) = let a = new.below in let b = front.ends new.index new.seen.fire new.seen.is in omega arith

    -- the elements after the step rise
    after_rises : Rises 0 after_e
    after_rises = rises_append 0 next e (counted next form.existentials) (omega arith) stage.rises e_low (counted_rises next form.existentials)

    -- a fact that was found in the context is found in the one after the step
    old_found : (fact : Atom) → Found c e fact → Found (after_mp c form step.args) after_e fact
    old_found fact f = record {
      original = f.original;
      within = elements_kept e after_e (keeps_more e (counted next form.existentials)) f.original f.within;
      stands = some_front (LineHas f.original) c.lines (line_of line_lists ∷ []) f.stands;
      same = image_same e after_e (keeps_more e (counted next form.existentials)) f.original f.within ∙ f.same;
    }

    -- what stands after the step is found in the context after it
    after_found : (fact : Atom) → Has (fires ++ fire ∷ []) fact (length (fires ++ fire ∷ [])) branch → Found (after_mp c form step.args) after_e fact
    after_found fact (inl given) = old_found fact (stage.found fact (inl given))
    after_found fact (inr made) = ⊎_elim
        (λ old. old_found fact (stage.found fact (inr (record {
          index = made.index;
          before = get_below fires made.seen.fire made.index old;
          seen = record { fire = made.seen.fire; is = old; above = made.seen.above };
          facts = made.facts;
          one = made.one;
          among = made.among;
        }))))
        (λ new. by_new (subst (λ (f : Fire). lists_of f ≡ made.facts ∷ []) (sym new.1) made.one))
        (snoc_get fires fire made.seen.fire made.index made.seen.is)
      where
        by_new : lists_of fire ≡ made.facts ∷ [] → Found (after_mp c form step.args) after_e fact
        by_new one =
            let list = one_list (image after_e) line_lists made.facts (line_image ∙ one) in
            let member = among_map (image after_e) list.0 fact (subst (IsAmong fact) (sym list.2) made.among) in record {
              original = member.0;
              within = each_member (HasElements (length after_e)) list.0 (subst (AllByRecursion (AllByRecursion (HasElements (length after_e)))) list.1 line_within).0 member.0 member.1;
              stands = some_back (LineHas member.0) c.lines (line_of line_lists ∷ []) (inl (subst (λ (ls : List (List Atom)). LineHas member.0 (line_of ls)) (sym list.1) member.1));
              same = member.2;
            }

    -- where no proof is smaller, the step makes something new: without it there would be one
    step_needed : (steps : List Mp) (end : End) → NoneSmaller task c (length (step ∷ steps) + end_size end) → StepsThen task steps (Closes task end) (after_mp c form step.args)
        → IsBarren (fires ++ fire ∷ []) (length fires) fire → ⊥
    step_needed steps end best rest barren =
        let list = one_list (atom_at (elements_of fire)) form.disjuncts barren.facts barren.one in
        let facts : List Atom = map (atom_at line_elements) list.0 in
        let whole : map (map (image after_e)) line_lists ≡ barren.facts ∷ [] = line_image ∙ barren.one in
        let only : map (image after_e) facts ∷ [] ≡ barren.facts ∷ []
        = subst (λ (ls : List (List Atom)). map (map (image after_e)) (map (map (atom_at line_elements)) ls) ≡ barren.facts ∷ []) list.1 whole in
        let same : map (image after_e) facts ≡ barren.facts = cc in
        let found : AllByRecursion (Found c e) barren.facts
        = each_map (λ fact has. stage.found fact (has_front fires (fire ∷ []) fact (length fires) branch (omega arith) has)) barren.facts barren.stand in
        let within : AllByRecursion (AllByRecursion (HasElements (length after_e))) (facts ∷ [])
        = subst (λ (ls : List (List Atom)). AllByRecursion (AllByRecursion (HasElements (length after_e))) (map (map (atom_at line_elements)) ls)) list.1 line_within in
        let stand : AllByRecursion (Stands c) facts
        = all_stand c e after_e (keeps_more e (counted next form.existentials)) after_rises facts within.0 (subst (AllByRecursion (Found c e)) (sym same) found) in
        let at : AllByRecursion (λ atom. Stands c (atom_at (step.args ++ []) atom)) list.0
        = subst (λ (n : ℕ). AllByRecursion (λ atom. Stands c (atom_at (step.args ++ counted c.elements n) atom)) list.0) barren.none (each_unmapped (Stands c) (atom_at line_elements) list.0 stand) in
        let witnessed : Witnessed c form step.args = record {
          witnesses = [];
          known = record { length_is = sym barren.none; known = tt };
          stand = subst (SomeOf (AllByRecursion (λ atom. Stands c (atom_at (step.args ++ []) atom)))) (sym list.1) (inl at);
        } in
        let carried = witnessed_carries constants task right c stage.ok form step.args formed inst witnessed in
        let other = proof_carries constants task right (counted 0 c.elements ++ []) (after_mp c form step.args) c (record { steps = steps; end = end }) carried rest in
        let small : size other.body ≤ length steps + end_size end = other.small in
        best other.body other.proves (omega arith)

    -- the context after the step
    stage_after : Stage (fires ++ fire ∷ []) branch (after_mp c form step.args) after_e
    stage_after =
        let long : length after_e ≡ length e + length (counted next form.existentials) = length-append e (counted next form.existentials) in
        let many : length (counted next form.existentials) ≡ form.existentials = counted_length next form.existentials in
        let same : length e ≡ c.elements = stage.length_is in
        let more = length-append fires (fire ∷ []) in
        record {
          length_is = omega arith;
          itself = λ a below. let old = stage.itself a below in
              (let low : a < length e = old.0 in omega arith, get_or_append_left e (counted next form.existentials) 0 a old.0 ∙ old.1);
          known = each_append (λ x. IsKnown from.elements (fires ++ fire ∷ []) (length (fires ++ fire ∷ [])) x branch) e (counted next form.existentials)
              (each_map (λ x k. known_grows from.elements fires (fire ∷ []) (length fires) (length (fires ++ fire ∷ [])) x branch branch (omega arith) (above_same branch) k) e stage.known)
              (subst (λ (n : ℕ). AllByRecursion (λ x. IsKnown from.elements (fires ++ fire ∷ []) (length (fires ++ fire ∷ [])) x branch) (counted n form.existentials))
              (let zero_more : next + 0 ≡ next = omega arith in zero_more) (new_known form.existentials 0 (omega arith)));
          lines = each_append (LineIs (fires ++ fire ∷ []) branch after_e) c.lines (line_of line_lists ∷ [])
              (each_map (line_grows fires (fire ∷ []) branch branch e (counted next form.existentials) (above_same branch)) c.lines stage.lines)
              (new_line line_lists line_within line_image, tt);
          rooted = stage.rooted;
          ok = after_is_context constants task right c form step.args stage.ok formed inst;
          rises = after_rises;
          found = after_found;
        }

  -- an end, behind applications
  pub record EndIs (fires : List Fire) (branch : List Case) (end : End) (count : ℕ) : Type 0 where
    pub more : List Fire
    pub next : ℕ
    pub front : Front (fires ++ more) next
    pub closed : IsClosed task from (fires ++ more) end branch
    pub counts : length more + end_count end ≡ count
    pub inside : AllByRecursion (λ fire. Above branch fire.branch) more

  -- the branches of a split, behind applications
  record RowIs {n : _} (fires : List Fire) (branch : List Case) (row : Row_of-Body n) (number : ℕ) (lists : List (List Atom)) (count : ℕ) : Type 0 where
    more : List Fire
    next : ℕ
    front : Front (fires ++ more) next
    closed : AreClosed task from (fires ++ more) row number lists branch
    counts : length more + end_counts row ≡ count
    inside : AllByRecursion (λ fire. IsIn number branch fire.branch) more

  -- steps, behind which there is an end
  pub steps_flat : (steps : List Mp) (end : End) (branch : List Case)
      → ((fires : List Fire) (next : ℕ) (c : Context) (e : List ℕ) → Front fires next → Stage fires branch c e → NoneBelow branch fires → NoneSmaller task c (end_size end)
      → Closes task end c → EndIs fires branch end (end_size end))
      → (fires : List Fire) (next : ℕ) (c : Context) (e : List ℕ) → Front fires next → Stage fires branch c e → NoneBelow branch fires → NoneSmaller task c (length steps + end_size end)
      → StepsThen task steps (Closes task end) c → EndIs fires branch end (length steps + end_size end)
  steps_flat [] end branch go fires next c e front stage free best h =
      let same : end_size end ≡ 0 + end_size end = omega arith in
      subst (λ (n : ℕ). EndIs fires branch end n) same (go fires next c e front stage free (subst (NoneSmaller task c) (sym same) best) h)
  steps_flat (step ∷ steps) end branch go fires next c e front stage free best h =
      let f : Fire = fire fires next branch c e front stage step h.0 h.1 h.2 in
      let rest = steps_flat steps end branch go (fires ++ f ∷ []) (next + h.0.existentials) (after_mp c h.0 step.args) (e ++ counted next h.0.existentials)
      (front_after fires next branch c e front stage step h.0 h.1 h.2 (step_needed fires next branch c e front stage step h.0 h.1 h.2 steps end best h.3))
      (stage_after fires next branch c e front stage step h.0 h.1 h.2)
      (each_append (λ fire. (more : List Case) (case : Case) → fire.branch ≡ more ++ case ∷ branch → ⊥) fires (f ∷ []) free ((λ more case is. never_below branch more case is), tt))
      (λ body proves less. let l : length body.steps + end_size body.end < length steps + end_size end = less in
      best (record { steps = step ∷ body.steps; end = body.end }) (h.0, h.1, h.2, proves)
      (let total : suc (length body.steps) + end_size body.end < suc (length steps) + end_size end = omega arith in total)) h.3 in
      let same : (fires ++ f ∷ []) ++ rest.more ≡ fires ++ f ∷ rest.more = append_assoc fires (f ∷ []) rest.more in
      let counts : length rest.more + end_count end ≡ length steps + end_size end = rest.counts in
      record {
        more = f ∷ rest.more;
        next = rest.next;
        front = subst (λ (fs : List Fire). Front fs rest.next) same rest.front;
        closed = subst (λ (fs : List Fire). IsClosed task from fs end branch) same rest.closed;
        counts = omega arith;
        inside = (above_same branch, rest.inside);
      }

  -- the parameters stand for themselves
  parameters_fixed : (fires : List Fire) (branch : List Case) (c : Context) (e : List ℕ) → Stage fires branch c e → map (slice_index e) (parameters task) ≡ parameters task
  parameters_fixed fires branch c e stage =
      let s : task.start ≡ max 1 (constants + task.goal.universals) = right.start in
      go (task.start - task.goal.universals) task.goal.universals (omega arith)
    where
      go : (first k : ℕ) → first + k ≤ task.start → map (slice_index e) (counted first k) ≡ counted first k
      go first zero h = refl
      go first (suc k) h =
          let head : slice_index e first ≡ first = (stage.itself first (omega arith)).1 in
          let rest = go (first + 1) k (omega arith) in cc

  -- a disjunct of the goal that stands in the context stands among the applications
  answer_flat : (fires : List Fire) (branch : List Case) (c : Context) (e : List ℕ) → Stage fires branch c e → (disjunct : ℕ) (args : List ℕ) → IsAnswer task c disjunct args
      → IsAnswered task from fires disjunct branch
  answer_flat fires branch c e stage disjunct args h =
      let xs : List ℕ = parameters task ++ args in
      let long : length xs ≡ task.goal.universals + task.goal.existentials
      = omega (arith, length-append (parameters task) args, counted_length (task.start - task.goal.universals) task.goal.universals, h.args_known.length_is) in
      let below = each_get (AllByRecursion (AtomIsBelow (task.goal.universals + task.goal.existentials) constants)) task.goal.disjuncts (disjunct - 1) h.atoms right.goal.disjuncts h.disjunct_is in
      let reads : map (slice_index e) xs ≡ parameters task ++ map (slice_index e) args
      = map-append (slice_index e) (parameters task) args ∙ ap (λ (ps : List ℕ). ps ++ map (slice_index e) args) (parameters_fixed fires branch c e stage) in
      let low : AllByRecursion (λ x. x < length e) args = rw stage.length_is h.args_known.known in
      record {
        atoms = h.atoms;
        values = map (slice_index e) args;
        disjunct_is = h.disjunct_is;
        length_is = length-map args (slice_index e) ∙ h.args_known.length_is;
        known = each_mapped {P = λ x. x < length e} {Q = λ x. x < length e} (λ x. IsKnown from.elements fires (length fires) x branch) (slice_index e)
            (λ x l _. each_index (λ y. IsKnown from.elements fires (length fires) y branch) e x l stage.known) args low low;
        stand = subst (λ (zs : List ℕ). AllByRecursion (λ atom. Has fires (atom_at zs atom) (length fires) branch) h.atoms) reads
            (each_both {R = λ atom. Has fires (atom_at (map (slice_index e) xs) atom) (length fires) branch}
            (λ atom b s. subst (λ (f : Atom). Has fires f (length fires) branch)
            (atom_at_image constants (task.goal.universals + task.goal.existentials) xs long e (constants_fixed fires branch c e stage) atom b)
            (stands fires branch c e stage (atom_at xs atom) s)) h.atoms below h.stand);
      }

  -- the same applications are a run with none behind them
  front_same : (fires : List Fire) (next : ℕ) → Front fires next → Front (fires ++ []) next
  front_same fires next front = subst (λ (fs : List Fire). Front fs next) (sym (append-nil fires)) front

  -- a case of a split has its facts, where no application stands in it yet
  case_stage : (fires : List Fire) (branch : List Case) (c : Context) (e : List ℕ) → Stage fires branch c e → (number : ℕ) (facts : List Atom) → AllByRecursion (HasElements (length e)) facts
      → NoneFrom number branch fires → Stage fires (record { number = number; facts = map (image e) facts } ∷ branch) (with_facts c facts) e
  case_stage fires branch c e stage number facts within free = record {
    length_is = stage.length_is;
    itself = stage.itself;
    known = subst (λ (fs : List Fire). AllByRecursion (λ x. IsKnown from.elements fs (length fs) x (case ∷ branch)) e) (append-nil fires)
        (each_map (λ x k. known_grows from.elements fires [] (length fires) (length (fires ++ [])) x branch (case ∷ branch) (let long = length-append fires [] in omega arith) (above_case case branch) k)
        e stage.known);
    lines = each_append (LineIs fires (case ∷ branch) e) c.lines (Facts facts ∷ [])
        (subst (λ (fs : List Fire). AllByRecursion (LineIs fs (case ∷ branch) e) c.lines) (append-nil fires)
        (subst (λ (es : List ℕ). AllByRecursion (LineIs (fires ++ []) (case ∷ branch) es) c.lines) (append-nil e)
        (each_map (line_grows fires [] branch (case ∷ branch) e [] (above_case case branch)) c.lines stage.lines)))
        ((within, each_map (λ fact among. inl (inl among)) facts (each_image_is_among (image e) facts)), tt);
    rooted = above_on (root_of from) branch (case ∷ branch) stage.rooted (above_case case branch);
    ok = record {
      start = stage.ok.start;
      lines = each_append (LineIsBelow c.elements) c.lines (Facts facts ∷ []) stage.ok.lines (subst (λ (n : ℕ). AllByRecursion (HasElements n) facts) stage.length_is within, tt);
    };
    rises = stage.rises;
    found = found;
  }
    where
      case : Case
      case = record { number = number; facts = map (image e) facts }

      old_case : (fact : Atom) → Found c e fact → Found (with_facts c facts) e fact
      old_case fact f = record {
        original = f.original;
        within = f.within;
        stands = some_front (LineHas f.original) c.lines (Facts facts ∷ []) f.stands;
        same = f.same;
      }

      found_made : (fact : Atom) (made : IsMade fires fact (length fires) (case ∷ branch)) (more : List Case) → case ∷ branch ≡ more ++ made.seen.fire.branch → Found (with_facts c facts) e fact
      found_made fact made [] is =
          absurd (each_get (λ fire. (more : List Case) (case : Case) → number ≤ case.number → fire.branch ≡ more ++ case ∷ branch → ⊥) fires made.index made.seen.fire free made.seen.is [] case (omega arith) (sym is))
      found_made fact made (x ∷ more) is = old_case fact (stage.found fact (inr (record {
        index = made.index;
        before = made.before;
        seen = record { fire = made.seen.fire; is = made.seen.is; above = (more, (let rest : branch ≡ more ++ made.seen.fire.branch = cc in rest)) };
        facts = made.facts;
        one = made.one;
        among = made.among;
      })))

      found : (fact : Atom) → Has fires fact (length fires) (case ∷ branch) → Found (with_facts c facts) e fact
      found fact (inl (inl among)) =
          let member = among_map (image e) facts fact among in record {
            original = member.0;
            within = each_member (HasElements (length e)) facts within member.0 member.1;
            stands = some_back (LineHas member.0) c.lines (Facts facts ∷ []) (inl member.1);
            same = member.2;
          }
      found fact (inl (inr given)) = old_case fact (stage.found fact (inl given))
      found fact (inr made) = found_made fact made made.seen.above.0 made.seen.above.1

  -- where no proof is smaller, a case says something new: without the split there would be one
  case_needed : (fires more : List Fire) (branch : List Case) (c : Context) (e : List ℕ) → Stage fires branch c e → NoneAbove branch more → (count : ℕ) → NoneSmaller task c count
      → (steps : List Mp) (end : End) (facts : List Atom) → AllByRecursion (HasElements (length e)) facts → StepsThen task steps (Closes task end) (with_facts c facts)
      → length steps + end_size end < count → IsFresh (fires ++ more) (map (image e) facts) branch
  case_needed fires more branch c e stage none count best steps end facts within rest few stand =
      let found : AllByRecursion (Found c e) (map (image e) facts)
      = each_map (λ fact has. stage.found fact (has_back fires more fact (length (fires ++ more)) branch none has)) (map (image e) facts) stand in
      let there : AllByRecursion (Stands c) facts = all_stand c e e (keeps_self e) stage.rises facts within found in
      let low : AllByRecursion (HasElements c.elements) facts = subst (λ (n : ℕ). AllByRecursion (HasElements n) facts) stage.length_is within in
      let images : ImagesStand (counted 0 c.elements) c facts
      = each_both {R = λ fact. Stands c (image (counted 0 c.elements) fact)} (λ fact has stands. subst (Stands c) (sym (image_itself c.elements fact has)) stands) facts low there in
      let carried = standing_facts_carry constants task right (counted 0 c.elements) c c (carries_self task c stage.ok) facts
      (subst (λ (n : ℕ). AllByRecursion (HasElements n) facts) (sym (counted_length 0 c.elements)) low) images in
      let other = proof_carries constants task right (counted 0 c.elements) (with_facts c facts) c (record { steps = steps; end = end }) carried rest in
      let small : size other.body ≤ length steps + end_size end = other.small in
      best other.body other.proves (omega arith)

  mutual
    -- an end that closes the context closes the branch
    pub end_flat : (end : End) (branch : List Case) (fires : List Fire) (next : ℕ) (c : Context) (e : List ℕ) → Front fires next → Stage fires branch c e → NoneBelow branch fires
        → NoneSmaller task c (end_size end) → Closes task end c → EndIs fires branch end (end_size end)
    end_flat (As disjunct args) branch fires next c e front stage free best h = record {
      more = [];
      next = next;
      front = front_same fires next front;
      closed = subst (λ (fs : List Fire). IsAnswered task from fs disjunct branch) (sym (append-nil fires)) (answer_flat fires branch c e stage disjunct args h);
      counts = omega arith;
      inside = tt;
    }
    end_flat Efq branch fires next c e front stage free best h = record {
      more = [];
      next = next;
      front = front_same fires next front;
      closed = subst (λ (fs : List Fire). MaySplit task from fs [] branch) (sym (append-nil fires))
          (some_with (λ line is same. subst (LineIs fires branch e) same is) c.lines stage.lines h);
      counts = omega arith;
      inside = tt;
    }
    end_flat (Cs' line s row) branch fires next c e front stage free best h =
        let found = each_get (LineIs fires branch e) c.lines line (Cases h.0) stage.lines h.1 in
        let rest = row_flat row 0 h.0 branch fires next c e front stage (each_map (λ fire none more case high is. none more case is) fires free) found.0 (1 + sizes row) best (omega arith)
        (λ other proves less. best (record { steps = []; end = Cs' line s other }) (h.0, h.1, proves)
        (let total : 0 + (1 + sizes other) < 1 + sizes row = omega arith in total)) h.2 in
        let counts : length rest.more + end_counts row ≡ sizes row = rest.counts in
        record {
          more = rest.more;
          next = rest.next;
          front = rest.front;
          closed = (map (map (image e)) h.0, split_grows task from fires rest.more (map (map (image e)) h.0) branch branch (above_same branch) found.1, rest.closed);
          counts = omega arith;
          inside = each_map (λ fire is. (is.0 ++ is.1 ∷ [], is.3 ∙ sym (append_assoc is.0 (is.1 ∷ []) branch))) rest.more rest.inside;
        }

    -- branches that prove each case close the branches of the split
    row_flat : {n : _} (row : Row_of-Body n) (number : ℕ) (lists : List (List Atom)) (branch : List Case) (fires : List Fire) (next : ℕ) (c : Context) (e : List ℕ)
        → Front fires next → Stage fires branch c e → NoneFrom number branch fires → AllByRecursion (AllByRecursion (HasElements (length e))) lists
        → (count : ℕ) → NoneSmaller task c count → sizes row < count → ((other : Row_of-Body n) → EachProves task other lists c → sizes other < sizes row → ⊥)
        → EachProves task row lists c → RowIs fires branch row number (map (map (image e)) lists) (sizes row)
    row_flat end_of-Body number lists branch fires next c e front stage free within count best few least h = record {
      more = [];
      next = next;
      front = front_same fires next front;
      closed = ap (map (map (image e))) h;
      counts = omega arith;
      inside = tt;
    }
    row_flat (more_of-Body steps end rest) number lists branch fires next c e front stage free within count best few least h =
        let all : AllByRecursion (AllByRecursion (HasElements (length e))) (h.0 ∷ h.1) = subst (AllByRecursion (AllByRecursion (HasElements (length e)))) h.2 within in
        let case : Case = record { number = number; facts = map (image e) h.0 } in
        let total : length steps + end_size end + sizes rest < count = few in
        let first = steps_flat steps end (case ∷ branch) (end_flat end (case ∷ branch)) fires next (with_facts c h.0) e front
        (case_stage fires branch c e stage number h.0 all.0 free)
        (each_map (λ fire none more x is. none (more ++ x ∷ []) case (omega arith) (is ∙ sym (append_assoc more (x ∷ []) (case ∷ branch)))) fires free)
        (λ body proves less. let l : length body.steps + end_size body.end < length steps + end_size end = less in
        least (more_of-Body body.steps body.end rest) (h.0, h.1, h.2, proves, h.4)
        (let smaller : length body.steps + end_size body.end + sizes rest < length steps + end_size end + sizes rest = omega arith in smaller)) h.3 in
        let none_first : NoneAbove branch first.more = each_map (λ fire is above. below_not_above branch fire.branch is.0 case is.1 above) first.more first.inside in
        let others = row_flat rest (number + 1) h.1 branch (fires ++ first.more) first.next c e first.front
        (stage_grows fires first.more branch branch c e (above_same branch) stage (λ fact has. stage.found fact (has_back fires first.more fact (length (fires ++ first.more)) branch none_first has)))
        (each_append (λ fire. (more : List Case) (x : Case) → number + 1 ≤ x.number → fire.branch ≡ more ++ x ∷ branch → ⊥) fires first.more
        (each_map (λ fire none more x high is. none more x (omega arith) is) fires free)
        (each_map (λ fire inside more x high is. let same : case ≡ x = same_case branch inside.0 more case x (sym inside.1 ∙ is) in let one : number ≡ x.number = ap (λ (y : Case). y.number) same in omega arith)
        first.more first.inside))
        all.1 count best (omega arith)
        (λ other proves less. least (more_of-Body steps end other) (h.0, h.1, h.2, h.3, proves)
        (let l : sizes other < sizes rest = less in let smaller : length steps + end_size end + sizes other < length steps + end_size end + sizes rest = omega arith in smaller)) h.4 in
        let none_others : NoneAbove branch others.more = each_map (λ fire is above. below_not_above branch fire.branch is.0 is.1 is.3 above) others.more others.inside in
        let same : (fires ++ first.more) ++ others.more ≡ fires ++ (first.more ++ others.more) = append_assoc fires first.more others.more in
        let long = length-append first.more others.more in
        let a : length first.more + end_count end ≡ length steps + end_size end = first.counts in
        let b : length others.more + end_counts rest ≡ sizes rest = others.counts in
        let aside : AreAside (case ∷ branch) others.more = each_map (λ fire is longer above.
        let one : longer ++ case ∷ branch ≡ (above.0 ++ is.0) ++ is.1 ∷ branch
        = above.1 ∙ ap (λ (w : List Case). above.0 ++ w) is.3 ∙ sym (append_assoc above.0 is.0 (is.1 ∷ branch)) in
        let two : case ≡ is.1 = same_case branch longer (above.0 ++ is.0) case is.1 one in
        let three : number ≡ is.1.number = ap (λ (y : Case). y.number) two in let high = is.2 in omega arith) others.more others.inside in
        record {
          more = first.more ++ others.more;
          next = others.next;
          front = subst (λ (fs : List Fire). Front fs others.next) same others.front;
          closed = (
            map (image e) h.0,
            map (map (image e)) h.1,
            ap (map (map (image e))) h.2,
            case_needed fires (first.more ++ others.more) branch c e stage (each_append (λ fire. Above fire.branch branch → ⊥) first.more others.more none_first none_others)
                count best steps end h.0 all.0 h.3 (omega arith),
            subst (λ (fs : List Fire). IsClosed task from fs end (case ∷ branch)) same (closed_grows task from (fires ++ first.more) others.more end (case ∷ branch) aside first.closed),
            subst (λ (fs : List Fire). AreClosed task from fs rest (number + 1) (map (map (image e)) h.1) branch) same others.closed,
          );
          counts = omega arith;
          inside = each_append (λ fire. IsIn number branch fire.branch) first.more others.more
              (each_map (λ fire is. (is.0, case, (omega arith), is.1)) first.more first.inside)
              (each_map (λ fire is. (is.0, is.1, (let high = is.2 in omega arith), is.3)) others.more others.inside);
        }
