-- The rules lead from contexts of a task to contexts of the task, and each of these carries over to itself.
use Rattle.std.proofs.Common.{◌≡◌, ℕ, ◌+◌, ◌-◌, ◌<◌, ◌≤◌, inl, List, [], ◌∷◌, ◌++◌, map, length, slice_get, slice_index, Some, refl, ap, sym, ◌∙◌, subst, arith, length-append, append_assoc}
use Rattle.std.specs.List.{AllByRecursion}
use Rattle.text_core.specs.Lists.{SomeOf}
use Rattle.logic_core.specs.Forms.{IsWellFormed, SlotIsBelow}
use Rattle.logic_core.specs.declared.form.Slot.{Slot}
use Rattle.logic_core.specs.declared.form.Slot.TheVariants.{Variable, Constant}
use Rattle.logic_core.specs.declared.form.Atom.{Atom}
use Rattle.logic_core.specs.declared.form.Form.{Form}
use Rattle.vernacular_tree.specs.Contexts.{Task, counted, parameters, atom_at, LineHas, Stands, line_of, start_context, with_facts, after_mp}
use Rattle.vernacular_tree.specs.Rules.{IsInstance}
use Rattle.vernacular_tree.specs.Tasks.{IsTask}
use Rattle.vernacular_tree.specs.Carries.{slot_image, image, HasElements, LineCarries, Carries}
use Rattle.vernacular_tree.specs.Witnessed.{LineIsBelow, IsContext, Witnessed}
use Rattle.vernacular_tree.specs.declared.context.Line.{Line}
use Rattle.vernacular_tree.specs.declared.context.Line.TheVariants.{Facts, Cases, Falsum}
use Rattle.vernacular_tree.specs.declared.context.Context.{Context}
use Rattle.text_core.proofs.Laws.{each_map, each_append, each_get, each_mapped, each_both, some_at, each_is_among, get_behind}
use Rattle.vernacular_tree.proofs.Numbers.{below_greater, counted_length, counted_below, counted_at}
use Rattle.vernacular_tree.proofs.Facts.{slot_below}
use Rattle.vernacular_tree.proofs.Images.{atom_at_within, witness_carries}

-- a fact with elements below one bound has them below any bound that is no smaller
fact_more : (n m : ℕ) → n ≤ m → (fact : Atom) → HasElements n fact → HasElements m fact
fact_more n m le fact h = each_map (slot_below n m le) fact.args h

-- a line with elements below one bound has them below any bound that is no smaller
line_more : (n m : ℕ) → n ≤ m → (line : Line) → LineIsBelow n line → LineIsBelow m line
line_more n m le (Facts facts) h = each_map (fact_more n m le) facts h
line_more n m le (Cases lists) h = each_map (λ facts has. each_map (fact_more n m le) facts has) lists h
line_more n m le Falsum h = tt

-- the line of disjuncts has its elements below a bound where the disjuncts have
line_below : (n : ℕ) (lists : List (List Atom)) → AllByRecursion (AllByRecursion (HasElements n)) lists → LineIsBelow n (line_of lists)
line_below n [] h = tt
line_below n (facts ∷ []) h = h.0
line_below n (facts ∷ more ∷ rest) h = h

-- a context of the task with one of its cases is a context of the task
pub case_is_context : (task : Task) (context : Context) (line : ℕ) (lists : List (List Atom)) (i : ℕ) (facts : List Atom) → IsContext task context
    → slice_get context.lines line ≡ Some (Cases lists) → slice_get lists i ≡ Some facts → IsContext task (with_facts context facts)
case_is_context task context line lists i facts c is at =
    let all : AllByRecursion (AllByRecursion (HasElements context.elements)) lists = each_get (LineIsBelow context.elements) context.lines line (Cases lists) c.lines is in
    record {
      start = c.start;
      lines = each_append (LineIsBelow context.elements) context.lines (Facts facts ∷ []) c.lines
          (each_get (AllByRecursion (HasElements context.elements)) lists i facts all at, tt);
    }

module _ (constants : ℕ) (task : Task) (right : IsTask constants task) where
  -- the constants are among the start elements
  constants_start : constants ≤ task.start
  constants_start = let start = right.start in omega arith

  -- the start context of a task is a context of the task
  pub start_is_context : IsContext task (start_context task)
  start_is_context = record {
    start = omega arith;
    lines = (
      each_mapped (HasElements task.start) (atom_at (parameters task))
          (λ atom below also. atom_at_within constants task.goal.universals (parameters task)
          (counted_length (task.start - task.goal.universals) task.goal.universals) task.start constants_start
          (counted_below (task.start - task.goal.universals) task.goal.universals task.start (let start = right.start in omega arith)) atom below)
          task.goal.premises right.goal.premises right.goal.premises,
      tt,
    );
  }

  -- after modus ponens a context of the task is a context of the task
  pub after_is_context : (context : Context) (form : Form) (args : List ℕ) → IsContext task context → IsWellFormed constants form → IsInstance context form args
      → IsContext task (after_mp context form args)
  after_is_context context form args c formed inst =
      let n : ℕ = context.elements + form.existentials in
      let xs : List ℕ = args ++ counted context.elements form.existentials in
      let long : length xs ≡ form.universals + form.existentials
      = omega (arith, length-append args (counted context.elements form.existentials), inst.args_known.length_is, counted_length context.elements form.existentials) in
      let known : AllByRecursion (λ x. x < n) xs = each_append (λ x. x < n) args (counted context.elements form.existentials)
      (below_greater context.elements n args (omega arith) inst.args_known.known) (counted_below context.elements form.existentials n (omega arith)) in
      let all = constants_start in
      let start : task.start ≤ context.elements = c.start in
      record {
        start = omega arith;
        lines = each_append (LineIsBelow n) context.lines (line_of (map (map (atom_at xs)) form.disjuncts) ∷ [])
            (each_map (line_more context.elements n (omega arith)) context.lines c.lines) (
              line_below n (map (map (atom_at xs)) form.disjuncts)
                  (each_mapped (AllByRecursion (HasElements n)) (map (atom_at xs))
                  (λ atoms below also. each_mapped (HasElements n) (atom_at xs)
                  (λ atom b bb. atom_at_within constants (form.universals + form.existentials) xs long n (omega arith) known atom b) atoms below also)
                  form.disjuncts formed.disjuncts formed.disjuncts),
              tt,
            );
      }

-- every element stands for itself
module _ (n : ℕ) where
  -- slots below a bound are their own images where each element stands for itself
  slots_self : (ss : List Slot) → AllByRecursion (SlotIsBelow 0 n) ss → map (slot_image (counted 0 n)) ss ≡ ss
  slots_self [] h = refl
  slots_self (Variable v ∷ ss) h = let rest = slots_self ss h.1 in cc
  slots_self (Constant a ∷ ss) h =
      let at : slice_index (counted 0 n) a ≡ a = let r = counted_at 0 n a h.0 in omega arith in
      let rest = slots_self ss h.1 in cc

  -- a fact is its own image where each element stands for itself
  image_self : (fact : Atom) → HasElements n fact → image (counted 0 n) fact ≡ fact
  image_self fact h = ap (λ (args : List Slot). record { positive = fact.positive; symbol = fact.symbol; args = args }) (slots_self fact.args h)

  -- facts are their own images where each element stands for itself
  images_self : (facts : List Atom) → AllByRecursion (HasElements n) facts → map (image (counted 0 n)) facts ≡ facts
  images_self [] h = refl
  images_self (fact ∷ facts) h = let first = image_self fact h.0 in let rest = images_self facts h.1 in cc

  -- lists of facts are their own images where each element stands for itself
  lists_self : (lists : List (List Atom)) → AllByRecursion (AllByRecursion (HasElements n)) lists → map (map (image (counted 0 n))) lists ≡ lists
  lists_self [] h = refl
  lists_self (facts ∷ lists) h = let first = images_self facts h.0 in let rest = lists_self lists h.1 in cc

  -- a line carries over to a context that has it
  line_self : (to : Context) (number : ℕ) (line : Line) → slice_get to.lines number ≡ Some line → LineIsBelow n line → LineCarries (counted 0 n) to line
  line_self to number (Facts facts) is below = (
    rw (counted_length 0 n) below,
    each_both {R = λ fact. Stands to (image (counted 0 n) fact)}
        (λ fact has among. subst (Stands to) (sym (image_self fact has)) (some_at (LineHas fact) to.lines number (Facts facts) is among)) facts below (each_is_among facts),
  )
  line_self to number (Cases lists) is below =
      (rw (counted_length 0 n) below, inl (number, is ∙ ap (λ (ls : List (List Atom)). Some (Cases ls)) (sym (lists_self lists below))))
  line_self to number Falsum is below = some_at (λ line. line ≡ Falsum) to.lines number Falsum is refl

  -- lines carry over to a context that has them
  lines_self : (to : Context) (before lines : List Line) → to.lines ≡ before ++ lines → AllByRecursion (LineIsBelow n) lines
      → AllByRecursion (LineCarries (counted 0 n) to) lines
  lines_self to before [] is below = tt
  lines_self to before (line ∷ lines) is below = (
    line_self to (length before) line (rw is (get_behind before line lines)) below.0,
    lines_self to (before ++ line ∷ []) lines (is ∙ sym (append_assoc before (line ∷ []) lines)) below.1,
  )

  -- elements below a bound are read as themselves where each stands for itself
  args_self : (args : List ℕ) → AllByRecursion (λ x. x < n) args → map (slice_index (counted 0 n)) args ≡ args
  args_self [] h = refl
  args_self (a ∷ args) h =
      let at : slice_index (counted 0 n) a ≡ a = let r = counted_at 0 n a h.0 in omega arith in
      let rest = args_self args h.1 in cc

-- a context of the task carries over to itself, and each element stands for itself
pub carries_self : (task : Task) (context : Context) → IsContext task context → Carries task (counted 0 context.elements) context context
carries_self task context c =
    let n : ℕ = context.elements in
    let start : task.start ≤ n = c.start in
    record {
      length_is = counted_length 0 n;
      known = counted_below 0 n n (omega arith);
      start_fixed = λ a below. (omega arith, let r = counted_at 0 n a (omega arith) in omega arith);
      lines = lines_self n context [] context.lines refl c.lines;
    }

-- a witnessed step leads to nothing new: the witnesses stand for its new elements
pub witnessed_carries : (constants : ℕ) (task : Task) → IsTask constants task → (context : Context) → IsContext task context
    → (form : Form) (args : List ℕ) → IsWellFormed constants form → IsInstance context form args → (w : Witnessed context form args)
    → Carries task (counted 0 context.elements ++ w.witnesses) (after_mp context form args) context
witnessed_carries constants task right context c form args formed inst w =
    witness_carries constants task right (counted 0 context.elements) context context (carries_self task context c) form args formed inst w.witnesses
    w.known.length_is w.known.known
    (subst (λ (zs : List ℕ). SomeOf (AllByRecursion (λ atom. Stands context (atom_at (zs ++ w.witnesses) atom))) form.disjuncts)
    (sym (args_self context.elements args inst.args_known.known)) w.stand)
