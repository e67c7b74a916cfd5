-- What a search needs is there after a step, in a case, and for fewer rule applications.
use Rattle.std.proofs.Common.{◌≡◌, ℕ, zero, suc, ◌+◌, ◌-◌, ◌*◌, ◌^◌, ◌<◌, ◌≤◌, List, [], ◌∷◌, ◌++◌, map, length, slice_get, Some, refl, sym, ap, ◌∙◌, subst, arith, length-append}
use Rattle.std.proofs.Math.ListN.{set}
use Rattle.std.proofs.lemmas.List.{length-map}
use Rattle.std.proofs.lemmas.Option.{slice_get_within}
use Rattle.std.specs.List.{AllByRecursion}
use Rattle.logic_core.specs.declared.form.Atom.{Atom}
use Rattle.logic_core.specs.declared.form.Form.{Form}
use Rattle.vernacular_tree.specs.Contexts.{with_facts, after_mp, line_of, atom_at, counted}
use Rattle.vernacular_tree.specs.declared.context.Context.{Context}
use Rattle.vernacular_tree.specs.declared.context.Line.{Line}
use Rattle.vernacular_tree.specs.declared.context.Line.TheVariants.{Facts, Cases}
use Rattle.coherent_form.specs.Tasks.{CitedTask, start_elements}
use Rattle.instance_cursor.specs.Cursors.{Place}
use Rattle.kept_context.specs.Kept.{Kept, Represents, HasRoom, Grows, point_of, without_facts, line_seen}
use Rattle.kept_context.specs.declared.kept.Point.{Point}
use Rattle.trail_search.specs.Recorded.{Recorded}
use Rattle.trail_search.specs.Searches.{IsReady, IsWide, HasCursors, CanNote}
use Rattle.trail_search.proofs.Rooms.{room_less}

-- ready for fewer rule applications
pub ready_less : (task : CitedTask) (answers : List Form) (lent : Context) (more less : ℕ) (kept : Kept) → less ≤ more
    → IsReady task answers lent more kept → IsReady task answers lent less kept
ready_less task answers lent more less kept le ready =
    let few = ready.few_lines in record {
      task_is = ready.task_is;
      answers_are = ready.answers_are;
      lent_is = ready.lent_is;
      context = ready.context;
      represents = ready.represents;
      start = ready.start;
      room = room_less task kept more less le ready.room;
      few_lines = omega arith;
      few_answers = ready.few_answers;
    }

-- the lines of a context are those of the one that was lent and those that are kept
pub lines_count : (task : CitedTask) (lent : Context) (kept : Kept) (context : Context) → Represents task lent kept context
    → length context.lines ≡ length lent.lines + length kept.lines
lines_count task lent kept context r =
    sym (length-map context.lines without_facts) ∙ ap length r.lines_are
    ∙ length-append (map without_facts lent.lines) (map (line_seen task kept.values) kept.lines)
    ∙ (let a = length-map lent.lines without_facts in let b = length-map kept.lines (line_seen task kept.values) in omega arith)

-- one more line
lines_next : (lines : List Line) (line : Line) → length (lines ++ line ∷ []) ≡ length lines + 1
lines_next lines line = let both = length-append lines (line ∷ []) in omega arith

-- ready after one more line, in a context with no fewer elements
ready_next : (task : CitedTask) (answers : List Form) (lent : Context) (left : ℕ) (old new : Kept) (context next : Context) (line : Line)
    → IsReady task answers lent (left + 1) old → Represents task lent old context → Represents task lent new next → HasRoom task left new
    → next.lines ≡ context.lines ++ line ∷ [] → context.elements ≤ next.elements → IsReady task answers lent left new
ready_next task answers lent left old new context next line ready was represents room longer grown =
    let before = lines_count task lent old context was in
    let after = lines_count task lent new next represents in
    let one = ap length longer ∙ lines_next context.lines line in
    let few = ready.few_lines in
    let start = ready.start in
    let old_elements = was.elements_are in
    let new_elements = represents.elements_are in record {
      task_is = ready.task_is;
      answers_are = ready.answers_are;
      lent_is = ready.lent_is;
      context = next;
      represents = represents;
      start = omega arith;
      room = room;
      few_lines = omega arith;
      few_answers = ready.few_answers;
    }

-- ready after a step
pub ready_step : (task : CitedTask) (answers : List Form) (lent : Context) (left : ℕ) (old new : Kept) (form : Form) (args : List ℕ)
    (ready : IsReady task answers lent (left + 1) old) → Represents task lent new (after_mp ready.context form args) → HasRoom task left new → IsReady task answers lent left new
ready_step task answers lent left old new form args ready represents room =
    ready_next task answers lent left old new ready.context (after_mp ready.context form args)
    (line_of (map (map (atom_at (args ++ counted ready.context.elements form.existentials))) form.disjuncts)) ready ready.represents represents room refl (omega arith)

-- ready in a case
pub ready_case : (task : CitedTask) (answers : List Form) (lent : Context) (left : ℕ) (old new : Kept) (facts : List Atom)
    (ready : IsReady task answers lent (left + 1) old) → Represents task lent new (with_facts ready.context facts) → HasRoom task left new → IsReady task answers lent left new
ready_case task answers lent left old new facts ready represents room =
    ready_next task answers lent left old new ready.context (with_facts ready.context facts) (Facts facts) ready ready.represents represents room refl (omega arith)

-- cursors for fewer rule applications
pub cursors_less : (more less : ℕ) (cursors : List Place) → less ≤ more → HasCursors more cursors → HasCursors less cursors
cursors_less more less cursors le h = let enough = h.enough in record { enough = omega arith; wide = h.wide }

-- the same number of cursors, as wide
pub cursors_again : (count some : ℕ) (old new : List Place) → length new ≡ length old → HasCursors count old → HasCursors some new → HasCursors count new
cursors_again count some old new same was is = let enough = was.enough in record { enough = omega arith; wide = is.wide }

-- another cursor in the first place, as wide
pub cursors_set : (count : ℕ) (cursors : List Place) (cursor : Place) → HasCursors count cursors → IsWide cursor → HasCursors count (set cursors 0 cursor)
cursors_set count [] cursor h wide = h
cursors_set count (first ∷ cursors) cursor h wide = record { enough = h.enough; wide = (wide, h.wide.1) }

-- an item with a number below the length
pub item_there : {X : Type 0} (xs : List X) (i : ℕ) → i < length xs → (x : X) × (slice_get xs i ≡ Some x)
item_there [] i h = absurd (omega arith)
item_there (x ∷ xs) zero h = (x, refl)
item_there (x ∷ xs) (suc i) h = item_there xs i (omega arith)

-- a line of cases with at least so many lists, in each context that is represented
abbrev pub HasCases : CitedTask → Context → Kept → ℕ → ℕ → Type 0
HasCases task lent kept line count = (context : Context) → Represents task lent kept context
    → (lists : List (List Atom)) × (slice_get context.lines line ≡ Some (Cases lists)) × (count ≤ length lists)

-- ready in the last one of so many cases
pub ready_last : (task : CitedTask) (answers : List Form) (lent : Context) (line count left : ℕ) (old new : Kept)
    → IsReady task answers lent (left + 1) old → HasCases task lent old line count → (count ≡ 0 → ⊥)
    → ((context : Context) (lists : List (List Atom)) (facts : List Atom) → Represents task lent old context → slice_get context.lines line ≡ Some (Cases lists)
    → slice_get lists (count - 1) ≡ Some facts → Represents task lent new (with_facts context facts))
    → HasRoom task left new → IsReady task answers lent (left - (count - 1)) new
ready_last task answers lent line count left old new ready there some enters room =
    let cases = there ready.context ready.represents in
    let long = cases.2 in
    let last = item_there cases.0 (count - 1) (above count some long) in
    ready_less task answers lent left (left - (count - 1)) new (omega arith)
    (ready_case task answers lent left old new last.0 ready (enters ready.context cases.0 last.0 ready.represents cases.1 last.1) room)
  where
    above : {most : ℕ} (count : ℕ) → (count ≡ 0 → ⊥) → count ≤ most → count - 1 < most
    above zero some le = absurd (some refl)
    above (suc count) some le = omega arith

-- the number of a line of what is represented is small
pub line_small : (task : CitedTask) (answers : List Form) (lent : Context) (more lines line : ℕ) (kept : Kept) → IsReady task answers lent more kept
    → ((context : Context) → Represents task lent kept context → lines ≡ length context.lines) → line < lines → line < 2 ^ 32
line_small task answers lent more lines line kept ready count below =
    let all = count ready.context ready.represents in
    let sum = lines_count task lent kept ready.context ready.represents in
    let few = ready.few_lines in omega arith

-- a line of a context is one of so many
pub line_within : (context : Context) (line lines : ℕ) (value : Line) → slice_get context.lines line ≡ Some value → lines ≡ length context.lines → line < lines
line_within context line lines value is count = let below = slice_get_within context.lines line value is in omega arith

-- what is kept after going back from where it grew out of that point
pub back_same : (old entered searched now : Kept) (point : Point) → point ≡ point_of old → Grows old entered → searched ≡ entered
    → ((before : Kept) → point_of before ≡ point → Grows before searched → now ≡ before) → now ≡ old
back_same old entered searched now point is grows same back = back old (sym is) (subst (Grows old) (sym same) grows)

-- what is represented is represented where what is kept is the same
pub represents_same : (task : CitedTask) (lent : Context) (old now : Kept) (context : Context) → now ≡ old → Represents task lent old context → Represents task lent now context
represents_same task lent old now context same r = subst (λ (k : Kept). Represents task lent k context) (sym same) r

-- the same line has one case fewer
pub fewer_cases : (task : CitedTask) (lent : Context) (old now : Kept) (line count : ℕ) → now ≡ old → HasCases task lent old line count → HasCases task lent now line (count - 1)
fewer_cases task lent old now line count same there context r =
    let cases = there context (subst (λ (k : Kept). Represents task lent k context) same r) in
    let long = cases.2 in (cases.0, cases.1, omega arith)
