-- What holds of a branch as lines are added, and how it goes back.
use Rattle.std.proofs.Common.{◌≡◌, ℕ, zero, suc, ◌+◌, ◌*◌, ◌<◌, ◌≤◌, ◌^◌, Bool, true, false, if◌then◌else◌, List, [], ◌∷◌, ◌++◌, map, length, take, slice_get, Option, Some, None, position, refl, ap, sym, ◌∙◌, subst, arith, length-append}
use Rattle.std.specs.List.{AllByRecursion}
use Rattle.std.specs.Option.{option_and_then}
use Rattle.text_core.specs.Numbered.{Tables}
use Rattle.text_core.proofs.Laws.{each_map, each_get, each_back, get_behind, value_same}
use Rattle.logic_core.specs.declared.form.Atom.{Atom}
use Rattle.logic_core.specs.declared.form.Form.{Form}
use Rattle.vernacular_tree.specs.Contexts.{parameters, atom_at, start_context, with_facts}
use Rattle.vernacular_tree.specs.declared.context.Line.{Line}
use Rattle.vernacular_tree.specs.declared.context.Line.TheVariants as line
use Rattle.vernacular_tree.specs.declared.context.Context.{Context}
use Rattle.vernacular_tree.specs.declared.tree.Mp.{Mp}
use Rattle.coherent_form.specs.Fitting.{AtomFits, FormFits}
use Rattle.coherent_form.specs.Kept.{IsRight}
use Rattle.coherent_form.specs.Tasks.{CitedTask, proof_task}
use Rattle.fact_store.specs.Facts.{IsNumberOf}
use Rattle.instance_cursor.specs.Facts.{signed_number, elements_at}
use Rattle.proof_text.specs.ScriptOf.{line_by, after_step_of}
use Rattle.proof_text.specs.Showing.{FactFits, LineFits, IsInside}
use Rattle.isar_text.specs.FirstLines.{has_fact}
use Rattle.isar_text.specs.Firsts.{Firsts, no_firsts, AreFirst, LineIsLow, with_line, Grows}
use Rattle.isar_text.specs.KeptBranch.{IsKept, place_of, taken_back}
use Rattle.isar_text.specs.declared.branch.Branch.{Branch}
use Rattle.isar_text.proofs.FirstFacts.{LineIsOfElements, line_first, line_grows, goes_back}

-- the symbol of an atom that fits is low
atom_low : (tables : Tables) (atom : Atom) → AtomFits tables atom → signed_number atom < 2 * (length tables.symbols + 1)
atom_low tables atom h = by atom.positive
  where
    by : (b : Bool) → 2 * atom.symbol + (if b then 0 else 1) < 2 * (length tables.symbols + 1)
    by true = let there = h.there in omega arith
    by false = let there = h.there in omega arith

-- those of atoms that fit are small
pub atoms_low : (task : CitedTask) → IsRight task → (atoms : List Atom) → AllByRecursion (AtomFits task.tables) atoms
    → AllByRecursion (λ (atom : Atom). signed_number atom < 2 ^ 32) atoms
atoms_low task right atoms h =
    each_map (λ atom fits. let low = atom_low task.tables atom fits in let few = right.few_symbols in omega arith) atoms h

-- those of a line inside a proof are low
pub line_low : (task : CitedTask) (context : Context) → IsInside task context → (signed : ℕ) → signed ≡ 2 * (length task.tables.symbols + 1)
    → (lines : List Line) → lines ≡ context.lines → (number : ℕ) (read : Line) → slice_get lines number ≡ Some read → LineIsLow signed read
line_low task context inside signed signed_is lines lines_are number read at =
    subst (λ (n : ℕ). LineIsLow n read) (sym signed_is)
    (by read (each_get (LineFits task.tables) context.lines number read inside.lines (ap (λ (ls : List Line). slice_get ls number) (sym lines_are) ∙ at)))
  where
    by : (l : Line) → LineFits task.tables l → LineIsLow (2 * (length task.tables.symbols + 1)) l
    by (line.Facts facts) h = each_map (λ fact fits. atom_low task.tables fact fits.fits) facts h
    by (line.Cases lists) h = tt
    by line.Falsum h = tt

-- the facts of a line that fits are of elements
of_elements : (tables : Tables) (l : Line) → LineFits tables l → LineIsOfElements l
of_elements tables (line.Facts facts) h = each_map (λ fact fits. fits.elements) facts h
of_elements tables (line.Cases lists) h = tt
of_elements tables line.Falsum h = tt

-- before the first line there is none
pub none_first : (signed : ℕ) → AreFirst [] (no_firsts signed)
none_first signed = record { facts = λ fact of number is. by fact number is; falsum = refl; one_each = refl }
  where
    by : (fact : Atom) (number : Option ℕ) → IsNumberOf (signed_number fact) (elements_at [] fact) [] number
        → position (has_fact fact) [] ≡ option_and_then (slice_get []) number
    by fact None is = refl
    by fact (Some k) is = absurd (cc)

-- a branch with one line more is kept
module _ (task : CitedTask) (lines : List Line) (firsts : Firsts) (first : AreFirst lines firsts) (signed_is : firsts.signed ≡ 2 * (length task.tables.symbols + 1))
    (small : firsts.signed < 2 ^ 32) (after : Branch) (inside : IsInside task after.context) (given read : Line) (number : ℕ)
    (lines_are : after.context.lines ≡ lines ++ given ∷ []) (number_is : number ≡ length lines) (seen : List Line) (seen_is : seen ≡ after.context.lines)
    (at : slice_get seen number ≡ Some read) (firsts_are : after.firsts ≡ with_line number read firsts) where
  read_is : read ≡ given
  read_is = value_same (sym at ∙ (λ i. slice_get ((seen_is ∙ lines_are) i) (number_is i)) ∙ get_behind lines given [])

  firsts_same : after.firsts ≡ with_line number given firsts
  firsts_same = firsts_are ∙ ap (λ (l : Line). with_line number l firsts) read_is

  pub noted_grows : Grows firsts after.firsts
  noted_grows = subst (Grows firsts) (sym firsts_same) (line_grows number given firsts)

  pub noted : IsKept task after
  noted =
      let fits = (each_back (LineFits task.tables) lines (given ∷ []) (subst (AllByRecursion (LineFits task.tables)) lines_are inside.lines)).0 in
      let same : after.firsts.signed ≡ firsts.signed = noted_grows.signed_is in record {
        inside = inside;
        first = subst (λ (f : Firsts). AreFirst after.context.lines f) (sym firsts_same)
            (subst (λ (ls : List Line). AreFirst ls (with_line number given firsts)) (sym lines_are)
            (line_first lines number (sym number_is) given firsts (of_elements task.tables given fits) first));
        signed = same ∙ signed_is;
        small = subst (λ (n : ℕ). n < 2 ^ 32) (sym same) small;
      }

-- a front of the length of the first list is the first list
take_front : {X : Type 0} (xs ys : List X) → take (length xs) (xs ++ ys) ≡ xs
take_front [] ys = refl
take_front (x ∷ xs) ys = ap (λ zs. x ∷ zs) (take_front xs ys)

-- a branch goes back, where its context does
pub back_with : (branch after : Branch) → record { elements = branch.context.elements; lines = take (length branch.context.lines) after.context.lines } ≡ branch.context
    → Grows branch.firsts after.firsts → taken_back (place_of branch) after ≡ branch
back_with branch after context_is grows = let firsts_are = goes_back branch.firsts after.firsts grows in λ i. record { context = context_is i; firsts = firsts_are i }

-- a branch goes back behind a case
pub back_from_case : (branch after : Branch) (facts : List Atom) → after.context ≡ with_facts branch.context facts → Grows branch.firsts after.firsts
    → taken_back (place_of branch) after ≡ branch
back_from_case branch after facts is grows =
    back_with branch after
    (λ i. record {
      elements = branch.context.elements;
      lines = (ap (λ (c : Context). take (length branch.context.lines) c.lines) is ∙ take_front branch.context.lines (line.Facts facts ∷ [])) i;
    })
    grows

-- the bound of the symbols that was read
pub signed_read : (task : CitedTask) (firsts : Firsts) (tables : Tables) (count : ℕ) → tables ≡ task.tables → count ≡ length tables.symbols + 1
    → firsts ≡ no_firsts (2 * count) → firsts.signed ≡ 2 * (length task.tables.symbols + 1)
signed_read task firsts tables count tables_are count_is is =
    ap (λ (f : Firsts). f.signed) is ∙ ap (λ (n : ℕ). 2 * n) (count_is ∙ ap (λ (t : Tables). length t.symbols + 1) tables_are)

-- the branch with which a proof begins
pub start_kept : (task : CitedTask) → IsRight task → (context : Context) → IsInside task context → context ≡ start_context (proof_task task) → (firsts : Firsts)
    (count : ℕ) → firsts ≡ no_firsts (2 * count) → firsts.signed ≡ 2 * (length task.tables.symbols + 1) → (seen : List Line) → seen ≡ context.lines → (read : Line)
    → slice_get seen 0 ≡ Some read → (after : Firsts) → after ≡ with_line 0 read firsts → IsKept task (record { context = context; firsts = after })
start_kept task right context inside is firsts count firsts_are signed_is seen seen_is read at after after_is =
    let few = right.few_symbols in
    let small : firsts.signed < 2 ^ 32 = omega (arith, signed_is) in
    noted task [] firsts (subst (AreFirst []) (sym firsts_are) (none_first (2 * count))) signed_is small (record { context = context; firsts = after }) inside
    (line.Facts (map (atom_at (parameters (proof_task task))) task.goal.premises)) read 0 (ap (λ (c : Context). c.lines) is) refl seen seen_is at after_is

-- a branch behind a step
module _ (task : CitedTask) (before : Branch) (step : Mp) (kept : IsKept task before) (context : Context) (inside : IsInside task context)
    (context_is : context ≡ after_step_of task before.context step) (seen : List Line) (seen_is : seen ≡ context.lines) (number : ℕ)
    (number_is : number ≡ length before.context.lines) (read : Line) (at : slice_get seen number ≡ Some read) (firsts : Firsts)
    (firsts_are : firsts ≡ with_line number read before.firsts) where
  pub step_kept : IsKept task (record { context = context; firsts = firsts })
  step_kept =
      noted task before.context.lines before.firsts kept.first kept.signed kept.small (record { context = context; firsts = firsts }) inside
      (line_by task before.context step) read number (ap (λ (c : Context). c.lines) context_is) number_is seen seen_is at firsts_are

  pub step_grows : Grows before.firsts firsts
  step_grows =
      noted_grows task before.context.lines before.firsts kept.first kept.signed kept.small (record { context = context; firsts = firsts }) inside
      (line_by task before.context step) read number (ap (λ (c : Context). c.lines) context_is) number_is seen seen_is at firsts_are

-- a branch behind the facts of a case
module _ (task : CitedTask) (before : Branch) (facts : List Atom) (kept : IsKept task before) (inside : IsInside task (with_facts before.context facts))
    (lines : List Line) (lines_are : lines ≡ before.context.lines ++ line.Facts facts ∷ []) (seen : List Line) (seen_is : seen ≡ lines) where
  abbrev context : Context
  context = record { elements = before.context.elements; lines = lines }

  context_inside : IsInside task context
  context_inside = subst (IsInside task) (λ i. record { elements = before.context.elements; lines = sym lines_are i }) inside

  pub case_low : (number : ℕ) (read : Line) → slice_get seen number ≡ Some read → LineIsLow before.firsts.signed read
  case_low number read at = line_low task context context_inside before.firsts.signed kept.signed seen seen_is number read at

  module _ (number : ℕ) (number_is : number ≡ length before.context.lines) (read : Line) (at : slice_get seen number ≡ Some read) (firsts : Firsts) where
    pub case_kept : firsts ≡ with_line number read before.firsts → IsKept task (record { context = context; firsts = firsts })
    case_kept is =
        noted task before.context.lines before.firsts kept.first kept.signed kept.small (record { context = context; firsts = firsts }) context_inside
        (line.Facts facts) read number lines_are number_is seen seen_is at is

    pub case_grows : firsts ≡ with_line number read before.firsts → Grows before.firsts firsts
    case_grows is =
        noted_grows task before.context.lines before.firsts kept.first kept.signed kept.small (record { context = context; firsts = firsts }) context_inside
        (line.Facts facts) read number lines_are number_is seen seen_is at is
