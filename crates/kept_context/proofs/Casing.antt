-- The cases of a line, and what is noted of one.
use Rattle.std.proofs.Common.{◌≡◌, ℕ, zero, suc, ◌+◌, ◌-◌, ◌*◌, ◌≤◌, Bool, List, [], ◌∷◌, ◌++◌, length, map, slice_get, Option, Some, None, refl, ap, sym, ◌∙◌, subst, arith}
use Rattle.std.specs.List.{AllByRecursion}
use Rattle.std.specs.Option.{option_map, option_and_then, IfSome, IfNone}
use Rattle.std.proofs.lemmas.List.{length-map}
use Rattle.std.proofs.lemmas.Option.{slice_get-map, slice_get_past}
use Rattle.text_core.specs.declared.limits.TheConstants.{MOST_FORM_ATOMS}
use Rattle.text_core.proofs.Laws.{each_get, get_front}
use Rattle.logic_core.specs.declared.form.Atom.{Atom}
use Rattle.logic_core.specs.declared.form.Form.{Form}
use Rattle.fact_store.specs.Facts as store
use Rattle.vernacular_tree.specs.Contexts.{atom_at}
use Rattle.vernacular_tree.specs.declared.context.Context.{Context}
use Rattle.vernacular_tree.specs.declared.context.Line as Line
use Rattle.vernacular_tree.specs.declared.context.Line.TheVariants as line
use Rattle.coherent_form.specs.Fitting.{FormFits}
use Rattle.coherent_form.specs.Kept.{IsRight}
use Rattle.coherent_form.specs.Tasks.{CitedTask}
use Rattle.kept_context.specs.Kept.{Kept, lists_at, without_facts, line_seen, Represents}
use Rattle.kept_context.specs.Noted.{IsSmall, ListIsSmall, LineIsSmall, HasAlso, IsNoted}
use Rattle.kept_context.specs.Cased.{case_count, case_of, lines_seen, count_at, case_at, disjunct_at}
use Rattle.kept_context.specs.declared.kept.OwnLine as OwnLine
use Rattle.kept_context.proofs.Noting.{facts_noted, form_small, list_within}

-- ---- items of two lists

-- an item of the image
get_map : {X Y : Type 0} (f : X → Y) (xs : List X) (i : ℕ) (x : X) → slice_get xs i ≡ Some x → slice_get (map f xs) i ≡ Some (f x)
get_map f xs i x at = slice_get-map f xs i ∙ ap (option_map f) at

-- an item past the first list
get_past : {X : Type 0} (xs ys : List X) (i : ℕ) → length xs ≤ i → slice_get (xs ++ ys) i ≡ slice_get ys (i - length xs)
get_past [] ys i past = ap (slice_get ys) (omega arith)
get_past (x ∷ xs) ys zero past = absurd (omega arith)
get_past (x ∷ xs) ys (suc i) past =
    get_past xs ys i (omega arith) ∙ ap (slice_get ys) (let less : i - length xs ≡ suc i - length (x ∷ xs) = omega arith in less)

-- ---- lines by their numbers

module _ (task : CitedTask) (lent : List Line.Line) (values : List ℕ) (lines : List OwnLine.OwnLine) where
  -- a line of the lent context
  pub lent_seen : (number : ℕ) (l : Line.Line) → slice_get lent number ≡ Some l → slice_get (lines_seen task lent values lines) number ≡ Some (without_facts l)
  lent_seen number l at = get_front (map without_facts lent) (map (line_seen task values) lines) number (without_facts l) (get_map without_facts lent number l at)

  -- a number past the lent lines
  past_seen : (number : ℕ) → length lent ≤ number
      → slice_get (lines_seen task lent values lines) number ≡ slice_get (map (line_seen task values) lines) (number - length lent)
  past_seen number past =
      get_past (map without_facts lent) (map (line_seen task values) lines) number (subst (λ n. n ≤ number) (sym (length-map lent without_facts)) past)
      ∙ ap (λ n. slice_get (map (line_seen task values) lines) (number - n)) (length-map lent without_facts)

  -- a line behind them
  pub own_seen : (number : ℕ) (o : OwnLine.OwnLine) → length lent ≤ number → slice_get lines (number - length lent) ≡ Some o
      → slice_get (lines_seen task lent values lines) number ≡ Some (line_seen task values o)
  own_seen number o past at = past_seen number past ∙ get_map (line_seen task values) lines (number - length lent) o at

  -- no line behind them
  pub none_seen : (number : ℕ) → length lent ≤ number → length lines ≤ number - length lent → slice_get (lines_seen task lent values lines) number ≡ None
  none_seen number past none =
      past_seen number past ∙ slice_get_past (map (line_seen task values) lines) (number - length lent) (subst (λ n. n ≤ number - length lent) (sym (length-map lines (line_seen task values))) none)

-- a line's cases are those that are seen
count_without : (l : Line.Line) → case_count (without_facts l) ≡ case_count l
count_without (line.Facts facts) = refl
count_without (line.Cases lists) = refl
count_without line.Falsum = refl

case_without : (l : Line.Line) (case : ℕ) → case_of (without_facts l) case ≡ case_of l case
case_without (line.Facts facts) case = refl
case_without (line.Cases lists) case = refl
case_without line.Falsum case = refl

-- how many cases a line has: one of the lent context, one behind them, and none
pub count_lent : (task : CitedTask) (lent : List Line.Line) (values : List ℕ) (lines : List OwnLine.OwnLine) (number : ℕ) (l : Line.Line)
    → slice_get lent number ≡ Some l → count_at (lines_seen task lent values lines) number ≡ case_count l
count_lent task lent values lines number l at = ap (option_and_then case_count) (lent_seen task lent values lines number l at) ∙ count_without l

pub count_own : (task : CitedTask) (lent : List Line.Line) (values : List ℕ) (lines : List OwnLine.OwnLine) (number : ℕ) (o : OwnLine.OwnLine)
    → length lent ≤ number → slice_get lines (number - length lent) ≡ Some o → count_at (lines_seen task lent values lines) number ≡ case_count (line_seen task values o)
count_own task lent values lines number o past at = ap (option_and_then case_count) (own_seen task lent values lines number o past at)

pub count_none : (task : CitedTask) (lent : List Line.Line) (values : List ℕ) (lines : List OwnLine.OwnLine) (number : ℕ)
    → length lent ≤ number → length lines ≤ number - length lent → count_at (lines_seen task lent values lines) number ≡ None
count_none task lent values lines number past none = ap (option_and_then case_count) (none_seen task lent values lines number past none)

-- a case of a line
pub case_lent : (task : CitedTask) (lent : List Line.Line) (values : List ℕ) (lines : List OwnLine.OwnLine) (number case : ℕ) (l : Line.Line)
    → slice_get lent number ≡ Some l → case_at (lines_seen task lent values lines) number case ≡ case_of l case
case_lent task lent values lines number case l at = ap (option_and_then (λ l. case_of l case)) (lent_seen task lent values lines number l at) ∙ case_without l case

pub case_own : (task : CitedTask) (lent : List Line.Line) (values : List ℕ) (lines : List OwnLine.OwnLine) (number case : ℕ) (o : OwnLine.OwnLine)
    → length lent ≤ number → slice_get lines (number - length lent) ≡ Some o → case_at (lines_seen task lent values lines) number case ≡ case_of (line_seen task values o) case
case_own task lent values lines number case o past at = ap (option_and_then (λ l. case_of l case)) (own_seen task lent values lines number o past at)

-- no case past the lines
pub case_none : (task : CitedTask) (lent : List Line.Line) (values : List ℕ) (lines : List OwnLine.OwnLine) (number case : ℕ)
    → length lent ≤ number → length lines ≤ number - length lent → case_at (lines_seen task lent values lines) number case ≡ None
case_none task lent values lines number case past none = ap (option_and_then (λ l. case_of l case)) (none_seen task lent values lines number past none)

-- ---- what is noted of a case

-- the list of a case of a lent line is small
pub case_small : (signed : ℕ) (l : Line.Line) (case : ℕ) (facts : List Atom) → case_of l case ≡ Some facts → LineIsSmall signed l → ListIsSmall signed facts
case_small signed (line.Facts others) case facts at small = absurd (cc)
case_small signed (line.Cases lists) case facts at small = each_get (ListIsSmall signed) lists case facts small at
case_small signed line.Falsum case facts at small = absurd (cc)

-- such a case is noted after its facts were added
pub lent_case_noted : (signed : ℕ) (l : Line.Line) (case : ℕ) (facts : List Atom) (old new : store.Facts) → case_of l case ≡ Some facts
    → LineIsSmall signed l → HasAlso [] facts old new
    → (others : List Atom) (told : Bool) → case_of l case ≡ Some others → IsNoted (line.Facts others) old told new told
lent_case_noted signed l case facts old new at small also others told seen =
    let fit = case_small signed l case facts at small in
    let same : facts ≡ others = let both : Some facts ≡ Some others = sym at ∙ seen in cc in
    subst (λ (xs : List Atom). IsNoted (line.Facts xs) old told new told) (fit.known ∙ same) (facts_noted [] facts old new told also)

-- a list of a form at elements is a disjunct of it at these
list_seen : (task : CitedTask) (form number : ℕ) (elements : List ℕ) (atoms : List Atom) → disjunct_at task form number ≡ Some atoms
    → slice_get (lists_at (slice_get task.forms form) elements) number ≡ Some (map (atom_at elements) atoms)
list_seen task form number elements atoms at =
    found (slice_get task.forms form) at
  where
    found : (o : Option Form) → option_and_then (λ (f : Form). slice_get f.disjuncts number) o ≡ Some atoms
        → slice_get (lists_at o elements) number ≡ Some (map (atom_at elements) atoms)
    found (Some f) here = get_map (map (atom_at elements)) f.disjuncts number atoms here
    found None here = absurd (cc)

-- there is none where there is no disjunct
pub list_none : (task : CitedTask) (form number : ℕ) (elements : List ℕ) → disjunct_at task form number ≡ None
    → slice_get (lists_at (slice_get task.forms form) elements) number ≡ None
list_none task form number elements at =
    found (slice_get task.forms form) at
  where
    found : (o : Option Form) → option_and_then (λ (f : Form). slice_get f.disjuncts number) o ≡ None → slice_get (lists_at o elements) number ≡ None
    found (Some f) here = slice_get-map (map (atom_at elements)) f.disjuncts number ∙ ap (option_map (map (atom_at elements))) here
    found None here = refl

-- a disjunct of a form of the task is small
pub disjunct_small : (task : CitedTask) (signed form number : ℕ) (atoms : List Atom) → IsRight task → signed ≡ 2 * (length task.tables.symbols + 1)
    → disjunct_at task form number ≡ Some atoms → AllByRecursion (IsSmall signed) atoms × (length atoms ≤ MOST_FORM_ATOMS)
disjunct_small task signed form number atoms right is at =
    found (slice_get task.forms form) refl at
  where
    found : (o : Option Form) → slice_get task.forms form ≡ o → option_and_then (λ (f : Form). slice_get f.disjuncts number) o ≡ Some atoms
        → AllByRecursion (IsSmall signed) atoms × (length atoms ≤ MOST_FORM_ATOMS)
    found (Some f) there here =
        let fits : FormFits task.tables f = each_get (FormFits task.tables) task.forms form f right.forms there in
        let few = fits.narrow.atoms in
        let within = list_within f.disjuncts number atoms here in
        (each_get (AllByRecursion (IsSmall signed)) f.disjuncts number atoms (form_small task.tables signed f is fits) here, omega arith)
    found None there here = absurd (cc)

-- such a disjunct at elements is noted after its atoms were added
pub disjunct_noted : (task : CitedTask) (form number : ℕ) (elements : List ℕ) (atoms : List Atom) (old new : store.Facts) → disjunct_at task form number ≡ Some atoms
    → HasAlso elements atoms old new
    → (facts : List Atom) (told : Bool) → slice_get (lists_at (slice_get task.forms form) elements) number ≡ Some facts → IsNoted (line.Facts facts) old told new told
disjunct_noted task form number elements atoms old new at also facts told seen =
    let same : map (atom_at elements) atoms ≡ facts = let both : Some (map (atom_at elements) atoms) ≡ Some facts = sym (list_seen task form number elements atoms at) ∙ seen in cc in
    subst (λ (xs : List Atom). IsNoted (line.Facts xs) old told new told) same (facts_noted elements atoms old new told also)

-- what is there and is not there
pub none_some : {X : Type 0} {P : Type 0} (o : Option X) (x : X) → o ≡ None → o ≡ Some x → P
none_some o x none some = absurd (let both : None ≡ Some x = sym none ∙ some in cc)

-- ---- cases of the context that is kept

-- a line of cases has as many as its lists
counted_cases : (l : Line.Line) (count : ℕ) → case_count (without_facts l) ≡ Some count → (lists : List (List Atom)) × (l ≡ line.Cases lists) × (length lists ≡ count)
counted_cases (line.Facts facts) count e = absurd (cc)
counted_cases (line.Cases lists) count e = (lists, refl, (cc))
counted_cases line.Falsum count e = absurd (cc)

module _ (task : CitedTask) (lent : Context) (kept : Kept) (number : ℕ) where
  -- a line that is seen to have cases is one of the context
  some_found : (count : ℕ) → Some count ≡ count_at (lines_seen task lent.lines kept.values kept.lines) number
      → (context : Context) → Represents task lent kept context
      → (lists : List (List Atom)) × (slice_get context.lines number ≡ Some (line.Cases lists)) × (length lists ≡ count)
  some_found count told context is =
      found (slice_get context.lines number) refl
    where
      found : (o : Option Line.Line) → slice_get context.lines number ≡ o
          → (lists : List (List Atom)) × (slice_get context.lines number ≡ Some (line.Cases lists)) × (length lists ≡ count)
      found None at =
          let gone : slice_get (map without_facts context.lines) number ≡ None = slice_get-map without_facts context.lines number ∙ ap (option_map without_facts) at in
          let none : Some count ≡ None = told ∙ ap (λ ls. count_at ls number) (sym is.lines_are) ∙ ap (option_and_then case_count) gone in
          absurd (cc)
      found (Some l) at =
          let there : slice_get (map without_facts context.lines) number ≡ Some (without_facts l) = get_map without_facts context.lines number l at in
          let counted : case_count (without_facts l) ≡ Some count
          = sym (ap (option_and_then case_count) there) ∙ ap (λ ls. count_at ls number) is.lines_are ∙ sym told in
          let cases = counted_cases l count counted in
          (cases.0, at ∙ ap Some cases.1, cases.2)

  -- where none is seen, the context has none
  none_found : None ≡ count_at (lines_seen task lent.lines kept.values kept.lines) number
      → (context : Context) (lists : List (List Atom)) → Represents task lent kept context → slice_get context.lines number ≡ Some (line.Cases lists) → ⊥
  none_found told context lists is at =
      let there : slice_get (map without_facts context.lines) number ≡ Some (line.Cases lists) = get_map without_facts context.lines number (line.Cases lists) at in
      let counted : None ≡ Some (length lists)
      = told ∙ ap (λ ls. count_at ls number) (sym is.lines_are) ∙ ap (option_and_then case_count) there in
      cc

  pub cases_some : (told : Option ℕ) → told ≡ count_at (lines_seen task lent.lines kept.values kept.lines) number
      → IfSome told (λ count. (context : Context) → Represents task lent kept context
      → (lists : List (List Atom)) × (slice_get context.lines number ≡ Some (line.Cases lists)) × (length lists ≡ count))
  cases_some None is = tt
  cases_some (Some count) is = some_found count is

  pub cases_none : (told : Option ℕ) → told ≡ count_at (lines_seen task lent.lines kept.values kept.lines) number
      → IfNone told ((context : Context) (lists : List (List Atom)) → Represents task lent kept context → slice_get context.lines number ≡ Some (line.Cases lists) → ⊥)
  cases_none (Some count) is = tt
  cases_none None is = none_found is

  -- a case of the context is seen
  pub case_found : (case : ℕ) (context : Context) (lists : List (List Atom)) (facts : List Atom) → Represents task lent kept context
      → slice_get context.lines number ≡ Some (line.Cases lists) → slice_get lists case ≡ Some facts
      → case_at (lines_seen task lent.lines kept.values kept.lines) number case ≡ Some facts
  case_found case context lists facts is at there =
      ap (λ ls. case_at ls number case) (sym is.lines_are)
      ∙ ap (option_and_then (λ l. case_of l case)) (get_map without_facts context.lines number (line.Cases lists) at) ∙ there
