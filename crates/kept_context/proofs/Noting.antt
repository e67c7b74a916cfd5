-- What is noted after one more line.
use Rattle.std.proofs.Common.{◌≡◌, ℕ, zero, suc, ◌+◌, ◌*◌, ◌<◌, ◌≤◌, inl, inr, Bool, true, false, if◌then◌else◌, List, [], ◌∷◌, ◌++◌, length, take, map, get_or, slice_get, Some, None, sum_by, refl, ap, sym, ◌∙◌, subst, arith}
use Rattle.std.specs.Bool.{Decides}
use Rattle.std.specs.List.{AllByRecursion}
use Rattle.std.proofs.lemmas.List.{length-map}
use Rattle.std.proofs.lemmas.List.Sums.{sum_by-append, sum_by-cons}
use Rattle.text_core.specs.Lists.{SomeOf}
use Rattle.text_core.specs.Numbered.{Tables}
use Rattle.text_core.specs.declared.limits.TheConstants.{MOST_FORM_ATOMS, MOST_ARGUMENTS}
use Rattle.text_core.proofs.Laws.{each_get, take_next}
use Rattle.logic_core.specs.Forms.{SlotIsBelow}
use Rattle.logic_core.specs.declared.form.Slot.{Slot}
use Rattle.logic_core.specs.declared.form.Slot.TheVariants.{Variable, Constant}
use Rattle.logic_core.specs.declared.form.Atom.{Atom}
use Rattle.logic_core.specs.declared.form.Form.{Form}
use Rattle.fact_store.specs.Facts as store
use Rattle.vernacular_tree.specs.Contexts.{slot_at, atom_at, line_of, LineHas}
use Rattle.vernacular_tree.specs.declared.context.Line as Line
use Rattle.vernacular_tree.specs.declared.context.Line.TheVariants as line
use Rattle.coherent_form.specs.Fitting.{AtomFits, FormFits}
use Rattle.coherent_form.specs.Wide.{AtomIsNarrow}
use Rattle.instance_cursor.specs.Facts.{signed_number}
use Rattle.kept_context.specs.Kept.{fact_of}
use Rattle.kept_context.specs.Lent.{IsFact, AreFacts, IsLine}
use Rattle.kept_context.specs.Noted.{args_of, IsSmall, ListIsSmall, LineIsSmall, Adds, HasAlso, AreNoted, IsNoted}
use Rattle.kept_context.proofs.Lists.{either, decides_so, some_last, last_some, item_read}
use Rattle.kept_context.proofs.Added.{among_told, adds_less}

-- ---- one more line

-- whether some line is falsehood, with one more that is not
falsum_stays : (told : Bool) (lines : List Line.Line) (l : Line.Line) → (l ≡ line.Falsum → ⊥)
    → Decides told (SomeOf (λ l. l ≡ line.Falsum) lines) → Decides told (SomeOf (λ l. l ≡ line.Falsum) (lines ++ l ∷ []))
falsum_stays told lines l other right = decides_so told _ _
    (λ h. last_some (λ l. l ≡ line.Falsum) lines l (inl h))
    (λ h. elim (some_last (λ l. l ≡ line.Falsum) lines l h) [ inl front ↦ front | inr here ↦ absurd (other here) ]) right

-- whether a fact stands, with one more line that has none
facts_stay : (b : Bool) (P : Line.Line → Type 0) (lines : List Line.Line) (l : Line.Line) → (P l → ⊥)
    → Decides b (SomeOf P lines) → Decides b (SomeOf P (lines ++ l ∷ []))
facts_stay b P lines l other told = decides_so b _ _
    (λ h. last_some P lines l (inl h))
    (λ h. elim (some_last P lines l h) [ inl front ↦ front | inr here ↦ absurd (other here) ]) told

-- a line of facts is noted in a store that has them too
pub facts_noted : (elements : List ℕ) (atoms : List Atom) (old new : store.Facts) (told : Bool) → HasAlso elements atoms old new
    → IsNoted (line.Facts (map (atom_at elements) atoms)) old told new told
facts_noted elements atoms old new told also lines noted = record {
  facts_told = λ positive symbol args.
      let fact = fact_of positive symbol args in
      subst (λ b. Decides b (SomeOf (LineHas fact) (lines ++ line.Facts (map (atom_at elements) atoms) ∷ [])))
      (sym (also.stands (signed_number fact) args))
      (decides_so _ _ _ (last_some (LineHas fact) lines (line.Facts (map (atom_at elements) atoms)))
      (some_last (LineHas fact) lines (line.Facts (map (atom_at elements) atoms)))
      (either _ _ _ _ (noted.facts_told positive symbol args) (among_told positive symbol args elements atoms)));
  falsum_told = falsum_stays told lines (line.Facts (map (atom_at elements) atoms)) (λ e. cc) noted.falsum_told;
}

-- a line of cases is noted as it is
pub cases_noted : (lists : List (List Atom)) (old : store.Facts) (told : Bool) → IsNoted (line.Cases lists) old told old told
cases_noted lists old told lines noted = record {
  facts_told = λ positive symbol args. facts_stay _ (LineHas (fact_of positive symbol args)) lines (line.Cases lists) (λ h. h) (noted.facts_told positive symbol args);
  falsum_told = falsum_stays told lines (line.Cases lists) (λ e. cc) noted.falsum_told;
}

-- falsehood is noted where it is told
pub falsum_noted : (old : store.Facts) (told : Bool) → IsNoted line.Falsum old told old true
falsum_noted old told lines noted = record {
  facts_told = λ positive symbol args. facts_stay _ (LineHas (fact_of positive symbol args)) lines line.Falsum (λ h. h) (noted.facts_told positive symbol args);
  falsum_told = ((λ e. last_some (λ l. l ≡ line.Falsum) lines line.Falsum (inr refl)), (λ h. refl));
}

-- the line of two or more lists is noted as it is
pub many_noted : (lists : List (List Atom)) (old : store.Facts) (told : Bool) → 2 ≤ length lists → IsNoted (line_of lists) old told old told
many_noted [] old told many = absurd (omega arith)
many_noted (facts ∷ []) old told many = absurd (omega arith)
many_noted (facts ∷ more ∷ rest) old told many = cases_noted (facts ∷ more ∷ rest) old told

-- a line of a lent context is noted after its facts were added, or as it is, or where falsehood is told
pub lent_facts_noted : (signed : ℕ) (l : Line.Line) (facts : List Atom) (old new : store.Facts) (told : Bool) → l ≡ line.Facts facts → LineIsSmall signed l
    → HasAlso [] facts old new → IsNoted l old told new told
lent_facts_noted signed l facts old new told is small also =
    let fit : ListIsSmall signed facts = subst (LineIsSmall signed) is small in
    subst (λ l. IsNoted l old told new told) (ap line.Facts fit.known ∙ sym is) (facts_noted [] facts old new told also)

pub lent_cases_noted : (l : Line.Line) (lists : List (List Atom)) (old : store.Facts) (told : Bool) → l ≡ line.Cases lists → IsNoted l old told old told
lent_cases_noted l lists old told is = subst (λ l. IsNoted l old told old told) (sym is) (cases_noted lists old told)

pub lent_falsum_noted : (l : Line.Line) (old : store.Facts) (told : Bool) → l ≡ line.Falsum → IsNoted l old told old true
lent_falsum_noted l old told is = subst (λ l. IsNoted l old told old true) (sym is) (falsum_noted old told)

-- the line of a form's lists at elements: of none, of one, and of more
pub none_given : (elements : List ℕ) (lists : List (List Atom)) (old : store.Facts) (told : Bool) → None ≡ slice_get lists 0
    → IsNoted (line_of (map (map (atom_at elements)) lists)) old told old true
none_given elements [] old told none = falsum_noted old told
none_given elements (atoms ∷ lists) old told none = absurd (cc)

pub one_given : (elements : List ℕ) (lists : List (List Atom)) (atoms : List Atom) (old new : store.Facts) (told : Bool) → length lists ≤ 1 → Some atoms ≡ slice_get lists 0
    → HasAlso elements atoms old new → IsNoted (line_of (map (map (atom_at elements)) lists)) old told new told
one_given elements [] atoms old new told one is also = absurd (cc)
one_given elements (first ∷ []) atoms old new told one is also =
    let same : atoms ≡ first = cc in
    subst (λ xs. IsNoted (line.Facts (map (atom_at elements) xs)) old told new told) same (facts_noted elements atoms old new told also)
one_given elements (first ∷ more ∷ rest) atoms old new told one is also = absurd (omega arith)

pub many_given : (elements : List ℕ) (lists : List (List Atom)) (old : store.Facts) (told : Bool) → 2 ≤ length lists
    → IsNoted (line_of (map (map (atom_at elements)) lists)) old told old told
many_given elements lists old told many =
    many_noted (map (map (atom_at elements)) lists) old told (subst (λ n. 2 ≤ n) (sym (length-map lists (map (atom_at elements)))) many)

-- the first lines are noted with one more
pub lines_noted : (lines : List Line.Line) (i : ℕ) (l : Line.Line) (old new : store.Facts) (told after : Bool) → i < length lines → l ≡ get_or lines i l
    → AreNoted old.facts told (take i lines) → IsNoted l old told new after → AreNoted new.facts after (take (i + 1) lines)
lines_noted lines i l old new told after below is noted next =
    subst (AreNoted new.facts after) (sym (take_next lines i l (item_read lines i l below is))) (next (take i lines) noted)

-- ---- lines of a lent context are small

-- a slot that is an element is the same at no elements
slots_same : (count : ℕ) (slots : List Slot) → AllByRecursion (SlotIsBelow 0 count) slots → map (slot_at []) slots ≡ slots
slots_same count [] h = refl
slots_same count (Variable i ∷ slots) h = absurd (let none = h.0 in omega arith)
slots_same count (Constant c ∷ slots) h = ap (λ rest. Constant c ∷ rest) (slots_same count slots h.1)

-- a signed number is small where its symbol is
pub signed_below : (positive : Bool) (symbol count : ℕ) → symbol < count → 2 * symbol + (if positive then 0 else 1) < 2 * count
signed_below true symbol count below = omega arith
signed_below false symbol count below = omega arith

-- an atom that fits and has few arguments is small
pub atom_small : (tables : Tables) (signed : ℕ) (atom : Atom) → signed ≡ 2 * (length tables.symbols + 1) → AtomFits tables atom
    → length atom.args ≤ MOST_ARGUMENTS → IsSmall signed atom
atom_small tables signed atom is fits narrow = record {
  in_range = subst (λ n. signed_number atom < n) (sym is) (signed_below atom.positive atom.symbol (length tables.symbols + 1) fits.there);
  narrow = narrow;
}

-- so are facts
facts_small : (tables : Tables) (elements signed : ℕ) (facts : List Atom) → signed ≡ 2 * (length tables.symbols + 1) → AllByRecursion (IsFact tables elements) facts
    → AllByRecursion (IsSmall signed) facts × (map (atom_at []) facts ≡ facts)
facts_small tables elements signed [] is fit = (tt, refl)
facts_small tables elements signed (fact ∷ facts) is fit =
    let first : IsFact tables elements fact = fit.0 in
    let rest = facts_small tables elements signed facts is fit.1 in
    let same : atom_at [] fact ≡ fact = λ i. record { positive = fact.positive; symbol = fact.symbol; args = slots_same elements fact.args first.elements_known i } in
    ((atom_small tables signed fact is first.fits first.narrow, rest.0), (λ i. same i ∷ rest.1 i))

list_small : (tables : Tables) (elements signed : ℕ) (facts : List Atom) → signed ≡ 2 * (length tables.symbols + 1) → AreFacts tables elements facts → ListIsSmall signed facts
list_small tables elements signed facts is are =
    let both = facts_small tables elements signed facts is are.each in
    record { small = both.0; known = both.1; few = are.few }

lists_small : (tables : Tables) (elements signed : ℕ) (lists : List (List Atom)) → signed ≡ 2 * (length tables.symbols + 1)
    → AllByRecursion (AreFacts tables elements) lists → AllByRecursion (ListIsSmall signed) lists
lists_small tables elements signed [] is are = tt
lists_small tables elements signed (facts ∷ lists) is are = (list_small tables elements signed facts is are.0, lists_small tables elements signed lists is are.1)

line_small : (tables : Tables) (elements signed : ℕ) (l : Line.Line) → signed ≡ 2 * (length tables.symbols + 1) → IsLine tables elements l → LineIsSmall signed l
line_small tables elements signed (line.Facts facts) is are = list_small tables elements signed facts is are
line_small tables elements signed (line.Cases lists) is are = lists_small tables elements signed lists is are.1
line_small tables elements signed line.Falsum is are = tt

-- the lines of a context of the task are small
pub lines_small : (tables : Tables) (elements signed : ℕ) (lines : List Line.Line) → signed ≡ 2 * (length tables.symbols + 1)
    → AllByRecursion (IsLine tables elements) lines → AllByRecursion (LineIsSmall signed) lines
lines_small tables elements signed [] is are = tt
lines_small tables elements signed (l ∷ lines) is are = (line_small tables elements signed l is are.0, lines_small tables elements signed lines is are.1)

-- ---- lists of a form are small

atoms_small : (tables : Tables) (signed : ℕ) (atoms : List Atom) → signed ≡ 2 * (length tables.symbols + 1) → AllByRecursion (AtomFits tables) atoms
    → AllByRecursion AtomIsNarrow atoms → AllByRecursion (IsSmall signed) atoms
atoms_small tables signed [] is fit narrow = tt
atoms_small tables signed (atom ∷ atoms) is fit narrow = (atom_small tables signed atom is fit.0 narrow.0, atoms_small tables signed atoms is fit.1 narrow.1)

disjuncts_small : (tables : Tables) (signed : ℕ) (lists : List (List Atom)) → signed ≡ 2 * (length tables.symbols + 1) → AllByRecursion (AllByRecursion (AtomFits tables)) lists
    → AllByRecursion (AllByRecursion AtomIsNarrow) lists → AllByRecursion (AllByRecursion (IsSmall signed)) lists
disjuncts_small tables signed [] is fit narrow = tt
disjuncts_small tables signed (atoms ∷ lists) is fit narrow = (atoms_small tables signed atoms is fit.0 narrow.0, disjuncts_small tables signed lists is fit.1 narrow.1)

pub form_small : (tables : Tables) (signed : ℕ) (f : Form) → signed ≡ 2 * (length tables.symbols + 1) → FormFits tables f
    → AllByRecursion (AllByRecursion (IsSmall signed)) f.disjuncts
form_small tables signed f is fits = disjuncts_small tables signed f.disjuncts is fits.disjuncts fits.narrow.disjuncts

-- ---- the arguments of small atoms

-- small atoms have few arguments
args_few : (signed : ℕ) (atoms : List Atom) → AllByRecursion (IsSmall signed) atoms → args_of atoms ≤ length atoms * MOST_ARGUMENTS
args_few signed [] small = omega arith
args_few signed (atom ∷ atoms) small =
    let first : IsSmall signed atom = small.0 in
    let narrow = first.narrow in
    let rest = args_few signed atoms small.1 in
    let sum : args_of (atom ∷ atoms) ≡ length atom.args + args_of atoms = sum_by-cons (λ (a : Atom). length a.args) atom atoms in
    omega arith

-- so many that there is room for them
pub args_within : (signed spare : ℕ) (atoms : List Atom) → AllByRecursion (IsSmall signed) atoms → length atoms ≤ MOST_FORM_ATOMS
    → MOST_FORM_ATOMS * MOST_ARGUMENTS ≤ spare → args_of atoms ≤ spare
args_within signed spare atoms small few room = let most = args_few signed atoms small in omega arith

-- what is added of them is within the limits of a form
pub adds_small : (signed : ℕ) (elements : List ℕ) (atoms : List Atom) (old new : store.Facts) → AllByRecursion (IsSmall signed) atoms → length atoms ≤ MOST_FORM_ATOMS
    → HasAlso elements atoms old new → Adds MOST_FORM_ATOMS (MOST_FORM_ATOMS * MOST_ARGUMENTS) old new
adds_small signed elements atoms old new small few also =
    let within : args_of atoms ≤ MOST_FORM_ATOMS * MOST_ARGUMENTS = args_within signed (MOST_FORM_ATOMS * MOST_ARGUMENTS) atoms small few (omega arith) in
    adds_less (length atoms) (args_of atoms) MOST_FORM_ATOMS (MOST_FORM_ATOMS * MOST_ARGUMENTS) old new few within also.adds

-- a list is not longer than all lists
pub list_within : (lists : List (List Atom)) (case : ℕ) (atoms : List Atom) → slice_get lists case ≡ Some atoms → length atoms ≤ sum_by length lists
list_within [] case atoms at = absurd (cc)
list_within (first ∷ lists) zero atoms at =
    let same : length first ≡ length atoms = let is : first ≡ atoms = cc in ap length is in
    let sum : sum_by length (first ∷ lists) ≡ length first + sum_by length lists = sum_by-cons length first lists in
    omega arith
list_within (first ∷ lists) (suc case) atoms at =
    let rest = list_within lists case atoms at in
    let sum : sum_by length (first ∷ lists) ≡ length first + sum_by length lists = sum_by-cons length first lists in
    omega arith

-- the first list of a form is small
pub first_small : (signed : ℕ) (lists : List (List Atom)) (atoms : List Atom) → Some atoms ≡ slice_get lists 0 → AllByRecursion (AllByRecursion (IsSmall signed)) lists
    → sum_by length lists ≤ MOST_FORM_ATOMS → AllByRecursion (IsSmall signed) atoms × (length atoms ≤ MOST_FORM_ATOMS)
first_small signed lists atoms there small few =
    let within = list_within lists 0 atoms (sym there) in
    (each_get (AllByRecursion (IsSmall signed)) lists 0 atoms small (sym there), omega arith)

-- the facts of the first lines and of one more are not more than those of all
pub line_within : (count : Line.Line → ℕ) (lines : List Line.Line) (i : ℕ) (l : Line.Line) → slice_get lines i ≡ Some l
    → sum_by count (take (i + 1) lines) ≡ sum_by count (take i lines) + count l
line_within count lines i l at =
    ap (sum_by count) (take_next lines i l at) ∙ sum_by-append count (take i lines) (l ∷ [])
    ∙ ap (λ n. sum_by count (take i lines) + n) (sum_by-cons count l [] ∙ omega arith)
