-- What a proof shows is named by texts of names.
use Rattle.std.specs.Prelude.{◌≡◌, ℕ, zero, suc, ◌+◌, ◌/◌, ◌%◌, ◌<◌, ◌≤◌, ◌==◌, nat_lt, Bool, true, false, cond, List, [], ◌∷◌, ◌++◌, map, length, slice_get}
use Rattle.std.specs.Option.{option_map}
use Rattle.std.specs.Fmt.{decimal, digits, digits_onto, digit_glyph}
use Rattle.std.specs.List.{AllByRecursion}
use Rattle.std.proofs.Common.{subst, arith}
use Rattle.std.proofs.lemmas.Bool.{cond_both, ltb-true}
use Rattle.text_core.specs.Names.{Text}
use Rattle.text_core.specs.NameTexts.{IsPrintable, IsNameText}
use Rattle.text_core.specs.Numbered.{Symbol, Tables, text_or_empty}
use Rattle.logic_core.specs.declared.form.Slot.{Slot}
use Rattle.logic_core.specs.declared.form.Slot.TheVariants.{Variable, Constant}
use Rattle.logic_core.specs.declared.form.Atom.{Atom}
use Rattle.vernacular_tree.specs.declared.context.Line as Line
use Rattle.vernacular_tree.specs.declared.context.Line.TheVariants as line
use Rattle.coherent_form.specs.ElementNames.{element_name, letters, most_leading, prefix}
use Rattle.coherent_form.specs.Tasks.{CitedTask}
use Rattle.proof_text.specs.Branches.{predicate_of}
use Rattle.proof_text.specs.Named.{NamesAreNamed, PredicateIsNamed, AtomsAreNamed, LineIsNamed}
use Rattle.proof_text.specs.Printing.{printed, printed_slot, printed_facts, printed_line}
use Rattle.proof_text.specs.Showing.{IsElement, FactFits, LineFits}
use Rattle.isar_text.specs.Named.{TablesAreNamed}

-- a digit is printable
glyph_printable : (d : ℕ) → d < 10 → (32 ≤ digit_glyph false d) × (digit_glyph false d ≤ 126)
glyph_printable d small = by_test (nat_lt d 10)
  where
    by_test : (b : Bool) → (32 ≤ cond b (48 + d) (87 + d)) × (cond b (48 + d) (87 + d) ≤ 126)
    by_test true = (omega arith, omega arith)
    by_test false = (omega arith, omega arith)

-- so are digits in front of printable bytes
digits_printable : (k n : ℕ) (more : Text) → IsPrintable more → IsPrintable (digits_onto k 10 false n more)
digits_printable zero n more h = h
digits_printable (suc k) n more h =
    let small : n % 10 < 10 = omega arith in
    let glyph = glyph_printable (n % 10) small in
    let here : IsPrintable (digit_glyph false (n % 10) ∷ more) = (glyph.0, glyph.1, h) in
    cond_both (n / 10 == 0) (digit_glyph false (n % 10) ∷ more) (digits_onto k 10 false (n / 10) (digit_glyph false (n % 10) ∷ more)) IsPrintable
    (λ last. here) (λ further. digits_printable k (n / 10) (digit_glyph false (n % 10) ∷ more) here)

-- and what is written in decimal
decimal_printable : (n : ℕ) → IsPrintable (decimal n)
unfolding digits
decimal_printable n = digits_printable 64 n [] tt

-- letters in front of printable bytes
letters_printable : (n : ℕ) (more : Text) → IsPrintable more → IsPrintable (letters n ++ more)
letters_printable zero more h = h
letters_printable (suc n) more h = (omega arith, omega arith, letters_printable n more h)

-- a name that begins with letters
letters_named : (n : ℕ) (more : Text) → IsPrintable more → IsNameText (letters (n + 1) ++ more)
letters_named n more h = subst (λ (k : ℕ). IsNameText (letters k ++ more)) (let same : suc n ≡ n + 1 = omega arith in same) (letters_printable (suc n) more h)

-- a name with a number
name_there : (names : List Text) (n : ℕ) → NamesAreNamed names → n < length names → IsNameText (text_or_empty (slice_get names n))
name_there [] n h below = absurd (omega arith)
name_there (name ∷ names) zero h below = h.0
name_there (name ∷ names) (suc n) h below = name_there names n h.1 (omega arith)

-- the printed name of an element is a name
element_named : (constants : List Text) (e : ℕ) → NamesAreNamed constants → IsNameText (element_name constants e)
element_named constants e h =
    cond_both (nat_lt e (length constants)) (text_or_empty (slice_get constants e)) (prefix constants ++ decimal e) IsNameText
    (λ constant. name_there constants e h (ltb-true e (length constants) constant))
    (λ other. letters_named (most_leading constants) (decimal e) (decimal_printable e))

-- the printed names of elements are names
pub elements_named : (task : CitedTask) → TablesAreNamed task.tables → (elements : List ℕ) → NamesAreNamed (map (printed task) elements)
elements_named task named [] = tt
elements_named task named (e ∷ elements) = (element_named task.tables.constants e named.constants, elements_named task named elements)

-- the name of a symbol is a name
predicate_named : (tables : Tables) → TablesAreNamed tables → (symbol : ℕ) → PredicateIsNamed (predicate_of tables symbol)
predicate_named tables named zero = tt
predicate_named tables named (suc n) = there tables.symbols n named.symbols
  where
    there : (symbols : List Symbol) (n : ℕ) → AllByRecursion (λ (s : Symbol). IsNameText s.name) symbols →
        PredicateIsNamed (option_map (λ (s : Symbol). s.name) (slice_get symbols n))
    there [] n h = tt
    there (s ∷ symbols) zero h = h.0
    there (s ∷ symbols) (suc n) h = there symbols n h.1

-- arguments that are elements are shown by names
slots_named : (task : CitedTask) → TablesAreNamed task.tables → (slots : List Slot) → AllByRecursion IsElement slots →
    NamesAreNamed (map (printed_slot task) slots)
slots_named task named [] h = tt
slots_named task named (Variable i ∷ slots) h = absurd h.0
slots_named task named (Constant e ∷ slots) h = (element_named task.tables.constants e named.constants, slots_named task named slots h.1)

-- facts that fit are shown by names
pub facts_named : (task : CitedTask) → TablesAreNamed task.tables → (facts : List Atom) → AllByRecursion (FactFits task.tables) facts →
    AtomsAreNamed (printed_facts task facts)
facts_named task named [] h = tt
facts_named task named (fact ∷ facts) h =
    let fits = h.0 in
    ((predicate_named task.tables named fact.symbol, slots_named task named fact.args fits.elements), facts_named task named facts h.1)

-- lists of facts that fit are
lists_named : (task : CitedTask) → TablesAreNamed task.tables → (lists : List (List Atom)) → AllByRecursion (AllByRecursion (FactFits task.tables)) lists →
    AllByRecursion AtomsAreNamed (map (printed_facts task) lists)
lists_named task named [] h = tt
lists_named task named (facts ∷ lists) h = (facts_named task named facts h.0, lists_named task named lists h.1)

-- a line that fits is shown by names
pub line_named : (task : CitedTask) → TablesAreNamed task.tables → (l : Line.Line) → LineFits task.tables l → LineIsNamed (printed_line task l)
line_named task named (line.Facts facts) h = facts_named task named facts h
line_named task named (line.Cases lists) h = lists_named task named lists h.1
line_named task named line.Falsum h = tt
