-- Which words are which command, and what they name.
use Rattle.std.specs.Prelude.{◌≢◌, codes}
use Rattle.std.specs.Fmt.{decimal}
use Rattle.std.specs.Str.{bytes_eq}
use Rattle.std.proofs.Common.{◌≡◌, ◌≤◌, ◌<◌, ℕ, zero, suc, if◌then◌else◌, Bool, true, false, List, [], ◌∷◌, length, get_or, Option, Some, None, refl, sym, ap, subst, ◌∙◌, arith}
use Rattle.text_core.specs.Names.{Text}
use Rattle.model_search.specs.declared.find.TheConstants.{MOST_SOUGHT}
use Rattle.problem_suite.specs.declared.made.TheConstants.{MOST_IMPLICATIONS}
use Rattle.larus_cli.specs.declared.command.Command.{Command}
use Rattle.larus_cli.specs.declared.command.Command.TheVariants.{Check, Prove, ExportIsar, ExportEnglish, ConvertProblem, ConvertVernacular, ConvertIsar, ConvertVersion2, Demo, Refute, Confirm}
use Rattle.larus_cli.specs.declared.command.Format.{Format}
use Rattle.larus_cli.specs.declared.command.Format.TheVariants as formats
use Rattle.larus_cli.specs.declared.command.Wanted.{Wanted}
use Rattle.larus_cli.specs.declared.command.TheConstants.{MOST_STEPS}
use Rattle.larus_cli.specs.Numerals.{number_of}
use Rattle.larus_cli.specs.Words.{command_of, export_of, conversion_of, search_within, demo_within, refute_within, wanted_in, wanted_of, format_in, format_of, judged_names, names_in, to_prove, to_judge, to_refute, Asks}
use Rattle.larus_cli.proofs.Digits.{number_told}

-- the bound of a search
search_told : (bound : Option ℕ) (most : ℕ) → search_within bound ≡ Some (Prove most) → bound ≡ Some most
search_told (Some other) most is = cc
search_told None most is = absurd cc

-- the number of elements of a countermodel that is sought
refute_told_by : (bound : Option ℕ) (size : ℕ) → refute_within bound ≡ Some (Refute size) → (bound ≡ Some size) × (1 ≤ size)
refute_told_by (Some zero) size is = absurd cc
refute_told_by (Some (suc n)) size is = let same : suc n ≡ size = cc in (ap Some same, subst (λ k. 1 ≤ k) same (omega arith))
refute_told_by None size is = absurd cc

-- the search for a countermodel is no other command
refute_searches : (bound : Option ℕ) (most : ℕ) → refute_within bound ≡ Some (Prove most) → ⊥
refute_searches (Some zero) most is = cc
refute_searches (Some (suc n)) most is = cc
refute_searches None most is = cc

refute_demonstrates : (bound : Option ℕ) (k : ℕ) → refute_within bound ≡ Some (Demo k) → ⊥
refute_demonstrates (Some zero) k is = cc
refute_demonstrates (Some (suc n)) k is = cc
refute_demonstrates None k is = cc

-- three words, by their tests
abbrev Three : Text → Bool → Bool → Bool → Bool → Bool → Bool → Option Command
Three third a b c d e f = if a then Some Check else (if b then search_within (number_of MOST_STEPS third) else
    (if c then (if d then Some ConvertProblem else None) else
    (if e then refute_within (number_of MOST_SOUGHT third) else (if f then Some Confirm else None))))

-- three words that are a search tell a bound
three_told : (third : Text) (most : ℕ) (a b c d e f : Bool) → Three third a b c d e f ≡ Some (Prove most) → most ≤ MOST_STEPS
three_told third most true b c d e f told = absurd cc
three_told third most false true c d e f told = (number_told MOST_STEPS third most (search_told (number_of MOST_STEPS third) most told)).1
three_told third most false false true true e f told = absurd cc
three_told third most false false true false e f told = absurd cc
three_told third most false false false d true f told = absurd (refute_searches (number_of MOST_SOUGHT third) most told)
three_told third most false false false d false true told = absurd cc
three_told third most false false false d false false told = absurd cc

-- the search for a countermodel, by its bound
refuting_never : (bound : Option ℕ) (size : ℕ) → search_within bound ≡ Some (Refute size) → ⊥
refuting_never (Some most) size is = cc
refuting_never None size is = cc

-- three words that seek a countermodel tell a number of elements
three_refutes : (third : Text) (size : ℕ) (a b c d e f : Bool) → Three third a b c d e f ≡ Some (Refute size) → (1 ≤ size) × (size ≤ MOST_SOUGHT)
three_refutes third size true b c d e f told = absurd cc
three_refutes third size false true c d e f told = absurd (refuting_never (number_of MOST_STEPS third) size told)
three_refutes third size false false true true e f told = absurd cc
three_refutes third size false false true false e f told = absurd cc
three_refutes third size false false false d true f told =
    let found = refute_told_by (number_of MOST_SOUGHT third) size told in
    (found.1, (number_told MOST_SOUGHT third size found.0).1)
three_refutes third size false false false d false true told = absurd cc
three_refutes third size false false false d false false told = absurd cc

-- what words ask for that are a search
asks_search : (words : List Text) (first second third : Text) (most : ℕ) → words ≡ first ∷ second ∷ third ∷ [] →
    command_of words ≡ Some (Prove most) → Asks words second (to_prove most)
asks_search words first second third most are is =
    subst (λ command. names_in command words ≡ Some (second, to_prove most)) (sym is)
    (subst (λ ws. names_in (Some (Prove most)) ws ≡ Some (second, to_prove most)) (sym are) refl)

-- the words that are a search, where they are three
pub prove_told : (words : List Text) (most : ℕ) (problem : Text) → command_of words ≡ Some (Prove most) → 3 ≤ length words → length words < 4 →
    problem ≡ get_or words 1 problem → Asks words problem (to_prove most) × (most ≤ MOST_STEPS)
prove_told (first ∷ second ∷ third ∷ []) most problem is some few at = (
  subst (λ p. Asks (first ∷ second ∷ third ∷ []) p (to_prove most)) (sym at) (asks_search _ first second third most refl is),
  three_told third most (bytes_eq first (codes "check")) (bytes_eq first (codes "prove")) (bytes_eq first (codes "convert"))
      (bytes_eq second (codes "problem")) (bytes_eq first (codes "refute")) (bytes_eq first (codes "confirm")) is,
)
prove_told [] most problem is some few at = absurd (omega arith)
prove_told (first ∷ []) most problem is some few at = absurd (omega arith)
prove_told (first ∷ second ∷ []) most problem is some few at = absurd (omega arith)
prove_told (first ∷ second ∷ third ∷ fourth ∷ rest) most problem is some few at = absurd (omega arith)

-- what words ask for that seek a countermodel
asks_refuting : (words : List Text) (first second third : Text) (size : ℕ) → words ≡ first ∷ second ∷ third ∷ [] →
    command_of words ≡ Some (Refute size) → Asks words second (to_refute size)
asks_refuting words first second third size are is =
    subst (λ command. names_in command words ≡ Some (second, to_refute size)) (sym is)
    (subst (λ ws. names_in (Some (Refute size)) ws ≡ Some (second, to_refute size)) (sym are) refl)

-- the words that seek a countermodel, where they are three
pub refute_told : (words : List Text) (size : ℕ) (problem : Text) → command_of words ≡ Some (Refute size) → 3 ≤ length words → length words < 4 →
    problem ≡ get_or words 1 problem → Asks words problem (to_refute size) × ((1 ≤ size) × (size ≤ MOST_SOUGHT))
refute_told (first ∷ second ∷ third ∷ []) size problem is some few at = (
  subst (λ p. Asks (first ∷ second ∷ third ∷ []) p (to_refute size)) (sym at) (asks_refuting _ first second third size refl is),
  three_refutes third size (bytes_eq first (codes "check")) (bytes_eq first (codes "prove")) (bytes_eq first (codes "convert"))
      (bytes_eq second (codes "problem")) (bytes_eq first (codes "refute")) (bytes_eq first (codes "confirm")) is,
)
refute_told [] size problem is some few at = absurd (omega arith)
refute_told (first ∷ []) size problem is some few at = absurd (omega arith)
refute_told (first ∷ second ∷ []) size problem is some few at = absurd (omega arith)
refute_told (first ∷ second ∷ third ∷ fourth ∷ rest) size problem is some few at = absurd (omega arith)

-- words that want something of a proof name the files by their last two
asks_wanted : (command : Option Command) (wanted : Wanted) (words : List Text) → wanted_in command ≡ Some wanted →
    names_in command words ≡ judged_names (Some wanted) (format_in command) words
asks_wanted (Some Check) wanted words is = ap (λ w. judged_names w formats.Vernacular words) is
asks_wanted (Some ExportIsar) wanted words is = ap (λ w. judged_names w formats.Vernacular words) is
asks_wanted (Some ExportEnglish) wanted words is = ap (λ w. judged_names w formats.Vernacular words) is
asks_wanted (Some ConvertVernacular) wanted words is = ap (λ w. judged_names w formats.Vernacular words) is
asks_wanted (Some ConvertIsar) wanted words is = ap (λ w. judged_names w formats.Isar words) is
asks_wanted (Some ConvertVersion2) wanted words is = ap (λ w. judged_names w formats.Vernacular words) is
asks_wanted (Some (Prove most)) wanted words is = absurd cc
asks_wanted (Some ConvertProblem) wanted words is = absurd cc
asks_wanted (Some (Demo k)) wanted words is = absurd cc
asks_wanted (Some (Refute size)) wanted words is = absurd cc
asks_wanted (Some Confirm) wanted words is = absurd cc
asks_wanted None wanted words is = absurd cc

-- three such words
pub wanted_three : (words : List Text) (wanted : Wanted) (format : Format) (problem second : Text) → wanted_of words ≡ Some wanted →
    format_of words ≡ format → 3 ≤ length words →
    length words < 4 → problem ≡ get_or words 1 problem → second ≡ get_or words 2 second →
    Asks words problem (to_judge wanted format second)
wanted_three (first ∷ b ∷ c ∷ []) wanted format problem second is reads some few at also =
    asks_wanted (command_of (first ∷ b ∷ c ∷ [])) wanted (first ∷ b ∷ c ∷ []) is ∙
    (λ i. Some (sym at i, to_judge wanted (reads i) (sym also i)))
wanted_three [] wanted format problem second is reads some few at also = absurd (omega arith)
wanted_three (first ∷ []) wanted format problem second is reads some few at also = absurd (omega arith)
wanted_three (first ∷ b ∷ []) wanted format problem second is reads some few at also = absurd (omega arith)
wanted_three (first ∷ b ∷ c ∷ d ∷ rest) wanted format problem second is reads some few at also = absurd (omega arith)

-- four such words
pub wanted_four : (words : List Text) (wanted : Wanted) (format : Format) (problem second : Text) → wanted_of words ≡ Some wanted →
    format_of words ≡ format → 4 ≤ length words →
    length words < 5 → problem ≡ get_or words 2 problem → second ≡ get_or words 3 second →
    Asks words problem (to_judge wanted format second)
wanted_four (first ∷ b ∷ c ∷ d ∷ []) wanted format problem second is reads some few at also =
    asks_wanted (command_of (first ∷ b ∷ c ∷ d ∷ [])) wanted (first ∷ b ∷ c ∷ d ∷ []) is ∙
    (λ i. Some (sym at i, to_judge wanted (reads i) (sym also i)))
wanted_four [] wanted format problem second is reads some few at also = absurd (omega arith)
wanted_four (first ∷ []) wanted format problem second is reads some few at also = absurd (omega arith)
wanted_four (first ∷ b ∷ []) wanted format problem second is reads some few at also = absurd (omega arith)
wanted_four (first ∷ b ∷ c ∷ []) wanted format problem second is reads some few at also = absurd (omega arith)
wanted_four (first ∷ b ∷ c ∷ d ∷ e ∷ rest) wanted format problem second is reads some few at also = absurd (omega arith)

-- two words want nothing of a proof
two_want : (b : Bool) (bound : Option ℕ) (wanted : Wanted) → wanted_in (if b then demo_within bound else None) ≡ Some wanted → ⊥
two_want true (Some zero) wanted is = cc
two_want true (Some (suc k)) wanted is = cc
two_want true None wanted is = cc
two_want false bound wanted is = cc

-- no other words want something of a proof
pub wanted_none : (words : List Text) (wanted : Wanted) → wanted_of words ≡ Some wanted → length words ≢ 3 → length words ≢ 4 → ⊥
wanted_none [] wanted is three four = cc
wanted_none (first ∷ []) wanted is three four = cc
wanted_none (first ∷ second ∷ []) wanted is three four = two_want (bytes_eq first (codes "demo")) (number_of MOST_IMPLICATIONS second) wanted is
wanted_none (first ∷ b ∷ c ∷ []) wanted is three four = three refl
wanted_none (first ∷ b ∷ c ∷ d ∷ []) wanted is three four = four refl
wanted_none (first ∷ b ∷ c ∷ d ∷ e ∷ rest) wanted is three four = cc

-- a demonstration of one implication or more
pub demo_some : (k : ℕ) → k ≢ 0 → demo_within (Some k) ≡ Some (Demo k)
demo_some zero some = absurd (some refl)
demo_some (suc k) some = refl

-- the number of implications of a demonstration
demo_told_by : (bound : Option ℕ) (k : ℕ) → demo_within bound ≡ Some (Demo k) → (bound ≡ Some k) × (1 ≤ k)
demo_told_by (Some zero) k is = absurd cc
demo_told_by (Some (suc j)) k is = let same : suc j ≡ k = cc in (ap Some same, subst (λ n. 1 ≤ n) same (omega arith))
demo_told_by None k is = absurd cc

-- two words that are a demonstration
two_told : (b : Bool) (second : Text) (k : ℕ) → (if b then demo_within (number_of MOST_IMPLICATIONS second) else None) ≡ Some (Demo k) →
    (1 ≤ k) × (k ≤ MOST_IMPLICATIONS)
two_told true second k is =
    let found = demo_told_by (number_of MOST_IMPLICATIONS second) k is in
    (found.1, (number_told MOST_IMPLICATIONS second k found.0).1)
two_told false second k is = absurd cc

-- three words are no demonstration
three_never : (third : Text) (k : ℕ) (bound : Option ℕ) (a b c d e f : Bool) → number_of MOST_STEPS third ≡ bound →
    Three third a b c d e f ≡ Some (Demo k) → ⊥
three_never third k bound true b c d e f same told = cc
three_never third k (Some most) false true c d e f same told = let never = rw same at told in cc
three_never third k None false true c d e f same told = let never = rw same at told in cc
three_never third k bound false false true true e f same told = cc
three_never third k bound false false true false e f same told = cc
three_never third k bound false false false d true f same told = refute_demonstrates (number_of MOST_SOUGHT third) k told
three_never third k bound false false false d false true same told = cc
three_never third k bound false false false d false false same told = cc

-- no conversion of a proof is a demonstration
conversion_never : (k : ℕ) (a b c : Bool) → (if a then Some ConvertVernacular else
    (if b then Some ConvertIsar else (if c then Some ConvertVersion2 else None))) ≡ Some (Demo k) → ⊥
conversion_never k true b c is = cc
conversion_never k false true c is = cc
conversion_never k false false true is = cc
conversion_never k false false false is = cc

-- no export of a proof is a demonstration
export_never : (k : ℕ) (a b : Bool) → (if a then Some ExportIsar else (if b then Some ExportEnglish else None)) ≡ Some (Demo k) → ⊥
export_never k true b is = cc
export_never k false true is = cc
export_never k false false is = cc

-- four words are no demonstration
four_never : (k : ℕ) (second : Text) (a b : Bool) →
    (if a then export_of second else (if b then conversion_of second else None)) ≡ Some (Demo k) → ⊥
four_never k second true b is =
    export_never k (bytes_eq second (codes "isar")) (bytes_eq second (codes "english")) is
four_never k second false true is =
    conversion_never k (bytes_eq second (codes "vernacular")) (bytes_eq second (codes "isar")) (bytes_eq second (codes "version2")) is
four_never k second false false is = cc

-- a demonstration has one implication or more, and not too many
pub demo_told : (words : List Text) (k : ℕ) → command_of words ≡ Some (Demo k) → (1 ≤ k) × (k ≤ MOST_IMPLICATIONS)
demo_told [] k is = absurd cc
demo_told (first ∷ []) k is = absurd cc
demo_told (first ∷ second ∷ []) k is = two_told (bytes_eq first (codes "demo")) second k is
demo_told (first ∷ second ∷ third ∷ []) k is =
    absurd (three_never third k (number_of MOST_STEPS third) (bytes_eq first (codes "check")) (bytes_eq first (codes "prove"))
    (bytes_eq first (codes "convert")) (bytes_eq second (codes "problem")) (bytes_eq first (codes "refute"))
    (bytes_eq first (codes "confirm")) refl is)
demo_told (first ∷ second ∷ third ∷ fourth ∷ []) k is =
    absurd (four_never k second (bytes_eq first (codes "export")) (bytes_eq first (codes "convert")) is)
demo_told (first ∷ second ∷ third ∷ fourth ∷ fifth ∷ rest) k is = absurd cc
