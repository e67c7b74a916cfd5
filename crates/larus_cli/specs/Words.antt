-- Which words are which command, and which files they name.
use Rattle.std.specs.Prelude.{ℕ, zero, suc, ◌≡◌, ◌≢◌, if◌then◌else◌, List, [], ◌∷◌, length, Option, Some, None, codes}
use Rattle.std.specs.Fmt.{decimal}
use Rattle.std.specs.Str.{bytes_eq}
use Rattle.text_core.specs.Names.{Text}
use Rattle.proof_text.specs.declared.part.Edition as Edition
use Rattle.proof_text.specs.declared.part.Edition.TheVariants.{First, Second}
use Rattle.problem_suite.specs.declared.made.TheConstants.{MOST_IMPLICATIONS}
use Rattle.model_search.specs.declared.find.TheConstants.{MOST_SOUGHT}
use Rattle.problem_suite.specs.MadeTexts.{made_problem_text, made_proof_text}
use Rattle.larus_cli.specs.declared.command.Command.{Command}
use Rattle.larus_cli.specs.declared.command.Command.TheVariants.{Check, Prove, ExportIsar, ExportEnglish, ConvertProblem, ConvertVernacular, ConvertIsar, ConvertVersion2, Demo, Refute, Confirm}
use Rattle.larus_cli.specs.declared.command.Format.{Format}
use Rattle.larus_cli.specs.declared.command.Format.TheVariants as reads
use Rattle.larus_cli.specs.declared.command.Wanted.{Wanted}
use Rattle.larus_cli.specs.declared.command.Wanted.TheVariants as wants
use Rattle.larus_cli.specs.declared.command.TheConstants.{MOST_STEPS}
use Rattle.larus_cli.specs.Numerals.{number_of}

-- the search for a proof that a bound asks for
abbrev pub search_within : Option ℕ → Option Command
search_within (Some most) = Some (Prove most)
search_within None = None

-- the demonstration that a number of implications asks for; one of none is no command
abbrev pub demo_within : Option ℕ → Option Command
demo_within (Some zero) = None
demo_within (Some (suc k)) = Some (Demo (suc k))
demo_within None = None

-- the search for a countermodel that a number of elements asks for; one for none is no command
abbrev pub refute_within : Option ℕ → Option Command
refute_within (Some zero) = None
refute_within (Some (suc size)) = Some (Refute (suc size))
refute_within None = None

-- the export of a proof that a word asks for
abbrev pub export_of : Text → Option Command
export_of word = if bytes_eq word (codes "isar") then Some ExportIsar else
    (if bytes_eq word (codes "english") then Some ExportEnglish else None)

-- the conversion of a proof that a word asks for
abbrev pub conversion_of : Text → Option Command
conversion_of word = if bytes_eq word (codes "vernacular") then Some ConvertVernacular else
    (if bytes_eq word (codes "isar") then Some ConvertIsar else
    (if bytes_eq word (codes "version2") then Some ConvertVersion2 else None))

-- `check PROBLEM PROOF`, `prove PROBLEM MOST`, `export isar PROBLEM PROOF`,
-- `export english PROBLEM PROOF`, `convert problem PROBLEM`, `convert vernacular PROBLEM PROOF`,
-- `convert isar PROBLEM ISARTEXT`, `convert version2 PROBLEM PROOF`, `demo K`,
-- `refute PROBLEM SIZE` and `confirm PROBLEM MODEL`, with any words for the names, and in decimal
-- MOST, at most `MOST_STEPS`, K, from 1 to `MOST_IMPLICATIONS`, and SIZE, from 1 to `MOST_SOUGHT`;
-- all other lists are no command
abbrev pub command_of : List Text → Option Command
command_of (first ∷ second ∷ []) =
    if bytes_eq first (codes "demo") then demo_within (number_of MOST_IMPLICATIONS second) else None
command_of (first ∷ second ∷ third ∷ []) = if bytes_eq first (codes "check") then Some Check else
    (if bytes_eq first (codes "prove") then search_within (number_of MOST_STEPS third) else
    (if bytes_eq first (codes "convert")
    then (if bytes_eq second (codes "problem") then Some ConvertProblem else None) else
    (if bytes_eq first (codes "refute") then refute_within (number_of MOST_SOUGHT third) else
    (if bytes_eq first (codes "confirm") then Some Confirm else None))))
command_of (first ∷ second ∷ third ∷ fourth ∷ []) =
    if bytes_eq first (codes "export") then export_of second else
    (if bytes_eq first (codes "convert") then conversion_of second else None)
command_of _ = None

abbrev pub check_words : Text → Text → List Text
check_words problem proof = codes "check" ∷ problem ∷ proof ∷ []

abbrev pub prove_words : Text → ℕ → List Text
prove_words problem most = codes "prove" ∷ problem ∷ decimal most ∷ []

-- the words of an export in the form that a word names
abbrev pub export_words : Text → Text → Text → List Text
export_words form problem proof = codes "export" ∷ form ∷ problem ∷ proof ∷ []

-- the words of the conversion of an Isar text
abbrev pub isar_words : Text → Text → List Text
isar_words problem text = codes "convert" ∷ codes "isar" ∷ problem ∷ text ∷ []

abbrev pub convert_words : Text → List Text
convert_words problem = codes "convert" ∷ codes "problem" ∷ problem ∷ []

-- the words of the search for a countermodel with at most so many elements
abbrev pub refute_words : Text → ℕ → List Text
refute_words problem size = codes "refute" ∷ problem ∷ decimal size ∷ []

abbrev pub confirm_words : Text → Text → List Text
confirm_words problem model = codes "confirm" ∷ problem ∷ model ∷ []

-- the word of a version
abbrev pub edition_word : Edition.Edition → Text
edition_word First = codes "vernacular"
edition_word Second = codes "version2"

abbrev pub rewrite_words : Edition.Edition → Text → Text → List Text
rewrite_words edition problem proof =
    codes "convert" ∷ edition_word edition ∷ problem ∷ proof ∷ []

-- what is asked of a problem: its text, a proof within a bound, something of the proof in a second
-- file, which is read in this format, a countermodel with at most so many elements, or whether the
-- structure in a second file is one
pub data Aim : Type 0 where
  to_print : Aim
  to_prove : ℕ → Aim
  to_judge : Wanted → Format → Text → Aim
  to_refute : ℕ → Aim
  to_confirm : Text → Aim

-- the second file, where one is asked for
abbrev pub second_in : Aim → Option Text
second_in to_print = None
second_in (to_prove most) = None
second_in (to_judge wanted format second) = Some second
second_in (to_refute size) = None
second_in (to_confirm second) = Some second

-- what is wanted of the proof in a second file, by the command that names one
abbrev pub wanted_in : Option Command → Option Wanted
wanted_in (Some Check) = Some wants.Size
wanted_in (Some ExportIsar) = Some wants.Isar
wanted_in (Some ExportEnglish) = Some wants.English
wanted_in (Some ConvertVernacular) = Some (wants.Script First)
wanted_in (Some ConvertIsar) = Some (wants.Script First)
wanted_in (Some ConvertVersion2) = Some (wants.Script Second)
wanted_in _ = None

abbrev pub wanted_of : List Text → Option Wanted
wanted_of words = wanted_in (command_of words)

-- how the second file is read, by the command that names one
abbrev pub format_in : Option Command → Format
format_in (Some ConvertIsar) = reads.Isar
format_in _ = reads.Vernacular

abbrev pub format_of : List Text → Format
format_of words = format_in (command_of words)

-- the last two words are the problem's and the second file
abbrev pub judged_names : Option Wanted → Format → List Text → Option (Text × Aim)
judged_names (Some wanted) format (first ∷ problem ∷ second ∷ []) =
    Some (problem, to_judge wanted format second)
judged_names (Some wanted) format (first ∷ form ∷ problem ∷ second ∷ []) =
    Some (problem, to_judge wanted format second)
judged_names _ _ _ = None

-- the names of the two files at which a demonstration looks, and what it wants of the proof
abbrev pub demo_problem : Text
demo_problem = codes "demo.p"

abbrev pub demo_proof : Text
demo_proof = codes "demo.v"

abbrev pub demo_wanted : ℕ → Wanted
demo_wanted k = wants.Demo k (length (made_problem_text k)) (length (made_proof_text k))

-- the problem's file, and what is asked of it
abbrev pub names_in : Option Command → List Text → Option (Text × Aim)
names_in (Some (Prove most)) (first ∷ problem ∷ bound ∷ []) = Some (problem, to_prove most)
names_in (Some ConvertProblem) (first ∷ second ∷ problem ∷ []) = Some (problem, to_print)
names_in (Some (Refute size)) (first ∷ problem ∷ bound ∷ []) = Some (problem, to_refute size)
names_in (Some Confirm) (first ∷ problem ∷ second ∷ []) = Some (problem, to_confirm second)
names_in (Some (Demo k)) words =
    Some (demo_problem, to_judge (demo_wanted k) reads.Vernacular demo_proof)
names_in command words = judged_names (wanted_in command) (format_in command) words

abbrev pub names_of : List Text → Option (Text × Aim)
names_of words = names_in (command_of words) words

-- the words ask this of the problem in this file
abbrev pub Asks : List Text → Text → Aim → Type 0
Asks words problem aim = names_of words ≡ Some (problem, aim)

-- the words are a command on this problem's file
abbrev pub NamesProblem : List Text → Text → Type 0
NamesProblem words problem = (aim : Aim) × Asks words problem aim

-- the words are a command on the task of the problem in this file
abbrev pub NamesTask : List Text → Text → Type 0
NamesTask words problem = (aim : Aim) × Asks words problem aim × (aim ≢ to_print)

-- the words are a command on this problem's file and this second file
abbrev pub NamesSecond : List Text → Text → Text → Type 0
NamesSecond words problem second =
    (aim : Aim) × Asks words problem aim × (second_in aim ≡ Some second)

-- they are one on this problem's file and this second file, which is read as a proof in this format
abbrev pub NamesBoth : List Text → Text → Format → Text → Type 0
NamesBoth words problem format second =
    (wanted : Wanted) × Asks words problem (to_judge wanted format second)
