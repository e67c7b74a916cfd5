-- The files at which the words look: those that the program has, or for a demonstration its own.
use Rattle.std.specs.Prelude.{ℕ, List, [], Option, Some, None}
use Rattle.std.specs.FinMap as finite
use Rattle.text_core.specs.Names.{Text}
use Rattle.io_core.specs.Held.{Held}
use Rattle.io_core.specs.Known.{Known}
use Rattle.problem_suite.specs.MadeTexts.{made_problem_text, made_proof_text}
use Rattle.larus_cli.specs.declared.command.Command.{Command}
use Rattle.larus_cli.specs.declared.command.Command.TheVariants.{Demo}
use Rattle.larus_cli.specs.Words.{command_of, demo_problem, demo_proof}

-- a problem and a proof under the names of a demonstration, and nothing else
abbrev pub two_held : Text → Text → Held
two_held problem proof =
    finite.insert (finite.insert finite.empty demo_problem problem) demo_proof proof

-- files that hold them; no fetch of theirs ever fails
abbrev pub two_files : Text → Text → Known
two_files problem proof =
    record { held = Some (two_held problem proof); blamed = Some []; faults = 0; given = 0 }

-- the made problem with so many implications and its made proof
abbrev pub made_files : ℕ → Known
made_files k = two_files (made_problem_text k) (made_proof_text k)

-- the files at which a command looks, where the program has these
abbrev pub looked_in : Option Command → Known → Known
looked_in (Some (Demo k)) files = made_files k
looked_in command files = files

abbrev pub looked_at : List Text → Known → Known
looked_at words files = looked_in (command_of words) files

-- the words ask for no file of the program: they are no command, or a demonstration
abbrev pub FilesUnasked : Option Command → Type 0
FilesUnasked None = Unit {0}
FilesUnasked (Some (Demo k)) = Unit {0}
FilesUnasked _ = ⊥

abbrev pub AsksNoFile : List Text → Type 0
AsksNoFile words = FilesUnasked (command_of words)
