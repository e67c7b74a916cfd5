-- How a walk is refused: by the refusal that decides it, by a fetch that failed, or for want of
-- memory.
use Rattle.std.specs.Prelude.{◌≡◌, ◌⊎◌, List, [], ◌∷◌, ◌++◌, Some, None}
use Rattle.text_core.specs.Names.{Text}
use Rattle.io_core.specs.Held.{Held}
use Rattle.tptp_lexer.specs.declared.refusal.LexRefusal.TheVariants as lex
use Rattle.tptp_grammar.specs.declared.refusal.SyntaxRefusal.TheVariants as grammar
use Rattle.include_flat.specs.declared.refusal.FlatWhy.{FlatWhy}
use Rattle.include_flat.specs.declared.refusal.FlatWhy.TheVariants.{Lex, Syntax, FileFault, FileTooLong, Memory}
use Rattle.include_flat.specs.Walks.{Entry}
use Rattle.include_flat.specs.Walks.Entry.{fetched, missing, stop}
use Rattle.include_flat.specs.Flattened.{Decision, Walks, decision, is_refused}

-- this decides the walk from a first file on
abbrev pub IsDecided : Held → Text → Decision → Type 0
IsDecided held name decided = (entries : List Entry) × Walks held name entries ×
    (decision entries ≡ Some decided)

-- the walk is decided by a refusal of this file
abbrev pub IsFlatRefused : Held → Text → Text → FlatWhy → Type 0
IsFlatRefused held name file why = IsDecided held name (is_refused file why)

-- the entry comes from asking for this file
abbrev pub AsksFor : Text → Entry → Type 0
AsksFor file (fetched asked n) = asked ≡ file
AsksFor file (missing asked) = asked ≡ file
AsksFor file (stop asked FileTooLong) = asked ≡ file
AsksFor file entry = ⊥

-- the walk asks for this file, and nothing decides it before
abbrev pub IsAskedFor : Held → Text → Text → Type 0
IsAskedFor held name file = (front : List Entry) × (entry : Entry) × (back : List Entry) ×
    Walks held name (front ++ entry ∷ back) × AsksFor file entry × (decision front ≡ None)

-- a refusal of the files is the one that decides the walk; a fault of a fetch is told of a file
-- that was asked for; want of memory may come anywhere
abbrev pub IsFlatRefusal : Held → Text → Text → FlatWhy → Type 0
IsFlatRefusal held name file Memory = file ≡ []
IsFlatRefusal held name file FileFault = IsAskedFor held name file
IsFlatRefusal held name file why = IsFlatRefused held name file why

-- the outside failed, or memory ran out
abbrev pub IsOutside : FlatWhy → Type 0
IsOutside why = (why ≡ FileFault) ⊎ (why ≡ Memory)

-- want of memory is told as such, and of no file; no refusal holds that of a reader below
abbrev pub TellsMemoryAlone : Text → FlatWhy → Type 0
TellsMemoryAlone file Memory = file ≡ []
TellsMemoryAlone file (Lex lex.Memory) = ⊥
TellsMemoryAlone file (Syntax grammar.Memory) = ⊥
TellsMemoryAlone file why = Unit {0}
