-- How a part of a walk goes on from what was walked before.
use Rattle.std.specs.Prelude.{ℕ, suc, ◌+◌, ◌≡◌, ◌≤◌, ◌⊎◌, List, [], ◌∷◌, ◌++◌, length, Option, Some, None, IfSome}
use Rattle.std.specs.FinMap as finite
use Rattle.text_core.specs.declared.limits.TheConstants.{MOST_FILE_BYTES}
use Rattle.text_core.specs.Names.{Text}
use Rattle.logic_core.specs.declared.problem.Fof.{Fof}
use Rattle.logic_core.specs.declared.problem.Item.{Item}
use Rattle.io_core.specs.Held.{Held}
use Rattle.io_core.specs.Known.{Known}
use Rattle.io_core.specs.Fetched.{Stays}
use Rattle.include_flat.specs.declared.refusal.FlatWhy.{FlatWhy}
use Rattle.include_flat.specs.declared.refusal.FlatWhy.TheVariants.{FileFault, TooManyFormulas, Memory}
use Rattle.include_flat.specs.declared.walked.Walked.{Walked}
use Rattle.include_flat.specs.Walks.{Entry, Selections, WalksFile, WalksItems, is_selected, kept_entries}
use Rattle.include_flat.specs.Walks.Entry.{fetched}
use Rattle.include_flat.specs.Flattened.{Decision, decision_after, is_refused, kept_of}
use Rattle.include_flat.specs.Refusals.{AsksFor, TellsMemoryAlone}
use Rattle.include_flat.specs.Opened.{AreBytesOf, Leaves}

-- how many bytes are fetched
abbrev pub bytes_of : List Entry → ℕ
bytes_of [] = 0
bytes_of (fetched file n ∷ entries) = n + bytes_of entries
bytes_of (_ ∷ entries) = bytes_of entries

-- what decides entries after what was walked before
abbrev pub decided : Walked → List Entry → Option Decision
decided before entries = decision_after before.bytes (length before.problem) entries

-- nothing decides the entries, and with them so much is walked
pub record Passes (before : Walked) (entries : List Entry) (after : Walked) : Type 0 where
  pub undecided : decided before entries ≡ None
  pub bytes : after.bytes ≡ before.bytes + bytes_of entries
  pub problem : after.problem ≡ before.problem ++ kept_of entries

-- a part of a walk asks for a file, and nothing decides it before
abbrev pub AsksAt : (List Entry → Type 0) → Walked → Text → Type 0
AsksAt Part before file = (front : List Entry) × (entry : Entry) × (back : List Entry) ×
    Part (front ++ entry ∷ back) × AsksFor file entry × (decided before front ≡ None)

-- a refusal ends a part of a walk
abbrev pub Refuses : (List Entry → Type 0) → Walked → Text → FlatWhy → Type 0
Refuses Part before file Memory = file ≡ []
Refuses Part before file FileFault = AsksAt Part before file
Refuses Part before file why = (entries : List Entry) × Part entries ×
    (decided before entries ≡ Some (is_refused file why))

-- the entries of a part of a walk, by what is held
abbrev pub over_file : ℕ → Selections → Text → Held → List Entry → Type 0
over_file left selections file held entries = WalksFile held left selections file entries

abbrev pub over_items : ℕ → Selections → Text → List Item → Held → List Entry → Type 0
over_items left selections file items held entries =
    WalksItems held left selections file items entries

-- a part of a walk is passed
pub record PassesPart (Part : List Entry → Type 0) (before after : Walked) : Type 0 where
  pub entries : List Entry
  pub walk : Part entries
  pub passed : Passes before entries after

-- a part of a walk is passed, and what that leaves of the files
pub record PassesOver (Part : Held → List Entry → Type 0) (files later : Known)
    (before after : Walked) : Type 0 where
  pub stays : Stays files later
  pub part : IfSome files.held (λ held. PassesPart (Part held) before after)

-- a refusal ends a part of a walk, and what that leaves of the files
pub record RefusesOver (Part : Held → List Entry → Type 0) (files later : Known)
    (before : Walked) (file : Text) (why : FlatWhy) : Type 0 where
  pub leaves : Leaves files later file why
  pub memory : TellsMemoryAlone file why
  pub ends : IfSome files.held (λ held. Refuses (Part held) before file why)

-- a file is fetched, and its bytes are a text of these items
pub record OpensTo (held : Held) (file : Text) (items : List Item)
    (before after : Walked) : Type 0 where
  pub bytes : Text
  pub held_is : finite.get held file ≡ Some bytes
  pub short : length bytes ≤ MOST_FILE_BYTES
  pub read : AreBytesOf bytes items
  pub passed : Passes before (fetched file (length bytes) ∷ []) after

-- the same, where it is known what is held, and what that leaves of the files
pub record Opens (files later : Known) (file : Text) (items : List Item)
    (before after : Walked) : Type 0 where
  pub stays : Stays files later
  pub opens : IfSome files.held (λ held. OpensTo held file items before after)

-- the file of a refusal: none for want of memory
abbrev pub refused_file : Text → FlatWhy → Text
refused_file file Memory = []
refused_file file why = file

-- a file is refused, wherever in a walk it is
pub record IsRefusedAt (held : Held) (file : Text) (before : Walked) (why : FlatWhy) : Type 0 where
  pub anywhere : (left : ℕ) (selections : Selections) →
      Refuses (WalksFile held (suc left) selections file) before (refused_file file why) why

-- the same, where it is known what is held, and what that leaves of the files
pub record Refused (files later : Known) (file : Text) (before : Walked)
    (why : FlatWhy) : Type 0 where
  pub leaves : Leaves files later file why
  pub memory : TellsMemoryAlone (refused_file file why) why
  pub ends : IfSome files.held (λ held. IsRefusedAt held file before why)

-- a formula is one too many, in whatever file it is
abbrev pub IsTooMany : Walked → Selections → Fof → Type 0
IsTooMany before selections fof =
    (file : Text) →
    decided before (kept_entries file selections fof) ≡ Some (is_refused file TooManyFormulas)

-- a formula is not kept for this reason
abbrev pub IsNotKept : Walked → Selections → Fof → FlatWhy → Type 0
IsNotKept before selections fof why =
    (why ≡ Memory) ⊎ ((why ≡ TooManyFormulas) × IsTooMany before selections fof)

-- the selections of a set of names, if there is one
abbrev pub selections_of : Option (List Text) → Selections
selections_of None = []
selections_of (Some names) = names ∷ []

-- the same names are in every selection
pub record AreAlike (selections others : Selections) : Type 0 where
  pub alike : (name : Text) → is_selected selections name ≡ is_selected others name
