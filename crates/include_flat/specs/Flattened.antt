-- What decides a walk, and the problem that it gives where nothing does.
use Rattle.std.specs.Prelude.{ℕ, ◌+◌, ◌≡◌, nat_lt, nat_le, List, [], ◌∷◌, Option, Some, None, if◌then◌else◌}
use Rattle.text_core.specs.declared.limits.TheConstants.{MOST_FILES, MOST_FORMULAS, MOST_PROBLEM_BYTES}
use Rattle.text_core.specs.Names.{Text}
use Rattle.logic_core.specs.declared.problem.Fof.{Fof}
use Rattle.io_core.specs.Held.{Held}
use Rattle.include_flat.specs.declared.refusal.FlatWhy.{FlatWhy}
use Rattle.include_flat.specs.declared.refusal.FlatWhy.TheVariants.{AllTooLong, TooManyFormulas}
use Rattle.include_flat.specs.Walks.{Entry, WalksFile}
use Rattle.include_flat.specs.Walks.Entry.{fetched, kept, missing, stop}

-- what decides a walk: a file that the files do not hold, or a refusal of a file
pub data Decision : Type 0 where
  is_missing : Text → Decision
  is_refused : Text → FlatWhy → Decision

-- the first entry that decides, after so many bytes and so many kept formulas
abbrev pub decision_after : ℕ → ℕ → List Entry → Option Decision
decision_after bytes formulas [] = None
decision_after bytes formulas (missing file ∷ entries) = Some (is_missing file)
decision_after bytes formulas (stop file why ∷ entries) = Some (is_refused file why)
decision_after bytes formulas (fetched file n ∷ entries) =
    if nat_lt MOST_PROBLEM_BYTES (bytes + n) then Some (is_refused file AllTooLong)
    else decision_after (bytes + n) formulas entries
decision_after bytes formulas (kept file fof ∷ entries) =
    if nat_le MOST_FORMULAS formulas then Some (is_refused file TooManyFormulas)
    else decision_after bytes (formulas + 1) entries

abbrev pub decision : List Entry → Option Decision
decision entries = decision_after 0 0 entries

-- the formulas that are kept
abbrev pub kept_of : List Entry → List Fof
kept_of [] = []
kept_of (kept file fof ∷ entries) = fof ∷ kept_of entries
kept_of (_ ∷ entries) = kept_of entries

-- the walk from a first file on
abbrev pub Walks : Held → Text → List Entry → Type 0
Walks held name entries = WalksFile held MOST_FILES [] name entries

-- nothing decides the walk, and these are its formulas
abbrev pub IsFlat : Held → Text → List Fof → Type 0
IsFlat held name problem = (entries : List Entry) × Walks held name entries ×
    (decision entries ≡ None) × (problem ≡ kept_of entries)
