-- What a fetch makes of what is known of files, and of what it was lent.
use Rattle.std.specs.Prelude.{ℕ, ◌≡◌, ◌≤◌, ◌<◌, List, ◌++◌, length, Some, IfSome, IsSomeAnd}
use Rattle.std.specs.FinMap as finite
use Rattle.text_core.specs.Names.{Text}
use Rattle.io_core.specs.Held.{Held}
use Rattle.io_core.specs.Causes.{Rose, RoseAbove}
use Rattle.io_core.specs.Known.{Known}

-- what is held stays, and no count falls
pub record Grows (old new : Known) : Type 0 where
  pub held : new.held ≡ old.held
  pub faults : old.faults ≤ new.faults
  pub given : old.given ≤ new.given

-- no fetch failed
pub record Stays (old new : Known) : Type 0 where
  pub grows : Grows old new
  pub blamed : new.blamed ≡ old.blamed

-- a fetch of this name failed, and it is the last that did
pub record Fails (old new : Known) (name : Text) : Type 0 where
  pub grows : Grows old new
  pub rose : Rose old.faults new.faults
  pub blamed : IfSome new.blamed (λ blamed. blamed ≡ name)

-- the bytes are at most so many, and where it is known what is held, they are those of this name
pub record Holds (files : Known) (name bytes : Text) (most : ℕ) : Type 0 where
  pub held : IfSome files.held (λ held. finite.get held name ≡ Some bytes)
  pub within : length bytes ≤ most

-- the bytes of this name, at most so many, are appended
pub record Fetches (most : ℕ) (name : Text) (files : Known) (old new : List ℕ) : Type 0 where
  pub bytes : Text
  pub appended : new ≡ old ++ bytes
  pub holds : Holds files name bytes most

-- the name is held, and its bytes are more than this many
abbrev pub IsLong : Held → Text → ℕ → Type 0
IsLong held name most = IsSomeAnd (finite.get held name) (λ bytes. most < length bytes)

-- more than so many bytes were handed over, and where it is known what is held, the name has more
pub record IsTooLong (most : ℕ) (name : Text) (old new : Known) : Type 0 where
  pub given : RoseAbove most old.given new.given
  pub longer : IfSome old.held (λ held. IsLong held name most)
