-- What is known of a sink at a moment, and what a put makes of it.
use Rattle.std.specs.Prelude.{ℕ, ◌≡◌, ◌≤◌, List, ◌++◌, take, Option, Some, is_some, IfSome}
use Rattle.text_core.specs.Names.{Text}
use Rattle.io_core.specs.Causes.{Rose}

-- what is known of a sink
pub record Stream : Type 0 where
  -- the bytes so far, where they are known
  pub contents : Option (List ℕ)
  -- how many faults of the outside there were
  pub faults : ℕ

-- the new contents are the old bytes and then a prefix of the piece
abbrev pub AppendsPrefix : List ℕ → Option (List ℕ) → Text → Type 0
AppendsPrefix old new piece = (n : ℕ) × (new ≡ Some (old ++ take n piece))

-- the whole piece is appended
pub record Puts (old new : Stream) (piece : Text) : Type 0 where
  pub appended : IfSome old.contents (λ bytes. new.contents ≡ Some (bytes ++ piece))
  pub faults : old.faults ≤ new.faults
  pub told : is_some new.contents ≡ is_some old.contents

-- a put failed, and a prefix of the piece is appended
pub record Breaks (old new : Stream) (piece : Text) : Type 0 where
  pub prefix : IfSome old.contents (λ bytes. AppendsPrefix bytes new.contents piece)
  pub rose : Rose old.faults new.faults
  pub faults : old.faults ≤ new.faults
  pub told : is_some new.contents ≡ is_some old.contents
