-- What is known of files at a moment.
use Rattle.std.specs.Prelude.{ℕ, Option}
use Rattle.text_core.specs.Names.{Text}
use Rattle.io_core.specs.Held.{Held}

pub record Known : Type 0 where
  -- the bytes of each name, where they are known
  pub held : Option Held
  -- the name of the last fetch that failed; it is told exactly where what is held is
  pub blamed : Option Text
  -- how many faults of the outside there were
  pub faults : ℕ
  -- how many bytes the outside handed over
  pub given : ℕ
