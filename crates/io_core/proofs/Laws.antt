-- Laws for the crates above: what is known of files from one fetch to the next.
use Rattle.std.proofs.Common.{refl, ◌∙◌, arith}
use Rattle.text_core.specs.Names.{Text}
use Rattle.io_core.specs.Known.{Known}
use Rattle.io_core.specs.Fetched.{Grows, Stays, Fails}

-- with no fetch all stays
pub stays_same : (files : Known) → Stays files files
stays_same files = record { grows = record { held = refl; faults = omega arith; given = omega arith }; blamed = refl }

-- what grows goes on to grow
pub grows_on : {old middle new : Known} → Grows old middle → Grows middle new → Grows old new
grows_on a b = record {
  held = b.held ∙ a.held;
  faults = let first = a.faults in let second = b.faults in omega arith;
  given = let first = a.given in let second = b.given in omega arith;
}

-- what stays goes on to stay
pub stays_on : {old middle new : Known} → Stays old middle → Stays middle new → Stays old new
stays_on a b = record { grows = grows_on a.grows b.grows; blamed = b.blamed ∙ a.blamed }

-- a fetch fails behind others that did not
pub fails_on : {old middle new : Known} {name : Text} → Stays old middle → Fails middle new name → Fails old new name
fails_on a b = record {
  grows = grows_on a.grows b.grows;
  rose = let first = a.grows.faults in let second = b.rose in omega arith;
  blamed = b.blamed;
}
