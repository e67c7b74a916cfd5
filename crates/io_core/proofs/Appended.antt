-- Bytes that are appended to a list, which goes on behind its old front.
use Rattle.std.proofs.Common.{ℕ, ◌≡◌, ◌+◌, ◌≤◌, List, ◌++◌, length, take, drop, sym, ap, ◌∙◌, take-append-drop, length-drop, arith}
use Rattle.text_core.specs.Names.{Text}
use Rattle.io_core.specs.Adapters.{Counts, counts_known}
use Rattle.io_core.specs.Fetched.{Fetches}

-- a list that keeps its front grew by the rest
append-drop : (old new : List ℕ) → take (length old) new ≡ old → new ≡ old ++ drop (length old) new
append-drop old new front = sym (take-append-drop (length old) new) ∙ ap (λ bytes. bytes ++ drop (length old) new) front

-- where nothing is known of what is held, each such bytes are fetched
pub unknown_fetched : (most : ℕ) (name : Text) (counts : Counts) (old new : List ℕ) → take (length old) new ≡ old → length new ≤ length old + most
    → Fetches most name (counts_known counts) old new
unknown_fetched most name counts old new front within = record {
  bytes = drop (length old) new;
  appended = append-drop old new front;
  holds = record { held = tt; within = rw length-drop (omega arith) };
}
