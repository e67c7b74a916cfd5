-- What is refused at a token with which the tokens still begin a text: a size or an element that is
-- out of range, and a second place of a constant.
use Rattle.std.specs.Prelude.{ℕ, ◌≡◌, ◌&&◌, nat_eq, nat_lt, nat_le, [], ◌∷◌, ◌++◌, Result, Ok, Err, if◌then◌else◌}
use Rattle.std.specs.List.{list_any}
use Rattle.token_grammar.specs.Watch.{Watcher, watcher_of}
use Rattle.model_text.specs.declared.limits.TheConstants.{MOST_ELEMENTS}
use Rattle.model_text.specs.declared.mark.Mark as Mark
use Rattle.model_text.specs.declared.part.ModelPart as ModelPart
use Rattle.model_text.specs.declared.part.ModelPart.TheVariants.{Taken}
use Rattle.model_text.specs.declared.part.Taker.TheVariants.{Size, Constant, Element, Argument}
use Rattle.model_text.specs.declared.watch.Fault as Fault
use Rattle.model_text.specs.declared.watch.Fault.TheVariants.{Range, Twice}
use Rattle.model_text.specs.Seen.{Seen}
use Rattle.model_text.specs.Values.{number_of, word_in}

-- a size is set, or is out of range
abbrev pub sized : ℕ → Seen → Result Seen Fault.Fault
sized n seen =
    if nat_le 1 n && nat_le n MOST_ELEMENTS then Ok (record seen { size = n }) else Err Range

-- a number is an element, or is out of range
abbrev pub within : ℕ → Seen → Result Seen Fault.Fault
within n seen = if nat_lt n seen.size then Ok seen else Err Range

-- a constant gets a place, or has one
abbrev pub placed : ℕ → Seen → Result Seen Fault.Fault
placed n seen =
    if list_any (nat_eq n) seen.constants then Err Twice
    else Ok (record seen { constants = seen.constants ++ n ∷ [] })

-- what the watcher does at a token, with the part that took it
abbrev pub look : Seen → ModelPart.ModelPart → Mark.Mark → Result Seen Fault.Fault
look seen (Taken Size) m = sized (number_of m) seen
look seen (Taken Constant) m = placed (word_in m) seen
look seen (Taken Element) m = within (number_of m) seen
look seen (Taken Argument) m = within (number_of m) seen
look seen _ m = Ok seen

-- the watcher of models
abbrev pub model_watcher : Watcher ModelPart.ModelPart Mark.Mark Seen Fault.Fault
model_watcher = watcher_of look

-- the outcome is the one that the watcher's rule gives
abbrev pub GoesOn : Result Seen Fault.Fault → Seen → Result (Unit {0}) Fault.Fault → Type 0
GoesOn outcome after (Ok _) = outcome ≡ Ok after
GoesOn outcome after (Err fault) = outcome ≡ Err fault

-- what the watcher has seen before the first token
abbrev pub nothing_seen : Seen
nothing_seen = record { size = 0; constants = [] }
