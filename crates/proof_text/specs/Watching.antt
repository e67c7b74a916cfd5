-- What is refused at a token with which the tokens still begin a text: a version that there is not,
-- a rule word too many, and a split too deep. A watcher finds it; it counts the rule words, and the
-- splits that are open.
use Rattle.std.specs.Prelude.{◌≡◌, ◌+◌, ◌-◌, nat_lt, Result, Ok, Err, if◌then◌else◌}
use Rattle.text_core.specs.declared.limits.TheConstants.{MOST_APPLICATIONS, MOST_SPLITS}
use Rattle.token_grammar.specs.Watch.{Watcher, watcher_of}
use Rattle.proof_text.specs.declared.fixed.Fixed.TheVariants.{Mp, As, Efq, Gap, Cs, End}
use Rattle.proof_text.specs.declared.mark.Token.{Token}
use Rattle.proof_text.specs.declared.part.TextPart as TextPart
use Rattle.proof_text.specs.declared.part.TextPart.TheVariants.{Taken}
use Rattle.proof_text.specs.declared.part.Taker.TheVariants.{Fixed, WrongVersion}
use Rattle.proof_text.specs.declared.watch.Limit as Limit
use Rattle.proof_text.specs.declared.watch.Limit.TheVariants.{Version, TooLarge, TooDeep}
use Rattle.proof_text.specs.declared.watch.Tally.{Tally}

-- a rule word is counted, or is one too many
abbrev pub counted : Tally → Result Tally Limit.Limit
counted tally =
    if nat_lt tally.applications MOST_APPLICATIONS
    then Ok (record tally { applications = tally.applications + 1 })
    else Err TooLarge

-- a split opens, or is too deep
abbrev pub opened : Tally → Result Tally Limit.Limit
opened tally =
    if nat_lt tally.splits MOST_SPLITS then Ok (record tally { splits = tally.splits + 1 })
    else Err TooDeep

abbrev pub opened_after : Result Tally Limit.Limit → Result Tally Limit.Limit
opened_after (Ok tally) = opened tally
opened_after (Err limit) = Err limit

-- a split is counted, and then it opens
abbrev pub split_opened : Tally → Result Tally Limit.Limit
split_opened tally = opened_after (counted tally)

-- a split ends
abbrev pub closed : Tally → Tally
closed tally = record tally { splits = tally.splits - 1 }

-- what the watcher does at a token, with the part that took it
abbrev pub look : Tally → TextPart.TextPart → Token → Result Tally Limit.Limit
look tally (Taken (Fixed Mp does)) t = counted tally
look tally (Taken (Fixed As does)) t = counted tally
look tally (Taken (Fixed Efq does)) t = counted tally
look tally (Taken (Fixed Gap does)) t = counted tally
look tally (Taken (Fixed Cs does)) t = split_opened tally
look tally (Taken (Fixed End does)) t = Ok (closed tally)
look tally (Taken WrongVersion) t = Err Version
look tally _ t = Ok tally

-- the watcher of proof texts
abbrev pub proof_text_watcher : Watcher TextPart.TextPart Token Tally Limit.Limit
proof_text_watcher = watcher_of look

-- the outcome is the one that the watcher's rule gives
abbrev pub GoesOn : Result Tally Limit.Limit → Tally → Result (Unit {0}) Limit.Limit → Type 0
GoesOn outcome after (Ok _) = outcome ≡ Ok after
GoesOn outcome after (Err limit) = outcome ≡ Err limit

-- what the watcher keeps before the first token
abbrev pub nothing_seen : Tally
nothing_seen = record { applications = 0; splits = 0 }
