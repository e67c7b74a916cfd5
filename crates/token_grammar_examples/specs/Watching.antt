-- What the watcher of expressions does at a token.
use Rattle.std.specs.Prelude.{◌≡◌, ◌+◌, ◌-◌, nat_lt, Result, Ok, Err, if◌then◌else◌}
use Rattle.token_grammar.specs.Watch.{Watcher, watcher_of}
use Rattle.token_grammar_examples.specs.declared.watch.TheConstants.{MOST_LEVELS, MOST_PIECES}
use Rattle.token_grammar_examples.specs.declared.watch.Count.{Count}
use Rattle.token_grammar_examples.specs.declared.watch.Fault as Fault
use Rattle.token_grammar_examples.specs.declared.watch.Fault.TheVariants.{TooMany, TooDeep}
use Rattle.token_grammar_examples.specs.declared.mark.Mark as Mark
use Rattle.token_grammar_examples.specs.declared.symbol.Symbol as Symbol
use Rattle.token_grammar_examples.specs.declared.symbol.Symbol.TheVariants.{Taken}
use Rattle.token_grammar_examples.specs.declared.symbol.Taker.TheVariants.{Number, Open, Close, OpenRow, CloseRow}

-- a number or a row is counted, or is one too many
abbrev pub counted : Count → Result Count Fault.Fault
counted count =
    if nat_lt count.pieces MOST_PIECES then Ok (record count { pieces = count.pieces + 1 })
    else Err TooMany

-- a bracket or a row opens, or is too deep
abbrev pub opened : Count → Result Count Fault.Fault
opened count =
    if nat_lt count.level MOST_LEVELS then Ok (record count { level = count.level + 1 })
    else Err TooDeep

abbrev pub opened_after : Result Count Fault.Fault → Result Count Fault.Fault
opened_after (Ok count) = opened count
opened_after (Err fault) = Err fault

-- a row is counted, and then it opens
abbrev pub row_opened : Count → Result Count Fault.Fault
row_opened count = opened_after (counted count)

-- a bracket or a row ends
abbrev pub closed : Count → Count
closed count = record count { level = count.level - 1 }

-- the watcher counts numbers and rows, and how many brackets and rows are open
abbrev pub look : Count → Symbol.Symbol → Mark.Mark → Result Count Fault.Fault
look count (Taken Number) t = counted count
look count (Taken Open) t = opened count
look count (Taken OpenRow) t = row_opened count
look count (Taken Close) t = Ok (closed count)
look count (Taken CloseRow) t = Ok (closed count)
look count _ t = Ok count

-- the watcher of expressions
abbrev pub expression_watcher : Watcher Symbol.Symbol Mark.Mark Count Fault.Fault
expression_watcher = watcher_of look

-- the outcome is the one that the watcher's rule gives
abbrev pub GoesOn : Result Count Fault.Fault → Count → Result (Unit {0}) Fault.Fault → Type 0
GoesOn outcome after (Ok _) = outcome ≡ Ok after
GoesOn outcome after (Err fault) = outcome ≡ Err fault

-- what the watcher keeps before the first token
abbrev pub nothing_seen : Count
nothing_seen = record { pieces = 0; level = 0 }
