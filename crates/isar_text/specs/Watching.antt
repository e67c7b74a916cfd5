-- What is refused at a token with which the tokens still begin a text: a rule word too many, and a
-- split too deep, which is told at its rule word once its `proof` is read. A watcher finds it; it
-- counts the rule words and the splits that are open, and keeps the last rule word.
use Rattle.std.specs.Prelude.{ℕ, Result, Ok, Err}
use Rattle.token_grammar.specs.Watch.{Watcher, watcher_of}
use Rattle.proof_text.specs.declared.part.Act.TheVariants.{EndSplit}
use Rattle.proof_text.specs.declared.watch.Limit as Limit
use Rattle.proof_text.specs.declared.watch.Tally.{Tally}
use Rattle.proof_text.specs.Watching.{counted, opened, closed, nothing_seen as no_words}
use Rattle.isar_text.specs.declared.fixed.Fixed.TheVariants.{Have, Obtain, Show, Proof, Qed}
use Rattle.isar_text.specs.declared.mark.Token.{Token}
use Rattle.isar_text.specs.declared.part.IsarPart as IsarPart
use Rattle.isar_text.specs.declared.part.IsarPart.TheVariants.{Taken}
use Rattle.isar_text.specs.declared.part.Taker.TheVariants.{Fixed}
use Rattle.isar_text.specs.declared.watch.RuleWords.{RuleWords}
use Rattle.isar_text.specs.declared.watch.Excess.{Excess}

-- what is kept behind the rule word with this number, or refused at it
abbrev pub told_at : ℕ → Result Tally Limit.Limit → Result RuleWords Excess
told_at word (Ok tally) = Ok (record { tally = tally; last = word })
told_at word (Err limit) = Err (record { limit = limit; word = word })

-- what the watcher does at a token, with the part that took it
abbrev pub look : RuleWords → IsarPart.IsarPart → Token → Result RuleWords Excess
look seen (Taken (Fixed Have does)) t = told_at t.number (counted seen.tally)
look seen (Taken (Fixed Obtain does)) t = told_at t.number (counted seen.tally)
look seen (Taken (Fixed Show does)) t = told_at t.number (counted seen.tally)
look seen (Taken (Fixed Proof does)) t = told_at seen.last (opened seen.tally)
look seen (Taken (Fixed Qed EndSplit)) t = Ok (record seen { tally = closed seen.tally })
look seen _ t = Ok seen

-- the watcher
abbrev pub isar_watcher : Watcher IsarPart.IsarPart Token RuleWords Excess
isar_watcher = watcher_of look

-- what the watcher keeps before the first token
abbrev pub nothing_seen : RuleWords
nothing_seen = record { tally = no_words; last = 0 }
