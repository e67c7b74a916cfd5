-- That tokens have an answer.
use Rattle.std.specs.Prelude.{◌≢◌, List, Result, Err}
use Rattle.token_grammar.specs.declared.refusal.Refusal.{Refusal}
use Rattle.token_grammar.specs.declared.refusal.Refusal.TheVariants.{Memory}
use Rattle.token_grammar.specs.Grammar.{Grammar}
use Rattle.token_grammar.specs.Watch.{Watcher}
use Rattle.token_grammar.specs.Answers.{IsAnswer}

-- the tokens have an answer that is not want of memory: they are accepted, a token is unexpected,
-- the watcher stops at one, or they end early
pub record HasAnswer {P T S F : Type 0} (g : Grammar P T) (watcher : Watcher P T S F) (start : P)
    (before : S) (ts : List T) :
    Type 0 where
  pub answer : Result (Unit {0}) (Refusal P F)
  pub after : S
  pub is_answer : IsAnswer g watcher start before ts after answer
  pub known : answer ≢ Err Memory
