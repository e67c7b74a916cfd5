-- The refusals of the same tokens are one, and what is accepted is not refused, but for want of memory.
use Rattle.std.proofs.Common.{◌≡◌, refl, List}
use Rattle.std.specs.Prelude.{◌≢◌, Ok, Err}
use Rattle.token_grammar.specs.Grammar.{Grammar}
use Rattle.token_grammar.specs.Plan.{Plan, IsPredictive}
use Rattle.token_grammar.specs.Watch.{Watcher, IsDecided}
use Rattle.token_grammar.specs.Answers.{IsAccepted, IsRefused, AreOne}
use Rattle.token_grammar.specs.declared.refusal.Refusal.{Refusal}
use Rattle.token_grammar.specs.declared.refusal.Refusal.TheVariants.{Memory, Unexpected, Stopped, EndsEarly}
use Rattle.token_grammar.proofs.Agreement.{answers_agree}

-- refusals that are one answer are the same
refusal_same : {P F : Type 0} (a b : Refusal P F) → AreOne {P = P} {F = F} (Err a) (Err b) → a ≢ Memory → b ≢ Memory → a ≡ b
refusal_same Memory b one some also = absurd (some refl)
refusal_same (Unexpected n last) Memory one some also = absurd (also refl)
refusal_same (Unexpected n last) (Unexpected m end) one some also = cc
refusal_same (Unexpected n last) (Stopped m why) one some also = cc
refusal_same (Unexpected n last) EndsEarly one some also = cc
refusal_same (Stopped n why) Memory one some also = absurd (also refl)
refusal_same (Stopped n why) (Unexpected m end) one some also = cc
refusal_same (Stopped n why) (Stopped m end) one some also = cc
refusal_same (Stopped n why) EndsEarly one some also = cc
refusal_same EndsEarly Memory one some also = absurd (also refl)
refusal_same EndsEarly (Unexpected m end) one some also = cc
refusal_same EndsEarly (Stopped m end) one some also = cc
refusal_same EndsEarly EndsEarly one some also = refl

-- acceptance and a refusal are not one answer
refusal_other : {P F : Type 0} (a : Refusal P F) → a ≢ Memory → AreOne {P = P} {F = F} (Ok tt) (Err a) → ⊥
refusal_other Memory some one = some refl
refusal_other (Unexpected n last) some one = cc
refusal_other (Stopped n why) some one = cc
refusal_other EndsEarly some one = cc

module _ {P T S F : Type 0} (g : Grammar P T) (plan : Plan P T) (watcher : Watcher P T S F) (law : IsPredictive g plan)
    (decided : IsDecided watcher) (start : P) (before : S) (ts : List T) (after later : S) where
  -- two refusals of the same tokens, neither of them want of memory, are one
  pub refusals_agree : (a b : Refusal P F) → IsRefused g watcher start before ts after a → IsRefused g watcher start before ts later b →
      a ≢ Memory → b ≢ Memory → a ≡ b
  refusals_agree a b first second some also =
      refusal_same a b (answers_agree g plan watcher law decided start before ts after later (Err a) (Err b) first second) some also

  -- what is accepted is not refused, but for want of memory
  pub accepted_not_refused : (a : Refusal P F) → IsAccepted g watcher start before ts after → IsRefused g watcher start before ts later a →
      a ≢ Memory → ⊥
  accepted_not_refused a accepted refused some =
      refusal_other a some (answers_agree g plan watcher law decided start before ts after later (Ok tt) (Err a) accepted refused)
