-- What is read behind the head is exactly the body that tokens spell, or their refusal.
use Rattle.std.specs.Prelude.{ℕ, ◌≡◌, ◌⊎◌, Option, None, Ok, Err}
use Rattle.std.proofs.Common.{subst}
use Rattle.text_core.specs.Exact.{Exact}
use Rattle.text_core.proofs.Laws.{exact_value, exact_refusal}
use Rattle.token_grammar.specs.SpelledAs.{SpelledAs}
use Rattle.token_grammar.proofs.Laws.{one_value}
use Rattle.proof_text.specs.declared.body.BodyText.{BodyText}
use Rattle.proof_text.specs.declared.part.Edition.TheVariants.{First}
use Rattle.proof_text.specs.Proper.{IsProper}
use Rattle.std.proofs.Common.{refl}
use Rattle.isar_text.specs.declared.refusal.IsarRefusal.{IsarRefusal}
use Rattle.isar_text.specs.declared.refusal.IsarRefusal.TheVariants.{Memory}
use Rattle.isar_text.specs.declared.part.IsarPart.TheVariants.{Row}
use Rattle.isar_text.specs.declared.part.Rule.TheVariants.{Rest}
use Rattle.isar_text.specs.Grammar.{isar_rests, isar_plan}
use Rattle.isar_text.specs.GrammarLaw.{isar_law}
use Rattle.isar_text.specs.Values.{Lexed, Value, isar_making}
use Rattle.isar_text.specs.Scripts.{AreBodyOf, RestFault, seen_in, script_with}
use Rattle.isar_text.specs.Told.{IsAcceptedRest}
use Rattle.isar_text.proofs.Faults.{one_rest_fault, accepted_no_fault}
use Rattle.isar_text.proofs.Spelled.{spelled_proper}
use Rattle.isar_text.proofs.Watched.{accepted_bounded, body_accepted}

-- a body that accepted tokens spell is theirs
pub body_read : (lexed : Lexed) (body : BodyText) → IsAcceptedRest (seen_in lexed) →
    SpelledAs isar_rests Value (isar_making lexed) (Row Rest) body (seen_in lexed) → AreBodyOf lexed body
body_read lexed body accepted spelled = record { spelled = spelled; bounded = accepted_bounded lexed body accepted spelled }

-- the script of the body of tokens is proper
pub script_proper : (lexed : Lexed) (body : BodyText) → AreBodyOf lexed body → IsProper (script_with lexed.task body)
script_proper lexed body of =
    record { edition = First; version = refl; body = spelled_proper lexed body of.spelled; bounded = of.bounded }

-- tokens have one body
pub one_body : (lexed : Lexed) (a b : BodyText) → AreBodyOf lexed a → AreBodyOf lexed b → a ≡ b
one_body lexed a b first second =
    one_value isar_rests isar_plan isar_law Value (isar_making lexed) (Row Rest) (seen_in lexed) a b first.spelled second.spelled

-- the body that the bytes behind the head spell, where all of them are tokens
abbrev pub IsRest : Lexed → Option ℕ → BodyText → Type 0
IsRest lexed bad body = (bad ≡ None) × AreBodyOf lexed body

-- what spells a body is not refused
pub body_no_fault : (lexed : Lexed) (end : ℕ) (bad : Option ℕ) (body : BodyText) (refusal : IsarRefusal) → IsRest lexed bad body →
    RestFault lexed end bad refusal → ⊥
body_no_fault lexed end bad body refusal (all, of) fault =
    accepted_no_fault lexed end refusal (body_accepted lexed body of) (subst (λ left. RestFault lexed end left refusal) all fault)

module _ (lexed : Lexed) (end : ℕ) (bad : Option ℕ) where
  -- the body at hand is the exact answer
  pub exact_body : (body : BodyText) → IsRest lexed bad body → Exact (IsRest lexed bad) (RestFault lexed end bad) Memory (Ok body)
  exact_body body is =
      exact_value (IsRest lexed bad) (RestFault lexed end bad) Memory (λ a b first second. one_body lexed a b first.1 second.1)
      (one_rest_fault lexed end bad) (body_no_fault lexed end bad) body is

  -- a refusal at hand is the exact answer
  pub exact_rest_fault : (refusal : IsarRefusal) → (refusal ≡ Memory) ⊎ RestFault lexed end bad refusal →
      Exact (IsRest lexed bad) (RestFault lexed end bad) Memory (Err refusal)
  exact_rest_fault refusal told =
      exact_refusal (IsRest lexed bad) (RestFault lexed end bad) Memory (λ a b first second. one_body lexed a b first.1 second.1)
      (one_rest_fault lexed end bad) (body_no_fault lexed end bad) refusal told
