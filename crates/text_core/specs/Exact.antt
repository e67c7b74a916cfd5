-- What an exact answer is: the value that there is or the refusal that there is, up to want of
-- memory.
use Rattle.std.specs.Prelude.{◌≡◌, ◌⊎◌, Result, IfOk, IfErr, MatchResult}

-- an answer is a value, and no other value is one; or it is the refusal, and no other refusal is
-- one. Want of memory may come in place of either
pub record Exact {X E : Type 0} (IsValue : X → Type 0) (IsRefused : E →
    Type 0) (memory : E) (result : Result X E) : Type 0 where
  -- what is answered is a value
  pub ok : IfOk result IsValue
  -- what is refused is refused for its reason
  pub err : IfErr result (λ why. (why ≡ memory) ⊎ IsRefused why)
  -- where there is a value, the answer is that one
  pub found : (value : X) → IsValue value →
      MatchResult result (λ answer. answer ≡ value) (λ why. why ≡ memory)
  -- where there is a refusal, the answer is that one
  pub told : (reason : E) → IsRefused reason →
      MatchResult result (λ answer. ⊥) (λ why. (why ≡ reason) ⊎ (why ≡ memory))
