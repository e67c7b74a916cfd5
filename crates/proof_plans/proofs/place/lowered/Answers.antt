use Rattle.std.proofs.Common.{ℕ, ◌≤◌, sym, arith, subst}
use Rattle.proof_plans.specs.Places.{below}
use Rattle.proof_plans.proofs.place.lowered.Goals as goal

pub returns-else-rank-old : goal.returns-else-rank-old
returns-else-rank-old c = λ task lent values fires indices old new there. record {
  rank = λ index is. let a = old.rank index is in let b = new.rank index is in
      subst (λ (n : ℕ). n ≤ below index indices) (sym c.max-rank.ensures) (omega arith);
  level = λ index fire is fire_is. c.in-Level.ensures task lent values fire.branch (old.level index fire is fire_is) (new.level index fire is fire_is);
}

pub returns-in-Apart : goal.returns-in-Apart
returns-in-Apart c = λ task lent values fires indices old new there.
    c.in-Apart.ensures task lent values there.1.branch (old.level there.0 there.1 there.2 there.3) (new.level there.0 there.1 there.2 there.3)
