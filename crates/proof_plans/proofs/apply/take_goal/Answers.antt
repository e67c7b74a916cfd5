use Rattle.std.proofs.lemmas.Bool.{OnTrue_at, OnTrue_from}
use Rattle.proof_plans.proofs.Taken.{taken_extends, taken_hope}
use Rattle.proof_plans.proofs.apply.take_goal.Goals as goal

pub returns-then-is_joined-clause-more : goal.returns-then-is_joined-clause-more
returns-then-is_joined-clause-more c =
    OnTrue_from c.by_choice.result _
    (λ told. taken_extends c.args.scene.now c.args.goal c.args.choice c.args.draft.now c.by_choice.new.draft (OnTrue_at told c.by_choice.ensures))

pub returns-then-is_joined-clause-hope : goal.returns-then-is_joined-clause-hope
returns-then-is_joined-clause-hope c =
    OnTrue_from c.by_choice.result _
    (λ told task lent n here h by. taken_hope task lent n c.args.draft.now c.if-is_joined.ensures c.args.goal h c.args.scene.now here c.args.choice by c.by_choice.new.draft
    (OnTrue_at told c.by_choice.ensures))
