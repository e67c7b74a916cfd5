use Rattle.std.proofs.Common.{subst}
use Rattle.token_grammar.specs.Answers.{IsAccepted}
use Rattle.token_grammar.specs.Plan.{IsPredictive}
use Rattle.token_grammar.proofs.Telling.{seen_value}
use Rattle.token_grammar.proofs.law.seen_is_told.Goals as goal

pub returns : goal.returns
returns g c = λ tokens looks effect agrees telling start before after ts value accepted spelled.
    seen_value g.B.Builder.grammar g.P.Part.plan
    (subst (λ x. IsPredictive x g.P.Part.plan) g.met.B.Builder.reads g.met.P.Part.predictive) g.P.Part.watcher g.B.Builder.Value
    (g.B.Builder.making tokens) looks effect agrees telling start before after ts value
    (subst (λ x. IsAccepted x g.P.Part.watcher start before ts after) g.met.B.Builder.reads accepted) spelled
