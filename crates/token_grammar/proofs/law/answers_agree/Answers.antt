use Rattle.token_grammar.proofs.Agreement.{answers_agree}
use Rattle.token_grammar.proofs.law.answers_agree.Goals as goal

pub returns : goal.returns
returns g c = λ start before a b ts first second h k.
    answers_agree g.P.Part.grammar g.P.Part.plan g.P.Part.watcher g.met.P.Part.predictive g.met.P.Part.decided start before ts
    a b first second h k
