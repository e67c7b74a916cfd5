use Rattle.token_grammar.proofs.Answered.{tokens_answered}
use Rattle.token_grammar.proofs.law.tokens_have_answers.Goals as goal

pub returns : goal.returns
returns g c = λ start before ts.
    tokens_answered g.P.Part.grammar g.P.Part.plan g.P.Part.watcher g.met.P.Part.predictive g.met.P.Part.decided start before ts
