use Rattle.token_grammar.proofs.Agreement.{one_taking_of_text}
use Rattle.token_grammar.proofs.law.takers_agree.Goals as goal

pub returns : goal.returns
returns g c = λ start whole other ts takers others first second.
    one_taking_of_text g.P.Part.grammar g.P.Part.plan g.met.P.Part.predictive start whole other ts takers others first second
