use Rattle.token_grammar.proofs.Spelling.{taken_spelled, spelled_taken, taken_begun, begun_taken}
use Rattle.token_grammar.proofs.law.texts_are_taken.Goals as goal

pub returns : goal.returns
returns g c = record {
  texts = λ start ts. (λ text. taken_spelled g.P.Part.grammar text, λ (takers, taken). spelled_taken g.P.Part.grammar taken);
  beginnings = λ start ts. (λ begun. taken_begun g.P.Part.grammar begun, λ (takers, taken). begun_taken g.P.Part.grammar taken);
}
