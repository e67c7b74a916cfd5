use Rattle.token_grammar.proofs.Agreement.{text_begins, front_begins}
use Rattle.token_grammar.proofs.law.fronts_begin.Goals as goal

pub returns : goal.returns
returns g c = record {
  whole = λ start ts text. text_begins g.P.Part.grammar start ts text;
  fronts = λ start front back begun. front_begins g.P.Part.grammar start front back begun;
}
