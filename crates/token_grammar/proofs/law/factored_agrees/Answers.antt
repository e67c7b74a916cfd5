use Rattle.token_grammar.proofs.Translated.{text_translated, begun_translated}
use Rattle.token_grammar.proofs.law.factored_agrees.Goals as goal

pub returns : goal.returns
returns g c =
    let f = g.F.Factored in
    record {
      texts = λ ts. (
        text_translated f.printed f.grammar f.made f.factored_from f.printed_start f.start f.printed_start_made ts,
        text_translated f.grammar f.printed f.stands f.printed_from f.start f.printed_start f.start_stands ts,
      );
      beginnings = λ ts. (
        begun_translated f.printed f.grammar f.made f.factored_from f.printed_start f.start f.printed_start_made ts,
        begun_translated f.grammar f.printed f.stands f.printed_from f.start f.printed_start f.start_stands ts,
      );
    }
