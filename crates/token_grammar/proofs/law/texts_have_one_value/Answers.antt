use Rattle.std.proofs.Common.{sym, subst}
use Rattle.token_grammar.specs.Grammar.{IsText}
use Rattle.token_grammar.proofs.OfValues.{part_value, value_spelled}
use Rattle.token_grammar.proofs.OneValue.{one_value_of}
use Rattle.token_grammar.proofs.law.texts_have_one_value.Goals as goal

pub returns : goal.returns
returns g c = record {
  some = λ tokens start ts. (
    λ text. part_value g.B.Builder.grammar g.B.Builder.Value (g.B.Builder.making tokens) start ts
        (subst (λ x. IsText x start ts) g.met.B.Builder.reads text),
    λ (value, spelled). subst (λ x. IsText x start ts) (sym g.met.B.Builder.reads)
        (value_spelled g.B.Builder.grammar g.B.Builder.Value (g.B.Builder.making tokens) spelled),
  );
  one = λ tokens start ts first second.
      one_value_of g.P.Part.grammar g.P.Part.plan g.met.P.Part.predictive g.B.Builder.grammar g.met.B.Builder.reads
      g.B.Builder.Value (g.B.Builder.making tokens) start ts first second;
}
