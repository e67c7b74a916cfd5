use Rattle.std.proofs.Common.{◌∙◌, sym, ap, subst, ◌≤◌}
use Rattle.token_grammar_examples.specs.declared.builder.ExpressionBuilder.{ExpressionBuilder}
use Rattle.token_grammar_examples.specs.declared.symbol.Symbol.TheVariants.{Row}
use Rattle.token_grammar_examples.specs.declared.symbol.Rule.TheVariants.{Whole}
use Rattle.token_grammar_examples.specs.declared.watch.TheConstants.{MOST_PIECES}
use Rattle.token_grammar_examples.specs.Watching.{nothing_seen}
use Rattle.token_grammar_examples.specs.Pieces.{pieces_in}
use Rattle.token_grammar_examples.proofs.Seen.{looks, seen_effect, looks_agrees, pieces_telling}
use Rattle.token_grammar_examples.proofs.Bounds.{accepted_pieces}
use Rattle.token_grammar_examples.proofs.reader.read_expression.Goals as goal

pub returns-clause-bounded : goal.returns-clause-bounded
returns-clause-bounded c =
    let (value, spelled, built) = c.in_ok-build.ensures.value in
    let told = c.seen_is_told.ensures c.args.tokens.now looks seen_effect looks_agrees pieces_telling (Row Whole) nothing_seen
    c.build.new.watch c.args.tokens.now.items value c.in_ok-build.ensures.text spelled in
    let few = accepted_pieces c.args.tokens.now.items c.build.new.watch value c.in_ok-build.ensures.text told in
    subst (λ expression. pieces_in expression ≤ MOST_PIECES)
    (sym (c.into_expression.ensures ∙ ap (λ (builder : ExpressionBuilder). builder.current) built)) few
