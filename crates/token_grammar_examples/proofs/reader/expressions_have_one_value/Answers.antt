use Rattle.token_grammar_examples.specs.declared.symbol.Symbol.TheVariants.{Row}
use Rattle.token_grammar_examples.specs.declared.symbol.Rule.TheVariants.{Whole}
use Rattle.token_grammar_examples.proofs.reader.expressions_have_one_value.Goals as goal

pub returns-clause-some : goal.returns-clause-some
returns-clause-some c =
    c.texts_have_one_value.ensures.some c.args.tokens.now (Row Whole) c.args.tokens.now.items

pub returns-clause-one : goal.returns-clause-one
returns-clause-one c = c.texts_have_one_value.ensures.one c.args.tokens.now (Row Whole) c.args.tokens.now.items
