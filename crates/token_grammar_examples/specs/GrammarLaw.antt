-- One token is enough to read an expression: a line for each rule, since every case computes.
use Rattle.std.specs.Prelude.{IsTrue}
use Rattle.std.proofs.Common.{refl}
use Rattle.token_grammar.specs.Plan.{IsPredictive, part_test, token_test}
use Rattle.token_grammar_examples.specs.declared.mark.Mark as Mark
use Rattle.token_grammar_examples.specs.declared.mark.Mark.TheVariants as mark
use Rattle.token_grammar_examples.specs.declared.symbol.Symbol as Symbol
use Rattle.token_grammar_examples.specs.declared.symbol.Symbol.TheVariants.{Taken, Row}
use Rattle.token_grammar_examples.specs.declared.symbol.Rule.TheVariants.{Whole, Rest, Join, More, Operand, Negate, Atom, Members, Others, Add}
use Rattle.token_grammar_examples.specs.Grammar.{expressions, expression_plan}

part_law : (p : Symbol.Symbol) → IsTrue (part_test expressions expression_plan p)
part_law (Taken taker) = refl
part_law (Row Whole) = refl
part_law (Row _) = refl

token_law : (p : Symbol.Symbol) (t : Mark.Mark) →
    IsTrue (token_test expressions expression_plan p t)
token_law (Taken taker) t = refl
token_law (Row Whole) mark.Plus = refl
token_law (Row Rest) mark.Plus = refl
token_law (Row Join) mark.Plus = refl
token_law (Row More) mark.Plus = refl
token_law (Row Operand) mark.Plus = refl
token_law (Row Negate) mark.Plus = refl
token_law (Row Atom) mark.Plus = refl
token_law (Row Members) mark.Plus = refl
token_law (Row Others) mark.Plus = refl
token_law (Row Add) mark.Plus = refl
token_law _ _ = refl

pub expression_law : IsPredictive expressions expression_plan
expression_law = record { at_part = part_law; at_token = token_law }
