-- How many numbers and rows an expression has.
use Rattle.std.specs.Prelude.{ℕ, ◌+◌}
use Rattle.token_grammar_examples.specs.declared.expression.Expression.{Expression, Number, Negated', Sum', Row', Row_of-Expression, end_of-Expression, more_of-Expression}

abbrev mutual
  -- the numbers and rows of an expression
  pub pieces_in : Expression → ℕ
  pieces_in (Number n) = 1
  pieces_in (Negated' _ (more_of-Expression operand _)) = pieces_in operand
  pieces_in (Sum' _ operands) = pieces_in_each operands
  pieces_in (Row' _ members) = pieces_in_each members + 1

  pub pieces_in_each : {n : _} → Row_of-Expression n → ℕ
  pieces_in_each end_of-Expression = 0
  pieces_in_each (more_of-Expression first rest) = pieces_in first + pieces_in_each rest
