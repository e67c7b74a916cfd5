-- What the builder does over each row is the effect of the row's value: a line for each row.
use Rattle.std.specs.Prelude.{◌≡◌, [], ◌∷◌, IsTrue}
use Rattle.std.proofs.Common.{refl, sym, ap, append_assoc, append-nil}
use Rattle.std.proofs.lemmas.Bool.{false≢true}
use Rattle.token_grammar.specs.Building.{IsBuilding, RowLaws}
use Rattle.token_grammar.proofs.Laws.{building_by}
use Rattle.token_grammar_examples.specs.declared.expression.Expression.TheVariants as value
use Rattle.token_grammar_examples.specs.declared.builder.ExpressionBuilder.{ExpressionBuilder}
use Rattle.token_grammar_examples.specs.declared.mark.Mark as Mark
use Rattle.token_grammar_examples.specs.declared.symbol.Symbol as Symbol
use Rattle.token_grammar_examples.specs.declared.symbol.Symbol.TheVariants.{Taken, Row}
use Rattle.token_grammar_examples.specs.declared.symbol.Rule.TheVariants.{Whole, Rest, Join, More, Operand, Negate, Atom, Members, Others, Add}
use Rattle.token_grammar_examples.specs.Grammar.{expressions, takes, alternatives}
use Rattle.token_grammar_examples.specs.Values.{Value, of_token, makers, expression_making}
use Rattle.token_grammar_examples.specs.Effects.{acts, passes, effect, cleared, sum_ended}

token_law : (p : Symbol.Symbol) (t : Mark.Mark) (taken : IsTrue (takes p t))
    (b : ExpressionBuilder) → acts p t b ≡ effect p (of_token p t taken) b
token_law (Taken taker) t taken b = refl
token_law (Row rule) t taken b = absurd (false≢true taken)

row_laws : (p : Symbol.Symbol) → RowLaws Value effect passes p (alternatives p) (makers p)
row_laws (Taken taker) = tt
row_laws (Row Whole) = ((λ values b. refl), tt)
row_laws (Row Rest) = ((λ values b. refl), ((λ values b. refl), tt))
row_laws (Row Join) = ((λ values b. refl), tt)
row_laws (Row More) = (
  (λ values b. ap (λ list. record (sum_ended b) { current = value.Sum list })
      (sym (append-nil b.operands))),
  (
    (λ values b. ap (λ list. record (sum_ended b) { current = value.Sum list })
        (append_assoc b.operands (values.1.0 ∷ []) values.1.1.1.0)),
    tt,
  ),
)
row_laws (Row Operand) = ((λ values b. refl), ((λ values b. refl), tt))
row_laws (Row Atom) = ((λ values b. refl), ((λ values b. refl), ((λ values b. refl), tt)))
row_laws (Row Negate) = ((λ values b. refl), tt)
row_laws (Row Members) = (
  (λ values b. ap (λ list. record (cleared b) { members = list }) (sym (append-nil b.members))),
  (
    (λ values b. ap (λ list. record (cleared b) { members = list })
        (append_assoc b.members (values.0 ∷ []) values.1.1.0)),
    tt,
  ),
)
row_laws (Row Others) = (
  (λ values b. ap (λ list. record (cleared b) { members = list }) (sym (append-nil b.members))),
  (
    (λ values b. ap (λ list. record (cleared b) { members = list })
        (append_assoc b.members (values.1.0 ∷ []) values.1.1.1.0)),
    tt,
  ),
)
row_laws (Row Add) = ((λ values b. refl), tt)

pub expression_building : IsBuilding expressions Value expression_making acts passes effect
expression_building =
    building_by expressions Value of_token makers acts passes effect token_law row_laws
