-- What the builder does over each row is the effect of the row's value: a line for each row.
use Rattle.std.specs.Prelude.{◌≡◌, List, [], ◌∷◌, None, IsTrue}
use Rattle.std.proofs.Common.{refl, sym, ap, append_assoc, append-nil}
use Rattle.std.proofs.lemmas.Bool.{false≢true}
use Rattle.text_core.specs.Names.{Text}
use Rattle.token_grammar.specs.Building.{IsBuilding, RowLaws}
use Rattle.token_grammar.proofs.Laws.{building_by}
use Rattle.tptp_lexer.specs.Tokens.{Token as LexToken}
use Rattle.model_text.specs.declared.builder.ModelBuilder.{ModelBuilder}
use Rattle.model_text.specs.declared.mark.Mark as Mark
use Rattle.model_text.specs.declared.part.ModelPart as ModelPart
use Rattle.model_text.specs.declared.part.ModelPart.TheVariants.{Taken, Row}
use Rattle.model_text.specs.declared.part.Rule.TheVariants as rule
use Rattle.model_text.specs.Words.{names_in}
use Rattle.model_text.specs.Grammar.{models, takes, alternatives}
use Rattle.model_text.specs.Values.{Value, of_token, makers, model_making, number_of, name_in}
use Rattle.model_text.specs.Effects.{acts, passes, effect, cleared}

module _ (names : List Text) where
  token_law : (p : ModelPart.ModelPart) (m : Mark.Mark) (taken : IsTrue (takes p m))
      (b : ModelBuilder) → acts names p m b ≡ effect names p (of_token p m taken) b
  token_law (Taken taker) m taken b = refl
  token_law (Row rule) m taken b = absurd (false≢true taken)

  row_laws : (p : ModelPart.ModelPart) →
      RowLaws Value (effect names) passes p (alternatives p) (makers names p)
  row_laws (Taken taker) = tt
  row_laws (Row rule.Text) = ((λ values b. refl), tt)
  row_laws (Row rule.Sized) = ((λ values b. refl), tt)
  row_laws (Row rule.Places) = (
    (λ values b. ap (λ list. record b { places = list; named = None })
        (sym (append-nil b.places))),
    (
      (λ values b. ap (λ list. record b { places = list; named = None })
          (append_assoc b.places (record {
            constant = name_in names values.1.0;
            element = number_of values.1.1.1.0;
          } ∷ []) values.1.1.1.1.1.0)),
      tt,
    ),
  )
  row_laws (Row rule.Facts) = (
    (λ values b. ap (λ list. record (cleared b) { facts = list }) (sym (append-nil b.facts))),
    (
      (λ values b. ap (λ list. record (cleared b) { facts = list })
          (append_assoc b.facts (record {
            predicate = name_in names values.1.0;
            arguments = values.1.1.0;
          } ∷ []) values.1.1.1.1.0)),
      tt,
    ),
  )
  row_laws (Row rule.Arguments) = (
    (λ values b. ap (λ list. record b { arguments = list }) (sym (append-nil b.arguments))),
    (
      (λ values b. ap (λ list. record b { arguments = list })
          (append_assoc b.arguments (number_of values.1.0 ∷ []) values.1.1.0)),
      tt,
    ),
  )
  row_laws (Row rule.Others) = (
    (λ values b. ap (λ list. record b { arguments = list }) (sym (append-nil b.arguments))),
    (
      (λ values b. ap (λ list. record b { arguments = list })
          (append_assoc b.arguments (number_of values.1.0 ∷ []) values.1.1.0)),
      tt,
    ),
  )

pub model_building : (ts : List LexToken) →
    IsBuilding models Value (model_making ts) (acts (names_in ts)) passes (effect (names_in ts))
model_building ts =
    building_by models Value of_token (makers (names_in ts)) (acts (names_in ts)) passes
    (effect (names_in ts)) (token_law (names_in ts)) (row_laws (names_in ts))
