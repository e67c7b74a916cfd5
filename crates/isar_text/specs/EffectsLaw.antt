-- What the builder does over each row is the effect of the row's value: a line for each row.
use Rattle.std.specs.Prelude.{◌≡◌, [], ◌∷◌, IsTrue}
use Rattle.std.proofs.Common.{refl, sym, ap, append_assoc, append-nil}
use Rattle.std.proofs.lemmas.Bool.{false≢true}
use Rattle.token_grammar.specs.Building.{IsBuilding, RowLaws}
use Rattle.token_grammar.proofs.Laws.{building_by}
use Rattle.proof_text.specs.declared.body.Shown.TheVariants as shown
use Rattle.proof_text.specs.declared.builder.ScriptBuilder.{ScriptBuilder}
use Rattle.proof_text.specs.Effects.{cleared, line_read, with_atoms, with_cases}
use Rattle.isar_text.specs.declared.mark.Token.{Token as Seen}
use Rattle.isar_text.specs.declared.part.IsarPart as IsarPart
use Rattle.isar_text.specs.declared.part.IsarPart.TheVariants.{Taken, Row}
use Rattle.isar_text.specs.declared.part.Rule.TheVariants as rule
use Rattle.isar_text.specs.Grammar.{isar_rests, takes, alternatives}
use Rattle.isar_text.specs.Values.{Lexed, Value, of_token, makers, name_in, isar_making}
use Rattle.isar_text.specs.Effects.{acts, passes, effect}

module _ (lexed : Lexed) where
  -- what is done at a token is the effect of the token
  token_law : (p : IsarPart.IsarPart) (t : Seen) (taken : IsTrue (takes p t)) (b : ScriptBuilder) →
      acts lexed p t b ≡ effect lexed p (of_token p t taken) b
  token_law (Taken by) t taken b = refl
  token_law (Row r) t taken b = absurd (false≢true taken)

  -- what is done over each row is the effect of its value
  row_laws : (p : IsarPart.IsarPart) →
      RowLaws Value (effect lexed) passes p (alternatives p) (makers lexed p)
  row_laws (Taken by) = tt
  row_laws (Row rule.Rest) = ((λ values b. refl), tt)
  row_laws (Row (rule.Body n)) = ((λ values b. ap (λ list. record (cleared b) { steps = []; body = record { steps = list; end = values.1.0.end } }) (append_assoc b.steps (values.0 ∷ []) values.1.0.steps)), ((λ values b. ap (λ list. record (cleared b) { steps = []; body = record { steps = list; end = values.0 } }) (sym (append-nil b.steps))), tt))
  row_laws (Row (rule.Step n)) = ((λ values b. refl), ((λ values b. refl), tt))
  row_laws (Row (rule.Given n)) = ((λ values b. refl), tt)
  row_laws (Row rule.QuotedLine) = ((λ values b. refl), tt)
  row_laws (Row (rule.Using n)) = ((λ values b. refl), tt)
  row_laws (Row (rule.MoreLines n)) = ((λ values b. refl), ((λ values b. refl), tt))
  row_laws (Row rule.Instance) = ((λ values b. refl), tt)
  row_laws (Row rule.StepEnd) = ((λ values b. refl), tt)
  row_laws (Row (rule.Finish n)) = ((λ values b. refl), tt)
  row_laws (Row (rule.AfterThesis n)) = ((λ values b. refl), ((λ values b. refl), tt))
  row_laws (Row (rule.AfterLine n)) = ((λ values b. refl), ((λ values b. refl), tt))
  row_laws (Row rule.ByCases) = ((λ values b. refl), tt)
  row_laws (Row rule.Reason) = ((λ values b. refl), tt)
  row_laws (Row rule.Inside) = ((λ values b. refl), ((λ values b. refl), tt))
  row_laws (Row rule.ByBlast) = ((λ values b. refl), tt)
  row_laws (Row (rule.Case n)) = ((λ values b. refl), tt)
  row_laws (Row (rule.CaseHead n)) = ((λ values b. refl), tt)
  row_laws (Row rule.QuotedFacts) = ((λ values b. refl), tt)
  row_laws (Row (rule.MoreCases n)) = ((λ values b. ap (λ list. with_cases list b) (sym (append-nil b.cases))), ((λ values b. ap (λ list. with_cases list b) (append_assoc b.cases (values.1.0 ∷ []) values.1.1.0)), tt))
  row_laws (Row rule.Names) = ((λ values b. refl), tt)
  row_laws (Row rule.ListedNames) = ((λ values b. ap (λ list. record b { names = list }) (sym (append-nil b.names))), ((λ values b. ap (λ list. record b { names = list }) (append_assoc b.names (name_in lexed.tokens values.0 ∷ []) values.1.0)), tt))
  row_laws (Row rule.MoreNames) = ((λ values b. ap (λ list. record b { names = list }) (sym (append-nil b.names))), ((λ values b. ap (λ list. record b { names = list }) (append_assoc b.names (name_in lexed.tokens values.1.0 ∷ []) values.1.1.0)), tt))
  row_laws (Row rule.MoreWords) = ((λ values b. ap (λ list. record b { names = list }) (sym (append-nil b.names))), ((λ values b. ap (λ list. record b { names = list }) (append_assoc b.names (name_in lexed.tokens values.0 ∷ []) values.1.0)), tt))
  row_laws (Row rule.Line) = ((λ values b. refl), ((λ values b. refl), ((λ values b. refl), ((λ values b. refl), tt))))
  row_laws (Row rule.AfterTrue) = ((λ values b. refl), ((λ values b. refl), tt))
  row_laws (Row rule.AfterAtom) = ((λ values b. refl), ((λ values b. ap (λ list. line_read (shown.Facts list) b) (append_assoc b.atoms (values.1.0 ∷ []) values.1.1.0)), ((λ values b. refl), tt)))
  row_laws (Row rule.AfterGroup) = ((λ values b. refl), tt)
  row_laws (Row rule.Bars) = ((λ values b. refl), ((λ values b. ap (λ list. line_read (shown.Cases list) b) (append_assoc b.parts (b.atoms ∷ []) (values.1.0 ∷ values.1.1.0))), tt))
  row_laws (Row rule.LinePart) = ((λ values b. refl), ((λ values b. refl), ((λ values b. refl), tt)))
  row_laws (Row rule.Group) = ((λ values b. refl), tt)
  row_laws (Row rule.MoreAtoms) = ((λ values b. ap (λ list. with_atoms list b) (sym (append-nil b.atoms))), ((λ values b. ap (λ list. with_atoms list b) (append_assoc b.atoms (values.1.0 ∷ []) values.1.1.0)), tt))
  row_laws (Row rule.Facts) = ((λ values b. refl), ((λ values b. refl), tt))
  row_laws (Row rule.Atom) = ((λ values b. refl), ((λ values b. refl), tt))
  row_laws (Row rule.AfterName) = ((λ values b. refl), ((λ values b. refl), ((λ values b. refl), ((λ values b. refl), tt))))
  row_laws (Row rule.AfterNegated) = ((λ values b. refl), ((λ values b. refl), tt))
  row_laws (Row (rule.Acts does)) = ((λ values b. refl), tt)
  row_laws (Row (rule.Does does)) = ((λ values b. refl), tt)

  pub isar_building : IsBuilding isar_rests Value (isar_making lexed) (acts lexed) passes (effect lexed)
  isar_building =
      building_by isar_rests Value of_token (makers lexed) (acts lexed) passes (effect lexed) token_law row_laws
