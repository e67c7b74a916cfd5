-- What the builder does over each row is the effect of the row's value: a line for each row.
use Rattle.std.specs.Prelude.{◌≡◌, List, [], ◌∷◌, None, IsTrue}
use Rattle.std.proofs.Common.{refl, sym, ap, append_assoc, append-nil}
use Rattle.std.proofs.lemmas.Bool.{false≢true}
use Rattle.token_grammar.specs.Building.{IsBuilding, RowLaws}
use Rattle.token_grammar.proofs.Laws.{building_by}
use Rattle.tptp_lexer.specs.Tokens.{Token as LexToken}
use Rattle.proof_text.specs.declared.body.Shown.TheVariants as shown
use Rattle.proof_text.specs.declared.builder.ScriptBuilder.{ScriptBuilder}
use Rattle.proof_text.specs.declared.mark.Token.{Token}
use Rattle.proof_text.specs.declared.part.Edition.TheVariants.{First, Second}
use Rattle.proof_text.specs.declared.part.TextPart as TextPart
use Rattle.proof_text.specs.declared.part.TextPart.TheVariants.{Taken, Row}
use Rattle.proof_text.specs.declared.part.Rule.TheVariants as rule
use Rattle.proof_text.specs.Grammar.{proof_texts, takes, alternatives}
use Rattle.proof_text.specs.Values.{Value, of_token, makers, name_in, proof_text_making}
use Rattle.proof_text.specs.Effects.{acts, passes, effect, cleared, line_read, with_atoms, with_cases}

module _ (ts : List LexToken) where
  -- what is done at a token is the effect of the token
  token_law : (p : TextPart.TextPart) (t : Token) (taken : IsTrue (takes p t)) (b : ScriptBuilder) →
      acts ts p t b ≡ effect ts p (of_token p t taken) b
  token_law (Taken by) t taken b = refl
  token_law (Row r) t taken b = absurd (false≢true taken)

  -- what is done over each row is the effect of its value
  row_laws : (p : TextPart.TextPart) →
      RowLaws Value (effect ts) passes p (alternatives p) (makers ts p)
  row_laws (Taken by) = tt
  row_laws (Row rule.Text) = ((λ values b. refl), tt)
  row_laws (Row rule.Version) = ((λ values b. refl), ((λ values b. refl), ((λ values b. absurd values.1.0), tt)))
  row_laws (Row rule.Never) = tt
  row_laws (Row rule.Head) = ((λ values b. refl), tt)
  row_laws (Row rule.Names) = ((λ values b. refl), tt)
  row_laws (Row rule.ListedNames) = ((λ values b. ap (λ list. record b { names = list }) (sym (append-nil b.names))), ((λ values b. ap (λ list. record b { names = list }) (append_assoc b.names (name_in ts values.0 ∷ []) values.1.0)), tt))
  row_laws (Row rule.MoreNames) = ((λ values b. ap (λ list. record b { names = list }) (sym (append-nil b.names))), ((λ values b. ap (λ list. record b { names = list }) (append_assoc b.names (name_in ts values.1.0 ∷ []) values.1.1.0)), tt))
  row_laws (Row (rule.Body e)) = ((λ values b. ap (λ list. record (cleared b) { steps = []; body = record { steps = list; end = values.1.0.end } }) (append_assoc b.steps (values.0 ∷ []) values.1.0.steps)), ((λ values b. ap (λ list. record (cleared b) { steps = []; body = record { steps = list; end = values.0 } }) (sym (append-nil b.steps))), tt))
  row_laws (Row (rule.Step First)) = ((λ values b. refl), tt)
  row_laws (Row (rule.Step Second)) = ((λ values b. refl), tt)
  row_laws (Row (rule.Given First)) = ((λ values b. refl), tt)
  row_laws (Row (rule.Given Second)) = ((λ values b. refl), ((λ values b. refl), tt))
  row_laws (Row (rule.Finish First)) = ((λ values b. refl), ((λ values b. refl), ((λ values b. refl), tt)))
  row_laws (Row (rule.Finish Second)) = ((λ values b. refl), ((λ values b. refl), ((λ values b. refl), ((λ values b. refl), tt))))
  row_laws (Row rule.SplitEnd) = ((λ values b. refl), tt)
  row_laws (Row (rule.Case e)) = ((λ values b. refl), tt)
  row_laws (Row (rule.MoreCases e)) = ((λ values b. ap (λ list. with_cases list b) (sym (append-nil b.cases))), ((λ values b. ap (λ list. with_cases list b) (append_assoc b.cases (values.0 ∷ []) values.1.0)), tt))
  row_laws (Row (rule.CaseHead First)) = ((λ values b. refl), tt)
  row_laws (Row (rule.CaseHead Second)) = ((λ values b. refl), ((λ values b. refl), tt))
  row_laws (Row rule.Cite) = ((λ values b. refl), ((λ values b. refl), ((λ values b. refl), ((λ values b. refl), ((λ values b. refl), ((λ values b. refl), ((λ values b. refl), tt)))))))
  row_laws (Row rule.Rank) = ((λ values b. refl), ((λ values b. refl), tt))
  row_laws (Row rule.SignedSymbol) = ((λ values b. refl), ((λ values b. refl), tt))
  row_laws (Row rule.Symbol) = ((λ values b. refl), ((λ values b. refl), tt))
  row_laws (Row rule.Binds) = ((λ values b. refl), tt)
  row_laws (Row rule.ListedBinds) = ((λ values b. ap (λ list. record b { word = None; number = 0; binds = list }) (sym (append-nil b.binds))), ((λ values b. ap (λ list. record b { word = None; number = 0; binds = list }) (append_assoc b.binds (values.0 ∷ []) values.1.0)), tt))
  row_laws (Row rule.MoreBinds) = ((λ values b. ap (λ list. record b { word = None; number = 0; binds = list }) (sym (append-nil b.binds))), ((λ values b. ap (λ list. record b { word = None; number = 0; binds = list }) (append_assoc b.binds (values.1.0 ∷ []) values.1.1.0)), tt))
  row_laws (Row rule.Bind) = ((λ values b. refl), tt)
  row_laws (Row rule.Line) = ((λ values b. refl), ((λ values b. refl), ((λ values b. refl), ((λ values b. refl), tt))))
  row_laws (Row rule.AfterTrue) = ((λ values b. refl), ((λ values b. refl), tt))
  row_laws (Row rule.AfterAtom) = ((λ values b. refl), ((λ values b. ap (λ list. line_read (shown.Facts list) b) (append_assoc b.atoms (values.1.0 ∷ []) values.1.1.0)), ((λ values b. refl), tt)))
  row_laws (Row rule.AfterGroup) = ((λ values b. refl), tt)
  row_laws (Row rule.Bars) = ((λ values b. refl), ((λ values b. ap (λ list. line_read (shown.Cases list) b) (append_assoc b.parts (b.atoms ∷ []) (values.1.0 ∷ values.1.1.0))), tt))
  row_laws (Row rule.LinePart) = ((λ values b. refl), ((λ values b. refl), ((λ values b. refl), tt)))
  row_laws (Row rule.Group) = ((λ values b. refl), tt)
  row_laws (Row rule.MoreAtoms) = ((λ values b. ap (λ list. with_atoms list b) (sym (append-nil b.atoms))), ((λ values b. ap (λ list. with_atoms list b) (append_assoc b.atoms (values.1.0 ∷ []) values.1.1.0)), tt))
  row_laws (Row rule.Facts) = ((λ values b. refl), ((λ values b. refl), tt))
  row_laws (Row rule.Atom) = ((λ values b. refl), ((λ values b. refl), tt))
  row_laws (Row rule.AfterWord) = ((λ values b. refl), ((λ values b. refl), ((λ values b. refl), ((λ values b. refl), tt))))
  row_laws (Row rule.AfterNegated) = ((λ values b. refl), ((λ values b. refl), tt))
  row_laws (Row (rule.Does does)) = ((λ values b. refl), tt)

  pub proof_text_building : IsBuilding proof_texts Value (proof_text_making ts) (acts ts) passes (effect ts)
  proof_text_building =
      building_by proof_texts Value of_token (makers ts) (acts ts) passes (effect ts) token_law row_laws
