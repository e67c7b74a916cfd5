-- The mark of a token by its number.
use Rattle.std.proofs.Common.{◌≡◌, ℕ, List, slice_get, Some, refl, sym, ap, ◌∙◌}
use Rattle.std.specs.Prelude.{IsSomeAnd}
use Rattle.std.specs.Option.{option_map}
use Rattle.std.proofs.lemmas.Option.{slice_get-map}
use Rattle.text_core.specs.Names.{Text}
use Rattle.tptp_lexer.specs.declared.kind.Kind.{Kind}
use Rattle.tptp_lexer.specs.declared.kind.Kind.TheVariants.{Upper}
use Rattle.tptp_lexer.specs.Numbering.{number_of}
use Rattle.tptp_lexer.specs.Tokens.{Token}
use Rattle.tptp_grammar.specs.declared.mark.Mark.{Mark}
use Rattle.tptp_grammar.specs.declared.mark.Mark.TheVariants.{Upper as UpperMark}
use Rattle.tptp_grammar.specs.Marks.{marked, mark_in, marks_of}

module _ (ts : List Token) (n : ℕ) (t : Token) (there : slice_get ts n ≡ Some t) where
  -- the mark of the token there is that of its kind and its text
  pub mark_there : (kind : Kind) (text : Text) → kind ≡ t.kind → text ≡ t.text → (m : Mark) → m ≡ marked ts kind text →
      slice_get (marks_of ts) n ≡ Some m
  mark_there kind text k x m is =
      slice_get-map (mark_in ts) ts n ∙ ap (option_map (mark_in ts)) there ∙ (λ i. Some (marked ts (sym k i) (sym x i))) ∙ ap Some (sym is)

  -- the mark of an upper word has its number
  pub mark_upper : Upper ≡ t.kind → (number : ℕ) → IsSomeAnd (slice_get ts n) (λ t. number ≡ number_of ts t.text) →
      slice_get (marks_of ts) n ≡ Some (UpperMark number)
  mark_upper upper number is = mark_there Upper t.text upper refl (UpperMark number) (ap UpperMark (rw there at is))
