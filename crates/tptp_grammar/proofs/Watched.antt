-- Items: their parts take what they spell, and the watcher finds nothing in it exactly where each formula is closed.
use Rattle.std.specs.Prelude.{◌≡◌, true, List, [], ◌∷◌, ◌++◌, Option, Some, None}
use Rattle.std.specs.List.{AllByRecursion}
use Rattle.std.proofs.Common.{refl, sym, ◌∙◌, ap, inl, inr, append_assoc}
use Rattle.text_core.proofs.Laws.{each_member}
use Rattle.text_core.specs.Names.{Text}
use Rattle.logic_core.specs.Allowed.{IsBoundIn}
use Rattle.logic_core.specs.declared.problem.Fof.{Fof}
use Rattle.logic_core.specs.declared.problem.Item.{Item}
use Rattle.logic_core.specs.declared.problem.Item.TheVariants.{Fof as ItemFof, Include}
use Rattle.token_grammar.specs.Taken.{Taken}
use Rattle.token_grammar.specs.Watch.{Sees}
use Rattle.tptp_lexer.specs.declared.kind.Kind.TheVariants as kind
use Rattle.tptp_lexer.specs.Tokens.{Token}
use Rattle.tptp_lexer.specs.Kinds.{kind_of}
use Rattle.tptp_grammar.specs.declared.item_part.ItemPart.{ItemPart}
use Rattle.tptp_grammar.specs.declared.item_part.ItemPart.TheVariants as parts
use Rattle.tptp_grammar.specs.Parts.{fof_items}
use Rattle.tptp_grammar.specs.Limits.{Bindings, items_watcher}
use Rattle.tptp_grammar.specs.Marks.{marks_of}
use Rattle.tptp_grammar.specs.Spells.{SpellsFof, SpellsInclude, SpellsSelection, SpellsItem, SpellsItems, IsAnnotation, ItemIsClosed}
use Rattle.tptp_lexer.specs.Spelling.{IsNaming, SpellsName}
use Rattle.tptp_lexer.proofs.Laws.{between_opens, between_behind}
use Rattle.tptp_grammar.specs.Spells.IsAnnotation.{no_annotation, source_alone, source_with}
use Rattle.tptp_grammar.proofs.Agreement.{agrees_nowhere}
use Rattle.tptp_grammar.proofs.Watching.{Watching, nothing, joined, right, left, chosen, meaning, respelled}
use Rattle.tptp_grammar.proofs.Single.{token_of, naming_of, fof_of, include_of, role_of_token}
use Rattle.tptp_grammar.proofs.Terms.{more_watched}
use Rattle.tptp_grammar.proofs.Scoped.{formula_watched}
use Rattle.tptp_grammar.proofs.Annotated.{general_watched, general_list_watched}

module _ (all : List Token) where
  -- the end of an item
  end_watched : (last dot : Token) → last.kind ≡ kind.CloseParenthesis → dot.kind ≡ kind.Dot →
      Watching all (parts.Token kind.CloseParenthesis ∷ parts.Token kind.Dot ∷ []) 0 0 (last ∷ dot ∷ []) [] [] (Unit {0})
  end_watched last dot closes ends =
      right all (token_of all kind.CloseParenthesis last refl closes)
      (token_of all kind.Dot dot refl ends)

  -- an annotation and the end of its item
  annotation_watched : {annotation : List Token} (last dot : Token) → IsAnnotation annotation → last.kind ≡ kind.CloseParenthesis →
      dot.kind ≡ kind.Dot → Watching all (parts.FofTail ∷ []) 0 0 (annotation ++ (last ∷ dot ∷ [])) [] [] (Unit {0})
  annotation_watched last dot no_annotation closes ends = chosen all (inl refl) (end_watched last dot closes ends)
  annotation_watched last dot (source_alone comma us mark general split) closes ends =
      respelled all (ap (λ ts. ts ++ (last ∷ dot ∷ [])) (sym split))
      (chosen all (inr (inl refl)) (right all (token_of all kind.Comma comma refl mark)
      (right all (general_watched all [] general) (chosen all (inl refl) (end_watched last dot closes ends)))))
  annotation_watched last dot (source_with comma us between vs mark general mark_between list split) closes ends =
      respelled all
      (ap (λ ts. comma ∷ ts) (sym (append_assoc us (between ∷ vs) (last ∷ dot ∷ []))) ∙ ap (λ ts. ts ++ (last ∷ dot ∷ [])) (sym split))
      (chosen all (inr (inl refl)) (right all (token_of all kind.Comma comma refl mark)
      (right all (general_watched all [] general)
      (chosen all (inr (inl refl)) (right all (token_of all kind.Comma between refl mark_between)
      (right all (general_list_watched all [] list) (end_watched last dot closes ends)))))))

  -- a formula's item
  fof_watched : (fof : Fof) (us : List Token) → SpellsFof fof us →
      Watching all (parts.Item ∷ []) 0 0 us [] [] (IsBoundIn [] fof.formula)
  fof_watched fof us s =
      respelled all (sym s.split)
      (chosen all (inl refl) (right all (fof_of all s.word s.is_word.0 s.is_word.1)
      (chosen all (inl refl)
      (right all (token_of all kind.OpenParenthesis s.first refl s.opens)
      (right all (naming_of all s.name s.is_name.0)
      (right all (token_of all kind.Comma s.comma refl s.is_comma)
      (right all (role_of_token all fof.role s.role s.is_role.0 s.is_role.1)
      (right all (token_of all kind.Comma s.between refl s.is_between)
      (left all (formula_watched all [] s.spelled) (annotation_watched s.last s.dot s.annotated s.closes s.is_dot))))))))))

  -- a name of a selection
  naming_watched : (name : Text) (us : List Token) → SpellsName IsNaming name us →
      Watching all (parts.Name ∷ []) 0 0 us [] [] (Unit {0})
  naming_watched name us (t, is_naming, e, split) = respelled all (sym split) (naming_of all t is_naming)

  -- names have no variables
  each_free : (names : List Text) → AllByRecursion (λ name. Unit {0}) names
  each_free [] = tt
  each_free (name ∷ names) = (tt, each_free names)

  -- a selection and the end of its inclusion
  selection_watched : (only : Option (List Text)) (selection : List Token) (last dot : Token) → SpellsSelection only selection →
      last.kind ≡ kind.CloseParenthesis → dot.kind ≡ kind.Dot →
      Watching all (parts.IncludeTail ∷ []) 0 0 (selection ++ (last ∷ dot ∷ [])) [] [] (Unit {0})
  selection_watched None selection last dot spelled closes ends =
      respelled all (ap (λ ts. ts ++ (last ∷ dot ∷ [])) (sym spelled)) (chosen all (inl refl) (end_watched last dot closes ends))
  selection_watched (Some []) selection last dot (comma, us, mark, between, split) closes ends = absurd between.listed
  selection_watched (Some (name ∷ names)) selection last dot (comma, us, mark, between, split) closes ends =
      let opened = between_opens between in
      let ends_so = last ∷ dot ∷ [] in
      respelled all (ap (λ ts. comma ∷ ts) (between_behind between opened ends_so) ∙ ap (λ ts. ts ++ ends_so) (sym split))
      (chosen all (inr (inl refl)) (right all (token_of all kind.Comma comma refl mark)
      (right all (token_of all kind.OpenBracket between.first refl between.opens)
      (right all (naming_watched name opened.front opened.value)
      (right all (meaning all (λ h. tt) (λ h. each_free names)
      (more_watched all parts.Name parts.NamesRest (λ name. Unit {0}) (inl refl) (inr (inl refl)) naming_watched opened.further))
      (right all (token_of all kind.CloseBracket between.last refl between.closes) (end_watched last dot closes ends)))))))

  -- an inclusion
  include_watched : (file : Text) (only : Option (List Text)) (us : List Token) → SpellsInclude file only us →
      Watching all (parts.Item ∷ []) 0 0 us [] [] (Unit {0})
  include_watched file only us s =
      respelled all (sym s.split)
      (chosen all (inr (inl refl)) (right all (include_of all s.word s.is_word.0 s.is_word.1)
      (chosen all (inl refl) (right all (token_of all kind.OpenParenthesis s.first refl s.opens)
      (right all (token_of all kind.Quoted s.quoted refl s.is_file.0)
      (selection_watched only s.selection s.last s.dot s.selected s.closes s.is_dot))))))

  -- an item
  item_watched : (item : Item) (us : List Token) → SpellsItem item us →
      Watching all (parts.Item ∷ []) 0 0 us [] [] (ItemIsClosed item)
  item_watched (ItemFof fof) us spelled = fof_watched fof us spelled
  item_watched (Include file only) us spelled = include_watched file only us spelled

  -- items one after another
  items_watched : (items : List Item) (us : List Token) → SpellsItems items us →
      Watching all (parts.Items ∷ []) 0 0 us [] [] (AllByRecursion ItemIsClosed items)
  items_watched [] us spelled = respelled all (sym spelled) (chosen all (inl refl) (nothing all))
  items_watched (item ∷ items) us (front, back, first, later, split) =
      respelled all (sym split)
      (chosen all (inr (inl refl)) (joined all (item_watched item front first) (items_watched items back later)))

-- the takers of a text of items, and what the watcher finds there
pub record IsWatched (ts : List Token) (items : List Item) : Type 0 where
  pub takers : List ItemPart
  pub taken : Taken fof_items true (parts.Items ∷ []) (marks_of ts) takers
  pub passes : AllByRecursion ItemIsClosed items → (after : Bindings) × Sees items_watcher [] takers (marks_of ts) after
  pub tells : (after : Bindings) → AllByRecursion (λ (t : Token). kind_of t.text ≡ Some t.kind) ts →
      Sees items_watcher [] takers (marks_of ts) after → AllByRecursion ItemIsClosed items

-- the takers of a text of items, with what the watcher finds
pub watched : (ts : List Token) (items : List Item) → SpellsItems items ts → IsWatched ts items
watched ts items spelled =
    let w = items_watched ts items ts spelled in
    record {
      takers = w.takers;
      taken = w.taken;
      passes = λ closed. w.passes [] (λ t h. h) (agrees_nowhere ts) closed;
      tells = λ after proper seen.
          w.tells [] after seen (λ t h. h) (each_member (λ (t : Token). kind_of t.text ≡ Some t.kind) ts proper) (agrees_nowhere ts);
    }
