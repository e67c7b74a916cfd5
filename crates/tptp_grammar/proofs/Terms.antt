-- Terms, and lists of values with commas between them.
use Rattle.std.specs.Prelude.{◌≡◌, ◌+◌, ◌↔◌, IsTrue, ℕ, List, [], ◌∷◌, ◌++◌}
use Rattle.std.specs.List.{AllByRecursion}
use Rattle.std.proofs.Common.{refl, sym, ◌∙◌, inl, inr, subst}
use Rattle.text_core.specs.Lists.{IsAmong}
use Rattle.text_core.proofs.Laws.{among_back}
use Rattle.text_core.specs.Names.{Text}
use Rattle.text_core.specs.NameTexts.{is_upper_word}
use Rattle.logic_core.specs.Allowed.{TermIsBound, AreVariables}
use Rattle.logic_core.specs.declared.formula.Term.{Term}
use Rattle.logic_core.specs.declared.formula.Term.TheVariants.{Variable, Constant}
use Rattle.tptp_lexer.specs.declared.kind.Kind.TheVariants as kind
use Rattle.tptp_lexer.specs.Tokens.{Token}
use Rattle.tptp_grammar.specs.declared.item_part.ItemPart.{ItemPart}
use Rattle.tptp_grammar.specs.declared.item_part.ItemPart.TheVariants as parts
use Rattle.tptp_grammar.specs.Parts.{alternatives}
use Rattle.tptp_grammar.specs.Spells.{SpellsTerm, SpellsArguments, SpellsVariables}
use Rattle.tptp_lexer.specs.Spelling.{SpellsMore, SpellsVariable}
use Rattle.tptp_lexer.specs.Spelling.SpellsMore.{none, more}
use Rattle.tptp_lexer.proofs.Laws.{between_opens, between_behind}
use Rattle.tptp_grammar.proofs.Watching.{Watching, nothing, joined, right, left, chosen, meaning, respelled, rescoped, loosened}
use Rattle.tptp_grammar.proofs.Single.{token_of, closes_of, word_of, used_of, bound_of, upper_name}

-- a name moves to the front of a scope
moved : (x : Text) (xs scope : List Text) (y : Text) → IsAmong y (xs ++ (x ∷ scope)) ↔ IsAmong y (x ∷ (xs ++ scope))
moved x xs scope y = (forward xs, backward xs)
  where
    forward : (zs : List Text) → IsAmong y (zs ++ (x ∷ scope)) → IsAmong y (x ∷ (zs ++ scope))
    forward [] h = h
    forward (z ∷ zs) (inl here) = inr (inl here)
    forward (z ∷ zs) (inr h) = past z zs (forward zs h)
      where
        past : (z : Text) (zs : List Text) → IsAmong y (x ∷ (zs ++ scope)) → IsAmong y (x ∷ z ∷ (zs ++ scope))
        past z zs (inl here) = inl here
        past z zs (inr h) = inr (inr h)

    backward : (zs : List Text) → IsAmong y (x ∷ (zs ++ scope)) → IsAmong y (zs ++ (x ∷ scope))
    backward zs (inl here) = among_back y zs (x ∷ scope) (inl here)
    backward [] (inr h) = inr h
    backward (z ∷ zs) (inr (inl here)) = inl here
    backward (z ∷ zs) (inr (inr h)) = inr (backward zs (inr h))

module _ (all : List Token) where
  -- the left side of an equation is no part of its own
  pub variable_watched : {level : ℕ} {scope : List Text} (x : Text) (us : List Token) → SpellsTerm (Variable x) us →
      Watching all (parts.Variable level ∷ []) level level us scope scope (TermIsBound scope (Variable x))
  variable_watched {level = level} {scope = scope} x us (t, e, name, split) =
      respelled all (sym split)
      (subst (λ y. Watching all (parts.Variable level ∷ []) level level (t ∷ []) scope scope (TermIsBound scope (Variable y)))
      (sym (name ∙ upper_name t e)) (used_of all t e))

  -- a constant on the left side of an equation
  pub constant_watched : {level : ℕ} {scope : List Text} (c : Text) (us : List Token) → SpellsTerm (Constant c) us →
      Watching all (parts.Word ∷ []) level level us scope scope (TermIsBound scope (Constant c))
  constant_watched c us (t, w, name, split) = respelled all (sym split) (word_of all t w)

  -- a term
  pub term_watched : {level : ℕ} {scope : List Text} (s : Term) (us : List Token) → SpellsTerm s us →
      Watching all (parts.Term level ∷ []) level level us scope scope (TermIsBound scope s)
  term_watched (Variable x) us spelled = chosen all (inl refl) (variable_watched x us spelled)
  term_watched (Constant c) us spelled = chosen all (inr (inl refl)) (constant_watched c us spelled)

  -- further values that leave the scope as it is
  pub more_watched : {X : Type 0} {spells : X → List Token → Type 0} {level : ℕ} {scope : List Text} {xs : List X} {us : List Token}
      (one rest : ItemPart) (B : X → Type 0) → IsAmong [] (alternatives rest) →
      IsAmong (parts.Token kind.Comma ∷ one ∷ rest ∷ []) (alternatives rest) →
      ((x : X) (ts : List Token) → spells x ts → Watching all (one ∷ []) level level ts scope scope (B x)) → SpellsMore spells xs us →
      Watching all (rest ∷ []) level level us scope scope (AllByRecursion B xs)
  more_watched one rest B ends goes_on single none = chosen all ends (nothing all)
  more_watched one rest B ends goes_on single (more {x = x} comma us vs mark first later split) =
      respelled all (sym split)
      (chosen all goes_on (right all (token_of all kind.Comma comma refl mark)
      (joined all (single x us first) (more_watched one rest B ends goes_on single later))))

  -- the arguments of an atom, or none
  pub arguments_watched : {level : ℕ} {scope : List Text} (ss : List Term) (us : List Token) → SpellsArguments ss us →
      Watching all (parts.AfterWord level ∷ []) level level us scope scope (AllByRecursion (TermIsBound scope) ss)
  arguments_watched [] us spelled = respelled all (sym spelled) (chosen all (inl refl) (nothing all))
  arguments_watched {level = level} {scope = scope} (s ∷ ss) us spelled =
      let opened = between_opens spelled in
      respelled all (sym opened.split)
      (chosen all (inr (inl refl))
      (right all (token_of all kind.OpenParenthesis spelled.first refl spelled.opens)
      (joined all (term_watched s opened.front opened.value)
      (left all (more_watched (parts.Term level) (parts.TermsRest level) (TermIsBound scope) (inl refl) (inr (inl refl)) term_watched opened.further)
      (closes_of all spelled.last spelled.closes)))))

  -- a variable of a quantifier's list
  bound_watched : {level : ℕ} {scope : List Text} (x : Text) (us : List Token) → SpellsVariable x us →
      Watching all (parts.Binds (level + 1) ∷ []) level (level + 1) us scope (x ∷ scope) (IsTrue (is_upper_word x))
  bound_watched {level = level} {scope = scope} x us (t, e, name, split) =
      respelled all (sym split)
      (subst (λ y. Watching all (parts.Binds (level + 1) ∷ []) level (level + 1) (t ∷ []) scope (y ∷ scope) (IsTrue (is_upper_word y)))
      (sym (name ∙ upper_name t e)) (bound_of all t e))

  -- further variables of a quantifier's list
  more_bound : {level : ℕ} {scope : List Text} {xs : List Text} {us : List Token} → SpellsMore SpellsVariable xs us →
      Watching all (parts.BindsRest (level + 1) ∷ []) level (level + 1) us scope (xs ++ scope)
      (AllByRecursion (λ x. IsTrue (is_upper_word x)) xs)
  more_bound none = chosen all (inl refl) (nothing all)
  more_bound {scope = scope} (more {x = x} {xs = xs} comma us vs mark first later split) =
      respelled all (sym split)
      (chosen all (inr (inl refl)) (right all (token_of all kind.Comma comma refl mark)
      (joined all (bound_watched x us first) (rescoped all (moved x xs scope) (more_bound later)))))

  -- the list of a quantifier and its body
  pub quantified_watched : {level : ℕ} {scope : List Text} {vs : List Token} {B : Type 0} (xs : List Text) (us : List Token)
      (colon : Token) → SpellsVariables xs us → colon.kind ≡ kind.Colon →
      Watching all (parts.Unitary (level + 1) ∷ []) (level + 1) (level + 1) vs (xs ++ scope) (xs ++ scope) B →
      Watching all (parts.Quantified (level + 1) ∷ []) level (level + 1) (us ++ (colon ∷ vs)) scope (xs ++ scope) (AreVariables xs × B)
  quantified_watched [] us colon spelled mark body = absurd spelled.listed
  quantified_watched {level = level} {scope = scope} {vs = vs} (x ∷ xs) us colon spelled mark body =
      let opened = between_opens spelled in
      respelled all (between_behind spelled opened (colon ∷ vs))
      (chosen all (inl refl)
      (meaning all (λ h. ((tt, (h.0, h.1.0)), h.1.1)) (λ h. (h.0.1.0, (h.0.1.1, h.1)))
      (right all (token_of all kind.OpenBracket spelled.first refl spelled.opens)
      (joined all (bound_watched x opened.front opened.value)
      (joined all (rescoped all (moved x xs scope) (more_bound opened.further))
      (right all (token_of all kind.CloseBracket spelled.last refl spelled.closes)
      (right all (token_of all kind.Colon colon refl mark) (loosened all level body))))))))
