-- Formulas: the watcher finds nothing in what a formula spells exactly where the formula is bound in the scope.
use Rattle.std.specs.Prelude.{◌≡◌, ◌+◌, ℕ, Bool, true, false, List, [], ◌∷◌, ◌++◌}
use Rattle.std.specs.List.{AllByRecursion}
use Rattle.std.proofs.Common.{refl, sym, ◌∙◌, inl, inr, subst, append-nil}
use Rattle.text_core.specs.Lists.{IsAmong}
use Rattle.text_core.specs.Names.{Text}
use Rattle.logic_core.proofs.Laws.{row_of, Not_opens, And_opens, Or_opens, Binary_opens, ForAll_opens, Exists_opens}
use Rattle.logic_core.specs.Allowed.{TermIsBound, AreVariables, IsBoundIn, EachIsBoundIn, TwoOrMore}
use Rattle.logic_core.specs.declared.formula.Term.{Term}
use Rattle.logic_core.specs.declared.formula.Term.TheVariants.{Variable, Constant}
use Rattle.logic_core.specs.declared.formula.Formula.{Formula, Equal}
use Rattle.tptp_lexer.specs.declared.kind.Kind.{Kind}
use Rattle.tptp_lexer.specs.declared.kind.Kind.TheVariants as kind
use Rattle.tptp_lexer.specs.Tokens.{Token}
use Rattle.tptp_grammar.specs.declared.item_part.ItemPart.{ItemPart}
use Rattle.tptp_grammar.specs.declared.item_part.ItemPart.TheVariants as parts
use Rattle.tptp_grammar.specs.declared.mark.Mark.TheVariants.{Truth}
use Rattle.tptp_grammar.specs.Marks.{dollar_mark}
use Rattle.tptp_grammar.specs.Parts.{alternatives}
use Rattle.tptp_grammar.specs.Spells.{SpellsTerm, SpellsFormula, SpellsRest, SpellsUnitary, Chain, chain_kind, chain_of, Quantifier, quantifier_kind, quantify, truth_text, truth_formula}
use Rattle.tptp_grammar.specs.Spells.Quantifier.{for_all, there_is}
use Rattle.tptp_grammar.specs.Spells.Chain.{conjunction, disjunction}
use Rattle.tptp_grammar.specs.Spells.SpellsFormula.{alone, chain, binary}
use Rattle.tptp_grammar.specs.Spells.SpellsRest.{end, further}
use Rattle.tptp_grammar.specs.Spells.SpellsUnitary.{brackets, negation, quantified, truth, atom, equation, inequality}
use Rattle.tptp_grammar.proofs.Watching.{Watching, nothing, joined, right, left, chosen, meaning, respelled, deeper, loosened}
use Rattle.tptp_grammar.proofs.Single.{is_other, takes_other, token_of, word_of, op_of, truth_of}
use Rattle.tptp_grammar.proofs.Terms.{variable_watched, constant_watched, term_watched, arguments_watched, quantified_watched}

-- bound formulas in a list, and in its row
each_bound : (scope : List Text) (gs : List Formula) → AllByRecursion (IsBoundIn scope) gs → EachIsBoundIn scope (row_of gs)
unfolding row_of
each_bound scope [] all = tt
each_bound scope (g ∷ gs) all = (all.0, each_bound scope gs all.1)

-- formulas that are bound in a row are bound in the list
bound_each : (scope : List Text) (gs : List Formula) → EachIsBoundIn scope (row_of gs) → AllByRecursion (IsBoundIn scope) gs
unfolding row_of
bound_each scope [] all = tt
bound_each scope (g ∷ gs) all = (all.0, bound_each scope gs all.1)

-- a row of two formulas and more has two members at least
two_or_more : (g h : Formula) (gs : List Formula) → TwoOrMore (row_of (g ∷ h ∷ gs))
unfolding row_of
two_or_more g h gs = tt

module _ (scope : List Text) where
  -- a chain is bound where each member is
  chain_bound : (c : Chain) (g h : Formula) (gs : List Formula) → AllByRecursion (IsBoundIn scope) (g ∷ h ∷ gs) →
      IsBoundIn scope (chain_of c (g ∷ h ∷ gs))
  chain_bound conjunction g h gs all =
      subst (IsBoundIn scope) (sym (And_opens (g ∷ h ∷ gs))) (two_or_more g h gs, each_bound scope (g ∷ h ∷ gs) all)
  chain_bound disjunction g h gs all =
      subst (IsBoundIn scope) (sym (Or_opens (g ∷ h ∷ gs))) (two_or_more g h gs, each_bound scope (g ∷ h ∷ gs) all)

  -- each member of a bound chain is bound
  bound_chain : (c : Chain) (g h : Formula) (gs : List Formula) → IsBoundIn scope (chain_of c (g ∷ h ∷ gs)) →
      AllByRecursion (IsBoundIn scope) (g ∷ h ∷ gs)
  bound_chain conjunction g h gs bound = bound_each scope (g ∷ h ∷ gs) (subst (IsBoundIn scope) (And_opens (g ∷ h ∷ gs)) bound).1
  bound_chain disjunction g h gs bound = bound_each scope (g ∷ h ∷ gs) (subst (IsBoundIn scope) (Or_opens (g ∷ h ∷ gs)) bound).1

-- a part for further members ends, or goes on with a member and the later part
abbrev IsRest : Kind → ℕ → ItemPart → ItemPart → Type 0
IsRest k level r later =
    IsAmong [] (alternatives r) × IsAmong (parts.Token k ∷ parts.Unitary level ∷ later ∷ []) (alternatives r)

-- the part for further members of a chain
abbrev later_of : Chain → ℕ → ItemPart
later_of conjunction level = parts.AndRest level
later_of disjunction level = parts.OrRest level

-- the rest of a formula ends, or goes on with a chain
first_rest : (c : Chain) (level : ℕ) → IsRest (chain_kind c) level (parts.FormulaRest level) (later_of c level)
first_rest conjunction level = (inl refl, inr (inl refl))
first_rest disjunction level = (inl refl, inr (inr (inl refl)))

-- the rest of a chain ends, or goes on with a further member
later_rest : (c : Chain) (level : ℕ) → IsRest (chain_kind c) level (later_of c level) (later_of c level)
later_rest conjunction level = (inl refl, inr (inl refl))
later_rest disjunction level = (inl refl, inr (inl refl))

-- no mark of its own tells the sign of a chain
chain_other : (c : Chain) → is_other (chain_kind c) ≡ true
chain_other conjunction = refl
chain_other disjunction = refl

-- the alternative of a quantifier
quantifier_row : (q : Quantifier) (level : ℕ) →
    IsAmong (parts.Opens (level + 1) (quantifier_kind q) ∷ parts.Quantified (level + 1) ∷ []) (alternatives (parts.Unitary level))
quantifier_row for_all level = inr (inr (inl refl))
quantifier_row there_is level = inr (inr (inr (inl refl)))

-- no mark of its own tells a quantifier
quantifier_other : (q : Quantifier) → is_other (quantifier_kind q) ≡ true
quantifier_other for_all = refl
quantifier_other there_is = refl

-- a quantified formula is bound where its body is
quantify_bound : (q : Quantifier) (xs : List Text) (g : Formula) (scope : List Text) →
    AreVariables xs × IsBoundIn (xs ++ scope) g → IsBoundIn scope (quantify q xs g)
quantify_bound for_all xs g scope h = subst (IsBoundIn scope) (sym (ForAll_opens xs g)) h
quantify_bound there_is xs g scope h = subst (IsBoundIn scope) (sym (Exists_opens xs g)) h

-- the body of a bound quantified formula is bound
bound_quantify : (q : Quantifier) (xs : List Text) (g : Formula) (scope : List Text) → IsBoundIn scope (quantify q xs g) →
    AreVariables xs × IsBoundIn (xs ++ scope) g
bound_quantify for_all xs g scope h = subst (IsBoundIn scope) (ForAll_opens xs g) h
bound_quantify there_is xs g scope h = subst (IsBoundIn scope) (Exists_opens xs g) h

-- a truth value has no variables
truth_bound : (value : Bool) (scope : List Text) → IsBoundIn scope (truth_formula value)
truth_bound true scope = tt
truth_bound false scope = tt

-- the mark of a truth value's word
truth_marked : (value : Bool) → dollar_mark (truth_text value) ≡ Truth value
truth_marked true = refl
truth_marked false = refl

module _ (all : List Token) where
  -- a formula, told by an equation
  said : {row : List ItemPart} {low high : ℕ} {us : List Token} {scope last : List Text} {f g : Formula} → f ≡ g →
      Watching all row low high us scope last (IsBoundIn scope g) → Watching all row low high us scope last (IsBoundIn scope f)
  said {scope = scope} e w = meaning all (subst (IsBoundIn scope) (sym e)) (subst (IsBoundIn scope) e) w

  -- the sides of an equation or an inequality
  equated : {level : ℕ} {scope : List Text} (k : Kind) → is_other k ≡ true →
      IsAmong (parts.Token k ∷ parts.Term level ∷ []) (alternatives (parts.Equation level)) →
      IsAmong (parts.Token k ∷ parts.Term level ∷ []) (alternatives (parts.AfterWord level)) →
      (s u : Term) (us : List Token) (between : Token) (vs : List Token) → SpellsTerm s us → between.kind ≡ k → SpellsTerm u vs →
      Watching all (parts.Unitary level ∷ []) level level (us ++ (between ∷ vs)) scope scope (TermIsBound scope s × TermIsBound scope u)
  equated k other behind_variable behind_word (Variable x) u us between vs first mark second =
      chosen all (inr (inr (inr (inr (inr (inr (inl refl)))))))
      (joined all (variable_watched all x us first)
      (chosen all behind_variable (right all (token_of all k between other mark) (term_watched all u vs second))))
  equated k other behind_variable behind_word (Constant c) u us between vs first mark second =
      chosen all (inr (inr (inr (inr (inr (inl refl))))))
      (joined all (constant_watched all c us first)
      (chosen all behind_word (right all (token_of all k between other mark) (term_watched all u vs second))))

  mutual
    -- a formula, where its variables are bound in the scope
    pub formula_watched : {level : ℕ} {f : Formula} {us : List Token} (scope : List Text) → SpellsFormula level f us →
        Watching all (parts.Formula level ∷ []) level level us scope scope (IsBoundIn scope f)
    formula_watched {us = us} scope (alone unit) =
        respelled all (append-nil us)
        (chosen all (inl refl) (left all (unit_watched scope unit) (chosen all (inl refl) (nothing all))))
    formula_watched scope (chain {level = level} c g h gs us vs first rest shape split) =
        respelled all (sym split)
        (said shape (meaning all (chain_bound scope c g h gs) (bound_chain scope c g h gs)
        (chosen all (inl refl) (joined all (unit_watched scope first)
        (rest_watched scope (parts.FormulaRest level) (later_of c level) (chain_other c) (first_rest c level)
        (later_rest c level) rest)))))
    formula_watched scope (binary {level = level} o g h us between vs first mark second shape split) =
        respelled all (sym split)
        (said (shape ∙ Binary_opens o g h)
        (chosen all (inl refl) (joined all (unit_watched scope first)
        (chosen all (inr (inr (inr (inl refl)))) (right all (op_of all o between mark) (unit_watched scope second))))))

    -- further members of a chain
    rest_watched : {k : Kind} {level : ℕ} {gs : List Formula} {us : List Token} (scope : List Text) (r later : ItemPart) → is_other k ≡ true →
        IsRest k level r later → IsRest k level later later → SpellsRest k level gs us →
        Watching all (r ∷ []) level level us scope scope (AllByRecursion (IsBoundIn scope) gs)
    rest_watched scope r later other at_first at_later end = chosen all at_first.0 (nothing all)
    rest_watched scope r later other at_first at_later (further {k = k} before us vs mark first others split) =
        respelled all (sym split)
        (chosen all at_first.1 (right all (token_of all k before other mark)
        (joined all (unit_watched scope first) (rest_watched scope later later other at_later at_later others))))

    -- a unit formula
    unit_watched : {level : ℕ} {f : Formula} {us : List Token} (scope : List Text) → SpellsUnitary level f us →
        Watching all (parts.Unitary level ∷ []) level level us scope scope (IsBoundIn scope f)
    unit_watched scope (brackets {level = level} first ts last below opens inner closes split) =
        respelled all (sym split)
        (chosen all (inl refl)
        (deeper all level kind.OpenParenthesis first below (takes_other all first kind.OpenParenthesis refl opens)
        (loosened all level
        (left all (formula_watched scope inner) (token_of all kind.CloseParenthesis last refl closes)))))
    unit_watched scope (negation {level = level} g first ts below mark inner shape split) =
        respelled all (sym split)
        (said (shape ∙ Not_opens g)
        (chosen all (inr (inl refl))
        (deeper all level kind.Tilde first below (takes_other all first kind.Tilde refl mark)
        (loosened all level (unit_watched scope inner)))))
    unit_watched scope (quantified {level = level} q xs g first us colon vs below mark variables behind inner shape split) =
        respelled all (sym split)
        (said shape
        (meaning all (quantify_bound q xs g scope) (bound_quantify q xs g scope)
        (chosen all (quantifier_row q level)
        (deeper all level (quantifier_kind q) first below
        (takes_other all first (quantifier_kind q) (quantifier_other q) mark)
        (quantified_watched all xs us colon variables behind (unit_watched (xs ++ scope) inner))))))
    unit_watched scope (truth value t mark text shape split) =
        respelled all (sym split)
        (said shape (meaning all (λ h. truth_bound value scope) (λ h. tt)
        (chosen all (inr (inr (inr (inr (inl refl))))) (truth_of all value (truth_text value) t mark text (truth_marked value)))))
    unit_watched scope (atom word arguments ts is_word spelled shape split) =
        respelled all (sym split)
        (said shape
        (chosen all (inr (inr (inr (inr (inr (inl refl)))))) (right all (word_of all word is_word) (arguments_watched all arguments ts spelled))))
    unit_watched scope (equation s u us between vs first mark second shape split) =
        respelled all (sym split)
        (said shape
        (equated kind.Equal refl (inl refl) (inr (inr (inl refl))) s u us between vs first mark second))
    unit_watched scope (inequality s u us between vs first mark second shape split) =
        respelled all (sym split)
        (said (shape ∙ Not_opens (Equal s u))
        (equated kind.NotEqual refl (inr (inl refl)) (inr (inr (inr (inl refl)))) s u us between vs first mark second))
