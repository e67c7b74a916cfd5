-- A unit formula: what is spelled is read, where the formulas in it are.
use Rattle.std.specs.Prelude.{◌≡◌, Bool, true, false, List, [], ◌∷◌, ◌++◌, Some, refl}
use Rattle.std.specs.Option.{option_and_then}
use Rattle.std.proofs.Common.{ap, ◌∙◌, ◌⊎◌, inl, inr, append_assoc}
use Rattle.text_core.specs.Names.{Text}
use Rattle.logic_core.specs.declared.formula.Term.{Term}
use Rattle.logic_core.specs.declared.formula.Term.TheVariants.{Variable, Constant}
use Rattle.logic_core.specs.declared.formula.Formula.{Formula, Pred, Equal, Not}
use Rattle.tptp_lexer.specs.declared.kind.Kind.{Kind}
use Rattle.tptp_lexer.specs.declared.kind.Kind.TheVariants as kind
use Rattle.tptp_lexer.specs.Tokens.{Token, name_of}
use Rattle.tptp_grammar.specs.Reading.{term_at, term_from, equation_at, equation_from, atom_at, atom_from, quantified_from, truth_from, unit_of, unit_with}
use Rattle.tptp_lexer.specs.Reading.{Read, behind, reread}
use Rattle.tptp_grammar.specs.Spells.{SpellsTerm, SpellsArguments, SpellsVariables, Quantifier, quantifier_kind, quantify, truth_text, truth_formula}
use Rattle.tptp_lexer.specs.Spelling.{IsWord}
use Rattle.tptp_grammar.specs.Spells.Quantifier.{for_all, there_is}
use Rattle.tptp_grammar.proofs.Endings.{ends_unit, Ends, atom-alone}
use Rattle.tptp_lexer.proofs.Laws.{behind-here, ReadsSpelled, listed_read, variables_read}

-- a term that is spelled is read
pub term_read : ReadsSpelled SpellsTerm term_from
unfolding term_from
term_read (Variable x) us rest s = let (t, is, name, split) = s in
    rw (split, name) (ap (λ k. term_at k (name_of t) rest) is)
term_read (Constant x) us rest s = let (t, is, name, split) = s in
    rw (split, name) (by t is)
  where
    by : (t : Token) → IsWord t → term_at t.kind (name_of t) rest ≡ Some (Constant (name_of t), rest)
    by t (inl is) = ap (λ k. term_at k (name_of t) rest) is
    by t (inr is) = ap (λ k. term_at k (name_of t) rest) is

module _ (below inside : List Token → Read Formula) where
  -- a unit formula by the kind of its first token
  first_kind : (k : Kind) (t : Token) (ts : List Token) → t.kind ≡ k → unit_with below inside (t ∷ ts) ≡ unit_of below inside k t ts
  unfolding unit_with
  first_kind k t ts is = ap (λ k. unit_of below inside k t ts) is

  -- a formula in brackets
  pub brackets_read : (f : Formula) (first last : Token) (us ts rest : List Token) → first.kind ≡ kind.OpenParenthesis →
      last.kind ≡ kind.CloseParenthesis → us ≡ first ∷ (ts ++ (last ∷ [])) → inside (ts ++ (last ∷ rest)) ≡ Some (f, last ∷ rest) →
      unit_with below inside (us ++ rest) ≡ Some (f, rest)
  brackets_read f first last us ts rest opens closes split read =
      rw (split, append_assoc ts (last ∷ []) rest)
      (first_kind kind.OpenParenthesis first (ts ++ (last ∷ rest)) opens ∙
      (ap (option_and_then (λ (read : Formula × List Token). option_and_then (λ ts. Some (read.0, ts)) (behind kind.CloseParenthesis read.1))) read ∙
      ap (option_and_then (λ ts. Some (f, ts))) (behind-here kind.CloseParenthesis last rest closes)))

  -- a negation
  pub negation_read : (g : Formula) (first : Token) (us ts rest : List Token) → first.kind ≡ kind.Tilde → us ≡ first ∷ ts →
      below (ts ++ rest) ≡ Some (g, rest) → unit_with below inside (us ++ rest) ≡ Some (Not g, rest)
  negation_read g first us ts rest is split read =
      rw split (first_kind kind.Tilde first (ts ++ rest) is ∙ ap (reread Not) read)

  -- the variables and the body of a quantifier
  body_read : (quantifier : List Text → Formula → Formula) (xs : List Text) (g : Formula) (us : List Token) (colon : Token)
      (vs rest : List Token) → SpellsVariables xs us → colon.kind ≡ kind.Colon → below (vs ++ rest) ≡ Some (g, rest) →
      quantified_from quantifier below ((us ++ (colon ∷ vs)) ++ rest) ≡ Some (quantifier xs g, rest)
  body_read quantifier xs g us colon vs rest s is read =
      rw (append_assoc us (colon ∷ vs) rest)
      (ap (option_and_then (λ (xs : List Text × List Token). option_and_then (λ ts. reread (quantifier xs.0) (below ts)) (behind kind.Colon xs.1)))
      (variables_read xs us (colon ∷ (vs ++ rest)) s) ∙
      (ap (option_and_then (λ ts. reread (quantifier xs) (below ts))) (behind-here kind.Colon colon (vs ++ rest) is) ∙
      ap (reread (quantifier xs)) read))

  -- a quantifier by its first token
  quantifier_first : (q : Quantifier) (t : Token) (ts : List Token) → t.kind ≡ quantifier_kind q →
      unit_with below inside (t ∷ ts) ≡ quantified_from (quantify q) below ts
  quantifier_first for_all t ts is = first_kind kind.Exclamation t ts is
  quantifier_first there_is t ts is = first_kind kind.Question t ts is

  -- a quantified formula
  pub quantified_read : (q : Quantifier) (xs : List Text) (g : Formula) (first : Token) (us : List Token) (colon : Token)
      (vs all rest : List Token) → first.kind ≡ quantifier_kind q → SpellsVariables xs us → colon.kind ≡ kind.Colon →
      all ≡ first ∷ (us ++ (colon ∷ vs)) → below (vs ++ rest) ≡ Some (g, rest) →
      unit_with below inside (all ++ rest) ≡ Some (quantify q xs g, rest)
  quantified_read q xs g first us colon vs all rest opens s is split read =
      rw split (quantifier_first q first ((us ++ (colon ∷ vs)) ++ rest) opens ∙ body_read (quantify q) xs g us colon vs rest s is read)

  -- a truth value
  pub truth_read : (value : Bool) (t : Token) (us rest : List Token) → t.kind ≡ kind.Dollar → t.text ≡ truth_text value →
      us ≡ t ∷ [] → unit_with below inside (us ++ rest) ≡ Some (truth_formula value, rest)
  truth_read true t us rest is text split = rw split (first_kind kind.Dollar t rest is ∙ ap (λ text. truth_from text rest) text)
  truth_read false t us rest is text split = rw split (first_kind kind.Dollar t rest is ∙ ap (λ text. truth_from text rest) text)

  -- a unit whose first token is a word is an atom or an equation
  word_first : (t : Token) (ts : List Token) → IsWord t → unit_with below inside (t ∷ ts) ≡ atom_from (name_of t) ts
  word_first t ts (inl is) = first_kind kind.Lower t ts is
  word_first t ts (inr is) = first_kind kind.Quoted t ts is

  -- an atom behind its word
  arguments_read : (name : Text) (ss : List Term) (ts rest : List Token) → SpellsArguments ss ts → Ends ends_unit rest →
      atom_from name (ts ++ rest) ≡ Some (Pred name ss, rest)
  unfolding atom_from
  arguments_read name [] ts rest s ends = rw s (atom-alone name rest ends)
  arguments_read name (s ∷ ss) ts rest args ends =
      rw (args.split, append_assoc args.inner (args.last ∷ []) rest)
      (ap (λ k. atom_at k name args.first (args.inner ++ (args.last ∷ rest))) args.opens ∙
      ap (reread (Pred name)) (listed_read SpellsTerm term_from term_read kind.CloseParenthesis refl (s ∷ ss) args.inner args.listed args.last args.closes rest))

  -- an atom
  pub atom_read : (word : Token) (ss : List Term) (ts us rest : List Token) → IsWord word → SpellsArguments ss ts → us ≡ word ∷ ts →
      Ends ends_unit rest → unit_with below inside (us ++ rest) ≡ Some (Pred (name_of word) ss, rest)
  atom_read word ss ts us rest is s split ends = rw split (word_first word (ts ++ rest) is ∙ arguments_read (name_of word) ss ts rest s ends)

  -- the token between the sides of an equation, or of an inequality
  abbrev IsSign : Kind → Type 0
  IsSign k = (k ≡ kind.Equal) ⊎ (k ≡ kind.NotEqual)

  -- a word before the sign of an equation is its left side
  sign_behind : (name : Text) (t : Token) (ts : List Token) → IsSign t.kind → atom_from name (t ∷ ts) ≡ equation_from (Constant name) (t ∷ ts)
  unfolding atom_from
  sign_behind name t ts (inl is) = ap (λ k. atom_at k name t ts) is
  sign_behind name t ts (inr is) = ap (λ k. atom_at k name t ts) is

  -- the left side of an equation, up to its sign
  side_read : (s : Term) (us : List Token) (t : Token) (ts : List Token) → SpellsTerm s us → IsSign t.kind →
      unit_with below inside (us ++ (t ∷ ts)) ≡ equation_from s (t ∷ ts)
  side_read (Variable x) us t ts s is = let (v, upper, name, split) = s in
      rw (split, name) (first_kind kind.Upper v (t ∷ ts) upper)
  side_read (Constant c) us t ts s is = let (v, word, name, split) = s in
      rw (split, name) (word_first v (t ∷ ts) word ∙ sign_behind (name_of v) t ts is)

  -- an equation
  pub equation_read : (s u : Term) (us : List Token) (t : Token) (vs all rest : List Token) → SpellsTerm s us → t.kind ≡ kind.Equal →
      SpellsTerm u vs → all ≡ us ++ (t ∷ vs) → unit_with below inside (all ++ rest) ≡ Some (Equal s u, rest)
  unfolding equation_from
  equation_read s u us t vs all rest left is right split =
      rw (split, append_assoc us (t ∷ vs) rest)
      (side_read s us t (vs ++ rest) left (inl is) ∙
      (ap (λ k. equation_at k s (vs ++ rest)) is ∙ ap (reread (Equal s)) (term_read u vs rest right)))

  -- an inequality
  pub inequality_read : (s u : Term) (us : List Token) (t : Token) (vs all rest : List Token) → SpellsTerm s us → t.kind ≡ kind.NotEqual →
      SpellsTerm u vs → all ≡ us ++ (t ∷ vs) → unit_with below inside (all ++ rest) ≡ Some (Not (Equal s u), rest)
  unfolding equation_from
  inequality_read s u us t vs all rest left is right split =
      rw (split, append_assoc us (t ∷ vs) rest)
      (side_read s us t (vs ++ rest) left (inr is) ∙
      (ap (λ k. equation_at k s (vs ++ rest)) is ∙ ap (reread (λ u. Not (Equal s u))) (term_read u vs rest right)))
