-- Formulas as pieces.
use Rattle.std.proofs.Common.{◌≡◌, ℕ, true, false, ◌+◌, ◌<◌, ◌≤◌, List, [], ◌∷◌, ◌++◌, codes, refl, ap, sym, ◌∙◌, arith, append_assoc}
use Rattle.std.proofs.lemmas.List.{append-nil}
use Rattle.text_core.specs.Names.{Text}
use Rattle.logic_core.specs.Allowed.{depth, greatest_depth, nesting, TermIsBound, AreVariables, TwoOrMore, IsBoundIn, EachIsBoundIn}
use Rattle.logic_core.specs.declared.formula.Op.{Op}
use Rattle.logic_core.specs.declared.formula.Term.{Term}
use Rattle.logic_core.specs.declared.formula.Formula.{Formula, True, False, Pred, Equal, Not, Binary, Not', And', Or', Binary', ForAll', Exists', Row_of-Formula, end_of-Formula, more_of-Formula}
use Rattle.tptp_lexer.specs.declared.kind.Kind.{Kind}
use Rattle.tptp_lexer.specs.declared.kind.Kind.TheVariants as kind
use Rattle.tptp_lexer.specs.Tokens.{Token}
use Rattle.text_core.specs.declared.limits.TheConstants.{MOST_LEVELS}
use Rattle.tptp_grammar.specs.Spells.{Chain, conjunction, disjunction, chain_kind, chain_of, for_all, there_is, SpellsVariables, SpellsFormula, alone, chain, binary, SpellsRest, end, further, SpellsUnitary, brackets, negation, quantified, truth, atom, equation, inequality}
use Rattle.tptp_printer.specs.Canonical.{term_text, arguments_text, word_text, op_text, variables_text, in_unit, formula_text, chain_text}
use Rattle.tptp_printer.specs.Named.{TermIsNamed, IsNamed, EachIsNamed}
use Rattle.tptp_lexer.proofs.Laws.{Any, NoWord, Gives, Both, IsOne, nothing, seen, before, followed}
use Rattle.tptp_lexer.proofs.Laws.{open_parenthesis, close_parenthesis, blank_after, tilde, exclamation, question, equals, differs, ampersand, bar}
use Rattle.tptp_printer.proofs.Connectives.{connective}
use Rattle.tptp_lexer.proofs.Laws.{dollar_word, word}
use Rattle.tptp_printer.proofs.Listed.{term, arguments, arguments_follow, variables}
use Rattle.tptp_printer.proofs.Shut.{members_of, as_built}

-- tokens with one token of a kind between them
split_by : (ts us vs ws zs : List Token) (t : Token) → ts ≡ zs ++ vs → zs ≡ us ++ ws → ws ≡ t ∷ [] → ts ≡ us ++ (t ∷ vs)
split_by ts us vs ws zs t e f g = e ∙ ap (λ (xs : List Token). xs ++ vs) (f ∙ ap (λ (xs : List Token). us ++ xs) g) ∙ append_assoc us (t ∷ []) vs

-- a sign between terms

module _ (level : ℕ) (scope : List Text) (t u : Term) (n : TermIsNamed t × TermIsNamed u) (b : TermIsBound scope t × TermIsBound scope u) where
  -- an equation
  equation_piece : Gives NoWord (term_text t ++ codes " = " ++ term_text u) (SpellsUnitary level (Equal t u))
  equation_piece = seen
      (λ ts s. let l = s.2 in equation t u l.0 (l.3).0 s.1 l.2 (l.3).1 s.3 refl (split_by ts l.0 s.1 l.1 s.0 (l.3).0 s.4 l.4 (l.3).2))
      (followed (followed (term scope t n.0 b.0) equals (λ rest may. refl)) (term scope u n.1 b.1) (λ rest may. tt))

  -- an inequality
  inequality_piece : (f : Formula) → f ≡ Not (Equal t u) → Gives NoWord (term_text t ++ codes " != " ++ term_text u) (SpellsUnitary level f)
  inequality_piece f is = seen
      (λ ts s. let l = s.2 in inequality t u l.0 (l.3).0 s.1 l.2 (l.3).1 s.3 is (split_by ts l.0 s.1 l.1 s.0 (l.3).0 s.4 l.4 (l.3).2))
      (followed (followed (term scope t n.0 b.0) differs (λ rest may. refl)) (term scope u n.1 b.1) (λ rest may. tt))

-- the rest of a unit formula, from its parts

-- an atom
atom_piece : (level : ℕ) (scope : List Text) (p : Text) (ts : List Term) → IsNamed (Pred p ts) → IsBoundIn scope (Pred p ts) → Gives NoWord (word_text p ++ arguments_text ts) (SpellsUnitary level (Pred p ts))
atom_piece level scope p ts n b = seen
    (λ us s. let w = s.2 in atom w.0 ts s.1 w.1 s.3 (ap (λ q. Pred q ts) w.2) (s.4 ∙ ap (λ (xs : List Token). xs ++ s.1) w.3))
    (followed (word p n.0) (arguments scope ts n.1 b) (arguments_follow ts))

-- a formula in brackets
in_brackets : (level : ℕ) (f : Formula) (text : Text) → level < MOST_LEVELS → Gives NoWord text (SpellsFormula (level + 1) f) → Gives NoWord (codes "(" ++ text ++ codes ")") (SpellsUnitary level f)
in_brackets level f text room p = seen
    (λ ts s. let l = s.2 in brackets (l.2).0 l.1 (s.3).0 room (l.2).1 l.3 (s.3).1 (s.4 ∙ ap (λ (xs : List Token). xs ++ s.1) (l.4 ∙ ap (λ (xs : List Token). xs ++ l.1) (l.2).2) ∙ ap (λ (xs : List Token). (l.2).0 ∷ (l.1 ++ xs)) (s.3).2))
    (before (λ rest may. tt) (followed (followed open_parenthesis p (λ rest may. tt)) close_parenthesis (λ rest may. refl)))

-- a negation
negation_piece : (level : ℕ) (f g : Formula) (text : Text) → level < MOST_LEVELS → f ≡ Not g → Gives NoWord text (SpellsUnitary (level + 1) g) → Gives NoWord (codes "~ " ++ text) (SpellsUnitary level f)
negation_piece level f g text room is p = seen
    (λ ts s. negation g (s.2).0 s.1 room (s.2).1 s.3 is (s.4 ∙ ap (λ (xs : List Token). xs ++ s.1) (s.2).2))
    (followed tilde p (λ rest may. tt))

-- two formulas and a connective
binary_piece : (level : ℕ) (f : Formula) (o : Op) (g h : Formula) (x y : Text) → f ≡ Binary o g h → Gives NoWord x (SpellsUnitary level g) → Gives NoWord y (SpellsUnitary level h) → Gives NoWord (x ++ codes " " ++ op_text o ++ codes " " ++ y) (SpellsFormula level f)
binary_piece level f o g h x y is p q = seen
    (λ ts s. let l = s.2 in binary o g h l.0 (l.3).0 s.1 l.2 (l.3).1 s.3 is (split_by ts l.0 s.1 l.1 s.0 (l.3).0 s.4 l.4 (l.3).2))
    (followed (blank_after (λ rest. refl) (followed (blank_after (λ rest. refl) p) (connective o) (λ rest may. tt))) q (λ rest may. tt))

-- a quantifier, its variables and the formula behind them
abbrev Quantifies : Kind → ℕ → List Text → Formula → List Token → Type 0
Quantifies k level xs g ts = (first : Token) × (us : List Token) × (colon : Token) × (vs : List Token) × (first.kind ≡ k) × SpellsVariables xs us × (colon.kind ≡ kind.Colon) × SpellsUnitary (level + 1) g vs × (ts ≡ first ∷ (us ++ (colon ∷ vs)))

-- a quantified formula
quantifies : (level : ℕ) (k : Kind) (sign : Text) (xs : List Text) (g : Formula) (text : Text) → Gives Any sign (IsOne k) → AreVariables xs → Gives NoWord text (SpellsUnitary (level + 1) g) → Gives NoWord (sign ++ variables_text xs ++ text) (Quantifies k level xs g)
quantifies level k sign xs g text first b p = seen
    (λ ts s.
    let l = s.2 in
    let v = l.3 in
    let c = v.3 in (
      (l.2).0,
      v.0,
      c.0,
      s.1,
      (l.2).1,
      v.2,
      c.1,
      s.3,
      s.4 ∙ ap (λ (zs : List Token). zs ++ s.1) (l.4 ∙ ap (λ (zs : List Token). zs ++ l.1) (l.2).2) ∙ ap (λ (zs : List Token). (l.2).0 ∷ zs) (split_by (l.1 ++ s.1) v.0 s.1 v.1 l.1 c.0 refl v.4 c.2),
    ))
    (followed (followed first (variables xs b) (λ rest may. tt)) p (λ rest may. tt))

-- a unit formula, and further ones behind tokens of this kind
abbrev Chained : Kind → ℕ → {n : _} → Row_of-Formula n → List Token → Type 0
Chained k level end_of-Formula ts = ts ≡ []
Chained k level (more_of-Formula g rest) ts = (us : List Token) × (vs : List Token) × SpellsUnitary level g us × SpellsRest k level (members_of rest) vs × (ts ≡ us ++ vs)

-- one more member of a chain
one_more : {n : _} (k : Kind) (level : ℕ) (g h : Formula) (rest : Row_of-Formula n) (ts : List Token) → Both (Both (SpellsUnitary level g) (IsOne k)) (Chained k level (more_of-Formula h rest)) ts → Chained k level (more_of-Formula g (more_of-Formula h rest)) ts
one_more k level g h rest ts s =
    let l = s.2 in
    let c = s.3 in (
      l.0,
      (l.3).0 ∷ (c.0 ++ c.1),
      l.2,
      further (l.3).0 c.0 c.1 (l.3).1 c.2 c.3 refl,
      split_by ts l.0 s.1 l.1 s.0 (l.3).0 s.4 l.4 (l.3).2 ∙ ap (λ (zs : List Token). l.0 ++ ((l.3).0 ∷ zs)) c.4,
    )

-- a chain of members is their conjunction, or their disjunction
chained : {n : _} (c : Chain) (row : Row_of-Formula n) (level : ℕ) (f : Formula) (ts : List Token) → f ≡ chain_of c (members_of row) → TwoOrMore row → Chained (chain_kind c) level row ts → SpellsFormula level f ts
chained c end_of-Formula level f ts is two k = absurd two
chained c (more_of-Formula g end_of-Formula) level f ts is two k = absurd two
chained c (more_of-Formula g (more_of-Formula h rest)) level f ts is two k = chain c g h (members_of rest) k.0 k.1 k.2 k.3 is k.4

mutual
  -- a formula inside another one, where so many levels are open
  unit : (f : Formula) (scope : List Text) (level : ℕ) → IsNamed f → IsBoundIn scope f → depth f + level ≤ MOST_LEVELS → Gives NoWord (in_unit f (formula_text f)) (SpellsUnitary level f)
  unit True scope level n b d = seen (λ ts s. truth true s.0 s.1 s.2 refl s.3) (dollar_word (codes "true") refl)
  unit False scope level n b d = seen (λ ts s. truth false s.0 s.1 s.2 refl s.3) (dollar_word (codes "false") refl)
  unit (Pred p ts) scope level n b d = atom_piece level scope p ts n b
  unit (Equal t u) scope level n b d = equation_piece level scope t u n b
  unit (Not' s (more_of-Formula (Equal t u) r)) scope level n b d = inequality_piece level scope t u n b (Not' s (more_of-Formula (Equal t u) r)) (as_built (Not' s (more_of-Formula (Equal t u) r)))
  unit (Not' s (more_of-Formula g r)) scope level n b d = negation_piece level (Not' s (more_of-Formula g r)) g (in_unit g (formula_text g)) (omega arith) (as_built (Not' s (more_of-Formula g r))) (unit g scope (level + 1) n b (omega arith))
  unit (And' s row) scope level n b d = in_brackets level (And' s row) (chain_text (codes " & ") row) (omega arith) (seen (λ ts c. chained conjunction row (level + 1) (And' s row) ts (as_built (And' s row)) b.0 c) (members row kind.Ampersand (codes " & ") ampersand (λ rest. refl) scope (level + 1) n b.1 (omega arith)))
  unit (Or' s row) scope level n b d = in_brackets level (Or' s row) (chain_text (codes " | ") row) (omega arith) (seen (λ ts c. chained disjunction row (level + 1) (Or' s row) ts (as_built (Or' s row)) b.0 c) (members row kind.Bar (codes " | ") bar (λ rest. refl) scope (level + 1) n b.1 (omega arith)))
  unit (Binary' o s (more_of-Formula g r) z (more_of-Formula h q)) scope level n b d = in_brackets level (Binary' o s (more_of-Formula g r) z (more_of-Formula h q)) (formula_text (Binary' o s (more_of-Formula g r) z (more_of-Formula h q))) (omega arith) (binary_piece (level + 1) (Binary' o s (more_of-Formula g r) z (more_of-Formula h q)) o g h (in_unit g (formula_text g)) (in_unit h (formula_text h)) (as_built (Binary' o s (more_of-Formula g r) z (more_of-Formula h q))) (unit g scope (level + 1) n.0 b.0 (omega arith)) (unit h scope (level + 1) n.1 b.1 (omega arith)))
  unit (ForAll' xs s (more_of-Formula g r)) scope level n b d = seen
      (λ ts q. quantified for_all xs g q.0 q.1 q.2 q.3 (omega arith) q.4 q.5 q.6 q.7 (as_built (ForAll' xs s (more_of-Formula g r))) q.8)
      (quantifies level kind.Exclamation (codes "! ") xs g (in_unit g (formula_text g)) exclamation b.0 (unit g (xs ++ scope) (level + 1) n b.1 (omega arith)))
  unit (Exists' xs s (more_of-Formula g r)) scope level n b d = seen
      (λ ts q. quantified there_is xs g q.0 q.1 q.2 q.3 (omega arith) q.4 q.5 q.6 q.7 (as_built (Exists' xs s (more_of-Formula g r))) q.8)
      (quantifies level kind.Question (codes "? ") xs g (in_unit g (formula_text g)) question b.0 (unit g (xs ++ scope) (level + 1) n b.1 (omega arith)))

  -- the members of a chain
  members : {n : _} (row : Row_of-Formula n) (k : Kind) (sign : Text) → Gives Any sign (IsOne k) → ((rest : Text) → NoWord (sign ++ rest)) → (scope : List Text) (level : ℕ) → EachIsNamed row → EachIsBoundIn scope row → greatest_depth row + level ≤ MOST_LEVELS → Gives NoWord (chain_text sign row) (Chained k level row)
  members end_of-Formula k sign p follows scope level n b d = before (λ rest may. tt) nothing
  members (more_of-Formula g end_of-Formula) k sign p follows scope level n b d = seen (λ ts s. (ts, [], s, end, sym (append-nil ts))) (unit g scope level n.0 b.0 (omega arith))
  members (more_of-Formula g (more_of-Formula h rest)) k sign p follows scope level n b d = seen (one_more k level g h rest) (followed (followed (unit g scope level n.0 b.0 (omega arith)) p (λ rest may. follows rest)) (members (more_of-Formula h rest) k sign p follows scope level n.1 b.1 (omega arith)) (λ rest may. tt))

-- a whole formula
pub whole : (f : Formula) (scope : List Text) (level : ℕ) → IsNamed f → IsBoundIn scope f → nesting f + level ≤ MOST_LEVELS → Gives NoWord (formula_text f) (SpellsFormula level f)
whole (And' s row) scope level n b d = seen (λ ts c. chained conjunction row level (And' s row) ts (as_built (And' s row)) b.0 c) (members row kind.Ampersand (codes " & ") ampersand (λ rest. refl) scope level n b.1 d)
whole (Or' s row) scope level n b d = seen (λ ts c. chained disjunction row level (Or' s row) ts (as_built (Or' s row)) b.0 c) (members row kind.Bar (codes " | ") bar (λ rest. refl) scope level n b.1 d)
whole (Binary' o s (more_of-Formula g r) z (more_of-Formula h q)) scope level n b d = binary_piece level (Binary' o s (more_of-Formula g r) z (more_of-Formula h q)) o g h (in_unit g (formula_text g)) (in_unit h (formula_text h)) (as_built (Binary' o s (more_of-Formula g r) z (more_of-Formula h q))) (unit g scope level n.0 b.0 (omega arith)) (unit h scope level n.1 b.1 (omega arith))
whole f scope level n b d = seen (λ ts s. alone s) (unit f scope level n b d)
