-- Formulas: what is spelled is read, where as many levels may be opened as are left.
use Rattle.std.specs.Prelude.{◌≡◌, ◌≤◌, ◌<◌, ◌+◌, ℕ, zero, suc, true, List, ◌∷◌, ◌++◌, length, Some, None, refl}
use Rattle.std.specs.Option.{option_and_then}
use Rattle.std.proofs.Common.{ap, ◌∙◌, append_assoc, arith}
use Rattle.std.proofs.lemmas.List.{length-append}
use Rattle.logic_core.specs.declared.formula.Op.{Op}
use Rattle.logic_core.specs.declared.formula.Op.TheVariants as op
use Rattle.logic_core.specs.declared.formula.Formula.{Formula, Binary}
use Rattle.tptp_lexer.specs.declared.kind.Kind.{Kind}
use Rattle.tptp_lexer.specs.declared.kind.Kind.TheVariants as kind
use Rattle.tptp_lexer.specs.Tokens.{Token}
use Rattle.text_core.specs.declared.limits.TheConstants.{MOST_LEVELS}
use Rattle.tptp_grammar.specs.Reading.{rest_at, rest_from, below_at, inside_at, unit_at, formula_at}
use Rattle.tptp_lexer.specs.Reading.{Read, behind, reread, more_from}
use Rattle.tptp_grammar.specs.Spells.{op_kind, SpellsFormula, SpellsRest, SpellsUnitary, Chain, chain_kind, chain_of}
use Rattle.tptp_grammar.specs.Spells.Chain.{conjunction, disjunction}
use Rattle.tptp_grammar.specs.Spells.SpellsFormula.{alone, chain, binary}
use Rattle.tptp_grammar.specs.Spells.SpellsRest.{end, further}
use Rattle.tptp_grammar.specs.Spells.SpellsUnitary.{brackets, negation, quantified, truth, atom, equation, inequality}
use Rattle.tptp_grammar.proofs.ReaderSteps.{below_is, inside_is, unit_is}
use Rattle.tptp_lexer.proofs.Laws.{more-none, more-next, behind-here, length_behind}
use Rattle.tptp_grammar.proofs.Endings.{ends_unit, ends_formula, Ends, ends_at, formula_ends_unit, formula-alone, ampersand-none, bar-none}
use Rattle.tptp_grammar.proofs.UnitsRead.{brackets_read, negation_read, quantified_read, truth_read, atom_read, equation_read, inequality_read}

-- a level that is opened leaves one less
one_less : (level depth : ℕ) → level < MOST_LEVELS → level + depth ≡ MOST_LEVELS → (d : ℕ) × (depth ≡ suc d) × ((level + 1) + d ≡ MOST_LEVELS)
one_less level zero less sum = absurd (omega arith)
one_less level (suc d) less sum = (d, refl, omega arith)

-- a formula behind its first unit
unit_first : (depth : ℕ) (g : Formula) (ts rest : List Token) → unit_at depth ts ≡ Some (g, rest) →
    formula_at depth ts ≡ rest_from (unit_at depth) g rest
unfolding formula_at
unit_first depth g ts rest read = ap (option_and_then (λ (read : Formula × List Token). rest_from (unit_at depth) read.0 read.1)) read

-- the rest of a formula, by the kind of its first token
rest_kind : (unit : List Token → Read Formula) (k : Kind) (g : Formula) (t : Token) (ts : List Token) → t.kind ≡ k →
    rest_from unit g (t ∷ ts) ≡ rest_at unit k g t ts
unfolding rest_from
rest_kind unit k g t ts is = ap (λ k. rest_at unit k g t ts) is

-- the right side of a connective
side_kind : (unit : List Token → Read Formula) (o : Op) (g : Formula) (t : Token) (ts : List Token) →
    rest_at unit (op_kind o) g t ts ≡ reread (Binary o g) (unit ts)
side_kind unit op.Implies g t ts = refl
side_kind unit op.Implied g t ts = refl
side_kind unit op.Iff g t ts = refl
side_kind unit op.Xor g t ts = refl
side_kind unit op.Nor g t ts = refl
side_kind unit op.Nand g t ts = refl

-- a connective ends the unit before it
op_ends : (o : Op) → ends_unit (op_kind o) ≡ true
op_ends op.Implies = refl
op_ends op.Implied = refl
op_ends op.Iff = refl
op_ends op.Xor = refl
op_ends op.Nor = refl
op_ends op.Nand = refl

-- each further member takes a token
rest_few : {k : Kind} {level : ℕ} {gs : List Formula} {us : List Token} → SpellsRest k level gs us → length gs ≤ length us
rest_few end = omega arith
rest_few (further {gs = gs} before us vs is s later split) = rw split (length_behind us vs (length gs) (rest_few later))

-- a chain begins with its own token
chain_begins : {k : Kind} {level : ℕ} {g : Formula} {gs : List Formula} {us : List Token} → SpellsRest k level (g ∷ gs) us →
    (t : Token) × (t.kind ≡ k) × ((ts : List Token) × (us ≡ t ∷ ts))
chain_begins (further before us vs is s later split) = (before, is, (us ++ vs, split))

-- a chain ends the unit before it
rest_ends : {k : Kind} {level : ℕ} {gs : List Formula} {us : List Token} → SpellsRest k level gs us → (rest : List Token) →
    ends_unit k ≡ true → Ends ends_unit rest → Ends ends_unit (us ++ rest)
rest_ends end rest e ends = ends
rest_ends (further {k = k} before us vs is s later split) rest e ends = rw split (ends_at ends_unit k before is e)

-- a chain behind its first member, by the kind of its tokens
rest_chain : (unit : List Token → Read Formula) (c : Chain) (g : Formula) (t : Token) (ts : List Token) →
    rest_at unit (chain_kind c) g t ts ≡ reread (λ gs. chain_of c (g ∷ gs)) (more_from unit (chain_kind c) (length (t ∷ ts)) (t ∷ ts))
rest_chain unit conjunction g t ts = refl
rest_chain unit disjunction g t ts = refl

-- the sign of a chain ends the unit before it
chain_ends : (c : Chain) → ends_unit (chain_kind c) ≡ true
chain_ends conjunction = refl
chain_ends disjunction = refl

-- what ends a formula goes on with no chain
chain_none : (c : Chain) (ts : List Token) → Ends ends_formula ts → behind (chain_kind c) ts ≡ None
chain_none conjunction ts ends = ampersand-none ts ends
chain_none disjunction ts ends = bar-none ts ends

-- a chain that is spelled is read, where its members are
chain_read : (depth : ℕ) (c : Chain) (g : Formula) (hs : List Formula) (us vs all rest : List Token) →
    (t : Token) × (t.kind ≡ chain_kind c) × ((ts : List Token) × (vs ≡ t ∷ ts)) → all ≡ us ++ vs →
    unit_at depth (us ++ (vs ++ rest)) ≡ Some (g, vs ++ rest) →
    more_from (unit_at depth) (chain_kind c) (length (vs ++ rest)) (vs ++ rest) ≡ Some (hs, rest) →
    formula_at depth (all ++ rest) ≡ Some (chain_of c (g ∷ hs), rest)
chain_read depth c g hs us vs all rest begins split one others = let (t, is, (ts, front)) = begins in
    rw (split, append_assoc us vs rest)
    (unit_first depth g (us ++ (vs ++ rest)) (vs ++ rest) one ∙ rw front (rest_kind (unit_at depth) (chain_kind c) g t (ts ++ rest) is ∙
    (rest_chain (unit_at depth) c g t (ts ++ rest) ∙ ap (reread (λ gs. chain_of c (g ∷ gs))) (rw front at others))))

-- a connective that is spelled is read, where its sides are
binary_read : (depth : ℕ) (o : Op) (g h : Formula) (us : List Token) (t : Token) (vs all rest : List Token) → t.kind ≡ op_kind o →
    all ≡ us ++ (t ∷ vs) → unit_at depth (us ++ (t ∷ (vs ++ rest))) ≡ Some (g, t ∷ (vs ++ rest)) →
    unit_at depth (vs ++ rest) ≡ Some (h, rest) → formula_at depth (all ++ rest) ≡ Some (Binary o g h, rest)
binary_read depth o g h us t vs all rest is split left right =
    rw (split, append_assoc us (t ∷ vs) rest)
    (unit_first depth g (us ++ (t ∷ (vs ++ rest))) (t ∷ (vs ++ rest)) left ∙
    (rest_kind (unit_at depth) (op_kind o) g t (vs ++ rest) is ∙
    (side_kind (unit_at depth) o g t (vs ++ rest) ∙ ap (reread (Binary o g)) right)))

-- a further member, and others
further_read : (depth most : ℕ) (k : Kind) (g : Formula) (gs : List Formula) (t : Token) (us vs all rest : List Token) → t.kind ≡ k →
    all ≡ t ∷ (us ++ vs) → unit_at depth (us ++ (vs ++ rest)) ≡ Some (g, vs ++ rest) →
    more_from (unit_at depth) k most (vs ++ rest) ≡ Some (gs, rest) →
    more_from (unit_at depth) k (suc most) (all ++ rest) ≡ Some (g ∷ gs, rest)
further_read depth most k g gs t us vs all rest is split one others =
    rw (split, append_assoc us vs rest)
    (more-next (unit_at depth) k most g gs (t ∷ (us ++ (vs ++ rest))) (us ++ (vs ++ rest)) (vs ++ rest) rest
    (behind-here k t (us ++ (vs ++ rest)) is) one others)

-- further members take no more tokens than there are
enough : (gs : List Formula) (vs rest : List Token) → length gs ≤ length vs → length gs ≤ length (vs ++ rest)
enough gs vs rest few = let e = length-append vs rest in omega arith

-- a closing bracket ends a formula
closes_formula : (t : Token) → t.kind ≡ kind.CloseParenthesis → ends_formula t.kind ≡ true
closes_formula t is = ends_at ends_formula kind.CloseParenthesis t is refl

mutual
  -- a formula that is spelled is read
  pub formula_read : {level : ℕ} {f : Formula} {us : List Token} → SpellsFormula level f us → (depth : ℕ) (rest : List Token) →
      level + depth ≡ MOST_LEVELS → Ends ends_formula rest → formula_at depth (us ++ rest) ≡ Some (f, rest)
  formula_read (alone {f = f} {ts = us} s) depth rest sum ends =
      unit_first depth f (us ++ rest) rest (unit_read s depth rest sum (formula_ends_unit rest ends)) ∙
      formula-alone (unit_at depth) f rest ends
  formula_read (chain {all = all} c g h gs us vs s r is split) depth rest sum ends =
      let unit_end = formula_ends_unit rest ends in
      rw is (chain_read depth c g (h ∷ gs) us vs all rest (chain_begins r) split
      (unit_read s depth (vs ++ rest) sum (rest_ends r rest (chain_ends c) unit_end))
      (rest_read r depth (length (vs ++ rest)) rest sum (enough (h ∷ gs) vs rest (rest_few r)) (chain_ends c) unit_end
      (chain_none c rest ends)))
  formula_read (binary {all = all} o g h us between vs s mark r is split) depth rest sum ends =
      rw is (binary_read depth o g h us between vs all rest mark split
      (unit_read s depth (between ∷ (vs ++ rest)) sum (ends_at ends_unit (op_kind o) between mark (op_ends o)))
      (unit_read r depth rest sum (formula_ends_unit rest ends)))

  -- further members that are spelled are read
  rest_read : {k : Kind} {level : ℕ} {gs : List Formula} {us : List Token} → SpellsRest k level gs us → (depth most : ℕ)
      (rest : List Token) → level + depth ≡ MOST_LEVELS → length gs ≤ most → ends_unit k ≡ true → Ends ends_unit rest →
      behind k rest ≡ None → more_from (unit_at depth) k most (us ++ rest) ≡ Some (gs, rest)
  rest_read (end {k = k}) depth most rest sum few e ends apart = more-none (unit_at depth) k most rest apart
  rest_read (further before us vs is s later split) depth zero rest sum few e ends apart = absurd (omega arith)
  rest_read (further {k = k} {g = g} {gs = gs} {all = all} before us vs is s later split) depth (suc most) rest sum few e ends apart =
      let fewer : length gs ≤ most = omega arith in
      further_read depth most k g gs before us vs all rest is split
      (unit_read s depth (vs ++ rest) sum (rest_ends later rest e ends))
      (rest_read later depth most rest sum fewer e ends apart)

  -- a unit formula that is spelled is read
  unit_read : {level : ℕ} {f : Formula} {us : List Token} → SpellsUnitary level f us → (depth : ℕ) (rest : List Token) →
      level + depth ≡ MOST_LEVELS → Ends ends_unit rest → unit_at depth (us ++ rest) ≡ Some (f, rest)
  unit_read (brackets {level = level} {f = f} {all = all} first ts last less opens s closes split) depth rest sum ends =
      let (d, is, left) = one_less level depth less sum in
      rw is (unit_is (suc d) (all ++ rest) ∙
      brackets_read (below_at (suc d)) (inside_at (suc d)) f first last all ts rest opens closes split
      (inside_is d (ts ++ (last ∷ rest)) ∙ formula_read s d (last ∷ rest) left (closes_formula last closes)))
  unit_read (negation {level = level} {all = all} g first ts less opens s f_is split) depth rest sum ends =
      let (d, is, left) = one_less level depth less sum in
      rw (is, f_is) (unit_is (suc d) (all ++ rest) ∙
      negation_read (below_at (suc d)) (inside_at (suc d)) g first all ts rest opens split
      (below_is d (ts ++ rest) ∙ unit_read s d rest left ends))
  unit_read (quantified {level = level} {all = all} q xs g first us colon vs less opens list mark s f_is split) depth rest sum ends =
      let (d, is, left) = one_less level depth less sum in
      rw (is, f_is) (unit_is (suc d) (all ++ rest) ∙
      quantified_read (below_at (suc d)) (inside_at (suc d)) q xs g first us colon vs all rest opens list mark split
      (below_is d (vs ++ rest) ∙ unit_read s d rest left ends))
  unit_read (truth {all = all} value t is text f_is split) depth rest sum ends =
      rw f_is (unit_is depth (all ++ rest) ∙ truth_read (below_at depth) (inside_at depth) value t all rest is text split)
  unit_read (atom {all = all} word arguments ts is s f_is split) depth rest sum ends =
      rw f_is (unit_is depth (all ++ rest) ∙ atom_read (below_at depth) (inside_at depth) word arguments ts all rest is s split ends)
  unit_read (equation {all = all} s u us between vs left mark right f_is split) depth rest sum ends =
      rw f_is (unit_is depth (all ++ rest) ∙ equation_read (below_at depth) (inside_at depth) s u us between vs all rest left mark right split)
  unit_read (inequality {all = all} s u us between vs left mark right f_is split) depth rest sum ends =
      rw f_is (unit_is depth (all ++ rest) ∙ inequality_read (below_at depth) (inside_at depth) s u us between vs all rest left mark right split)
