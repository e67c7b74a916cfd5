-- Values with commas between them, and brackets around them, as pieces.
use Rattle.std.proofs.Common.{◌≡◌, List, [], ◌∷◌, ◌++◌, map, codes, refl, ap, sym, ◌∙◌, subst, append_assoc, IsTrue}
use Rattle.std.specs.List.{AllByRecursion}
use Rattle.std.proofs.lemmas.List.{append-nil}
use Rattle.text_core.specs.Names.{Text}
use Rattle.text_core.specs.NameTexts.{is_upper_word}
use Rattle.logic_core.specs.Allowed.{TermIsBound, AreVariables}
use Rattle.logic_core.specs.declared.formula.Term.{Term}
use Rattle.logic_core.specs.declared.formula.Term.TheVariants.{Variable, Constant}
use Rattle.tptp_lexer.specs.declared.kind.Kind.{Kind}
use Rattle.tptp_lexer.specs.declared.kind.Kind.TheVariants as kind
use Rattle.tptp_lexer.specs.Tokens.{Token}
use Rattle.tptp_grammar.specs.Spells.{SpellsTerm, SpellsArguments, SpellsVariables}
use Rattle.tptp_lexer.specs.Spelling.{none, more, SpellsVariable, SpellsListed, SpellsBetween}
use Rattle.tptp_printer.specs.Canonical.{term_text, joined_texts, arguments_text, variables_text}
use Rattle.tptp_printer.specs.Named.{TermIsNamed}
use Rattle.tptp_lexer.proofs.Laws.{Any, NoWord, Gives, Both, IsOne, nothing, seen, before, followed}
use Rattle.tptp_lexer.proofs.Laws.{open_parenthesis, close_parenthesis, open_bracket, close_bracket, comma, colon}
use Rattle.tptp_lexer.proofs.Laws.{word, variable}

-- a value, a comma and further values
with_comma : {X : Type 0} (spells : X → List Token → Type 0) (x y : X) (ys : List X) (ts : List Token) → Both (Both (spells x) (IsOne kind.Comma)) (SpellsListed spells (y ∷ ys)) ts → SpellsListed spells (x ∷ y ∷ ys) ts
with_comma spells x y ys ts s =
    let l = s.2 in
    let c = l.3 in
    let r = s.3 in (
      l.0,
      c.0 ∷ (r.0 ++ r.1),
      l.2,
      more c.0 r.0 r.1 c.1 r.2 r.3 refl,
      s.4 ∙ ap (λ (us : List Token). us ++ s.1) (l.4 ∙ ap (λ (us : List Token). l.0 ++ us) c.2) ∙ append_assoc l.0 (c.0 ∷ []) s.1 ∙ ap (λ (us : List Token). l.0 ++ (c.0 ∷ us)) r.4,
    )

-- one or more values with a comma between each two
pub listed : {X : Type 0} (text : X → Text) (spells : X → List Token → Type 0) (x : X) (xs : List X) → AllByRecursion (λ y. Gives NoWord (text y) (spells y)) (x ∷ xs) → Gives NoWord (joined_texts (codes ",") (map text (x ∷ xs))) (SpellsListed spells (x ∷ xs))
listed text spells x [] g = seen (λ ts s. (ts, [], s, none, sym (append-nil ts))) g.0
listed text spells x (y ∷ ys) g = seen (with_comma spells x y ys) (followed (followed g.0 comma (λ rest may. refl)) (listed text spells y ys g.1) (λ rest may. tt))

-- the same between brackets
pub between : {X : Type 0} (open_kind close_kind : Kind) (spells : X → List Token → Type 0) (xs : List X) (us vs ws ts : List Token) → IsOne open_kind us → SpellsListed spells xs vs → IsOne close_kind ws → ts ≡ (us ++ vs) ++ ws → SpellsBetween open_kind close_kind spells xs ts
between open_kind close_kind spells xs us vs ws ts o l c e = record {
  first = o.0;
  inner = vs;
  last = c.0;
  opens = o.1;
  listed = l;
  closes = c.1;
  split = e ∙ ap (λ (xs : List Token). (xs ++ vs) ++ ws) o.2 ∙ ap (λ (xs : List Token). o.0 ∷ (vs ++ xs)) c.2;
}

-- terms and their lists

-- a term
pub term : (scope : List Text) (t : Term) → TermIsNamed t → TermIsBound scope t → Gives NoWord (term_text t) (SpellsTerm t)
term scope (Variable x) n b = variable x b.1
term scope (Constant c) n b = word c n

-- each of some terms
each_term : (scope : List Text) (ts : List Term) → AllByRecursion TermIsNamed ts → AllByRecursion (TermIsBound scope) ts → AllByRecursion (λ t. Gives NoWord (term_text t) (SpellsTerm t)) ts
each_term scope [] n b = tt
each_term scope (t ∷ ts) n b = (term scope t n.0 b.0, each_term scope ts n.1 b.1)

-- the arguments of an atom
pub arguments : (scope : List Text) (ts : List Term) → AllByRecursion TermIsNamed ts → AllByRecursion (TermIsBound scope) ts → Gives NoWord (arguments_text ts) (SpellsArguments ts)
arguments scope [] n b = before (λ rest may. tt) nothing
arguments scope (t ∷ ts) n b = seen
    (λ us s. let l = s.2 in between kind.OpenParenthesis kind.CloseParenthesis SpellsTerm (t ∷ ts) l.0 l.1 s.1 us l.2 l.3 s.3 (s.4 ∙ ap (λ (vs : List Token). vs ++ s.1) l.4))
    (before (λ rest may. tt) (followed (followed open_parenthesis (listed term_text SpellsTerm t ts (each_term scope (t ∷ ts) n b)) (λ rest may. tt)) close_parenthesis (λ rest may. refl)))

-- what follows a word does not go on with it
pub arguments_follow : (ts : List Term) (rest : Text) → NoWord rest → NoWord (arguments_text ts ++ rest)
arguments_follow [] rest may = may
arguments_follow (t ∷ ts) rest may = refl

-- each of some variables
each_variable : (xs : List Text) → AllByRecursion (λ x. IsTrue (is_upper_word x)) xs → AllByRecursion (λ x. Gives NoWord x (SpellsVariable x)) xs
each_variable [] h = tt
each_variable (x ∷ xs) h = (variable x h.0, each_variable xs h.1)

-- a list of the same members
same_map : (xs : List Text) → map (λ x. x) xs ≡ xs
same_map [] = refl
same_map (x ∷ xs) = ap (λ (ys : List Text). x ∷ ys) (same_map xs)

-- variables with commas
some_variables : (xs : List Text) → AreVariables xs → Gives NoWord (joined_texts (codes ",") xs) (SpellsListed SpellsVariable xs)
some_variables [] h = absurd h.0
some_variables (x ∷ xs) h = subst (λ ys. Gives NoWord (joined_texts (codes ",") ys) (SpellsListed SpellsVariable (x ∷ xs))) (same_map (x ∷ xs)) (listed (λ y. y) SpellsVariable x xs (each_variable (x ∷ xs) h.1))

-- the variables of a quantifier and the colon behind them
pub variables : (xs : List Text) → AreVariables xs → Gives Any (variables_text xs) (Both (SpellsVariables xs) (IsOne kind.Colon))
variables xs h = seen arranged (followed (followed open_bracket (some_variables xs h) (λ rest may. tt)) (followed close_bracket colon (λ rest may. tt)) (λ rest may. refl))
  where
    arranged : (ts : List Token) → Both (Both (IsOne kind.OpenBracket) (SpellsListed SpellsVariable xs)) (Both (IsOne kind.CloseBracket) (IsOne kind.Colon)) ts → Both (SpellsVariables xs) (IsOne kind.Colon) ts
    arranged ts s =
        let l = s.2 in
        let r = s.3 in (
          (l.0 ++ l.1) ++ r.0,
          r.1,
          between kind.OpenBracket kind.CloseBracket SpellsVariable xs l.0 l.1 r.0 ((l.0 ++ l.1) ++ r.0) l.2 l.3 r.2 refl,
          r.3,
          s.4 ∙ ap (λ (us : List Token). us ++ s.1) l.4 ∙ ap (λ (us : List Token). (l.0 ++ l.1) ++ us) r.4 ∙ sym (append_assoc (l.0 ++ l.1) r.0 r.1),
        )
