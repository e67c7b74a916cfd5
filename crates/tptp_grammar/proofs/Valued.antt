-- Tokens that are a text, and in which the watcher finds nothing, are spelled by some items.
use Rattle.std.specs.Prelude.{◌≡◌, ℕ, ◌+◌, ◌<◌, ◌≤◌, true, false, ◌⊎◌, List, [], ◌∷◌, ◌++◌, Option, Some, None, codes}
use Rattle.std.proofs.Common.{refl, sym, ap, subst, inl, inr, append_assoc, append-nil, arith}
use Rattle.token_grammar.specs.Taken.{Taken}
use Rattle.token_grammar.specs.Watch.{Sees}
use Rattle.text_core.specs.Names.{Text}
use Rattle.logic_core.specs.declared.formula.Term.{Term}
use Rattle.logic_core.specs.declared.formula.Term.TheVariants.{Variable, Constant}
use Rattle.logic_core.specs.declared.formula.Formula.{Formula, True, False, Pred, Equal, Not, And, Or, Binary, ForAll, Exists}
use Rattle.logic_core.specs.declared.problem.Role.{Role}
use Rattle.logic_core.specs.declared.problem.Item.{Item}
use Rattle.logic_core.specs.declared.problem.Item.TheVariants.{Fof as ItemFof, Include}
use Rattle.tptp_lexer.specs.declared.kind.Kind.TheVariants as kind
use Rattle.tptp_lexer.specs.Tokens.{Token, name_of}
use Rattle.text_core.specs.declared.limits.TheConstants.{MOST_LEVELS}
use Rattle.tptp_grammar.specs.declared.item_part.ItemPart.{ItemPart}
use Rattle.tptp_grammar.specs.declared.item_part.ItemPart.TheVariants as parts
use Rattle.tptp_grammar.specs.Parts.{alternatives, fof_items}
use Rattle.tptp_grammar.specs.Roles.{role_text}
use Rattle.tptp_grammar.specs.Marks.{mark_in, marks_of}
use Rattle.tptp_grammar.specs.Limits.{Bindings, items_watcher}
use Rattle.tptp_grammar.specs.Spells.{SpellsTerm, SpellsFormula, SpellsUnitary, IsGeneral, AreGenerals, IsAnnotation, SpellsSelection, SpellsItems}
use Rattle.tptp_lexer.specs.Spelling.{IsNaming, SpellsName, SpellsVariable, SpellsMore}
use Rattle.tptp_grammar.specs.Spells.Quantifier.{for_all, there_is}
use Rattle.tptp_grammar.specs.Spells.Chain.{conjunction, disjunction}
use Rattle.tptp_lexer.specs.Spelling.SpellsMore.{none, more}
use Rattle.tptp_lexer.proofs.Laws.{between_of}
use Rattle.tptp_grammar.specs.Spells.SpellsFormula.{alone, chain, binary}
use Rattle.tptp_grammar.specs.Spells.SpellsRest.{end, further}
use Rattle.tptp_grammar.specs.Spells.SpellsUnitary.{brackets, negation, quantified, truth, atom, equation, inequality}
use Rattle.tptp_grammar.specs.Spells.IsGeneral.{data_alone, data_with, in_list}
use Rattle.tptp_grammar.specs.Spells.IsGeneralList.{empty_list, whole_list}
use Rattle.tptp_grammar.specs.Spells.AreGenerals.{no_general, next_general}
use Rattle.tptp_grammar.specs.Spells.IsData.{plain, word_alone, word_with}
use Rattle.tptp_grammar.specs.Spells.IsAnnotation.{no_annotation, source_alone, source_with}
use Rattle.token_grammar.proofs.Laws.{EachLeads, text_holds}
use Rattle.tptp_grammar.proofs.Shapes.{IsLowerWord, EndsItem, Closes, EndsAtom, shape_of, token_fits}
use Rattle.tptp_grammar.proofs.Inversion.{mark_tells}
use Rattle.tptp_grammar.proofs.Keeping.{kept_items, kept_text}

-- a level that is opened has one below the most
below : (level : ℕ) → level + 1 ≤ MOST_LEVELS → level < MOST_LEVELS
below level low = omega arith

-- a formula's item behind its first word
fof_behind : (first name comma role between : Token) (formula tail : List Token) (r : Role) (f : Formula) →
    first.kind ≡ kind.OpenParenthesis → IsNaming name → comma.kind ≡ kind.Comma → IsLowerWord (role_text r) role →
    between.kind ≡ kind.Comma → SpellsFormula 0 f formula → Closes IsAnnotation tail →
    EndsItem (codes "fof") (first ∷ name ∷ comma ∷ role ∷ between ∷ (formula ++ tail))
fof_behind first name comma role between formula tail r f o n c is k s t word w = (
  ItemFof (record { name = name_of name; role = r; formula = f }),
  record {
    word = word;
    first = first;
    name = name;
    comma = comma;
    role = role;
    between = between;
    formula = formula;
    annotation = t.front;
    last = t.last;
    dot = t.dot;
    is_word = w;
    opens = o;
    is_name = (n, refl);
    is_comma = c;
    is_role = is;
    is_between = k;
    spelled = s;
    annotated = t.is_front;
    closes = t.closes;
    is_dot = t.is_dot;
    split = ap (λ y. word ∷ first ∷ name ∷ comma ∷ role ∷ between ∷ (formula ++ y)) t.split;
  },
)

-- an inclusion behind its first word
include_behind : (first quoted : Token) (tail : List Token) (only : Option (List Text)) → first.kind ≡ kind.OpenParenthesis →
    quoted.kind ≡ kind.Quoted → Closes (SpellsSelection only) tail → EndsItem (codes "include") (first ∷ quoted ∷ tail)
include_behind first quoted tail only o q t word w = (
  Include (name_of quoted) only,
  record {
    word = word;
    first = first;
    quoted = quoted;
    selection = t.front;
    last = t.last;
    dot = t.dot;
    is_word = w;
    opens = o;
    is_file = (q, refl);
    selected = t.is_front;
    closes = t.closes;
    is_dot = t.is_dot;
    split = ap (λ y. word ∷ first ∷ quoted ∷ y) t.split;
  },
)

-- the end of an item behind what is in front of it
closed : (P : List Token → Type 0) (front ts : List Token) (last dot : Token) → P front → last.kind ≡ kind.CloseParenthesis →
    dot.kind ≡ kind.Dot → ts ≡ front ++ (last ∷ dot ∷ []) → Closes P ts
closed P front ts last dot h c d e = record { front = front; last = last; dot = dot; is_front = h; closes = c; is_dot = d; split = e }

-- an inclusion's end with a selection
selecting : (comma first name : Token) (names : List Text) (ts : List Token) (close last dot : Token) → comma.kind ≡ kind.Comma →
    first.kind ≡ kind.OpenBracket → IsNaming name → SpellsMore (SpellsName IsNaming) names ts → close.kind ≡ kind.CloseBracket →
    last.kind ≡ kind.CloseParenthesis → dot.kind ≡ kind.Dot →
    Closes (SpellsSelection (Some (name_of name ∷ names))) (comma ∷ first ∷ name ∷ (ts ++ (close ∷ last ∷ dot ∷ [])))
selecting comma first name names ts close last dot c o n rest k l d =
    let inner : List Token = first ∷ name ∷ (ts ++ (close ∷ [])) in
    let brackets = between_of kind.OpenBracket kind.CloseBracket (SpellsName IsNaming) (name_of name) names first close (name ∷ []) ts o
    (name, n, refl, refl) rest k in
    closed (SpellsSelection (Some (name_of name ∷ names))) (comma ∷ inner)
    (comma ∷ first ∷ name ∷ (ts ++ (close ∷ last ∷ dot ∷ []))) last dot (comma, inner, c, brackets, refl) l d
    (ap (λ y. comma ∷ first ∷ name ∷ y) (sym (append_assoc ts (close ∷ []) (last ∷ dot ∷ []))))

-- an atom with arguments behind its first word
atom_behind : (level : ℕ) (first : Token) (us ts : List Token) (last : Token) (s : Term) (ss : List Term) →
    first.kind ≡ kind.OpenParenthesis → SpellsTerm s us → SpellsMore SpellsTerm ss ts → last.kind ≡ kind.CloseParenthesis →
    EndsAtom level (first ∷ (us ++ (ts ++ (last ∷ []))))
atom_behind level first us ts last s ss o is rest c word w = (
  Pred (name_of word) (s ∷ ss),
  atom word (s ∷ ss) (first ∷ (us ++ (ts ++ (last ∷ [])))) w
      (between_of kind.OpenParenthesis kind.CloseParenthesis SpellsTerm s ss first last us ts o is rest c) refl refl,
)

-- what the members of an alternative make
rows_lead : (p : ItemPart) → EachLeads shape_of p (alternatives p)
rows_lead parts.Items = (([], refl), (λ us item vs items. (item.0 ∷ items.0, (us, vs, item.1, items.1, refl)), tt))
rows_lead parts.Item = (λ word is ts rest. rest word is, (λ word is ts rest. rest word is, tt))
rows_lead parts.FofHead = (
  λ first o name n comma c role r between k formula f tail t.
      fof_behind first name comma role between formula tail r.0 f.0 o n c r.1 k f.1 t,
  tt,
)
rows_lead parts.FofTail = (
  λ last c dot d. closed IsAnnotation [] (last ∷ dot ∷ []) last dot no_annotation c d refl,
  (λ comma c us g ts rest. rest comma us c g, tt),
)
rows_lead parts.FofEnd = (
  λ last l dot d comma us c g. closed IsAnnotation (comma ∷ us) (comma ∷ (us ++ (last ∷ dot ∷ []))) last dot
      (source_alone comma us c g refl) l d refl,
  (
    λ between b vs list last l dot d comma us c g.
        closed IsAnnotation (comma ∷ (us ++ (between ∷ vs))) (comma ∷ (us ++ (between ∷ (vs ++ (last ∷ dot ∷ []))))) last dot
        (source_with comma us between vs c g b list refl) l d
        (ap (λ y. comma ∷ y) (sym (append_assoc us (between ∷ vs) (last ∷ dot ∷ [])))),
    tt,
  ),
)
rows_lead parts.IncludeHead = (λ first o quoted q tail t. include_behind first quoted tail t.0 o q t.1, tt)
rows_lead parts.IncludeTail = (
  λ last c dot d. (None, closed (SpellsSelection None) [] (last ∷ dot ∷ []) last dot refl c d refl),
  (
    λ comma c first o name n ts rest close k last l dot d.
        (Some (name_of name ∷ rest.0), selecting comma first name rest.0 ts close last dot c o n rest.1 k l d),
    tt,
  ),
)
rows_lead parts.NamesRest =
    (([], none), (λ comma c name n ts rest. (name_of name ∷ rest.0, more comma (name ∷ []) ts c (name, n, refl, refl) rest.1 refl), tt))
rows_lead (parts.Formula level) = (λ us u ts rest. rest u.0 us u.1, tt)
rows_lead (parts.FormulaRest level) = (
  λ g us u. (g, subst (SpellsFormula level g) (sym (append-nil us)) (alone u)),
  (
    λ sign k vs h ws rest g us u.
        (And (g ∷ h.0 ∷ rest.0), chain conjunction g h.0 rest.0 us (sign ∷ (vs ++ ws)) u (further sign vs ws k h.1 rest.1 refl) refl refl),
    (
      λ sign k vs h ws rest g us u.
          (Or (g ∷ h.0 ∷ rest.0), chain disjunction g h.0 rest.0 us (sign ∷ (vs ++ ws)) u (further sign vs ws k h.1 rest.1 refl) refl refl),
      (λ between o vs h g us u. (Binary o.0 g h.0, binary o.0 g h.0 us between vs u o.1 h.1 refl refl), tt),
    ),
  ),
)
rows_lead (parts.AndRest level) = (([], end), (λ sign k us g ts rest. (g.0 ∷ rest.0, further sign us ts k g.1 rest.1 refl), tt))
rows_lead (parts.OrRest level) = (([], end), (λ sign k us g ts rest. (g.0 ∷ rest.0, further sign us ts k g.1 rest.1 refl), tt))
rows_lead (parts.Unitary level) = (
  λ first o ts f last c. (f.0, brackets first ts last (below level o.1) o.0 f.1 c refl),
  (
    λ first o ts g. (Not g.0, negation g.0 first ts (below level o.1) o.0 g.1 refl refl),
    (
      λ first o ts q. (
        ForAll q.variables q.body,
        quantified for_all q.variables q.body first q.us q.colon q.vs (below level o.1) o.0 q.are_variables
            q.is_colon q.is_body refl (ap (λ y. first ∷ y) q.split),
      ),
      (
        λ first o ts q. (
          Exists q.variables q.body,
          quantified there_is q.variables q.body first q.us q.colon q.vs (below level o.1) o.0 q.are_variables
              q.is_colon q.is_body refl (ap (λ y. first ∷ y) q.split),
        ),
        (
          truth_made,
          (
            λ word w ts rest. rest word w,
            (λ t x ts rest. rest (Variable (name_of t)) (t ∷ []) (t, x, refl, refl), tt),
          ),
        ),
      ),
    ),
  ),
)
  where
    truth_made : (t : Token) → (t.kind ≡ kind.Dollar) × ((t.text ≡ codes "$true") ⊎ (t.text ≡ codes "$false")) →
        (f : Formula) × SpellsUnitary level f (t ∷ [])
    truth_made t (k, inl text) = (True, truth true t k text refl refl)
    truth_made t (k, inr text) = (False, truth false t k text refl refl)
rows_lead (parts.Quantified level) = (
  λ first o t x ts rest last c colon k vs g. record {
    variables = name_of t ∷ rest.0;
    body = g.0;
    us = first ∷ t ∷ (ts ++ (last ∷ []));
    colon = colon;
    vs = vs;
    are_variables = between_of kind.OpenBracket kind.CloseBracket SpellsVariable (name_of t) rest.0 first last (t ∷ []) ts o
        (t, x, refl, refl) rest.1 c;
    is_colon = k;
    is_body = g.1;
    split = ap (λ y. first ∷ t ∷ y) (sym (append_assoc ts (last ∷ []) (colon ∷ vs)));
  },
  tt,
)
rows_lead (parts.BindsRest level) =
    (([], none), (λ comma c t x ts rest. (name_of t ∷ rest.0, more comma (t ∷ []) ts c (t, x, refl, refl) rest.1 refl), tt))
rows_lead (parts.AfterWord level) = (
  λ word w. (Pred (name_of word) [], atom word [] [] w refl refl refl),
  (
    λ first o us s ts rest last c. atom_behind level first us ts last s.0 rest.0 o s.1 rest.1 c,
    (
      λ between k vs u word w. (
        Equal (Constant (name_of word)) u.0,
        equation (Constant (name_of word)) u.0 (word ∷ []) between vs (word, w, refl, refl) k u.1 refl refl,
      ),
      (
        λ between k vs u word w. (
          Not (Equal (Constant (name_of word)) u.0),
          inequality (Constant (name_of word)) u.0 (word ∷ []) between vs (word, w, refl, refl) k u.1 refl refl,
        ),
        tt,
      ),
    ),
  ),
)
rows_lead (parts.Equation level) = (
  λ between k vs u s us h. (Equal s u.0, equation s u.0 us between vs h k u.1 refl refl),
  (λ between k vs u s us h. (Not (Equal s u.0), inequality s u.0 us between vs h k u.1 refl refl), tt),
)
rows_lead (parts.Term level) =
    (λ t x. (Variable (name_of t), (t, x, refl, refl)), (λ t w. (Constant (name_of t), (t, w, refl, refl)), tt))
rows_lead (parts.TermsRest level) =
    (([], none), (λ comma c us s ts rest. (s.0 ∷ rest.0, more comma us ts c s.1 rest.1 refl), tt))
rows_lead (parts.General level) = (λ us d ts rest. rest us d, (λ ts list. in_list list, tt))
rows_lead (parts.GeneralRest level) = (
  λ us d. subst (IsGeneral level) (sym (append-nil us)) (data_alone d),
  (λ colon k vs g us d. data_with us colon vs d k g refl, tt),
)
rows_lead (parts.GeneralsRest level) = (no_general, (λ comma c us g ts rest. next_general comma us ts c g rest refl, tt))
rows_lead (parts.Data level) = (λ t p. plain t p refl, (λ word w ts rest. rest word w, tt))
rows_lead (parts.DataArguments level) = (
  λ word w. word_alone word w refl,
  (λ first o us g vs gs last c word w. word_with word first us vs last w (below level o.1) o.0 g gs c refl, tt),
)
rows_lead (parts.List level) = (λ first o ts rest. rest level first refl (below level o.1) o.0, tt)
rows_lead (parts.ListBody inner) = (
  λ last c level first e low o. empty_list first last low o c refl,
  (
    λ us g vs gs last c level first e low o.
        whole_list first us vs last low o (subst (λ n. IsGeneral n us) e g) (subst (λ n. AreGenerals n vs) e gs) c refl,
    tt,
  ),
)
rows_lead _ = tt

-- a text in which the watcher finds nothing is spelled by some items
pub items_spelled : (ts : List Token) (takers : List ItemPart) (after : Bindings) →
    Taken fof_items true (parts.Items ∷ []) (marks_of ts) takers → Sees items_watcher [] takers (marks_of ts) after →
    (items : List Item) × SpellsItems items ts
items_spelled ts takers after taken seen =
    text_holds shape_of (kept_items ts) (λ p t h. token_fits p (mark_in ts t) t (mark_tells ts t) h) rows_lead parts.Items ts
    (kept_text ts takers after taken seen)
