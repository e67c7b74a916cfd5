-- Items, and texts of items, as pieces; the tokens of a whole text.
use Rattle.std.proofs.Common.{◌≡◌, ℕ, ◌≤◌, true, List, length, drop, [], ◌∷◌, ◌++◌, map, Option, Some, None, codes, refl, ap, sym, ◌∙◌, subst, arith}
use Rattle.std.specs.List.{AllByRecursion}
use Rattle.std.proofs.lemmas.List.{append-nil, drop_all}
use Rattle.text_core.specs.Names.{Text, is_lower, is_word_from}
use Rattle.text_core.specs.NameTexts.{IsNameText}
use Rattle.logic_core.specs.Allowed.{FofIsAllowed, ItemIsAllowed}
use Rattle.logic_core.specs.declared.problem.Role.{Role}
use Rattle.logic_core.specs.declared.problem.Role.TheVariants as role
use Rattle.logic_core.specs.declared.problem.Fof.{Fof}
use Rattle.logic_core.specs.declared.problem.Item.{Item}
use Rattle.logic_core.specs.declared.problem.Item.TheVariants.{Fof as ItemFof, Include}
use Rattle.tptp_lexer.specs.declared.kind.Kind.TheVariants as kind
use Rattle.tptp_lexer.specs.Tokens.{Token, AreTokens, stop}
use Rattle.tptp_grammar.specs.Roles.{role_text}
use Rattle.tptp_grammar.specs.Spells.{SpellsFormula, no_annotation, SpellsFof, SpellsSelection, SpellsInclude, SpellsItem, SpellsItems, ItemIsClosed, AreItemsOf}
use Rattle.tptp_lexer.specs.Spelling.{IsNaming, SpellsName, SpellsListed}
use Rattle.tptp_printer.specs.Canonical.{name_text, selection_text, item_text, items_text, problem_text}
use Rattle.tptp_printer.specs.Named.{SelectionIsNamed, ItemIsNamed}
use Rattle.tptp_lexer.proofs.Laws.{Any, NoWord, Gives, Both, IsOne, IsToken, nothing, seen, followed}
use Rattle.tptp_lexer.proofs.Laws.{open_parenthesis, close_parenthesis, open_bracket, close_bracket, comma, dot, gap_after}
use Rattle.tptp_lexer.proofs.Laws.{lower_word, naming, quoted}
use Rattle.tptp_printer.proofs.Listed.{listed, between}
use Rattle.tptp_printer.proofs.Formulas.{whole}

-- an item's end
closing : Gives Any (codes ").") (Both (IsOne kind.CloseParenthesis) (IsOne kind.Dot))
closing = followed close_parenthesis dot (λ rest may. tt)

-- the word that an item begins with, and the bracket behind it
opening : (x : Text) → is_word_from is_lower x ≡ true → Gives Any (x ++ codes "(") (Both (IsToken kind.Lower x) (IsOne kind.OpenParenthesis))
opening x h = followed (lower_word x h) open_parenthesis (λ rest may. refl)

-- the word of a role is a word in lower case
role_word : (r : Role) → is_word_from is_lower (role_text r) ≡ true
role_word role.Axiom = refl
role_word role.Hypothesis = refl
role_word role.Definition = refl
role_word role.Assumption = refl
role_word role.Lemma = refl
role_word role.Theorem = refl
role_word role.Corollary = refl
role_word role.NegatedConjecture = refl
role_word role.Conjecture = refl

-- one more token behind known ones
one_behind : (ts us vs known : List Token) (t : Token) → ts ≡ us ++ vs → us ≡ known → vs ≡ t ∷ [] → ts ≡ known ++ t ∷ []
one_behind ts us vs known t e f g = e ∙ ap (λ (xs : List Token). xs ++ vs) f ∙ ap (λ (xs : List Token). known ++ xs) g

-- the tokens of a formula with its name and role
abbrev FofTokens : Fof → List Token → Type 0
FofTokens fof = Both (Both (Both (Both (Both (Both (Both (IsToken kind.Lower (codes "fof")) (IsOne kind.OpenParenthesis)) (SpellsName IsNaming fof.name)) (IsOne kind.Comma)) (IsToken kind.Lower (role_text fof.role))) (IsOne kind.Comma)) (SpellsFormula 0 fof.formula)) (Both (IsOne kind.CloseParenthesis) (IsOne kind.Dot))

-- these tokens spell a formula with its name and role
fof_tokens : (fof : Fof) (ts : List Token) → FofTokens fof ts → SpellsFof fof ts
fof_tokens fof ts s =
    let formula = s.2 in
    let between = formula.2 in
    let role = between.2 in
    let comma = role.2 in
    let name = comma.2 in
    let head = name.2 in
    let end = s.3 in
    let word = head.2 in
    let first = head.3 in
    let named = name.3 in
    let told = role.3 in
    let two = one_behind name.0 head.0 head.1 (word.0 ∷ []) first.0 head.4 word.3 first.2 in
    let three = one_behind comma.0 name.0 name.1 (word.0 ∷ first.0 ∷ []) named.0 name.4 two named.3 in
    let four = one_behind role.0 comma.0 comma.1 (word.0 ∷ first.0 ∷ named.0 ∷ []) (comma.3).0 comma.4 three (comma.3).2 in
    let five = one_behind between.0 role.0 role.1 (word.0 ∷ first.0 ∷ named.0 ∷ (comma.3).0 ∷ []) told.0 role.4 four told.3 in
    let six = one_behind formula.0 between.0 between.1 (word.0 ∷ first.0 ∷ named.0 ∷ (comma.3).0 ∷ told.0 ∷ []) (between.3).0 between.4 five (between.3).2 in
    let last = one_behind s.1 end.0 end.1 ((end.2).0 ∷ []) (end.3).0 end.4 (end.2).2 (end.3).2 in
    record {
      word = word.0;
      first = first.0;
      name = named.0;
      comma = (comma.3).0;
      role = told.0;
      between = (between.3).0;
      formula = formula.1;
      annotation = [];
      last = (end.2).0;
      dot = (end.3).0;
      is_word = (word.1, word.2);
      opens = first.1;
      is_name = (named.1, named.2);
      is_comma = (comma.3).1;
      is_role = (told.1, told.2);
      is_between = (between.3).1;
      spelled = formula.3;
      annotated = no_annotation;
      closes = (end.2).1;
      is_dot = (end.3).1;
      split = s.4 ∙ ap (λ (xs : List Token). xs ++ s.1) (formula.4 ∙ ap (λ (xs : List Token). xs ++ formula.1) six) ∙ ap (λ (xs : List Token). word.0 ∷ first.0 ∷ named.0 ∷ (comma.3).0 ∷ told.0 ∷ (between.3).0 ∷ (formula.1 ++ xs)) last;
    }

-- a formula with its name and role
fof_piece : (fof : Fof) → FofIsAllowed fof → ItemIsNamed (ItemFof fof) → Gives Any (item_text (ItemFof fof)) (SpellsFof fof)
fof_piece fof m n =
    let head = followed (opening (codes "fof") refl) (naming fof.name n.0) (λ rest may. tt) in
    let role = followed (followed head comma (λ rest may. refl)) (lower_word (role_text fof.role) (role_word fof.role)) (λ rest may. tt) in
    let formula = followed (followed role comma (λ rest may. refl)) (whole fof.formula [] 0 n.1 m.closed (let shallow = m.shallow in omega arith)) (λ rest may. tt) in
    gap_after 10 refl (λ rest. tt) (seen (fof_tokens fof) (followed formula closing (λ rest may. refl)))

-- the names of a selection
each_name : (names : List Text) → AllByRecursion IsNameText names → AllByRecursion (λ name. Gives NoWord (name_text name) (SpellsName IsNaming name)) names
each_name [] n = tt
each_name (name ∷ names) n = (naming name n.0, each_name names n.1)

-- these tokens spell a selection
selection_tokens : (names : List Text) (ts : List Token) → Both (Both (Both (IsOne kind.Comma) (IsOne kind.OpenBracket)) (SpellsListed (SpellsName IsNaming) names)) (IsOne kind.CloseBracket) ts → SpellsSelection (Some names) ts
selection_tokens names ts s =
    let inner = s.2 in
    let head = inner.2 in
    let comma = head.2 in (
      comma.0,
      (head.1 ++ inner.1) ++ s.1,
      comma.1,
      between kind.OpenBracket kind.CloseBracket (SpellsName IsNaming) names head.1 inner.1 s.1 ((head.1 ++ inner.1) ++ s.1) head.3 inner.3 s.3 refl,
      s.4 ∙ ap (λ (xs : List Token). xs ++ s.1) (inner.4 ∙ ap (λ (xs : List Token). xs ++ inner.1) (head.4 ∙ ap (λ (xs : List Token). xs ++ head.1) comma.2)),
    )

-- what follows an inclusion's file
selection_piece : (file : Text) (only : Option (List Text)) → ItemIsAllowed (Include file only) → SelectionIsNamed only → Gives Any (selection_text only) (SpellsSelection only)
selection_piece file None m n = nothing
selection_piece file (Some []) m n = absurd m
selection_piece file (Some (name ∷ names)) m n =
    let inner = followed (followed comma open_bracket (λ rest may. tt)) (listed name_text (SpellsName IsNaming) name names (each_name (name ∷ names) n)) (λ rest may. tt) in
    seen (selection_tokens (name ∷ names)) (followed inner close_bracket (λ rest may. refl))

-- the tokens of an inclusion
abbrev IncludeTokens : Text → Option (List Text) → List Token → Type 0
IncludeTokens file only = Both (Both (Both (Both (IsToken kind.Lower (codes "include")) (IsOne kind.OpenParenthesis)) (SpellsName (λ t. t.kind ≡ kind.Quoted) file)) (SpellsSelection only)) (Both (IsOne kind.CloseParenthesis) (IsOne kind.Dot))

-- these tokens spell an inclusion
include_tokens : (file : Text) (only : Option (List Text)) (ts : List Token) → IncludeTokens file only ts → SpellsInclude file only ts
include_tokens file only ts s =
    let selection = s.2 in
    let quoted = selection.2 in
    let head = quoted.2 in
    let end = s.3 in
    let word = head.2 in
    let first = head.3 in
    let named = quoted.3 in
    let two = one_behind quoted.0 head.0 head.1 (word.0 ∷ []) first.0 head.4 word.3 first.2 in
    let three = one_behind selection.0 quoted.0 quoted.1 (word.0 ∷ first.0 ∷ []) named.0 quoted.4 two named.3 in
    let last = one_behind s.1 end.0 end.1 ((end.2).0 ∷ []) (end.3).0 end.4 (end.2).2 (end.3).2 in
    record {
      word = word.0;
      first = first.0;
      quoted = named.0;
      selection = selection.1;
      last = (end.2).0;
      dot = (end.3).0;
      is_word = (word.1, word.2);
      opens = first.1;
      is_file = (named.1, named.2);
      selected = selection.3;
      closes = (end.2).1;
      is_dot = (end.3).1;
      split = s.4 ∙ ap (λ (xs : List Token). xs ++ s.1) (selection.4 ∙ ap (λ (xs : List Token). xs ++ selection.1) three) ∙ ap (λ (xs : List Token). word.0 ∷ first.0 ∷ named.0 ∷ (selection.1 ++ xs)) last;
    }

-- an item
item_piece : (item : Item) → ItemIsAllowed item → ItemIsNamed item → Gives Any (item_text item) (SpellsItem item)
item_piece (ItemFof fof) m n = fof_piece fof m n
item_piece (Include file only) m n =
    let head = followed (opening (codes "include") refl) (quoted file n.0) (λ rest may. tt) in
    gap_after 10 refl (λ rest. tt) (seen (include_tokens file only) (followed (followed head (selection_piece file only m n.1) (λ rest may. tt)) closing (λ rest may. tt)))

-- items one after another
items_piece : (items : List Item) → AllByRecursion ItemIsAllowed items → AllByRecursion ItemIsNamed items → Gives Any (items_text items) (SpellsItems items)
items_piece [] m n = nothing
items_piece (item ∷ items) m n = followed (item_piece item m.0 n.0) (items_piece items m.1 n.1) (λ rest may. tt)

-- an item that may be in a problem is closed
is_closed : (item : Item) → ItemIsAllowed item → ItemIsClosed item
is_closed (ItemFof fof) m = m.closed
is_closed (Include file only) m = tt

-- so are items
are_closed : (items : List Item) → AllByRecursion ItemIsAllowed items → AllByRecursion ItemIsClosed items
are_closed [] m = tt
are_closed (item ∷ items) m = (is_closed item m.0, are_closed items m.1)

-- the text of items has tokens, which are a text of the same items
read_back : (items : List Item) (bytes : Text) → bytes ≡ items_text items → AllByRecursion ItemIsAllowed items → AllByRecursion ItemIsNamed items → (ts : List Token) × AreTokens bytes ts × AreItemsOf ts items
read_back items bytes e m n =
    let g = (items_piece items m n).give 0 [] tt in (
      g.0,
      rw (e, ← append-nil (items_text items), ← append-nil g.0) (g.2 [] (stop refl)),
      record { spelled = g.1; closed = are_closed items m },
    )

-- formulas that may be in a problem, as items
each_fof : (fofs : List Fof) → AllByRecursion FofIsAllowed fofs → AllByRecursion ItemIsAllowed (map ItemFof fofs)
each_fof [] m = tt
each_fof (fof ∷ fofs) m = (m.0, each_fof fofs m.1)

-- formulas with names, as items
named_fofs : (fofs : List Fof) → AllByRecursion (λ fof. ItemIsNamed (ItemFof fof)) fofs → AllByRecursion ItemIsNamed (map ItemFof fofs)
named_fofs [] n = tt
named_fofs (fof ∷ fofs) n = (n.0, named_fofs fofs n.1)

-- the same for one item, and for the formulas of a problem

-- for one item
pub item_back : (item : Item) (bytes : Text) → bytes ≡ item_text item → ItemIsAllowed item → ItemIsNamed item → (ts : List Token) × AreTokens bytes ts × AreItemsOf ts (item ∷ [])
item_back item bytes e m n = read_back (item ∷ []) bytes (e ∙ sym (append-nil (item_text item))) (m, tt) (n, tt)

-- for the formulas of a problem
pub problem_back : (fofs items : List Fof) (at : ℕ) (bytes : Text) → length items ≤ at → bytes ++ problem_text (drop at items) ≡ problem_text fofs → AllByRecursion FofIsAllowed fofs → (AllByRecursion (λ fof. ItemIsNamed (ItemFof fof)) (drop at items) → AllByRecursion (λ fof. ItemIsNamed (ItemFof fof)) fofs) → (ts : List Token) × AreTokens bytes ts × AreItemsOf ts (map ItemFof fofs)
problem_back fofs items at bytes done e m n =
    let left : drop at items ≡ [] = drop_all at items done in
    read_back (map ItemFof fofs) bytes (sym (append-nil bytes) ∙ ap (λ rest. bytes ++ problem_text rest) (sym left) ∙ e) (each_fof fofs m) (named_fofs fofs (n (subst (AllByRecursion (λ fof. ItemIsNamed (ItemFof fof))) (sym left) tt)))
