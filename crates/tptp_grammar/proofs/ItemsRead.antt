-- Items: what is spelled is read, so a text has at most one list of items.
use Rattle.std.specs.Prelude.{◌≡◌, ◌≤◌, ◌+◌, ℕ, zero, suc, List, [], ◌∷◌, ◌++◌, length, codes, Option, Some, None, if◌then◌else◌, refl}
use Rattle.std.specs.Option.{option_and_then}
use Rattle.std.specs.Str.{bytes_eq}
use Rattle.std.proofs.Common.{ap, sym, ◌∙◌, append_assoc, arith}
use Rattle.text_core.proofs.Laws.{value_same}
use Rattle.text_core.specs.Names.{Text}
use Rattle.logic_core.specs.declared.formula.Formula.{Formula}
use Rattle.logic_core.specs.declared.problem.Role.{Role}
use Rattle.logic_core.specs.declared.problem.Role.TheVariants.{Axiom}
use Rattle.logic_core.specs.declared.problem.Fof.{Fof}
use Rattle.logic_core.specs.declared.problem.Item.{Item}
use Rattle.logic_core.specs.declared.problem.Item.TheVariants.{Fof as ItemFof, Include}
use Rattle.tptp_lexer.specs.declared.kind.Kind.TheVariants as kind
use Rattle.tptp_lexer.specs.Tokens.{Token, name_of}
use Rattle.tptp_lexer.specs.declared.reader.Naming.TheVariants as naming
use Rattle.text_core.specs.declared.limits.TheConstants.{MOST_LEVELS}
use Rattle.tptp_grammar.specs.Roles.{role_text}
use Rattle.tptp_grammar.specs.RoleWords.{role_of}
use Rattle.tptp_grammar.specs.Reading.{behind_dot, ended, role_from, formula_at, fof_behind, fof_from, selection_from, include_behind, include_from, item_from, items_from}
use Rattle.tptp_lexer.specs.Reading.{Read, behind, reread, name_from}
use Rattle.tptp_grammar.specs.Spells.{IsAnnotation, SpellsSelection, SpellsInclude, SpellsItem, SpellsItems}
use Rattle.tptp_grammar.specs.Spells.IsAnnotation.{no_annotation, source_alone, source_with}
use Rattle.tptp_grammar.proofs.ReaderSteps.{behind_dot-other, behind_dot-here, items-none, items-next}
use Rattle.tptp_grammar.proofs.Endings.{ends_formula, Ends, ends_at}
use Rattle.tptp_lexer.proofs.Laws.{behind-here, behind-other, name_from-naming, name_from-file, selection_read, length_behind}
use Rattle.tptp_grammar.proofs.FormulasRead.{formula_read}
use Rattle.tptp_grammar.proofs.DotsSkipped.{annotation_skipped}

-- a role is told by its word
role_of-text : (role : Role) → role_of (role_text role) ≡ Some role
unfolding role_of
role_of-text Axiom = refl
role_of-text _ = refl

-- a role that is spelled is read
role_read : (t : Token) (role : Role) (ts : List Token) → t.text ≡ role_text role → role_from (t ∷ ts) ≡ Some (role, ts)
unfolding role_from
role_read t role ts is = ap (option_and_then (λ role. Some (role, ts))) (ap role_of is ∙ role_of-text role)

-- what is behind a formula ends it
annotation_ends : {us : List Token} → IsAnnotation us → (t : Token) (ts : List Token) → t.kind ≡ kind.CloseParenthesis →
    Ends ends_formula (us ++ (t ∷ ts))
annotation_ends no_annotation t ts is = ends_at ends_formula kind.CloseParenthesis t is refl
annotation_ends (source_alone comma us mark g split) t ts is = rw split (ends_at ends_formula kind.Comma comma mark refl)
annotation_ends (source_with comma us between vs mark g next l split) t ts is = rw split (ends_at ends_formula kind.Comma comma mark refl)

-- an item up to its dot
end_read : (last dot : Token) (rest : List Token) → last.kind ≡ kind.CloseParenthesis → dot.kind ≡ kind.Dot →
    behind_dot (last ∷ dot ∷ rest) ≡ Some rest
end_read last dot rest closes is = behind_dot-other kind.CloseParenthesis last (dot ∷ rest) closes refl ∙ behind_dot-here dot rest is

-- an item is read up to its dot
ended_read : {X : Type 0} (x : X) (ts rest : List Token) → behind_dot ts ≡ Some rest → ended (x, ts) ≡ Some (x, rest)
ended_read x ts rest found = ap (option_and_then (λ ts. Some (x, ts))) found

-- a formula's item behind its name
behind_name : (depth : ℕ) (fof : Fof) (comma role between : Token) (ts tail rest : List Token) → comma.kind ≡ kind.Comma →
    role.text ≡ role_text fof.role → between.kind ≡ kind.Comma → formula_at depth ts ≡ Some (fof.formula, tail) →
    behind_dot tail ≡ Some rest →
    fof_behind depth (fof.name, comma ∷ role ∷ between ∷ ts) ≡ Some (ItemFof fof, rest)
behind_name depth fof comma role between ts tail rest is_comma is_role is_between read found =
    ap (option_and_then (λ ts. option_and_then at_role (role_from ts))) (behind-here kind.Comma comma (role ∷ between ∷ ts) is_comma) ∙
    (ap (option_and_then at_role) (role_read role fof.role (between ∷ ts) is_role) ∙
    (ap (option_and_then (λ ts. option_and_then ended (reread item (formula_at depth ts)))) (behind-here kind.Comma between ts is_between) ∙
    (ap (λ read. option_and_then ended (reread item read)) read ∙ ended_read (ItemFof fof) tail rest found)))
  where
    item : Formula → Item
    item f = ItemFof (record { name = fof.name; role = fof.role; formula = f })

    at_role : Role × List Token → Read Item
    at_role role = option_and_then (λ ts. option_and_then ended
        (reread (λ f. ItemFof (record { name = fof.name; role = role.0; formula = f })) (formula_at depth ts))) (behind kind.Comma role.1)

-- a formula's item behind `fof`
fof_read : (depth : ℕ) (fof : Fof) (first name comma role between : Token) (ts tail rest : List Token) → first.kind ≡ kind.OpenParenthesis →
    fof.name ≡ name_of name → name_from naming.OfFormula (name ∷ comma ∷ role ∷ between ∷ ts) ≡ Some (name_of name, comma ∷ role ∷ between ∷ ts) →
    comma.kind ≡ kind.Comma → role.text ≡ role_text fof.role → between.kind ≡ kind.Comma →
    formula_at depth ts ≡ Some (fof.formula, tail) → behind_dot tail ≡ Some rest →
    fof_from depth (first ∷ name ∷ comma ∷ role ∷ between ∷ ts) ≡ Some (ItemFof fof, rest)
unfolding fof_from
fof_read depth fof first name comma role between ts tail rest opens is_name named is_comma is_role is_between read found =
    let later = comma ∷ role ∷ between ∷ ts in
    ap (option_and_then (λ ts. option_and_then (fof_behind depth) (name_from naming.OfFormula ts))) (behind-here kind.OpenParenthesis first (name ∷ later) opens) ∙
    (ap (option_and_then (fof_behind depth)) named ∙
    (ap (λ x. fof_behind depth (x, later)) (sym is_name) ∙
    behind_name depth fof comma role between ts tail rest is_comma is_role is_between read found))

-- an item that begins with `fof`
item_is_fof : (depth : ℕ) (t : Token) (ts : List Token) → t.text ≡ codes "fof" → item_from depth (t ∷ ts) ≡ fof_from depth ts
unfolding item_from
item_is_fof depth t ts is = ap (λ text. if bytes_eq text (codes "fof") then fof_from depth ts else include_from ts) is

-- an item that begins with `include`
item_is_include : (depth : ℕ) (t : Token) (ts : List Token) → t.text ≡ codes "include" → item_from depth (t ∷ ts) ≡ include_from ts
unfolding item_from
item_is_include depth t ts is = ap (λ text. if bytes_eq text (codes "fof") then fof_from depth ts else include_from ts) is

-- a selection behind its comma
only_read : (only : Option (List Text)) (us : List Token) (last : Token) (rest : List Token) → SpellsSelection only us →
    last.kind ≡ kind.CloseParenthesis →
    selection_from (behind kind.Comma (us ++ (last ∷ rest))) (us ++ (last ∷ rest)) ≡ Some (only, last ∷ rest)
only_read None us last rest s closes = rw s
    (ap (λ found. selection_from found (last ∷ rest)) (behind-other kind.Comma kind.CloseParenthesis last rest closes refl))
only_read (Some names) all last rest s closes = let (comma, us, is, listed, split) = s in rw split
    (ap (λ found. selection_from found (comma ∷ (us ++ (last ∷ rest)))) (behind-here kind.Comma comma (us ++ (last ∷ rest)) is) ∙
    ap (reread Some) (selection_read names us (last ∷ rest) listed))

-- an inclusion that is spelled is read
include_read : (file : Text) (only : Option (List Text)) (us rest : List Token) (s : SpellsInclude file only us) (depth : ℕ) →
    item_from depth (us ++ rest) ≡ Some (Include file only, rest)
unfolding include_from
include_read file only us rest s depth = let tail = s.last ∷ s.dot ∷ rest in
    rw (s.split, append_assoc s.selection (s.last ∷ s.dot ∷ []) rest)
    (item_is_include depth s.word (s.first ∷ s.quoted ∷ (s.selection ++ tail)) s.is_word.1 ∙
    (ap (option_and_then (λ ts. option_and_then include_behind (name_from naming.OfFile ts)))
    (behind-here kind.OpenParenthesis s.first (s.quoted ∷ (s.selection ++ tail)) s.opens) ∙
    (ap (option_and_then include_behind) (name_from-file s.quoted (s.selection ++ tail) s.is_file.0) ∙
    (ap (λ x. include_behind (x, s.selection ++ tail)) (sym s.is_file.1) ∙
    (ap (λ read. option_and_then ended (reread (Include file) read)) (only_read only s.selection s.last (s.dot ∷ rest) s.selected s.closes) ∙
    ended_read (Include file only) tail rest (end_read s.last s.dot rest s.closes s.is_dot))))))

-- an item that is spelled is read
item_read : (item : Item) (us rest : List Token) → SpellsItem item us → (depth : ℕ) → 0 + depth ≡ MOST_LEVELS →
    item_from depth (us ++ rest) ≡ Some (item, rest)
item_read (Include file only) us rest s depth sum = include_read file only us rest s depth
item_read (ItemFof fof) us rest s depth sum = let tail = s.last ∷ s.dot ∷ rest in
    rw (s.split, append_assoc s.formula (s.annotation ++ (s.last ∷ s.dot ∷ [])) rest, append_assoc s.annotation (s.last ∷ s.dot ∷ []) rest)
    (item_is_fof depth s.word (s.first ∷ s.name ∷ s.comma ∷ s.role ∷ s.between ∷ (s.formula ++ (s.annotation ++ tail))) s.is_word.1 ∙
    fof_read depth fof s.first s.name s.comma s.role s.between (s.formula ++ (s.annotation ++ tail)) (s.annotation ++ tail) rest s.opens s.is_name.1
    (name_from-naming s.name (s.comma ∷ s.role ∷ s.between ∷ (s.formula ++ (s.annotation ++ tail))) s.is_name.0) s.is_comma s.is_role.1 s.is_between
    (formula_read s.spelled depth (s.annotation ++ tail) sum (annotation_ends s.annotated s.last (s.dot ∷ rest) s.closes))
    (annotation_skipped s.annotated tail ∙ end_read s.last s.dot rest s.closes s.is_dot))

-- an item begins with a token
item_begins : (item : Item) (us : List Token) → SpellsItem item us → (t : Token) × (ts : List Token) × (us ≡ t ∷ ts)
item_begins (Include file only) us s = (s.word, s.first ∷ s.quoted ∷ (s.selection ++ (s.last ∷ s.dot ∷ [])), s.split)
item_begins (ItemFof fof) us s =
    (s.word, s.first ∷ s.name ∷ s.comma ∷ s.role ∷ s.between ∷ (s.formula ++ (s.annotation ++ (s.last ∷ s.dot ∷ []))), s.split)

-- an item and those behind it are read
next_read : (depth most : ℕ) (item : Item) (items : List Item) (us vs all : List Token) → (t : Token) × (ts : List Token) × (us ≡ t ∷ ts) →
    all ≡ us ++ vs → item_from depth (us ++ vs) ≡ Some (item, vs) → items_from depth most vs ≡ Some (items, []) →
    items_from depth (suc most) all ≡ Some (item ∷ items, [])
next_read depth most item items us vs all begins split one others = let (t, ts, front) = begins in
    rw (split, front) (items-next depth most item items t (ts ++ vs) vs (rw front at one) others)

-- items take no more than there are tokens
items_few : (items : List Item) (ts : List Token) → SpellsItems items ts → length items ≤ length ts
items_few [] ts s = omega arith
items_few (item ∷ items) all s = let (us, vs, first, later, split) = s in
    let (t, ts, front) = item_begins item us first in
    rw (split, front) (length_behind ts vs (length items) (items_few items vs later))

-- items that are spelled are read
all_read : (depth : ℕ) → 0 + depth ≡ MOST_LEVELS → (items : List Item) (most : ℕ) (ts : List Token) → SpellsItems items ts →
    length items ≤ most → items_from depth most ts ≡ Some (items, [])
all_read depth sum [] most ts s few = rw s (items-none depth most)
all_read depth sum (item ∷ items) zero ts s few = absurd (omega arith)
all_read depth sum (item ∷ items) (suc most) all s few = let (us, vs, first, later, split) = s in
    let fewer : length items ≤ most = omega arith in
    next_read depth most item items us vs all (item_begins item us first) split (item_read item us vs first depth sum)
    (all_read depth sum items most vs later fewer)

-- the items that the tokens spell are read
pub items_read : (items : List Item) (ts : List Token) → SpellsItems items ts → items_from MOST_LEVELS (length ts) ts ≡ Some (items, [])
items_read items ts s = all_read MOST_LEVELS refl items (length ts) ts s (items_few items ts s)

-- a text spells at most one list of items
pub one_text : (a b : List Item) (ts : List Token) → SpellsItems a ts → SpellsItems b ts → a ≡ b
one_text a b ts s r = ap (λ (read : List Item × List Token). read.0) (value_same (sym (items_read a ts s) ∙ items_read b ts r))
