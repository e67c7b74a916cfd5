-- The reader, one step at a time: a level, the first dot, an item. The rulesets are for its loops.
use Rattle.std.specs.Prelude.{◌≡◌, ℕ, zero, suc, ◌-◌, ◌<◌, true, false, List, [], ◌∷◌, length, Option, Some, None, if◌then◌else◌, refl}
use Rattle.std.specs.Option.{option_and_then}
use Rattle.std.proofs.Common.{ap, sym, ◌∙◌, arith}
use Rattle.text_core.proofs.Laws.{value_same}
use Rattle.logic_core.specs.declared.problem.Item.{Item}
use Rattle.tptp_lexer.specs.declared.kind.Kind.{Kind}
use Rattle.tptp_lexer.specs.declared.kind.Kind.TheVariants as kind
use Rattle.tptp_lexer.specs.First.{first_of}
use Rattle.tptp_lexer.specs.Reading.{with_front}
use Rattle.tptp_lexer.specs.Same.{same_kind}
use Rattle.tptp_lexer.specs.Tokens.{Token}
use Rattle.tptp_grammar.specs.Reading.{levels, nothing, below_at, inside_at, unit_with, unit_at, formula_at, behind_dot, item_from, items_from}

-- levels

-- a unit below a `~` or a quantifier is read one level further down
pub below_is : (depth : ℕ) (ts : List Token) → below_at (suc depth) ts ≡ unit_at depth ts
unfolding unit_at levels
below_is depth ts = refl

-- a formula in brackets is read one level further down
pub inside_is : (depth : ℕ) (ts : List Token) → inside_at (suc depth) ts ≡ formula_at depth ts
unfolding formula_at unit_at levels
inside_is depth ts = refl

-- a unit is read from what is below and inside it
pub unit_is : (depth : ℕ) (ts : List Token) → unit_at depth ts ≡ unit_with (below_at depth) (inside_at depth) ts
unfolding unit_at
unit_is depth ts = refl

-- no unit is read where no level may be opened
pub below_none : (ts : List Token) → below_at 0 ts ≡ nothing ts
unfolding levels
below_none ts = refl

-- no formula is read where no level may be opened
pub inside_none : (ts : List Token) → inside_at 0 ts ≡ nothing ts
unfolding levels
inside_none ts = refl

-- a unit below a `~` or a quantifier takes one level
pub below_opens : (depth : ℕ) (ts : List Token) → 0 < depth → below_at depth ts ≡ unit_at (depth - 1) ts
unfolding levels unit_at
below_opens zero ts some = absurd (omega arith)
below_opens (suc depth) ts some = let less : suc depth - 1 ≡ depth = omega arith in rw less refl

-- a formula in brackets takes one level
pub inside_opens : (depth : ℕ) (ts : List Token) → 0 < depth → inside_at depth ts ≡ formula_at (depth - 1) ts
unfolding levels unit_at formula_at
inside_opens zero ts some = absurd (omega arith)
inside_opens (suc depth) ts some = let less : suc depth - 1 ≡ depth = omega arith in rw less refl

-- the rules for a level
pub ruleset levels_open = (below_none, inside_none, below_opens, inside_opens)

-- the first dot

-- a token that is no dot is passed over
pub behind_dot-other : (k : Kind) (t : Token) (ts : List Token) → t.kind ≡ k → same_kind k kind.Dot ≡ false → behind_dot (t ∷ ts) ≡ behind_dot ts
unfolding behind_dot
behind_dot-other k t ts is apart = ap (λ k. if same_kind k kind.Dot then Some ts else behind_dot ts) is ∙ ap (λ b. if b then Some ts else behind_dot ts) apart

-- a dot is found
pub behind_dot-here : (t : Token) (ts : List Token) → t.kind ≡ kind.Dot → behind_dot (t ∷ ts) ≡ Some ts
unfolding behind_dot
behind_dot-here t ts is = ap (λ k. if same_kind k kind.Dot then Some ts else behind_dot ts) is

-- the parts of a first token, with those behind it
same_parts : (t u : Token) (ts us : List Token) → ◌≡◌ {A = Option (Token × List Token)} (Some (t, ts)) (Some (u, us)) → (t ≡ u) × (ts ≡ us)
same_parts t u ts us e = let same = value_same e in (ap (λ (p : Token × List Token). p.0) same, ap (λ (p : Token × List Token). p.1) same)

-- a dot that is the first token is found
pub dot_first : (t : Token) (tail ts : List Token) → same_kind t.kind kind.Dot ≡ true → Some (t, tail) ≡ first_of ts → behind_dot ts ≡ Some tail
unfolding behind_dot
dot_first t tail [] dot first = absurd (cc)
dot_first t tail (u ∷ us) dot first = let same = same_parts t u tail us first in rw (← same.0, dot) (ap Some (sym same.1))

-- a first token that is no dot is passed over
pub dot_later : (t : Token) (tail ts : List Token) → same_kind t.kind kind.Dot ≡ false → Some (t, tail) ≡ first_of ts → behind_dot ts ≡ behind_dot tail
unfolding behind_dot
dot_later t tail [] dot first = absurd (cc)
dot_later t tail (u ∷ us) dot first = let same = same_parts t u tail us first in rw (← same.0, dot) (ap behind_dot (sym same.1))

-- where no token is left, there is no dot
pub no_dot : (ts : List Token) → None ≡ first_of ts → behind_dot ts ≡ None
unfolding behind_dot
no_dot [] first = refl
no_dot (u ∷ us) first = absurd (cc)

-- behind a token fewer are left
pub fewer : (t : Token) (tail ts : List Token) → Some (t, tail) ≡ first_of ts → length tail < length ts
fewer t tail [] first = absurd (cc)
fewer t tail (u ∷ us) first = let same = ap length (same_parts t u tail us first).1 in omega arith

-- the rules for the first dot
pub ruleset dots = (dot_first, dot_later, no_dot, fewer)

-- items

-- no items are read of no tokens
pub items-none : (depth most : ℕ) → items_from depth most [] ≡ Some ([], [])
unfolding items_from
items-none depth zero = refl
items-none depth (suc most) = refl

-- an item is read, and others behind it
pub items-next : (depth most : ℕ) (item : Item) (items : List Item) (t : Token) (ts rest : List Token) →
    item_from depth (t ∷ ts) ≡ Some (item, rest) → items_from depth most rest ≡ Some (items, []) →
    items_from depth (suc most) (t ∷ ts) ≡ Some (item ∷ items, [])
unfolding items_from
items-next depth most item items t ts rest one more =
    ap (option_and_then (λ (read : Item × List Token). with_front (read.0 ∷ []) (items_from depth most read.1))) one ∙
    ap (with_front (item ∷ [])) more
