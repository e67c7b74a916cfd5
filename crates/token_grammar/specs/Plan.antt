-- When one look at the next token is enough: a plan that says which alternative each token asks
-- for, and the test that a grammar and its plan have to pass. Source: the LL(1) condition, with its
-- first and follow sets.
use Rattle.std.specs.Prelude.{ℕ, zero, suc, ◌+◌, Bool, true, false, not, ◌&&◌, ◌||◌, List, [], ◌∷◌, Some, None, IsTrue, nat_lt, if◌then◌else◌}
use Rattle.std.specs.declared.option.Option.{Option}
use Rattle.token_grammar.specs.Grammar.{Grammar}

-- a plan: the number of the alternative that a token asks for, from 0; the tokens that may stand
-- after a part; and a cost that is greater than that of the first members of each of the part's
-- alternatives
pub record Plan (P T : Type 0) : Type 0 where
  pub chosen : P → T → Option ℕ
  pub follow : P → T → Bool
  pub cost : P → ℕ

-- the element of this number, if there is one
abbrev pub numbered : {A : Type 0} → Option ℕ → List A → Option A
numbered None row = None
numbered (Some n) [] = None
numbered (Some zero) (a ∷ rest) = Some a
numbered (Some (suc n)) (a ∷ rest) = numbered (Some n) rest

-- whether the number is that of a list's first element
abbrev pub is_first : Option ℕ → Bool
is_first None = false
is_first (Some zero) = true
is_first (Some (suc n)) = false

-- the number, counted from a list's second element
abbrev pub one_less : Option ℕ → Option ℕ
one_less None = None
one_less (Some zero) = None
one_less (Some (suc n)) = Some n

-- whether the row has no members
abbrev pub is_empty : {A : Type 0} → List A → Bool
is_empty [] = true
is_empty (a ∷ rest) = false

-- whether some row has no members
abbrev pub has_empty : {A : Type 0} → List (List A) → Bool
has_empty [] = false
has_empty (row ∷ rows) = is_empty row || has_empty rows

-- whether the part may stand for no tokens
abbrev pub is_nullable : {P T : Type 0} → Grammar P T → P → Bool
is_nullable g p = has_empty (g.alternatives p)

-- whether each member may stand for no tokens
abbrev pub all_nullable : {P T : Type 0} → Grammar P T → List P → Bool
all_nullable g [] = true
all_nullable g (p ∷ row) = is_nullable g p && all_nullable g row

-- the alternative that the token asks for
abbrev pub predicted : {P T : Type 0} → Grammar P T → Plan P T → P → T → Option (List P)
predicted g plan p t = numbered (plan.chosen p t) (g.alternatives p)

-- whether the choice is a row with members
abbrev pub is_row : {A : Type 0} → Option (List A) → Bool
is_row None = false
is_row (Some []) = false
is_row (Some (a ∷ rest)) = true

-- whether the token may begin the part
abbrev pub may_begin : {P T : Type 0} → Grammar P T → Plan P T → P → T → Bool
may_begin g plan p t = g.takes p t || is_row (predicted g plan p t)

-- whether the token may begin the row
abbrev pub row_begins : {P T : Type 0} → Grammar P T → Plan P T → List P → T → Bool
row_begins g plan [] t = false
row_begins g plan (p ∷ row) t = may_begin g plan p t || (is_nullable g p && row_begins g plan row t)

-- the cost of the members that may be looked at before a token is taken
abbrev pub weight : {P T : Type 0} → Grammar P T → Plan P T → List P → ℕ
weight g plan [] = 0
weight g plan (p ∷ row) = plan.cost p + (if is_nullable g p then weight g plan row else 0)

-- each alternative costs less than the part, and at most one may stand for no tokens: the empty
-- one, once
abbrev pub rows_pass : {P T : Type 0} → Grammar P T → Plan P T → ℕ → List (List P) → Bool
rows_pass g plan most [] = true
rows_pass g plan most (row ∷ rows) =
    (if is_empty row then not (has_empty rows) else not (all_nullable g row)) &&
    (nat_lt (weight g plan row) most && rows_pass g plan most rows)

-- the test of a part by itself
abbrev pub part_test : {P T : Type 0} → Grammar P T → Plan P T → P → Bool
part_test g plan p = rows_pass g plan (plan.cost p) (g.alternatives p)

-- a token that may stand after a member of the row, because of what follows there, is one that may
-- follow the member
abbrev pub follow_passes : {P T : Type 0} → Grammar P T → Plan P T → P → T → List P → Bool
follow_passes g plan p t [] = true
follow_passes g plan p t (q ∷ row) =
    (plan.follow q t || not (row_begins g plan row t ||
    (all_nullable g row && plan.follow p t))) && follow_passes g plan p t row

-- whether the token asks for the row, as an alternative of the part
abbrev pub asks : {P T : Type 0} → Grammar P T → Plan P T → P → T → List P → Bool
asks g plan p t [] = plan.follow p t
asks g plan p t (q ∷ row) = row_begins g plan (q ∷ row) t

-- each alternative that the token asks for is the chosen one
abbrev pub choice_passes : {P T : Type 0} → Grammar P T → Plan P T → P → T → Option ℕ →
    List (List P) → Bool
choice_passes g plan p t number [] = true
choice_passes g plan p t number (row ∷ rows) =
    (is_first number || not (asks g plan p t row)) &&
    (follow_passes g plan p t row && choice_passes g plan p t (one_less number) rows)

-- the test of a part at a token; a part that takes the token has no alternatives
abbrev pub token_test : {P T : Type 0} → Grammar P T → Plan P T → P → T → Bool
token_test g plan p t =
    (is_empty (g.alternatives p) || not (g.takes p t)) && choice_passes g plan p t
    (plan.chosen p t) (g.alternatives p)

-- one look at the next token is enough: the tests hold at each part and token
pub record IsPredictive {P T : Type 0} (g : Grammar P T) (plan : Plan P T) : Type 0 where
  pub at_part : (p : P) → IsTrue (part_test g plan p)
  pub at_token : (p : P) (t : T) → IsTrue (token_test g plan p t)
