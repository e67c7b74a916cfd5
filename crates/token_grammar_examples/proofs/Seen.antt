-- The watcher's count is told by the values: a line for each row.
use Rattle.std.specs.Prelude.{◌≡◌, ℕ, ◌+◌, ◌-◌, ◌<◌, Bool, true, false, nat_lt, List, [], ◌∷◌, IsTrue, Result, Ok, Err}
use Rattle.std.proofs.Common.{refl, sym, ◌∙◌, ap, arith, cond}
use Rattle.std.proofs.lemmas.Bool.{false≢true, ltb-true}
use mathlib.Core.Former.{list}
use denote.Hole.Carrier.{hidden}
use Rattle.token_grammar.specs.Building.{IsBuilding, RowLaws}
use Rattle.token_grammar.proofs.Laws.{building_by}
use Rattle.token_grammar_examples.specs.declared.expression.Expression.{Expression, Negated, Row as RowOf}
use Rattle.token_grammar_examples.specs.declared.expression.Expression.TheBlock.{hidden-the_row-Expression-0, hidden-the_row-Expression-1}
use Rattle.token_grammar_examples.specs.declared.watch.TheConstants.{MOST_LEVELS, MOST_PIECES}
use Rattle.token_grammar_examples.specs.declared.watch.Count.{Count}
use Rattle.token_grammar_examples.specs.declared.watch.Fault.{Fault}
use Rattle.token_grammar_examples.specs.declared.watch.Fault.TheVariants.{TooMany, TooDeep}
use Rattle.token_grammar_examples.specs.declared.mark.Mark as Mark
use Rattle.token_grammar_examples.specs.declared.mark.Mark.TheVariants as mark
use Rattle.token_grammar_examples.specs.declared.symbol.Symbol as Symbol
use Rattle.token_grammar_examples.specs.declared.symbol.Symbol.TheVariants.{Taken, Row}
use Rattle.token_grammar_examples.specs.declared.symbol.Taker.TheVariants as taker
use Rattle.token_grammar_examples.specs.declared.symbol.Rule as Rule
use Rattle.token_grammar_examples.specs.declared.symbol.Rule.TheVariants.{Whole, Rest, Join, More, Operand, Negate, Atom, Members, Others, Add}
use Rattle.token_grammar_examples.specs.Grammar.{expressions, takes, alternatives}
use Rattle.token_grammar_examples.specs.Values.{RuleValue, Value, of_token, makers, with_rest, number_of, expression_making}
use Rattle.token_grammar_examples.specs.Watching.{look, counted, opened, opened_after, row_opened, closed}
use Rattle.token_grammar_examples.specs.Pieces.{pieces_in, pieces_in_each}

-- the numbers and rows of a list of expressions
abbrev pub pieces_in_list : List Expression → ℕ
pieces_in_list [] = 0
pieces_in_list (first ∷ rest) = pieces_in first + pieces_in_list rest

-- so many numbers and rows more
abbrev pub with_more : ℕ → Count → Count
with_more n count = record count { pieces = count.pieces + n }

-- what the watcher goes on to where it finds no fault
abbrev pub looks : Symbol.Symbol → Mark.Mark → Count → Count
looks (Taken taker.Number) t count = with_more 1 count
looks (Taken taker.Open) t count = record count { level = count.level + 1 }
looks (Taken taker.OpenRow) t count =
    record count { pieces = count.pieces + 1; level = count.level + 1 }
looks (Taken taker.Close) t count = closed count
looks (Taken taker.CloseRow) t count = closed count
looks _ t count = count

-- how many more a rule's value has
abbrev pub pieces_of : (rule : Rule.Rule) → RuleValue rule → ℕ
pieces_of Whole expression = pieces_in expression
pieces_of Operand expression = pieces_in expression
pieces_of Atom expression = pieces_in expression
pieces_of Rest list = pieces_in_list list
pieces_of More list = pieces_in_list list
pieces_of Members list = pieces_in_list list
pieces_of Others list = pieces_in_list list
pieces_of Join done = 0
pieces_of Negate done = 0
pieces_of Add done = 0

-- what the watcher has seen after a part's value
abbrev pub seen_effect : (p : Symbol.Symbol) → Value p → Count → Count
seen_effect (Taken taker) t count = looks (Taken taker) t count
seen_effect (Row rule) value count = with_more (pieces_of rule value) count

-- the pieces of a list of expressions that stands in a row
each_pieces : (list : List Expression) → pieces_in_each (hidden-the_row-Expression-1 list) ≡ pieces_in_list list
unfolding hidden-the_row-Expression-1 hidden
each_pieces [] = refl
each_pieces (first ∷ rest) = ap (λ n. pieces_in first + n) (each_pieces rest)

-- a negation has the pieces of its operand
negated_pieces : (operand : Expression) → pieces_in (Negated operand) ≡ pieces_in operand
unfolding hidden-the_row-Expression-0 hidden
negated_pieces operand = refl

-- the number that a token tells is one piece
number_pieces : (t : Mark.Mark) → pieces_in (number_of t) ≡ 1
number_pieces (mark.Number n) = refl
number_pieces _ = refl

-- the pieces of an operand alone, or of a sum
sum_pieces : (first : Expression) (rest : List Expression) → pieces_in (with_rest first rest) ≡ pieces_in first + pieces_in_list rest
sum_pieces first [] = omega arith
sum_pieces first (second ∷ more) = each_pieces (first ∷ second ∷ more)

-- a row has one piece more than its members
row_pieces : (list : List Expression) → pieces_in (RowOf list) ≡ pieces_in_list list + 1
row_pieces list = ap (λ n. n + 1) (each_pieces list)

-- a count of so many pieces at this level
abbrev count_of : ℕ → ℕ → Count
count_of pieces level = record { pieces = pieces; level = level }

-- counts with the same pieces at the same level
same_count : (m n level : ℕ) → m ≡ n → count_of m level ≡ count_of n level
same_count m n level e = ap (λ pieces. count_of pieces level) e

-- a count to which nothing is added is the same
nothing_more : (count : Count) → count ≡ with_more 0 count
nothing_more count = same_count count.pieces (count.pieces + 0) count.level (omega arith)

-- the pieces of an expression, and of a list behind it
listed : (count : Count) (m n : ℕ) → with_more n (with_more 0 (with_more m count)) ≡ with_more (m + n) count
listed count m n = same_count (((count.pieces + m) + 0) + n) (count.pieces + (m + n)) count.level (omega arith)

-- an operand and what stands behind it add the pieces of the whole expression
whole_law : (first : Expression) (rest : List Expression) (count : Count) →
    with_more (pieces_in_list rest) (with_more (pieces_in first) count) ≡ with_more (pieces_in (with_rest first rest)) count
whole_law first rest count =
    same_count ((count.pieces + pieces_in first) + pieces_in_list rest) (count.pieces + pieces_in (with_rest first rest)) count.level
    (rw (sum_pieces first rest) (omega arith))

-- an operand alone adds the pieces of its negation
negated_law : (operand : Expression) (count : Count) →
    with_more 0 (with_more (pieces_in operand) count) ≡ with_more (pieces_in (Negated operand)) count
negated_law operand count =
    same_count ((count.pieces + pieces_in operand) + 0) (count.pieces + pieces_in (Negated operand)) count.level
    (rw (negated_pieces operand) (omega arith))

-- what has opened is closed
closes : (count : Count) → count_of count.pieces ((count.level + 1) - 1) ≡ count
closes count = ap (count_of count.pieces) (let same : (count.level + 1) - 1 ≡ count.level = omega arith in same)

-- between brackets the same is added as without them
bracket_law : (n : ℕ) (count : Count) →
    looks (Taken taker.Close) mark.Close (with_more n (looks (Taken taker.Open) mark.Open count)) ≡ with_more n count
bracket_law n count = closes (with_more n count)

-- the members of a row between its brackets add the pieces of the row
row_law : (list : List Expression) (count : Count) →
    looks (Taken taker.CloseRow) mark.CloseRow (with_more (pieces_in_list list) (looks (Taken taker.OpenRow) mark.OpenRow count)) ≡
    with_more (pieces_in (RowOf list)) count
row_law list count =
    same_count ((count.pieces + 1) + pieces_in_list list) (count.pieces + pieces_in (RowOf list)) ((count.level + 1) - 1)
    (rw (row_pieces list) (omega arith)) ∙ closes (with_more (pieces_in (RowOf list)) count)

-- each row of parts adds the pieces of the value that is made of it
pieces_rows : (p : Symbol.Symbol) → RowLaws Value seen_effect (λ p seen. seen) p (alternatives p) (makers p)
pieces_rows (Taken taker) = tt
pieces_rows (Row Whole) = ((λ values count. whole_law values.0 values.1.0 count), tt)
pieces_rows (Row Rest) =
    ((λ values count. nothing_more count), ((λ values count. listed count (pieces_in values.1.0) (pieces_in_list values.1.1.1.0)), tt))
pieces_rows (Row Join) = ((λ values count. nothing_more count), tt)
pieces_rows (Row More) =
    ((λ values count. nothing_more count), ((λ values count. listed count (pieces_in values.1.0) (pieces_in_list values.1.1.1.0)), tt))
pieces_rows (Row Operand) = ((λ values count. refl), ((λ values count. negated_law values.1.0 count), tt))
pieces_rows (Row Negate) = ((λ values count. nothing_more count), tt)
pieces_rows (Row Atom) = (
  (λ values count. ap (λ n. with_more n count) (sym (number_pieces values.0))),
  ((λ values count. bracket_law (pieces_in values.1.0) count), ((λ values count. row_law values.1.0 count), tt)),
)
pieces_rows (Row Members) =
    ((λ values count. nothing_more count), ((λ values count. listed count (pieces_in values.0) (pieces_in_list values.1.1.0)), tt))
pieces_rows (Row Others) =
    ((λ values count. nothing_more count), ((λ values count. listed count (pieces_in values.1.0) (pieces_in_list values.1.1.1.0)), tt))
pieces_rows (Row Add) = ((λ values count. nothing_more count), tt)

-- at a token the watcher goes on as the token's value has it
pieces_tokens : (p : Symbol.Symbol) (t : Mark.Mark) (taken : IsTrue (takes p t)) (count : Count) →
    looks p t count ≡ seen_effect p (of_token p t taken) count
pieces_tokens (Taken taker) t taken count = refl
pieces_tokens (Row rule) t taken count = absurd (false≢true taken)

-- what the watcher sees over the tokens of a value is told by the value
pub pieces_telling : IsBuilding expressions Value expression_making looks (λ p seen. seen) seen_effect
pieces_telling = building_by expressions Value of_token makers looks (λ p seen. seen) seen_effect pieces_tokens pieces_rows

-- a count that goes on is within the bound, and grows by one
pub counted_is : (before after : Count) → counted before ≡ Ok after → (before.pieces < MOST_PIECES) × (after ≡ with_more 1 before)
counted_is before after e = by_test (nat_lt before.pieces MOST_PIECES) refl e
  where
    by_test : (less : Bool) → nat_lt before.pieces MOST_PIECES ≡ less → cond less (Ok (with_more 1 before)) (Err TooMany) ≡ Ok after →
        (before.pieces < MOST_PIECES) × (after ≡ with_more 1 before)
    by_test true less e = (ltb-true before.pieces MOST_PIECES less, cc)
    by_test false less e = cc

-- a level that is opened without a fault is one more
pub opened_is : (before after : Count) → opened before ≡ Ok after → after ≡ record before { level = before.level + 1 }
opened_is before after e = by_test (nat_lt before.level MOST_LEVELS) e
  where
    by_test : (less : Bool) → cond less (Ok (record before { level = before.level + 1 })) (Err TooDeep) ≡ Ok after →
        after ≡ record before { level = before.level + 1 }
    by_test true e = cc
    by_test false e = cc

-- a row that opens is counted before
pub row_opened_is : (before after : Count) → row_opened before ≡ Ok after →
    (between : Count) × (counted before ≡ Ok between) × (opened between ≡ Ok after)
row_opened_is before after e = by_count (counted before) refl e
  where
    by_count : (outcome : Result Count Fault) → counted before ≡ outcome → opened_after outcome ≡ Ok after →
        (between : Count) × (counted before ≡ Ok between) × (opened between ≡ Ok after)
    by_count (Ok between) is e = (between, is, e)
    by_count (Err fault) is e = cc

-- where the watcher finds no fault it goes on so
pub looks_agrees : (before after : Count) (p : Symbol.Symbol) (t : Mark.Mark) → look before p t ≡ Ok after → after ≡ looks p t before
looks_agrees before after (Taken taker.Number) t e = (counted_is before after e).1
looks_agrees before after (Taken taker.Open) t e = opened_is before after e
looks_agrees before after (Taken taker.OpenRow) t e =
    let (between, counts, opens) = row_opened_is before after e in
    opened_is between after opens ∙ ap (λ (count : Count). record count { level = count.level + 1 }) (counted_is before between counts).1
looks_agrees before after (Taken taker.Close) t e = cc
looks_agrees before after (Taken taker.CloseRow) t e = cc
looks_agrees before after _ t e = cc
