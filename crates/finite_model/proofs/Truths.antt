-- What truth values of parts tell of a formula, and what it weighs.
use Rattle.std.specs.Prelude.{◌≡◌, ℕ, zero, suc, ◌+◌, ◌<◌, Bool, true, false, not, List, [], ◌∷◌, length, get_or, Result, Ok, Err, IfOk}
use Rattle.std.specs.List.{AllByRecursion}
use mathlib.Core.Bool.{beq}
use borrow.Author.Count.{below_more}
use Rattle.std.proofs.Common.{refl, sym, ◌∙◌, ap, subst, inl, inr, arith}
use Rattle.text_core.specs.Names.{Text}
use Rattle.text_core.specs.Lists.{SomeOf}
use Rattle.logic_core.specs.Truth.{Structure, Assignment, OpTrue, EveryValue, SomeValue, IsTrueIn, EachTrueIn, SomeTrueIn}
use Rattle.logic_core.specs.declared.formula.Op.{Op}
use Rattle.logic_core.specs.declared.formula.Formula.{Formula, Not, And, Or, Binary, ForAll, Exists}
use Rattle.logic_core.proofs.Laws.{row_of, Not_opens, And_opens, Or_opens, Binary_opens, ForAll_opens, Exists_opens}
use Rattle.finite_model.specs.Decided.{Decides, DecidesMember, DecidesChoice}
use Rattle.finite_model.specs.Weights.{weight, row_weight, list_weight}

module _ (s : Structure) (env : Assignment) where
  -- each of a list, as a row
  each_row : (gs : List Formula) → AllByRecursion (λ g. IsTrueIn s g env) gs → EachTrueIn s (row_of gs) env
  unfolding row_of
  each_row [] all = tt
  each_row (g ∷ gs) all = (all.0, each_row gs all.1)

  -- where some is false, not each is true
  not_each : (gs : List Formula) → SomeOf (λ g. IsTrueIn s g env → ⊥) gs → EachTrueIn s (row_of gs) env → ⊥
  unfolding row_of
  not_each [] some all = some
  not_each (g ∷ gs) (inl other) all = other all.0
  not_each (g ∷ gs) (inr some) all = not_each gs some all.1

  -- some of a list, as a row
  some_row : (gs : List Formula) → SomeOf (λ g. IsTrueIn s g env) gs → SomeTrueIn s (row_of gs) env
  unfolding row_of
  some_row [] some = some
  some_row (g ∷ gs) (inl holds) = inl holds
  some_row (g ∷ gs) (inr some) = inr (some_row gs some)

  -- where each is false, none is true
  not_some : (gs : List Formula) → AllByRecursion (λ g. IsTrueIn s g env → ⊥) gs → SomeTrueIn s (row_of gs) env → ⊥
  unfolding row_of
  not_some [] all some = some
  not_some (g ∷ gs) all (inl here) = all.0 here
  not_some (g ∷ gs) all (inr some) = not_some gs all.1 some

  -- a negation
  pub not_decided : (f g : Formula) (b : Bool) → f ≡ Not g → Decides b (IsTrueIn s g env) → Decides (not b) (IsTrueIn s f env)
  not_decided f g b e h = subst (λ x. Decides (not b) (IsTrueIn s x env)) (sym (e ∙ Not_opens g)) (by b h)
    where
      by : (b : Bool) → Decides b (IsTrueIn s g env) → Decides (not b) (IsTrueIn s g env → ⊥)
      by true h = λ other. other h
      by false h = h

  -- a conjunction
  pub and_decided : (f : Formula) (gs : List Formula) (found : Bool) → f ≡ And gs → DecidesMember found false (λ g. IsTrueIn s g env) gs →
      Decides (not found) (IsTrueIn s f env)
  and_decided f gs found e h = subst (λ x. Decides (not found) (IsTrueIn s x env)) (sym (e ∙ And_opens gs)) (by found h)
    where
      by : (found : Bool) → DecidesMember found false (λ g. IsTrueIn s g env) gs → Decides (not found) (EachTrueIn s (row_of gs) env)
      by true h = not_each gs h
      by false h = each_row gs h

  -- a disjunction
  pub or_decided : (f : Formula) (gs : List Formula) (found : Bool) → f ≡ Or gs → DecidesMember found true (λ g. IsTrueIn s g env) gs →
      Decides found (IsTrueIn s f env)
  or_decided f gs found e h = subst (λ x. Decides found (IsTrueIn s x env)) (sym (e ∙ Or_opens gs)) (by found h)
    where
      by : (found : Bool) → DecidesMember found true (λ g. IsTrueIn s g env) gs → Decides found (SomeTrueIn s (row_of gs) env)
      by true h = some_row gs h
      by false h = not_some gs h

  -- two formulas with a connective between them
  pub binary_decided : (f : Formula) (op : Op) (g h : Formula) (b : Bool) → f ≡ Binary op g h →
      Decides b (OpTrue op (IsTrueIn s g env) (IsTrueIn s h env)) → Decides b (IsTrueIn s f env)
  binary_decided f op g h b e d = subst (λ x. Decides b (IsTrueIn s x env)) (sym (e ∙ Binary_opens op g h)) d

module _ (s : Structure) (P : Assignment → Type 0) where
  -- where some choice is false, not every one is true
  not_every : (xs : List Text) (env : Assignment) → SomeValue s xs (λ e. P e → ⊥) env → EveryValue s xs P env → ⊥
  not_every [] env other all = other all
  not_every (x ∷ xs) env (a, here, other) all = not_every xs ((x, a) ∷ env) other (all a here)

  -- where every choice is false, none is true
  not_any : (xs : List Text) (env : Assignment) → EveryValue s xs (λ e. P e → ⊥) env → SomeValue s xs P env → ⊥
  not_any [] env other some = other some
  not_any (x ∷ xs) env other (a, here, some) = not_any xs ((x, a) ∷ env) (other a here) some

-- a universal formula
pub forall_decided : (s : Structure) (env : Assignment) (f : Formula) (xs : List Text) (g : Formula) (found : Bool) → f ≡ ForAll xs g →
    DecidesChoice s found false (IsTrueIn s g) xs env → Decides (not found) (IsTrueIn s f env)
forall_decided s env f xs g found e h = subst (λ x. Decides (not found) (IsTrueIn s x env)) (sym (e ∙ ForAll_opens xs g)) (by found h)
  where
    by : (found : Bool) → DecidesChoice s found false (IsTrueIn s g) xs env → Decides (not found) (EveryValue s xs (IsTrueIn s g) env)
    by true h = not_every s (IsTrueIn s g) xs env h
    by false h = h

-- an existential formula
pub exists_decided : (s : Structure) (env : Assignment) (f : Formula) (xs : List Text) (g : Formula) (found : Bool) → f ≡ Exists xs g →
    DecidesChoice s found true (IsTrueIn s g) xs env → Decides found (IsTrueIn s f env)
exists_decided s env f xs g found e h = subst (λ x. Decides found (IsTrueIn s x env)) (sym (e ∙ Exists_opens xs g)) (by found h)
  where
    by : (found : Bool) → DecidesChoice s found true (IsTrueIn s g) xs env → Decides found (SomeValue s xs (IsTrueIn s g) env)
    by true h = h
    by false h = not_any s (IsTrueIn s g) xs env h

-- what holds of an answer follows from what held
pub if_ok_weaker : {X E : Type 0} {P Q : X → Type 0} (result : Result X E) → ((x : X) → P x → Q x) → IfOk result P → IfOk result Q
if_ok_weaker (Ok x) f h = f x h
if_ok_weaker (Err e) f h = tt

-- the list in a row weighs the same
row_weighs : (gs : List Formula) → row_weight (row_of gs) ≡ list_weight gs
unfolding row_of
row_weighs [] = refl
row_weighs (g ∷ gs) = ap (λ n. weight g + n + 1) (row_weighs gs)

pub not_weighs : (f g : Formula) → f ≡ Not g → weight f ≡ weight g + 1
not_weighs f g e = ap weight (e ∙ Not_opens g)

pub and_weighs : (f : Formula) (gs : List Formula) → f ≡ And gs → weight f ≡ list_weight gs + 1
and_weighs f gs e = ap weight (e ∙ And_opens gs) ∙ ap (λ n. n + 1) (row_weighs gs)

pub or_weighs : (f : Formula) (gs : List Formula) → f ≡ Or gs → weight f ≡ list_weight gs + 1
or_weighs f gs e = ap weight (e ∙ Or_opens gs) ∙ ap (λ n. n + 1) (row_weighs gs)

pub binary_weighs : (f : Formula) (op : Op) (g h : Formula) → f ≡ Binary op g h → weight f ≡ weight g + weight h + 2
binary_weighs f op g h e = ap weight (e ∙ Binary_opens op g h)

pub forall_weighs : (f : Formula) (xs : List Text) (g : Formula) → f ≡ ForAll xs g → weight f ≡ weight g + length xs + 2
forall_weighs f xs g e = ap weight (e ∙ ForAll_opens xs g)

pub exists_weighs : (f : Formula) (xs : List Text) (g : Formula) → f ≡ Exists xs g → weight f ≡ weight g + length xs + 2
exists_weighs f xs g e = ap weight (e ∙ Exists_opens xs g)

-- a formula of a list weighs less
pub member_weighs : (gs : List Formula) (i : ℕ) (g : Formula) → i < length gs → g ≡ get_or gs i g → weight g < list_weight gs
member_weighs [] i g below is = absurd (omega arith)
member_weighs (h ∷ gs) zero g below is = let same : weight g ≡ weight h = ap weight is in omega arith
member_weighs (h ∷ gs) (suc i) g below is = let less = member_weighs gs i g (omega arith) is in omega (arith, less)

-- the member with a number, of which P holds
pub some_item : {X : Type 0} (P : X → Type 0) (xs : List X) (i : ℕ) (x : X) → i < length xs → x ≡ get_or xs i x → P x → SomeOf P xs
some_item P [] i x below is h = absurd (omega arith)
some_item P (y ∷ ys) zero x below is h = inl (subst P is h)
some_item P (y ∷ ys) (suc i) x below is h = inr (some_item P ys i x (omega arith) is h)

-- a truth value that is the wanted one
pub wanted_is : (P : Type 0) (b wanted : Bool) → b ≡ wanted → Decides b P → Decides wanted P
wanted_is P b wanted e h = subst (λ c. Decides c P) e h

-- truth values that are compared
pub compared_same : (a b : Bool) → beq a b ≡ true → a ≡ b
compared_same true true e = refl
compared_same true false e = absurd (cc)
compared_same false true e = absurd (cc)
compared_same false false e = refl

-- at one more element a formula is decided the other way
pub choice_step : (s : Structure) (wanted found : Bool) (P : Assignment → Type 0) (xs : List Text) (env bound : Assignment) (x : Text) (i : ℕ) →
    bound ≡ (x, i) ∷ env → found ≡ false → DecidesChoice s found wanted P xs bound →
    ((a : ℕ) → a < i → EveryValue s xs (λ e. Decides (not wanted) (P e)) ((x, a) ∷ env)) →
    (a : ℕ) → a < i + 1 → EveryValue s xs (λ e. Decides (not wanted) (P e)) ((x, a) ∷ env)
choice_step s wanted found P xs env bound x i is none here below =
    below_more (λ a. EveryValue s xs (λ e. Decides (not wanted) (P e)) ((x, a) ∷ env)) i below
    (subst (λ e. EveryValue s xs (λ e. Decides (not wanted) (P e)) e) is (subst (λ f. DecidesChoice s f wanted P xs bound) none here))
