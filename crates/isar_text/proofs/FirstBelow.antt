-- The first line with a fact that stands is a line of the context.
use Rattle.std.specs.Prelude.{◌≡◌, ℕ, suc, ◌+◌, ◌<◌, nat_lt, Bool, true, false, not, cond, ◌&&◌, ◌||◌, List, [], ◌∷◌, length, position, unwrap_or, Some, None}
use Rattle.std.specs.List.{AllByRecursion, list_any, position_or_len}
use Rattle.std.proofs.Common.{refl, ◌∙◌, ap, arith, inl, inr}
use Rattle.std.proofs.lemmas.Bool.{lt-ltb, eq-eqb}
use Rattle.text_core.specs.Lists.{SomeOf, IsAmong}
use Rattle.logic_core.specs.declared.form.Slot.{Slot}
use Rattle.logic_core.specs.declared.form.Slot.TheVariants.{Variable, Constant}
use Rattle.logic_core.specs.declared.form.Atom.{Atom}
use Rattle.vernacular_tree.specs.Contexts.{atom_at, LineHas, Stands}
use Rattle.vernacular_tree.specs.declared.context.Line as Line
use Rattle.vernacular_tree.specs.declared.context.Line.TheVariants as line
use Rattle.vernacular_tree.specs.declared.context.Context.{Context}
use Rattle.isar_text.specs.FirstLines.{same_slots, same_sign, same_atom, has_fact, is_falsum, first_with, first_falsum}
use Rattle.isar_text.specs.Bodies.{lines_with}

-- the place of the first member that passes a test is below the length, where one passes it
place_below : {X : Type 0} (test : X → Bool) (xs : List X) → SomeOf (λ x. test x ≡ true) xs → position_or_len test xs < length xs
place_below test [] some = absurd some
place_below test (x ∷ xs) (inl here) =
    let first : cond (not (test x)) (1 + position_or_len test xs) 0 ≡ 0 = ap (λ (b : Bool). cond (not b) (1 + position_or_len test xs) 0) here in
    omega (arith, first)
place_below test (x ∷ xs) (inr later) =
    let below = place_below test xs later in by_test (test x) below
  where
    by_test : (b : Bool) → position_or_len test xs < length xs → cond (not b) (1 + position_or_len test xs) 0 < suc (length xs)
    by_test true below = omega arith
    by_test false below = omega arith

-- the number of the first member that passes a test
first_below : {X : Type 0} (test : X → Bool) (xs : List X) → SomeOf (λ x. test x ≡ true) xs → unwrap_or (position test xs) 0 < length xs
first_below test xs some =
    let below = place_below test xs some in
    let there : nat_lt (position_or_len test xs) (length xs) ≡ true = lt-ltb (position_or_len test xs) (length xs) below in
    let same : unwrap_or (position test xs) 0 ≡ position_or_len test xs
    = ap (λ (b : Bool). unwrap_or (cond b (Some (position_or_len test xs)) None) 0) there in
    omega (arith, below, same)

-- an atom is the same as itself
slots_same : (slots : List Slot) → same_slots slots slots ≡ true
slots_same [] = refl
slots_same (Variable i ∷ slots) = (λ k. eq-eqb i i refl k && slots_same slots k)
slots_same (Constant c ∷ slots) = (λ k. eq-eqb c c refl k && slots_same slots k)

sign_same : (b : Bool) → same_sign b b ≡ true
sign_same true = refl
sign_same false = refl

atom_same : (a b : Atom) → b ≡ a → same_atom a b ≡ true
atom_same a b e = ap (same_atom a) e ∙ (λ i. sign_same a.positive i && eq-eqb a.symbol a.symbol refl i && slots_same a.args i)

-- a member that is the fact is found
any_among : (fact : Atom) (facts : List Atom) → IsAmong fact facts → list_any (same_atom fact) facts ≡ true
any_among fact [] among = absurd among
any_among fact (f ∷ facts) (inl here) = ap (λ (b : Bool). b || list_any (same_atom fact) facts) (atom_same fact f here)
any_among fact (f ∷ facts) (inr later) = by_test (same_atom fact f) (any_among fact facts later)
  where
    by_test : (b : Bool) → list_any (same_atom fact) facts ≡ true → (b || list_any (same_atom fact) facts) ≡ true
    by_test true h = refl
    by_test false h = h

-- so is a line that has it
line_found : (fact : Atom) (l : Line.Line) → LineHas fact l → has_fact fact l ≡ true
line_found fact (line.Facts facts) has = any_among fact facts has
line_found fact (line.Cases lists) has = absurd has
line_found fact line.Falsum has = absurd has

-- a member that has P has Q
some_map : {X : Type 0} {P Q : X → Type 0} → ((x : X) → P x → Q x) → (xs : List X) → SomeOf P xs → SomeOf Q xs
some_map f [] some = absurd some
some_map f (x ∷ xs) (inl here) = inl (f x here)
some_map f (x ∷ xs) (inr later) = inr (some_map f xs later)

-- the first line with a fact that stands is one of the context
fact_below : (context : Context) (fact : Atom) → Stands context fact → first_with context.lines fact < length context.lines
fact_below context fact stands = first_below (has_fact fact) context.lines (some_map (line_found fact) context.lines stands)

-- so are those with the atoms of a form at elements, where these stand
pub facts_below : (context : Context) (elements : List ℕ) (atoms : List Atom) → AllByRecursion (λ atom. Stands context (atom_at elements atom)) atoms →
    AllByRecursion (λ m. m < length context.lines) (lines_with context elements atoms)
facts_below context elements [] stand = tt
facts_below context elements (atom ∷ atoms) stand = (fact_below context (atom_at elements atom) stand.0, facts_below context elements atoms stand.1)

-- and the first line that is falsehood
pub falsum_below : (context : Context) → SomeOf (λ l. l ≡ line.Falsum) context.lines → first_falsum context.lines < length context.lines
falsum_below context some = first_below is_falsum context.lines (some_map (λ l e. ap is_falsum e) context.lines some)
