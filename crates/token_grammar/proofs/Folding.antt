-- What is spelled has what its parts have: a part that takes tokens has a property of its token, any other one of its tokens.
use Rattle.std.specs.Prelude.{◌≡◌, List, [], ◌∷◌, ◌++◌, IsTrue}
use Rattle.std.proofs.Common.{refl, sym, ◌∙◌, ap, subst, inl, inr, append-nil}
use Rattle.text_core.specs.Lists.{IsAmong}
use Rattle.token_grammar.specs.Grammar.{Grammar, Spelled}

-- the property of a part: of its one token, or of all its tokens
pub data Shape (T : Type 0) : Type 1 where
  one : (T → Type 0) → Shape T
  many : (List T → Type 0) → Shape T

-- the tokens of a part have its property
abbrev pub Holds : {T : Type 0} → Shape T → List T → Type 0
Holds {T = T} (one Q) ts = (t : T) × Q t × (ts ≡ t ∷ [])
Holds (many Q) ts = Q ts

-- one token has the property of a part
abbrev pub Fits : {T : Type 0} → Shape T → T → Type 0
Fits (one Q) t = Q t
Fits (many Q) t = Q (t ∷ [])

-- wherever the tokens have the property of a part, the goal holds of them
abbrev pub Then : {T : Type 0} → Shape T → (List T → Type 0) → Type 0
Then {T = T} (one Q) goal = (t : T) → Q t → goal (t ∷ [])
Then {T = T} (many Q) goal = (ts : List T) → Q ts → goal ts

-- a token that fits has the property
fitting : {T : Type 0} (s : Shape T) (t : T) → Fits s t → Holds s (t ∷ [])
fitting (one Q) t h = (t, h, refl)
fitting (many Q) t h = h

-- where the property leads to the goal, tokens that have it reach the goal
follows : {T : Type 0} (s : Shape T) (goal : List T → Type 0) → Then s goal → (ts : List T) → Holds s ts → goal ts
follows (one Q) goal f ts (t, h, e) = subst goal (sym e) (f t h)
follows (many Q) goal f ts h = f ts h

-- tokens before none are all
alone_in : {T : Type 0} (us rest ts : List T) → rest ≡ [] → ts ≡ us ++ rest → ts ≡ us
alone_in us rest ts none e = e ∙ (ap (λ x. us ++ x) none ∙ append-nil us)

module _ {P T : Type 0} (shape : P → Shape T) where
  -- the members of a row have their properties, in order
  abbrev pub RowHolds : List P → List T → Type 0
  RowHolds [] ts = ts ≡ []
  RowHolds (p ∷ row) ts = (us : List T) × (rest : List T) × Holds (shape p) us × RowHolds row rest × (ts ≡ us ++ rest)

  -- wherever the members of a row have their properties, the goal holds of all their tokens
  abbrev pub Leads : List P → (List T → Type 0) → Type 0
  Leads [] goal = goal []
  Leads (p ∷ []) goal = Then (shape p) goal
  Leads (p ∷ q ∷ row) goal = Then (shape p) (λ us. Leads (q ∷ row) (λ rest. goal (us ++ rest)))

  -- wherever the members of one of the rows have their properties, their tokens have that of the part
  abbrev pub EachLeads : P → List (List P) → Type 0
  EachLeads p [] = Unit {0}
  EachLeads p (row ∷ rows) = Leads row (Holds (shape p)) × EachLeads p rows

  -- where the properties of a row lead to the goal, tokens that have them reach it
  led : (row : List P) (goal : List T → Type 0) → Leads row goal → (ts : List T) → RowHolds row ts → goal ts
  led [] goal f ts e = subst goal (sym e) f
  led (p ∷ []) goal f ts (us, rest, h, none, e) = subst goal (sym (alone_in us rest ts none e)) (follows (shape p) goal f us h)
  led (p ∷ q ∷ row) goal f ts (us, rest, h, later, e) =
      subst goal (sym e) (led (q ∷ row) (λ x. goal (us ++ x))
      (follows (shape p) (λ x. Leads (q ∷ row) (λ y. goal (x ++ y))) f us h) rest later)

  -- tokens that have the properties of a row have that of its part
  part_holds : (p : P) (rows : List (List P)) → EachLeads p rows → (row : List P) → IsAmong row rows → (ts : List T) →
      RowHolds row ts → Holds (shape p) ts
  part_holds p [] each row among ts h = absurd among
  part_holds p (first ∷ rows) each row (inl e) ts h =
      led first (Holds (shape p)) each.0 ts (subst (λ x. RowHolds x ts) (sym e) h)
  part_holds p (first ∷ rows) each row (inr among) ts h = part_holds p rows each.1 row among ts h

  module _ (g : Grammar P T) (taken : (p : P) (t : T) → IsTrue (g.takes p t) → Fits (shape p) t)
      (made : (p : P) → EachLeads p (g.alternatives p)) where
    -- what is spelled by a row has the properties of its members
    row_holds : {row : List P} {ts : List T} → Spelled g row ts → RowHolds row ts
    row_holds Spelled.none = refl
    row_holds (Spelled.token {p = p} {t = t} {ts = ts} h rest) =
        (t ∷ [], ts, fitting (shape p) t (taken p t h), row_holds rest, refl)
    row_holds (Spelled.part {p = p} alternative us ts among first rest split) =
        (us, ts, part_holds p (g.alternatives p) (made p) alternative among us (row_holds first), row_holds rest, split)

    -- what is spelled by a part has its property
    pub text_holds : (p : P) (ts : List T) → Spelled g (p ∷ []) ts → Holds (shape p) ts
    text_holds p ts spelled =
        let (us, rest, h, none, e) = row_holds spelled in subst (Holds (shape p)) (sym (alone_in us rest ts none e)) h
