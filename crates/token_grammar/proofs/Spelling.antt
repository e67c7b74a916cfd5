-- The tokens that parts take from left to right are those that are spelled, or that begin what is spelled.
use Rattle.std.proofs.Common.{◌≡◌, refl, sym, ◌∙◌, ap, subst, Bool, true, false, ◌⊎◌, inl, inr, List, [], ◌∷◌, ◌++◌, append_assoc, append-nil}
use Rattle.std.specs.Prelude.{IsTrue}
use Rattle.token_grammar.specs.Grammar.{Grammar, Spelled, Begun, BegunPart}
use Rattle.text_core.specs.Lists.{IsAmong}
use Rattle.token_grammar.specs.Taken.{Taken}
use Rattle.token_grammar.specs.Taken.Taken.{stop, token, part}

-- tokens in two parts, of which the first has one property and the second another
pub record InTwo {T : Type 0} (First Second : List T → Type 0) (ts : List T) : Type 0 where
  pub front : List T
  pub back : List T
  pub split : ts ≡ front ++ back
  pub first : First front
  pub second : Second back

-- what has a token, or tokens, in front of it is in two parts with these in the first
longer_front : {T : Type 0} (First Second Longer : List T → Type 0) (us ts : List T) → (in_two : InTwo First Second ts) →
    Longer (us ++ in_two.front) → InTwo Longer Second (us ++ ts)
longer_front First Second Longer us ts in_two longer = record {
  front = us ++ in_two.front;
  back = in_two.back;
  split = ap (λ x. us ++ x) in_two.split ∙ sym (append_assoc us in_two.front in_two.back);
  first = longer;
  second = in_two.second;
}

module _ {P T : Type 0} (g : Grammar P T) where
  -- what a row spells, and what a further row takes after it
  pub joined : {whole : Bool} {first second : List P} {us vs : List T} {ps qs : List P} → Taken g true first us ps →
      Taken g whole second vs qs → Taken g whole (first ++ second) (us ++ vs) (ps ++ qs)
  joined {first = []} (stop h) later = later
  joined {first = p ∷ row} (stop h) later = absurd h
  joined (token h rest) later = token h (joined rest later)
  joined (part alternative a rest) later = part alternative a (rw append_assoc at (joined rest later))

  -- the beginning of a row begins the longer row
  longer : {row : List P} {ts : List T} {ps : List P} (back : List P) → Taken g false row ts ps → Taken g false (row ++ back) ts ps
  longer back (stop h) = stop tt
  longer back (token h rest) = token h (longer back rest)
  longer back (part alternative a rest) = part alternative a (rw append_assoc at (longer back rest))

  -- what a row spells it takes up to its end
  pub taken_spelled : {row : List P} {ts : List T} → Spelled g row ts → (ps : List P) × Taken g true row ts ps
  taken_spelled Spelled.none = ([], stop tt)
  taken_spelled (Spelled.token {p = p} h rest) = let (ps, later) = taken_spelled rest in (p ∷ ps, token h later)
  taken_spelled (Spelled.part {p = p} {row = row} alternative us ts a first rest e) =
      let (ps, front) = taken_spelled first in
      let (qs, back) = taken_spelled rest in
      (ps ++ qs, subst (λ x. Taken g true (p ∷ row) x (ps ++ qs)) (sym e) (part alternative a (joined front back)))

  -- what two joined rows spell is spelled by one after the other
  spelled_split : (front back : List P) {ts : List T} → Spelled g (front ++ back) ts → InTwo (Spelled g front) (Spelled g back) ts
  spelled_split [] back {ts = ts} s = record { front = []; back = ts; split = refl; first = Spelled.none; second = s }
  spelled_split (p ∷ front) back (Spelled.token {t = t} {ts = ts} h rest) =
      let later = spelled_split front back rest in
      longer_front (Spelled g front) (Spelled g back) (Spelled g (p ∷ front)) (t ∷ []) ts later (Spelled.token h later.first)
  spelled_split (p ∷ front) back (Spelled.part alternative ss ts a inner rest e) =
      let later = spelled_split front back rest in
      subst (InTwo (Spelled g (p ∷ front)) (Spelled g back)) (sym e)
      (longer_front (Spelled g front) (Spelled g back) (Spelled g (p ∷ front)) ss ts later
      (Spelled.part alternative ss later.front a inner later.first refl))

  -- what a row takes up to its end it spells
  pub spelled_taken : {row : List P} {ts : List T} {ps : List P} → Taken g true row ts ps → Spelled g row ts
  spelled_taken {row = []} (stop h) = Spelled.none
  spelled_taken {row = p ∷ row} (stop h) = absurd h
  spelled_taken (token h rest) = Spelled.token h (spelled_taken rest)
  spelled_taken {row = p ∷ row} (part alternative a rest) =
      let it = spelled_split alternative row (spelled_taken rest) in
      Spelled.part alternative it.front it.back a it.first it.second it.split

  -- what a row takes up to its end begins a longer row
  front_taken : (front back : List P) (ts : List T) (ps : List P) → Taken g true front ts ps → Taken g false (front ++ back) ts ps
  front_taken front back ts ps taken =
      let all : Taken g false (front ++ back) (ts ++ []) (ps ++ []) = joined taken (stop tt) in
      rw (append-nil ts, append-nil ps) at all

  mutual
    -- what begins a row is taken by it
    pub taken_begun : {row : List P} {ts : List T} → Begun g row ts → (ps : List P) × Taken g false row ts ps
    taken_begun {row = row} {ts = ts} (Begun.whole front back e s) =
        let (ps, taken) = taken_spelled s in
        (ps, subst (λ x. Taken g false x ts ps) (sym e) (front_taken front back ts ps taken))
    taken_begun (Begun.next front member back us vs e f s b) =
        let (ps, front_taken) = taken_spelled s in
        let (qs, back_taken) = taken_part b back in
        (ps ++ qs, rw (e, f) (joined front_taken back_taken))

    -- what begins a part is taken by a row behind it
    taken_part : {p : P} {ts : List T} → BegunPart g p ts → (back : List P) → (ps : List P) × Taken g false (p ∷ back) ts ps
    taken_part (BegunPart.token {p = p} h) back = (p ∷ [], token h (stop tt))
    taken_part (BegunPart.inside alternative a b) back =
        let (ps, taken) = taken_begun b in
        (ps, part alternative a (longer back taken))

-- the beginning of a row, by its first member
data Starts {P T : Type 0} (g : Grammar P T) : List P → List T → Type 0 where
  starts_nothing : {row : List P} → Starts g row []
  starts_token : {p : P} {row : List P} {t : T} {ts : List T} → IsTrue (g.takes p t) → Starts g row ts → Starts g (p ∷ row) (t ∷ ts)
  starts_part : {p : P} {row : List P} {all : List T} (alternative : List P) (us ts : List T) → IsAmong alternative (g.alternatives p) →
      Spelled g alternative us → Starts g row ts → all ≡ us ++ ts → Starts g (p ∷ row) all
  starts_inside : {p : P} {row : List P} {ts : List T} (alternative : List P) → IsAmong alternative (g.alternatives p) →
      Starts g alternative ts → Starts g (p ∷ row) ts

module _ {P T : Type 0} (g : Grammar P T) where
  -- what begins two joined rows begins the first, or is spelled by it and begins the second
  starts_split : (front back : List P) {ts : List T} → Starts g (front ++ back) ts →
      Starts g front ts ⊎ InTwo (Spelled g front) (Starts g back) ts
  starts_split [] back {ts = ts} s = inr (record { front = []; back = ts; split = refl; first = Spelled.none; second = s })
  starts_split (p ∷ front) back starts_nothing = inl starts_nothing
  starts_split (p ∷ front) back (starts_token {t = t} {ts = ts} h rest) = elim (starts_split front back rest) [
    | inl s ↦ inl (starts_token h s)
    | inr later ↦ inr (longer_front (Spelled g front) (Starts g back) (Spelled g (p ∷ front)) (t ∷ []) ts later (Spelled.token h later.first))
  ]
  starts_split (p ∷ front) back (starts_part alternative ss ts a inner rest e) = elim (starts_split front back rest) [
    | inl s ↦ inl (starts_part alternative ss ts a inner s e)
    | inr later ↦ inr (subst (InTwo (Spelled g (p ∷ front)) (Starts g back)) (sym e)
        (longer_front (Spelled g front) (Starts g back) (Spelled g (p ∷ front)) ss ts later
        (Spelled.part alternative ss later.front a inner later.first refl)))
  ]
  starts_split (p ∷ front) back (starts_inside alternative a s) = inl (starts_inside alternative a s)

  -- what a row takes begins it, by its first member
  starts_taken : {row : List P} {ts : List T} {ps : List P} → Taken g false row ts ps → Starts g row ts
  starts_taken (stop h) = starts_nothing
  starts_taken (token h rest) = starts_token h (starts_taken rest)
  starts_taken {row = p ∷ row} (part alternative a rest) = elim (starts_split alternative row (starts_taken rest)) [
    | inl s ↦ starts_inside alternative a s
    | inr it ↦ starts_part alternative it.front it.back a it.first it.second it.split
  ]

  -- what one row spells and then another is spelled by both joined
  pub spelled_joined : {front back : List P} {us vs : List T} → Spelled g front us → Spelled g back vs → Spelled g (front ++ back) (us ++ vs)
  spelled_joined Spelled.none later = later
  spelled_joined (Spelled.token h rest) later = Spelled.token h (spelled_joined rest later)
  spelled_joined {vs = vs} (Spelled.part alternative us ts a first rest e) later =
      Spelled.part alternative us (ts ++ vs) a first (spelled_joined rest later)
      (ap (λ x. x ++ vs) e ∙ append_assoc us ts vs)

  -- what begins a row after a member that is spelled whole
  begun_after : (p : P) {row : List P} (us : List T) {ts : List T} → Spelled g (p ∷ []) us → Begun g row ts → Begun g (p ∷ row) (us ++ ts)
  begun_after p us first (Begun.whole front back e s) =
      Begun.whole (p ∷ front) back (ap (λ x. p ∷ x) e) (spelled_joined first s)
  begun_after p us first (Begun.next front member back vs ws e f s b) =
      Begun.next (p ∷ front) member back (us ++ vs) ws (ap (λ x. p ∷ x) e)
      (ap (λ x. us ++ x) f ∙ sym (append_assoc us vs ws)) (spelled_joined first s) b

  -- what begins a row by its first member begins the row
  begun_starts : {row : List P} {ts : List T} → Starts g row ts → Begun g row ts
  begun_starts {row = row} starts_nothing = Begun.whole [] row refl Spelled.none
  begun_starts (starts_token {p = p} {t = t} h rest) = begun_after p (t ∷ []) (Spelled.token h Spelled.none) (begun_starts rest)
  begun_starts (starts_part {p = p} {row = row} alternative us ts a first rest e) =
      subst (λ x. Begun g (p ∷ row) x) (sym e)
      (begun_after p us (Spelled.part alternative us [] a first Spelled.none (sym (append-nil us))) (begun_starts rest))
  begun_starts (starts_inside {p = p} {row = row} {ts = ts} alternative a s) =
      Begun.next [] p row [] ts refl refl Spelled.none (BegunPart.inside alternative a (begun_starts s))

  -- what a row takes begins it
  pub begun_taken : {row : List P} {ts : List T} {ps : List P} → Taken g false row ts ps → Begun g row ts
  begun_taken taken = begun_starts (starts_taken taken)
