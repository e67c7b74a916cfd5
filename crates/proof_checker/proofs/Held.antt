-- The store of a branch has the facts of its lines.
use Rattle.std.proofs.Common.{◌≡◌, ℕ, ◌+◌, ◌*◌, ◌<◌, ◌⊎◌, inl, inr, Bool, true, false, ◌||◌, ◌==◌, not, if◌then◌else◌, List, [], ◌∷◌, ◌++◌, length, take, map, get_or, refl, ap, sym, ◌∙◌, subst, arith, append_assoc, append-nil, nat_eq}
use Rattle.std.specs.List.{AllByRecursion, list_any}
use Rattle.std.specs.Bool.{Decides, OnTrue, OnFalse}
use Rattle.std.specs.Cmp.Lexicographic.{pointwise, bytes_decides}
use Rattle.std.proofs.lemmas.Bool.Decides.{Decides-eqb}
use Rattle.std.proofs.lemmas.List.{map-append}
use Rattle.text_core.specs.Lists.{SomeOf, IsAmong}
use Rattle.text_core.proofs.Laws.{each_append, and_both, and_true, or_either, take_next, some_front, some_back, some_append}
use Rattle.logic_core.specs.declared.form.Slot.{Slot}
use Rattle.logic_core.specs.declared.form.Slot.TheVariants.{Variable, Constant}
use Rattle.logic_core.specs.declared.form.Atom.{Atom}
use Rattle.vernacular_tree.specs.Contexts.{LineHas}
use Rattle.coherent_form.specs.Tasks.{CitedTask}
use Rattle.fact_store.specs.Facts as store
use Rattle.proof_checker.specs.declared.fact.Fact.{Fact}
use Rattle.proof_checker.specs.declared.fact.HeldLine as HeldLine
use Rattle.proof_checker.specs.declared.fact.HeldLine.TheVariants.{Facts, Cases, Falsum}
use Rattle.proof_checker.specs.Kept.{Kept, IsKept, HasAlso, HasLine, LineFits, atom_seen, line_seen, signed_number, is_numbered, facts_of, is_falsum}
use Rattle.proof_checker.proofs.Named.{item_read}

-- a bit of a number
abbrev sign : Bool → ℕ
sign positive = if positive then 0 else 1

-- two signed numbers that are the same are of one symbol with one sign
signed_same : (p q : Bool) (s t : ℕ) → 2 * s + sign p ≡ 2 * t + sign q → (p ≡ q) × (s ≡ t)
signed_same true true s t e = (refl, omega arith)
signed_same true false s t e = absurd (omega arith)
signed_same false true s t e = absurd (omega arith)
signed_same false false s t e = (refl, omega arith)

-- the element of an argument
abbrev element_in : Slot → ℕ
element_in (Variable i) = i
element_in (Constant e) = e

-- lists of elements that are seen as the same arguments are the same
seen_same : (xs ys : List ℕ) → map Constant xs ≡ map Constant ys → xs ≡ ys
seen_same [] [] e = refl
seen_same [] (y ∷ ys) e = absurd (cc)
seen_same (x ∷ xs) [] e = absurd (cc)
seen_same (x ∷ xs) (y ∷ ys) e =
    let first : Constant x ≡ Constant y = cc in
    let rest : map Constant xs ≡ map Constant ys = cc in
    λ i. ap element_in first i ∷ seen_same xs ys rest i

-- two facts with one number and the same elements are seen as one atom
numbered_seen : (f g : Fact) → is_numbered (signed_number f) f.args g ≡ true → atom_seen g ≡ atom_seen f
numbered_seen f g e =
    let both = and_both (signed_number f == signed_number g) (pointwise nat_eq f.args g.args) e in
    let same = signed_same f.positive g.positive f.symbol g.symbol ((Decides-eqb (signed_number f) (signed_number g)).0 both.0) in
    let args : f.args ≡ g.args = (bytes_decides f.args g.args).0 both.1 in
    sym (λ i. record { positive = same.0 i; symbol = same.1 i; args = map Constant (args i) })

-- two facts that are seen as one atom have one number and the same elements
seen_numbered : (f g : Fact) → atom_seen g ≡ atom_seen f → is_numbered (signed_number f) f.args g ≡ true
seen_numbered f g e =
    let positive : f.positive ≡ g.positive = sym (ap (λ (a : Atom). a.positive) e) in
    let symbol : f.symbol ≡ g.symbol = sym (ap (λ (a : Atom). a.symbol) e) in
    let args : f.args ≡ g.args = seen_same f.args g.args (sym (ap (λ (a : Atom). a.args) e)) in
    and_true (signed_number f == signed_number g) (pointwise nat_eq f.args g.args)
    ((Decides-eqb (signed_number f) (signed_number g)).1 (λ i. 2 * symbol i + sign (positive i)))
    ((bytes_decides f.args g.args).1 args)

-- a fact that some fact of a list is, is seen among them
any_seen : (f : Fact) (facts : List Fact) → list_any (is_numbered (signed_number f) f.args) facts ≡ true → IsAmong (atom_seen f) (map atom_seen facts)
any_seen f [] e = absurd (cc)
any_seen f (g ∷ facts) e = elim (or_either (is_numbered (signed_number f) f.args g) (list_any (is_numbered (signed_number f) f.args) facts) e) [
  | inl here ↦ inl (numbered_seen f g here)
  | inr later ↦ inr (any_seen f facts later)
]

-- a test or another one passes
or_left : (a b : Bool) → a ≡ true → (a || b) ≡ true
or_left true b e = refl
or_left false b e = absurd (cc)

or_right : (a b : Bool) → b ≡ true → (a || b) ≡ true
or_right true b e = refl
or_right false b e = e

-- a fact that is seen among those of a list is one of them
seen_any : (f : Fact) (facts : List Fact) → IsAmong (atom_seen f) (map atom_seen facts) → list_any (is_numbered (signed_number f) f.args) facts ≡ true
seen_any f [] among = absurd among
seen_any f (g ∷ facts) (inl here) = or_left (is_numbered (signed_number f) f.args g) (list_any (is_numbered (signed_number f) f.args) facts) (seen_numbered f g here)
seen_any f (g ∷ facts) (inr later) = or_right (is_numbered (signed_number f) f.args g) (list_any (is_numbered (signed_number f) f.args) facts) (seen_any f facts later)

-- whether a line has a fact
line_any : (f : Fact) (line : HeldLine.HeldLine) → Decides (list_any (is_numbered (signed_number f) f.args) (facts_of line)) (LineHas (atom_seen f) (line_seen line))
line_any f (Facts facts) = (any_seen f facts, seen_any f facts)
line_any f (Cases lists) = ((λ e. absurd (let x : false ≡ true = e in cc)), (λ h. absurd h))
line_any f Falsum = ((λ e. absurd (let x : false ≡ true = e in cc)), (λ h. absurd h))

-- a store with no facts more
pub also_none : (s : store.Facts) → HasAlso [] s s
also_none s = record {
  stands = λ number args. sym (nor (store.stands number args s.facts));
  added = [];
  facts_are = sym (append-nil s.facts);
  signed_is = refl;
}
  where
    nor : (b : Bool) → (b || false) ≡ b
    nor true = refl
    nor false = refl

-- some member of two lists, one behind the other, passes
any_append : {X : Type 0} (test : X → Bool) (xs ys : List X) → list_any test (xs ++ ys) ≡ (list_any test xs || list_any test ys)
any_append test [] ys = refl
any_append test (x ∷ xs) ys = ap (λ b. test x || b) (any_append test xs ys) ∙ shifted (test x) (list_any test xs) (list_any test ys)
  where
    shifted : (a b c : Bool) → (a || (b || c)) ≡ ((a || b) || c)
    shifted true b c = refl
    shifted false b c = refl

-- a store with facts more, and then further ones
pub also_more : (xs ys : List Fact) (a b c : store.Facts) → HasAlso xs a b → HasAlso ys b c → HasAlso (xs ++ ys) a c
also_more xs ys a b c x y = record {
  stands = λ number args. y.stands number args ∙ ap (λ t. t || list_any (is_numbered number args) ys) (x.stands number args)
      ∙ sym (shifted (store.stands number args a.facts) (list_any (is_numbered number args) xs) (list_any (is_numbered number args) ys))
      ∙ ap (λ t. store.stands number args a.facts || t) (sym (any_append (is_numbered number args) xs ys));
  added = x.added ++ y.added;
  facts_are = y.facts_are ∙ ap (λ (fs : List store.Fact). fs ++ y.added) x.facts_are ∙ append_assoc a.facts x.added y.added;
  signed_is = y.signed_is ∙ x.signed_is;
}
  where
    shifted : (a b c : Bool) → (a || (b || c)) ≡ ((a || b) || c)
    shifted true b c = refl
    shifted false b c = refl

-- a store with one more of a list's facts
pub also_next : (facts : List Fact) (i : ℕ) (fact : Fact) (a b c : store.Facts) → i < length facts → fact ≡ get_or facts i fact
    → HasAlso (take i facts) a b → HasAlso (fact ∷ []) b c → HasAlso (take (i + 1) facts) a c
also_next facts i fact a b c below is x y =
    subst (λ (fs : List Fact). HasAlso fs a c) (sym (take_next facts i fact (item_read facts i fact below is))) (also_more (take i facts) (fact ∷ []) a b c x y)

-- one of two tests decides whether one of two things holds
either : (a b : Bool) (P Q : Type 0) → Decides a P → Decides b Q → Decides (a || b) (P ⊎ Q)
either true b P Q x y = ((λ e. inl (x.0 refl)), (λ h. refl))
either false b P Q x y = ((λ e. inr (y.0 e)), (λ h. elim h [ inl p ↦ absurd (let bad : false ≡ true = x.1 p in cc) | inr q ↦ y.1 q ]))

-- a test decides what follows and leads back
pub decides_so : (a : Bool) (P Q : Type 0) → (P → Q) → (Q → P) → Decides a P → Decides a Q
decides_so a P Q there back x = ((λ e. there (x.0 e)), (λ q. x.1 (back q)))

-- whether a line is falsehood
falsum_told : (line : HeldLine.HeldLine) → Decides (is_falsum line) (line ≡ Falsum)
falsum_told (Facts facts) = ((λ e. absurd (let x : false ≡ true = e in cc)), (λ e. absurd (cc)))
falsum_told (Cases lists) = ((λ e. absurd (let x : false ≡ true = e in cc)), (λ e. absurd (cc)))
falsum_told Falsum = ((λ e. refl), (λ e. refl))

-- some member of a list with one more behind it
some_last : {X : Type 0} (P : X → Type 0) (xs : List X) (x : X) → SomeOf P (xs ++ x ∷ []) → SomeOf P xs ⊎ P x
some_last P xs x h = elim (some_append P xs (x ∷ []) h) [ inl front ↦ inl front | inr back ↦ elim back [ inl here ↦ inr here | inr none ↦ absurd none ] ]

last_some : {X : Type 0} (P : X → Type 0) (xs : List X) (x : X) → SomeOf P xs ⊎ P x → SomeOf P (xs ++ x ∷ [])
last_some P xs x (inl front) = some_front P xs (x ∷ []) front
last_some P xs x (inr here) = some_back P xs (x ∷ []) (inl here)

-- a kept branch with one more line
abbrev pub with_line : HeldLine.HeldLine → Kept → store.Facts → Kept
with_line line old after = record {
  names = old.names;
  lines = old.lines ++ line ∷ [];
  facts = after.facts;
  falsum = old.falsum || is_falsum line;
  signed = after.signed;
}

-- its store has its facts, and falsehood is told
with_line_kept : (line : HeldLine.HeldLine) (old : Kept) (before after : store.Facts) → LineFits old.signed line
    → before.facts ≡ old.facts → before.signed ≡ old.signed → HasAlso (facts_of line) before after
    → (task : CitedTask) → IsKept task old → IsKept task (with_line line old after)
with_line_kept line old before after fits facts signed also task kept = record {
  facts = λ fact.
      let has : List HeldLine.HeldLine → Type 0 = λ ls. SomeOf (LineHas (atom_seen fact)) (map line_seen ls) in
      let seen : map line_seen (old.lines ++ line ∷ []) ≡ map line_seen old.lines ++ line_seen line ∷ [] = map-append line_seen old.lines (line ∷ []) in
      let number = signed_number fact in
      let test : store.stands number fact.args after.facts ≡ (store.stands number fact.args old.facts || list_any (is_numbered number fact.args) (facts_of line))
      = also.stands number fact.args ∙ ap (λ (fs : List store.Fact). store.stands number fact.args fs || list_any (is_numbered number fact.args) (facts_of line)) facts in
      subst (λ b. Decides b (SomeOf (LineHas (atom_seen fact)) (map line_seen (old.lines ++ line ∷ [])))) (sym test)
      (decides_so _ _ _
      (λ h. subst (SomeOf (LineHas (atom_seen fact))) (sym seen) (last_some (LineHas (atom_seen fact)) (map line_seen old.lines) (line_seen line) h))
      (λ h. some_last (LineHas (atom_seen fact)) (map line_seen old.lines) (line_seen line) (subst (SomeOf (LineHas (atom_seen fact))) seen h))
      (either _ _ _ _ (kept.facts fact) (line_any fact line)));
  falsum = decides_so _ _ _ (last_some (λ l. l ≡ Falsum) old.lines line) (some_last (λ l. l ≡ Falsum) old.lines line)
      (either _ _ _ _ kept.falsum (falsum_told line));
  lines = subst (λ n. AllByRecursion (LineFits n) (old.lines ++ line ∷ [])) (sym same) (each_append (LineFits old.signed) old.lines (line ∷ []) kept.lines (fits, tt));
  signed = same ∙ kept.signed;
  small = subst (λ n. n < 4294967296) (sym same) kept.small;
  few = kept.few;
}
  where
    same : after.signed ≡ old.signed
    same = also.signed_is ∙ signed

-- a branch with one more line is kept, where its facts are in the store and falsehood is told
pub line_kept : (line : HeldLine.HeldLine) (old new : Kept) (before after : store.Facts) → LineFits old.signed line
    → before.facts ≡ old.facts → before.signed ≡ old.signed → HasAlso (facts_of line) before after
    → new ≡ with_line line old after → HasLine line old new
line_kept line old new before after fits facts signed also is = subst (HasLine line old) (sym is) (record {
  names_are = refl;
  lines_are = refl;
  added = also.added;
  facts_are = also.facts_are ∙ ap (λ (fs : List store.Fact). fs ++ also.added) facts;
  signed_is = also.signed_is ∙ signed;
  kept = with_line_kept line old before after fits facts signed also;
})

-- a test that another one implies
absorbed : (a b : Bool) → (b ≡ true → a ≡ true) → a ≡ (a || (b || false))
absorbed true b h = refl
absorbed false true h = h refl
absorbed false false h = refl

-- a test whose opposite fails passes
passed : (a : Bool) → not a ≡ false → a ≡ true
passed true e = refl
passed false e = absurd (cc)

-- a store after one more fact was added, or was there
pub fact_added : (fact : Fact) (before after last : store.Facts) (args : List ℕ) (number : ℕ) (done : Bool)
    → number ≡ signed_number fact → args ≡ fact.args → after.facts ≡ before.facts → after.signed ≡ before.signed
    → done ≡ not (store.stands number args after.facts)
    → (done ≡ true → (last.facts ≡ after.facts ++ record { signed = number; args = args } ∷ []) × (last.signed ≡ after.signed))
    → (done ≡ false → last ≡ after) → HasAlso (fact ∷ []) before last
fact_added fact before after last args number true is are facts signed test added stays = record {
  stands = λ n xs.
      let made : record { signed = number; args = args } ≡ record { signed = signed_number fact; args = fact.args } = λ i. record { signed = is i; args = are i } in
      ap (store.stands n xs) (added refl).0 ∙ any_append (store.is_fact n xs) after.facts (record { signed = number; args = args } ∷ [])
      ∙ ap (λ (fs : List store.Fact). store.stands n xs fs || (store.is_fact n xs (record { signed = number; args = args }) || false)) facts
      ∙ ap (λ (f : store.Fact). store.stands n xs before.facts || (store.is_fact n xs f || false)) made;
  added = record { signed = number; args = args } ∷ [];
  facts_are = (added refl).0 ∙ ap (λ (fs : List store.Fact). fs ++ record { signed = number; args = args } ∷ []) facts;
  signed_is = (added refl).1 ∙ signed;
}
fact_added fact before after last args number false is are facts signed test added stays = record {
  stands = λ n xs. ap (λ (s : store.Facts). store.stands n xs s.facts) (stays refl) ∙ ap (store.stands n xs) facts
      ∙ absorbed (store.stands n xs before.facts) (is_numbered n xs fact) (λ e.
      let both = and_both (n == signed_number fact) (pointwise nat_eq xs fact.args) e in
      let one : n ≡ number = (Decides-eqb n (signed_number fact)).0 both.0 ∙ sym is in
      let two : xs ≡ args = (bytes_decides xs fact.args).0 both.1 ∙ sym are in
      (λ i. store.stands (one i) (two i) (sym facts i)) ∙ passed (store.stands number args after.facts) (sym test));
  added = [];
  facts_are = ap (λ (s : store.Facts). s.facts) (stays refl) ∙ facts ∙ sym (append-nil before.facts);
  signed_is = ap (λ (s : store.Facts). s.signed) (stays refl) ∙ signed;
}

-- what holds where a test passes, and what holds where it fails
pub on_true : (b : Bool) (P : Type 0) → OnTrue b P → b ≡ true → P
on_true true P h e = h
on_true false P h e = absurd (let x : false ≡ true = e in cc)

pub on_false : (b : Bool) (P : Type 0) → OnFalse b P → b ≡ false → P
on_false true P h e = absurd (let x : true ≡ false = e in cc)
on_false false P h e = h
