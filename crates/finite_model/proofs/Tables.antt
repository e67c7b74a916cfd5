-- The tables of places and facts, with one more.
use Rattle.std.specs.Prelude.{◌≡◌, ℕ, zero, suc, ◌+◌, ◌<◌, Bool, true, false, ◌&&◌, ◌||◌, List, [], ◌∷◌, ◌++◌, take, drop, length, get_or, slice_get, Option, Some, None, if◌then◌else◌}
use Rattle.std.specs.Borrow.{Bor}
use Rattle.std.specs.HashMap.{HashMap}
use Rattle.std.specs.List.{AllByRecursion, list_any}
use Rattle.std.specs.Str.{bytes_eq}
use Rattle.std.specs.Cmp.Lexicographic.{bytes_decides}
use Rattle.std.proofs.Common.{refl, sym, ◌∙◌, ap, subst, inl, inr, arith, add-one}
use Rattle.text_core.specs.Names.{Text}
use Rattle.text_core.specs.Lists.{IsAmong}
use Rattle.text_core.proofs.Laws.{and_both, value_same}
use Rattle.model_text.specs.declared.structure.Place.{Place}
use Rattle.model_text.specs.declared.structure.Fact.{Fact}
use Rattle.model_text.specs.Structures.{constants_of}
use Rattle.finite_model.specs.Structures.{is_fact, has_fact, found_place}
use Rattle.finite_model.specs.Countermodels.{IsFirst}
use Rattle.finite_model.specs.Tabled.{place_found, place_with, HasPlaces, is_entry, fact_found, HasFacts}

-- the first items and one more
pub take_item : {X : Type 0} (xs : List X) (i : ℕ) (x : X) → i < length xs → x ≡ get_or xs i x → take (i + 1) xs ≡ take i xs ++ x ∷ []
take_item xs i x below is = rw add-one (more xs i x below is)
  where
    more : {X : Type 0} (xs : List X) (i : ℕ) (x : X) → i < length xs → x ≡ get_or xs i x → take (suc i) xs ≡ take i xs ++ x ∷ []
    more [] i x below is = absurd (omega arith)
    more (y ∷ ys) zero x below is = ap (λ z. z ∷ []) (sym is)
    more (y ∷ ys) (suc i) x below is = ap (λ zs. y ∷ zs) (more ys i x (omega arith) is)

-- a test of some item of two lists
any_append : {X : Type 0} (test : X → Bool) (xs ys : List X) → list_any test (xs ++ ys) ≡ (list_any test xs || list_any test ys)
any_append test [] ys = refl
any_append test (x ∷ xs) ys = by (test x) (any_append test xs ys)
  where
    by : (b : Bool) → list_any test (xs ++ ys) ≡ (list_any test xs || list_any test ys) →
        (b || list_any test (xs ++ ys)) ≡ ((b || list_any test xs) || list_any test ys)
    by true later = refl
    by false later = later

-- a constant that had no element gets that of its place
pub place_noted : (old new : Text → Option ℕ) (p : Place) (name constant : Text) → name ≡ p.constant → None ≡ old name →
    new constant ≡ (if bytes_eq name constant then Some p.element else old constant) →
    new constant ≡ place_with (old constant) p constant
place_noted old new p name constant named without wrote =
    by (bytes_eq p.constant constant) refl (old constant) refl
    (wrote ∙ (λ i. if bytes_eq (named i) constant then Some p.element else old constant))
  where
    by : (b : Bool) → bytes_eq p.constant constant ≡ b → (o : Option ℕ) → old constant ≡ o →
        new constant ≡ (if b then Some p.element else old constant) →
        new constant ≡ place_with (old constant) p constant
    by true same o is noted =
        let at : old constant ≡ None = ap old (sym ((bytes_decides p.constant constant).0 same)) ∙ (ap old (sym named) ∙ sym without) in
        noted ∙ (λ i. if sym same i then Some p.element else None) ∙ (λ i. place_with (sym at i) p constant)
    by false other None is noted =
        noted ∙ is ∙ (λ i. if sym other i then Some p.element else None) ∙ (λ i. place_with (sym is i) p constant)
    by false other (Some x) is noted = noted ∙ is ∙ (λ i. place_with (sym is i) p constant)

-- the element of a constant among places and one more
place_last : (places : List Place) (p : Place) (constant : Text) → found_place (places ++ p ∷ []) constant ≡ place_with (found_place places constant) p constant
place_last [] p constant = refl
place_last (q ∷ places) p constant = by (bytes_eq q.constant constant) (place_last places p constant)
  where
    by : (b : Bool) → found_place (places ++ p ∷ []) constant ≡ place_with (found_place places constant) p constant →
        (if b then Some q.element else found_place (places ++ p ∷ []) constant) ≡
        place_with (if b then Some q.element else found_place places constant) p constant
    by true later = refl
    by false later = later

-- the table has the elements of one more place
pub places_more : {S : Type 0} (places : List Place) (i : ℕ) (p : Place) (old new : HashMap (Bor Text) ℕ S) → i < length places → p ≡ get_or places i p →
    HasPlaces (take i places) old → ((constant : Text) → place_found new constant ≡ place_with (place_found old constant) p constant) →
    HasPlaces (take (i + 1) places) new
places_more places i p old new below is has noted constant =
    noted constant ∙ ap (λ o. place_with o p constant) (has constant) ∙ sym (place_last (take i places) p constant) ∙
    ap (λ ps. found_place ps constant) (sym (take_item places i p below is))

-- a test of the last item alone
alone : (b : Bool) → (b || false) ≡ b
alone true = refl
alone false = refl

-- a test that adds nothing
nothing_more : (a b : Bool) → (b ≡ true → a ≡ true) → a ≡ (a || b)
nothing_more true b h = refl
nothing_more false true h = h refl
nothing_more false false h = refl

-- the entries are one fact more
facts_with : (facts : List Fact) (f : Fact) (entries later : List (Bor Text × Bor (List ℕ))) (e : Bor Text × Bor (List ℕ)) → HasFacts facts entries →
    e.0.now ≡ f.predicate → e.1.now ≡ f.arguments →
    later ≡ (if list_any (is_entry e.0.now e.1.now) entries then entries else entries ++ e ∷ []) → HasFacts (facts ++ f ∷ []) later
facts_with facts f entries later e has at_predicate at_arguments is predicate xs = by (list_any (is_entry e.0.now e.1.now) entries) refl is
  where
    whole : has_fact (facts ++ f ∷ []) predicate xs ≡ (has_fact facts predicate xs || is_fact predicate xs f)
    whole = any_append (is_fact predicate xs) facts (f ∷ []) ∙ ap (λ b. has_fact facts predicate xs || b) (alone (is_fact predicate xs f))

    same_entry : is_entry predicate xs e ≡ is_fact predicate xs f
    same_entry = λ i. bytes_eq predicate (at_predicate i) && bytes_eq xs (at_arguments i)

    there : list_any (is_entry e.0.now e.1.now) entries ≡ true → is_fact predicate xs f ≡ true → has_fact facts predicate xs ≡ true
    there found fact =
        let (first, second) = and_both (bytes_eq predicate f.predicate) (bytes_eq xs f.arguments) fact in
        let p : e.0.now ≡ predicate = at_predicate ∙ sym ((bytes_decides predicate f.predicate).0 first) in
        let q : e.1.now ≡ xs = at_arguments ∙ sym ((bytes_decides xs f.arguments).0 second) in
        sym (has predicate xs) ∙ (λ i. list_any (is_entry (sym p i) (sym q i)) entries) ∙ found

    by : (b : Bool) → list_any (is_entry e.0.now e.1.now) entries ≡ b → later ≡ (if b then entries else entries ++ e ∷ []) →
        fact_found later predicate xs ≡ has_fact (facts ++ f ∷ []) predicate xs
    by true found is =
        ap (list_any (is_entry predicate xs)) is ∙ has predicate xs ∙
        nothing_more (has_fact facts predicate xs) (is_fact predicate xs f) (there found) ∙ sym whole
    by false found is =
        ap (list_any (is_entry predicate xs)) is ∙ any_append (is_entry predicate xs) entries (e ∷ []) ∙
        (λ i. has predicate xs i || alone (is_entry predicate xs e) i) ∙ ap (λ b. has_fact facts predicate xs || b) same_entry ∙ sym whole

-- the same for the first facts of a list
pub facts_more : (facts : List Fact) (i : ℕ) (f : Fact) (entries later : List (Bor Text × Bor (List ℕ))) (e : Bor Text × Bor (List ℕ)) →
    i < length facts → f ≡ get_or facts i f → HasFacts (take i facts) entries → e.0.now ≡ f.predicate → e.1.now ≡ f.arguments →
    later ≡ (if list_any (is_entry e.0.now e.1.now) entries then entries else entries ++ e ∷ []) → HasFacts (take (i + 1) facts) later
facts_more facts i f entries later e below at has at_predicate at_arguments is =
    subst (λ fs. HasFacts fs later) (sym (take_item facts i f below at)) (facts_with (take i facts) f entries later e has at_predicate at_arguments is)

-- a constant with an element has a place
pub found_placed : (places : List Place) (constant : Text) (element : ℕ) → found_place places constant ≡ Some element → IsAmong constant (constants_of places)
found_placed [] constant element e = absurd (cc)
found_placed (p ∷ places) constant element e = by (bytes_eq p.constant constant) refl e (found_placed places constant element)
  where
    by : (b : Bool) → bytes_eq p.constant constant ≡ b → (if b then Some p.element else found_place places constant) ≡ Some element →
        (found_place places constant ≡ Some element → IsAmong constant (constants_of places)) → IsAmong constant (constants_of (p ∷ places))
    by true same e later = inl ((bytes_decides p.constant constant).0 same)
    by false other e later = inr (later e)

-- a constant without one has none
pub not_placed : (places : List Place) (constant : Text) → found_place places constant ≡ None → IsAmong constant (constants_of places) → ⊥
not_placed [] constant e among = among
not_placed (p ∷ places) constant e among = by (bytes_eq p.constant constant) refl e among (not_placed places constant)
  where
    by : (b : Bool) → bytes_eq p.constant constant ≡ b → (if b then Some p.element else found_place places constant) ≡ None →
        IsAmong constant (constants_of (p ∷ places)) → (found_place places constant ≡ None → IsAmong constant (constants_of places) → ⊥) → ⊥
    by true same e among later = cc
    by false other e (inl here) later = let same = (bytes_decides p.constant constant).1 here in cc
    by false other e (inr among) later = later e among

-- the first that fails is the one behind those that do not
pub first_at : {X : Type 0} (P Q : X → Type 0) (xs : List X) (i : ℕ) (x : X) → slice_get xs i ≡ Some x → AllByRecursion P (take i xs) → Q x →
    IsFirst P Q xs (i + 1)
first_at P Q xs i x at holds fails = record {
  front = take i xs;
  item = x;
  rest = drop (suc i) xs;
  split = split xs i x at;
  holds = holds;
  fails = fails;
  number_is = ap (λ n. n + 1) (sym (front_length xs i x at));
}
  where
    split : {X : Type 0} (xs : List X) (i : ℕ) (x : X) → slice_get xs i ≡ Some x → xs ≡ take i xs ++ x ∷ drop (suc i) xs
    split [] i x at = absurd (cc)
    split (y ∷ ys) zero x at = ap (λ z. z ∷ ys) (value_same at)
    split (y ∷ ys) (suc i) x at = ap (λ zs. y ∷ zs) (split ys i x at)

    front_length : {X : Type 0} (xs : List X) (i : ℕ) (x : X) → slice_get xs i ≡ Some x → length (take i xs) ≡ i
    front_length [] i x at = absurd (cc)
    front_length (y ∷ ys) zero x at = refl
    front_length (y ∷ ys) (suc i) x at = let later = front_length ys i x at in omega arith

-- the item at a number
pub item_at : {X : Type 0} (xs : List X) (i : ℕ) (x : X) → i < length xs → x ≡ get_or xs i x → slice_get xs i ≡ Some x
item_at [] i x below is = absurd (omega arith)
item_at (y ∷ ys) zero x below is = ap Some (sym is)
item_at (y ∷ ys) (suc i) x below is = item_at ys i x (omega arith) is
