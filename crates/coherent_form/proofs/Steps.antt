-- A turn of a loop over a list: what holds of a front holds of the front that is longer by one.
use Rattle.std.proofs.Common.{◌≡◌, ℕ, ◌+◌, ◌<◌, ◌≤◌, ◌⊎◌, inl, inr, Bool, true, false, cond, map, List, [], ◌∷◌, ◌++◌, length, take, slice_index_or, ap, sym, ◌∙◌, arith, append_assoc, Ok, Err}
use Rattle.std.proofs.lemmas.List.{take_more, map-append}
use Rattle.std.specs.Prelude.{Result, IfOk}
use Rattle.std.specs.Str.{bytes_eq}
use Rattle.text_core.specs.Names.{Text}
use Rattle.coherent_form.specs.Reading.{variable_number}
use Rattle.coherent_form.proofs.Values.{length_of_front, variable_number_more}

-- the front that is longer by one
pub front_more : {X : Type 0} (xs : List X) (i : ℕ) (x : X) → i < length xs → x ≡ slice_index_or xs i x → take (i + 1) xs ≡ take i xs ++ x ∷ []
front_more xs i x within at = take_more xs i x within ∙ ap (λ y. take i xs ++ y ∷ []) (sym at)

-- a state that a function of the front gives
pub state_more : {X S : Type 0} (F : List X → S) (step : S → X → S) → ((ys : List X) (x : X) → F (ys ++ x ∷ []) ≡ step (F ys) x)
    → (xs : List X) (i : ℕ) (x : X) → i < length xs → x ≡ slice_index_or xs i x
    → (before after : S) → before ≡ F (take i xs) → after ≡ step before x → after ≡ F (take (i + 1) xs)
state_more F step law xs i x within at before after is next =
    next ∙ ap (λ s. step s x) is ∙ sym (law (take i xs) x) ∙ ap F (sym (front_more xs i x within at))

-- a list to which a function of the front is appended
pub appended_more : {X Y : Type 0} (F : List X → List Y) (f : X → List Y) → ((xs : List X) (x : X) → F (xs ++ x ∷ []) ≡ F xs ++ f x)
    → (xs : List X) (i : ℕ) (x : X) → i < length xs → x ≡ slice_index_or xs i x
    → (start before after : List Y) → before ≡ start ++ F (take i xs) → after ≡ before ++ f x → after ≡ start ++ F (take (i + 1) xs)
appended_more F f law xs i x within at start before after is next =
    next ∙ ap (λ ys. ys ++ f x) is ∙ append_assoc start (F (take i xs)) (f x)
    ∙ ap (λ ys. start ++ ys) (sym (law (take i xs) x) ∙ ap F (sym (front_more xs i x within at)))

-- the number of a variable in a scope that is longer by one
number_chosen : (b : Bool) (at number next : ℕ) → ((b ≡ true) × (next ≡ at)) ⊎ ((b ≡ false) × (next ≡ number)) → next ≡ cond b at number
number_chosen true at number next (inl h) = h.1
number_chosen true at number next (inr h) = absurd (let wrong : true ≡ false = h.0 in cc)
number_chosen false at number next (inl h) = absurd (let wrong : false ≡ true = h.0 in cc)
number_chosen false at number next (inr h) = h.1

-- the number of a variable in a scope that is longer by one
pub number_step : (scope : List Text) (name y : Text) (at number next : ℕ) (test : Bool) → at < length scope → y ≡ slice_index_or scope at y
    → number ≡ variable_number (take at scope) name → test ≡ bytes_eq y name
    → ((test ≡ true) × (next ≡ at)) ⊎ ((test ≡ false) × (next ≡ number)) → next ≡ variable_number (take (at + 1) scope) name
number_step scope name y at number next test within is so_far tests branch =
    let front : length (take at scope) ≡ at = length-take_le at scope within in
    number_chosen test at number next branch
    ∙ (λ i. cond (tests i) (sym front i) (so_far i))
    ∙ sym (variable_number_more (take at scope) y name)
    ∙ ap (λ ys. variable_number ys name) (sym (front_more scope at y within is))
  where
    length-take_le : (n : ℕ) (xs : List Text) → n < length xs → length (take n xs) ≡ n
    length-take_le n xs h = length_of_front n xs (let le : n < length xs = h in omega arith)

-- an answer's value, as another one
pub if_ok_as : {T E : Type 0} (r : Result T E) (x y : T) → x ≡ y → IfOk r (λ v. v ≡ x) → IfOk r (λ v. v ≡ y)
if_ok_as (Ok v) x y e h = h ∙ e
if_ok_as (Err why) x y e h = tt

-- a list with one item
pub single_list : {X : Type 0} (xs : List X) (x : X) → 1 ≤ length xs → length xs < 2 → x ≡ slice_index_or xs 0 x → xs ≡ x ∷ []
single_list [] x some few is = absurd (omega arith)
single_list (y ∷ []) x some few is = ap (λ z. z ∷ []) (sym is)
single_list (y ∷ z ∷ zs) x some few is = absurd (omega arith)

-- an image that is pushed behind those of the items so far
pub pushed_image : {X Y : Type 0} (f : X → Y) (yielded : List X) (x : X) (before after : List Y) (y : Y)
    → before ≡ map f yielded → after ≡ before ++ y ∷ [] → y ≡ f x → after ≡ map f (yielded ++ x ∷ [])
pushed_image f yielded x before after y is next image =
    next ∙ (λ i. is i ++ image i ∷ []) ∙ sym (map-append f yielded (x ∷ []))

-- what is left of a list of which an item is taken
pub rest_of : {X : Type 0} (yielded rest left whole : List X) (x : X) → rest ≡ x ∷ left → yielded ++ rest ≡ whole → (yielded ++ x ∷ []) ++ left ≡ whole
rest_of yielded rest left whole x taken is = append_assoc yielded (x ∷ []) left ∙ ap (λ ys. yielded ++ ys) (sym taken) ∙ is
