-- Values of variables, by name as a formula has them and by number as a form has them.
use Rattle.std.proofs.Common.{◌≡◌, ℕ, suc, zero, ◌+◌, ◌<◌, ◌≤◌, ◌⊎◌, inl, inr, Bool, true, false, cond, List, [], ◌∷◌, ◌++◌, length, take, drop, slice_index, refl, ap, sym, ◌∙◌, subst, arith, append_assoc, length-append}
use Rattle.std.proofs.Math.Seq.{get_or-append_seam}
use Rattle.std.proofs.lemmas.List.{take-append-drop}
use Rattle.std.specs.List.{AllByRecursion}
use Rattle.std.specs.Str.{bytes_eq}
use Rattle.std.specs.Cmp.Lexicographic.{bytes_decides}
use Rattle.text_core.specs.Names.{Text}
use Rattle.text_core.specs.Lists.{IsAmong}
use Rattle.text_core.proofs.Laws.{each_append, each_front, each_back}
use Rattle.logic_core.specs.Truth.{Structure, Assignment, value_in, EveryValue, SomeValue}
use Rattle.text_core.specs.Numbered.{Tables}
use Rattle.logic_core.specs.Forms.{Interpretation, interpretation, AreElements}
use Rattle.coherent_form.specs.Reading.{numbered, variable_number}

-- variables with values in order, the newest first
abbrev pub assigned : List Text → List ℕ → Assignment → Assignment
assigned [] vs env = env
assigned (x ∷ xs) [] env = env
assigned (x ∷ xs) (v ∷ vs) env = assigned xs vs ((x, v) ∷ env)

-- variables in two lists
pub assigned-append : (xs ys : List Text) (vs ws : List ℕ) (env : Assignment) → length vs ≡ length xs
    → assigned (xs ++ ys) (vs ++ ws) env ≡ assigned ys ws (assigned xs vs env)
assigned-append [] ys [] ws env e = refl
assigned-append [] ys (v ∷ vs) ws env e = absurd (omega arith)
assigned-append (x ∷ xs) ys [] ws env e = absurd (omega arith)
assigned-append (x ∷ xs) ys (v ∷ vs) ws env e = assigned-append xs ys vs ws ((x, v) ∷ env) (omega arith)

-- of two choices by one test, what holds of each holds of the one that is taken
chosen : (b : Bool) (v w n m : ℕ) (all : List ℕ) → (b ≡ true → v ≡ slice_index all n) → (b ≡ false → w ≡ slice_index all m)
    → cond b v w ≡ slice_index all (cond b n m)
chosen true v w n m all if_passes if_fails = if_passes refl
chosen false v w n m all if_passes if_fails = if_fails refl

-- equal names pass the test
same_passes : (x y : Text) → y ≡ x → bytes_eq y x ≡ true
same_passes x y same = (bytes_decides y x).1 same

-- a variable has the value that its number names
module _ (x : Text) (all : List ℕ) where
  -- by the names in order, the newest last
  found_at : (scope : List Text) (vs front : List ℕ) (n : ℕ) (env nums : Assignment)
      → length vs ≡ length scope → length front ≡ n → front ++ vs ≡ all
      → IsAmong x scope ⊎ (value_in env x ≡ slice_index all (value_in nums x))
      → value_in (assigned scope vs env) x ≡ slice_index all (value_in (numbered n scope nums) x)
  found_at [] vs front n env nums e l whole (inl among) = absurd among
  found_at [] vs front n env nums e l whole (inr same) = same
  found_at (y ∷ ys) [] front n env nums e l whole h = absurd (omega arith)
  found_at (y ∷ ys) (v ∷ vs) front n env nums e l whole h =
      let here : v ≡ slice_index all n = rw (← whole) (rw (← l) (sym (get_or-append_seam front v vs 0))) in
      let longer : length (front ++ v ∷ []) ≡ n + 1 = omega (arith, length-append front (v ∷ [])) in
      found_at ys vs (front ++ v ∷ []) (n + 1) ((y, v) ∷ env) ((y, n) ∷ nums) (omega arith) longer
      (append_assoc front (v ∷ []) vs ∙ whole)
      (next h here)
    where
      next : IsAmong x (y ∷ ys) ⊎ (value_in env x ≡ slice_index all (value_in nums x)) → v ≡ slice_index all n
          → IsAmong x ys ⊎ (value_in ((y, v) ∷ env) x ≡ slice_index all (value_in ((y, n) ∷ nums) x))
      next (inl (inl same)) here = inr (chosen (bytes_eq y x) v (value_in env x) n (value_in nums x) all (λ passes. here)
          (λ fails. let passes = same_passes x y same in absurd (cc)))
      next (inl (inr among)) here = inl among
      next (inr older) here = inr (chosen (bytes_eq y x) v (value_in env x) n (value_in nums x) all (λ passes. here) (λ fails. older))

-- the value of a variable is the one with its number
pub variable_value : (x : Text) (scope : List Text) (vs : List ℕ) → length vs ≡ length scope → IsAmong x scope
    → value_in (assigned scope vs []) x ≡ slice_index vs (variable_number scope x)
variable_value x scope vs e among = found_at x vs scope vs [] 0 [] [] e refl refl (inl among)

-- the number of a variable in scope is below the length of the scope
chosen_below : (b : Bool) (n m bound : ℕ) → (b ≡ true → n < bound) → (b ≡ false → m < bound) → cond b n m < bound
chosen_below true n m bound if_passes if_fails = if_passes refl
chosen_below false n m bound if_passes if_fails = if_fails refl

module _ (x : Text) (bound : ℕ) where
  -- by the names in order
  number_below : (scope : List Text) (n : ℕ) (nums : Assignment) → n + length scope ≤ bound
      → IsAmong x scope ⊎ (value_in nums x < bound) → value_in (numbered n scope nums) x < bound
  number_below [] n nums room (inl among) = absurd among
  number_below [] n nums room (inr below) = below
  number_below (y ∷ ys) n nums room h = number_below ys (n + 1) ((y, n) ∷ nums) (omega arith) (next h)
    where
      next : IsAmong x (y ∷ ys) ⊎ (value_in nums x < bound) → IsAmong x ys ⊎ (value_in ((y, n) ∷ nums) x < bound)
      next (inl (inl same)) = inr (chosen_below (bytes_eq y x) n (value_in nums x) bound (λ passes. omega arith)
          (λ fails. let passes = same_passes x y same in absurd (cc)))
      next (inl (inr among)) = inl among
      next (inr below) = inr (chosen_below (bytes_eq y x) n (value_in nums x) bound (λ passes. omega arith) (λ fails. below))

-- the number of a variable in scope is below the length of the scope
pub variable_below : (x : Text) (scope : List Text) → IsAmong x scope → variable_number scope x < length scope
variable_below x scope among = number_below x (length scope) scope 0 [] (omega arith) (inl among)

-- a front has the length that is asked for
pub length_of_front : {X : Type 0} (n : ℕ) (xs : List X) → n ≤ length xs → length (take n xs) ≡ n
length_of_front zero xs h = refl
length_of_front (suc n) [] h = absurd (omega arith)
length_of_front (suc n) (x ∷ xs) h = ap suc (length_of_front n xs (omega arith))

-- elements of an interpretation
module _ (i : Interpretation) where
  -- no elements
  pub no_elements : AreElements i 0 []
  no_elements = record { length_is = refl; are = tt }

  -- there is one list of no elements
  pub none_of : (vs : List ℕ) → AreElements i 0 vs → vs ≡ []
  none_of [] e = refl
  none_of (v ∷ vs) e = absurd (let long = e.length_is in omega arith)

  -- elements one behind the other
  pub elements_joined : (a b : ℕ) (vs ws : List ℕ) → AreElements i a vs → AreElements i b ws → AreElements i (a + b) (vs ++ ws)
  elements_joined a b vs ws e f = record {
    length_is = omega (arith, length-append vs ws, e.length_is, f.length_is);
    are = each_append i.element vs ws e.are f.are;
  }

  -- and apart
  pub record Parts (a b : ℕ) (es : List ℕ) : Type 0 where
    pub front : List ℕ
    pub back : List ℕ
    pub whole : es ≡ front ++ back
    pub first : AreElements i a front
    pub second : AreElements i b back

  -- so many elements and so many more are two lists of elements
  pub elements_apart : (a b : ℕ) (es : List ℕ) → AreElements i (a + b) es → Parts a b es
  elements_apart a b es e =
      let whole : es ≡ take a es ++ drop a es = sym (take-append-drop a es) in
      let are : AllByRecursion i.element (take a es ++ drop a es) = subst (AllByRecursion i.element) whole e.are in
      let long : length es ≡ a + b = e.length_is in
      let front : length (take a es) ≡ a = length_of_front a es (omega arith) in
      let both : length es ≡ length (take a es ++ drop a es) = ap length whole in
      let sum : length (take a es ++ drop a es) ≡ length (take a es) + length (drop a es) = length-append (take a es) (drop a es) in
      record {
        front = take a es;
        back = drop a es;
        whole = whole;
        first = record { length_is = front; are = each_front i.element (take a es) (drop a es) are };
        second = record { length_is = omega arith; are = each_back i.element (take a es) (drop a es) are };
      }

-- quantifiers over names as quantifiers over lists of elements
module _ (s : Structure) (tables : Tables) where
  -- the structure, through the numbers of the tables
  abbrev i : Interpretation
  i = interpretation s tables

  -- for every choice by name, for every list
  pub every_list : (xs : List Text) (P : Assignment → Type 0) (env : Assignment) → EveryValue s xs P env
      → (vs : List ℕ) → AreElements i (length xs) vs → P (assigned xs vs env)
  every_list [] P env h vs e = h
  every_list (x ∷ xs) P env h [] e = absurd (let long = e.length_is in omega arith)
  every_list (x ∷ xs) P env h (v ∷ vs) e = every_list xs P ((x, v) ∷ env) (h v ((e.are).0)) vs
      (record { length_is = (let long = e.length_is in omega arith); are = (e.are).1 })

  -- and the other way round
  pub every_value : (xs : List Text) (P : Assignment → Type 0) (env : Assignment)
      → ((vs : List ℕ) → AreElements i (length xs) vs → P (assigned xs vs env)) → EveryValue s xs P env
  every_value [] P env h = h [] (no_elements i)
  every_value (x ∷ xs) P env h = λ a is. every_value xs P ((x, a) ∷ env) (λ vs e. h (a ∷ vs)
      (record { length_is = (let long = e.length_is in omega arith); are = (is, e.are) }))

  -- some elements for the variables
  pub record SomeList (xs : List Text) (P : Assignment → Type 0) (env : Assignment) : Type 0 where
    pub values : List ℕ
    pub elements : AreElements i (length xs) values
    pub holds : P (assigned xs values env)

  -- for some choice by name, for some list
  pub some_list : (xs : List Text) (P : Assignment → Type 0) (env : Assignment) → SomeValue s xs P env → SomeList xs P env
  some_list [] P env h = record { values = []; elements = no_elements i; holds = h }
  some_list (x ∷ xs) P env h =
      let rest = some_list xs P ((x, h.0) ∷ env) h.2 in
      record {
        values = h.0 ∷ rest.values;
        elements = record { length_is = (let long = rest.elements.length_is in omega arith); are = (h.1, rest.elements.are) };
        holds = rest.holds;
      }

  -- and the other way round
  pub some_value : (xs : List Text) (P : Assignment → Type 0) (env : Assignment)
      → (vs : List ℕ) → AreElements i (length xs) vs → P (assigned xs vs env) → SomeValue s xs P env
  some_value [] P env vs e h = h
  some_value (x ∷ xs) P env [] e h = absurd (let long = e.length_is in omega arith)
  some_value (x ∷ xs) P env (v ∷ vs) e h = (
    v,
    (e.are).0,
    some_value xs P ((x, v) ∷ env) vs
        (record { length_is = (let long = e.length_is in omega arith); are = (e.are).1 }) h,
  )

-- one more name in scope

-- names with numbers and one more
numbered_more : (n : ℕ) (ys : List Text) (y : Text) (older : Assignment) → numbered n (ys ++ y ∷ []) older ≡ (y, n + length ys) ∷ numbered n ys older
numbered_more n [] y older = ap (λ (k : ℕ). (y, k) ∷ older) (let e : n ≡ n + 0 = omega arith in e)
numbered_more n (z ∷ ys) y older =
    numbered_more (n + 1) ys y ((z, n) ∷ older) ∙ ap (λ (k : ℕ). (y, k) ∷ numbered (n + 1) ys ((z, n) ∷ older)) (let e : n + 1 + length ys ≡ n + length (z ∷ ys) = omega arith in e)

-- the number of a variable among one name more
pub variable_number_more : (ys : List Text) (y x : Text) → variable_number (ys ++ y ∷ []) x ≡ cond (bytes_eq y x) (length ys) (variable_number ys x)
variable_number_more ys y x = ap (λ env. value_in env x) (numbered_more 0 ys y []) ∙ ap (λ (k : ℕ). cond (bytes_eq y x) k (variable_number ys x)) (let e : 0 + length ys ≡ length ys = omega arith in e)
