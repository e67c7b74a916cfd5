-- Lists of numbers of names: their names stay where further names follow, and are joined as they are.
use Rattle.std.proofs.Common.{◌≡◌, ℕ, zero, suc, ◌+◌, ◌<◌, List, [], ◌∷◌, ◌++◌, map, length, take, slice_index_or, refl, ap, sym, ◌∙◌, subst, arith, append_assoc, length-append, true, false, if◌then◌else◌, Ok, Err}
use Rattle.std.proofs.lemmas.Grind.{flat_map-append}
use Rattle.std.proofs.lemmas.List.{append-nil, map-append}
use Rattle.std.specs.List.{AllByRecursion}
use Rattle.std.specs.Prelude.{Result, IfOk, OnOk}
use Rattle.text_core.specs.Names.{Text}
use Rattle.text_core.proofs.Laws.{each_map, each_append, each_same}
use Rattle.logic_core.proofs.Laws.{row_of, And_opens, Or_opens, Binary_opens, ForAll_opens, Exists_opens}
use Rattle.logic_core.specs.declared.formula.Op.TheVariants.{Implies, Implied, Iff}
use Rattle.logic_core.specs.declared.formula.Formula.{Formula, And, Or, Binary, ForAll, Exists}
use Rattle.logic_core.specs.declared.formula.Formula.TheBlock.{shape-the_row-Formula-1}
use Rattle.signature.specs.Columns.{name_number, with_name}
use Rattle.signature.proofs.Laws.{text_here, number_below}
use Rattle.coherent_form.specs.Each.{each_is_plain}
use Rattle.coherent_form.specs.Kept.{name_at}
use Rattle.coherent_form.specs.Labels.{names_bound, names_joined, alternative_names, choice_names, offer_names, universal_names, universal_names_of}
use Rattle.coherent_form.specs.Offending.{is_plain, are_plain}
use Rattle.coherent_form.specs.NameNumbers.{IsLonger, AreNumbers, AreListsOf, lists_joined, choice_names_in, offer_names_in, universal_names_in}
use Rattle.coherent_form.proofs.Below.{each_image}
use Rattle.coherent_form.proofs.Opened.{is_plain-And}
use Rattle.coherent_form.proofs.Steps.{front_more}

-- names that grow

-- names that grow twice
pub longer_twice : (names longer longest : List Text) → IsLonger names longer → IsLonger longer longest → IsLonger names longest
longer_twice names longer longest h k =
    (h.0 ++ k.0, k.1 ∙ ap (λ (xs : List Text). xs ++ k.0) h.1 ∙ append_assoc names h.0 k.0)

-- a name keeps its number where further ones follow
name_at-more : (names more : List Text) (n : ℕ) → n < length names → name_at (names ++ more) n ≡ name_at names n
name_at-more [] more n below = absurd (omega arith)
name_at-more (x ∷ names) more zero below = refl
name_at-more (x ∷ names) more (suc n) below = name_at-more names more n (omega arith)

module _ (names longer : List Text) (is : IsLonger names longer) where
  -- the name with a number stays
  name_stays : (n : ℕ) → n < length names → name_at longer n ≡ name_at names n
  name_stays n below = ap (λ ns. name_at ns n) is.1 ∙ name_at-more names is.0 n below

  -- a number that is there stays there
  there_stays : (n : ℕ) → n < length names → n < length longer
  there_stays n below = let count = ap length is.1 in omega (arith, length-append names is.0)

  -- the names with some numbers stay
  names_stay : (ns : List ℕ) → AllByRecursion (λ n. n < length names) ns → map (name_at longer) ns ≡ map (name_at names) ns
  names_stay ns there = each_same (name_at longer) (name_at names) ns (each_map name_stays ns there)

  -- numbers of names stay so
  numbers_stay : (ns : List ℕ) (texts : List Text) → AreNumbers names ns texts → AreNumbers longer ns texts
  numbers_stay ns texts h = record { named = names_stay ns h.there ∙ h.named; there = each_map there_stays ns h.there }

  -- so do lists of them
  pub lists_stay : (lists : List (List ℕ)) (texts : List (List Text)) → AreListsOf names lists texts → AreListsOf longer lists texts
  lists_stay lists texts h = record {
    named = each_same (map (name_at longer)) (map (name_at names)) lists (each_map names_stay lists h.there) ∙ h.named;
    there = each_map {Q = AllByRecursion (λ n. n < length longer)} (λ ns there. each_map there_stays ns there) lists h.there;
  }

-- lists that are joined

module _ {X : Type 0} where
  -- lists followed by the empty one
  pub joined_empty : (xs : List (List X)) → lists_joined xs ([] ∷ []) ≡ xs
  joined_empty [] = refl
  joined_empty (x ∷ xs) = λ i. append-nil x i ∷ joined_empty xs i

  -- lists that are copied
  same_each : (ys : List (List X)) → map (λ y. [] ++ y) ys ≡ ys
  same_each [] = refl
  same_each (y ∷ ys) = ap (λ (zs : List (List X)). y ∷ zs) (same_each ys)

  -- the empty list followed by lists
  pub empty_joined : (ys : List (List X)) → lists_joined ([] ∷ []) ys ≡ ys
  empty_joined ys = append-nil (map (λ y. [] ++ y) ys) ∙ same_each ys

  -- lists followed by a single one
  pub joined_single : (xs : List (List X)) (y : List X) → map (λ x. x ++ y) xs ≡ lists_joined xs (y ∷ [])
  joined_single [] y = refl
  joined_single (x ∷ xs) y = λ i. (x ++ y) ∷ joined_single xs y i

  -- one list more in front
  pub joined_more : (xs : List (List X)) (x : List X) (ys : List (List X)) → lists_joined (xs ++ x ∷ []) ys ≡ lists_joined xs ys ++ map (λ y. x ++ y) ys
  joined_more xs x ys = flat_map-append (λ z. map (λ y. z ++ y) ys) xs (x ∷ [])
      ∙ ap (λ (rest : List (List X)). lists_joined xs ys ++ rest) (append-nil (map (λ y. x ++ y) ys))

  -- two lists in front of each of some others
  each_both : (x y : List X) (zs : List (List X)) → map (λ z. (x ++ y) ++ z) zs ≡ map (λ z. x ++ z) (map (λ z. y ++ z) zs)
  each_both x y [] = refl
  each_both x y (z ∷ zs) = λ i. append_assoc x y z i ∷ each_both x y zs i

  -- a list in front of joined ones
  before_joined : (x : List X) (ys zs : List (List X)) → lists_joined (map (λ y. x ++ y) ys) zs ≡ map (λ y. x ++ y) (lists_joined ys zs)
  before_joined x [] zs = refl
  before_joined x (y ∷ ys) zs = (λ i. each_both x y zs i ++ before_joined x ys zs i)
      ∙ sym (map-append (λ w. x ++ w) (map (λ z. y ++ z) zs) (lists_joined ys zs))

  -- three lists may be joined in either order
  joined-joined : (xs ys zs : List (List X)) → lists_joined (lists_joined xs ys) zs ≡ lists_joined xs (lists_joined ys zs)
  joined-joined [] ys zs = refl
  joined-joined (x ∷ xs) ys zs = flat_map-append (λ w. map (λ z. w ++ z) zs) (map (λ y. x ++ y) ys) (lists_joined xs ys)
      ∙ (λ i. before_joined x ys zs i ++ joined-joined xs ys zs i)

  -- each member of each of joined lists
  each_joined : (P : X → Type 0) (xs ys : List (List X)) → AllByRecursion (AllByRecursion P) xs → AllByRecursion (AllByRecursion P) ys
      → AllByRecursion (AllByRecursion P) (lists_joined xs ys)
  each_joined P [] ys h k = tt
  each_joined P (x ∷ xs) ys h k = each_append (AllByRecursion P) (map (λ y. x ++ y) ys) (lists_joined xs ys)
      (each_image (AllByRecursion P) (λ y. x ++ y) (λ y p. each_append P x y h.0 p) ys k)
      (each_joined P xs ys h.1 k)

-- images of a list in front of others
map-before : {X Y : Type 0} (f : X → Y) (x : List X) (ys : List (List X)) → map (map f) (map (λ y. x ++ y) ys) ≡ map (λ z. map f x ++ z) (map (map f) ys)
map-before f x [] = refl
map-before f x (y ∷ ys) = λ i. map-append f x y i ∷ map-before f x ys i

-- images of joined lists
map-joined : {X Y : Type 0} (f : X → Y) (xs ys : List (List X)) → map (map f) (lists_joined xs ys) ≡ lists_joined (map (map f) xs) (map (map f) ys)
map-joined f [] ys = refl
map-joined f (x ∷ xs) ys = map-append (map f) (map (λ y. x ++ y) ys) (lists_joined xs ys) ∙ (λ i. map-before f x ys i ++ map-joined f xs ys i)

-- lists of names

module _ (names : List Text) where
  -- one name more
  numbers_more : (ns : List ℕ) (texts : List Text) (n : ℕ) (text : Text) → AreNumbers names ns texts → name_at names n ≡ text → n < length names
      → AreNumbers names (ns ++ n ∷ []) (texts ++ text ∷ [])
  numbers_more ns texts n text h is below = record {
    named = map-append (name_at names) ns (n ∷ []) ∙ (λ i. h.named i ++ is i ∷ []);
    there = each_append (λ m. m < length names) ns (n ∷ []) h.there (below, tt);
  }

  -- the empty list
  pub empty_listed : AreListsOf names ([] ∷ []) ([] ∷ [])
  empty_listed = record { named = refl; there = (tt, tt) }

  -- a single list
  single_listed : (ns : List ℕ) (texts : List Text) → AreNumbers names ns texts → AreListsOf names (ns ∷ []) (texts ∷ [])
  single_listed ns texts h = record { named = ap (λ xs. xs ∷ []) h.named; there = (h.there, tt) }

  -- lists behind others
  both_listed : (ms ns : List (List ℕ)) (xs ys : List (List Text)) → AreListsOf names ms xs → AreListsOf names ns ys → AreListsOf names (ms ++ ns) (xs ++ ys)
  both_listed ms ns xs ys h k = record {
    named = map-append (map (name_at names)) ms ns ∙ (λ i. h.named i ++ k.named i);
    there = each_append (AllByRecursion (λ m. m < length names)) ms ns h.there k.there;
  }

  -- lists that are joined
  pub joined_listed : (ms ns : List (List ℕ)) (xs ys : List (List Text)) → AreListsOf names ms xs → AreListsOf names ns ys
      → AreListsOf names (lists_joined ms ns) (names_joined xs ys)
  joined_listed ms ns xs ys h k = record {
    named = map-joined (name_at names) ms ns ∙ (λ i. lists_joined (h.named i) (k.named i));
    there = each_joined (λ m. m < length names) ms ns h.there k.there;
  }

-- the variables of premises

-- one list of names in front of others
joined_bound : (xs : List Text) (ys : List (List Text)) → names_joined (xs ∷ []) ys ≡ names_bound xs ys
joined_bound xs ys = append-nil (names_bound xs ys)

-- every choice from members in a row as a list
choice_row : (gs : List Formula) → choice_names (row_of gs) ≡ choice_names_in gs
unfolding row_of shape-the_row-Formula-1
choice_row [] = refl
choice_row (g ∷ gs) = ap (names_joined (alternative_names g)) (choice_row gs)

-- the alternatives of members in a row as a list
offer_row : (gs : List Formula) → offer_names (row_of gs) ≡ offer_names_in gs
unfolding row_of shape-the_row-Formula-1
offer_row [] = refl
offer_row (g ∷ gs) = ap (λ (rest : List (List Text)). alternative_names g ++ rest) (offer_row gs)

-- the variables of a conjunction
pub alternative_names-And : (gs : List Formula) → alternative_names (And gs) ≡ choice_names_in gs
alternative_names-And gs = ap alternative_names (And_opens gs) ∙ choice_row gs

-- of a disjunction
pub alternative_names-Or : (gs : List Formula) → alternative_names (Or gs) ≡ offer_names_in gs
alternative_names-Or gs = ap alternative_names (Or_opens gs) ∙ offer_row gs

-- of an existential premise
pub alternative_names-Exists : (xs : List Text) (g : Formula) → alternative_names (Exists xs g) ≡ names_bound xs (alternative_names g)
alternative_names-Exists xs g = ap alternative_names (Exists_opens xs g)

-- every choice from one member more
pub choice_names_in_more : (gs : List Formula) (g : Formula) → choice_names_in (gs ++ g ∷ []) ≡ names_joined (choice_names_in gs) (alternative_names g)
choice_names_in_more [] g = joined_empty (alternative_names g) ∙ sym (empty_joined (alternative_names g))
choice_names_in_more (h ∷ gs) g = ap (names_joined (alternative_names h)) (choice_names_in_more gs g)
    ∙ sym (joined-joined (alternative_names h) (choice_names_in gs) (alternative_names g))

-- the alternatives of one member more
pub offer_names_in_more : (gs : List Formula) (g : Formula) → offer_names_in (gs ++ g ∷ []) ≡ offer_names_in gs ++ alternative_names g
offer_names_in_more [] g = append-nil (alternative_names g)
offer_names_in_more (h ∷ gs) g = ap (λ (rest : List (List Text)). alternative_names h ++ rest) (offer_names_in_more gs g)
    ∙ sym (append_assoc (alternative_names h) (offer_names_in gs) (alternative_names g))

-- the variables of rules

-- the forms of members in a row as a list
universal_row : (gs : List Formula) → universal_names_of (row_of gs) ≡ universal_names_in gs
unfolding row_of shape-the_row-Formula-1
universal_row [] = refl
universal_row (g ∷ gs) = ap (λ (rest : List (List Text)). universal_names g ++ rest) (universal_row gs)

-- the forms of one member more
pub universal_names_in_more : (gs : List Formula) (g : Formula) → universal_names_in (gs ++ g ∷ []) ≡ universal_names_in gs ++ universal_names g
universal_names_in_more [] g = append-nil (universal_names g)
universal_names_in_more (h ∷ gs) g = ap (λ (rest : List (List Text)). universal_names h ++ rest) (universal_names_in_more gs g)
    ∙ sym (append_assoc (universal_names h) (universal_names_in gs) (universal_names g))

-- the variables of a universal rule
universal_names-ForAll : (xs : List Text) (g : Formula) → universal_names (ForAll xs g) ≡ names_bound xs (universal_names g)
universal_names-ForAll xs g = ap universal_names (ForAll_opens xs g)

-- of an implication
universal_names-Implies : (g h : Formula) → universal_names (Binary Implies g h) ≡ names_joined (alternative_names g) (universal_names h)
universal_names-Implies g h = ap universal_names (Binary_opens Implies g h)

-- of a reversed implication
universal_names-Implied : (g h : Formula) → universal_names (Binary Implied g h) ≡ names_joined (alternative_names h) (universal_names g)
universal_names-Implied g h = ap universal_names (Binary_opens Implied g h)

-- of an equivalence
universal_names-Iff : (g h : Formula)
    → universal_names (Binary Iff g h) ≡ names_joined (alternative_names g) (universal_names h) ++ names_joined (alternative_names h) (universal_names g)
universal_names-Iff g h = ap universal_names (Binary_opens Iff g h)

-- plain members in a row as a list
plain_row : (gs : List Formula) → are_plain (row_of gs) ≡ each_is_plain gs
plain_row gs = sym (ap is_plain (And_opens gs)) ∙ is_plain-And gs

-- of a conjunction
universal_names-And : (gs : List Formula) → universal_names (And gs) ≡ (if each_is_plain gs then [] ∷ [] else universal_names_in gs)
universal_names-And gs = ap universal_names (And_opens gs)
    ∙ (λ i. if plain_row gs i then [] ∷ [] else universal_row gs i)

-- what code builds, where names grow meanwhile

-- an answer that is a name's number
pub entered_named : {E : Type 0} (r : Result ℕ E) (old new : List Text) (name : Text) → IfOk r (λ n. n ≡ name_number old name) → OnOk r (new ≡ with_name old name)
    → IfOk r (λ n. name_at new n ≡ name)
entered_named (Ok n) old new name number ok = (λ i. name_at (ok i) (number i)) ∙ text_here name old
entered_named (Err why) old new name number ok = tt

-- it is there
pub entered_there : {E : Type 0} (r : Result ℕ E) (old new : List Text) (name : Text) → IfOk r (λ n. n ≡ name_number old name) → OnOk r (new ≡ with_name old name)
    → IfOk r (λ n. n < length new)
entered_there (Ok n) old new name number ok =
    let is : n ≡ name_number old name = number in let count = ap length ok in let below = number_below name old in omega arith
entered_there (Err why) old new name number ok = tt

-- the numbers of one name more
pub numbers_step : (before after : List Text) (ns pushed : List ℕ) (xs : List Text) (i : ℕ) (x : Text) (n : ℕ) → i < length xs → x ≡ slice_index_or xs i x
    → AreNumbers before ns (take i xs) → IsLonger before after → name_at after n ≡ x → n < length after → pushed ≡ ns ++ n ∷ [] → AreNumbers after pushed (take (i + 1) xs)
numbers_step before after ns pushed xs i x n within at so_far longer named there next =
    subst (λ ys. AreNumbers after pushed ys) (sym (front_more xs i x within at))
    (subst (λ ms. AreNumbers after ms (take i xs ++ x ∷ [])) (sym next)
    (numbers_more after ns (take i xs) n x (numbers_stay before after longer ns (take i xs) so_far) named there))

-- lists as other ones
listed_as : (names : List Text) (lists other : List (List ℕ)) (xs ys : List (List Text)) → other ≡ lists → xs ≡ ys → AreListsOf names lists xs → AreListsOf names other ys
listed_as names lists other xs ys e f h = subst (λ zs. AreListsOf names other zs) f (subst (λ ns. AreListsOf names ns xs) (sym e) h)

-- an answer's lists
pub if_ok_listed : {E : Type 0} (r : Result (List (List ℕ)) E) (names : List Text) (value : List (List ℕ)) (xs ys : List (List Text))
    → IfOk r (λ all. all ≡ value) → xs ≡ ys → AreListsOf names value xs → IfOk r (λ all. AreListsOf names all ys)
if_ok_listed (Ok all) names value xs ys e f h = listed_as names value all xs ys e f h
if_ok_listed (Err why) names value xs ys e f h = tt

-- an answer's lists, as those of other names
pub if_ok_listed_as : {E : Type 0} (r : Result (List (List ℕ)) E) (names : List Text) (xs ys : List (List Text))
    → xs ≡ ys → IfOk r (λ all. AreListsOf names all xs) → IfOk r (λ all. AreListsOf names all ys)
if_ok_listed_as (Ok all) names xs ys f h = subst (λ zs. AreListsOf names all zs) f h
if_ok_listed_as (Err why) names xs ys f h = tt

-- lists of a front that is longer by one
pub front_listed : (F : List Formula → List (List Text)) (gs : List Formula) (i : ℕ) (g : Formula) (names : List Text) (lists : List (List ℕ)) (xs : List (List Text))
    → F (take i gs ++ g ∷ []) ≡ xs → i < length gs → g ≡ slice_index_or gs i g → AreListsOf names lists xs → AreListsOf names lists (F (take (i + 1) gs))
front_listed F gs i g names lists xs law within at h =
    subst (λ ys. AreListsOf names lists ys) (sym law ∙ ap F (sym (front_more gs i g within at))) h

module _ (before after : List Text) (longer : IsLonger before after) (ms ns all : List (List ℕ)) (xs ys : List (List Text))
    (first : AreListsOf before ms xs) (second : AreListsOf after ns ys) where
  -- lists that are joined
  pub joined_grown : all ≡ lists_joined ms ns → AreListsOf after all (names_joined xs ys)
  joined_grown e = listed_as after (lists_joined ms ns) all (names_joined xs ys) (names_joined xs ys) e refl
      (joined_listed after ms ns xs ys (lists_stay before after longer ms xs first) second)

  -- lists that are appended
  pub appended_grown : all ≡ ms ++ ns → AreListsOf after all (xs ++ ys)
  appended_grown e = listed_as after (ms ++ ns) all (xs ++ ys) (xs ++ ys) e refl
      (both_listed after ms ns xs ys (lists_stay before after longer ms xs first) second)

-- the names of a quantifier in front of lists
pub bound_grown : (before after : List Text) → IsLonger before after → (numbers : List ℕ) (firsts inner all : List (List ℕ)) (xs : List Text) (ys : List (List Text))
    → AreNumbers after numbers xs → firsts ≡ numbers ∷ [] → AreListsOf before inner ys → all ≡ lists_joined firsts inner → AreListsOf after all (names_bound xs ys)
bound_grown before after longer numbers firsts inner all xs ys h single k joined =
    listed_as after (lists_joined (numbers ∷ []) inner) all (names_joined (xs ∷ []) ys) (names_bound xs ys)
    (joined ∙ ap (λ (ns : List (List ℕ)). lists_joined ns inner) single) (joined_bound xs ys)
    (joined_listed after (numbers ∷ []) inner (xs ∷ []) ys (single_listed after numbers xs h) (lists_stay before after longer inner ys k))

-- the parts of an answer's lists
module _ {E : Type 0} (names : List Text) (xs : List (List Text)) where
  -- their names
  pub if_ok_named : (r : Result (List (List ℕ)) E) → IfOk r (λ all. AreListsOf names all xs) → IfOk r (λ all. map (map (name_at names)) all ≡ xs)
  if_ok_named (Ok all) h = h.named
  if_ok_named (Err why) h = tt

  -- they are there
  pub if_ok_there : (r : Result (List (List ℕ)) E) → IfOk r (λ all. AreListsOf names all xs) → IfOk r (λ all. AllByRecursion (AllByRecursion (λ n. n < length names)) all)
  if_ok_there (Ok all) h = h.there
  if_ok_there (Err why) h = tt

-- what is made of the lists of a rule, as those of another one
module _ {E : Type 0} (r : Result (List (List ℕ)) E) (before after : List Text) (forms : List (List ℕ)) (h : Formula)
    (named : map (map (name_at before)) forms ≡ universal_names h) (there : AllByRecursion (AllByRecursion (λ n. n < length before)) forms) where
  -- by what each reading of the lists makes
  made_listed : (make : List (List Text) → List (List Text)) (ys : List (List Text)) → make (universal_names h) ≡ ys
      → ((texts : List (List Text)) → AreListsOf before forms texts → IfOk r (λ all. AreListsOf after all (make texts))) → IfOk r (λ all. AreListsOf after all ys)
  made_listed make ys is made = if_ok_listed_as r after (make (universal_names h)) ys is (made (universal_names h) (record { named = named; there = there }))

  -- a universal rule
  pub for_all_listed : (f body : Formula) (xs slice : List Text) → f ≡ ForAll xs body → slice ≡ xs → h ≡ body
      → ((texts : List (List Text)) → AreListsOf before forms texts → IfOk r (λ all. AreListsOf after all (names_bound slice texts)))
      → IfOk r (λ all. AreListsOf after all (universal_names f))
  for_all_listed f body xs slice is names same made = made_listed (names_bound slice) (universal_names f)
      ((λ i. names_bound (names i) (universal_names (same i))) ∙ sym (ap universal_names is ∙ universal_names-ForAll xs body)) made

  -- an implication
  pub implies_listed : (f left right g : Formula) → f ≡ Binary Implies left right → g ≡ left → h ≡ right
      → ((texts : List (List Text)) → AreListsOf before forms texts → IfOk r (λ all. AreListsOf after all (names_joined (alternative_names g) texts)))
      → IfOk r (λ all. AreListsOf after all (universal_names f))
  implies_listed f left right g is same_left same_right made = made_listed (names_joined (alternative_names g)) (universal_names f)
      ((λ i. names_joined (alternative_names (same_left i)) (universal_names (same_right i))) ∙ sym (ap universal_names is ∙ universal_names-Implies left right)) made

  -- a reversed implication
  pub implied_listed : (f left right g : Formula) → f ≡ Binary Implied left right → g ≡ right → h ≡ left
      → ((texts : List (List Text)) → AreListsOf before forms texts → IfOk r (λ all. AreListsOf after all (names_joined (alternative_names g) texts)))
      → IfOk r (λ all. AreListsOf after all (universal_names f))
  implied_listed f left right g is same_right same_left made = made_listed (names_joined (alternative_names g)) (universal_names f)
      ((λ i. names_joined (alternative_names (same_right i)) (universal_names (same_left i))) ∙ sym (ap universal_names is ∙ universal_names-Implied left right)) made

-- the two halves of an equivalence, one behind the other, where its sides are read as other values
module _ (before after : List Text) (longer : IsLonger before after) (firsts seconds all : List (List ℕ)) (f left right g h k l : Formula) (is : f ≡ Binary Iff left right) where
  pub iff_listed : g ≡ left → h ≡ right → k ≡ right → l ≡ left
      → AreListsOf before firsts (names_joined (alternative_names g) (universal_names h))
      → AreListsOf after seconds (names_joined (alternative_names k) (universal_names l))
      → all ≡ firsts ++ seconds → AreListsOf after all (universal_names f)
  iff_listed same_g same_h same_k same_l first second joined =
      let xs = names_joined (alternative_names g) (universal_names h) in
      let ys = names_joined (alternative_names k) (universal_names l) in
      listed_as after all all (xs ++ ys) (universal_names f) refl
      ((λ i. names_joined (alternative_names (same_g i)) (universal_names (same_h i)) ++ names_joined (alternative_names (same_k i)) (universal_names (same_l i)))
      ∙ sym (ap universal_names is ∙ universal_names-Iff left right))
      (appended_grown before after longer firsts seconds all xs ys first second joined)

-- a conjunction, by whether it is plain
module _ (f : Formula) (gs : List Formula) (is : f ≡ And gs) where
  -- one that is plain
  pub plain_named : each_is_plain gs ≡ true → [] ∷ [] ≡ universal_names f
  plain_named passes = sym (ap (λ b. if b then [] ∷ [] else universal_names_in gs) passes) ∙ sym (universal_names-And gs) ∙ ap universal_names (sym is)

  -- one that is not
  pub rules_named : each_is_plain gs ≡ false → universal_names_in gs ≡ universal_names f
  rules_named fails = sym (ap (λ b. if b then [] ∷ [] else universal_names_in gs) fails) ∙ sym (universal_names-And gs) ∙ ap universal_names (sym is)
