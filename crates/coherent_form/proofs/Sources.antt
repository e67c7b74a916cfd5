-- Sources in a set: equality of sources is that of values, and one that is not there goes last.
use Rattle.std.proofs.Common.{◌≡◌, ℕ, ◌==◌, Bool, true, false, List, [], ◌∷◌, ◌++◌, ◌||◌, map, length, take, slice_index_or, ◌<◌, if◌then◌else◌, refl, ap, sym, subst}
use Rattle.std.specs.List.{AllByRecursion, list_any}
use Rattle.indexmap.specs.IndexSet.{insert_key}
use Rattle.text_core.proofs.Laws.{each_map, each_append, and_both, number_same, not_passes}
use Rattle.coherent_form.specs.Kept.{IsGiven}
use Rattle.coherent_form.specs.declared.source.BuiltIn.{BuiltIn}
use Rattle.coherent_form.specs.declared.source.BuiltIn.TheVariants.{Refl, Sym, Trans, Sub, No, Or}
use Rattle.coherent_form.specs.declared.source.Source.{Source}
use Rattle.coherent_form.specs.declared.source.Source.TheVariants as source
use Rattle.coherent_form.specs.contracts.source.SourcePartialEq.TheImpl as source_eq
use Rattle.coherent_form.specs.contracts.source.BuiltInPartialEq.TheImpl as built_in_eq
use Rattle.coherent_form.proofs.Counted.{each_image, IsNew, AreApart, apart_take}

-- built-in axioms that pass the test of equality are the same
built_in_same : (x y : BuiltIn) → built_in_eq.eq-value.it x y ≡ true → x ≡ y
built_in_same Refl Refl h = refl
built_in_same Sym Sym h = refl
built_in_same Trans Trans h = refl
built_in_same (Sub true m i) (Sub true n j) h =
    let both = and_both (m == n) (i == j) h in
    let symbol = number_same m n both.0 in
    let place = number_same i j both.1 in
    λ k. Sub true (symbol k) (place k)
built_in_same (Sub false m i) (Sub false n j) h =
    let both = and_both (m == n) (i == j) h in
    let symbol = number_same m n both.0 in
    let place = number_same i j both.1 in
    λ k. Sub false (symbol k) (place k)
built_in_same (No m) (No n) h = ap No (number_same m n h)
built_in_same (Or m) (Or n) h = ap Or (number_same m n h)
built_in_same x y h = absurd (let e : false ≡ true = h in cc)

-- so are sources
pub source_same : (x y : Source) → source_eq.eq-value.it x y ≡ true → x ≡ y
source_same (source.Formula m i) (source.Formula n j) h =
    let both = and_both (m == n) (i == j) h in
    let name = number_same m n both.0 in
    let rank = number_same i j both.1 in
    λ k. source.Formula (name k) (rank k)
source_same (source.BuiltIn x) (source.BuiltIn y) h = ap source.BuiltIn (built_in_same x y h)
source_same x y h = absurd (let e : false ≡ true = h in cc)

-- a key that is not there is not found
absent : {K : Type 0} (eq : K → K → Bool) → ((x y : K) → eq x y ≡ true → x ≡ y) → (key : K) (keys : List K) → IsNew key keys → list_any (eq key) keys ≡ false
absent eq same key [] new = refl
absent eq same key (k ∷ keys) new =
    let differs : eq key k ≡ false = not_passes (eq key k) (λ passes. new.0 (sym (same key k passes))) in
    let rest = absent eq same key keys new.1 in
    λ i. differs i || rest i

-- and goes last
pub insert_new : {K : Type 0} (eq : K → K → Bool) → ((x y : K) → eq x y ≡ true → x ≡ y) → (keys : List K) (key : K) → IsNew key keys
    → insert_key eq keys key ≡ keys ++ key ∷ []
insert_new eq same keys key new = ap (λ (b : Bool). if b then keys else keys ++ key ∷ []) (absent eq same key keys new)

-- a built-in axiom is not among sources that are formulas and the axioms in front of it
pub source_new : (given : List Source) (axioms : List BuiltIn) (i : ℕ) (d : BuiltIn) (keys : List Source) → AllByRecursion IsGiven given → AreApart axioms → i < length axioms
    → keys ≡ given ++ map source.BuiltIn (take i axioms) → IsNew (source.BuiltIn (slice_index_or axioms i d)) keys
source_new given axioms i d keys formulas apart within is =
    subst (λ ks. IsNew (source.BuiltIn (slice_index_or axioms i d)) ks) (sym is)
    (each_append (λ s. s ≡ source.BuiltIn (slice_index_or axioms i d) → ⊥) given (map source.BuiltIn (take i axioms))
    (each_map (λ s formula same. subst IsGiven same formula) given formulas)
    (each_image (λ s. s ≡ source.BuiltIn (slice_index_or axioms i d) → ⊥) source.BuiltIn (take i axioms)
    (each_map (λ b differs same. differs (let e : b ≡ slice_index_or axioms i d = cc in e)) (take i axioms) (apart_take axioms i d apart within))))
