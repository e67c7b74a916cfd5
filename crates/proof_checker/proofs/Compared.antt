-- What is shown is compared part by part.
use Rattle.std.proofs.Common.{◌≡◌, ℕ, zero, suc, ◌<◌, ◌≤◌, Bool, true, false, List, [], ◌∷◌, length, map, get_or, slice_get, Some, None, refl, ap, sym, ◌∙◌, subst, arith}
use Rattle.std.specs.Bool.{Decides}
use Rattle.std.specs.Str.{bytes_eq}
use Rattle.std.proofs.lemmas.Slice.Eq.{bytes_eq-Decides}
use Rattle.text_core.specs.Names.{Text}
use Rattle.text_core.specs.NameTexts.{IsNameText}
use Rattle.text_core.specs.Numbered.{Tables, text_or_empty}
use Rattle.text_core.proofs.Laws.{value_same}
use Rattle.logic_core.specs.declared.form.Slot.TheVariants.{Constant}
use Rattle.coherent_form.specs.Kept.{name_at}
use Rattle.proof_text.specs.declared.body.NamedAtom.{NamedAtom}
use Rattle.proof_text.specs.Branches.{predicate_of, slot_name, named_atom}
use Rattle.proof_checker.specs.Kept.{atom_seen}
use Rattle.proof_checker.specs.declared.fact.Fact.{Fact}
use Rattle.proof_checker.proofs.Named.{item_read}

-- past the end there is no item
past_none : {X : Type 0} (xs : List X) (i : ℕ) → length xs ≤ i → slice_get xs i ≡ None
past_none [] i past = refl
past_none (x ∷ xs) zero past = absurd (omega arith)
past_none (x ∷ xs) (suc i) past = past_none xs i (omega arith)

-- whether a name is that of an element, by the name with its number
pub name_told : (names : List Text) (e : ℕ) (name other : Text) (same : Bool) → e < length names → other ≡ get_or names e other
    → same ≡ bytes_eq name other → Decides same (name ≡ name_at names e)
name_told names e name other same below is told =
    let at : name_at names e ≡ other = ap text_or_empty (item_read names e other below is) in
    let decides = bytes_eq-Decides name other in
    ((λ passes. decides.0 (sym told ∙ passes) ∙ sym at), (λ equal. told ∙ decides.1 (equal ∙ at)))

-- a name is not that of an element past the end
pub name_past : (names : List Text) (e : ℕ) (name : Text) → length names ≤ e → IsNameText name → name ≡ name_at names e → ⊥
name_past names e name past has equal =
    let none : name_at names e ≡ [] = ap text_or_empty (past_none names e past) in
    subst IsNameText (equal ∙ none) has

-- the names of elements that are seen as arguments
names_seen : (names : List Text) (elements : List ℕ) → map (slot_name names) (map Constant elements) ≡ map (name_at names) elements
names_seen names [] = refl
names_seen names (e ∷ elements) = ap (λ rest. name_at names e ∷ rest) (names_seen names elements)

-- an atom shows a fact where its sign, its predicate and its arguments do
pub fact_told : (tables : Tables) (names : List Text) (atom : NamedAtom) (fact : Fact) (same : Bool) → atom.positive ≡ fact.positive
    → atom.predicate ≡ predicate_of tables fact.symbol → Decides same (atom.args ≡ map (name_at names) fact.args)
    → Decides same (atom ≡ named_atom tables names (atom_seen fact))
fact_told tables names atom fact same positive predicate decides =
    let seen = names_seen names fact.args in (
      (λ passes. let args : atom.args ≡ map (slot_name names) (map Constant fact.args) = decides.0 passes ∙ sym seen in
          λ i. record { positive = positive i; predicate = predicate i; args = args i }),
      (λ equal. decides.1 (ap (λ (a : NamedAtom). a.args) equal ∙ seen)),
    )

-- the image with a number
pub get_map : {X Y : Type 0} (f : X → Y) (xs : List X) (i : ℕ) (x : X) → slice_get xs i ≡ Some x → slice_get (map f xs) i ≡ Some (f x)
get_map f [] i x at = absurd (cc)
get_map f (y ∷ xs) zero x at = let same : y ≡ x = cc in ap (λ z. Some (f z)) same
get_map f (y ∷ xs) (suc i) x at = get_map f xs i x at

-- a list is no list of images, where an item is not the image
pub differ_at : {X Y : Type 0} (f : Y → X) (xs : List X) (ys : List Y) (i : ℕ) (x : X) (y : Y) → slice_get xs i ≡ Some x → slice_get ys i ≡ Some y
    → (x ≡ f y → ⊥) → xs ≡ map f ys → ⊥
differ_at f xs ys i x y left right differ equal =
    differ (value_same (sym left ∙ ap (λ zs. slice_get zs i) equal ∙ get_map f ys i y right))

-- the same of images of images
pub differ_seen : {X Y Z : Type 0} (f : Y → X) (g : Z → Y) (xs : List X) (zs : List Z) (i : ℕ) (x : X) (z : Z) → slice_get xs i ≡ Some x → slice_get zs i ≡ Some z
    → (x ≡ f (g z) → ⊥) → xs ≡ map f (map g zs) → ⊥
differ_seen f g xs zs i x z left right differ equal = differ_at f xs (map g zs) i x (g z) left (get_map g zs i z right) differ equal

-- a test that fails does not decide for what it tests
pub failed : (b : Bool) (P : Type 0) → Decides b P → b ≡ false → P → ⊥
failed b P decides fails holds = let bad : false ≡ true = sym fails ∙ decides.1 holds in cc

-- what is not there is decided by a test that fails
pub decides_no : (P : Type 0) → (P → ⊥) → Decides false P
decides_no P none = ((λ e. absurd (let bad : false ≡ true = e in cc)), (λ p. absurd (none p)))
