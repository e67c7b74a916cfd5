-- Names: whether one is there, and which further ones are new.
use Rattle.std.proofs.Common.{◌≡◌, ℕ, zero, suc, ◌+◌, ◌<◌, inl, inr, Bool, true, false, ◌||◌, if◌then◌else◌, List, [], ◌∷◌, ◌++◌, length, take, get_or, slice_get, Some, refl, ap, sym, ◌∙◌, subst, append_assoc, append-nil, length-append}
use Rattle.std.specs.List.{list_any}
use Rattle.std.specs.Str.{bytes_eq}
use Rattle.std.proofs.lemmas.Option.{slice_get-get_or}
use Rattle.std.proofs.lemmas.Slice.Eq.{bytes_eq-Decides}
use Rattle.text_core.specs.Names.{Text}
use Rattle.text_core.specs.Lists.{IsAmong}
use Rattle.text_core.proofs.Laws.{or_either, not_both, take_next}
use Rattle.proof_text.specs.Branches.{AreNew}

-- a name that some name equals is there
pub any_among : (name : Text) (names : List Text) → list_any (bytes_eq name) names ≡ true → IsAmong name names
any_among name [] e = absurd (cc)
any_among name (x ∷ names) e = elim (or_either (bytes_eq name x) (list_any (bytes_eq name) names) e) [
  | inl here ↦ inl (sym ((bytes_eq-Decides name x).0 here))
  | inr later ↦ inr (any_among name names later)
]

-- a name that is there equals some name
pub among_any : (name : Text) (names : List Text) → IsAmong name names → list_any (bytes_eq name) names ≡ true
among_any name [] among = absurd among
among_any name (x ∷ names) (inl e) = ap (λ b. b || list_any (bytes_eq name) names) ((bytes_eq-Decides name x).1 (sym e))
among_any name (x ∷ names) (inr among) = ap (λ b. bytes_eq name x || b) (among_any name names among) ∙ either (bytes_eq name x)
  where
    either : (b : Bool) → (b || true) ≡ true
    either true = refl
    either false = refl

-- further names with one more that is not there are new
pub new_last : (names fresh : List Text) (name : Text) → AreNew names fresh → (IsAmong name (names ++ fresh) → ⊥) → AreNew names (fresh ++ name ∷ [])
new_last names [] name new lacks = ((λ among. lacks (rw append-nil among)), tt)
new_last names (x ∷ fresh) name new lacks = (
  new.0,
  new_last (names ++ x ∷ []) fresh name new.1
      (λ among. lacks (subst (λ (xs : List Text). IsAmong name xs) (append_assoc names (x ∷ []) fresh) among)),
)

-- a further name that is there already is not new
pub not_new : (names fresh : List Text) (i : ℕ) (name : Text) → slice_get fresh i ≡ Some name → IsAmong name (names ++ take i fresh) → AreNew names fresh → ⊥
not_new names [] i name at among new = absurd (cc)
not_new names (x ∷ fresh) zero name at among new =
    let same : x ≡ name = cc in
    new.0 (subst (λ n. IsAmong n names) (sym same) (rw append-nil at among))
not_new names (x ∷ fresh) (suc i) name at among new = not_new (names ++ x ∷ []) fresh i name at
    (subst (λ (xs : List Text). IsAmong name xs) (sym (append_assoc names (x ∷ []) (take i fresh))) among) new.1

-- an item that was read has its number
pub item_read : {X : Type 0} (xs : List X) (i : ℕ) (x : X) → i < length xs → x ≡ get_or xs i x → slice_get xs i ≡ Some x
item_read xs i x below is = slice_get-get_or xs i x below ∙ ap Some (sym is)

-- a name that is there behind the first of further ones keeps these from being new
pub stopped : (names fresh now : List Text) (i : ℕ) (name : Text) → i < length fresh → name ≡ get_or fresh i name → now ≡ names ++ take i fresh
    → list_any (bytes_eq name) now ≡ true → AreNew names fresh → ⊥
stopped names fresh now i name below is added there new = not_new names fresh i name (item_read fresh i name below is)
    (subst (λ (xs : List Text). IsAmong name xs) added (any_among name now there)) new

-- a name that is not there behind the first of further ones is new too
pub added : (names fresh now after : List Text) (i : ℕ) (name : Text) → i < length fresh → name ≡ get_or fresh i name → now ≡ names ++ take i fresh
    → AreNew names (take i fresh) → list_any (bytes_eq name) now ≡ false
    → after ≡ (if list_any (bytes_eq name) now then now else now ++ name ∷ [])
    → (after ≡ names ++ take (i + 1) fresh) × AreNew names (take (i + 1) fresh) × (length after ≡ length now + 1)
added names fresh now after i name below is so_far new lacks grown =
    let next : take (i + 1) fresh ≡ take i fresh ++ name ∷ [] = take_next fresh i name (item_read fresh i name below is) in
    let missing = λ (among : IsAmong name (names ++ take i fresh)). not_both (list_any (bytes_eq name) now)
    (among_any name now (subst (λ (xs : List Text). IsAmong name xs) (sym so_far) among)) lacks in
    let longer : after ≡ now ++ name ∷ [] = rw lacks at grown in
    let whole : after ≡ names ++ (take i fresh ++ name ∷ []) = longer ∙ ap (λ (xs : List Text). xs ++ name ∷ []) so_far ∙ append_assoc names (take i fresh) (name ∷ []) in (
      whole ∙ ap (λ (xs : List Text). names ++ xs) (sym next),
      subst (AreNew names) (sym next) (new_last names (take i fresh) name new missing),
      ap length longer ∙ length-append now (name ∷ []),
    )
