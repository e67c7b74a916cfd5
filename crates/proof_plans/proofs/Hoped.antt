-- What a proof that has a plan as a part says of the plan as it is kept.
use Rattle.std.proofs.Common.{◌≡◌, ℕ, zero, suc, List, [], ◌∷◌, ◌++◌, length, slice_get, Some, refl, ap, sym, ◌∙◌, subst}
use Rattle.vernacular_tree.specs.Contexts.{Task}
use Rattle.vernacular_tree.specs.declared.context.Context.{Context}
use Rattle.proof_plans.specs.Drafts.{Drafted, Both}
use Rattle.proof_plans.specs.Hopes.{Hope}
use Rattle.proof_plans.proofs.Steps.{steps_long}

-- lists whose items go together are as long
pub both_long : {X Y : Type 0} (P : X → Y → Type 0) (xs : List X) (ys : List Y) → Both P xs ys → length xs ≡ length ys
both_long P [] [] h = refl
both_long P [] (y ∷ ys) h = absurd h
both_long P (x ∷ xs) [] h = absurd h
both_long P (x ∷ xs) (y ∷ ys) h = ap suc (both_long P xs ys h.1)

-- the last items go together, and those before them
pub both_last : {X Y : Type 0} (P : X → Y → Type 0) (xs : List X) (x : X) (ys : List Y) → Both P (xs ++ x ∷ []) ys
    → (rest : List Y) × (y : Y) × (ys ≡ rest ++ y ∷ []) × Both P xs rest × P x y
both_last P [] x [] h = absurd h
both_last P [] x (y ∷ []) h = ([], y, refl, tt, h.0)
both_last P [] x (y ∷ z ∷ ys) h = absurd h.1
both_last P (a ∷ xs) x [] h = absurd h
both_last P (a ∷ xs) x (y ∷ ys) h = let found = both_last P xs x ys h.1 in (y ∷ found.0, found.1, ap (λ (l : List _). y ∷ l) found.2, (h.0, found.3), found.4)

-- items behind others go together
pub both_append : {X Y : Type 0} (P : X → Y → Type 0) (xs : List X) (ys : List Y) (zs : List X) (ws : List Y) → Both P xs ys → Both P zs ws → Both P (xs ++ zs) (ys ++ ws)
both_append P [] [] zs ws h k = k
both_append P [] (y ∷ ys) zs ws h k = absurd h
both_append P (x ∷ xs) [] zs ws h k = absurd h
both_append P (x ∷ xs) (y ∷ ys) zs ws h k = (h.0, both_append P xs ys zs ws h.1 k)

-- what goes together still does, where it follows
pub both_map : {X Y : Type 0} (P Q : X → Y → Type 0) → ((x : X) (y : Y) → P x y → Q x y) → (xs : List X) (ys : List Y) → Both P xs ys → Both Q xs ys
both_map P Q f [] [] h = tt
both_map P Q f [] (y ∷ ys) h = absurd h
both_map P Q f (x ∷ xs) [] h = absurd h
both_map P Q f (x ∷ xs) (y ∷ ys) h = (f x y h.0, both_map P Q f xs ys h.1)

-- the item with a number goes together with the one that has it
pub both_get : {X Y : Type 0} (P : X → Y → Type 0) (xs : List X) (ys : List Y) → Both P xs ys → (k : ℕ) (y : Y) → slice_get ys k ≡ Some y → (x : X) × (slice_get xs k ≡ Some x) × P x y
both_get P [] [] h k y e = absurd (cc)
both_get P [] (z ∷ ys) h k y e = absurd h
both_get P (x ∷ xs) [] h k y e = absurd h
both_get P (x ∷ xs) (z ∷ ys) h zero y e = (x, refl, subst (P x) (let same : z ≡ y = cc in same) h.0)
both_get P (x ∷ xs) (z ∷ ys) h (suc k) y e = both_get P xs ys h.1 k y e

module _ (task : Task) (lent : Context) (n : ℕ) (d : Drafted) (h : Hope task lent n d) where
  -- there are as many applications as steps that are kept
  pub indices_long : length h.indices ≡ length d.steps
  indices_long = sym (steps_long h.fires h.values h.plan.steps h.indices h.embeds.steps) ∙ sym (both_long _ d.steps h.plan.steps h.keeps.steps_are)
