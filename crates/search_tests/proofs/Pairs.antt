-- Lists of two.
use Rattle.std.proofs.Common.{◌≡◌, ◌≤◌, ap, List, [], ◌∷◌, ◌++◌, length, sym, subst, arith}
use Rattle.std.specs.List.{AllByRecursion}

-- a list to which two were pushed has two members, and P holds of each
pub two_each : {X : Type 0} (P : X → Type 0) (first second : X) (one two : List X) → one ≡ [] ++ first ∷ [] → two ≡ one ++ second ∷ [] → P first → P second
    → (2 ≤ length two) × AllByRecursion P two
two_each P first second one two is_one is_two p q =
    let pair : two ≡ first ∷ second ∷ [] = cc in
    subst (λ xs. (2 ≤ length xs) × AllByRecursion P xs) (sym pair) (omega arith, (p, (q, tt)))

-- it has two members
pub two_length : {X : Type 0} (first second : X) (one two : List X) → one ≡ [] ++ first ∷ [] → two ≡ one ++ second ∷ [] → length two ≡ 2
two_length first second one two is_one is_two =
    let pair : two ≡ first ∷ second ∷ [] = cc in
    ap length pair
