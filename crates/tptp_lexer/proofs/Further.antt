-- A reader goes through tokens, one step at a time: a token of a kind, and a further value of a list. The ruleset is for loops.
use Rattle.std.specs.Prelude.{◌≡◌, ℕ, zero, suc, ◌+◌, ◌-◌, ◌<◌, false, List, [], ◌∷◌, ◌++◌, Some, None, Err, if◌then◌else◌, refl}
use Rattle.std.proofs.Common.{ap, sym, ◌∙◌, append_assoc, append-nil, arith}
use Rattle.tptp_lexer.specs.declared.kind.Kind.{Kind}
use Rattle.tptp_lexer.specs.declared.reader.NotRead.{NotRead}
use Rattle.tptp_lexer.specs.declared.reader.NotRead.TheVariants.{NoText, Memory}
use Rattle.tptp_lexer.specs.Reading.{Read, Gives, behind, reread, with_front, more_behind, read_behind, more_from}
use Rattle.tptp_lexer.specs.Same.{same_kind}
use Rattle.tptp_lexer.specs.Tokens.{Token}
use Rattle.tptp_lexer.proofs.Same.{same_kind-self}

-- a token of the kind is found
pub behind-here : (k : Kind) (t : Token) (ts : List Token) → t.kind ≡ k → behind k (t ∷ ts) ≡ Some ts
behind-here k t ts is = ap (λ other. if same_kind other k then Some ts else None) is ∙ ap (λ b. if b then Some ts else None) (same_kind-self k)

-- a token of another kind is not found
pub behind-other : (k other : Kind) (t : Token) (ts : List Token) → t.kind ≡ other → same_kind other k ≡ false → behind k (t ∷ ts) ≡ None
behind-other k other t ts is apart = ap (λ other. if same_kind other k then Some ts else None) is ∙ ap (λ b. if b then Some ts else None) apart

-- further values of a list: those that were read are in front of those that are left

-- no further value where none begins
pub more-none : {X : Type 0} (read : List Token → Read X) (k : Kind) (most : ℕ) (ts : List Token) → behind k ts ≡ None →
    more_from read k most ts ≡ Some ([], ts)
unfolding more_from
more-none read k zero ts apart = refl
more-none read k (suc most) ts apart = ap (λ found. more_behind ts (read_behind read found) (more_from read k most)) apart

-- a further value, and others
pub more-next : {X : Type 0} (read : List Token → Read X) (k : Kind) (most : ℕ) (x : X) (xs : List X) (ts us vs rest : List Token) →
    behind k ts ≡ Some us → read us ≡ Some (x, vs) → more_from read k most vs ≡ Some (xs, rest) →
    more_from read k (suc most) ts ≡ Some (x ∷ xs, rest)
unfolding more_from
more-next read k most x xs ts us vs rest here one more =
    ap (λ found. more_behind ts (read_behind read found) (more_from read k most)) here ∙
    (ap (λ found. more_behind ts (Some found) (more_from read k most)) one ∙ ap (with_front (x ∷ [])) more)

-- two fronts, one behind the other
pub with_front-append : {X : Type 0} (xs ys : List X) (read : Read (List X)) → with_front (xs ++ ys) read ≡ with_front xs (with_front ys read)
with_front-append xs ys None = refl
with_front-append xs ys (Some read) = ap (λ zs. Some (zs, read.1)) (append_assoc xs ys read.0)

-- one more value was read
pub more-goes_on : {X : Type 0} (read : List Token → Read X) (k : Kind) (count i : ℕ) (ts after tail : List Token) (front new : List X) (x : X) (total : Read (List X))
    → i < count → new ≡ front ++ x ∷ [] → read after ≡ Some (x, tail) → Some after ≡ behind k ts
    → with_front front (more_from read k (count - i) ts) ≡ total → with_front new (more_from read k (count - (i + 1)) tail) ≡ total
unfolding more_from
more-goes_on read k count i ts after tail front new x total lt pushed r b so_far =
    let n : count - i ≡ suc (count - (i + 1)) = omega arith in
    let rest = more_from read k (count - (i + 1)) tail in
    let one : more_from read k (count - i) ts ≡ with_front (x ∷ []) rest = rw (n, ← b, r) refl in
    ap (λ xs. with_front xs rest) pushed ∙ with_front-append front (x ∷ []) rest ∙ sym (ap (with_front front) one) ∙ so_far

-- no further value is read
pub stops : {X : Type 0} (read : List Token → Read X) (k : Kind) (count i : ℕ) (ts after : List Token) (front : List X) (total : Read (List X))
    → i < count → Some after ≡ behind k ts → read after ≡ None
    → with_front front (more_from read k (count - i) ts) ≡ total → total ≡ None
unfolding more_from
stops read k count i ts after front total lt b r so_far =
    let n : count - i ≡ suc (count - (i + 1)) = omega arith in
    let one : more_from read k (count - i) ts ≡ None = rw (n, ← b, r) refl in
    sym so_far ∙ ap (with_front front) one

-- no further value is read, or memory ran out
pub gives_up : {X : Type 0} (fault : NotRead) (read : List Token → Read X) (k : Kind) (count i : ℕ) (ts after : List Token) (front : List X) (total : Read (List X))
    → i < count → Some after ≡ behind k ts → Gives {X = X × List Token} (λ r. r) (Err fault) (read after)
    → with_front front (more_from read k (count - i) ts) ≡ total → Gives {X = List X × List Token} (λ r. r) (Err fault) total
gives_up NoText read k count i ts after front total lt b r so_far = stops read k count i ts after front total lt b r so_far
gives_up Memory read k count i ts after front total lt b r so_far = tt

-- there is no further value
pub ends : {X : Type 0} (read : List Token → Read X) (k : Kind) (most : ℕ) (ts : List Token) (front : List X) (total : Read (List X))
    → None ≡ behind k ts → with_front front (more_from read k most ts) ≡ total → total ≡ Some (front, ts)
ends read k most ts front total b so_far = sym so_far ∙ ap (with_front front) (more-none read k most ts (sym b)) ∙ ap (λ xs. Some (xs, ts)) (append-nil front)

-- as many were read as may be
pub is_full : {X : Type 0} (read : List Token → Read X) (k : Kind) (most : ℕ) (ts : List Token) (front : List X) (total : Read (List X))
    → most ≡ 0 → with_front front (more_from read k most ts) ≡ total → total ≡ Some (front, ts)
unfolding more_from
is_full read k zero ts front total e so_far = sym so_far ∙ ap (λ xs. Some (xs, ts)) (append-nil front)
is_full read k (suc most) ts front total e so_far = absurd (omega arith)

-- the rules for a further value of a list
pub ruleset further = (more-goes_on, stops, gives_up, ends, is_full)

-- a list that was read behind one value is changed as a whole
pub reread_front : {X Y : Type 0} (joined : List X → Y) (x : X) (read : Read (List X)) → reread (λ xs. joined (x ∷ xs)) read ≡ reread joined (with_front (x ∷ []) read)
reread_front joined x None = refl
reread_front joined x (Some read) = refl
