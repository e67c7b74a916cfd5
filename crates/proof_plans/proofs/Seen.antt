-- What stands, is known or is closed among applications stays so where more of them follow, and in
-- the branches below.
use Rattle.std.proofs.Common.{◌≡◌, ℕ, zero, suc, ◌+◌, ◌<◌, ◌≤◌, ◌⊎◌, inl, inr, ⊎_elim, List, [], ◌∷◌, ◌++◌, length, slice_get, Some, refl, sym, subst, append_assoc, append-nil, arith, length-append}
use Rattle.std.specs.List.{AllByRecursion}
use Rattle.text_core.specs.Lists.{IsAmong}
use Rattle.logic_core.specs.declared.form.Atom.{Atom}
use Rattle.vernacular_tree.specs.Contexts.{Task, parameters, atom_at}
use Rattle.vernacular_tree.specs.declared.context.Context.{Context}
use Rattle.vernacular_tree.specs.declared.tree.End.{End, As, Efq, Cs', Row_of-Body, end_of-Body, more_of-Body}
use Rattle.proof_plans.specs.Runs.{Case, Above, Fire, IsSeen, Has, IsFresh, IsKnown, IsRight, MaySplit, IsAnswered, IsClosed, AreClosed}
use Rattle.text_core.proofs.Laws.{each_map, each_member, get_front, some_back}

-- each branch leads to itself
pub above_same : (branch : List Case) → Above branch branch
above_same branch = ([], refl)

-- a branch leads on from one that leads to it
pub above_on : (a b c : List Case) → Above a b → Above b c → Above a c
above_on a b c h k = (k.0 ++ h.0, let split = append_assoc k.0 h.0 a in let first = h.1 in let second = k.1 in rw (second, first) (sym split))

-- a case leads out of its branch
pub above_case : (case : Case) (branch : List Case) → Above branch (case ∷ branch)
above_case case branch = (case ∷ [], refl)

-- an application that is seen is seen where more follow, and in a branch below
abbrev pub seen_grows : (fires more : List Fire) (index : ℕ) (branch below : List Case) → Above branch below → IsSeen fires index branch → IsSeen (fires ++ more) index below
seen_grows fires more index branch below down h = record {
  fire = h.fire;
  is = get_front fires more index h.fire h.is;
  above = above_on h.fire.branch branch below h.above down;
}

-- a fact that stands still stands
pub has_grows : (fires more : List Fire) (fact : Atom) (limit later : ℕ) (branch below : List Case) → limit ≤ later → Above branch below
    → Has fires fact limit branch → Has (fires ++ more) fact later below
has_grows fires more fact limit later branch below le down (inl given) =
    let long = down.1 in inl (rw long (some_back (λ case. IsAmong fact case.facts) down.0 branch given))
has_grows fires more fact limit later branch below le down (inr made) = inr (record {
  index = made.index;
  before = omega (arith, made.before);
  seen = seen_grows fires more made.index branch below down made.seen;
  facts = made.facts;
  one = made.one;
  among = made.among;
})

-- a fact that stands does so before a later number and in a branch below
pub has_down : (fires : List Fire) (fact : Atom) (limit later : ℕ) (branch below : List Case) → limit ≤ later → Above branch below → Has fires fact limit branch → Has fires fact later below
has_down fires fact limit later branch below le down h =
    subst (λ (fs : List Fire). Has fs fact later below) (append-nil fires) (has_grows fires [] fact limit later branch below le down h)

-- what has a number in two lists is one of the first with that number, or one of the second
get_either : {X : Type 0} (xs ys : List X) (i : ℕ) (x : X) → slice_get (xs ++ ys) i ≡ Some x → ((i < length xs) × (slice_get xs i ≡ Some x)) ⊎ IsAmong x ys
get_either [] ys i x is = inr (among ys i is)
  where
    among : (ys : List _) (i : ℕ) → slice_get ys i ≡ Some x → IsAmong x ys
    among [] i is = absurd (cc)
    among (y ∷ ys) zero is = inl (let same : y ≡ x = cc in same)
    among (y ∷ ys) (suc i) is = inr (among ys i is)
get_either (z ∷ xs) ys zero x is = inl (omega arith, is)
get_either (z ∷ xs) ys (suc i) x is = ⊎_elim (λ here. inl (let low : i < length xs = here.0 in omega arith, here.1)) (λ later. inr later) (get_either xs ys i x is)

-- what has a low number in two lists is one of the first
get_low : {X : Type 0} (xs ys : List X) (i : ℕ) (x : X) → i < length xs → slice_get (xs ++ ys) i ≡ Some x → slice_get xs i ≡ Some x
get_low [] ys i x low is = absurd (omega arith)
get_low (z ∷ xs) ys zero x low is = is
get_low (z ∷ xs) ys (suc i) x low is = get_low xs ys i x (omega arith) is

-- a fact that stands before a low number did so before more applications followed
pub has_front : (fires more : List Fire) (fact : Atom) (limit : ℕ) (branch : List Case) → limit ≤ length fires → Has (fires ++ more) fact limit branch → Has fires fact limit branch
has_front fires more fact limit branch low (inl given) = inl given
has_front fires more fact limit branch low (inr made) =
    let before : made.index < limit = made.before in inr (record {
      index = made.index;
      before = made.before;
      seen = record { fire = made.seen.fire; is = get_low fires more made.index made.seen.fire (omega arith) made.seen.is; above = made.seen.above };
      facts = made.facts;
      one = made.one;
      among = made.among;
    })

-- no application stands in a branch or in one that leads to it
abbrev pub NoneAbove : List Case → List Fire → Type 0
NoneAbove branch more = AllByRecursion (λ fire. Above fire.branch branch → ⊥) more

-- no application stands in a branch, in one that leads to it, or in one to which a branch leads that it leads to
abbrev pub AreAside : List Case → List Fire → Type 0
AreAside branch more = AllByRecursion (λ fire. (longer : List Case) → Above fire.branch (longer ++ branch) → ⊥) more

-- a fact that stands did so before more applications followed that are not seen
pub has_back : (fires more : List Fire) (fact : Atom) (limit : ℕ) (branch : List Case) → NoneAbove branch more → Has (fires ++ more) fact limit branch → Has fires fact (length fires) branch
has_back fires more fact limit branch none (inl given) = inl given
has_back fires more fact limit branch none (inr made) = ⊎_elim
    (λ here. inr (record {
      index = made.index;
      before = here.0;
      seen = record { fire = made.seen.fire; is = here.1; above = made.seen.above };
      facts = made.facts;
      one = made.one;
      among = made.among;
    }))
    (λ later. absurd (each_member (λ fire. Above fire.branch branch → ⊥) more none made.seen.fire later made.seen.above))
    (get_either fires more made.index made.seen.fire made.seen.is)

-- facts that are new are new where more applications follow that are not seen
pub fresh_grows : (fires more : List Fire) (facts : List Atom) (branch : List Case) → NoneAbove branch more → IsFresh fires facts branch → IsFresh (fires ++ more) facts branch
fresh_grows fires more facts branch none fresh stand =
    fresh (each_map (λ fact has. has_back fires more fact (length (fires ++ more)) branch none has) facts stand)

-- an element that is known is still known
pub known_grows : (start : ℕ) (fires more : List Fire) (limit later element : ℕ) (branch below : List Case) → limit ≤ later → Above branch below
    → IsKnown start fires limit element branch → IsKnown start (fires ++ more) later element below
known_grows start fires more limit later element branch below le down (inl low) = inl low
known_grows start fires more limit later element branch below le down (inr new) = inr (record {
  index = new.index;
  before = omega (arith, new.before);
  seen = seen_grows fires more new.index branch below down new.seen;
  from = new.from;
  below = new.below;
})

module _ (task : Task) (from : Context) where
  -- lists into which a branch may be split are such lists in a branch below
  pub split_grows : (fires more : List Fire) (lists : List (List Atom)) (branch below : List Case) → Above branch below
      → MaySplit task from fires lists branch → MaySplit task from (fires ++ more) lists below
  split_grows fires more lists branch below down (inl given) = inl given
  split_grows fires more lists branch below down (inr made) = inr (made.0, seen_grows fires more made.0 branch below down made.1, made.2, made.3)

  -- an application that is right is still right
  pub right_grows : (fires more : List Fire) (index : ℕ) (fire : Fire) → IsRight task from fires index fire → IsRight task from (fires ++ more) index fire
  right_grows fires more index fire h = record {
    form_is = h.form_is;
    length_is = h.length_is;
    known = each_map (λ e k. known_grows from.elements fires more index index e fire.branch fire.branch (omega arith) (above_same fire.branch) k) fire.args h.known;
    premises = each_map (λ atom k. has_grows fires more (atom_at fire.args atom) index index fire.branch fire.branch (omega arith) (above_same fire.branch) k) fire.form.premises h.premises;
    new = h.new;
  }

  -- a disjunct that stands still stands
  answered_grows : (fires more : List Fire) (disjunct : ℕ) (branch : List Case) → IsAnswered task from fires disjunct branch → IsAnswered task from (fires ++ more) disjunct branch
  answered_grows fires more disjunct branch h =
      let long = length-append fires more in record {
        atoms = h.atoms;
        values = h.values;
        disjunct_is = h.disjunct_is;
        length_is = h.length_is;
        known = each_map (λ e k. known_grows from.elements fires more (length fires) (length (fires ++ more)) e branch branch (omega arith) (above_same branch) k) h.values h.known;
        stand = each_map (λ atom k. has_grows fires more (atom_at (parameters task ++ h.values) atom) (length fires) (length (fires ++ more)) branch branch (omega arith) (above_same branch) k) h.atoms h.stand;
      }

  mutual
    -- a branch that is closed is still closed, where the applications that follow stand aside
    pub closed_grows : (fires more : List Fire) (end : End) (branch : List Case) → AreAside branch more → IsClosed task from fires end branch → IsClosed task from (fires ++ more) end branch
    closed_grows fires more (As disjunct args) branch aside h = answered_grows fires more disjunct branch h
    closed_grows fires more Efq branch aside h = split_grows fires more [] branch branch (above_same branch) h
    closed_grows fires more (Cs' line s row) branch aside h = (h.0, split_grows fires more h.0 branch branch (above_same branch) h.1, rows_grow fires more row 0 h.0 branch aside h.2)

    pub rows_grow : {n : _} (fires more : List Fire) (row : Row_of-Body n) (number : ℕ) (lists : List (List Atom)) (branch : List Case) → AreAside branch more
        → AreClosed task from fires row number lists branch → AreClosed task from (fires ++ more) row number lists branch
    rows_grow fires more end_of-Body number lists branch aside h = h
    rows_grow fires more (more_of-Body steps end rest) number lists branch aside h =
        let case : Case = record { number = number; facts = h.0 } in (
          h.0,
          h.1,
          h.2,
          fresh_grows fires more h.0 branch (each_map (λ fire apart. apart []) more aside) h.3,
          closed_grows fires more end (case ∷ branch)
              (each_map (λ fire apart longer above. apart (longer ++ case ∷ []) (subst (Above fire.branch) (sym (append_assoc longer (case ∷ []) branch)) above)) more aside) h.4,
          rows_grow fires more rest (number + 1) h.1 branch aside h.5,
        )
