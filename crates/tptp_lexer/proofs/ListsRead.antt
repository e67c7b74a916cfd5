-- Names and lists with commas: what is spelled is read, and what is between brackets is taken apart.
use Rattle.std.specs.Prelude.{◌≡◌, ◌≤◌, ℕ, zero, suc, true, false, if◌then◌else◌, List, [], ◌∷◌, ◌++◌, length, Some, None, refl}
use Rattle.std.specs.Option.{option_and_then}
use Rattle.std.proofs.Common.{ap, sym, ◌∙◌, inl, inr, append_assoc, arith}
use Rattle.std.proofs.lemmas.List.{length-append}
use Rattle.tptp_lexer.specs.declared.kind.Kind.{Kind}
use Rattle.tptp_lexer.specs.declared.kind.Kind.TheVariants as kind
use Rattle.tptp_lexer.specs.declared.reader.Naming.{Naming}
use Rattle.tptp_lexer.specs.declared.reader.Naming.TheVariants as naming
use Rattle.tptp_lexer.specs.Reading.{Read, behind, with_front, more_from, listed_from, closed_by, may_name, name_from, names_from}
use Rattle.tptp_lexer.specs.Same.{same_kind}
use Rattle.tptp_lexer.specs.Spelling.{IsNaming, SpellsName, SpellsVariable, SpellsMore, SpellsListed, SpellsBetween}
use Rattle.tptp_lexer.specs.Spelling.SpellsMore.{none, more}
use Rattle.tptp_lexer.specs.Tokens.{Token, name_of}
use Rattle.tptp_lexer.proofs.Further.{behind-here, behind-other, more-none, more-next}

-- a reader that reads what is spelled, whatever is behind it
abbrev pub ReadsSpelled : {X : Type 0} → (X → List Token → Type 0) → (List Token → Read X) → Type 0
ReadsSpelled {X = X} spells read = (x : X) (us rest : List Token) → spells x us → read (us ++ rest) ≡ Some (x, rest)

-- a name is read where its token may be one
name_from-here : (wanted : Naming) (t : Token) (rest : List Token) → may_name wanted t.kind ≡ true → name_from wanted (t ∷ rest) ≡ Some (name_of t, rest)
unfolding name_from
name_from-here wanted t rest may = ap (λ b. if b then Some (name_of t, rest) else None) may

-- a name that is spelled is read
name_read : (wanted : Naming) (P : Token → Type 0) → ((t : Token) → P t → may_name wanted t.kind ≡ true) →
    ReadsSpelled (SpellsName P) (name_from wanted)
name_read wanted P may x us rest s = let (t, is, name, split) = s in rw (split, name) (name_from-here wanted t rest (may t is))

-- a list behind a token is length_behind
pub length_behind : {A : Type 0} (us vs : List A) (n : ℕ) → n ≤ length vs → suc n ≤ suc (length (us ++ vs))
length_behind us vs n few = let e = length-append us vs in omega arith

module _ {X : Type 0} (spells : X → List Token → Type 0) where
  -- each further value takes a token
  more_few : {xs : List X} {us : List Token} → SpellsMore spells xs us → length xs ≤ length us
  more_few none = omega arith
  more_few (more {xs = xs} comma us vs is s later split) = rw split (length_behind us vs (length xs) (more_few later))

module _ {X : Type 0} (spells : X → List Token → Type 0) (read : List Token → Read X) (reads : ReadsSpelled spells read) where
  -- further values that are spelled are read
  more_read : {xs : List X} {us : List Token} → SpellsMore spells xs us → (most : ℕ) (rest : List Token) → length xs ≤ most →
      behind kind.Comma rest ≡ None → more_from read kind.Comma most (us ++ rest) ≡ Some (xs, rest)
  more_read none most rest few end = more-none read kind.Comma most rest end
  more_read (more comma us vs is s later split) zero rest few end = absurd (omega arith)
  more_read (more {x = x} {xs = xs} comma us vs is s later split) (suc most) rest few end =
      let fewer : length xs ≤ most = omega arith in
      rw (split, append_assoc us vs rest)
      (more-next read kind.Comma most x xs (comma ∷ (us ++ (vs ++ rest))) (us ++ (vs ++ rest)) (vs ++ rest) rest
      (behind-here kind.Comma comma (us ++ (vs ++ rest)) is) (reads x us (vs ++ rest) s) (more_read later most rest fewer end))

  -- values up to the closing bracket, by how the first and the further ones are read
  listed_step : (close : Kind) (x : X) (xs : List X) (last : Token) (ts behind_first rest : List Token) → last.kind ≡ close →
      read ts ≡ Some (x, behind_first) →
      more_from read kind.Comma (length behind_first) behind_first ≡ Some (xs, last ∷ rest) → listed_from read close ts ≡ Some (x ∷ xs, rest)
  listed_step close x xs last ts behind_first rest is one others =
      ap (option_and_then (λ (first : X × List Token). option_and_then (closed_by close)
      (with_front (first.0 ∷ []) (more_from read kind.Comma (length first.1) first.1)))) one ∙
      (ap (λ found. option_and_then (closed_by close) (with_front (x ∷ []) found)) others ∙
      ap (option_and_then (λ ts. Some (x ∷ xs, ts))) (behind-here close last rest is))

  -- a list is read up to the closing bracket
  pub listed_read : (close : Kind) → same_kind close kind.Comma ≡ false → (xs : List X) (us : List Token) → SpellsListed spells xs us →
      (last : Token) → last.kind ≡ close → (rest : List Token) → listed_from read close (us ++ (last ∷ rest)) ≡ Some (xs, rest)
  listed_read close apart [] all s last is rest = absurd s
  listed_read close apart (x ∷ xs) all s last is rest = let (us, vs, first, later, split) = s in
      let few = more_few spells later in
      let e = length-append vs (last ∷ rest) in
      let enough : length xs ≤ length (vs ++ (last ∷ rest)) = omega arith in
      rw (split, append_assoc us vs (last ∷ rest))
      (listed_step close x xs last (us ++ (vs ++ (last ∷ rest))) (vs ++ (last ∷ rest)) rest is (reads x us (vs ++ (last ∷ rest)) first)
      (more_read later (length (vs ++ (last ∷ rest))) (last ∷ rest) enough (behind-other kind.Comma close last rest is apart)))

  -- a list between brackets
  pub between_read : (open_kind close : Kind) → same_kind close kind.Comma ≡ false → (xs : List X) (us rest : List Token) →
      SpellsBetween open_kind close spells xs us → option_and_then (listed_from read close) (behind open_kind (us ++ rest)) ≡ Some (xs, rest)
  between_read open_kind close apart xs us rest s =
      rw (s.split, append_assoc s.inner (s.last ∷ []) rest)
      (ap (option_and_then (listed_from read close)) (behind-here open_kind s.first (s.inner ++ (s.last ∷ rest)) s.opens) ∙
      listed_read close apart xs s.inner s.listed s.last s.closes rest)

-- an upper word may be a variable's name
variables_may : (t : Token) → t.kind ≡ kind.Upper → may_name naming.OfVariable t.kind ≡ true
variables_may t is = ap (may_name naming.OfVariable) is

-- a word or an integer may be a formula's name
naming_may : (t : Token) → IsNaming t → may_name naming.OfFormula t.kind ≡ true
naming_may t (inl (inl is)) = ap (may_name naming.OfFormula) is
naming_may t (inl (inr is)) = ap (may_name naming.OfFormula) is
naming_may t (inr is) = ap (may_name naming.OfFormula) is

-- a quoted word may be a file's name
file_may : (t : Token) → t.kind ≡ kind.Quoted → may_name naming.OfFile t.kind ≡ true
file_may t is = ap (may_name naming.OfFile) is

-- a variable that is spelled is read
variable_read : ReadsSpelled SpellsVariable (name_from naming.OfVariable)
variable_read = name_read naming.OfVariable (λ t. t.kind ≡ kind.Upper) variables_may

-- a formula's name that is spelled is read
naming_read : ReadsSpelled (SpellsName IsNaming) (name_from naming.OfFormula)
naming_read = name_read naming.OfFormula IsNaming naming_may

-- the name of a formula
pub name_from-naming : (t : Token) (rest : List Token) → IsNaming t → name_from naming.OfFormula (t ∷ rest) ≡ Some (name_of t, rest)
name_from-naming t rest is = name_from-here naming.OfFormula t rest (naming_may t is)

-- the name of a file
pub name_from-file : (t : Token) (rest : List Token) → t.kind ≡ kind.Quoted → name_from naming.OfFile (t ∷ rest) ≡ Some (name_of t, rest)
name_from-file t rest is = name_from-here naming.OfFile t rest (file_may t is)

-- variables in square brackets are read
pub variables_read : ReadsSpelled (SpellsBetween kind.OpenBracket kind.CloseBracket SpellsVariable) (names_from naming.OfVariable)
variables_read xs us rest s = between_read SpellsVariable (name_from naming.OfVariable) variable_read kind.OpenBracket kind.CloseBracket refl xs us rest s

-- the names of formulas in square brackets are read
pub selection_read : ReadsSpelled (SpellsBetween kind.OpenBracket kind.CloseBracket (SpellsName IsNaming)) (names_from naming.OfFormula)
selection_read names us rest s = between_read (SpellsName IsNaming) (name_from naming.OfFormula) naming_read kind.OpenBracket kind.CloseBracket refl names us rest s

-- values between brackets, from the first one and the further ones
pub between_of : {X : Type 0} (before after : Kind) (spells : X → List Token → Type 0) (x : X) (xs : List X) (first last : Token)
    (us vs : List Token) → first.kind ≡ before → spells x us → SpellsMore spells xs vs → last.kind ≡ after →
    SpellsBetween before after spells (x ∷ xs) (first ∷ (us ++ (vs ++ (last ∷ []))))
between_of before after spells x xs first last us vs o s rest c = record {
  first = first;
  inner = us ++ vs;
  last = last;
  opens = o;
  listed = (us, vs, s, rest, refl);
  closes = c;
  split = ap (λ y. first ∷ y) (sym (append_assoc us vs (last ∷ [])));
}

-- a list between brackets, token by token
pub record OpenedList {X : Type 0} {before after : Kind} {spells : X → List Token → Type 0} {x : X} {xs : List X} {us : List Token}
    (between : SpellsBetween before after spells (x ∷ xs) us) : Type 0 where
  pub front : List Token
  pub back : List Token
  pub value : spells x front
  pub further : SpellsMore spells xs back
  pub split : us ≡ between.first ∷ (front ++ (back ++ (between.last ∷ [])))

-- what is between brackets opens as its first value and the further ones
pub between_opens : {X : Type 0} {before after : Kind} {spells : X → List Token → Type 0} {x : X} {xs : List X} {us : List Token}
    (between : SpellsBetween before after spells (x ∷ xs) us) → OpenedList between
between_opens between =
    let (front, back, first, later, inner) = between.listed in record {
      front = front;
      back = back;
      value = first;
      further = later;
      split = between.split ∙ ap (λ ts. between.first ∷ ts)
          (ap (λ ts. ts ++ (between.last ∷ [])) inner ∙ append_assoc front back (between.last ∷ []));
    }

-- what is between brackets, token by token, with further tokens behind it
pub between_behind : {X : Type 0} {before after : Kind} {spells : X → List Token → Type 0} {x : X} {xs : List X} {us : List Token}
    (between : SpellsBetween before after spells (x ∷ xs) us) (opened : OpenedList between) (ts : List Token) →
    between.first ∷ (opened.front ++ (opened.back ++ (between.last ∷ ts))) ≡ us ++ ts
between_behind between opened ts =
    ap (λ vs. between.first ∷ vs)
    (ap (λ vs. opened.front ++ vs) (sym (append_assoc opened.back (between.last ∷ []) ts)) ∙
    sym (append_assoc opened.front (opened.back ++ (between.last ∷ [])) ts)) ∙
    ap (λ vs. vs ++ ts) (sym opened.split)
