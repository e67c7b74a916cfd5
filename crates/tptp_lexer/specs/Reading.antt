-- How names and lists are read from tokens, from left to right: a value with the tokens that are
-- left, or nothing.
use Rattle.std.specs.Prelude.{◌≡◌, ℕ, zero, suc, Bool, true, false, List, [], ◌∷◌, ◌++◌, length, Option, Some, None, Result, Ok, Err, if◌then◌else◌}
use Rattle.std.specs.Option.{option_and_then}
use Rattle.text_core.specs.Names.{Text}
use Rattle.tptp_lexer.specs.declared.kind.Kind.{Kind}
use Rattle.tptp_lexer.specs.declared.kind.Kind.TheVariants as kind
use Rattle.tptp_lexer.specs.declared.reader.Naming.{Naming}
use Rattle.tptp_lexer.specs.declared.reader.Naming.TheVariants as naming
use Rattle.tptp_lexer.specs.declared.reader.NotRead.{NotRead}
use Rattle.tptp_lexer.specs.declared.reader.NotRead.TheVariants.{NoText, Memory}
use Rattle.tptp_lexer.specs.Same.{same_kind}
use Rattle.tptp_lexer.specs.Tokens.{Token, name_of}

-- what is read, a value with what is left, or nothing
abbrev pub Read : Type 0 → Type 0
Read X = Option (X × List Token)

-- the answer is what was read; want of memory may come anywhere
abbrev pub Gives : {X Y : Type 0} → (X → Y) → Result X NotRead → Option Y → Type 0
Gives view (Ok x) read = read ≡ Some (view x)
Gives view (Err NoText) read = read ≡ None
Gives view (Err Memory) read = Unit {0}

-- what is left behind a token of this kind
abbrev pub behind : Kind → List Token → Option (List Token)
behind k [] = None
behind k (t ∷ ts) = if same_kind t.kind k then Some ts else None

-- a value that was read, changed, with what is left
abbrev pub reread : {X Y : Type 0} → (X → Y) → Read X → Read Y
reread change None = None
reread change (Some read) = Some (change read.0, read.1)

-- a list that was read behind its front
abbrev pub with_front : {X : Type 0} → List X → Read (List X) → Read (List X)
with_front front None = None
with_front front (Some read) = Some (front ++ read.0, read.1)

-- further values, each behind a token of this kind, and at most so many
abbrev pub more_behind : {X : Type 0} → List Token → Option (Read X) →
    (List Token → Read (List X)) → Read (List X)
more_behind ts None further = Some ([], ts)
more_behind ts (Some None) further = None
more_behind ts (Some (Some read)) further = with_front (read.0 ∷ []) (further read.1)

abbrev pub read_behind : {X : Type 0} → (List Token → Read X) → Option (List Token) →
    Option (Read X)
read_behind read None = None
read_behind read (Some ts) = Some (read ts)

unfoldable pub more_from : {X : Type 0} → (List Token → Read X) → Kind → ℕ → List Token →
    Read (List X)
more_from read k zero ts = Some ([], ts)
more_from read k (suc most) ts =
    more_behind ts (read_behind read (behind k ts)) (more_from read k most)

-- a value, further ones behind commas, and the closing bracket
abbrev pub closed_by : {X : Type 0} → Kind → List X × List Token → Read (List X)
closed_by k read = option_and_then (λ ts. Some (read.0, ts)) (behind k read.1)

abbrev pub listed_from : {X : Type 0} → (List Token → Read X) → Kind → List Token → Read (List X)
listed_from {X = X} read k ts = option_and_then (λ (first : X × List Token).
    option_and_then (closed_by k)
    (with_front (first.0 ∷ []) (more_from read kind.Comma (length first.1) first.1))) (read ts)

-- whether a token of the kind names a variable, or a formula
abbrev pub may_name : Naming → Kind → Bool
may_name naming.OfVariable kind.Upper = true
may_name naming.OfFormula kind.Lower = true
may_name naming.OfFormula kind.Quoted = true
may_name naming.OfFormula kind.Integer = true
may_name naming.OfFile kind.Quoted = true
may_name _ _ = false

-- a name
unfoldable pub name_from : Naming → List Token → Read Text
name_from wanted [] = None
name_from wanted (t ∷ ts) = if may_name wanted t.kind then Some (name_of t, ts) else None

-- names in brackets
abbrev pub names_from : Naming → List Token → Read (List Text)
names_from wanted ts =
    option_and_then (listed_from (name_from wanted) kind.CloseBracket) (behind kind.OpenBracket ts)
