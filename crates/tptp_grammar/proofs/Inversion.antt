-- What a mark tells of its token: the kind, and of some words the text.
use Rattle.std.specs.Prelude.{◌≡◌, ◌⊎◌, Bool, true, false, ◌||◌, cond, List, [], ◌∷◌, Option, Some, None, IfSome, codes, if◌then◌else◌, IsTrue, find}
use Rattle.std.proofs.Common.{refl, sym, ◌∙◌, inl, inr}
use Rattle.std.proofs.lemmas.Bool.{false≢true}
use Rattle.std.specs.Str.{bytes_eq}
use Rattle.std.proofs.lemmas.Slice.Eq.{bytes_eq-Decides}
use Rattle.text_core.proofs.Laws.{or_either}
use Rattle.text_core.specs.Names.{Text}
use Rattle.logic_core.specs.declared.problem.Role.{Role}
use Rattle.tptp_lexer.specs.declared.kind.Kind.{Kind}
use Rattle.tptp_lexer.specs.declared.kind.Kind.TheVariants as kind
use Rattle.tptp_lexer.specs.Tokens.{Token}
use Rattle.tptp_grammar.specs.declared.mark.Mark.{Mark}
use Rattle.tptp_grammar.specs.declared.mark.Mark.TheVariants.{Fof, Include, Role as RoleMark, Truth, Upper, Connective, Other}
use Rattle.tptp_grammar.specs.Parts.{is_kind, is_lower, is_word, is_name, is_upper, is_plain}
use Rattle.tptp_lexer.proofs.Laws.{same_kind-is}
use Rattle.tptp_grammar.specs.Roles.{role_text}
use Rattle.tptp_grammar.specs.RoleWords.{roles, role_of}
use Rattle.tptp_grammar.specs.Marks.{role_mark, marked, mark_in}
use Rattle.tptp_grammar.specs.Spells.{op_kind}
use Rattle.tptp_lexer.specs.Spelling.{IsWord, IsNaming}

-- the kind that a mark tells
abbrev pub told_kind : Mark → Kind
told_kind Fof = kind.Lower
told_kind Include = kind.Lower
told_kind (RoleMark role) = kind.Lower
told_kind (Truth value) = kind.Dollar
told_kind (Upper number) = kind.Upper
told_kind (Connective o) = op_kind o
told_kind (Other k) = k

-- the text is one that a mark tells
abbrev pub TellsText : Mark → Text → Type 0
TellsText Fof text = text ≡ codes "fof"
TellsText Include text = text ≡ codes "include"
TellsText (RoleMark role) text = text ≡ role_text role
TellsText (Truth true) text = text ≡ codes "$true"
TellsText (Truth false) text = text ≡ codes "$false"
TellsText _ text = Unit {0}

-- the mark tells this of the token
pub record Tells (m : Mark) (t : Token) : Type 0 where
  pub kind : told_kind m ≡ t.kind
  pub text : TellsText m t.text

-- a mark tells its token's kind
kind_is_told : (ts : List Token) (k : Kind) (text : Text) → told_kind (marked ts k text) ≡ k
kind_is_told ts kind.Lower text = lower (bytes_eq text (codes "fof")) (bytes_eq text (codes "include")) (role_of text)
  where
    lower : (fof include : Bool) (role : Option Role) →
        told_kind (if fof then Fof else (if include then Include else role_mark role)) ≡ kind.Lower
    lower true include role = refl
    lower false true role = refl
    lower false false (Some role) = refl
    lower false false None = refl
kind_is_told ts kind.Dollar text = dollar (bytes_eq text (codes "$true")) (bytes_eq text (codes "$false"))
  where
    dollar : (truth falsehood : Bool) →
        told_kind (if truth then Truth true else (if falsehood then Truth false else Other kind.Dollar)) ≡ kind.Dollar
    dollar true falsehood = refl
    dollar false true = refl
    dollar false false = refl
kind_is_told ts _ text = refl

-- the role that is found has this text
role_found : (text : Text) (all : List Role) → IfSome (find (λ role. bytes_eq text (role_text role)) all) (λ role. text ≡ role_text role)
role_found text [] = tt
role_found text (role ∷ all) =
    first (bytes_eq text (role_text role)) (bytes_eq-Decides text (role_text role)).0
    (find (λ role. bytes_eq text (role_text role)) all) (role_found text all)
  where
    first : (b : Bool) → (IsTrue b → text ≡ role_text role) → (later : Option Role) → IfSome later (λ role. text ≡ role_text role) →
        IfSome (cond b (Some role) later) (λ role. text ≡ role_text role)
    first true e later h = e refl
    first false e later h = h

-- the word of the role that is found
role_is_told : (text : Text) → IfSome (role_of text) (λ role. text ≡ role_text role)
unfolding role_of
role_is_told text = role_found text roles

-- a mark tells its token's text, if one
text_is_told : (ts : List Token) (k : Kind) (text : Text) → TellsText (marked ts k text) text
text_is_told ts kind.Lower text =
    lower (bytes_eq text (codes "fof")) (bytes_eq text (codes "include")) (role_of text)
    (bytes_eq-Decides text (codes "fof")).0 (bytes_eq-Decides text (codes "include")).0 (role_is_told text)
  where
    lower : (fof include : Bool) (role : Option Role) → (IsTrue fof → text ≡ codes "fof") → (IsTrue include → text ≡ codes "include") →
        IfSome role (λ role. text ≡ role_text role) →
        TellsText (if fof then Fof else (if include then Include else role_mark role)) text
    lower true include role f i r = f refl
    lower false true role f i r = i refl
    lower false false (Some role) f i r = r
    lower false false None f i r = tt
text_is_told ts kind.Dollar text =
    dollar (bytes_eq text (codes "$true")) (bytes_eq text (codes "$false")) (bytes_eq-Decides text (codes "$true")).0
    (bytes_eq-Decides text (codes "$false")).0
  where
    dollar : (truth falsehood : Bool) → (IsTrue truth → text ≡ codes "$true") → (IsTrue falsehood → text ≡ codes "$false") →
        TellsText (if truth then Truth true else (if falsehood then Truth false else Other kind.Dollar)) text
    dollar true falsehood t f = t refl
    dollar false true t f = f refl
    dollar false false t f = tt
text_is_told ts _ text = tt

-- what a token's mark tells of it
pub mark_tells : (ts : List Token) (t : Token) → Tells (mark_in ts t) t
mark_tells ts t = record { kind = kind_is_told ts t.kind t.text; text = text_is_told ts t.kind t.text }

-- a mark of a kind tells it
kind_told : (k : Kind) (m : Mark) → IsTrue (is_kind k m) → told_kind m ≡ k
kind_told k (Other other) h = sym (same_kind-is k other h)
kind_told k _ h = absurd (false≢true h)

-- a lower word's mark tells its kind
lower_told : (m : Mark) → IsTrue (is_lower m) → told_kind m ≡ kind.Lower
lower_told Fof h = refl
lower_told Include h = refl
lower_told (RoleMark role) h = refl
lower_told (Other kind.Lower) h = refl
lower_told _ h = absurd (false≢true h)

-- an upper word's mark tells its kind
upper_told : (m : Mark) → IsTrue (is_upper m) → told_kind m ≡ kind.Upper
upper_told (Upper number) h = refl
upper_told _ h = absurd (false≢true h)

-- what a test that the mark passes says of the token
module _ (m : Mark) (t : Token) (tells : Tells m t) where
  -- the token is of the kind
  pub kind_is : (k : Kind) → IsTrue (is_kind k m) → t.kind ≡ k
  kind_is k h = sym tells.kind ∙ kind_told k m h

  -- the token is an upper word
  pub upper_is : IsTrue (is_upper m) → t.kind ≡ kind.Upper
  upper_is h = sym tells.kind ∙ upper_told m h

  -- the token is a word
  pub word_is : IsTrue (is_word m) → IsWord t
  word_is h = elim (or_either (is_lower m) (is_kind kind.Quoted m) h) [
    | inl lower ↦ inl (sym tells.kind ∙ lower_told m lower)
    | inr quoted ↦ inr (kind_is kind.Quoted quoted)
  ]

  -- the token is a name
  pub name_is : IsTrue (is_name m) → IsNaming t
  name_is h = elim (or_either (is_word m) (is_kind kind.Integer m) h) [
    | inl word ↦ inl (word_is word)
    | inr integer ↦ inr (kind_is kind.Integer integer)
  ]

  -- the token is plain data
  pub plain_is : IsTrue (is_plain m) → (t.kind ≡ kind.Upper) ⊎ ((t.kind ≡ kind.Integer) ⊎ (t.kind ≡ kind.Distinct))
  plain_is h = elim (or_either (is_upper m || is_kind kind.Integer m) (is_kind kind.Distinct m) h) [
    | inl other ↦ elim (or_either (is_upper m) (is_kind kind.Integer m) other) [
      | inl upper ↦ inl (upper_is upper)
      | inr integer ↦ inr (inl (kind_is kind.Integer integer))
    ]
    | inr distinct ↦ inr (inr (kind_is kind.Distinct distinct))
  ]
