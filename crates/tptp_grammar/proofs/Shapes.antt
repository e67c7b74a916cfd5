-- What the tokens of each part of the grammar are: they spell a value, or they complete the tokens before them to what spells one.
use Rattle.std.specs.Prelude.{◌≡◌, ℕ, ◌+◌, ◌<◌, ◌≤◌, nat_le, Bool, true, false, ◌&&◌, ◌⊎◌, List, [], ◌∷◌, ◌++◌, Option, codes, IsTrue}
use Rattle.std.proofs.Common.{refl, sym, inl, inr, arith}
use Rattle.std.proofs.lemmas.Bool.{false≢true}
use Rattle.std.proofs.lemmas.Bool.Decides.{nat_tests}
use Rattle.text_core.specs.Names.{Text}
use Rattle.logic_core.specs.declared.formula.Term.{Term}
use Rattle.logic_core.specs.declared.formula.Op.{Op}
use Rattle.logic_core.specs.declared.formula.Formula.{Formula}
use Rattle.logic_core.specs.declared.problem.Role.{Role}
use Rattle.logic_core.specs.declared.problem.Item.{Item}
use Rattle.tptp_lexer.specs.declared.kind.Kind.{Kind}
use Rattle.tptp_lexer.specs.declared.kind.Kind.TheVariants as kind
use Rattle.tptp_lexer.specs.Tokens.{Token}
use Rattle.text_core.specs.declared.limits.TheConstants.{MOST_LEVELS}
use Rattle.tptp_grammar.specs.declared.mark.Mark.{Mark}
use Rattle.tptp_grammar.specs.declared.mark.Mark.TheVariants as mark
use Rattle.tptp_grammar.specs.declared.item_part.ItemPart.{ItemPart}
use Rattle.tptp_grammar.specs.declared.item_part.ItemPart.TheVariants as parts
use Rattle.tptp_grammar.specs.Parts.{is_kind}
use Rattle.tptp_grammar.specs.Roles.{role_text}
use Rattle.tptp_grammar.specs.Spells.{op_kind, SpellsTerm, SpellsVariables, SpellsFormula, SpellsRest, SpellsUnitary, IsGeneral, IsGeneralList, AreGenerals, IsData, IsAnnotation, SpellsSelection, SpellsItem, SpellsItems}
use Rattle.tptp_lexer.specs.Spelling.{IsWord, IsNaming, SpellsName, SpellsVariable, SpellsMore}
use Rattle.token_grammar.proofs.Laws.{Shape, Fits, one, many}
use Rattle.tptp_grammar.proofs.Inversion.{Tells, kind_is, upper_is, word_is, name_is, plain_is}
use Rattle.tptp_grammar.proofs.Keeping.{keeps}

-- a lower word with this text
abbrev pub IsLowerWord : Text → Token → Type 0
IsLowerWord text t = (t.kind ≡ kind.Lower) × (t.text ≡ text)

-- what follows an item's first word
abbrev pub EndsItem : Text → List Token → Type 0
EndsItem text ts = (word : Token) → IsLowerWord text word → (item : Item) × SpellsItem item (word ∷ ts)

-- the end of an item: tokens of which P holds, `)` and `.`
pub record Closes (P : List Token → Type 0) (ts : List Token) : Type 0 where
  pub front : List Token
  pub last : Token
  pub dot : Token
  pub is_front : P front
  pub closes : last.kind ≡ kind.CloseParenthesis
  pub is_dot : dot.kind ≡ kind.Dot
  pub split : ts ≡ front ++ (last ∷ dot ∷ [])

-- what follows the first term of an annotation
abbrev pub EndsAnnotation : List Token → Type 0
EndsAnnotation ts = (comma : Token) (us : List Token) → comma.kind ≡ kind.Comma → IsGeneral 0 us → Closes IsAnnotation (comma ∷ (us ++ ts))

-- what follows a formula's first unit
abbrev pub EndsFormula : ℕ → List Token → Type 0
EndsFormula level ts = (g : Formula) (us : List Token) → SpellsUnitary level g us → (f : Formula) × SpellsFormula level f (us ++ ts)

-- what follows a quantifier's mark: variables and a body
pub record Quantifies (level : ℕ) (ts : List Token) : Type 0 where
  pub variables : List Text
  pub body : Formula
  pub us : List Token
  pub colon : Token
  pub vs : List Token
  pub are_variables : SpellsVariables variables us
  pub is_colon : colon.kind ≡ kind.Colon
  pub is_body : SpellsUnitary level body vs
  pub split : ts ≡ us ++ (colon ∷ vs)

-- what follows a unit's first word
abbrev pub EndsAtom : ℕ → List Token → Type 0
EndsAtom level ts = (word : Token) → IsWord word → (f : Formula) × SpellsUnitary level f (word ∷ ts)

-- what follows a unit's first variable
abbrev pub EndsEquation : ℕ → List Token → Type 0
EndsEquation level ts = (s : Term) (us : List Token) → SpellsTerm s us → (f : Formula) × SpellsUnitary level f (us ++ ts)

-- what follows the bracket of a list, which opens the level
abbrev pub EndsList : ℕ → List Token → Type 0
EndsList inner ts = (level : ℕ) (first : Token) → inner ≡ level + 1 → level < MOST_LEVELS → first.kind ≡ kind.OpenBracket →
    IsGeneralList level (first ∷ ts)

-- the property of each part
abbrev pub shape_of : ItemPart → Shape Token
shape_of (parts.Token k) = one (λ t. t.kind ≡ k)
shape_of parts.FofWord = one (IsLowerWord (codes "fof"))
shape_of parts.IncludeWord = one (IsLowerWord (codes "include"))
shape_of parts.Name = one IsNaming
shape_of parts.RoleWord = one (λ t. (role : Role) × IsLowerWord (role_text role) t)
shape_of parts.Word = one IsWord
shape_of parts.TruthWord = one (λ t. (t.kind ≡ kind.Dollar) × ((t.text ≡ codes "$true") ⊎ (t.text ≡ codes "$false")))
shape_of parts.Connective = one (λ t. (o : Op) × (t.kind ≡ op_kind o))
shape_of (parts.Variable level) = one (λ t. t.kind ≡ kind.Upper)
shape_of (parts.Binds level) = one (λ t. t.kind ≡ kind.Upper)
shape_of (parts.Opens level k) = one (λ t. (t.kind ≡ k) × (level ≤ MOST_LEVELS))
shape_of parts.ClosesArguments = one (λ t. t.kind ≡ kind.CloseParenthesis)
shape_of parts.Plain = one (λ t. (t.kind ≡ kind.Upper) ⊎ ((t.kind ≡ kind.Integer) ⊎ (t.kind ≡ kind.Distinct)))
shape_of parts.Items = many (λ ts. (items : List Item) × SpellsItems items ts)
shape_of parts.Item = many (λ ts. (item : Item) × SpellsItem item ts)
shape_of parts.FofHead = many (EndsItem (codes "fof"))
shape_of parts.FofTail = many (Closes IsAnnotation)
shape_of parts.FofEnd = many EndsAnnotation
shape_of parts.IncludeHead = many (EndsItem (codes "include"))
shape_of parts.IncludeTail = many (λ ts. (only : Option (List Text)) × Closes (SpellsSelection only) ts)
shape_of parts.NamesRest = many (λ ts. (names : List Text) × SpellsMore (SpellsName IsNaming) names ts)
shape_of (parts.Formula level) = many (λ ts. (f : Formula) × SpellsFormula level f ts)
shape_of (parts.FormulaRest level) = many (EndsFormula level)
shape_of (parts.AndRest level) = many (λ ts. (gs : List Formula) × SpellsRest kind.Ampersand level gs ts)
shape_of (parts.OrRest level) = many (λ ts. (gs : List Formula) × SpellsRest kind.Bar level gs ts)
shape_of (parts.Unitary level) = many (λ ts. (f : Formula) × SpellsUnitary level f ts)
shape_of (parts.Quantified level) = many (Quantifies level)
shape_of (parts.BindsRest level) = many (λ ts. (xs : List Text) × SpellsMore SpellsVariable xs ts)
shape_of (parts.AfterWord level) = many (EndsAtom level)
shape_of (parts.Equation level) = many (EndsEquation level)
shape_of (parts.Term level) = many (λ ts. (s : Term) × SpellsTerm s ts)
shape_of (parts.TermsRest level) = many (λ ts. (ss : List Term) × SpellsMore SpellsTerm ss ts)
shape_of (parts.General level) = many (IsGeneral level)
shape_of (parts.GeneralRest level) = many (λ ts. (us : List Token) → IsData level us → IsGeneral level (us ++ ts))
shape_of (parts.GeneralsRest level) = many (AreGenerals level)
shape_of (parts.Data level) = many (IsData level)
shape_of (parts.DataArguments level) = many (λ ts. (word : Token) → IsWord word → IsData level (word ∷ ts))
shape_of (parts.List level) = many (IsGeneralList level)
shape_of (parts.ListBody level) = many (EndsList level)

-- what is kept of a token that opens a level
opens : (level : ℕ) (k : Kind) (m : Mark) → IsTrue (nat_le level MOST_LEVELS && is_kind k m) → IsTrue (is_kind k m) × (level ≤ MOST_LEVELS)
opens level k m h = go (nat_le level MOST_LEVELS) refl h
  where
    go : (low : Bool) → nat_le level MOST_LEVELS ≡ low → IsTrue (low && is_kind k m) → IsTrue (is_kind k m) × (level ≤ MOST_LEVELS)
    go true e h = (h, grind (arith, nat_tests))
    go false e h = absurd (false≢true h)

-- a token that a part keeps has the part's property
pub token_fits : (p : ItemPart) (m : Mark) (t : Token) → Tells m t → IsTrue (keeps p m) → Fits (shape_of p) t
token_fits (parts.Token k) m t tells h = kind_is m t tells k h
token_fits parts.FofWord mark.Fof t tells h = (sym tells.kind, tells.text)
token_fits parts.IncludeWord mark.Include t tells h = (sym tells.kind, tells.text)
token_fits parts.Name m t tells h = name_is m t tells h
token_fits parts.RoleWord (mark.Role role) t tells h = (role, (sym tells.kind, tells.text))
token_fits parts.Word m t tells h = word_is m t tells h
token_fits parts.TruthWord (mark.Truth true) t tells h = (sym tells.kind, inl tells.text)
token_fits parts.TruthWord (mark.Truth false) t tells h = (sym tells.kind, inr tells.text)
token_fits parts.Connective (mark.Connective o) t tells h = (o, sym tells.kind)
token_fits (parts.Variable level) m t tells h = upper_is m t tells h
token_fits (parts.Binds level) m t tells h = upper_is m t tells h
token_fits (parts.Opens level k) m t tells h = let (kept, low) = opens level k m h in (kind_is m t tells k kept, low)
token_fits parts.ClosesArguments m t tells h = kind_is m t tells kind.CloseParenthesis h
token_fits parts.Plain m t tells h = plain_is m t tells h
token_fits _ _ t tells h = absurd (false≢true h)
