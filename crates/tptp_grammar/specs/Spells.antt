-- Which tokens are the text of which items: what they spell, by cases on the value, and no variable
-- is free. Round brackets around a formula and annotations leave no trace. A level counts the
-- brackets, negations and quantifiers that are open; at most `MOST_LEVELS` may be. Source: the TPTP
-- syntax, FOF.
use Rattle.std.specs.Prelude.{ℕ, ◌+◌, ◌<◌, ◌≡◌, ◌⊎◌, Bool, true, false, List, [], ◌∷◌, ◌++◌, Option, Some, None, codes}
use Rattle.std.specs.List.{AllByRecursion}
use Rattle.text_core.specs.Names.{Text}
use Rattle.logic_core.specs.Allowed.{IsBoundIn}
use Rattle.logic_core.specs.declared.formula.Term.{Term}
use Rattle.logic_core.specs.declared.formula.Term.TheVariants.{Variable, Constant}
use Rattle.logic_core.specs.declared.formula.Op.{Op}
use Rattle.logic_core.specs.declared.formula.Op.TheVariants as op
use Rattle.logic_core.specs.declared.formula.Formula.{Formula, True, False, Pred, Equal, Not, And, Or, Binary, ForAll, Exists}
use Rattle.logic_core.specs.declared.problem.Fof.{Fof}
use Rattle.logic_core.specs.declared.problem.Item.{Item}
use Rattle.logic_core.specs.declared.problem.Item.TheVariants.{Fof as ItemFof, Include}
use Rattle.tptp_lexer.specs.declared.kind.Kind.{Kind}
use Rattle.tptp_lexer.specs.declared.kind.Kind.TheVariants as kind
use Rattle.tptp_lexer.specs.Tokens.{Token, name_of}
use Rattle.tptp_lexer.specs.Spelling.{IsWord, IsNaming, SpellsName, SpellsVariable, SpellsBetween}
use Rattle.text_core.specs.declared.limits.TheConstants.{MOST_LEVELS}
use Rattle.tptp_grammar.specs.Roles.{role_text}

-- the kind of the token that tells a connective
abbrev pub op_kind : Op → Kind
op_kind op.Implies = kind.Implies
op_kind op.Implied = kind.Implied
op_kind op.Iff = kind.Iff
op_kind op.Xor = kind.Xor
op_kind op.Nor = kind.Nor
op_kind op.Nand = kind.Nand

-- the two quantifiers, with the kind of the token that tells one
pub data Quantifier : Type 0 where
  for_all : Quantifier
  there_is : Quantifier

abbrev pub quantifier_kind : Quantifier → Kind
quantifier_kind for_all = kind.Exclamation
quantifier_kind there_is = kind.Question

-- a formula with a quantifier, from its variables and its body
abbrev pub quantify : Quantifier → List Text → Formula → Formula
quantify for_all = ForAll
quantify there_is = Exists

-- the two chains, with the kind of the token between members
pub data Chain : Type 0 where
  conjunction : Chain
  disjunction : Chain

abbrev pub chain_kind : Chain → Kind
chain_kind conjunction = kind.Ampersand
chain_kind disjunction = kind.Bar

-- the formula of a chain's members
abbrev pub chain_of : Chain → List Formula → Formula
chain_of conjunction = And
chain_of disjunction = Or

-- the word for a truth value, and its formula
abbrev pub truth_text : Bool → Text
truth_text true = codes "$true"
truth_text false = codes "$false"

abbrev pub truth_formula : Bool → Formula
truth_formula true = True
truth_formula false = False

-- a term: a variable or a constant
abbrev pub SpellsTerm : Term → List Token → Type 0
SpellsTerm (Variable x) ts = SpellsVariable x ts
SpellsTerm (Constant c) ts = SpellsName IsWord c ts

-- the arguments of an atom, which are left out where there are none
abbrev pub SpellsArguments : List Term → List Token → Type 0
SpellsArguments [] ts = ts ≡ []
SpellsArguments (s ∷ ss) ts =
    SpellsBetween kind.OpenParenthesis kind.CloseParenthesis SpellsTerm (s ∷ ss) ts

-- the variables of a quantifier, in square brackets
abbrev pub SpellsVariables : List Text → List Token → Type 0
SpellsVariables xs ts = SpellsBetween kind.OpenBracket kind.CloseBracket SpellsVariable xs ts

mutual
  -- a formula, where so many levels are open
  pub data SpellsFormula : ℕ → Formula → List Token → Type 0 where
    alone : {level : ℕ} {f : Formula} {ts : List Token} → SpellsUnitary level f ts →
        SpellsFormula level f ts
    chain : {level : ℕ} {f : Formula} {all : List Token} (c : Chain) (g h : Formula)
        (gs : List Formula) (us vs : List Token) → SpellsUnitary level g us →
        SpellsRest (chain_kind c) level (h ∷ gs) vs → f ≡ chain_of c (g ∷ h ∷ gs) → all ≡ us ++ vs →
        SpellsFormula level f all
    binary : {level : ℕ} {f : Formula} {all : List Token} (o : Op) (g h : Formula) (us : List Token)
        (between : Token) (vs : List Token) → SpellsUnitary level g us → between.kind ≡ op_kind o →
        SpellsUnitary level h vs → f ≡ Binary o g h → all ≡ us ++ (between ∷ vs) →
        SpellsFormula level f all

  -- further members of a chain, each behind a token of this kind
  pub data SpellsRest : Kind → ℕ → List Formula → List Token → Type 0 where
    end : {k : Kind} {level : ℕ} → SpellsRest k level [] []
    further : {k : Kind} {level : ℕ} {g : Formula} {gs : List Formula} {all : List Token}
        (before : Token) (us vs : List Token) → before.kind ≡ k → SpellsUnitary level g us →
        SpellsRest k level gs vs → all ≡ before ∷ (us ++ vs) → SpellsRest k level (g ∷ gs) all

  -- a unit formula, where so many levels are open
  pub data SpellsUnitary : ℕ → Formula → List Token → Type 0 where
    brackets : {level : ℕ} {f : Formula} {all : List Token} (first : Token) (ts : List Token)
        (last : Token) → level < MOST_LEVELS → first.kind ≡ kind.OpenParenthesis →
        SpellsFormula (level + 1) f ts → last.kind ≡ kind.CloseParenthesis →
        all ≡ first ∷ (ts ++ (last ∷ [])) → SpellsUnitary level f all
    negation : {level : ℕ} {f : Formula} {all : List Token} (g : Formula) (first : Token)
        (ts : List Token) → level < MOST_LEVELS → first.kind ≡ kind.Tilde →
        SpellsUnitary (level + 1) g ts → f ≡ Not g → all ≡ first ∷ ts → SpellsUnitary level f all
    quantified : {level : ℕ} {f : Formula} {all : List Token} (q : Quantifier) (xs : List Text)
        (g : Formula) (first : Token) (us : List Token) (colon : Token) (vs : List Token) →
        level < MOST_LEVELS → first.kind ≡ quantifier_kind q → SpellsVariables xs us →
        colon.kind ≡ kind.Colon → SpellsUnitary (level + 1) g vs → f ≡ quantify q xs g →
        all ≡ first ∷ (us ++ (colon ∷ vs)) → SpellsUnitary level f all
    truth : {level : ℕ} {f : Formula} {all : List Token} (value : Bool) (t : Token) →
        t.kind ≡ kind.Dollar → t.text ≡ truth_text value → f ≡ truth_formula value → all ≡ t ∷ [] →
        SpellsUnitary level f all
    atom : {level : ℕ} {f : Formula} {all : List Token} (word : Token) (arguments : List Term)
        (ts : List Token) → IsWord word → SpellsArguments arguments ts →
        f ≡ Pred (name_of word) arguments → all ≡ word ∷ ts → SpellsUnitary level f all
    equation : {level : ℕ} {f : Formula} {all : List Token} (s u : Term) (us : List Token)
        (between : Token) (vs : List Token) → SpellsTerm s us → between.kind ≡ kind.Equal →
        SpellsTerm u vs → f ≡ Equal s u → all ≡ us ++ (between ∷ vs) → SpellsUnitary level f all
    inequality : {level : ℕ} {f : Formula} {all : List Token} (s u : Term) (us : List Token)
        (between : Token) (vs : List Token) → SpellsTerm s us → between.kind ≡ kind.NotEqual →
        SpellsTerm u vs → f ≡ Not (Equal s u) → all ≡ us ++ (between ∷ vs) →
        SpellsUnitary level f all

mutual
  -- a general term of an annotation: data, data with a further general term behind a colon, or a
  -- list
  pub data IsGeneral : ℕ → List Token → Type 0 where
    data_alone : {level : ℕ} {ts : List Token} → IsData level ts → IsGeneral level ts
    data_with : {level : ℕ} {all : List Token} (us : List Token) (colon : Token) (vs : List Token) →
        IsData level us → colon.kind ≡ kind.Colon → IsGeneral level vs → all ≡ us ++ (colon ∷ vs) →
        IsGeneral level all
    in_list : {level : ℕ} {ts : List Token} → IsGeneralList level ts → IsGeneral level ts

  -- general terms in square brackets, which may be none
  pub data IsGeneralList : ℕ → List Token → Type 0 where
    empty_list : {level : ℕ} {all : List Token} (first last : Token) → level < MOST_LEVELS →
        first.kind ≡ kind.OpenBracket → last.kind ≡ kind.CloseBracket → all ≡ first ∷ last ∷ [] →
        IsGeneralList level all
    whole_list : {level : ℕ} {all : List Token} (first : Token) (us vs : List Token)
        (last : Token) → level < MOST_LEVELS → first.kind ≡ kind.OpenBracket →
        IsGeneral (level + 1) us → AreGenerals (level + 1) vs → last.kind ≡ kind.CloseBracket →
        all ≡ first ∷ (us ++ (vs ++ (last ∷ []))) → IsGeneralList level all

  -- further general terms, each behind a comma
  pub data AreGenerals : ℕ → List Token → Type 0 where
    no_general : {level : ℕ} → AreGenerals level []
    next_general : {level : ℕ} {all : List Token} (comma : Token) (us vs : List Token) →
        comma.kind ≡ kind.Comma → IsGeneral level us → AreGenerals level vs →
        all ≡ comma ∷ (us ++ vs) → AreGenerals level all

  -- data: an upper word, an integer, a distinct object, or a word that may have general terms as
  -- arguments
  pub data IsData : ℕ → List Token → Type 0 where
    plain : {level : ℕ} {all : List Token} (t : Token) →
        (t.kind ≡ kind.Upper) ⊎ ((t.kind ≡ kind.Integer) ⊎ (t.kind ≡ kind.Distinct)) →
        all ≡ t ∷ [] → IsData level all
    word_alone : {level : ℕ} {all : List Token} (t : Token) → IsWord t → all ≡ t ∷ [] →
        IsData level all
    word_with : {level : ℕ} {all : List Token} (t first : Token) (us vs : List Token)
        (last : Token) → IsWord t → level < MOST_LEVELS → first.kind ≡ kind.OpenParenthesis →
        IsGeneral (level + 1) us → AreGenerals (level + 1) vs → last.kind ≡ kind.CloseParenthesis →
        all ≡ t ∷ first ∷ (us ++ (vs ++ (last ∷ []))) → IsData level all

-- what may be behind a formula: nothing, or a comma and a general term, which a comma and a list
-- may follow
pub data IsAnnotation : List Token → Type 0 where
  no_annotation : IsAnnotation []
  source_alone : {all : List Token} (comma : Token) (us : List Token) → comma.kind ≡ kind.Comma →
      IsGeneral 0 us → all ≡ comma ∷ us → IsAnnotation all
  source_with : {all : List Token} (comma : Token) (us : List Token) (between : Token)
      (vs : List Token) → comma.kind ≡ kind.Comma → IsGeneral 0 us → between.kind ≡ kind.Comma →
      IsGeneralList 0 vs → all ≡ comma ∷ (us ++ (between ∷ vs)) → IsAnnotation all

-- a formula with its name and role: `fof ( name , role , formula annotation ) .`
pub record SpellsFof (fof : Fof) (all : List Token) : Type 0 where
  pub word : Token
  pub first : Token
  pub name : Token
  pub comma : Token
  pub role : Token
  pub between : Token
  pub formula : List Token
  pub annotation : List Token
  pub last : Token
  pub dot : Token
  pub is_word : (word.kind ≡ kind.Lower) × (word.text ≡ codes "fof")
  pub opens : first.kind ≡ kind.OpenParenthesis
  pub is_name : IsNaming name × (fof.name ≡ name_of name)
  pub is_comma : comma.kind ≡ kind.Comma
  pub is_role : (role.kind ≡ kind.Lower) × (role.text ≡ role_text fof.role)
  pub is_between : between.kind ≡ kind.Comma
  pub spelled : SpellsFormula 0 fof.formula formula
  pub annotated : IsAnnotation annotation
  pub closes : last.kind ≡ kind.CloseParenthesis
  pub is_dot : dot.kind ≡ kind.Dot
  pub split : all ≡ word ∷ first ∷ name ∷ comma ∷ role ∷ between ∷
      (formula ++ (annotation ++ (last ∷ dot ∷ [])))

-- a selection behind its comma: names in square brackets; nothing where there is none
abbrev pub SpellsSelection : Option (List Text) → List Token → Type 0
SpellsSelection None ts = ts ≡ []
SpellsSelection (Some names) ts =
    (comma : Token) × (us : List Token) × (comma.kind ≡ kind.Comma) ×
    SpellsBetween kind.OpenBracket kind.CloseBracket (SpellsName IsNaming) names us ×
    (ts ≡ comma ∷ us)

-- an inclusion: `include ( file selection ) .`
pub record SpellsInclude (file : Text) (only : Option (List Text)) (all : List Token) : Type 0 where
  pub word : Token
  pub first : Token
  pub quoted : Token
  pub selection : List Token
  pub last : Token
  pub dot : Token
  pub is_word : (word.kind ≡ kind.Lower) × (word.text ≡ codes "include")
  pub opens : first.kind ≡ kind.OpenParenthesis
  pub is_file : (quoted.kind ≡ kind.Quoted) × (file ≡ name_of quoted)
  pub selected : SpellsSelection only selection
  pub closes : last.kind ≡ kind.CloseParenthesis
  pub is_dot : dot.kind ≡ kind.Dot
  pub split : all ≡ word ∷ first ∷ quoted ∷ (selection ++ (last ∷ dot ∷ []))

abbrev pub SpellsItem : Item → List Token → Type 0
SpellsItem (ItemFof fof) ts = SpellsFof fof ts
SpellsItem (Include file only) ts = SpellsInclude file only ts

-- items one after another
abbrev pub SpellsItems : List Item → List Token → Type 0
SpellsItems [] ts = ts ≡ []
SpellsItems (item ∷ items) ts = (us : List Token) × (vs : List Token) × SpellsItem item us ×
    SpellsItems items vs × (ts ≡ us ++ vs)

-- each variable of an item is bound
abbrev pub ItemIsClosed : Item → Type 0
ItemIsClosed (ItemFof fof) = IsBoundIn [] fof.formula
ItemIsClosed (Include file only) = Unit {0}

-- the tokens are a text of these items
pub record AreItemsOf (ts : List Token) (items : List Item) : Type 0 where
  pub spelled : SpellsItems items ts
  pub closed : AllByRecursion ItemIsClosed items
