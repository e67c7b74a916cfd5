-- The values of the grammar's parts, and how they are made: a line for each row.
use Rattle.std.specs.Prelude.{ℕ, Bool, true, false, List, [], ◌∷◌, ◌++◌, Option, Some, None, slice_get, IsTrue}
use Rattle.std.proofs.lemmas.Bool.{false≢true}
use Rattle.text_core.specs.Names.{Text}
use Rattle.text_core.specs.Numbered.{text_or_empty}
use Rattle.token_grammar.specs.Making.{Making}
use Rattle.token_grammar.specs.Productions.{Makers, making_by}
use Rattle.tptp_lexer.specs.Tokens.{Token as LexToken}
use Rattle.tptp_lexer.specs.Columns.{names_of}
use Rattle.coherent_form.specs.declared.citation.Citation as Citation
use Rattle.coherent_form.specs.declared.citation.Citation.TheVariants as citation
use Rattle.coherent_form.specs.declared.citation.Symbol as Symbol
use Rattle.coherent_form.specs.declared.citation.Symbol.TheVariants as symbol
use Rattle.proof_text.specs.declared.body.NamedAtom.{NamedAtom}
use Rattle.proof_text.specs.declared.body.Shown as Shown
use Rattle.proof_text.specs.declared.body.Shown.TheVariants as shown
use Rattle.proof_text.specs.declared.body.Binding.{Binding}
use Rattle.proof_text.specs.declared.body.ArgsText.TheVariants as args
use Rattle.proof_text.specs.declared.body.MpText.{MpText}
use Rattle.proof_text.specs.declared.body.CaseText.{CaseText}
use Rattle.proof_text.specs.declared.body.EndText as EndText
use Rattle.proof_text.specs.declared.body.EndText.TheVariants as finish
use Rattle.proof_text.specs.declared.body.BodyText.{BodyText}
use Rattle.proof_text.specs.declared.mark.Integer.TheVariants as integer
use Rattle.proof_text.specs.declared.mark.Mark as Mark
use Rattle.proof_text.specs.declared.mark.Mark.TheVariants as mark
use Rattle.proof_text.specs.declared.mark.Token.{Token}
use Rattle.proof_text.specs.declared.part.Edition.TheVariants.{First, Second}
use Rattle.proof_text.specs.declared.part.TextPart as TextPart
use Rattle.proof_text.specs.declared.part.TextPart.TheVariants.{Taken, Row}
use Rattle.proof_text.specs.declared.part.Rule as Rule
use Rattle.proof_text.specs.declared.part.Rule.TheVariants as rule
use Rattle.proof_text.specs.Grammar.{proof_texts, takes, alternatives}

-- a script: its version, the names that it takes, and its body
pub record Written : Type 0 where
  pub version : ℕ
  pub take : List Text
  pub body : BodyText

-- the values of each rule. What follows the first part of a line has as its value the line, of the
-- atoms of that part; and what follows an atom's first word has the atom, of that word
abbrev pub RuleValue : Rule.Rule → Type 0
RuleValue rule.Text = Written
RuleValue rule.Version = Written
RuleValue rule.Never = ⊥
RuleValue rule.Head = List Text
RuleValue rule.Names = List Text
RuleValue rule.ListedNames = List Text
RuleValue rule.MoreNames = List Text
RuleValue (rule.Body e) = BodyText
RuleValue (rule.Step e) = MpText
RuleValue (rule.Given e) = Option Shown.Shown
RuleValue (rule.Finish e) = EndText.EndText
RuleValue rule.SplitEnd = Unit {0}
RuleValue (rule.Case e) = CaseText
RuleValue (rule.MoreCases e) = List CaseText
RuleValue (rule.CaseHead e) = Option (List NamedAtom)
RuleValue rule.Cite = Citation.Citation
RuleValue rule.Rank = ℕ
RuleValue rule.SignedSymbol = Bool × Symbol.Symbol
RuleValue rule.Symbol = Symbol.Symbol
RuleValue rule.Binds = List Binding
RuleValue rule.ListedBinds = List Binding
RuleValue rule.MoreBinds = List Binding
RuleValue rule.Bind = Binding
RuleValue rule.Line = Shown.Shown
RuleValue rule.AfterTrue = List NamedAtom → Shown.Shown
RuleValue rule.AfterAtom = List NamedAtom → Shown.Shown
RuleValue rule.AfterGroup = List NamedAtom → Shown.Shown
RuleValue rule.Bars = List (List NamedAtom)
RuleValue rule.LinePart = List NamedAtom
RuleValue rule.Group = List NamedAtom
RuleValue rule.MoreAtoms = List NamedAtom
RuleValue rule.Facts = List NamedAtom
RuleValue rule.Atom = NamedAtom
RuleValue rule.AfterWord = Text → NamedAtom
RuleValue rule.AfterNegated = List Text
RuleValue (rule.Does does) = Unit {0}

-- the value of a part for one token is the token
abbrev pub Value : TextPart.TextPart → Type 0
Value (Taken t) = Token
Value (Row r) = RuleValue r

-- the number that a token tells
abbrev pub marked_number : Mark.Mark → ℕ
marked_number (mark.Integer integer.One) = 1
marked_number (mark.Integer integer.Two) = 2
marked_number (mark.Integer (integer.Few n)) = n
marked_number (mark.Integer (integer.Number n)) = n
marked_number _ = 0

abbrev pub number_in : Token → ℕ
number_in t = marked_number t.mark

-- the name that a token of the text is
abbrev pub name_in : List LexToken → Token → Text
name_in ts t = text_or_empty (slice_get (names_of ts) t.number)

-- an atom of a predicate, or its negation
abbrev pub atom_of : Bool → List Text → Text → NamedAtom
atom_of positive names predicate =
    record { positive = positive; predicate = Some predicate; args = names }

-- an equation, or an inequality
abbrev pub equation : Bool → Text → Text → NamedAtom
equation positive right left =
    record { positive = positive; predicate = None; args = left ∷ right ∷ [] }

-- cases: the first part of a line and the others
abbrev pub cases_of : List NamedAtom → List (List NamedAtom) → List NamedAtom → Shown.Shown
cases_of second others first = shown.Cases (first ∷ second ∷ others)

-- a step of the first version, and one of the second
abbrev pub listed_step : Citation.Citation → List Text → List Text → Option Shown.Shown → MpText
listed_step cite names fresh given =
    record { cite = cite; args = args.Listed names; fresh = fresh; shown = given }

abbrev pub named_step : Citation.Citation → List Binding → List Text → Option Shown.Shown → MpText
named_step cite binds fresh given =
    record { cite = cite; args = args.Named binds; fresh = fresh; shown = given }

-- a step in front of a body
abbrev pub with_step : MpText → BodyText → BodyText
with_step step body = record { steps = step ∷ body.steps; end = body.end }

abbrev pub of_token : (p : TextPart.TextPart) (t : Token) → IsTrue (takes p t) → Value p
of_token (Taken by) t taken = t
of_token (Row r) t taken = absurd (false≢true taken)

-- how the value of each row is made of its members' values; the names are those of the text's
-- tokens
abbrev pub makers : (ts : List LexToken) (p : TextPart.TextPart) →
    Makers Value (Value p) (alternatives p)
makers ts (Taken by) = tt
makers ts (Row rule.Text) = ((λ (word, (script, none)). script), tt)
makers ts (Row rule.Version) = (
  (λ (one, (names, (body, none))). record { version = 1; take = names; body = body }),
  (
    (λ (two, (names, (body, none))). record { version = 2; take = names; body = body }),
    ((λ (other, (never, none)). absurd never), tt),
  ),
)
makers ts (Row rule.Never) = tt
makers ts (Row rule.Head) = ((λ (dot, (word, (names, (end, none)))). names), tt)
makers ts (Row rule.Names) = ((λ (bracket, (names, (close, none))). names), tt)
makers ts (Row rule.ListedNames) =
    ((λ none. []), ((λ (first, (names, none)). name_in ts first ∷ names), tt))
makers ts (Row rule.MoreNames) =
    ((λ none. []), ((λ (comma, (next, (names, none))). name_in ts next ∷ names), tt))
makers ts (Row (rule.Body e)) = (
  (λ (step, (body, none)). with_step step body),
  ((λ (finish, none). record { steps = []; end = finish }), tt),
)
makers ts (Row (rule.Step First)) = (
  (λ (mp, (cite, (names, (new, (fresh, (given, none)))))).
      listed_step cite names fresh given),
  tt,
)
makers ts (Row (rule.Step Second)) = (
  (λ (mp, (cite, (binds, (new, (fresh, (given, none)))))).
      named_step cite binds fresh given),
  tt,
)
makers ts (Row (rule.Given First)) = ((λ (gives, (line, (dot, none))). Some line), tt)
makers ts (Row (rule.Given Second)) =
    ((λ (gives, (line, (dot, none))). Some line), ((λ (dot, none). None), tt))
makers ts (Row (rule.Finish First)) = (
  (λ (word, (disjunct, (names, (dot, none)))). finish.As (number_in disjunct) names),
  (
    (λ (word, (dot, none)). finish.Efq),
    (
      (λ (word, (line, (dot, (first, (others, (end, none)))))). finish.Cs
          (number_in line) (first ∷ others)),
      tt,
    ),
  ),
)
makers ts (Row (rule.Finish Second)) = (
  (λ (word, (disjunct, (names, (dot, none)))). finish.As (number_in disjunct) names),
  (
    (λ (word, (dot, none)). finish.Efq),
    (
      (λ (word, (line, (dot, (first, (others, (end, none)))))). finish.Cs
          (number_in line) (first ∷ others)),
      ((λ (word, (within, (dot, none))). finish.Gap (number_in within)), tt),
    ),
  ),
)
makers ts (Row rule.SplitEnd) = ((λ (word, (dot, none)). tt), tt)
makers ts (Row (rule.Case e)) =
    ((λ (word, (facts, (body, (add, none)))). record { shown = facts; body = body }), tt)
makers ts (Row (rule.MoreCases e)) =
    ((λ none. []), ((λ (next, (others, none)). next ∷ others), tt))
makers ts (Row (rule.CaseHead First)) = ((λ (facts, (dot, none)). Some facts), tt)
makers ts (Row (rule.CaseHead Second)) =
    ((λ (facts, (dot, none)). Some facts), ((λ (dot, none). None), tt))
makers ts (Row rule.Cite) = (
  (λ (name, (rank, (cited, none))). citation.Axiom (name_in ts name) rank),
  (
    (λ (word, none). citation.Refl),
    (
      (λ (word, none). citation.Sym),
      (
        (λ (word, none). citation.Trans),
        (
          (λ (word, (bracket, (signed, (comma, (place, (close, none)))))). citation.Sub
              signed.0 signed.1 (number_in place)),
          (
            (λ (word, (bracket, (of, (close, none)))). citation.No of),
            ((λ (word, (bracket, (of, (close, none)))). citation.Or of), tt),
          ),
        ),
      ),
    ),
  ),
)
makers ts (Row rule.Rank) = ((λ none. 1), ((λ (colon, (rank, none)). number_in rank), tt))
makers ts (Row rule.SignedSymbol) =
    ((λ (tilde, (of, none)). (false, of)), ((λ (positive, (of, none)). (true, of)), tt))
makers ts (Row rule.Symbol) = (
  (λ (name, (comma, (arity, none))). symbol.Named (name_in ts name) (number_in arity)),
  ((λ (equal, (comma, (two, none))). symbol.Equality), tt),
)
makers ts (Row rule.Binds) = ((λ (word, (bracket, (binds, (close, none)))). binds), tt)
makers ts (Row rule.ListedBinds) =
    ((λ none. []), ((λ (first, (others, none)). first ∷ others), tt))
makers ts (Row rule.MoreBinds) =
    ((λ none. []), ((λ (comma, (next, (others, none))). next ∷ others), tt))
makers ts (Row rule.Bind) = (
  (λ (name, (rank, (equal, (value, none)))). record {
    label =
        record { name = name_in ts name; rank = rank };
    value = name_in ts value;
  }),
  tt,
)
makers ts (Row rule.Line) = (
  (λ (word, none). shown.Falsum),
  (
    (λ (word, (rest, none)). rest []),
    (
      (λ (begin, (atom, (rest, none))). rest (atom ∷ [])),
      ((λ (group, (rest, none)). rest group), tt),
    ),
  ),
)
makers ts (Row rule.AfterTrue) =
    ((λ none. shown.Facts), ((λ (bar, (second, (others, none))). cases_of second others), tt))
makers ts (Row rule.AfterAtom) = (
  (λ none. shown.Facts),
  (
    (λ (sign, (second, (others, (show, none)))). λ first. shown.Facts (first ++ (second ∷ others))),
    ((λ (bar, (second, (others, none))). cases_of second others), tt),
  ),
)
makers ts (Row rule.AfterGroup) = ((λ (bar, (second, (others, none))). cases_of second others), tt)
makers ts (Row rule.Bars) =
    ((λ none. []), ((λ (bar, (next, (others, none))). next ∷ others), tt))
makers ts (Row rule.LinePart) = (
  (λ (word, none). []),
  ((λ (begin, (atom, none)). atom ∷ []), ((λ (group, none). group), tt)),
)
makers ts (Row rule.Group) = (
  (λ (bracket, (first, (sign, (second, (others, (close, none)))))). first ∷ second ∷ others),
  tt,
)
makers ts (Row rule.MoreAtoms) =
    ((λ none. []), ((λ (sign, (next, (others, none))). next ∷ others), tt))
makers ts (Row rule.Facts) = (
  (λ (word, none). []),
  ((λ (begin, (first, (others, none))). first ∷ others), tt),
)
makers ts (Row rule.Atom) = (
  (λ (word, (rest, none)). rest (name_in ts word)),
  ((λ (tilde, (word, (names, none))). atom_of false names (name_in ts word)), tt),
)
makers ts (Row rule.AfterWord) = (
  (λ none. atom_of true []),
  (
    (λ (bracket, (first, (others, (close, none)))). atom_of true (name_in ts first ∷ others)),
    (
      (λ (sign, (right, none)). equation true (name_in ts right)),
      ((λ (sign, (right, none)). equation false (name_in ts right)), tt),
    ),
  ),
)
makers ts (Row rule.AfterNegated) = (
  (λ none. []),
  ((λ (bracket, (first, (others, (close, none)))). name_in ts first ∷ others), tt),
)
makers ts (Row (rule.Does does)) = ((λ none. tt), tt)

-- how the values of a text with these tokens are made
abbrev pub proof_text_making : List LexToken → Making proof_texts Value
proof_text_making ts = making_by proof_texts Value of_token (makers ts)
