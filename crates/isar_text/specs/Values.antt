-- The values of the grammar's parts, and how they are made: a line for each row.
use Rattle.std.specs.Prelude.{ℕ, ◌-◌, true, false, List, [], ◌∷◌, ◌++◌, map, Some, slice_get, IsTrue}
use Rattle.std.proofs.lemmas.Bool.{false≢true}
use Rattle.text_core.specs.Names.{Text}
use Rattle.text_core.specs.Numbered.{text_or_empty}
use Rattle.token_grammar.specs.Making.{Making}
use Rattle.token_grammar.specs.Productions.{Makers, making_by}
use Rattle.coherent_form.specs.declared.citation.Citation.{Citation}
use Rattle.coherent_form.specs.Tasks.{CitedTask}
use Rattle.proof_text.specs.declared.body.NamedAtom.{NamedAtom}
use Rattle.proof_text.specs.declared.body.Shown as Shown
use Rattle.proof_text.specs.declared.body.Shown.TheVariants as shown
use Rattle.proof_text.specs.declared.body.MpText.{MpText}
use Rattle.proof_text.specs.declared.body.CaseText.{CaseText}
use Rattle.proof_text.specs.declared.body.EndText as EndText
use Rattle.proof_text.specs.declared.body.EndText.TheVariants as finish
use Rattle.proof_text.specs.declared.body.BodyText.{BodyText}
use Rattle.proof_text.specs.ScriptOf.{cite_of}
use Rattle.proof_text.specs.Values.{atom_of, equation, cases_of, listed_step, with_step}
use Rattle.isar_text.specs.declared.mark.Mark as Mark
use Rattle.isar_text.specs.declared.mark.Mark.TheVariants as mark
use Rattle.isar_text.specs.declared.mark.Token.{Token as Seen}
use Rattle.isar_text.specs.declared.part.IsarPart as IsarPart
use Rattle.isar_text.specs.declared.part.IsarPart.TheVariants.{Taken, Row}
use Rattle.isar_text.specs.declared.part.Rule as Rule
use Rattle.isar_text.specs.declared.part.Rule.TheVariants as rule
use Rattle.isar_text.specs.Grammar.{isar_rests, takes, alternatives}
use Rattle.isar_text.specs.Names.{decoded}
use Rattle.isar_text.specs.Tokens.{Token}

-- what a task is told by, and the tokens of a text
pub record Lexed : Type 0 where
  pub task : CitedTask
  pub tokens : List Token

-- the values of each rule. A step from the label of its line on has as its value the step, of its
-- new names; what follows a first label the end, of the line with that label; what follows the
-- first part of a line the line, of the atoms of that part; and what follows an atom's first name
-- the atom, of that name
abbrev pub RuleValue : Rule.Rule → Type 0
RuleValue rule.Rest = BodyText
RuleValue (rule.Body n) = BodyText
RuleValue (rule.Step n) = MpText
RuleValue (rule.Given n) = List Text → MpText
RuleValue rule.QuotedLine = Shown.Shown
RuleValue (rule.Using n) = Citation × List Text
RuleValue (rule.MoreLines n) = Unit {0}
RuleValue rule.Instance = List Text
RuleValue rule.StepEnd = Unit {0}
RuleValue (rule.Finish n) = EndText.EndText
RuleValue (rule.AfterThesis n) = EndText.EndText
RuleValue (rule.AfterLine n) = ℕ → EndText.EndText
RuleValue rule.ByCases = Unit {0}
RuleValue rule.Reason = EndText.EndText
RuleValue rule.Inside = EndText.EndText
RuleValue rule.ByBlast = Unit {0}
RuleValue (rule.Case n) = CaseText
RuleValue (rule.CaseHead n) = List NamedAtom
RuleValue rule.QuotedFacts = List NamedAtom
RuleValue (rule.MoreCases n) = List CaseText
RuleValue rule.Names = List Text
RuleValue rule.ListedNames = List Text
RuleValue rule.MoreNames = List Text
RuleValue rule.MoreWords = List Text
RuleValue rule.Line = Shown.Shown
RuleValue rule.AfterTrue = List NamedAtom → Shown.Shown
RuleValue rule.AfterAtom = List NamedAtom → Shown.Shown
RuleValue rule.AfterGroup = List NamedAtom → Shown.Shown
RuleValue rule.Bars = List (List NamedAtom)
RuleValue rule.LinePart = List NamedAtom
RuleValue rule.Group = List NamedAtom
RuleValue rule.MoreAtoms = List NamedAtom
RuleValue rule.Facts = List NamedAtom
RuleValue rule.Atom = NamedAtom
RuleValue rule.AfterName = Text → NamedAtom
RuleValue rule.AfterNegated = List Text
RuleValue (rule.Acts does) = Unit {0}
RuleValue (rule.Does does) = Unit {0}

-- the value of a part for one token is the token
abbrev pub Value : IsarPart.IsarPart → Type 0
Value (Taken t) = Seen
Value (Row r) = RuleValue r

-- the number that a token tells: its own, or that of its label
abbrev pub marked_number : Mark.Mark → ℕ
marked_number (mark.Form n) = n
marked_number (mark.Line n) = n
marked_number (mark.Number n) = n
marked_number _ = 0

abbrev pub number_in : Seen → ℕ
number_in t = marked_number t.mark

-- the text of a token, and the name that it is the written form of
abbrev pub texts_of : List Token → List Text
texts_of ts = map (λ (t : Token). t.text) ts

abbrev pub name_in : List Token → Seen → Text
name_in ts t = decoded (text_or_empty (slice_get (texts_of ts) t.number))

-- how the form is cited that a label is of
abbrev pub cite_in : CitedTask → Seen → Citation
cite_in task t = cite_of task (number_in t - 1)

-- the end of a body is this, whatever line is split
abbrev pub ended : EndText.EndText → ℕ → EndText.EndText
ended end line = end

abbrev pub of_token : (p : IsarPart.IsarPart) (t : Seen) → IsTrue (takes p t) → Value p
of_token (Taken by) t taken = t
of_token (Row r) t taken = absurd (false≢true taken)

-- how the value of each row is made of its members' values
abbrev pub makers : (lexed : Lexed) (p : IsarPart.IsarPart) →
    Makers Value (Value p) (alternatives p)
makers lexed (Taken by) = tt
makers lexed (Row rule.Rest) = ((λ (begin, (body, (word, none))). body), tt)
makers lexed (Row (rule.Body n)) = (
  (λ (step, (body, none)). with_step step body),
  ((λ (finish, none). record { steps = []; end = finish }), tt),
)
makers lexed (Row (rule.Step n)) = (
  (λ (word, (given, none)). given []),
  (
    (λ (word, (first, (names, (until, (given, none))))). given
        (name_in lexed.tokens first ∷ names)),
    tt,
  ),
)
makers lexed (Row (rule.Given n)) = (
  (λ (label, (colon, (line, (using, none)))). λ fresh. listed_step using.0 using.1 fresh
      (Some line)),
  tt,
)
makers lexed (Row rule.QuotedLine) = ((λ (quote, (line, (close, none))). line), tt)
makers lexed (Row (rule.Using n)) = (
  (λ (word, (form, (lines, (names, (end, none))))). (cite_in lexed.task form, names)),
  tt,
)
makers lexed (Row (rule.MoreLines n)) = ((λ none. tt), ((λ (line, (lines, none)). tt), tt))
makers lexed (Row rule.Instance) = ((λ (mark, (names, (close, none))). names), tt)
makers lexed (Row rule.StepEnd) = ((λ (by, (blast, none)). tt), tt)
makers lexed (Row (rule.Finish n)) = ((λ (word, (thesis, (end, none))). end), tt)
makers lexed (Row (rule.AfterThesis n)) = (
  (λ (word, (line, (end, none))). end (number_in line)),
  ((λ (end, none). end), tt),
)
makers lexed (Row (rule.AfterLine n)) = (
  (λ (word, (cases, (first, (others, (close, none))))). λ line. finish.Cs line (first ∷ others)),
  ((λ (lines, (end, none)). ended end), tt),
)
makers lexed (Row rule.ByCases) = ((λ (bracket, (elim_word, (rule_word, (close, none)))). tt), tt)
makers lexed (Row rule.Reason) = ((λ (mark, (end, none)). end), tt)
makers lexed (Row rule.Inside) = (
  (λ (word, (disjunct, (names, (close, (by, none))))). finish.As (number_in disjunct) names),
  ((λ (word, (close, (by, none))). finish.Efq), tt),
)
makers lexed (Row rule.ByBlast) = ((λ (by, (blast, none)). tt), tt)
makers lexed (Row (rule.Case n)) = (
  (λ (word, (facts, (body, (add, none)))). record { shown = Some facts; body = body }),
  tt,
)
makers lexed (Row (rule.CaseHead n)) = ((λ (label, (colon, (facts, none))). facts), tt)
makers lexed (Row rule.QuotedFacts) = ((λ (quote, (facts, (close, none))). facts), tt)
makers lexed (Row (rule.MoreCases n)) =
    ((λ none. []), ((λ (word, (next, (others, none))). next ∷ others), tt))
makers lexed (Row rule.Names) = ((λ (bracket, (names, (close, none))). names), tt)
makers lexed (Row rule.ListedNames) =
    ((λ none. []), ((λ (first, (names, none)). name_in lexed.tokens first ∷ names), tt))
makers lexed (Row rule.MoreNames) =
    ((λ none. []), ((λ (comma, (next, (names, none))). name_in lexed.tokens next ∷ names), tt))
makers lexed (Row rule.MoreWords) =
    ((λ none. []), ((λ (next, (names, none)). name_in lexed.tokens next ∷ names), tt))
makers lexed (Row rule.Line) = (
  (λ (word, none). shown.Falsum),
  (
    (λ (word, (rest, none)). rest []),
    (
      (λ (begin, (atom, (rest, none))). rest (atom ∷ [])),
      ((λ (group, (rest, none)). rest group), tt),
    ),
  ),
)
makers lexed (Row rule.AfterTrue) =
    ((λ none. shown.Facts), ((λ (bar, (second, (others, none))). cases_of second others), tt))
makers lexed (Row rule.AfterAtom) = (
  (λ none. shown.Facts),
  (
    (λ (sign, (second, (others, (show, none)))). λ first. shown.Facts (first ++ (second ∷ others))),
    ((λ (bar, (second, (others, none))). cases_of second others), tt),
  ),
)
makers lexed (Row rule.AfterGroup) =
    ((λ (bar, (second, (others, none))). cases_of second others), tt)
makers lexed (Row rule.Bars) =
    ((λ none. []), ((λ (bar, (next, (others, none))). next ∷ others), tt))
makers lexed (Row rule.LinePart) = (
  (λ (word, none). []),
  ((λ (begin, (atom, none)). atom ∷ []), ((λ (group, none). group), tt)),
)
makers lexed (Row rule.Group) = (
  (λ (bracket, (first, (sign, (second, (others, (close, none)))))). first ∷ second ∷ others),
  tt,
)
makers lexed (Row rule.MoreAtoms) =
    ((λ none. []), ((λ (sign, (next, (others, none))). next ∷ others), tt))
makers lexed (Row rule.Facts) = (
  (λ (word, none). []),
  ((λ (begin, (first, (others, none))). first ∷ others), tt),
)
makers lexed (Row rule.Atom) = (
  (λ (name, (rest, none)). rest (name_in lexed.tokens name)),
  ((λ (tilde, (name, (names, none))). atom_of false names (name_in lexed.tokens name)), tt),
)
makers lexed (Row rule.AfterName) = (
  (λ none. atom_of true []),
  (
    (λ (begin, (first, (others, (add, none)))). atom_of true
        (name_in lexed.tokens first ∷ others)),
    (
      (λ (sign, (right, none)). equation true (name_in lexed.tokens right)),
      ((λ (sign, (right, none)). equation false (name_in lexed.tokens right)), tt),
    ),
  ),
)
makers lexed (Row rule.AfterNegated) = (
  (λ none. []),
  ((λ (begin, (first, (others, (add, none)))). name_in lexed.tokens first ∷ others), tt),
)
makers lexed (Row (rule.Acts does)) = ((λ none. tt), tt)
makers lexed (Row (rule.Does does)) = ((λ none. tt), tt)

-- how the values of a text with these tokens are made
abbrev pub isar_making : Lexed → Making isar_rests Value
isar_making lexed = making_by isar_rests Value of_token (makers lexed)
