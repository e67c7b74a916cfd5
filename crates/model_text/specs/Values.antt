-- The values of the grammar's parts, and how they are made: a line for each row.
use Rattle.std.specs.Prelude.{ℕ, List, [], ◌∷◌, IsTrue}
use Rattle.std.proofs.lemmas.Bool.{false≢true}
use Rattle.text_core.specs.Names.{Text}
use Rattle.token_grammar.specs.Making.{Making}
use Rattle.token_grammar.specs.Productions.{Makers, making_by}
use Rattle.tptp_lexer.specs.Tokens.{Token as LexToken}
use Rattle.model_text.specs.declared.mark.Mark as Mark
use Rattle.model_text.specs.declared.mark.Mark.TheVariants as mark
use Rattle.model_text.specs.declared.part.ModelPart as ModelPart
use Rattle.model_text.specs.declared.part.ModelPart.TheVariants.{Taken, Row}
use Rattle.model_text.specs.declared.part.Rule as Rule
use Rattle.model_text.specs.declared.part.Rule.TheVariants as rule
use Rattle.model_text.specs.declared.structure.Place.{Place}
use Rattle.model_text.specs.declared.structure.Fact.{Fact}
use Rattle.model_text.specs.Structures.{Finite}
use Rattle.model_text.specs.Words.{names_in, name_numbered}
use Rattle.model_text.specs.Grammar.{models, takes, alternatives}

-- the values of each rule
abbrev pub RuleValue : Rule.Rule → Type 0
RuleValue rule.Text = Finite
RuleValue rule.Sized = Finite
RuleValue rule.Places = List Place
RuleValue rule.Facts = List Fact
RuleValue rule.Arguments = List ℕ
RuleValue rule.Others = List ℕ

-- the value of a part for one token is the token
abbrev pub Value : ModelPart.ModelPart → Type 0
Value (Taken taker) = Mark.Mark
Value (Row rule) = RuleValue rule

-- the number of a word's name
abbrev pub word_in : Mark.Mark → ℕ
word_in (mark.Model n) = n
word_in (mark.Size n) = n
word_in (mark.Place n) = n
word_in (mark.Is n) = n
word_in (mark.Fact n) = n
word_in (mark.Word n) = n
word_in _ = 0

-- the number that a token tells
abbrev pub number_of : Mark.Mark → ℕ
number_of mark.One = 1
number_of (mark.Number n) = n
number_of _ = 0

-- the name that a word is
abbrev pub name_in : List Text → Mark.Mark → Text
name_in names m = name_numbered names (word_in m)

abbrev pub of_token : (p : ModelPart.ModelPart) (m : Mark.Mark) → IsTrue (takes p m) → Value p
of_token (Taken taker) m taken = m
of_token (Row rule) m taken = absurd (false≢true taken)

-- how the value of each row is made of its members' values, in a text whose words are these names
abbrev pub makers : List Text → (p : ModelPart.ModelPart) → Makers Value (Value p) (alternatives p)
makers names (Taken taker) = tt
makers names (Row rule.Text) = ((λ (word, (version, (dot, (sized, end)))). sized), tt)
makers names (Row rule.Sized) = (
  (λ (word, (size, (dot, (places, (facts, end))))). record {
    size = number_of size;
    places = places;
    facts = facts;
  }),
  tt,
)
makers names (Row rule.Places) = (
  (λ none. []),
  (
    (λ (word, (constant, (then, (element, (dot, (places, end)))))). record {
      constant = name_in names constant;
      element = number_of element;
    } ∷ places),
    tt,
  ),
)
makers names (Row rule.Facts) = (
  (λ none. []),
  (
    (λ (word, (predicate, (arguments, (dot, (facts, end))))). record {
      predicate = name_in names predicate;
      arguments = arguments;
    } ∷ facts),
    tt,
  ),
)
makers names (Row rule.Arguments) =
    ((λ none. []), ((λ (bracket, (first, (others, (close, end)))). number_of first ∷ others), tt))
makers names (Row rule.Others) =
    ((λ none. []), ((λ (comma, (next, (others, end))). number_of next ∷ others), tt))

-- how the values of a text with these tokens are made
abbrev pub model_making : List LexToken → Making models Value
model_making ts = making_by models Value of_token (makers (names_in ts))
