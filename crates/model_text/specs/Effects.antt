-- What the builder of models does at a token and at an empty row, and what each value leaves in its
-- registers.
use Rattle.std.specs.Prelude.{ℕ, List, [], ◌∷◌, ◌++◌, Option, Some, None}
use Rattle.text_core.specs.Names.{Text}
use Rattle.model_text.specs.declared.builder.ModelBuilder.{ModelBuilder}
use Rattle.model_text.specs.declared.mark.Mark as Mark
use Rattle.model_text.specs.declared.part.ModelPart as ModelPart
use Rattle.model_text.specs.declared.part.ModelPart.TheVariants.{Taken, Row}
use Rattle.model_text.specs.declared.part.Taker as Taker
use Rattle.model_text.specs.declared.part.Taker.TheVariants.{Size, Constant, Element, Predicate, Argument, EndFact}
use Rattle.model_text.specs.declared.part.Rule as Rule
use Rattle.model_text.specs.declared.part.Rule.TheVariants as rule
use Rattle.model_text.specs.Structures.{Finite}
use Rattle.model_text.specs.Values.{RuleValue, Value, number_of, name_in}

-- a name is kept
abbrev pub named_so : Text → ModelBuilder → ModelBuilder
named_so name b = record b { named = Some name }

-- the constant that is kept, if any, gets its place
abbrev pub placed_as : Option Text → ℕ → ModelBuilder → ModelBuilder
placed_as None element b = record b { named = None }
placed_as (Some name) element b =
    record b { places = b.places ++ record { constant = name; element = element } ∷ []; named = None }

-- a fact begins with its predicate
abbrev pub fact_begun : Text → ModelBuilder → ModelBuilder
fact_begun name b = record b { named = Some name; arguments = [] }

abbrev pub argument_added : ℕ → ModelBuilder → ModelBuilder
argument_added n b = record b { arguments = b.arguments ++ n ∷ [] }

-- nothing is kept
abbrev pub cleared : ModelBuilder → ModelBuilder
cleared b = record b { named = None; arguments = [] }

-- the fact of the predicate that is kept, if any, ends
abbrev pub fact_ended : Option Text → ModelBuilder → ModelBuilder
fact_ended None b = cleared b
fact_ended (Some name) b =
    record b {
      facts = b.facts ++ record { predicate = name; arguments = b.arguments } ∷ [];
      named = None;
      arguments = [];
    }

-- what is done at a token, in a text whose words are these names
abbrev pub taken : List Text → Taker.Taker → Mark.Mark → ModelBuilder → ModelBuilder
taken names Size m b = record b { size = number_of m }
taken names Constant m b = named_so (name_in names m) b
taken names Element m b = placed_as b.named (number_of m) b
taken names Predicate m b = fact_begun (name_in names m) b
taken names Argument m b = argument_added (number_of m) b
taken names EndFact m b = fact_ended b.named b
taken names _ m b = b

abbrev pub acts : List Text → ModelPart.ModelPart → Mark.Mark → ModelBuilder → ModelBuilder
acts names (Taken taker) m b = taken names taker m b
acts names (Row rule) m b = b

-- what is done where a part stands for its empty row
abbrev pub passes : ModelPart.ModelPart → ModelBuilder → ModelBuilder
passes (Row rule.Places) b = record b { named = None }
passes (Row rule.Facts) b = cleared b
passes _ b = b

-- what a rule's value leaves
abbrev pub rule_effect : (rule : Rule.Rule) → RuleValue rule → ModelBuilder → ModelBuilder
rule_effect rule.Text m b = record b {
  size = m.size;
  places = b.places ++ m.places;
  facts = b.facts ++ m.facts;
  named = None;
  arguments = [];
}
rule_effect rule.Sized m b = record b {
  size = m.size;
  places = b.places ++ m.places;
  facts = b.facts ++ m.facts;
  named = None;
  arguments = [];
}
rule_effect rule.Places places b = record b { places = b.places ++ places; named = None }
rule_effect rule.Facts facts b = record b {
  facts = b.facts ++ facts;
  named = None;
  arguments = [];
}
rule_effect rule.Arguments list b = record b { arguments = b.arguments ++ list }
rule_effect rule.Others list b = record b { arguments = b.arguments ++ list }

-- what a part's value leaves
abbrev pub effect : List Text → (p : ModelPart.ModelPart) → Value p → ModelBuilder → ModelBuilder
effect names (Taken taker) m b = taken names taker m b
effect names (Row rule) value b = rule_effect rule value b

-- the structure that a builder holds
abbrev pub held_in : ModelBuilder → Finite
held_in b = record { size = b.size; places = b.places; facts = b.facts }

abbrev pub nothing_held : Finite
nothing_held = record { size = 0; places = []; facts = [] }
