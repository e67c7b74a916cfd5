-- What is told of a formula before anything is built of it: for each role the first node that
-- offends, if any, and the counts of its reading; numbers above 4,294,967,295 are told as that.
use Rattle.std.specs.Prelude.{ℕ, ◌+◌, min, List, [], ◌∷◌, ◌++◌, length, Option, Some, None}
use Rattle.logic_core.specs.declared.formula.Formula.{Formula, Pred, Equal}
use Rattle.logic_core.specs.declared.formula.Op.{Op}
use Rattle.logic_core.specs.declared.formula.Op.TheVariants.{Implies, Implied, Iff}
use Rattle.coherent_form.specs.Counts.{product, sum, bound, saturated, most, no_form, no_atom, one_atom, conjunction_counts, premise_counts, conclusion_counts, rule_counts}
use Rattle.coherent_form.specs.Offending.{nodes, placed_at, conjunction_offenders, premise_offenders, conclusion_offenders, rule_offenders}
use Rattle.coherent_form.specs.declared.counts.Counts.{Counts}
use Rattle.coherent_form.specs.declared.survey.Survey.{Survey}
use Rattle.coherent_form.specs.declared.survey.Account.{Account}
use Rattle.coherent_form.specs.declared.survey.Members.{Members}

-- the lesser of two nodes
abbrev pub first_told : Option ℕ → Option ℕ → Option ℕ
first_told (Some m) (Some n) = Some (min m n)
first_told (Some m) None = Some m
first_told None other = other

-- a node of a part, as one of the whole
abbrev pub placed_told : ℕ → Option ℕ → Option ℕ
placed_told at (Some n) = Some (min (at + n) most)
placed_told at None = None

-- the first of some nodes
abbrev pub first_of : List ℕ → Option ℕ
first_of [] = None
first_of (n ∷ ns) = first_told (Some (min n most)) (first_of ns)

-- the first of the nodes that offend, and the counts
abbrev pub survey : List ℕ → Counts → Survey
survey offenders counts = record { offender = first_of offenders; counts = saturated counts }

-- the formula itself offends
abbrev pub offending : Survey
offending = record { offender = Some 0; counts = saturated no_atom }

abbrev pub survey_product : Survey → Survey → Survey
survey_product a b = record {
  offender = first_told a.offender b.offender;
  counts = saturated (product a.counts b.counts);
}

abbrev pub survey_sum : Survey → Survey → Survey
survey_sum a b = record {
  offender = first_told a.offender b.offender;
  counts = saturated (sum a.counts b.counts);
}

abbrev pub survey_placed : ℕ → Survey → Survey
survey_placed at a = record { offender = placed_told at a.offender; counts = a.counts }

abbrev pub survey_bound : ℕ → Survey → Survey
survey_bound count a = record {
  offender = placed_told 1 a.offender;
  counts = saturated (bound count a.counts);
}

-- a formula in each role
abbrev pub account_of : Formula → Account
account_of f = record {
  nodes = min (nodes f) most;
  conjunction = survey (conjunction_offenders f) (conjunction_counts f);
  premise = survey (premise_offenders f) (premise_counts f);
  conclusion = survey (conclusion_offenders f) (conclusion_counts f);
  rule = survey (rule_offenders f) (rule_counts f);
}

-- the nodes of some formulas
abbrev pub nodes_in : List Formula → ℕ
nodes_in [] = 0
nodes_in (g ∷ gs) = nodes g + nodes_in gs

-- those that offend, the first formula being node `at`
abbrev pub offenders_in : (Formula → List ℕ) → ℕ → List Formula → List ℕ
offenders_in offenders at [] = []
offenders_in offenders at (g ∷ gs) = placed_at at (offenders g) ++ offenders_in offenders (at + nodes g) gs

-- each of every reading
abbrev pub product_in : (Formula → Counts) → List Formula → Counts
product_in counts [] = no_atom
product_in counts (g ∷ gs) = product (counts g) (product_in counts gs)

-- all of every reading
abbrev pub sum_in : (Formula → Counts) → List Formula → Counts
sum_in counts [] = no_form
sum_in counts (g ∷ gs) = sum (counts g) (sum_in counts gs)

-- members of a formula
abbrev pub members_of : List Formula → Members
members_of gs = record {
  nodes = min (1 + nodes_in gs) most;
  conjunctions = survey (offenders_in conjunction_offenders 1 gs) (product_in conjunction_counts gs);
  choices = survey (offenders_in premise_offenders 1 gs) (product_in premise_counts gs);
  offers = survey (offenders_in premise_offenders 1 gs) (sum_in premise_counts gs);
  conclusions = survey (offenders_in conclusion_offenders 1 gs) (product_in conclusion_counts gs);
  rules = survey (offenders_in rule_offenders 1 gs) (sum_in rule_counts gs);
}

-- one member more
abbrev pub members_more : Members → Account → Members
members_more m a = record {
  nodes = min (m.nodes + a.nodes) most;
  conjunctions = survey_product m.conjunctions (survey_placed m.nodes a.conjunction);
  choices = survey_product m.choices (survey_placed m.nodes a.premise);
  offers = survey_sum m.offers (survey_placed m.nodes a.premise);
  conclusions = survey_product m.conclusions (survey_placed m.nodes a.conclusion);
  rules = survey_sum m.rules (survey_placed m.nodes a.rule);
}

-- a formula by its parts

abbrev pub plain_account : Counts → Account
plain_account counts = record {
  nodes = 1;
  conjunction = record { offender = None; counts = counts };
  premise = record { offender = None; counts = counts };
  conclusion = record { offender = None; counts = counts };
  rule = record { offender = None; counts = counts };
}

abbrev pub false_account : Account
false_account = record {
  nodes = 1;
  conjunction = offending;
  premise = offending;
  conclusion = record { offender = None; counts = saturated no_atom };
  rule = record { offender = None; counts = saturated no_atom };
}

-- the number of arguments of an atom
abbrev pub arguments_of : Formula → Option ℕ
arguments_of (Pred p ts) = Some (length ts)
arguments_of (Equal t u) = Some 2
arguments_of _ = None

-- a negation of an atom, or of another formula
abbrev pub negated : Option ℕ → Survey
negated (Some arguments) = record { offender = None; counts = saturated (one_atom arguments) }
negated None = record { offender = Some 0; counts = saturated (one_atom 0) }

abbrev pub negation_account : Option ℕ → ℕ → Account
negation_account arguments count = record {
  nodes = min (count + 1) most;
  conjunction = negated arguments;
  premise = negated arguments;
  conclusion = negated arguments;
  rule = negated arguments;
}

-- the reading of rules, unless the members are plain
abbrev pub unless_plain : Option ℕ → Survey → Survey → Survey
unless_plain (Some node) rules plain = rules
unless_plain None rules plain = plain

abbrev pub conjunction_account : Members → Account
conjunction_account m = record {
  nodes = m.nodes;
  conjunction = m.conjunctions;
  premise = m.choices;
  conclusion = m.conjunctions;
  rule = unless_plain m.conjunctions.offender m.rules m.conjunctions;
}

abbrev pub disjunction_account : Members → Account
disjunction_account m = record {
  nodes = m.nodes;
  conjunction = offending;
  premise = m.offers;
  conclusion = m.conclusions;
  rule = m.conclusions;
}

abbrev pub universal_account : ℕ → Account → Account
universal_account count a = record {
  nodes = min (a.nodes + 1) most;
  conjunction = offending;
  premise = offending;
  conclusion = offending;
  rule = survey_bound count a.rule;
}

abbrev pub existential_account : ℕ → Account → Account
existential_account count a = record {
  nodes = min (a.nodes + 1) most;
  conjunction = offending;
  premise = survey_bound count a.premise;
  conclusion = survey_bound count a.conclusion;
  rule = survey_bound count a.conclusion;
}

-- the rule of a connective, by its sides as premises and rules
abbrev pub binary_rule : Op → Survey → Survey → Survey → Survey → Survey
binary_rule Implies first second left right = survey_product first right
binary_rule Implied first second left right = survey_product second left
binary_rule Iff first second left right =
    survey_sum (survey_product first right) (survey_product second left)
binary_rule _ first second left right = offending

abbrev pub binary_account : Op → Account → Account → Account
binary_account op a b = record {
  nodes = min (min (a.nodes + 1) most + b.nodes) most;
  conjunction = offending;
  premise = offending;
  conclusion = offending;
  rule = binary_rule op (survey_placed 1 a.premise)
      (survey_placed (min (a.nodes + 1) most) b.premise)
      (survey_placed 1 a.rule) (survey_placed (min (a.nodes + 1) most) b.rule);
}
