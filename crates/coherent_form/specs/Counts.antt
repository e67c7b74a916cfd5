-- How large the reading of a formula is, added up node by node: how many alternatives or forms
-- there are, and the greatest numbers of variables and atoms of one of them and of arguments of an
-- atom.
use Rattle.std.specs.Prelude.{ℕ, ◌+◌, ◌*◌, ◌≤◌, min, max, length, if◌then◌else◌}
use Rattle.text_core.specs.declared.limits.TheConstants.{MOST_FORMULA_FORMS, MOST_FORM_VARIABLES, MOST_FORM_ATOMS, MOST_ARGUMENTS}
use Rattle.logic_core.specs.declared.formula.Op.TheVariants.{Implies, Implied, Iff}
use Rattle.logic_core.specs.declared.formula.Formula.{Formula, Pred, Equal, Not', And', Or', Binary', ForAll', Exists', Row_of-Formula, end_of-Formula, more_of-Formula}
use Rattle.coherent_form.specs.Offending.{are_plain}
use Rattle.coherent_form.specs.declared.counts.Counts.{Counts}

-- each of one reading with each of another
abbrev pub product : Counts → Counts → Counts
product a b = record {
  forms = a.forms * b.forms;
  variables = a.variables + b.variables;
  atoms = a.atoms + b.atoms;
  arguments = max a.arguments b.arguments;
}

-- all of one reading and all of another
abbrev pub sum : Counts → Counts → Counts
sum a b = record {
  forms = a.forms + b.forms;
  variables = max a.variables b.variables;
  atoms = max a.atoms b.atoms;
  arguments = max a.arguments b.arguments;
}

-- with variables in front
abbrev pub bound : ℕ → Counts → Counts
bound count a = record a { variables = count + a.variables }

abbrev pub no_form : Counts
no_form = record { forms = 0; variables = 0; atoms = 0; arguments = 0 }

abbrev pub no_atom : Counts
no_atom = record { forms = 1; variables = 0; atoms = 0; arguments = 0 }

abbrev pub one_atom : ℕ → Counts
one_atom arguments = record { forms = 1; variables = 0; atoms = 1; arguments = arguments }

-- as they are told
abbrev pub most : ℕ
most = 4294967295

abbrev pub saturated : Counts → Counts
saturated a = record {
  forms = min a.forms most;
  variables = min a.variables most;
  atoms = min a.atoms most;
  arguments = min a.arguments most;
}

-- the number of arguments of an atom
abbrev pub argument_count : Formula → ℕ
argument_count (Pred p ts) = length ts
argument_count (Equal t u) = 2
argument_count _ = 0

abbrev mutual
  pub conjunction_counts : Formula → Counts
  conjunction_counts (Pred p ts) = one_atom (length ts)
  conjunction_counts (Equal t u) = one_atom 2
  conjunction_counts (Not' _ (more_of-Formula g _)) = one_atom (argument_count g)
  conjunction_counts (And' _ members) = conjunctions_counts members
  conjunction_counts _ = no_atom

  pub conjunctions_counts : {n : _} → Row_of-Formula n → Counts
  conjunctions_counts end_of-Formula = no_atom
  conjunctions_counts (more_of-Formula g rest) = product (conjunction_counts g) (conjunctions_counts rest)

abbrev mutual
  pub premise_counts : Formula → Counts
  premise_counts (And' _ members) = choices_counts members
  premise_counts (Or' _ members) = offers_counts members
  premise_counts (Exists' xs _ (more_of-Formula g _)) = bound (length xs) (premise_counts g)
  premise_counts f = conjunction_counts f

  pub choices_counts : {n : _} → Row_of-Formula n → Counts
  choices_counts end_of-Formula = no_atom
  choices_counts (more_of-Formula g rest) = product (premise_counts g) (choices_counts rest)

  pub offers_counts : {n : _} → Row_of-Formula n → Counts
  offers_counts end_of-Formula = no_form
  offers_counts (more_of-Formula g rest) = sum (premise_counts g) (offers_counts rest)

abbrev mutual
  pub conclusion_counts : Formula → Counts
  conclusion_counts (Or' _ members) = conclusions_counts members
  conclusion_counts (Exists' xs _ (more_of-Formula g _)) = bound (length xs) (conclusion_counts g)
  conclusion_counts f = conjunction_counts f

  pub conclusions_counts : {n : _} → Row_of-Formula n → Counts
  conclusions_counts end_of-Formula = no_atom
  conclusions_counts (more_of-Formula g rest) = product (conclusion_counts g) (conclusions_counts rest)

abbrev mutual
  pub rule_counts : Formula → Counts
  rule_counts (ForAll' xs _ (more_of-Formula g _)) = bound (length xs) (rule_counts g)
  rule_counts (Binary' Implies _ (more_of-Formula g _) _ (more_of-Formula h _)) =
      product (premise_counts g) (rule_counts h)
  rule_counts (Binary' Implied _ (more_of-Formula g _) _ (more_of-Formula h _)) =
      product (premise_counts h) (rule_counts g)
  rule_counts (Binary' Iff _ (more_of-Formula g _) _ (more_of-Formula h _)) =
      sum (product (premise_counts g) (rule_counts h)) (product (premise_counts h) (rule_counts g))
  rule_counts (And' shape members) =
      if are_plain members then conjunctions_counts members else rules_counts members
  rule_counts f = conclusion_counts f

  pub rules_counts : {n : _} → Row_of-Formula n → Counts
  rules_counts end_of-Formula = no_form
  rules_counts (more_of-Formula g rest) = sum (rule_counts g) (rules_counts rest)

-- counts are within the limits
pub record AreSmall (c : Counts) : Type 0 where
  pub forms : c.forms ≤ MOST_FORMULA_FORMS
  pub variables : c.variables ≤ MOST_FORM_VARIABLES
  pub atoms : c.atoms ≤ MOST_FORM_ATOMS
  pub arguments : c.arguments ≤ MOST_ARGUMENTS
