-- The roles of formulas and the words that tell them. Source: the TPTP syntax, FOF.
use Rattle.std.specs.Prelude.{codes}
use Rattle.text_core.specs.Names.{Text}
use Rattle.logic_core.specs.declared.problem.Role.{Role}
use Rattle.logic_core.specs.declared.problem.Role.TheVariants.{Axiom, Hypothesis, Definition, Assumption, Lemma, Theorem, Corollary, NegatedConjecture, Conjecture}

-- the word that tells a role
abbrev pub role_text : Role → Text
role_text Axiom = codes "axiom"
role_text Hypothesis = codes "hypothesis"
role_text Definition = codes "definition"
role_text Assumption = codes "assumption"
role_text Lemma = codes "lemma"
role_text Theorem = codes "theorem"
role_text Corollary = codes "corollary"
role_text NegatedConjecture = codes "negated_conjecture"
role_text Conjecture = codes "conjecture"
