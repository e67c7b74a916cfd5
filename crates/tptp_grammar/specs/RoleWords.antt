-- The role that a word tells. Source: the TPTP syntax, FOF.
use Rattle.std.specs.Prelude.{List, [], ◌∷◌, find, Option}
use Rattle.std.specs.Str.{bytes_eq}
use Rattle.text_core.specs.Names.{Text}
use Rattle.logic_core.specs.declared.problem.Role.{Role}
use Rattle.logic_core.specs.declared.problem.Role.TheVariants.{Axiom, Hypothesis, Definition, Assumption, Lemma, Theorem, Corollary, NegatedConjecture, Conjecture}
use Rattle.tptp_grammar.specs.Roles.{role_text}

-- the nine roles
abbrev pub roles : List Role
roles = Axiom ∷ Hypothesis ∷ Definition ∷ Assumption ∷ Lemma ∷ Theorem ∷ Corollary ∷
    NegatedConjecture ∷ Conjecture ∷ []

-- the role that a word tells
unfoldable pub role_of : Text → Option Role
role_of text = find (λ role. bytes_eq text (role_text role)) roles
