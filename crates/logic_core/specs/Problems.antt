-- What it means that a problem's conjecture follows.
use Rattle.std.specs.Prelude.{List, []}
use Rattle.std.specs.List.{AllByRecursion}
use Rattle.text_core.specs.Lists.{SomeOf}
use Rattle.logic_core.specs.Truth.{Structure, IsTrueIn}
use Rattle.logic_core.specs.declared.problem.Role.{Role}
use Rattle.logic_core.specs.declared.problem.Role.TheVariants.{Conjecture}
use Rattle.logic_core.specs.declared.problem.Fof.{Fof}

-- a premise has any role but that of the conjecture
abbrev pub IfPremise : Role → Type 0 → Type 0
IfPremise Conjecture P = Unit {0}
IfPremise _ P = P

-- and a conjecture has that role
abbrev pub IfConjecture : Role → Type 0 → Type 0
IfConjecture Conjecture P = P
IfConjecture _ P = ⊥

-- if every premise is true in the structure, then some conjecture is; without one, not every
-- premise is
abbrev pub Follows : Structure → List Fof → Type 0
Follows s problem = AllByRecursion (λ fof. IfPremise fof.role (IsTrueIn s fof.formula [])) problem
    → SomeOf (λ fof. IfConjecture fof.role (IsTrueIn s fof.formula [])) problem
