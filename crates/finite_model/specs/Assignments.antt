-- The values of variables as an assignment.
use Rattle.std.specs.Prelude.{List, [], ◌∷◌, map, reverse, ℕ}
use Rattle.text_core.specs.Names.{Text}
use Rattle.logic_core.specs.Truth.{Assignment}
use Rattle.finite_model.specs.declared.values.Binding.{Binding}

-- a variable with its value
abbrev pub pair_of : Binding → Text × ℕ
pair_of binding = (binding.variable.now, binding.element)

-- the variables with their values, the newest first
abbrev pub assignment : List Binding → Assignment
assignment bindings = reverse (map pair_of bindings)

-- those without the newest
abbrev pub older : Assignment → Assignment
older [] = []
older (newest ∷ others) = others
