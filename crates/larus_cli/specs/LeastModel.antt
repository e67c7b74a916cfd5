-- Which countermodels of a problem are least, and when it has none with few elements.
use Rattle.std.specs.Prelude.{ℕ, List}
use Rattle.logic_core.specs.declared.problem.Fof.{Fof}
use Rattle.coherent_form.specs.Tasks.{CitedTask}
use Rattle.model_text.specs.Structures.{Finite}
use Rattle.model_search.specs.LeastModels.{IsLeast, HasNone}

-- a countermodel with at most so many elements, and none has fewer
abbrev pub IsLeastModel : List Fof → CitedTask → ℕ → Finite → Type 0
IsLeastModel formulas task size m = IsLeast task.tables.constants formulas size m

-- no structure with at most so many elements is a countermodel
abbrev pub HasNoModel : List Fof → CitedTask → ℕ → Type 0
HasNoModel formulas task size = HasNone task.tables.constants formulas size
