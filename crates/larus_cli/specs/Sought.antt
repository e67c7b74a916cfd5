-- What was put where a proof within a bound was sought, or a countermodel.
use Rattle.std.specs.Prelude.{ℕ, ◌≤◌}
use Rattle.text_core.specs.Names.{Text}
use Rattle.vernacular_tree.specs.declared.tree.Body.{Body}
use Rattle.vernacular_tree.specs.Sizes.{size}
use Rattle.io_core.specs.Known.{Known}
use Rattle.io_core.specs.Stream.{Stream, Puts}
use Rattle.coherent_form.specs.Tasks.{CitedTask}
use Rattle.proof_text.specs.declared.part.Edition.TheVariants.{First}
use Rattle.model_text.specs.Canonical.{model_text}
use Rattle.model_text.specs.Structures.{Finite}
use Rattle.model_text.specs.Texts.{IsModelOf}
use Rattle.larus_cli.specs.Texts.{none_text}
use Rattle.larus_cli.specs.Read.{ReadsTask}
use Rattle.larus_cli.specs.Smallest.{IsSmallest, HasNoProof}
use Rattle.larus_cli.specs.LeastModel.{IsLeastModel, HasNoModel}
use Rattle.larus_cli.specs.Printed.{ReadsBackAs}

-- what was put is a text that reads back as a script of version 1, which is accepted as a smallest
-- proof of the problem's task, and that one is within the bound
pub record SmallestPrinted (files : Known) (problem : Text) (most : ℕ) (old new : Stream)
    : Type 0 where
  pub task : CitedTask
  pub body : Body
  pub reads : ReadsTask files problem task
  pub smallest : IsSmallest task body
  pub within : size body ≤ most
  pub text : Text
  pub puts : Puts old new text
  pub back : ReadsBackAs First text task body

-- no proof of the problem's task is within the bound, and that was put
pub record NoneTold (files : Known) (problem : Text) (most : ℕ) (old new : Stream)
    : Type 0 where
  pub task : CitedTask
  pub reads : ReadsTask files problem task
  pub none : HasNoProof task most
  pub puts : Puts old new (none_text most)

-- what was put is the canonical text of a countermodel of the problem with the fewest elements, at
-- most so many, and spells it
pub record LeastModelPrinted (files : Known) (problem : Text) (size : ℕ) (old new : Stream)
    : Type 0 where
  pub task : CitedTask
  pub m : Finite
  pub reads : ReadsTask files problem task
  pub least : IsLeastModel reads.formulas task size m
  pub puts : Puts old new (model_text m)
  pub back : IsModelOf (model_text m) m

-- no structure with at most so many elements is a countermodel of the problem, and that was put
pub record NoModelTold (files : Known) (problem : Text) (size : ℕ) (old new : Stream)
    : Type 0 where
  pub task : CitedTask
  pub reads : ReadsTask files problem task
  pub none : HasNoModel reads.formulas task size
  pub puts : Puts old new (none_text size)
