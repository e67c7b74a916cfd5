-- How the branches of a split follow one another.
use Rattle.std.specs.Prelude.{ℕ, suc, List, [], ◌∷◌, ◌++◌}
use Rattle.text_core.specs.Names.{Text}
use Rattle.logic_core.specs.declared.form.Atom.{Atom}
use Rattle.vernacular_tree.specs.Contexts.{with_facts}
use Rattle.vernacular_tree.specs.declared.context.Context.{Context}
use Rattle.vernacular_tree.specs.declared.tree.Body.{Body}
use Rattle.coherent_form.specs.Tasks.{CitedTask}
use Rattle.proof_text.specs.Printing.{printed_facts}
use Rattle.proof_text.specs.ScriptOf.{first_list, other_lists}
use Rattle.english_text.specs.Sentences.{case_text}
use Rattle.english_text.specs.English.{body_text}

-- a body behind a list of facts, and bodies behind lists
abbrev pub branch_text : CitedTask → ℕ → Context → Body → List Atom → Text
branch_text task level context body facts = case_text level (printed_facts task facts) ++
    body_text task (suc level) body (with_facts context facts)

abbrev pub branches_text : CitedTask → ℕ → Context → List Body → List (List Atom) → Text
branches_text task level context [] lists = []
branches_text task level context (body ∷ bodies) lists =
    branch_text task level context body (first_list lists) ++
    branches_text task level context bodies (other_lists lists)
