-- How the record of a proof is kept: an entry for each rule application, whose arguments are a part
-- of one list.
use Rattle.std.specs.Prelude.{ℕ, ◌+◌, ◌*◌, ◌≤◌, ◌≡◌, List, [], ◌∷◌, take, drop, length}
use Rattle.text_core.specs.declared.limits.TheConstants.{MOST_FORM_VARIABLES}
use Rattle.vernacular_tree.specs.declared.tree.Node.{Node}
use Rattle.vernacular_tree.specs.declared.tree.Node.TheVariants as node
use Rattle.trail_search.specs.declared.entry.Entry.{Entry}
use Rattle.trail_search.specs.declared.entry.Rule as rule
use Rattle.trail_search.specs.declared.entry.Rule.TheVariants.{Mp, Cs, As, Efq}

-- a rule with its arguments
abbrev pub node_of : rule.Rule → List ℕ → Node
node_of (Mp form) args = node.Mp form args
node_of (Cs line branches) args = node.Cs line branches
node_of (As disjunct) args = node.As disjunct args
node_of Efq args = node.Efq

-- the rule application of an entry
abbrev pub node_in : List ℕ → Entry → Node
node_in args entry = node_of entry.rule (take entry.count (drop entry.start args))

-- the entries' parts follow one another from a start to an end, none of them long
abbrev pub AreLaid : ℕ → List Entry → ℕ → Type 0
AreLaid at [] end = at ≡ end
AreLaid at (entry ∷ entries) end = (entry.start ≡ at) × (entry.count ≤ MOST_FORM_VARIABLES)
    × AreLaid (at + entry.count) entries end

-- entries, their arguments, and room for so many of them
pub record AreEntries (entries : List Entry) (args : List ℕ) (room entries_room args_room : ℕ)
    : Type 0 where
  pub laid : AreLaid 0 entries (length args)
  pub within : length entries ≤ room
  pub entries_fit : room ≤ entries_room
  pub args_fit : room * MOST_FORM_VARIABLES ≤ args_room
