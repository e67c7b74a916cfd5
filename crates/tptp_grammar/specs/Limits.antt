-- What is refused at a token with which the tokens still begin a text: a level that is too deep, a
-- role that is none, and a variable that no quantifier binds. A watcher finds it; it keeps the
-- variables that are bound.
use Rattle.std.specs.Prelude.{◌≡◌, ℕ, ◌-◌, nat_le, nat_lt, ◌==◌, Bool, List, ◌∷◌, filter, Result, Ok, Err, if◌then◌else◌}
use Rattle.std.specs.List.{list_any}
use Rattle.token_grammar.specs.Watch.{Watcher, watcher_of}
use Rattle.text_core.specs.declared.limits.TheConstants.{MOST_LEVELS}
use Rattle.tptp_grammar.specs.declared.limit.Limit.{Limit}
use Rattle.tptp_grammar.specs.declared.limit.Limit.TheVariants.{TooDeep, UnknownRole, FreeVariable}
use Rattle.tptp_grammar.specs.declared.scopes.Binding.{Binding}
use Rattle.tptp_grammar.specs.declared.mark.Mark.{Mark}
use Rattle.tptp_grammar.specs.declared.mark.Mark.TheVariants.{Role, Upper}
use Rattle.tptp_grammar.specs.declared.item_part.ItemPart.{ItemPart}
use Rattle.tptp_grammar.specs.declared.item_part.ItemPart.TheVariants.{RoleWord, Variable, Binds, Opens}

-- Variables that are bound, the newest first, each with the level that its quantifier opened. In `!
-- [X] : p(X) & ~ q(X)` they go so: `!` opens level 1, and its list binds X there, so that they are
-- X at 1; p's X is used at level 1 and is bound; `~` opens level 1 again, which ends all that was
-- bound at 1, so that they are none; q's X is used and is free.
abbrev pub Bindings : Type 0
Bindings = List Binding

-- those that are still bound where only so many levels are open
abbrev pub open_at : ℕ → Bindings → Bindings
open_at level bindings = filter (λ b. nat_le b.level level) bindings

-- whether the variable with this number is bound
abbrev pub is_bound : ℕ → Bindings → Bool
is_bound number bindings = list_any (λ b. b.variable == number) bindings

-- a level is opened
abbrev pub opened : ℕ → Bindings → Result Bindings Limit
opened level bindings =
    if nat_lt MOST_LEVELS level then Err TooDeep else Ok (open_at (level - 1) bindings)

-- a variable is used
abbrev pub used : ℕ → Bindings → Result Bindings Limit
used number bindings = if is_bound number bindings then Ok bindings else Err FreeVariable

-- what the watcher does at a token, with the part that took it
abbrev pub look : Bindings → ItemPart → Mark → Result Bindings Limit
look bindings (Opens level k) t = opened level bindings
look bindings RoleWord (Role role) = Ok bindings
look bindings RoleWord t = Err UnknownRole
look bindings (Binds level) (Upper number) =
    Ok (record { level = level; variable = number } ∷ bindings)
look bindings (Variable level) (Upper number) = used number (open_at level bindings)
look bindings _ t = Ok bindings

-- the watcher of items
abbrev pub items_watcher : Watcher ItemPart Mark Bindings Limit
items_watcher = watcher_of look

-- what a step of the watcher's own data does: it goes on to the later bindings, or finds this limit
abbrev pub IsLook : Result Bindings Limit → Bindings → Result (Unit {0}) Limit → Type 0
IsLook looked after (Ok done) = looked ≡ Ok after
IsLook looked after (Err limit) = looked ≡ Err limit
