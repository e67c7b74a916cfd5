-- What the struct `IsarTokens` holds, as a task and the tokens of a text of it.
use Rattle.std.specs.Prelude.{All, map}
use Rattle.isar_text.specs.declared.token_list.IsarTokens.TheInside.{Inside}
use Rattle.isar_text.specs.Spans.{token_of, IsWithin}
use Rattle.isar_text.specs.Values.{Lexed}

-- the task with the tokens of all spans
abbrev pub lexed_of : Inside → Lexed
lexed_of t = record { task = t.task.now; tokens = map (token_of t.source.now) t.spans }

-- the spans are parts of the source
abbrev pub AreWithin : Inside → Type 0
AreWithin t = All (IsWithin t.source.now) t.spans
