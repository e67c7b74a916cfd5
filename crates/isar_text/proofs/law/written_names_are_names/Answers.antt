use Rattle.isar_text.proofs.NamesRead.{name_decoded, name_written, written_named}
use Rattle.isar_text.proofs.law.written_names_are_names.Goals as goal

pub returns-clause-written : goal.returns-clause-written
returns-clause-written c name named = name_written name named

pub returns-clause-read : goal.returns-clause-read
returns-clause-read c name named = name_decoded name named

pub returns-clause-named : goal.returns-clause-named
returns-clause-named c word written = let known = written_named word written in (known.name, known.written)
