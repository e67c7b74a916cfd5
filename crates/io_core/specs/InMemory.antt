-- What the files and the sink in memory are seen as, and what their calls answer.
use Rattle.std.specs.Prelude.{ℕ, ◌-◌, min, Bool, ◌||◌, ◌==◌, List, [], ◌∷◌, length, Option, None, Some, is_some, unwrap_or, if◌then◌else◌, nat_lt, find}
use Rattle.std.specs.Option.{option_map}
use Rattle.std.specs.List.{list_any}
use Rattle.std.specs.Coded.{Coded, code_by, coded×, coded_ℕ, coded_list}
use Rattle.std.specs.FinMap as finite
use Rattle.std.proofs.Common.{refl}
use Rattle.text_core.specs.Names.{Text}
use Rattle.io_core.specs.Held.{Held}
use Rattle.io_core.specs.Causes.{raised}
use Rattle.io_core.specs.Known.{Known}
use Rattle.io_core.specs.Stream.{Stream}

-- files in memory
pub record StoredFiles : Type 0 where
  -- the bytes of each name
  pub held : Held
  -- how many fetches failed
  pub faults : ℕ
  -- how many bytes were handed over
  pub given : ℕ
  -- the name of the last fetch that failed
  pub blamed : Text
  -- the numbers of the fetches that are to fail
  pub failing : List ℕ
  -- how many fetches there were
  pub fetches : ℕ

-- stored files are stored as the tuple of their fields
abbrev pub stored_files_code : Coded StoredFiles
stored_files_code =
    code_by (Held × (ℕ × (ℕ × (Text × (List ℕ × ℕ)))))
    (coded× (finite.code (coded_list coded_ℕ) (coded_list coded_ℕ)) (coded× coded_ℕ
    (coded× coded_ℕ (coded× (coded_list coded_ℕ) (coded× (coded_list coded_ℕ) coded_ℕ)))))
    (λ f. (f.held, (f.faults, (f.given, (f.blamed, (f.failing, f.fetches))))))
    (λ t. record {
      held = t.0;
      faults = t.1.0;
      given = t.1.1.0;
      blamed = t.1.1.1.0;
      failing =
          t.1.1.1.1.0;
      fetches = t.1.1.1.1.1;
    })
    (λ _. refl)

-- stored files are known whole
abbrev pub stored_known : StoredFiles → Known
stored_known files = record {
  held = Some files.held;
  blamed = Some files.blamed;
  faults = files.faults;
  given = files.given;
}

-- what the next fetch finds under a name: nothing where it is to fail, and else the held bytes
abbrev pub found : StoredFiles → Text → Option (List ℕ)
found files name =
    if list_any (λ n. n == files.fetches) files.failing then None else finite.get files.held name

-- the count of bytes handed over after a fetch that found this; nothing found adds nothing
abbrev pub given_after : StoredFiles → Option (List ℕ) → ℕ
given_after files None = files.given
given_after files (Some bytes) = raised files.given (length bytes)

-- a sink in memory
pub record StoredSink : Type 0 where
  -- the bytes that it holds
  pub contents : List ℕ
  -- how many bytes it has room for in all
  pub room : ℕ
  -- how many puts failed
  pub faults : ℕ
  -- the number of each put that is to fail, with how many bytes it then appends at most
  pub failing : List (ℕ × ℕ)
  -- how many puts there were of a piece that was not empty
  pub puts : ℕ

-- a stored sink is known whole
abbrev pub stored_stream : StoredSink → Stream
stored_stream sink = record { contents = Some sink.contents; faults = sink.faults }

-- how many bytes the next put appends at most where it is to fail; of several entries the first
-- counts
abbrev pub listed : StoredSink → Option ℕ
listed sink = option_map (λ e. e.1) (find (λ e. e.0 == sink.puts) sink.failing)

-- how many bytes still fit
abbrev pub free : StoredSink → ℕ
free sink = sink.room - length sink.contents

-- how many bytes of a piece the next put appends: what fits, and of a listed put no more than is
-- listed
abbrev pub taken : StoredSink → List ℕ → ℕ
taken sink piece = min (min (free sink) (length piece)) (unwrap_or (listed sink) (length piece))

-- whether the next put of a piece that is not empty fails: it is listed, or the piece does not fit
abbrev pub put_fails : StoredSink → List ℕ → Bool
put_fails sink piece = is_some (listed sink) || nat_lt (free sink) (length piece)

-- the count of puts after the next one of this piece; an empty piece is no put
abbrev pub puts_after : StoredSink → List ℕ → ℕ
puts_after sink [] = sink.puts
puts_after sink (b ∷ bs) = raised sink.puts 1
