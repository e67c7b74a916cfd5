-- A file that cannot be opened is refused, wherever in a walk it is.
use Rattle.std.proofs.Common.{ℕ, suc, ◌≡◌, ◌+◌, ◌≤◌, ◌<◌, true, false, List, [], ◌∷◌, length, Option, Some, None, refl, sym, subst, ◌∙◌, append-nil, arith, nat_lt}
use Rattle.std.specs.Prelude.{IsSomeAnd}
use Rattle.std.proofs.lemmas.Bool.Decides.{nat_tests}
use Rattle.std.specs.FinMap as finite
use Rattle.text_core.specs.declared.limits.TheConstants.{MOST_FILE_BYTES, MOST_PROBLEM_BYTES}
use Rattle.text_core.specs.Names.{Text}
use Rattle.logic_core.specs.declared.problem.Item.{Item}
use Rattle.io_core.specs.Held.{Held}
use Rattle.tptp_lexer.specs.Tokens.{Token, Reads}
use Rattle.tptp_lexer.specs.Tokens.Reads.{stop as leaves, blank, comment, token}
use Rattle.include_flat.specs.declared.refusal.FlatWhy.{FlatWhy}
use Rattle.include_flat.specs.declared.refusal.FlatWhy.TheVariants.{Lex, Syntax, FileFault, FileTooLong, AllTooLong, IncludeDepth, TooManyFormulas, Memory}
use Rattle.include_flat.specs.declared.walked.Walked.{Walked}
use Rattle.include_flat.specs.Walks.{Entry, Selections, WalksFile}
use Rattle.include_flat.specs.Walks.Entry.{fetched, missing, stop}
use Rattle.include_flat.specs.Walks.WalksFile.{not_held, too_long, read}
use Rattle.include_flat.specs.Walks.WalksBytes.{no_tokens, no_items}
use Rattle.include_flat.specs.Refusals.{AsksFor, TellsMemoryAlone}
use Rattle.io_core.specs.Known.{Known}
use Rattle.io_core.specs.Fetched.{Stays, Fails, Holds, IsLong, IsTooLong}
use Rattle.io_core.specs.declared.files.FetchFault.{FetchFault}
use Rattle.io_core.specs.declared.files.FetchFault.TheVariants as fetch
use Rattle.tptp_lexer.specs.declared.refusal.LexRefusal.TheVariants as lex
use Rattle.tptp_grammar.specs.declared.refusal.SyntaxRefusal.TheVariants as grammar
use Rattle.include_flat.specs.Opened.{Leaves}
use Rattle.include_flat.specs.Opened.{AreBytesOf, IsTextRefusal, fetch_why}
use Rattle.include_flat.specs.Progress.{Refuses, IsRefusedAt, Refused, OpensTo, Opens, refused_file}
use Rattle.include_flat.proofs.Told.{where_told, wherever_told}
use Rattle.include_flat.proofs.SomeWalk.{some_walk, some_walk_of_bytes}

-- a walk over a file that begins by asking for it
record Asking (held : Held) (name : Text) (left : ℕ) (selections : Selections) : Type 0 where
  pub entry : Entry
  pub back : List Entry
  pub walk : WalksFile held (suc left) selections name (entry ∷ back)
  pub asks : AsksFor name entry

-- each walk over a file begins by asking for it
walk_asks : (held : Held) (name : Text) (left : ℕ) (selections : Selections) (entries : List Entry) → WalksFile held (suc left) selections name entries →
    Asking held name left selections
walk_asks held name left selections _ (not_held none) = record { entry = missing name; back = []; walk = not_held none; asks = refl }
walk_asks held name left selections _ (too_long bytes is long) =
    record { entry = stop name FileTooLong; back = []; walk = too_long bytes is long; asks = refl }
walk_asks held name left selections _ (read {entries = rest} bytes is short walk) =
    record { entry = fetched name (length bytes); back = rest; walk = read bytes is short walk; asks = refl }

-- the walk over a file that is too long is refused
long_refused : (held : Held) (name : Text) (before : Walked) (left : ℕ) (selections : Selections) (found : Option Text) → finite.get held name ≡ found →
    IsSomeAnd found (λ bytes. MOST_FILE_BYTES < length bytes) → Refuses (WalksFile held (suc left) selections name) before name FileTooLong
long_refused held name before left selections None e long = absurd long
long_refused held name before left selections (Some bytes) e long = (stop name FileTooLong ∷ [], too_long bytes e long, refl)

-- a file that could not be fetched
fault_refused_at : (held : Held) (name : Text) (before : Walked) → IsRefusedAt held name before FileFault
fault_refused_at held name before = record {
  anywhere = λ left selections.
      let some = some_walk held (suc left) selections name in
      let asking = walk_asks held name left selections some.entries some.walk in
      ([], asking.entry, asking.back, asking.walk, asking.asks, refl);
}

-- a file that is too long
long_refused_at : (held : Held) (name : Text) (before : Walked) → IsLong held name MOST_FILE_BYTES → IsRefusedAt held name before FileTooLong
long_refused_at held name before long = record {
  anywhere = λ left selections. long_refused held name before left selections (finite.get held name) refl long;
}

-- the test of too many bytes is true where they are too many
many_counted : (before : Walked) (n : ℕ) → MOST_PROBLEM_BYTES < before.bytes + n → nat_lt MOST_PROBLEM_BYTES (before.bytes + n) ≡ true
many_counted before n many = grind (arith, nat_tests)

-- the test of too many bytes is false where they are not too many
few_counted : (before : Walked) (n : ℕ) → before.bytes + n ≤ MOST_PROBLEM_BYTES → nat_lt MOST_PROBLEM_BYTES (before.bytes + n) ≡ false
few_counted before n few = grind (arith, nat_tests)

-- the bytes are too many with those that were fetched before
count_refused_at : (held : Held) (name bytes : Text) (before : Walked) → finite.get held name ≡ Some bytes → length bytes ≤ MOST_FILE_BYTES → MOST_PROBLEM_BYTES < before.bytes + length bytes →
    IsRefusedAt held name before AllTooLong
count_refused_at held name bytes before is short many = record {
  anywhere = λ left selections.
      let some = some_walk_of_bytes held left selections name bytes in
      (fetched name (length bytes) ∷ some.entries, read bytes is short some.walk, rw (many_counted before (length bytes) many));
}

-- the bytes are a text of no items
text_refused_at : (held : Held) (name bytes : Text) (before : Walked) (why : FlatWhy) → finite.get held name ≡ Some bytes → length bytes ≤ MOST_FILE_BYTES →
    before.bytes + length bytes ≤ MOST_PROBLEM_BYTES → IsTextRefusal bytes why → IsRefusedAt held name before why
text_refused_at held name bytes before (Lex refusal) is short few fault = record {
  anywhere = λ left selections. (
    fetched name (length bytes) ∷ stop name (Lex refusal) ∷ [],
    read bytes is short (no_tokens refusal fault),
    rw (few_counted before (length bytes) few),
  );
}
text_refused_at held name bytes before (Syntax refusal) is short few (ts, tokens, fault) = record {
  anywhere = λ left selections. (
    fetched name (length bytes) ∷ stop name (Syntax refusal) ∷ [],
    read bytes is short (no_items ts refusal tokens fault),
    rw (few_counted before (length bytes) few),
  );
}
text_refused_at held name bytes before Memory is short few h = record { anywhere = λ left selections. refl }
text_refused_at held name bytes before FileFault is short few h = absurd h
text_refused_at held name bytes before FileTooLong is short few h = absurd h
text_refused_at held name bytes before AllTooLong is short few h = absurd h
text_refused_at held name bytes before IncludeDepth is short few h = absurd h
text_refused_at held name bytes before TooManyFormulas is short few h = absurd h

-- what the refusal of a text leaves, where no fetch failed
text_leaves : (files later : Known) (name bytes : Text) (why : FlatWhy) → Stays files later → IsTextRefusal bytes why → Leaves files later name why
text_leaves files later name bytes (Lex refusal) stays h = stays
text_leaves files later name bytes (Syntax refusal) stays h = stays
text_leaves files later name bytes Memory stays h = stays
text_leaves files later name bytes FileFault stays h = absurd h
text_leaves files later name bytes FileTooLong stays h = absurd h
text_leaves files later name bytes AllTooLong stays h = absurd h
text_leaves files later name bytes IncludeDepth stays h = absurd h
text_leaves files later name bytes TooManyFormulas stays h = absurd h

-- a file whose bytes are a text of items, and not too many, opens to the items
opens_at : (held : Held) (name bytes : Text) (items : List Item) (before after : Walked) → finite.get held name ≡ Some bytes → length bytes ≤ MOST_FILE_BYTES →
    before.bytes + length bytes ≤ MOST_PROBLEM_BYTES → AreBytesOf bytes items → after.bytes ≡ before.bytes + length bytes →
    after.problem ≡ before.problem → OpensTo held name items before after
opens_at held name bytes items before after is short few text counted problem = record {
  bytes = bytes;
  held_is = is;
  short = short;
  read = text;
  passed = record {
    undecided = rw (few_counted before (length bytes) few);
    bytes = let sum = counted in omega arith;
    problem = problem ∙ sym (append-nil before.problem);
  };
}

-- where nothing may be left, nothing is read
nothing_read : (left : ℕ → Text → Type 0) → ((at : ℕ) (bytes : Text) → left at bytes → ⊥) → (at : ℕ) (bytes : Text) (ts : List Token) →
    Reads left at bytes ts → ⊥
nothing_read left none at bytes _ (leaves h) = none at bytes h
nothing_read left none at _ ts (blank {rest = rest} b walk) = nothing_read left none (at + 1) rest ts walk
nothing_read left none at bytes ts (comment text rest split is walk) = nothing_read left none (at + length text) rest ts walk
nothing_read left none at bytes _ (token {ts = ts} kind text rest split is walk) = nothing_read left none (at + length text) rest ts walk

-- a refused text tells of no want of memory
text_memory : (name bytes : Text) (why : FlatWhy) → IsTextRefusal bytes why → TellsMemoryAlone (refused_file name why) why
text_memory name bytes (Lex lex.Memory) (ts, walk) = nothing_read _ (λ at rest h. h) 0 bytes ts walk
text_memory name bytes (Lex refusal) h = tt
text_memory name bytes (Syntax grammar.Memory) (ts, tokens, fault) = absurd fault
text_memory name bytes (Syntax refusal) h = tt
text_memory name bytes Memory h = refl
text_memory name bytes FileFault h = absurd h
text_memory name bytes FileTooLong h = absurd h
text_memory name bytes AllTooLong h = absurd h
text_memory name bytes IncludeDepth h = absurd h
text_memory name bytes TooManyFormulas h = absurd h

module _ (files later : Known) (name : Text) (before : Walked) where
  -- a refusal of the fetch
  pub fetch_refused : (fault : FetchFault) (why : FlatWhy) → why ≡ fetch_why fault → (fault ≡ fetch.Failed → Fails files later name) →
      (fault ≡ fetch.TooLong → IsTooLong MOST_FILE_BYTES name files later) → ((fault ≡ fetch.Failed → ⊥) → Stays files later) →
      Refused files later name before why
  fetch_refused fault why is failed long stays = subst (Refused files later name before) (sym is) (by fault failed long stays)
    where
      by : (fault : FetchFault) → (fault ≡ fetch.Failed → Fails files later name) →
          (fault ≡ fetch.TooLong → IsTooLong MOST_FILE_BYTES name files later) → ((fault ≡ fetch.Failed → ⊥) → Stays files later) →
          Refused files later name before (fetch_why fault)
      by fetch.Failed failed long stays = record {
        leaves = failed refl;
        memory = tt;
        ends = wherever_told files.held _ (λ held. fault_refused_at held name before);
      }
      by fetch.TooLong failed long stays = record {
        leaves = stays (λ e. cc);
        memory = tt;
        ends = where_told files.held _ _ (λ held more. long_refused_at held name before more) (long refl).longer;
      }
      by fetch.Memory failed long stays = record {
        leaves = stays (λ e. cc);
        memory = refl;
        ends = wherever_told files.held _ (λ held. record { anywhere = λ left selections. refl });
      }

  -- the bytes are too many with those that were fetched before
  pub count_refused : (bytes : Text) (why : FlatWhy) → Stays files later → Holds files name bytes MOST_FILE_BYTES →
      MOST_PROBLEM_BYTES < before.bytes + length bytes → why ≡ AllTooLong → Refused files later name before why
  count_refused bytes why stays h many reason = subst (Refused files later name before) (sym reason) (record {
    leaves = stays;
    memory = tt;
    ends = where_told files.held _ _ (λ held is. count_refused_at held name bytes before is h.within many) h.held;
  })

  -- the bytes are a text of no items
  pub text_refused : (bytes : Text) (why : FlatWhy) → Stays files later → Holds files name bytes MOST_FILE_BYTES →
      before.bytes + length bytes ≤ MOST_PROBLEM_BYTES → IsTextRefusal bytes why → Refused files later name before why
  text_refused bytes why stays h few r = record {
    leaves = text_leaves files later name bytes why stays r;
    memory = text_memory name bytes why r;
    ends = where_told files.held _ _ (λ held is. text_refused_at held name bytes before why is h.within few r) h.held;
  }

  -- the bytes are a text of items
  pub file_opened : (bytes : Text) (items : List Item) (after : Walked) → Stays files later → Holds files name bytes MOST_FILE_BYTES →
      before.bytes + length bytes ≤ MOST_PROBLEM_BYTES → AreBytesOf bytes items → after.bytes ≡ before.bytes + length bytes →
      after.problem ≡ before.problem → Opens files later name items before after
  file_opened bytes items after stays h few text counted problem = record {
    stays = stays;
    opens = where_told files.held _ _ (λ held is. opens_at held name bytes items before after is h.within few text counted problem) h.held;
  }

-- the rules for a file that is opened or refused
pub ruleset openings = (fetch_refused, count_refused, text_refused, file_opened)
