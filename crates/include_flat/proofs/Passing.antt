-- How parts of a walk follow one another.
use Rattle.std.proofs.Common.{ℕ, suc, ◌≡◌, ◌+◌, ◌-◌, ◌<◌, ◌⊎◌, inl, inr, List, [], ◌∷◌, ◌++◌, length, Option, Some, refl, sym, ap, subst, ◌∙◌, append_assoc, append-nil, arith}
use Rattle.std.specs.Prelude.{IfSome}
use Rattle.std.proofs.lemmas.List.{length-append}
use Rattle.text_core.specs.Names.{Text}
use Rattle.logic_core.specs.declared.problem.Fof.{Fof}
use Rattle.logic_core.specs.declared.problem.Item.{Item}
use Rattle.logic_core.specs.declared.problem.Item.TheVariants.{Fof as ItemFof, Include}
use Rattle.io_core.specs.Held.{Held}
use Rattle.include_flat.specs.declared.refusal.FlatWhy.{FlatWhy}
use Rattle.include_flat.specs.declared.refusal.FlatWhy.TheVariants.{Lex, Syntax, FileFault, FileTooLong, AllTooLong, IncludeDepth, TooManyFormulas, Memory}
use Rattle.include_flat.specs.declared.walked.Walked.{Walked}
use Rattle.include_flat.specs.Walks.{Entry, Selections, WalksFile, WalksItems, kept_entries, with_selection}
use Rattle.include_flat.specs.Walks.Entry.{fetched, kept, missing, stop}
use Rattle.include_flat.specs.Walks.WalksFile.{too_deep, read}
use Rattle.include_flat.specs.Walks.WalksBytes.{with_items}
use Rattle.include_flat.specs.Walks.WalksItems.{end, formula, inclusion}
use Rattle.include_flat.specs.Flattened.{decision_after, is_refused, kept_of}
use Rattle.io_core.specs.Known.{Known}
use Rattle.io_core.specs.Fetched.{Stays}
use Rattle.include_flat.specs.Opened.{Leaves}
use Rattle.include_flat.specs.Progress.{bytes_of, decided, Passes, AsksAt, Refuses, over_file, over_items, PassesPart, PassesOver, RefusesOver, OpensTo, Opens, refused_file, Refused, IsTooMany}
use Rattle.io_core.proofs.Laws.{stays_same, stays_on}
use Rattle.include_flat.proofs.Told.{where_told, wherever_told, both_told, leaves_on}
use Rattle.include_flat.proofs.Decisions.{decided_front, undecided_front}
use Rattle.include_flat.proofs.SomeWalk.{some_walk_of_items}

-- the bytes of two lists of entries, one behind the other
bytes_of-append : (front rest : List Entry) → bytes_of (front ++ rest) ≡ bytes_of front + bytes_of rest
bytes_of-append [] rest = omega arith
bytes_of-append (fetched file n ∷ front) rest = let e = bytes_of-append front rest in omega arith
bytes_of-append (kept file fof ∷ front) rest = bytes_of-append front rest
bytes_of-append (missing file ∷ front) rest = bytes_of-append front rest
bytes_of-append (stop file why ∷ front) rest = bytes_of-append front rest

-- the formulas kept by two lists of entries, one behind the other
kept_of-append : (front rest : List Entry) → kept_of (front ++ rest) ≡ kept_of front ++ kept_of rest
kept_of-append [] rest = refl
kept_of-append (fetched file n ∷ front) rest = kept_of-append front rest
kept_of-append (kept file fof ∷ front) rest = ap (λ (fofs : List Fof). fof ∷ fofs) (kept_of-append front rest)
kept_of-append (missing file ∷ front) rest = kept_of-append front rest
kept_of-append (stop file why ∷ front) rest = kept_of-append front rest

-- what decides the rest decides it behind what is passed
decided_on : (before middle : Walked) (front rest : List Entry) → Passes before front middle → decided before (front ++ rest) ≡ decided middle rest
decided_on before middle front rest p =
    let count : length middle.problem ≡ length before.problem + length (kept_of front) = ap length p.problem ∙ length-append before.problem (kept_of front) in
    undecided_front before.bytes (length before.problem) front rest p.undecided ∙
    (λ i. decision_after (sym p.bytes i) (sym count i) rest)

-- where there are no entries, a walk is where it was
passes_none : (before : Walked) → Passes before [] before
passes_none before = record { undecided = refl; bytes = omega arith; problem = sym (append-nil before.problem) }

-- two lists of entries that are passed, one behind the other
passes_on : (before middle after : Walked) (front rest : List Entry) → Passes before front middle → Passes middle rest after →
    Passes before (front ++ rest) after
passes_on before middle after front rest p q = record {
  undecided = decided_on before middle front rest p ∙ q.undecided;
  bytes = let first = p.bytes in let second = q.bytes in let sum = bytes_of-append front rest in omega arith;
  problem = q.problem ∙ ap (λ (fofs : List Fof). fofs ++ kept_of rest) p.problem ∙ append_assoc before.problem (kept_of front) (kept_of rest) ∙
      ap (λ (fofs : List Fof). before.problem ++ fofs) (sym (kept_of-append front rest));
}

-- a refusal ends a walk amid what is passed and what goes on
module _ (All Part : List Entry → Type 0) (before middle : Walked) (front back : List Entry) (p : Passes before front middle)
    (lead : (part : List Entry) → Part part → All (front ++ (part ++ back))) where
  -- what decides a part of a walk decides the whole
  decided_amid : (file : Text) (why : FlatWhy) → (part : List Entry) × Part part × (decided middle part ≡ Some (is_refused file why)) →
      (entries : List Entry) × All entries × (decided before entries ≡ Some (is_refused file why))
  decided_amid file why (part, walk, e) = (
    front ++ (part ++ back),
    lead part walk,
    decided_on before middle front (part ++ back) p ∙ decided_front middle.bytes (length middle.problem) part back (is_refused file why) e,
  )

  -- a file that is asked for in a part of a walk is asked for in the whole
  asked_amid : (file : Text) → AsksAt Part middle file → AsksAt All before file
  asked_amid file (first, entry, last, walk, asks, none) = (
    front ++ first,
    entry,
    last ++ back,
    subst All (ap (λ (es : List Entry). front ++ es) (append_assoc first (entry ∷ last) back) ∙ sym (append_assoc front first (entry ∷ (last ++ back))))
        (lead (first ++ entry ∷ last) walk),
    asks,
    decided_on before middle front first p ∙ none,
  )

  -- what refuses a part of a walk refuses the whole
  refuses_amid : (file : Text) (why : FlatWhy) → Refuses Part middle file why → Refuses All before file why
  refuses_amid file Memory h = h
  refuses_amid file FileFault h = asked_amid file h
  refuses_amid file (Lex refusal) h = decided_amid file (Lex refusal) h
  refuses_amid file (Syntax refusal) h = decided_amid file (Syntax refusal) h
  refuses_amid file FileTooLong h = decided_amid file FileTooLong h
  refuses_amid file AllTooLong h = decided_amid file AllTooLong h
  refuses_amid file IncludeDepth h = decided_amid file IncludeDepth h
  refuses_amid file TooManyFormulas h = decided_amid file TooManyFormulas h

-- a refusal ends a walk that is another's
pub refuses_so : (All Part : List Entry → Type 0) (before : Walked) → ((part : List Entry) → Part part → All part) → (file : Text) (why : FlatWhy) →
    Refuses Part before file why → Refuses All before file why
refuses_so All Part before lead file why h =
    refuses_amid All Part before before [] [] (passes_none before) (λ part walk. subst All (sym (append-nil part)) (lead part walk)) file why h

-- a file one level too deep
depth_refused_at : (held : Held) (left : ℕ) (selections : Selections) (name : Text) (before : Walked) → left ≡ 0 →
    Refuses (over_file left selections name held) before name IncludeDepth
depth_refused_at held left selections name before e =
    (stop name IncludeDepth ∷ [], subst (λ n. WalksFile held n selections name (stop name IncludeDepth ∷ [])) (sym e) too_deep, refl)

-- the items of a file are walked behind its fetch
module _ (held : Held) (selections : Selections) (name : Text) (items : List Item) (before middle : Walked) (opens : OpensTo held name items before middle) where
  -- a walk over the items of a file is one over the file
  items_walk_file : (left : ℕ) (rest : List Entry) → WalksItems held left selections name items rest →
      WalksFile held (suc left) selections name (fetched name (length opens.bytes) ∷ [] ++ rest)
  items_walk_file left rest walk = let (ts, tokens, text) = opens.read in
      read opens.bytes opens.held_is opens.short (with_items ts items tokens text walk)

  -- a file is passed where its items are
  file_passes_at : (left : ℕ) (after : Walked) → PassesPart (over_items left selections name items held) middle after →
      PassesPart (over_file (suc left) selections name held) before after
  file_passes_at left after p = record {
    entries = fetched name (length opens.bytes) ∷ [] ++ p.entries;
    walk = items_walk_file left p.entries p.walk;
    passed = passes_on before middle after (fetched name (length opens.bytes) ∷ []) p.entries opens.passed p.passed;
  }

  -- a file is refused where its items are
  file_refuses_at : (left : ℕ) (file : Text) (why : FlatWhy) → Refuses (over_items left selections name items held) middle file why →
      Refuses (over_file (suc left) selections name held) before file why
  file_refuses_at left file why h =
      refuses_amid _ (over_items left selections name items held) before middle (fetched name (length opens.bytes) ∷ []) [] opens.passed
      (λ part walk. items_walk_file left (part ++ []) (subst (over_items left selections name items held) (sym (append-nil part)) walk)) file why h

-- what a refusal leaves of a file it leaves of the file that it names
leaves_none : (files later : Known) (name : Text) (why : FlatWhy) → Leaves files later name why → Leaves files later (refused_file name why) why
leaves_none files later name FileFault h = h
leaves_none files later name (Lex refusal) h = h
leaves_none files later name (Syntax refusal) h = h
leaves_none files later name FileTooLong h = h
leaves_none files later name AllTooLong h = h
leaves_none files later name IncludeDepth h = h
leaves_none files later name TooManyFormulas h = h
leaves_none files later name Memory h = h

-- one more than one less than a number above zero is the number
one_more : (left : ℕ) → 0 < left → suc (left - 1) ≡ left
one_more left some = omega arith

module _ (selections : Selections) (name copy : Text) (files later : Known) (before : Walked) (left : ℕ) (same_name : copy ≡ name) where
  -- a file one level too deep is refused
  pub depth_refused : (file : Text) (why : FlatWhy) → left ≡ 0 → Stays files later → file ≡ copy → why ≡ IncludeDepth →
      RefusesOver (over_file left selections name) files later before file why
  depth_refused file why none stays is reason = let P : Text → FlatWhy → Type 0 = RefusesOver (over_file left selections name) files later before in
      subst (λ x. P x why) (sym (is ∙ same_name)) (subst (P name) (sym reason) (record {
        leaves = stays;
        memory = tt;
        ends = wherever_told files.held _ (λ held. depth_refused_at held left selections name before none);
      }))

  -- a file that does not open is refused for its reason
  pub file_refused : (file : Text) (why reason : FlatWhy) → 0 < left → Refused files later name before reason → file ≡ refused_file copy reason →
      why ≡ reason → RefusesOver (over_file left selections name) files later before file why
  file_refused file why reason some h is same = let P : Text → FlatWhy → Type 0 = RefusesOver (over_file left selections name) files later before in
      subst (λ x. P x why) (sym (is ∙ ap (λ (x : Text). refused_file x reason) same_name)) (subst (P (refused_file name reason)) (sym same) (record {
        leaves = leaves_none files later name reason h.leaves;
        memory = h.memory;
        ends = where_told files.held _ _ (λ held r. subst (λ n. Refuses (over_file n selections name held) before (refused_file name reason) reason)
            (one_more left some) (r.anywhere (left - 1) selections)) h.ends;
      }))

  module _ (middle : Known) (items : List Item) (between : Walked) (some : 0 < left) (opens : Opens files middle name items before between) where
    -- a file that opens is passed where its items are
    pub file_passes : (after : Walked) → PassesOver (over_items (left - 1) selections copy items) middle later between after →
        PassesOver (over_file left selections name) files later before after
    file_passes after passes = let p = rw same_name at passes in record {
      stays = stays_on opens.stays p.stays;
      part = both_told files.held middle.held _ _ _ opens.stays.grows.held
          (λ held o w. subst (λ n. PassesPart (over_file n selections name held) before after) (one_more left some)
          (file_passes_at held selections name items before between o (left - 1) after w)) opens.opens p.part;
    }

    -- a file that opens is refused where its items are
    pub file_refuses : (file : Text) (why : FlatWhy) → RefusesOver (over_items (left - 1) selections copy items) middle later between file why →
        RefusesOver (over_file left selections name) files later before file why
    file_refuses file why refuses = let r = rw same_name at refuses in record {
      leaves = leaves_on files middle later file why opens.stays r.leaves;
      memory = r.memory;
      ends = both_told files.held middle.held _ _ _ opens.stays.grows.held
          (λ held o h. subst (λ n. Refuses (over_file n selections name held) before file why) (one_more left some)
          (file_refuses_at held selections name items before between o (left - 1) file why h)) opens.opens r.ends;
    }

-- want of memory, in any part of a walk
pub memory_refused : (Part : Held → List Entry → Type 0) (files later : Known) (before : Walked) (file : Text) (why : FlatWhy) →
    Stays files later → why ≡ Memory → file ≡ refused_file [] Memory → RefusesOver Part files later before file why
memory_refused Part files later before file why stays reason is =
    subst (λ x. RefusesOver Part files later before x why) (sym is) (subst (RefusesOver Part files later before []) (sym reason)
    (record { leaves = stays; memory = refl; ends = wherever_told files.held _ (λ held. refl) }))

-- the rules for the walk over a file
pub ruleset files_walked = (file_refused, file_refuses, memory_refused, stays_same)

-- what was passed of the items of a file
pub record Passed (held : Held) (left : ℕ) (selections : Selections) (file : Text) (items rest : List Item) (before now : Walked) : Type 0 where
  pub entries : List Entry
  pub lead : (more : List Entry) → WalksItems held left selections file rest more →
      WalksItems held left selections file items (entries ++ more)
  pub passed : Passes before entries now

module _ (held : Held) (left : ℕ) (selections : Selections) (file : Text) (items : List Item) (before : Walked) where
  -- a formula is passed with the items before it
  pub formula_passed : (fof : Fof) (rest : List Item) (now after : Walked) → Passed held left selections file items (ItemFof fof ∷ rest) before now →
      Passes now (kept_entries file selections fof) after → Passed held left selections file items rest before after
  formula_passed fof rest now after p q = record {
    entries = p.entries ++ kept_entries file selections fof;
    lead = λ more walk. subst (WalksItems held left selections file items) (sym (append_assoc p.entries (kept_entries file selections fof) more))
        (p.lead (kept_entries file selections fof ++ more) (formula fof more walk refl));
    passed = passes_on before now after p.entries (kept_entries file selections fof) p.passed q;
  }

  -- an inclusion is passed with the items before it
  pub inclusion_passed : (name : Text) (only : Option (List Text)) (rest : List Item) (now after : Walked) →
      Passed held left selections file items (Include name only ∷ rest) before now →
      PassesPart (over_file left (with_selection only selections) name held) now after → Passed held left selections file items rest before after
  inclusion_passed name only rest now after p q = record {
    entries = p.entries ++ q.entries;
    lead = λ more walk. subst (WalksItems held left selections file items) (sym (append_assoc p.entries q.entries more))
        (p.lead (q.entries ++ more) (inclusion name only q.entries more q.walk walk refl));
    passed = passes_on before now after p.entries q.entries p.passed q.passed;
  }

  -- items are passed where none is left
  pub all_passed : (after : Walked) → Passed held left selections file items [] before after →
      PassesPart (over_items left selections file items held) before after
  all_passed after p = record {
    entries = p.entries;
    walk = subst (WalksItems held left selections file items) (append-nil p.entries) (p.lead [] end);
    passed = p.passed;
  }

  -- a formula that is one too many refuses the items
  pub formula_refused : (fof : Fof) (rest : List Item) (now : Walked) → Passed held left selections file items (ItemFof fof ∷ rest) before now →
      IsTooMany now selections fof → Refuses (over_items left selections file items held) before file TooManyFormulas
  formula_refused fof rest now p many =
      let more = some_walk_of_items held left selections file rest in
      let kept = kept_entries file selections fof in (
        p.entries ++ (kept ++ more.entries),
        p.lead (kept ++ more.entries) (formula fof more.entries more.walk refl),
        decided_on before now p.entries (kept ++ more.entries) p.passed ∙
            decided_front now.bytes (length now.problem) kept more.entries (is_refused file TooManyFormulas) (many file),
      )

  -- what refuses an included file refuses the items
  pub inclusion_refused : (name : Text) (only : Option (List Text)) (rest : List Item) (now : Walked) (refused : Text) (why : FlatWhy) →
      Passed held left selections file items (Include name only ∷ rest) before now →
      Refuses (over_file left (with_selection only selections) name held) now refused why →
      Refuses (over_items left selections file items held) before refused why
  inclusion_refused name only rest now refused why p r =
      let more = some_walk_of_items held left selections file rest in
      refuses_amid _ (WalksFile held left (with_selection only selections) name) before now p.entries more.entries p.passed
      (λ part walk. p.lead (part ++ more.entries) (inclusion name only part more.entries walk more.walk refl)) refused why r

-- the walk over items so far
pub record Underway (files now : Known) (left : ℕ) (selections : Selections) (file : Text) (items rest : List Item) (before walked : Walked) : Type 0 where
  pub stays : Stays files now
  pub passed : IfSome files.held (λ held. Passed held left selections file items rest before walked)

module _ (files now : Known) (left : ℕ) (selections : Selections) (file : Text) (items : List Item) (before walked : Walked) where
  -- where no item is left, the walk has passed them all
  pub underway_all : (rest : List Item) → rest ≡ [] → Underway files now left selections file items rest before walked →
      PassesOver (over_items left selections file items) files now before walked
  underway_all rest none under = let u = rw none at under in record {
    stays = u.stays;
    part = where_told files.held _ _ (λ held p. all_passed held left selections file items before walked p) u.passed;
  }

  module _ (all rest : List Item) (item : Item) (next : all ≡ item ∷ rest) (under : Underway files now left selections file items all before walked) where
    -- the walk is underway at the item that it looks at
    underway_at : (other : Item) → item ≡ other → Underway files now left selections file items (other ∷ rest) before walked
    underway_at other is = rw (next, is) at under

    -- behind a formula that is passed the walk goes on
    pub formula_on : (fof : Fof) (after : Walked) → item ≡ ItemFof fof → ((name : Text) → Passes walked (kept_entries name selections fof) after) →
        Underway files now left selections file items rest before after
    formula_on fof after is q = let u = underway_at (ItemFof fof) is in record {
      stays = u.stays;
      passed = where_told files.held _ _ (λ held p. formula_passed held left selections file items before fof rest walked after p (q file)) u.passed;
    }

    -- a walk ends at a formula that is one too many
    formula_too_many : (fof : Fof) → item ≡ ItemFof fof → IsTooMany walked selections fof →
        RefusesOver (over_items left selections file items) files now before file TooManyFormulas
    formula_too_many fof is many = let u = underway_at (ItemFof fof) is in record {
      leaves = u.stays;
      memory = tt;
      ends = where_told files.held _ _ (λ held p. formula_refused held left selections file items before fof rest walked p many) u.passed;
    }

    -- a walk ends at a formula that is refused, for its reason
    pub formula_ends : (fof : Fof) (copy refused : Text) (why reason : FlatWhy) → item ≡ ItemFof fof →
        (reason ≡ Memory) ⊎ ((reason ≡ TooManyFormulas) × IsTooMany walked selections fof) → copy ≡ file → refused ≡ refused_file copy reason →
        why ≡ reason → RefusesOver (over_items left selections file items) files now before refused why
    formula_ends fof copy refused why reason is (inl memory) same named caused =
        memory_refused (over_items left selections file items) files now before refused why under.stays (caused ∙ memory)
        (named ∙ ap (refused_file copy) memory)
    formula_ends fof copy refused why reason is (inr (full, many)) same named caused =
        let P : Text → FlatWhy → Type 0 = RefusesOver (over_items left selections file items) files now before in
        subst (λ x. P x why) (sym (named ∙ ap (refused_file copy) full ∙ same)) (subst (P file) (sym (caused ∙ full)) (formula_too_many fof is many))

    module _ (name : Text) (only : Option (List Text)) (later : Known) (is : item ≡ Include name only) where
      -- behind an inclusion that is passed the walk goes on
      pub inclusion_on : (after : Walked) → PassesOver (over_file left (with_selection only selections) name) now later walked after →
          Underway files later left selections file items rest before after
      inclusion_on after q = let u = underway_at (Include name only) is in record {
        stays = stays_on u.stays q.stays;
        passed = both_told files.held now.held _ _ _ u.stays.grows.held
            (λ held p w. inclusion_passed held left selections file items before name only rest walked after p w) u.passed q.part;
      }

      -- a walk ends at an inclusion that is refused, for its reason
      pub inclusion_ends : (refused : Text) (why : FlatWhy) →
          RefusesOver (over_file left (with_selection only selections) name) now later walked refused why →
          RefusesOver (over_items left selections file items) files later before refused why
      inclusion_ends refused why r = let u = underway_at (Include name only) is in record {
        leaves = leaves_on files now later refused why u.stays r.leaves;
        memory = r.memory;
        ends = both_told files.held now.held _ _ _ u.stays.grows.held
            (λ held p h. inclusion_refused held left selections file items before name only rest walked refused why p h) u.passed r.ends;
      }
