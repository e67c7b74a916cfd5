-- Laws on entries whose arguments are parts of one list.
use Rattle.std.proofs.Common.{◌≡◌, ℕ, zero, suc, ◌+◌, ◌-◌, ◌*◌, ◌<◌, ◌≤◌, List, [], ◌∷◌, ◌++◌, map, take, drop, length, slice_get, Some, reverse, get_or, refl, ap, sym, ◌∙◌, subst, arith, add-one, length-append}
use Rattle.std.proofs.lemmas.List.{map-append, length-map, reverse-append, take-map, take-append-drop, take-append-le, drop-append-le, length-drop, length-take, length-take-le, drop_at, take_all}
use Rattle.text_core.specs.declared.limits.TheConstants.{MOST_FORM_VARIABLES}
use Rattle.vernacular_tree.specs.declared.tree.Node.{Node}
use Rattle.trail_search.specs.declared.entry.Entry.{Entry}
use Rattle.trail_search.specs.Entries.{node_of, node_in, AreLaid, AreEntries}

-- the end is not before the start
laid_le : (at : ℕ) (entries : List Entry) (end : ℕ) → AreLaid at entries end → at ≤ end
laid_le at [] end laid = omega arith
laid_le at (entry ∷ entries) end laid = let rest = laid_le (at + entry.count) entries end laid.2 in omega arith

-- nor far behind it
laid_short : (at : ℕ) (entries : List Entry) (end : ℕ) → AreLaid at entries end → end ≤ at + length entries * MOST_FORM_VARIABLES
laid_short at [] end laid = omega arith
laid_short at (entry ∷ entries) end laid =
    let rest = laid_short (at + entry.count) entries end laid.2 in
    let short : entry.count ≤ MOST_FORM_VARIABLES = laid.1 in omega arith

-- one more entry
laid_more : (at : ℕ) (entries : List Entry) (end : ℕ) (entry : Entry) → AreLaid at entries end → entry.start ≡ end → entry.count ≤ MOST_FORM_VARIABLES
    → AreLaid at (entries ++ entry ∷ []) (end + entry.count)
laid_more at [] end entry laid start short = (start ∙ sym laid, short, ap (λ n. n + entry.count) laid)
laid_more at (first ∷ entries) end entry laid start short = (laid.0, laid.1, laid_more (at + first.count) entries end entry laid.2 start short)

-- a part within a list is the same where the list goes on
part_same : (args more : List ℕ) (start count : ℕ) → start + count ≤ length args → take count (drop start (args ++ more)) ≡ take count (drop start args)
part_same args more start count within =
    ap (take count) (drop-append-le start args more (omega arith))
    ∙ take-append-le count (drop start args) more (let long = length-drop start args in omega arith)

-- so entries tell the same where more arguments come behind theirs
laid_same : (at : ℕ) (entries : List Entry) (end : ℕ) (args more : List ℕ) → AreLaid at entries end → end ≤ length args
    → map (node_in (args ++ more)) entries ≡ map (node_in args) entries
laid_same at [] end args more laid within = refl
laid_same at (entry ∷ entries) end args more laid within =
    let behind = laid_le (at + entry.count) entries end laid.2 in
    let start : entry.start ≡ at = laid.0 in
    let first : node_in (args ++ more) entry ≡ node_in args entry = ap (node_of entry.rule) (part_same args more entry.start entry.count (omega arith)) in
    let rest = laid_same (at + entry.count) entries end args more laid.2 within in cc

-- the part that was put behind the others
part_last : (args more : List ℕ) → take (length more) (drop (length args) (args ++ more)) ≡ more
part_last args more = ap (take (length more)) (drop_at args more (length args) refl) ∙ take_all (length more) more (omega arith)

-- the last entry ends there
laid_last : (at : ℕ) (entries : List Entry) (end k : ℕ) (entry : Entry) → AreLaid at entries end → slice_get entries k ≡ Some entry → k + 1 ≡ length entries
    → entry.start + entry.count ≡ end
laid_last at [] end k entry laid there last = absurd (cc)
laid_last at (x ∷ []) end zero entry laid there last =
    let same : x ≡ entry = cc in
    let start : x.start ≡ at = laid.0 in
    ap (λ (e : Entry). e.start + e.count) (sym same) ∙ ap (λ n. n + x.count) start ∙ laid.2
laid_last at (x ∷ y ∷ entries) end zero entry laid there last = absurd (omega arith)
laid_last at (x ∷ entries) end (suc k) entry laid there last = laid_last (at + x.count) entries end k entry laid.2 there (omega arith)

-- where the last entry ends, they all end
pub laid_end : (entries : List Entry) (end : ℕ) (entry : Entry) → AreLaid 0 entries end → Some entry ≡ slice_get entries (length entries - 1)
    → entry.start + entry.count ≡ end
laid_end [] end entry laid there = absurd (let bad : _ = sym there in cc)
laid_end (x ∷ entries) end entry laid there = laid_last 0 (x ∷ entries) end (length (x ∷ entries) - 1) entry laid (sym there) (omega arith)

-- the first entries are laid
laid_front : (at : ℕ) (entries : List Entry) (end k : ℕ) → AreLaid at entries end → (front : ℕ) × AreLaid at (take k entries) front × (front ≤ end)
laid_front at entries end zero laid = (at, refl, laid_le at entries end laid)
laid_front at [] end (suc k) laid = (at, refl, laid_le at [] end laid)
laid_front at (entry ∷ entries) end (suc k) laid =
    let rest = laid_front (at + entry.count) entries end k laid.2 in (rest.0, (laid.0, laid.1, rest.1), rest.2)

-- entries have one end
laid_one : (at : ℕ) (entries : List Entry) (a b : ℕ) → AreLaid at entries a → AreLaid at entries b → a ≡ b
laid_one at [] a b one two = sym one ∙ two
laid_one at (entry ∷ entries) a b one two = laid_one (at + entry.count) entries a b one.2 two.2

-- no entries, and room for so many
pub entries_none : (room entries_room args_room : ℕ) → room ≤ entries_room → room * MOST_FORM_VARIABLES ≤ args_room
    → AreEntries [] [] room entries_room args_room
entries_none room entries_room args_room fit long = record { laid = refl; within = omega arith; entries_fit = fit; args_fit = long }

module _ (entries : List Entry) (args : List ℕ) (room entries_room args_room : ℕ) (are : AreEntries entries args room entries_room args_room) where
  -- there is room for the arguments of one more
  pub args_room_left : length entries < room → length args + MOST_FORM_VARIABLES ≤ args_room
  args_room_left less =
      let short = laid_short 0 entries (length args) are.laid in
      let long = are.args_fit in
      omega arith

  module _ (entry : Entry) (more : List ℕ) (start : entry.start ≡ length args) (count : entry.count ≡ length more) (short : length more ≤ MOST_FORM_VARIABLES) where
    -- one more entry
    pub entries_more : (er ar : ℕ) → entries_room ≤ er → args_room ≤ ar → length entries < room → AreEntries (entries ++ entry ∷ []) (args ++ more) room er ar
    entries_more er ar grown_entries grown_args less =
        let total : length args + entry.count ≡ length (args ++ more) = ap (λ n. length args + n) count ∙ sym (length-append args more) in
        let fit = are.entries_fit in
        let long = are.args_fit in record {
          laid = subst (AreLaid 0 (entries ++ entry ∷ [])) total (laid_more 0 entries (length args) entry are.laid start (omega arith));
          within = omega (arith, length-append entries (entry ∷ []));
          entries_fit = omega arith;
          args_fit = omega arith;
        }

    -- tells its rule application behind the others
    pub nodes_more : map (node_in (args ++ more)) (entries ++ entry ∷ []) ≡ map (node_in args) entries ++ node_of entry.rule more ∷ []
    nodes_more =
        let old = laid_same 0 entries (length args) args more are.laid (omega arith) in
        let own : take entry.count (drop entry.start (args ++ more)) ≡ more
        = ap (λ n. take n (drop entry.start (args ++ more))) count ∙ ap (λ n. take (length more) (drop n (args ++ more))) start ∙ part_last args more in
        map-append (node_in (args ++ more)) entries (entry ∷ [])
        ∙ ap (λ (ns : List Node). ns ++ node_in (args ++ more) entry ∷ []) old
        ∙ ap (λ (ns : List ℕ). map (node_in args) entries ++ node_of entry.rule ns ∷ []) own

  -- the first entries have an end
  pub front_end : (k : ℕ) → (front : ℕ) × AreLaid 0 (take k entries) front × (front ≤ length args)
  front_end k = laid_front 0 entries (length args) k are.laid

  module _ (k end : ℕ) (laid : AreLaid 0 (take k entries) end) where
    front_le : end ≤ length args
    front_le =
        let front = front_end k in
        let same = laid_one 0 (take k entries) end front.0 laid front.1 in
        let le = front.2 in omega arith

    -- the first entries
    pub entries_front : AreEntries (take k entries) (take end args) room entries_room args_room
    entries_front =
        let le = front_le in
        let total : end ≡ length (take end args) = sym (length-take-le end args le) in
        let within = are.within in record {
          laid = subst (AreLaid 0 (take k entries)) total laid;
          within = omega (arith, length-take k entries);
          entries_fit = are.entries_fit;
          args_fit = are.args_fit;
        }

    -- tell the first rule applications
    pub nodes_front : map (node_in (take end args)) (take k entries) ≡ take k (map (node_in args) entries)
    nodes_front =
        let le = front_le in
        let long : length (take end args) ≡ end = length-take-le end args le in
        let same = laid_same 0 (take k entries) end (take end args) (drop end args) laid (omega arith) in
        sym same ∙ ap (λ (ns : List ℕ). map (node_in ns) (take k entries)) (take-append-drop end args) ∙ sym (take-map (node_in args) k entries)

  -- each entry's part is within the arguments
  pub part_within : (i : ℕ) (entry : Entry) → slice_get entries i ≡ Some entry → entry.start + entry.count ≤ length args
  part_within i entry there = within_end 0 entries (length args) i entry are.laid there
    where
      within_end : (at : ℕ) (es : List Entry) (end i : ℕ) (entry : Entry) → AreLaid at es end → slice_get es i ≡ Some entry → entry.start + entry.count ≤ end
      within_end at [] end i entry laid there = absurd (cc)
      within_end at (x ∷ es) end zero entry laid there =
          let same : x ≡ entry = cc in
          let start : x.start ≡ at = laid.0 in
          let le = laid_le (at + x.count) es end laid.2 in
          subst (λ (e : Entry). e.start + e.count ≤ end) same (omega arith)
      within_end at (x ∷ es) end (suc i) entry laid there = within_end (at + x.count) es end i entry laid.2 there

-- how many rule applications there are
pub noted_length : (entries : List Entry) (args : List ℕ) (nodes : List Node) → map (node_in args) entries ≡ nodes → length nodes ≡ length entries
noted_length entries args nodes are = sym (ap length are) ∙ length-map entries (node_in args)

-- the item with a number, read by its number
read_item : {X : Type 0} (xs : List X) (i : ℕ) (x : X) → i < length xs → x ≡ get_or xs i x → slice_get xs i ≡ Some x
read_item [] i x below is = absurd (omega arith)
read_item (y ∷ xs) zero x below is = ap Some (sym is)
read_item (y ∷ xs) (suc i) x below is = read_item xs i x (omega arith) is

-- the part of an entry that is read by its number
pub read_within : (entries : List Entry) (args : List ℕ) (room entries_room args_room : ℕ) → AreEntries entries args room entries_room args_room → (i : ℕ) (entry : Entry)
    → i < length entries → entry ≡ get_or entries i entry → entry.start + entry.count ≤ length args
read_within entries args room entries_room args_room are i entry below is =
    part_within entries args room entries_room args_room are i entry (read_item entries i entry below is)

-- one more node, where the list is gone over from its end
pub reverse_next : (entries : List Entry) (args : List ℕ) (k : ℕ) (entry : Entry) (nodes longer : List Node) → 0 < k → k ≤ length entries
    → entry ≡ get_or entries (k - 1) entry → nodes ≡ reverse (drop k (map (node_in args) entries)) → longer ≡ nodes ++ node_in args entry ∷ []
    → longer ≡ reverse (drop (k - 1) (map (node_in args) entries))
reverse_next entries args k entry nodes longer some within is so_far grown =
    let all = map (node_in args) entries in
    let at : slice_get all (k - 1) ≡ Some (node_in args entry) = get_mapped (node_in args) entries (k - 1) entry (read_item entries (k - 1) entry (omega arith) is) in
    let before : k - 1 + 1 ≡ k = omega arith in
    let split : drop (k - 1) all ≡ node_in args entry ∷ drop k all = drop_at_item all (k - 1) (node_in args entry) at ∙ ap (λ n. node_in args entry ∷ drop n all) before in
    grown ∙ ap (λ (ns : List Node). ns ++ node_in args entry ∷ []) so_far ∙ sym (reverse-append (node_in args entry ∷ []) (drop k all)) ∙ ap reverse (sym split)
  where
    get_mapped : {X Y : Type 0} (f : X → Y) (xs : List X) (i : ℕ) (x : X) → slice_get xs i ≡ Some x → slice_get (map f xs) i ≡ Some (f x)
    get_mapped f [] i x there = absurd (let bad : _ = there in cc)
    get_mapped f (y ∷ xs) zero x there = let same : y ≡ x = cc in ap (λ z. Some (f z)) same
    get_mapped f (y ∷ xs) (suc i) x there = get_mapped f xs i x there

    drop_at_item : {X : Type 0} (xs : List X) (i : ℕ) (x : X) → slice_get xs i ≡ Some x → drop i xs ≡ x ∷ drop (i + 1) xs
    drop_at_item xs i x there = rw add-one (go xs i x there)
      where
        go : {X : Type 0} (xs : List X) (i : ℕ) (x : X) → slice_get xs i ≡ Some x → drop i xs ≡ x ∷ drop (suc i) xs
        go [] i x there = absurd (cc)
        go (y ∷ xs) zero x there = let same : y ≡ x = cc in ap (λ z. z ∷ xs) same
        go (y ∷ xs) (suc i) x there = go xs i x there
