-- The watcher lets a text pass exactly where its structure is sound.
use Rattle.std.specs.Prelude.{true, List, [], ◌∷◌, ◌++◌, map, IsTrue, Ok}
use Rattle.std.specs.List.{AllByRecursion}
use Rattle.std.proofs.Common.{refl, sym, ◌∙◌, ap, subst, inl, inr}
use Rattle.std.proofs.lemmas.List.{append-nil, map-append}
use Rattle.text_core.specs.Names.{Text}
use Rattle.text_core.specs.Lists.{IsAmong}
use Rattle.text_core.proofs.Laws.{each_front, each_back, each_append}
use Rattle.signature.specs.Columns.{name_number}
use Rattle.token_grammar.specs.Making.{Choice, element, RowValues}
use Rattle.token_grammar.specs.Productions.{Makers, made_at, making_by}
use Rattle.token_grammar.specs.SpelledAs.{SpelledAs, SpelledRow}
use Rattle.token_grammar.specs.SpelledAs.SpelledAs.{of_token, of_row}
use Rattle.token_grammar.specs.SpelledAs.SpelledRow.{none, member}
use Rattle.token_grammar.specs.Taken.{Taken as TakenBy, stop, token, part}
use Rattle.token_grammar.specs.Watch.{Sees}
use Rattle.token_grammar.proofs.Laws.{joined, taken_length, sees_both, sees_apart, one_taking_of_text, value_spelled}
use Rattle.tptp_lexer.specs.Tokens.{Token as LexToken}
use Rattle.model_text.specs.declared.mark.Mark as Mark
use Rattle.model_text.specs.declared.part.ModelPart as ModelPart
use Rattle.model_text.specs.declared.part.ModelPart.TheVariants.{Taken, Row}
use Rattle.model_text.specs.declared.part.Rule.TheVariants as rule
use Rattle.model_text.specs.declared.structure.Place.{Place}
use Rattle.model_text.specs.Structures.{Finite, IsSound, AreNew, constants_of}
use Rattle.model_text.specs.Words.{names_in, name_numbered}
use Rattle.model_text.specs.Marks.{marked}
use Rattle.model_text.specs.Grammar.{models, model_plan, takes, alternatives}
use Rattle.model_text.specs.GrammarLaw.{model_law}
use Rattle.model_text.specs.Values.{Value, of_token as token_value, makers, model_making}
use Rattle.model_text.specs.Seen.{Seen}
use Rattle.model_text.specs.Watching.{model_watcher, nothing_seen}
use Rattle.model_text.specs.Texts.{AreModelOf}
use Rattle.model_text.specs.Told.{IsAcceptedText}
use Rattle.model_text.proofs.Marked.{IsProper, all_proper}
use Rattle.model_text.proofs.Placed.{IsKnown, AreKnown, IsFine, AreFine, Goes, RowGoes, RowsAgree, Agrees, numbers_of, all_agree}

-- a chosen row is one of the rows
row_among : (rows : List (List ModelPart.ModelPart)) (choice : Choice rows) → IsAmong (element rows choice) rows
row_among [] choice = choice
row_among (row ∷ rows) (inl here) = inl refl
row_among (row ∷ rows) (inr choice) = inr (row_among rows choice)

-- parts take the tokens, and over them the watcher goes on exactly so
pub record IsWatched (row : List ModelPart.ModelPart) (ms : List Mark.Mark) (Go : Seen → Seen → Type 0) : Type 0 where
  pub takers : List ModelPart.ModelPart
  pub taken : TakenBy models true row ms takers
  pub goes : (s after : Seen) → Sees model_watcher s takers ms after → Go s after
  pub back : (s after : Seen) → Go s after → Sees model_watcher s takers ms after

-- the one part and the members behind it
joined_watched : (p : ModelPart.ModelPart) (row : List ModelPart.ModelPart) (us vs : List Mark.Mark) (First Later : Seen → Seen → Type 0) →
    IsWatched (p ∷ []) us First → IsWatched row vs Later →
    IsWatched (p ∷ row) (us ++ vs) (λ s after. (between : Seen) × First s between × Later between after)
joined_watched p row us vs First Later first later = record {
  takers = first.takers ++ later.takers;
  taken = joined models first.taken later.taken;
  goes = λ s after seen.
      let (between, here, there) = sees_apart model_watcher first.takers later.takers us vs s after (taken_length first.taken) seen in
      (between, first.goes s between here, later.goes between after there);
  back = λ s after (between, here, there).
      sees_both model_watcher first.takers later.takers us vs s between after (first.back s between here) (later.back between after there);
}

module _ (names : List Text) where
  -- a token that a part takes
  token_watched : (p : ModelPart.ModelPart) (m : Mark.Mark) (taken : IsTrue (takes p m)) → IsProper names m →
      IsFine names p (token_value p m taken) × IsWatched (p ∷ []) (m ∷ []) (Goes names p (token_value p m taken))
  token_watched (Taken by) m taken proper = (
    (proper, taken),
    record {
      takers = Taken by ∷ [];
      taken = token taken (stop tt);
      goes = λ s after (between, sees, end). sees ∙ ap (λ (u : Seen). Ok u) (sym end);
      back = λ s after sees. (after, sees, refl);
    },
  )
  token_watched (Row rule) m taken proper = absurd (no taken)
    where
      no : IsTrue (takes (Row rule) m) → ⊥
      no e = cc

  -- what the chosen row makes agrees
  chosen : (p : ModelPart.ModelPart) (rows : List (List ModelPart.ModelPart)) (made : Makers Value (Value p) rows) → RowsAgree names p rows made →
      (choice : Choice rows) (values : RowValues Value (element rows choice)) → AreFine names (element rows choice) values →
      Agrees names p (element rows choice) values (made_at Value rows made choice values)
  chosen p [] made agree choice values fine = absurd choice
  chosen p (row ∷ rows) made agree (inl here) values fine = agree.0 values fine
  chosen p (row ∷ rows) made agree (inr choice) values fine = chosen p rows made.1 agree.1 choice values fine

  -- a part that stands for a row
  row_watched : (p : ModelPart.ModelPart) (choice : Choice (alternatives p)) (values : RowValues Value (element (alternatives p) choice)) (ms : List Mark.Mark) →
      AreFine names (element (alternatives p) choice) values →
      IsWatched (element (alternatives p) choice) ms (RowGoes names (element (alternatives p) choice) values) →
      IsFine names p (made_at Value (alternatives p) (makers names p) choice values) ×
      IsWatched (p ∷ []) ms (Goes names p (made_at Value (alternatives p) (makers names p) choice values))
  row_watched p choice values ms fine watched =
      let agrees = chosen p (alternatives p) (makers names p) (all_agree names p) choice values fine in (
        agrees.fine,
        record {
          takers = watched.takers;
          taken = part (element (alternatives p) choice) (row_among (alternatives p) choice)
              (subst (λ row. TakenBy models true row ms watched.takers) (sym (append-nil (element (alternatives p) choice))) watched.taken);
          goes = λ s after seen. agrees.goes s after (watched.goes s after seen);
          back = λ s after go. watched.back s after (agrees.back s after go);
        },
      )

  mutual
    -- what a value spells is watched as the value tells
    pub value_watched : {p : ModelPart.ModelPart} {value : Value p} {ms : List Mark.Mark} →
        SpelledAs models Value (making_by models Value token_value (makers names)) p value ms → AllByRecursion (IsProper names) ms →
        IsFine names p value × IsWatched (p ∷ []) ms (Goes names p value)
    value_watched {p = p} {ms = ms} (of_token m taken is e) proper =
        subst (λ v. IsFine names p v × IsWatched (p ∷ []) ms (Goes names p v)) (sym is)
        (subst (λ x. IsFine names p (token_value p m taken) × IsWatched (p ∷ []) x (Goes names p (token_value p m taken))) (sym e)
        (token_watched p m taken (subst (AllByRecursion (IsProper names)) e proper).0))
    value_watched {p = p} {ms = ms} (of_row choice values made is) proper =
        let both = values_watched made proper in
        subst (λ v. IsFine names p v × IsWatched (p ∷ []) ms (Goes names p v)) (sym is) (row_watched p choice values ms both.0 both.1)

    -- and what the values of a row spell
    values_watched : {row : List ModelPart.ModelPart} {values : RowValues Value row} {ms : List Mark.Mark} →
        SpelledRow models Value (making_by models Value token_value (makers names)) row values ms → AllByRecursion (IsProper names) ms →
        AreFine names row values × IsWatched row ms (RowGoes names row values)
    values_watched none proper = (tt, record { takers = []; taken = stop tt; goes = λ s after e. e; back = λ s after e. e })
    values_watched {row = p ∷ row} {values = values} (member us vs first later e) proper =
        let both = subst (AllByRecursion (IsProper names)) e proper in
        let here = value_watched first (each_front (IsProper names) us vs both) in
        let there = values_watched later (each_back (IsProper names) us vs both) in (
          (here.0, there.0),
          subst (λ x. IsWatched (p ∷ row) x (RowGoes names (p ∷ row) values)) (sym e)
              (joined_watched p row us vs (Goes names p values.0) (RowGoes names row values.1) here.1 there.1),
        )

  -- a name among others has its number among theirs, and the other way round
  number_among : (x : Text) (xs : List Text) → IsAmong x xs → IsAmong (name_number names x) (map (name_number names) xs)
  number_among x [] h = absurd h
  number_among x (y ∷ xs) (inl h) = inl (ap (name_number names) h)
  number_among x (y ∷ xs) (inr h) = inr (number_among x xs h)

  name_among : (x : Text) (xs : List Text) → IsKnown names x → AllByRecursion (IsKnown names) xs →
      IsAmong (name_number names x) (map (name_number names) xs) → IsAmong x xs
  name_among x [] known all h = absurd h
  name_among x (y ∷ xs) known all (inl h) = inl (sym all.0 ∙ (ap (name_numbered names) h ∙ known))
  name_among x (y ∷ xs) known all (inr h) = inr (name_among x xs known all.1 h)

  -- names are new exactly where their numbers are
  new_names : (before : List Text) (places : List Place) → AllByRecursion (IsKnown names) before → AreKnown names places →
      AreNew (map (name_number names) before) (numbers_of names places) → AreNew before (constants_of places)
  new_names before [] known all new = tt
  new_names before (p ∷ places) known all new = (
    (λ h. new.0 (number_among p.constant before h)),
    new_names (before ++ p.constant ∷ []) places (each_append (IsKnown names) before (p.constant ∷ []) known (all.0, tt)) all.1
        (subst (λ ns. AreNew ns (numbers_of names places)) (sym (map-append (name_number names) before (p.constant ∷ []))) new.1),
  )

  new_numbers : (before : List Text) (places : List Place) → AllByRecursion (IsKnown names) before → AreKnown names places →
      AreNew before (constants_of places) → AreNew (map (name_number names) before) (numbers_of names places)
  new_numbers before [] known all new = tt
  new_numbers before (p ∷ places) known all new = (
    (λ h. new.0 (name_among p.constant before all.0 known h)),
    subst (λ ns. AreNew ns (numbers_of names places)) (map-append (name_number names) before (p.constant ∷ []))
        (new_numbers (before ++ p.constant ∷ []) places (each_append (IsKnown names) before (p.constant ∷ []) known (all.0, tt)) all.1 new.1),
  )

-- accepted tokens spell a sound structure
pub accepted_sound : (ts : List LexToken) (m : Finite) → IsAcceptedText ts →
    SpelledAs models Value (model_making ts) (Row rule.Text) m (marked ts) → IsSound m
accepted_sound ts m (after, accepted) spelled =
    let (known, watched) = value_watched (names_in ts) spelled (all_proper ts) in
    let (takers, clean) = accepted.clean in
    let same = one_taking_of_text models model_plan model_law (Row rule.Text) true true (marked ts) takers watched.takers clean.taken watched.taken in
    let passes = watched.goes nothing_seen after (subst (λ ps. Sees model_watcher nothing_seen ps (marked ts) after) same clean.seen) in
    record {
      some = passes.some;
      few = passes.few;
      placed = passes.placed;
      once = new_names (names_in ts) [] m.places tt known passes.once;
      arguments = passes.arguments;
    }

-- tokens that spell a sound structure are accepted
pub model_accepted : (ts : List LexToken) (m : Finite) → AreModelOf ts m → IsAcceptedText ts
model_accepted ts m of =
    let (known, watched) = value_watched (names_in ts) of.spelled (all_proper ts) in
    let sound : IsSound m = of.sound in
    let after : Seen = record { size = m.size; constants = numbers_of (names_in ts) m.places } in
    let seen = watched.back nothing_seen after (record {
      some = sound.some;
      few = sound.few;
      placed = sound.placed;
      once = new_numbers (names_in ts) [] m.places tt known sound.once;
      arguments = sound.arguments;
      after_is = refl;
    }) in
    (after, record { text = value_spelled models Value (model_making ts) of.spelled; clean = (watched.takers, record { taken = watched.taken; seen = seen }) })
