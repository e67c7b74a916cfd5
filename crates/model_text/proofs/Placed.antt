-- What each value does to what the watcher has seen.
use Rattle.std.specs.Prelude.{◌≡◌, ℕ, ◌<◌, ◌≤◌, nat_eq, nat_lt, nat_le, ◌&&◌, ◌||◌, Bool, true, false, List, [], ◌∷◌, ◌++◌, map, Result, Ok, Err, IsTrue, cond}
use Rattle.std.specs.List.{AllByRecursion, list_any}
use Rattle.std.proofs.Common.{refl, sym, ◌∙◌, ap, subst, inl, inr, arith, append_assoc}
use Rattle.std.proofs.lemmas.List.{append-nil}
use Rattle.std.proofs.lemmas.Bool.{ltb-true}
use Rattle.text_core.specs.Names.{Text}
use Rattle.text_core.specs.Lists.{IsAmong}
use Rattle.text_core.proofs.Laws.{number_same}
use Rattle.signature.specs.Columns.{name_number}
use Rattle.token_grammar.specs.Making.{RowValues}
use Rattle.token_grammar.specs.Productions.{Makers}
use Rattle.model_text.specs.declared.limits.TheConstants.{MOST_ELEMENTS}
use Rattle.model_text.specs.declared.mark.Mark as Mark
use Rattle.model_text.specs.declared.part.ModelPart as ModelPart
use Rattle.model_text.specs.declared.part.ModelPart.TheVariants.{Taken, Row}
use Rattle.model_text.specs.declared.part.Taker.TheVariants as taker
use Rattle.model_text.specs.declared.part.Rule.TheVariants as rule
use Rattle.model_text.specs.declared.structure.Place.{Place}
use Rattle.model_text.specs.declared.structure.Fact.{Fact}
use Rattle.model_text.specs.declared.watch.Fault.{Fault}
use Rattle.model_text.specs.declared.watch.Fault.TheVariants.{Range, Twice}
use Rattle.model_text.specs.Structures.{Finite, AreNew, AreElements}
use Rattle.model_text.specs.Words.{name_numbered}
use Rattle.model_text.specs.Grammar.{taker_takes, alternatives}
use Rattle.model_text.specs.Values.{Value, makers, number_of, word_in, name_in}
use Rattle.model_text.specs.Seen.{Seen}
use Rattle.model_text.specs.Watching.{look, sized, within, placed}
use Rattle.model_text.proofs.Marked.{IsProper}

-- the value of a result is one
ok_same : {x y : Seen} → (let a : Result Seen Fault = Ok x in a) ≡ Ok y → x ≡ y
ok_same e = cc

-- a size that is set
sized_is : (n : ℕ) (s after : Seen) → sized n s ≡ Ok after → (1 ≤ n) × (n ≤ MOST_ELEMENTS) × (after ≡ record s { size = n })
sized_is n s after e = by (nat_le 1 n) (nat_le n MOST_ELEMENTS) refl refl e
  where
    by : (a b : Bool) → nat_le 1 n ≡ a → nat_le n MOST_ELEMENTS ≡ b → cond (a && b) (Ok (record s { size = n })) (Err Range) ≡ Ok after →
        (1 ≤ n) × (n ≤ MOST_ELEMENTS) × (after ≡ record s { size = n })
    by true true f g e = (grind (arith, f), grind (arith, g), sym (ok_same e))
    by true false f g e = cc
    by false b f g e = cc

-- a size that may be set
sized_passes : (n : ℕ) (s : Seen) → 1 ≤ n → n ≤ MOST_ELEMENTS → sized n s ≡ Ok (record s { size = n })
sized_passes n s some few = by (nat_le 1 n) (nat_le n MOST_ELEMENTS) refl refl
  where
    by : (a b : Bool) → nat_le 1 n ≡ a → nat_le n MOST_ELEMENTS ≡ b →
        cond (a && b) (Ok (record s { size = n })) (Err Range) ≡ Ok (record s { size = n })
    by true true f g = refl
    by true false f g = absurd (grind (arith, g, few))
    by false b f g = absurd (grind (arith, f, some))

-- a number that is an element
within_is : (n : ℕ) (s after : Seen) → within n s ≡ Ok after → (n < s.size) × (after ≡ s)
within_is n s after e = by (nat_lt n s.size) refl e
  where
    by : (a : Bool) → nat_lt n s.size ≡ a → cond a (Ok s) (Err Range) ≡ Ok after → (n < s.size) × (after ≡ s)
    by true f e = (ltb-true n s.size f, sym (ok_same e))
    by false f e = cc

within_passes : (n : ℕ) (s : Seen) → n < s.size → within n s ≡ Ok s
within_passes n s below = by (nat_lt n s.size) refl
  where
    by : (a : Bool) → nat_lt n s.size ≡ a → cond a (Ok s) (Err Range) ≡ Ok s
    by true f = refl
    by false f = absurd (grind (arith, f, below))

-- a number that is found is a member
any_among : (n : ℕ) (xs : List ℕ) → list_any (nat_eq n) xs ≡ true → IsAmong n xs
any_among n [] e = absurd (cc)
any_among n (x ∷ xs) e = by (nat_eq n x) refl e (any_among n xs)
  where
    by : (a : Bool) → nat_eq n x ≡ a → (a || list_any (nat_eq n) xs) ≡ true → (list_any (nat_eq n) xs ≡ true → IsAmong n xs) →
        IsAmong n (x ∷ xs)
    by true f e later = inl (sym (number_same n x f))
    by false f e later = inr (later e)

-- a member is found
among_any : (n : ℕ) (xs : List ℕ) → IsAmong n xs → list_any (nat_eq n) xs ≡ true
among_any n [] h = absurd h
among_any n (x ∷ xs) (inl h) = by (nat_eq n x) refl
  where
    by : (a : Bool) → nat_eq n x ≡ a → (a || list_any (nat_eq n) xs) ≡ true
    by true f = refl
    by false f = absurd (grind (arith, f, h))
among_any n (x ∷ xs) (inr h) = by (nat_eq n x) (among_any n xs h)
  where
    by : (a : Bool) → list_any (nat_eq n) xs ≡ true → (a || list_any (nat_eq n) xs) ≡ true
    by true later = refl
    by false later = later

-- what is seen with further constants
abbrev pub with_constants : Seen → List ℕ → Seen
with_constants s ns = record s { constants = s.constants ++ ns }

-- a constant that gets a place
placed_is : (n : ℕ) (s after : Seen) → placed n s ≡ Ok after → (IsAmong n s.constants → ⊥) × (after ≡ with_constants s (n ∷ []))
placed_is n s after e = by (list_any (nat_eq n) s.constants) refl e
  where
    by : (a : Bool) → list_any (nat_eq n) s.constants ≡ a → cond a (Err Twice) (Ok (with_constants s (n ∷ []))) ≡ Ok after →
        (IsAmong n s.constants → ⊥) × (after ≡ with_constants s (n ∷ []))
    by true f e = cc
    by false f e = ((λ h. let there = among_any n s.constants h in cc), sym (ok_same e))

placed_passes : (n : ℕ) (s : Seen) → (IsAmong n s.constants → ⊥) → placed n s ≡ Ok (with_constants s (n ∷ []))
placed_passes n s new = by (list_any (nat_eq n) s.constants) refl
  where
    by : (a : Bool) → list_any (nat_eq n) s.constants ≡ a →
        cond a (Err Twice) (Ok (with_constants s (n ∷ []))) ≡ Ok (with_constants s (n ∷ []))
    by true f = absurd (new (any_among n s.constants f))
    by false f = refl

module _ (names : List Text) where
  -- the numbers of the constants of places
  abbrev pub numbers_of : List Place → List ℕ
  numbers_of places = map (λ (p : Place). name_number names p.constant) places

  -- a name is told by its number
  abbrev pub IsKnown : Text → Type 0
  IsKnown name = name_numbered names (name_number names name) ≡ name

  abbrev pub AreKnown : List Place → Type 0
  AreKnown places = AllByRecursion (λ (p : Place). IsKnown p.constant) places

  -- tokens are proper and taken, and constants are known
  abbrev pub IsFine : (p : ModelPart.ModelPart) → Value p → Type 0
  IsFine (Taken taker) m = IsProper names m × IsTrue (taker_takes taker m)
  IsFine (Row rule.Text) m = AreKnown m.places
  IsFine (Row rule.Sized) m = AreKnown m.places
  IsFine (Row rule.Places) places = AreKnown places
  IsFine (Row _) value = Unit {0}

  -- the same of each member of a row
  abbrev pub AreFine : (row : List ModelPart.ModelPart) → RowValues Value row → Type 0
  AreFine [] values = Unit {0}
  AreFine (p ∷ row) values = IsFine p values.0 × AreFine row values.1

  -- a structure whose text the watcher lets pass
  pub record Passes (m : Finite) (s after : Seen) : Type 0 where
    pub some : 1 ≤ m.size
    pub few : m.size ≤ MOST_ELEMENTS
    pub placed : AllByRecursion (λ (p : Place). p.element < m.size) m.places
    pub once : AreNew s.constants (numbers_of m.places)
    pub arguments : AllByRecursion (λ (f : Fact). AreElements m.size f.arguments) m.facts
    pub after_is : after ≡ record { size = m.size; constants = s.constants ++ numbers_of m.places }

  -- the watcher goes on from one state to another over a value
  abbrev pub Goes : (p : ModelPart.ModelPart) → Value p → Seen → Seen → Type 0
  Goes (Taken taker) m s after = look s (Taken taker) m ≡ Ok after
  Goes (Row rule.Text) m s after = Passes m s after
  Goes (Row rule.Sized) m s after = Passes m s after
  Goes (Row rule.Places) places s after =
      AllByRecursion (λ (p : Place). p.element < s.size) places × AreNew s.constants (numbers_of places) ×
      (after ≡ with_constants s (numbers_of places))
  Goes (Row rule.Facts) facts s after = AllByRecursion (λ (f : Fact). AreElements s.size f.arguments) facts × (after ≡ s)
  Goes (Row rule.Arguments) xs s after = AreElements s.size xs × (after ≡ s)
  Goes (Row rule.Others) xs s after = AreElements s.size xs × (after ≡ s)

  -- and over the members of a row
  abbrev pub RowGoes : (row : List ModelPart.ModelPart) → RowValues Value row → Seen → Seen → Type 0
  RowGoes [] values s after = after ≡ s
  RowGoes (p ∷ row) values s after = (between : Seen) × Goes p values.0 s between × RowGoes row values.1 between after

  -- the same from a row to the value that is made of it
  pub record Agrees (p : ModelPart.ModelPart) (row : List ModelPart.ModelPart) (values : RowValues Value row) (value : Value p) : Type 0 where
    pub fine : IsFine p value
    pub goes : (s after : Seen) → RowGoes row values s after → Goes p value s after
    pub back : (s after : Seen) → Goes p value s after → RowGoes row values s after

  -- each row agrees with what its maker makes
  abbrev pub RowsAgree : (p : ModelPart.ModelPart) (rows : List (List ModelPart.ModelPart)) → Makers Value (Value p) rows → Type 0
  RowsAgree p [] made = Unit {0}
  RowsAgree p (row ∷ rows) made =
      ((values : RowValues Value row) → AreFine row values → Agrees p row values (made.0 values)) × RowsAgree p rows made.1

  -- what is seen stays over numbers that are elements
  stays : (s t : Seen) (xs : List ℕ) → t ≡ s → AreElements t.size xs → AreElements s.size xs
  stays s t xs e h = subst (λ (u : Seen). AreElements u.size xs) e h

  others_agree : (values : RowValues Value (Taken taker.Comma ∷ Taken taker.Argument ∷ Row rule.Others ∷ [])) →
      Agrees (Row rule.Others) (Taken taker.Comma ∷ Taken taker.Argument ∷ Row rule.Others ∷ []) values
      (number_of values.1.0 ∷ values.1.1.0)
  others_agree values = record {
    fine = tt;
    goes = λ s after (a, at_comma, (b, at_number, (c, (els, c_is), end))).
        let a_is : a ≡ s = sym (ok_same at_comma) in
        let (below, b_is) = within_is (number_of values.1.0) a b at_number in (
          (
            subst (λ (u : Seen). number_of values.1.0 < u.size) a_is below,
            stays s b values.1.1.0 (b_is ∙ a_is) els,
          ),
          end ∙ c_is ∙ b_is ∙ a_is,
        );
    back = λ s after ((below, els), end). (s, refl, (s, within_passes (number_of values.1.0) s below, (s, (els, refl), end)));
  }

  arguments_agree : (values : RowValues Value (Taken taker.Open ∷ Taken taker.Argument ∷ Row rule.Others ∷ Taken taker.Close ∷ [])) →
      Agrees (Row rule.Arguments) (Taken taker.Open ∷ Taken taker.Argument ∷ Row rule.Others ∷ Taken taker.Close ∷ []) values
      (number_of values.1.0 ∷ values.1.1.0)
  arguments_agree values = record {
    fine = tt;
    goes = λ s after (a, at_open, (b, at_number, (c, (els, c_is), (d, at_close, end)))).
        let a_is : a ≡ s = sym (ok_same at_open) in
        let d_is : d ≡ c = sym (ok_same at_close) in
        let (below, b_is) = within_is (number_of values.1.0) a b at_number in (
          (
            subst (λ (u : Seen). number_of values.1.0 < u.size) a_is below,
            stays s b values.1.1.0 (b_is ∙ a_is) els,
          ),
          end ∙ d_is ∙ c_is ∙ b_is ∙ a_is,
        );
    back = λ s after ((below, els), end).
        (s, refl, (s, within_passes (number_of values.1.0) s below, (s, (els, refl), (s, refl, end))));
  }

  facts_agree : (values : RowValues Value (Taken taker.FactWord ∷ Taken taker.Predicate ∷ Row rule.Arguments ∷ Taken taker.EndFact ∷ Row rule.Facts ∷ [])) →
      Agrees (Row rule.Facts) (Taken taker.FactWord ∷ Taken taker.Predicate ∷ Row rule.Arguments ∷ Taken taker.EndFact ∷ Row rule.Facts ∷ []) values
      (record { predicate = name_in names values.1.0; arguments = values.1.1.0 } ∷ values.1.1.1.1.0)
  facts_agree values = record {
    fine = tt;
    goes = λ s after (a, at_word, (b, at_name, (c, (els, c_is), (d, at_dot, (e, (all, e_is), end))))).
        let a_is : a ≡ s = sym (ok_same at_word) in
        let b_is : b ≡ a = sym (ok_same at_name) in
        let d_is : d ≡ c = sym (ok_same at_dot) in
        let back_to : d ≡ s = d_is ∙ c_is ∙ b_is ∙ a_is in (
          (
            stays s b values.1.1.0 (b_is ∙ a_is) els,
            subst (λ (u : Seen). AllByRecursion (λ (f : Fact). AreElements u.size f.arguments) values.1.1.1.1.0) back_to all,
          ),
          end ∙ e_is ∙ back_to,
        );
    back = λ s after ((els, all), end). (s, refl, (s, refl, (s, (els, refl), (s, refl, (s, (all, refl), end)))));
  }

  -- a constant of a text is known
  constant_known : (m : Mark.Mark) → IsProper names m → IsTrue (taker_takes taker.Constant m) → IsKnown (name_in names m)
  constant_known m proper word = ap (name_numbered names) (sym (proper word).0)

  -- its number is that of its name
  constant_number : (m : Mark.Mark) → IsProper names m → IsTrue (taker_takes taker.Constant m) → word_in m ≡ name_number names (name_in names m)
  constant_number m proper word = (proper word).0

  -- with one constant and then others
  with_more : (s : Seen) (n : ℕ) (ns : List ℕ) → with_constants (with_constants s (n ∷ [])) ns ≡ with_constants s (n ∷ ns)
  with_more s n ns = ap (λ (list : List ℕ). record s { constants = list }) (append_assoc s.constants (n ∷ []) ns)

  places_agree : (values : RowValues Value (Taken taker.PlaceWord ∷ Taken taker.Constant ∷ Taken taker.IsWord ∷ Taken taker.Element ∷ Taken taker.Dot ∷ Row rule.Places ∷ [])) →
      AreFine (Taken taker.PlaceWord ∷ Taken taker.Constant ∷ Taken taker.IsWord ∷ Taken taker.Element ∷ Taken taker.Dot ∷ Row rule.Places ∷ []) values →
      Agrees (Row rule.Places) (Taken taker.PlaceWord ∷ Taken taker.Constant ∷ Taken taker.IsWord ∷ Taken taker.Element ∷ Taken taker.Dot ∷ Row rule.Places ∷ []) values
      (record { constant = name_in names values.1.0; element = number_of values.1.1.1.0 } ∷ values.1.1.1.1.1.0)
  places_agree values fine = record {
    fine = (constant_known values.1.0 fine.1.0.0 fine.1.0.1, fine.1.1.1.1.1.0);
    goes = λ s after (a, at_word, (b, at_name, (c, at_is, (d, at_number, (e, at_dot, (f, (all, new, f_is), end)))))).
        let a_is : a ≡ s = sym (ok_same at_word) in
        let c_is : c ≡ b = sym (ok_same at_is) in
        let e_is : e ≡ d = sym (ok_same at_dot) in
        let (free, b_to) = placed_is (word_in values.1.0) a b at_name in
        let (below, d_is) = within_is (number_of values.1.1.1.0) c d at_number in
        let number = constant_number values.1.0 fine.1.0.0 fine.1.0.1 in
        let number_is : ℕ = name_number names (name_in names values.1.0) in
        let b_is : b ≡ with_constants s (number_is ∷ []) =
        b_to ∙ (λ i. with_constants (a_is i) (number i ∷ [])) in
        let same : e ≡ with_constants s (number_is ∷ []) = e_is ∙ d_is ∙ c_is ∙ b_is in (
          (
            subst (λ (u : Seen). number_of values.1.1.1.0 < u.size) (c_is ∙ b_is) below,
            subst (λ (u : Seen). AllByRecursion (λ (p : Place). p.element < u.size) values.1.1.1.1.1.0) same all,
          ),
          (
            (λ h. free (subst (λ (u : Seen). IsAmong (word_in values.1.0) u.constants) (sym a_is) (subst (λ n. IsAmong n s.constants) (sym number) h))),
            subst (λ (u : Seen). AreNew u.constants (numbers_of values.1.1.1.1.1.0)) same new,
          ),
          end ∙ f_is ∙ ap (λ (u : Seen). with_constants u (numbers_of values.1.1.1.1.1.0)) same ∙
              with_more s number_is (numbers_of values.1.1.1.1.1.0),
        );
    back = λ s after ((below, all), (free, new), end).
        let number = constant_number values.1.0 fine.1.0.0 fine.1.0.1 in
        let number_is : ℕ = name_number names (name_in names values.1.0) in
        let next : Seen = with_constants s (number_is ∷ []) in (
          s,
          refl,
          (
            next,
            subst (λ n. placed n s ≡ Ok next) (sym number) (placed_passes number_is s free),
            (
              next,
              refl,
              (
                next,
                within_passes (number_of values.1.1.1.0) next below,
                (
                  next,
                  refl,
                  (
                    with_constants next (numbers_of values.1.1.1.1.1.0),
                    (all, new, refl),
                    end ∙ sym (with_more s number_is (numbers_of values.1.1.1.1.1.0)),
                  ),
                ),
              ),
            ),
          ),
        );
  }

  sized_agree : (values : RowValues Value (Taken taker.SizeWord ∷ Taken taker.Size ∷ Taken taker.Dot ∷ Row rule.Places ∷ Row rule.Facts ∷ [])) →
      AreKnown values.1.1.1.0 →
      Agrees (Row rule.Sized) (Taken taker.SizeWord ∷ Taken taker.Size ∷ Taken taker.Dot ∷ Row rule.Places ∷ Row rule.Facts ∷ []) values
      (record { size = number_of values.1.0; places = values.1.1.1.0; facts = values.1.1.1.1.0 })
  sized_agree values known = record {
    fine = known;
    goes = λ s after (a, at_word, (b, at_size, (c, at_dot, (d, (all, new, d_is), (e, (facts, e_is), end))))).
        let a_is : a ≡ s = sym (ok_same at_word) in
        let c_is : c ≡ b = sym (ok_same at_dot) in
        let (some, few, b_to) = sized_is (number_of values.1.0) a b at_size in
        let here : Seen = record s { size = number_of values.1.0 } in
        let c_to : c ≡ here = c_is ∙ b_to ∙ (λ i. record (a_is i) { size = number_of values.1.0 }) in
        let d_to : d ≡ with_constants here (numbers_of values.1.1.1.0) = d_is ∙ ap (λ (u : Seen). with_constants u (numbers_of values.1.1.1.0)) c_to in
        record {
          some = some;
          few = few;
          placed = subst (λ (u : Seen). AllByRecursion (λ (p : Place). p.element < u.size) values.1.1.1.0) c_to all;
          once = subst (λ (u : Seen). AreNew u.constants (numbers_of values.1.1.1.0)) c_to new;
          arguments = subst (λ (u : Seen). AllByRecursion (λ (f : Fact). AreElements u.size f.arguments) values.1.1.1.1.0) d_to facts;
          after_is = end ∙ e_is ∙ d_to;
        };
    back = λ s after passes.
        let here : Seen = record s { size = number_of values.1.0 } in
        let there : Seen = with_constants here (numbers_of values.1.1.1.0) in (
          s,
          refl,
          (
            here,
            sized_passes (number_of values.1.0) s passes.some passes.few,
            (here, refl, (there, (passes.placed, passes.once, refl), (there, (passes.arguments, refl), passes.after_is))),
          ),
        );
  }

  text_agrees : (values : RowValues Value (Taken taker.ModelWord ∷ Taken taker.Version ∷ Taken taker.Dot ∷ Row rule.Sized ∷ [])) →
      AreKnown (values.1.1.1.0).places →
      Agrees (Row rule.Text) (Taken taker.ModelWord ∷ Taken taker.Version ∷ Taken taker.Dot ∷ Row rule.Sized ∷ []) values values.1.1.1.0
  text_agrees values known = record {
    fine = known;
    goes = λ s after (a, at_word, (b, at_version, (c, at_dot, (d, passes, end)))).
        let c_is : c ≡ s = sym (ok_same at_dot) ∙ sym (ok_same at_version) ∙ sym (ok_same at_word) in
        subst (Passes values.1.1.1.0 s) (sym end) (subst (λ (u : Seen). Passes values.1.1.1.0 u d) c_is passes);
    back = λ s after passes. (s, refl, (s, refl, (s, refl, (after, passes, refl))));
  }

  -- a line for each row
  pub all_agree : (p : ModelPart.ModelPart) → RowsAgree p (alternatives p) (makers names p)
  all_agree (Taken taker) = tt
  all_agree (Row rule.Text) = ((λ values fine. text_agrees values fine.1.1.1.0), tt)
  all_agree (Row rule.Sized) = ((λ values fine. sized_agree values fine.1.1.1.0), tt)
  all_agree (Row rule.Places) = (
    (λ values fine. record {
      fine = tt;
      goes = λ s after e. (tt, tt, e ∙ ap (λ (list : List ℕ). record s { constants = list }) (sym (append-nil s.constants)));
      back = λ s after (all, new, e). e ∙ ap (λ (list : List ℕ). record s { constants = list }) (append-nil s.constants);
    }),
    ((λ values fine. places_agree values fine), tt),
  )
  all_agree (Row rule.Facts) = (
    (λ values fine. record { fine = tt; goes = λ s after e. (tt, e); back = λ s after (all, e). e }),
    ((λ values fine. facts_agree values), tt),
  )
  all_agree (Row rule.Arguments) = (
    (λ values fine. record { fine = tt; goes = λ s after e. (tt, e); back = λ s after (all, e). e }),
    ((λ values fine. arguments_agree values), tt),
  )
  all_agree (Row rule.Others) = (
    (λ values fine. record { fine = tt; goes = λ s after e. (tt, e); back = λ s after (all, e). e }),
    ((λ values fine. others_agree values), tt),
  )
