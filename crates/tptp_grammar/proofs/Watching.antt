-- A row of parts that takes tokens, and what the watcher finds among them; and how such rows are put together.
use Rattle.std.specs.Prelude.{◌≡◌, ◌≤◌, ◌<◌, ◌+◌, ◌-◌, ◌↔◌, ℕ, true, false, nat_lt, List, [], ◌∷◌, ◌++◌, map, Result, Ok, Some, IsTrue}
use Rattle.std.proofs.Common.{refl, sym, ◌∙◌, ap, inr, subst, arith, append-nil, le_refl}
use Rattle.std.proofs.lemmas.List.{map-append}
use Rattle.text_core.specs.Lists.{IsAmong}
use Rattle.text_core.specs.Names.{Text}
use Rattle.text_core.proofs.Laws.{among_front, among_back}
use Rattle.token_grammar.specs.Taken.{Taken}
use Rattle.token_grammar.specs.Taken.Taken.{stop, token, part}
use Rattle.token_grammar.specs.Watch.{Sees}
use Rattle.token_grammar.proofs.Laws.{joined as joined_taken, sees_both, sees_apart, taken_length}
use Rattle.tptp_lexer.specs.declared.kind.Kind.{Kind}
use Rattle.tptp_lexer.specs.Tokens.{Token}
use Rattle.tptp_lexer.specs.Kinds.{kind_of}
use Rattle.text_core.specs.declared.limits.TheConstants.{MOST_LEVELS}
use Rattle.tptp_grammar.specs.declared.limit.Limit.{Limit}
use Rattle.tptp_grammar.specs.declared.item_part.ItemPart.{ItemPart}
use Rattle.tptp_grammar.specs.declared.item_part.ItemPart.TheVariants as parts
use Rattle.tptp_grammar.specs.Parts.{fof_items, takes, alternatives, is_kind}
use Rattle.tptp_grammar.specs.Limits.{Bindings, open_at, opened, look, items_watcher}
use Rattle.tptp_grammar.specs.Marks.{mark_in}
use Rattle.tptp_grammar.proofs.Agreement.{Agrees}
use Rattle.tptp_grammar.proofs.Bindings.{lower_open, higher_open}

-- each token of a part of a text is one of the text's
abbrev pub IsWithin : List Token → List Token → Type 0
IsWithin us all = (t : Token) → IsAmong t us → IsAmong t all

-- each token has the kind of its text
abbrev pub AreProper : List Token → Type 0
AreProper all = (t : Token) → IsAmong t all → kind_of t.text ≡ Some t.kind

-- the watcher goes over tokens of a text with their takers
abbrev pub Goes : List Token → Bindings → List ItemPart → List Token → Bindings → Type 0
Goes all before takers us after = Sees items_watcher before takers (map (mark_in all) us) after

-- The row takes the tokens. The watcher keeps what is open at the low level, and it comes from a scope to the last one, as they
-- are seen at the high level. It finds nothing if B holds, and only then.
pub record Watching (all : List Token) (row : List ItemPart) (low high : ℕ) (us : List Token) (scope last : List Text) (B : Type 0) : Type 0 where
  pub takers : List ItemPart
  pub taken : Taken fof_items true row (map (mark_in all) us) takers
  pub keeps : (before after : Bindings) → Goes all before takers us after → open_at low after ≡ open_at low before
  pub agrees : (before after : Bindings) → Goes all before takers us after → Agrees all (open_at high before) scope →
      Agrees all (open_at high after) last
  pub passes : (before : Bindings) → IsWithin us all → Agrees all (open_at high before) scope → B →
      (after : Bindings) × Goes all before takers us after
  pub tells : (before after : Bindings) → Goes all before takers us after → IsWithin us all → AreProper all →
      Agrees all (open_at high before) scope → B

-- a level that is not too deep is opened
deepened : (level : ℕ) (s : Bindings) → level < MOST_LEVELS → opened (level + 1) s ≡ Ok (open_at level s)
deepened level s below =
    let small : nat_lt MOST_LEVELS (level + 1) ≡ false = grind arith in
    let lower : level + 1 - 1 ≡ level = omega arith in
    rw (small, lower) refl

-- a number is at most the next one
one_more : (n : ℕ) → n ≤ n + 1
one_more n = omega arith

-- the bindings of one result are one
pub same_result : (a b : Bindings) → ◌≡◌ {A = Result Bindings Limit} (Ok a) (Ok b) → a ≡ b
same_result a b e = cc

module _ (all : List Token) where
  -- the watcher goes over tokens in two parts
  both_go : (ps qs : List ItemPart) (us vs : List Token) (before between after : Bindings) → Goes all before ps us between →
      Goes all between qs vs after → Goes all before (ps ++ qs) (us ++ vs) after
  both_go ps qs us vs before between after first second =
      subst (λ marks. Sees items_watcher before (ps ++ qs) marks after) (sym (map-append (mark_in all) us vs))
      (sees_both items_watcher ps qs (map (mark_in all) us) (map (mark_in all) vs) before between after first second)

  -- what it goes over in one, it goes over in two parts
  goes_apart : (row ps qs : List ItemPart) (us vs : List Token) (before after : Bindings) →
      Taken fof_items true row (map (mark_in all) us) ps → Goes all before (ps ++ qs) (us ++ vs) after →
      (between : Bindings) × Goes all before ps us between × Goes all between qs vs after
  goes_apart row ps qs us vs before after taken goes =
      sees_apart items_watcher ps qs (map (mark_in all) us) (map (mark_in all) vs) before after (taken_length taken)
      (subst (λ marks. Sees items_watcher before (ps ++ qs) marks after) (map-append (mark_in all) us vs) goes)

  -- no tokens
  pub nothing : {low high : ℕ} {scope : List Text} → Watching all [] low high [] scope scope (Unit {0})
  nothing {low = low} {high = high} {scope = scope} = record {
    takers = [];
    taken = stop tt;
    keeps = λ before after goes. ap (open_at low) goes;
    agrees = λ before after goes agree. subst (λ s. Agrees all (open_at high s) scope) (sym goes) agree;
    passes = λ before within agree b. (before, refl);
    tells = λ before after goes within proper agree. tt;
  }

  -- one row after another
  pub joined : {first second : List ItemPart} {low high : ℕ} {us vs : List Token} {scope middle last : List Text} {A B : Type 0} →
      Watching all first low high us scope middle A → Watching all second low high vs middle last B →
      Watching all (first ++ second) low high (us ++ vs) scope last (A × B)
  joined {first = first} {second = second} {us = us} {vs = vs} a b = record {
    takers = a.takers ++ b.takers;
    taken = subst (λ marks. Taken fof_items true (first ++ second) marks (a.takers ++ b.takers)) (sym (map-append (mark_in all) us vs))
        (joined_taken fof_items a.taken b.taken);
    keeps = λ before after goes.
        let (between, front, back) = goes_apart first a.takers b.takers us vs before after a.taken goes in
        b.keeps between after back ∙ a.keeps before between front;
    agrees = λ before after goes agree.
        let (between, front, back) = goes_apart first a.takers b.takers us vs before after a.taken goes in
        b.agrees between after back (a.agrees before between front agree);
    passes = λ before within agree holds.
        let (between, front) = a.passes before (λ t h. within t (among_front t us vs h)) agree holds.0 in
        let (after, back) = b.passes between (λ t h. within t (among_back t us vs h)) (a.agrees before between front agree) holds.1 in
        (after, both_go a.takers b.takers us vs before between after front back);
    tells = λ before after goes within proper agree.
        let (between, front, back) = goes_apart first a.takers b.takers us vs before after a.taken goes in (
          a.tells before between front (λ t h. within t (among_front t us vs h)) proper agree,
          b.tells between after back (λ t h. within t (among_back t us vs h)) proper (a.agrees before between front agree),
        );
  }

  -- a part by one of its alternatives
  pub chosen : {p : ItemPart} {row : List ItemPart} {low high : ℕ} {us : List Token} {scope last : List Text} {B : Type 0} →
      IsAmong row (alternatives p) → Watching all row low high us scope last B → Watching all (p ∷ []) low high us scope last B
  chosen {row = row} {us = us} a w = record {
    takers = w.takers;
    taken = part row a (subst (λ r. Taken fof_items true r (map (mark_in all) us) w.takers) (sym (append-nil row)) w.taken);
    keeps = w.keeps;
    agrees = w.agrees;
    passes = w.passes;
    tells = w.tells;
  }

  -- the same where another fact holds exactly where B does
  pub meaning : {row : List ItemPart} {low high : ℕ} {us : List Token} {scope last : List Text} {A B : Type 0} → (A → B) → (B → A) →
      Watching all row low high us scope last A → Watching all row low high us scope last B
  meaning to from w = record {
    takers = w.takers;
    taken = w.taken;
    keeps = w.keeps;
    agrees = w.agrees;
    passes = λ before within agree b. w.passes before within agree (from b);
    tells = λ before after goes within proper agree. to (w.tells before after goes within proper agree);
  }

  -- one row after another, where only the second needs something
  pub right : {first second : List ItemPart} {low high : ℕ} {us vs : List Token} {scope middle last : List Text} {B : Type 0} →
      Watching all first low high us scope middle (Unit {0}) → Watching all second low high vs middle last B →
      Watching all (first ++ second) low high (us ++ vs) scope last B
  right a b = meaning (λ h. h.1) (λ h. (tt, h)) (joined a b)

  -- one row after another, where only the first needs something
  pub left : {first second : List ItemPart} {low high : ℕ} {us vs : List Token} {scope middle last : List Text} {A : Type 0} →
      Watching all first low high us scope middle A → Watching all second low high vs middle last (Unit {0}) →
      Watching all (first ++ second) low high (us ++ vs) scope last A
  left a b = meaning (λ h. h.0) (λ h. (h, tt)) (joined a b)

  -- the same tokens, told otherwise
  pub respelled : {row : List ItemPart} {low high : ℕ} {us vs : List Token} {scope last : List Text} {B : Type 0} → us ≡ vs →
      Watching all row low high us scope last B → Watching all row low high vs scope last B
  respelled {row = row} {low = low} {high = high} {scope = scope} {last = last} {B = B} e w =
      subst (λ ts. Watching all row low high ts scope last B) e w

  -- a token at which the watcher does nothing
  pub plain : {low high : ℕ} {scope : List Text} (p : ItemPart) (t : Token) → IsTrue (takes p (mark_in all t)) →
      ((s : Bindings) → look s p (mark_in all t) ≡ Ok s) → Watching all (p ∷ []) low high (t ∷ []) scope scope (Unit {0})
  plain {low = low} {high = high} {scope = scope} p t takes_it still = record {
    takers = p ∷ [];
    taken = token takes_it (stop tt);
    keeps = λ before after goes. ap (open_at low) (stays before after goes);
    agrees = λ before after goes agree. subst (λ s. Agrees all (open_at high s) scope) (sym (stays before after goes)) agree;
    passes = λ before within agree b. (before, (before, still before, refl));
    tells = λ before after goes within proper agree. tt;
  }
    where
      stays : (before after : Bindings) → Goes all before (p ∷ []) (t ∷ []) after → after ≡ before
      stays before after goes = goes.2 ∙ same_result goes.0 before (sym goes.1 ∙ still before)

  -- a row behind a token that opens a level
  pub deeper : {row : List ItemPart} {us : List Token} {scope last : List Text} {B : Type 0} (level : ℕ) (k : Kind) (t : Token) →
      level < MOST_LEVELS → IsTrue (is_kind k (mark_in all t)) → Watching all row level (level + 1) us scope last B →
      Watching all (parts.Opens (level + 1) k ∷ row) level level (t ∷ us) scope scope B
  deeper {us = us} {scope = scope} level k t below takes_it w = record {
    takers = parts.Opens (level + 1) k ∷ w.takers;
    taken = token takes_it w.taken;
    keeps = kept;
    agrees = λ before after goes agree. subst (λ s. Agrees all s scope) (sym (kept before after goes)) agree;
    passes = λ before within agree b.
        let (after, goes) = w.passes (open_at level before) (λ u h. within u (inr h)) (entered before agree) b in
        (after, (open_at level before, deepened level before below, goes));
    tells = λ before after goes within proper agree.
        w.tells (open_at level before) after (inner before after goes) (λ u h. within u (inr h)) proper (entered before agree);
  }
    where
      inner : (before after : Bindings) → Goes all before (parts.Opens (level + 1) k ∷ w.takers) (t ∷ us) after →
          Goes all (open_at level before) w.takers us after
      inner before after goes =
          subst (λ s. Goes all s w.takers us after)
          (same_result goes.0 (open_at level before) (sym goes.1 ∙ deepened level before below)) goes.2

      kept : (before after : Bindings) → Goes all before (parts.Opens (level + 1) k ∷ w.takers) (t ∷ us) after →
          open_at level after ≡ open_at level before
      kept before after goes =
          w.keeps (open_at level before) after (inner before after goes) ∙ lower_open level level before (le_refl level)

      entered : (before : Bindings) → Agrees all (open_at level before) scope → Agrees all (open_at (level + 1) (open_at level before)) scope
      entered before agree =
          subst (λ s. Agrees all s scope) (sym (higher_open level (level + 1) before (one_more level))) agree

  -- the last scope by another list of the same names
  pub rescoped : {row : List ItemPart} {low high : ℕ} {us : List Token} {scope last other : List Text} {B : Type 0} →
      ((x : Text) → IsAmong x last ↔ IsAmong x other) → Watching all row low high us scope last B →
      Watching all row low high us scope other B
  rescoped alike w = record {
    takers = w.takers;
    taken = w.taken;
    keeps = w.keeps;
    agrees = λ before after goes agree t among.
        let (bound, covers) = w.agrees before after goes agree t among in
        (λ h. (alike t.text).0 (bound h), λ h. covers ((alike t.text).1 h));
    passes = w.passes;
    tells = w.tells;
  }

  -- what keeps the bindings of a level keeps those below it
  pub loosened : {row : List ItemPart} {us : List Token} {scope last : List Text} {B : Type 0} (level : ℕ) →
      Watching all row (level + 1) (level + 1) us scope last B → Watching all row level (level + 1) us scope last B
  loosened level w = record {
    takers = w.takers;
    taken = w.taken;
    keeps = λ before after goes.
        sym (lower_open level (level + 1) after (one_more level)) ∙
        (ap (open_at level) (w.keeps before after goes) ∙ lower_open level (level + 1) before (one_more level));
    agrees = w.agrees;
    passes = w.passes;
    tells = w.tells;
  }
