-- The context that is kept, as lines are added behind it.
use Rattle.std.proofs.Common.{◌≡◌, ℕ, zero, suc, ◌+◌, ◌-◌, ◌≤◌, Bool, false, List, [], ◌∷◌, ◌++◌, length, take, drop, map, slice_get, Option, Some, refl, ap, sym, ◌∙◌, subst, arith, append_assoc, append-nil, length-append}
use Rattle.std.specs.List.{AllByRecursion}
use Rattle.std.proofs.lemmas.Bool.{false≢true}
use Rattle.std.proofs.lemmas.List.{map-append, drop-append-le, take-append-le, length-drop}
use Rattle.std.proofs.Math.Seq.{drop-append_seam, take-length}
use Rattle.text_core.proofs.Laws.{each_map, each_append}
use Rattle.logic_core.specs.declared.form.Atom.{Atom}
use Rattle.logic_core.specs.declared.form.Form.{Form}
use Rattle.fact_store.specs.Facts as store
use Rattle.vernacular_tree.specs.Contexts.{atom_at, counted, line_of, after_mp}
use Rattle.vernacular_tree.specs.declared.context.Line as Line
use Rattle.vernacular_tree.specs.declared.context.Line.TheVariants as line
use Rattle.vernacular_tree.specs.declared.context.Context.{Context}
use Rattle.coherent_form.specs.Tasks.{CitedTask}
use Rattle.instance_cursor.specs.Facts.{signed_number}
use Rattle.kept_context.specs.Kept.{Kept, fact_of, lists_at, without_facts, line_seen, IsWithin, Represents, IsEmpty}
use Rattle.kept_context.specs.Noted.{AreNoted, IsNoted}
use Rattle.kept_context.specs.Cased.{line_made}
use Rattle.kept_context.specs.declared.kept.OwnLine as OwnLine
use Rattle.kept_context.specs.declared.kept.OwnLine.TheVariants.{Facts, Cases, Falsum}

-- ---- lines of one's own, as further elements are kept

-- a part of a list stays when more follows
part_stays : (values more : List ℕ) (start count : ℕ) → start + count ≤ length values → take count (drop start (values ++ more)) ≡ take count (drop start values)
part_stays values more start count h =
    ap (take count) (drop-append-le start values more (omega arith))
    ∙ take-append-le count (drop start values) more (omega (arith, length-drop start values))

-- a line is seen as before
seen_stays : (task : CitedTask) (values more : List ℕ) (own : OwnLine.OwnLine) → IsWithin (length values) own
    → line_seen task (values ++ more) own ≡ line_seen task values own
seen_stays task values more Facts h = refl
seen_stays task values more (Cases form start count) h =
    ap (λ (es : List ℕ). line.Cases (lists_at (slice_get task.forms form) es)) (part_stays values more start count h)
seen_stays task values more Falsum h = refl

lines_stay : (task : CitedTask) (values more : List ℕ) (lines : List OwnLine.OwnLine) → AllByRecursion (IsWithin (length values)) lines
    → map (line_seen task (values ++ more)) lines ≡ map (line_seen task values) lines
lines_stay task values more [] h = refl
lines_stay task values more (own ∷ lines) h = λ i. seen_stays task values more own h.0 i ∷ lines_stay task values more lines h.1 i

-- what is within some is within more
within_more : (count more : ℕ) (own : OwnLine.OwnLine) → IsWithin count own → IsWithin (count + more) own
within_more count more Facts h = h
within_more count more (Cases form start n) h = let within : start + n ≤ count = h in omega arith
within_more count more Falsum h = h

-- ---- one more line

-- what is noted of a context that is kept
pub noted_of : (task : CitedTask) (lent : Context) (kept : Kept) (context : Context) → Represents task lent kept context
    → AreNoted kept.store.facts kept.falsum context.lines
noted_of task lent kept context is = record { facts_told = is.facts; falsum_told = is.falsum }

-- the context with one more line is kept
pub line_represented : (task : CitedTask) (lent : Context) (old new : Kept) (context : Context) (l : Line.Line) (own : OwnLine.OwnLine) (values : List ℕ) (elements : ℕ)
    → Represents task lent old context → IsNoted l old.store old.falsum new.store new.falsum
    → new.lines ≡ old.lines ++ own ∷ [] → new.values ≡ old.values ++ values → IsWithin (length new.values) own
    → line_seen task new.values own ≡ without_facts l → new.elements ≡ elements
    → Represents task lent new (record { elements = elements; lines = context.lines ++ l ∷ [] })
line_represented task lent old new context l own values elements is noted lines_are values_are within seen elements_are =
    let told = noted context.lines (noted_of task lent old context is) in
    let own_seen : List OwnLine.OwnLine → List Line.Line = map (line_seen task new.values) in
    let before : map (line_seen task new.values) old.lines ≡ map (line_seen task old.values) old.lines
    = ap (λ (vs : List ℕ). map (line_seen task vs) old.lines) values_are ∙ lines_stay task old.values values old.lines is.within in
    let all : map (line_seen task new.values) new.lines ≡ map (line_seen task old.values) old.lines ++ without_facts l ∷ []
    = ap own_seen lines_are ∙ map-append (line_seen task new.values) old.lines (own ∷ [])
    ∙ (λ i. before i ++ seen i ∷ []) in
    let longer : length new.values ≡ length old.values + length values = ap length values_are ∙ length-append old.values values in
    record {
      elements_are = elements_are;
      facts = told.facts_told;
      lines_are = map-append without_facts context.lines (l ∷ [])
          ∙ ap (λ (ls : List Line.Line). ls ++ without_facts l ∷ []) is.lines_are
          ∙ append_assoc (map without_facts lent.lines) (map (line_seen task old.values) old.lines) (without_facts l ∷ [])
          ∙ ap (λ (ls : List Line.Line). map without_facts lent.lines ++ ls) (sym all);
      within = subst (AllByRecursion (IsWithin (length new.values))) (sym lines_are)
          (each_append (IsWithin (length new.values)) old.lines (own ∷ [])
          (subst (λ n. AllByRecursion (IsWithin n) old.lines) (sym longer)
          (each_map (λ own h. within_more (length old.values) (length values) own h) old.lines is.within))
          (within, tt));
      falsum = told.falsum_told;
    }

-- nothing but the lent context is kept
pub lent_represented : (task : CitedTask) (lent : Context) (old new : Kept) → IsEmpty old → AreNoted new.store.facts new.falsum lent.lines
    → new.lines ≡ old.lines → new.elements ≡ lent.elements → Represents task lent new lent
lent_represented task lent old new empty noted lines elements =
    let none : new.lines ≡ [] = lines ∙ empty.lines in
    record {
      elements_are = elements;
      facts = noted.facts_told;
      lines_are = sym (ap (λ (ls : List OwnLine.OwnLine). map without_facts lent.lines ++ map (line_seen task new.values) ls) none
          ∙ append-nil (map without_facts lent.lines));
      within = subst (AllByRecursion (IsWithin (length new.values))) (sym none) tt;
      falsum = noted.falsum_told;
    }

-- nothing is noted of no lines
pub none_noted : (facts : List store.Fact) (told : Bool) → facts ≡ [] → told ≡ false → AreNoted facts told []
none_noted facts told none not = record {
  facts_told = λ positive symbol args.
      let number = signed_number (fact_of positive symbol args) in
      ((λ e. absurd (false≢true (ap (store.stands number args) (sym none) ∙ e))), (λ h. absurd h));
  falsum_told = ((λ e. absurd (false≢true (sym not ∙ e))), (λ h. absurd h));
}

-- the line of a form's lists at elements, as it is kept
pub made_seen : (task : CitedTask) (values elements : List ℕ) (f : Form) (form start count : ℕ) → slice_get task.forms form ≡ Some f
    → take count (drop start values) ≡ elements
    → line_seen task values (line_made (length f.disjuncts) form start count) ≡ without_facts (line_of (map (map (atom_at elements)) f.disjuncts))
made_seen task values elements f form start count at part =
    made f.disjuncts refl
  where
    made : (lists : List (List Atom)) → f.disjuncts ≡ lists
        → line_seen task values (line_made (length lists) form start count) ≡ without_facts (line_of (map (map (atom_at elements)) lists))
    made [] is = refl
    made (facts ∷ []) is = refl
    made (facts ∷ more ∷ rest) is =
        ap (λ (es : List ℕ). line.Cases (lists_at (slice_get task.forms form) es)) part
        ∙ ap (λ (o : Option Form). line.Cases (lists_at o elements)) at
        ∙ ap (λ (ls : List (List Atom)). line.Cases (map (map (atom_at elements)) ls)) is

-- it is within the elements that are kept
pub made_within : (lists form start count kept : ℕ) → start + count ≤ kept → IsWithin kept (line_made lists form start count)
made_within zero form start count kept h = tt
made_within (suc zero) form start count kept h = tt
made_within (suc (suc n)) form start count kept h = h

-- the context after a form was applied is kept
pub form_represented : (task : CitedTask) (lent : Context) (old new : Kept) (context : Context) (f : Form) (form start count : ℕ) (args : List ℕ) (own : OwnLine.OwnLine)
    → Represents task lent old context → slice_get task.forms form ≡ Some f
    → new.values ≡ old.values ++ (args ++ counted old.elements f.existentials) → start ≡ length old.values → count ≡ length new.values - start
    → IsNoted (line_of (map (map (atom_at (take (length new.values - start) (drop start new.values)))) f.disjuncts)) old.store old.falsum new.store new.falsum
    → own ≡ line_made (length f.disjuncts) form start count → new.lines ≡ old.lines ++ own ∷ [] → new.elements ≡ old.elements + f.existentials
    → Represents task lent new (after_mp context f args)
form_represented task lent old new context f form start count args own is at values_are start_is count_is noted own_is lines_are elements_are =
    line_represented task lent old new context (line_of (map (map (atom_at elements)) f.disjuncts)) own (args ++ counted old.elements f.existentials) (context.elements + f.existentials)
    is (subst (λ es. IsNoted (line_of (map (map (atom_at es)) f.disjuncts)) old.store old.falsum new.store new.falsum) part noted)
    lines_are values_are
    (subst (IsWithin (length new.values)) (sym own_is) (made_within (length f.disjuncts) form start count (length new.values) (omega (arith, long, start_is, count_is))))
    (ap (line_seen task new.values) own_is ∙ made_seen task new.values elements f form start count at whole)
    (elements_are ∙ ap (λ n. n + f.existentials) is.elements_are)
  where
    elements : List ℕ
    elements = args ++ counted context.elements f.existentials

    rest : drop start new.values ≡ args ++ counted old.elements f.existentials
    rest = (λ i. drop (start_is i) (values_are i)) ∙ drop-append_seam old.values (args ++ counted old.elements f.existentials)

    long : length new.values ≡ length old.values + length (args ++ counted old.elements f.existentials)
    long = ap length values_are ∙ length-append old.values (args ++ counted old.elements f.existentials)

    many : length new.values - start ≡ length (args ++ counted old.elements f.existentials)
    many = omega (arith, start_is, long)

    part : take (length new.values - start) (drop start new.values) ≡ elements
    part = (λ i. take (many i) (rest i)) ∙ take-length (args ++ counted old.elements f.existentials) ∙ ap (λ n. args ++ counted n f.existentials) is.elements_are

    whole : take count (drop start new.values) ≡ elements
    whole = ap (λ n. take n (drop start new.values)) count_is ∙ part
