-- A step that was taken: its line, the branch after it, and why it stands.
use Rattle.std.proofs.Common.{◌≡◌, ℕ, ◌+◌, ◌*◌, ◌<◌, ◌≤◌, ◌^◌, inl, inr, Bool, true, false, if◌then◌else◌, List, [], ◌∷◌, ◌++◌, length, map, refl, ap, sym, ◌∙◌, subst, arith, length-append}
use Rattle.std.specs.List.{AllByRecursion}
use Rattle.std.proofs.lemmas.List.{map-append}
use Rattle.text_core.specs.Names.{Text}
use Rattle.text_core.specs.Numbered.{Tables}
use Rattle.text_core.proofs.Laws.{each_map}
use Rattle.logic_core.specs.declared.form.Slot.{Slot}
use Rattle.logic_core.specs.declared.form.Slot.TheVariants.{Variable, Constant}
use Rattle.logic_core.specs.declared.form.Atom.{Atom}
use Rattle.logic_core.specs.declared.form.Form.{Form}
use Rattle.vernacular_tree.specs.Contexts.{counted, slot_at, atom_at, line_of}
use Rattle.coherent_form.specs.Fitting.{AtomFits, FormFits}
use Rattle.coherent_form.specs.Tasks.{CitedTask}
use Rattle.proof_text.specs.declared.body.MpText.{MpText}
use Rattle.proof_text.specs.StandsFor.{Shows}
use Rattle.proof_text.specs.Branches.{AreNew, shown_line, given_line}
use Rattle.proof_checker.specs.Kept.{Kept, IsKept, HasLine, LineFits, FactsFit, atom_seen, line_seen, branch_of, element_at, fact_at, held_line, signed_number}
use Rattle.proof_checker.specs.Faults.{WitnessFault}
use Rattle.proof_checker.specs.Running.{IsTaken}
use Rattle.proof_checker.specs.declared.refusal.Why.TheVariants as why
use Rattle.proof_checker.specs.declared.fact.Fact.{Fact}
use Rattle.proof_checker.specs.declared.fact.HeldLine as HeldLine

-- an argument of a fact is seen as that of the atom
slots_seen : (es : List ℕ) (slots : List Slot) → map Constant (map (element_at es) slots) ≡ map (slot_at es) slots
slots_seen es [] = refl
slots_seen es (Variable i ∷ slots) = ap (λ rest. slot_at es (Variable i) ∷ rest) (slots_seen es slots)
slots_seen es (Constant c ∷ slots) = ap (λ rest. Constant c ∷ rest) (slots_seen es slots)

-- a fact is seen as the atom at the elements
pub seen_at : (es : List ℕ) (atom : Atom) → atom_seen (fact_at es atom) ≡ atom_at es atom
seen_at es atom = λ i. record { positive = atom.positive; symbol = atom.symbol; args = slots_seen es atom.args i }

-- so are lists of facts, and lists of these
pub facts_seen : (es : List ℕ) (atoms : List Atom) → map atom_seen (map (fact_at es) atoms) ≡ map (atom_at es) atoms
facts_seen es [] = refl
facts_seen es (atom ∷ atoms) = λ i. seen_at es atom i ∷ facts_seen es atoms i

lists_seen : (es : List ℕ) (lists : List (List Atom)) → map (map atom_seen) (map (map (fact_at es)) lists) ≡ map (map (atom_at es)) lists
lists_seen es [] = refl
lists_seen es (atoms ∷ lists) = λ i. facts_seen es atoms i ∷ lists_seen es lists i

-- the line of lists is seen as that of what they are seen as
held_seen : (lists : List (List Fact)) → line_seen (held_line lists) ≡ line_of (map (map atom_seen) lists)
held_seen [] = refl
held_seen (facts ∷ []) = refl
held_seen (facts ∷ more ∷ rest) = refl

-- the line of a form's disjuncts
pub given_seen : (es : List ℕ) (lists : List (List Atom)) → line_seen (held_line (map (map (fact_at es)) lists)) ≡ line_of (map (map (atom_at es)) lists)
given_seen es lists = held_seen (map (map (fact_at es)) lists) ∙ ap line_of (lists_seen es lists)

-- a signed number is small where its symbol is
signed_below : (positive : Bool) (symbol count : ℕ) → symbol < count → 2 * symbol + (if positive then 0 else 1) < 2 * count
signed_below true symbol count below = omega arith
signed_below false symbol count below = omega arith

-- facts of atoms whose symbols are there fit
facts_fit : (tables : Tables) (signed : ℕ) (es : List ℕ) → signed ≡ 2 * (length tables.symbols + 1) → (atoms : List Atom)
    → AllByRecursion (AtomFits tables) atoms → FactsFit signed (map (fact_at es) atoms)
facts_fit tables signed es is [] fit = tt
facts_fit tables signed es is (atom ∷ atoms) fit = (
  subst (λ n. signed_number (fact_at es atom) < n) (sym is) (signed_below atom.positive atom.symbol (length tables.symbols + 1) fit.0.there),
  facts_fit tables signed es is atoms fit.1,
)

-- so do lists of them
lists_fit : (tables : Tables) (signed : ℕ) (es : List ℕ) → signed ≡ 2 * (length tables.symbols + 1) → (lists : List (List Atom))
    → AllByRecursion (AllByRecursion (AtomFits tables)) lists → AllByRecursion (FactsFit signed) (map (map (fact_at es)) lists)
lists_fit tables signed es is [] fit = tt
lists_fit tables signed es is (atoms ∷ lists) fit = (facts_fit tables signed es is atoms fit.0, lists_fit tables signed es is lists fit.1)

-- and their line
held_fits : (signed : ℕ) (lists : List (List Fact)) → AllByRecursion (FactsFit signed) lists → LineFits signed (held_line lists)
held_fits signed [] fit = tt
held_fits signed (facts ∷ []) fit = fit.0
held_fits signed (facts ∷ more ∷ rest) fit = fit

-- the line of a form that fits the task fits
pub line_fits : (tables : Tables) (signed : ℕ) (es : List ℕ) (form : Form) → signed ≡ 2 * (length tables.symbols + 1) → FormFits tables form
    → LineFits signed (held_line (map (map (fact_at es)) form.disjuncts))
line_fits tables signed es form is fits = held_fits signed (map (map (fact_at es)) form.disjuncts) (lists_fit tables signed es is form.disjuncts fits.disjuncts)

-- the facts of a form's premises fit too
pub premises_fit : (tables : Tables) (signed : ℕ) (es : List ℕ) (atoms : List Atom) → signed ≡ 2 * (length tables.symbols + 1)
    → AllByRecursion (AtomFits tables) atoms → FactsFit signed (map (fact_at es) atoms)
premises_fit tables signed es atoms is fit = facts_fit tables signed es is atoms fit

-- symbols that are there are small
pub symbols_small : (tables : Tables) (atoms : List Atom) → length tables.symbols + 1 ≤ 67108865 → AllByRecursion (AtomFits tables) atoms
    → AllByRecursion (λ (atom : Atom). atom.symbol < 2 ^ 31) atoms
symbols_small tables atoms few fit = each_map (λ (atom : Atom) (fits : AtomFits tables atom). let there = fits.there in omega (arith, few, there)) atoms fit

-- a branch with further names is kept
pub names_kept : (task : CitedTask) (old : Kept) (fresh : List Text) → length (old.names ++ fresh) < 2 ^ 32 → IsKept task old
    → IsKept task (record old { names = old.names ++ fresh })
names_kept task old fresh few kept =
    record { facts = kept.facts; falsum = kept.falsum; lines = kept.lines; signed = kept.signed; small = kept.small; few = few }

-- a step is taken that named its new elements and gave its line
pub step_taken : (task : CitedTask) (text : MpText) (form : Form) (args : List ℕ) (old middle new : Kept) (line : HeldLine.HeldLine) (first : ℕ)
    → IsKept task old → length text.fresh ≡ form.existentials → AreNew old.names text.fresh
    → middle ≡ record old { names = old.names ++ text.fresh } → length middle.names < 2 ^ 32 → first ≡ length old.names
    → line ≡ held_line (map (map (fact_at (args ++ counted first form.existentials))) form.disjuncts)
    → Shows text.shown (shown_line task.tables middle.names (line_seen line)) → HasLine line middle new
    → IsTaken task text form args old new
step_taken task text form args old middle new line first kept as_many fresh is few first_is line_is shown has =
    let names : middle.names ≡ old.names ++ text.fresh = ap (λ (k : Kept). k.names) is in
    let lines : middle.lines ≡ old.lines = ap (λ (k : Kept). k.lines) is in
    let seen : line_seen line ≡ given_line (branch_of old).context form args
    = ap line_seen line_is ∙ given_seen (args ++ counted first form.existentials) form.disjuncts
    ∙ ap (λ n. line_of (map (map (atom_at (args ++ counted n form.existentials))) form.disjuncts)) first_is in
    let named : new.names ≡ old.names ++ text.fresh = has.names_are ∙ names in
    let long : length new.names ≡ length old.names + form.existentials
    = ap length named ∙ length-append old.names text.fresh ∙ ap (λ n. length old.names + n) as_many in
    let grown : new.lines ≡ old.lines ++ line ∷ [] = has.lines_are ∙ ap (λ (ls : List HeldLine.HeldLine). ls ++ line ∷ []) lines in
    let all : map line_seen new.lines ≡ map line_seen old.lines ++ given_line (branch_of old).context form args ∷ []
    = ap (map line_seen) grown ∙ map-append line_seen old.lines (line ∷ []) ∙ ap (λ l. map line_seen old.lines ++ l ∷ []) seen in
    record {
      as_many = as_many;
      fresh = fresh;
      shown = subst (λ l. Shows text.shown (shown_line task.tables (old.names ++ text.fresh) l)) seen
          (subst (λ ns. Shows text.shown (shown_line task.tables ns (line_seen line))) names shown);
      branch_is = λ i. record { context = record { elements = long i; lines = all i }; names = named i };
      kept = has.kept task (subst (IsKept task) (sym is) (names_kept task old text.fresh (subst (λ (ns : List Text). length ns < 4294967296) names few) kept));
      grows = record {
        names = text.fresh;
        lines = line ∷ [];
        facts = has.added;
        names_are = named;
        lines_are = grown;
        facts_are = has.facts_are ∙ ap (λ (k : Kept). k.facts ++ has.added) is;
        signed_is = has.signed_is ∙ ap (λ (k : Kept). k.signed) is;
      };
    }

-- a step is refused whose line is shown otherwise
pub step_differs : (task : CitedTask) (text : MpText) (form : Form) (args : List ℕ) (old middle : Kept) (line : HeldLine.HeldLine) (first : ℕ)
    → length text.fresh ≡ form.existentials → AreNew old.names text.fresh
    → middle ≡ record old { names = old.names ++ text.fresh } → first ≡ length old.names
    → line ≡ held_line (map (map (fact_at (args ++ counted first form.existentials))) form.disjuncts)
    → (Shows text.shown (shown_line task.tables middle.names (line_seen line)) → ⊥)
    → WitnessFault task (branch_of old) text form args why.ShownDiffers
step_differs task text form args old middle line first as_many fresh is first_is line_is differs =
    let names : middle.names ≡ old.names ++ text.fresh = ap (λ (k : Kept). k.names) is in
    let seen : line_seen line ≡ given_line (branch_of old).context form args
    = ap line_seen line_is ∙ given_seen (args ++ counted first form.existentials) form.disjuncts
    ∙ ap (λ n. line_of (map (map (atom_at (args ++ counted n form.existentials))) form.disjuncts)) first_is in
    inr (
      as_many,
      inr (
        fresh,
        inl (
          (λ shown. differs (subst (λ ns. Shows text.shown (shown_line task.tables ns (line_seen line))) (sym names)
              (subst (λ l. Shows text.shown (shown_line task.tables (old.names ++ text.fresh) l)) (sym seen) shown))),
          refl,
        ),
      ),
    )
