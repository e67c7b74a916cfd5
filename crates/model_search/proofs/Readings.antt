-- In a countermodel each form of the problem's premises is true, and the form of the goal is not.
use Rattle.std.proofs.Common.{◌≡◌, ℕ, zero, suc, ◌+◌, ◌≤◌, Bool, true, false, if◌then◌else◌, List, [], ◌∷◌, ◌++◌, map, length, slice_get, refl, sym, ◌∙◌, ap, subst, arith, append_assoc, length-append}
use Rattle.std.specs.Prelude.{unwrap_or}
use Rattle.std.specs.List.{AllByRecursion}
use Rattle.std.proofs.lemmas.List.{append-nil}
use Rattle.text_core.specs.Names.{Text}
use Rattle.text_core.specs.Numbered.{Tables}
use Rattle.text_core.proofs.Laws.{each_append}
use Rattle.logic_core.specs.Allowed.{FofIsAllowed}
use Rattle.logic_core.specs.Truth.{Structure, IsTrueIn}
use Rattle.logic_core.specs.Forms.{FormTrue, interpretation}
use Rattle.logic_core.specs.declared.problem.Fof.{Fof}
use Rattle.logic_core.specs.declared.form.Form.{Form}
use Rattle.vernacular_tree.specs.Contexts.{counted}
use Rattle.coherent_form.specs.Reading.{Extends}
use Rattle.coherent_form.specs.Tasks.{Progress, is_conjecture, no_goal, tables_after, forms_behind, after_formula, after_formulas, IsTaken, AreTaken, further}
use Rattle.coherent_form.specs.Wide.{Reads}
use Rattle.coherent_form.specs.declared.citation.Citation.{Citation}
use Rattle.coherent_form.specs.declared.citation.Citation.TheVariants.{Axiom}
use Rattle.coherent_form.proofs.Laws.{tables_extend, forms_same}
use Rattle.finite_model.specs.Countermodels.{Wanted, Suits}
use Rattle.logic_core.specs.declared.problem.Role.{Role}
use Rattle.logic_core.specs.declared.problem.Role.TheVariants.{Conjecture}

-- what is wanted of a conjecture, and of a premise
wanted_not : (role : Role) (P : Type 0) → is_conjecture role ≡ true → Wanted role P → P → ⊥
wanted_not Conjecture P e w = w
wanted_not _ P e w = absurd (cc)

wanted_true : (role : Role) (P : Type 0) → is_conjecture role ≡ false → Wanted role P → P
wanted_true Conjecture P e w = absurd (cc)
wanted_true _ P e w = w

-- forms of a conjecture that gives at most one: each is true where the goal is
each_goal : (P : Form → Type 0) (forms : List Form) → length forms ≤ 1 → P (unwrap_or (slice_get forms 0) no_goal) → AllByRecursion P forms
each_goal P [] few h = tt
each_goal P (form ∷ []) few h = (h, tt)
each_goal P (form ∷ more ∷ forms) few h = absurd (omega arith)

-- a list that is longer than a longer one
longer_list : {X : Type 0} (a b c : List X) → (more : List X) × (b ≡ a ++ more) → (more : List X) × (c ≡ b ++ more) → (more : List X) × (c ≡ a ++ more)
longer_list {X = X} a b c e f = (e.0 ++ f.0, f.1 ∙ ap (λ (xs : List X). xs ++ f.0) e.1 ∙ append_assoc a e.0 f.0)

extends_further : (a b c : Tables) → Extends a b → Extends b c → Extends a c
extends_further a b c e f = record {
  symbols = longer_list a.symbols b.symbols c.symbols e.symbols f.symbols;
  constants = longer_list a.constants b.constants c.constants e.constants f.constants;
}

-- tables extend themselves
pub extends_itself : (a : Tables) → Extends a a
extends_itself a = record { symbols = ([], sym (append-nil a.symbols)); constants = ([], sym (append-nil a.constants)) }

-- one of two, by a test
pub by_test : {X : Type 0} (P : X → Type 0) (b : Bool) (x y : X) → (b ≡ true → P x) → (b ≡ false → P y) → P (if b then x else y)
by_test P true x y h k = h refl
by_test P false x y h k = k refl

length_images : {X Y : Type 0} (f : X → Y) (xs : List X) → length (map f xs) ≡ length xs
length_images f [] = refl
length_images f (x ∷ xs) = let rest = length_images f xs in omega (arith, rest)

length_row : (first count : ℕ) → length (counted first count) ≡ count
length_row first zero = refl
length_row first (suc count) = let rest = length_row (first + 1) count in omega (arith, rest)

-- a formula's forms have a citation each
further_count : (name : Text) (citations : List Citation) (count : ℕ) → length (further name citations count) ≡ count
further_count name citations count = length_images (Axiom name) _ ∙ length_row _ count

module _ (p : Progress) (fof : Fof) where
  -- the tables after a formula
  after_has : (after_formula p fof).tables ≡ tables_after p fof
  after_has = by_test (λ (q : Progress). q.tables ≡ tables_after p fof) (is_conjecture fof.role) _ _ (λ e. refl) (λ e. refl)

  reads_it : IsTaken p fof → Reads p.tables fof.formula (forms_behind p fof) (tables_after p fof)
  reads_it taken = record {
    coherent = taken.fits.read.readable.coherent;
    after_is = refl;
    forms_are = refl;
    narrow = taken.fits.read.readable.narrow (tables_after p fof);
  }

  after_longer : IsTaken p fof → Extends p.tables (after_formula p fof).tables
  after_longer taken = subst (Extends p.tables) (sym after_has) (tables_extend p.tables (tables_after p fof) fof.formula (forms_behind p fof) (reads_it taken))

after_all_longer : (p : Progress) (fofs : List Fof) → AreTaken p fofs → Extends p.tables (after_formulas p fofs).tables
after_all_longer p [] taken = extends_itself p.tables
after_all_longer p (fof ∷ fofs) taken =
    extends_further p.tables (after_formula p fof).tables (after_formulas (after_formula p fof) fofs).tables
    (after_longer p fof taken.0) (after_all_longer (after_formula p fof) fofs taken.1)

module _ (s : Structure) (some : ℕ) (inhabited : s.element some) (longer : Tables) where
  -- the forms of premises are true and cited, and the goal is not true
  pub record AreRefuted (p : Progress) : Type 0 where
    pub forms : AllByRecursion (FormTrue (interpretation s longer)) p.forms
    pub cited : length p.citations ≡ length p.forms
    pub goal : FormTrue (interpretation s longer) (unwrap_or p.goal no_goal) → ⊥

  module _ (p : Progress) (fof : Fof) (taken : IsTaken p fof) (allowed : FofIsAllowed fof) (extends : Extends (tables_after p fof) longer) where
    abbrev TrueForms : Type 0
    TrueForms = AllByRecursion (FormTrue (interpretation s longer)) (forms_behind p fof)

    forms_are_true : IsTrueIn s fof.formula [] → TrueForms
    forms_are_true = (forms_same p.tables (tables_after p fof) fof.formula (forms_behind p fof) (reads_it p fof taken) allowed.closed s longer extends some inhabited).0

    formula_is_true : TrueForms → IsTrueIn s fof.formula []
    formula_is_true = (forms_same p.tables (tables_after p fof) fof.formula (forms_behind p fof) (reads_it p fof taken) allowed.closed s longer extends some inhabited).1

    count_cited : length p.citations ≡ length p.forms
        → length (p.citations ++ further fof.name p.citations (length (forms_behind p fof))) ≡ length (p.forms ++ forms_behind p fof)
    count_cited cited =
        let more = further_count fof.name p.citations (length (forms_behind p fof)) in
        let left = length-append p.citations (further fof.name p.citations (length (forms_behind p fof))) in
        let right = length-append p.forms (forms_behind p fof) in
        omega (arith, cited, more, left, right)

    refuted_after : Suits s fof → AreRefuted p → AreRefuted (after_formula p fof)
    refuted_after suits before = by_test AreRefuted (is_conjecture fof.role) _ _
        (λ is_one. record {
          forms = before.forms;
          cited = before.cited;
          goal = λ h. wanted_not fof.role (IsTrueIn s fof.formula []) is_one suits
              (formula_is_true (each_goal (FormTrue (interpretation s longer)) (forms_behind p fof) (taken.single is_one) h));
        })
        (λ not_one. record {
          forms = each_append (FormTrue (interpretation s longer)) p.forms (forms_behind p fof) before.forms
              (forms_are_true (wanted_true fof.role (IsTrueIn s fof.formula []) not_one suits));
          cited = count_cited before.cited;
          goal = before.goal;
        })

  -- so it is after formulas that are as they are wanted
  pub refuted_after_all : (p : Progress) (fofs : List Fof) → AreTaken p fofs → AllByRecursion FofIsAllowed fofs → Extends (after_formulas p fofs).tables longer
      → AllByRecursion (Suits s) fofs → AreRefuted p → AreRefuted (after_formulas p fofs)
  refuted_after_all p [] taken allowed extends suits before = before
  refuted_after_all p (fof ∷ fofs) taken allowed extends suits before =
      let here : Extends (tables_after p fof) longer
      = subst (λ tables. Extends tables longer) (after_has p fof)
      (extends_further (after_formula p fof).tables (after_formulas (after_formula p fof) fofs).tables longer (after_all_longer (after_formula p fof) fofs taken.1) extends) in
      refuted_after_all (after_formula p fof) fofs taken.1 allowed.1 extends suits.1 (refuted_after p fof taken.0 allowed.0 here suits.0 before)
