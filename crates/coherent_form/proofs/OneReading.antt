-- A formula is read in one way, is refused for one reason, and never both.
use Rattle.std.proofs.Common.{◌≡◌, ℕ, ◌≤◌, ◌⊎◌, inr, List, [], Result, Ok, Err, refl, ap, sym, ◌∙◌, subst, arith}
use Rattle.text_core.specs.Lists.{IsAmong}
use Rattle.text_core.specs.Numbered.{Tables}
use Rattle.text_core.specs.Exact.{Exact}
use Rattle.text_core.proofs.Laws.{each_member, exact_value, exact_refusal}
use Rattle.logic_core.specs.declared.formula.Formula.{Formula}
use Rattle.logic_core.specs.declared.form.Form.{Form}
use Rattle.coherent_form.specs.Offending.{IsCoherent, Offends, rule_offenders}
use Rattle.coherent_form.specs.Reading.{forms_of}
use Rattle.coherent_form.specs.Wide.{AreNarrow, Reads, IsRefused, told}
use Rattle.coherent_form.specs.declared.refusal.FormRefusal.{FormRefusal}
use Rattle.coherent_form.specs.declared.refusal.FormRefusal.TheVariants.{NotCoherent, TooWide, Memory}

-- the forms and the tables after them are one
pub reads_tables : (tables : Tables) (f : Formula) (a b : List Form) (x y : Tables) → Reads tables f a x → Reads tables f b y → x ≡ y
reads_tables tables f a b x y r s = r.after_is ∙ sym s.after_is

-- so are the forms
pub reads_forms : (tables : Tables) (f : Formula) (a b : List Form) (x y : Tables) → Reads tables f a x → Reads tables f b y → a ≡ b
reads_forms tables f a b x y r s = r.forms_are ∙ ap (λ t. forms_of t [] f) (reads_tables tables f a b x y r s) ∙ sym s.forms_are

-- no node of a coherent formula offends
pub coherent_offends : (f : Formula) (node : ℕ) → IsCoherent f → Offends f node → ⊥
coherent_offends f node coherent offends = subst (λ nodes. IsAmong node nodes) coherent offends.offends

-- the first node that offends is one
pub offends_first : (f : Formula) (m n : ℕ) → Offends f m → Offends f n → m ≡ n
offends_first f m n a b =
    let first : m ≤ n = each_member (λ other. m ≤ other) (rule_offenders f) a.first n b.offends in
    let second : n ≤ m = each_member (λ other. n ≤ other) (rule_offenders f) b.first m a.offends in
    omega arith

-- a refusal is one
pub refused_one : (f : Formula) (a b : FormRefusal) → IsRefused f a → IsRefused f b → a ≡ b
refused_one f (NotCoherent m) (NotCoherent n) h k = ap NotCoherent (h.2 ∙ ap told (offends_first f h.0 k.0 h.1 k.1) ∙ sym k.2)
refused_one f (NotCoherent m) TooWide h k = absurd (coherent_offends f h.0 k.coherent h.1)
refused_one f (NotCoherent m) Memory h k = absurd k
refused_one f TooWide (NotCoherent n) h k = absurd (coherent_offends f k.0 h.coherent k.1)
refused_one f TooWide TooWide h k = refl
refused_one f TooWide Memory h k = absurd k
refused_one f Memory b h k = absurd h

-- what is read is not refused
pub reads_refused : (tables : Tables) (f : Formula) (forms : List Form) (after : Tables) (why : FormRefusal) → Reads tables f forms after → IsRefused f why → ⊥
reads_refused tables f forms after (NotCoherent node) r h = coherent_offends f h.0 r.coherent h.1
reads_refused tables f forms after TooWide r h = h.wide after (subst AreNarrow r.forms_are r.narrow)
reads_refused tables f forms after Memory r h = h

module _ (tables after : Tables) (f : Formula) where
  -- the forms at hand are the exact answer
  pub exact_forms : (forms : List Form) → Reads tables f forms after → Exact (λ fs. Reads tables f fs after) (IsRefused f) Memory (Ok forms)
  exact_forms forms r = exact_value (λ fs. Reads tables f fs after) (IsRefused f) Memory
      (λ a b h k. reads_forms tables f a b after after h k) (refused_one f) (λ a b h k. reads_refused tables f a after b h k) forms r

  -- a refusal at hand is the exact answer
  pub exact_refused : (why : FormRefusal) → (why ≡ Memory) ⊎ IsRefused f why → Exact (λ fs. Reads tables f fs after) (IsRefused f) Memory (Err why)
  exact_refused why is = exact_refusal (λ fs. Reads tables f fs after) (IsRefused f) Memory
      (λ a b h k. reads_forms tables f a b after after h k) (refused_one f) (λ a b h k. reads_refused tables f a after b h k) why is

  -- and so is an answer that is known to be one
  pub exact_refused_as : (result : Result (List Form) FormRefusal) (why : FormRefusal) → result ≡ Err why → IsRefused f why
      → Exact (λ fs. Reads tables f fs after) (IsRefused f) Memory result
  exact_refused_as result why is h = subst (Exact (λ fs. Reads tables f fs after) (IsRefused f) Memory) (sym is) (exact_refused why (inr h))
