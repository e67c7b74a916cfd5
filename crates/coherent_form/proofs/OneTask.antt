-- A problem has one task, one refusal, and never both.
use Rattle.std.proofs.Common.{◌≡◌, ℕ, suc, ◌+◌, ◌⊎◌, inl, inr, List, [], ◌∷◌, ◌++◌, length, Ok, Err, refl, ap, sym, ◌∙◌, subst}
use Rattle.text_core.specs.Exact.{Exact}
use Rattle.text_core.specs.Numbered.{Tables}
use Rattle.text_core.proofs.Laws.{not_both, exact_value, exact_refusal}
use Rattle.logic_core.specs.declared.formula.Formula.{Formula}
use Rattle.logic_core.specs.declared.problem.Fof.{Fof}
use Rattle.coherent_form.specs.Reading.{with_names, forms_of}
use Rattle.coherent_form.specs.Tasks.{CitedTask, Progress, AreTaken, IsRefusedBehind, IsTaken, IsTaskFault, IsTaskOf, after_formula, after_formulas, nothing_read, is_second}
use Rattle.coherent_form.specs.Wide.{IsReadable, IsRefused}
use Rattle.coherent_form.specs.declared.refusal.FormRefusal.{FormRefusal}
use Rattle.coherent_form.specs.declared.refusal.FormRefusal.TheVariants as form
use Rattle.coherent_form.specs.declared.task_refusal.TaskRefusal.{TaskRefusal}
use Rattle.coherent_form.specs.declared.task_refusal.TaskWhy.{TaskWhy}
use Rattle.coherent_form.specs.declared.task_refusal.TaskWhy.TheVariants.{NotCoherent, TooWide, TooManyConjectures, TooManyForms, ManyGoals, Memory}
use Rattle.coherent_form.proofs.OneReading.{refused_one, reads_refused}

-- a readable formula is not refused
readable_refused : (f : Formula) (why : FormRefusal) → IsReadable f → IsRefused f why → ⊥
readable_refused f why readable refused =
    let before : Tables = record { symbols = []; constants = [] } in
    let after = with_names f before in
    reads_refused before f (forms_of after [] f) after why
    (record { coherent = readable.coherent; after_is = refl; forms_are = refl; narrow = readable.narrow after }) refused

-- one formula

-- the nodes that are told are one
node_same : {m n : ℕ} → form.NotCoherent m ≡ form.NotCoherent n → NotCoherent m ≡ NotCoherent n
node_same e = cc

-- no formula is not coherent and too wide
wide_coherent : (f : Formula) (node : ℕ) → IsRefused f form.TooWide → IsRefused f (form.NotCoherent node) → ⊥
wide_coherent f node wide h = let same : form.TooWide ≡ form.NotCoherent node = refused_one f form.TooWide (form.NotCoherent node) wide h in absurd (cc)

module _ (p : Progress) (fof : Fof) where
  -- what is taken is not refused
  pub taken_refused : (why : TaskWhy) → IsTaken p fof → IsRefusedBehind p fof why → ⊥
  taken_refused TooManyConjectures t h = not_both (is_second p fof) h t.fits.read.first
  taken_refused (NotCoherent node) t h = readable_refused fof.formula (form.NotCoherent node) t.fits.read.readable h.1
  taken_refused TooWide t (inl h) = readable_refused fof.formula form.TooWide t.fits.read.readable h.1
  taken_refused TooWide t (inr h) = h.1 t.fits.places
  taken_refused ManyGoals t h = h.1 t.single
  taken_refused TooManyForms t h = h.2 t.few
  taken_refused Memory t h = h

  -- a refusal is one
  pub refused_behind_one : (a b : TaskWhy) → IsRefusedBehind p fof a → IsRefusedBehind p fof b → a ≡ b
  refused_behind_one TooManyConjectures TooManyConjectures h k = refl
  refused_behind_one TooManyConjectures (NotCoherent n) h k = absurd (not_both (is_second p fof) h k.0)
  refused_behind_one TooManyConjectures TooWide h (inl k) = absurd (not_both (is_second p fof) h k.0)
  refused_behind_one TooManyConjectures TooWide h (inr k) = absurd (not_both (is_second p fof) h k.0.first)
  refused_behind_one TooManyConjectures ManyGoals h k = absurd (not_both (is_second p fof) h k.0.read.first)
  refused_behind_one TooManyConjectures TooManyForms h k = absurd (not_both (is_second p fof) h k.0.read.first)
  refused_behind_one TooManyConjectures Memory h k = absurd k
  refused_behind_one (NotCoherent m) TooManyConjectures h k = absurd (not_both (is_second p fof) k h.0)
  refused_behind_one (NotCoherent m) (NotCoherent n) h k = node_same (refused_one fof.formula (form.NotCoherent m) (form.NotCoherent n) h.1 k.1)
  refused_behind_one (NotCoherent m) TooWide h (inl k) = absurd (wide_coherent fof.formula m k.1 h.1)
  refused_behind_one (NotCoherent m) TooWide h (inr k) = absurd (readable_refused fof.formula (form.NotCoherent m) k.0.readable h.1)
  refused_behind_one (NotCoherent m) ManyGoals h k = absurd (readable_refused fof.formula (form.NotCoherent m) k.0.read.readable h.1)
  refused_behind_one (NotCoherent m) TooManyForms h k = absurd (readable_refused fof.formula (form.NotCoherent m) k.0.read.readable h.1)
  refused_behind_one (NotCoherent m) Memory h k = absurd k
  refused_behind_one TooWide TooManyConjectures (inl h) k = absurd (not_both (is_second p fof) k h.0)
  refused_behind_one TooWide TooManyConjectures (inr h) k = absurd (not_both (is_second p fof) k h.0.first)
  refused_behind_one TooWide (NotCoherent n) (inl h) k = absurd (wide_coherent fof.formula n h.1 k.1)
  refused_behind_one TooWide (NotCoherent n) (inr h) k = absurd (readable_refused fof.formula (form.NotCoherent n) h.0.readable k.1)
  refused_behind_one TooWide TooWide h k = refl
  refused_behind_one TooWide ManyGoals (inl h) k = absurd (readable_refused fof.formula form.TooWide k.0.read.readable h.1)
  refused_behind_one TooWide ManyGoals (inr h) k = absurd (h.1 k.0.places)
  refused_behind_one TooWide TooManyForms (inl h) k = absurd (readable_refused fof.formula form.TooWide k.0.read.readable h.1)
  refused_behind_one TooWide TooManyForms (inr h) k = absurd (h.1 k.0.places)
  refused_behind_one TooWide Memory h k = absurd k
  refused_behind_one ManyGoals TooManyConjectures h k = absurd (not_both (is_second p fof) k h.0.read.first)
  refused_behind_one ManyGoals (NotCoherent n) h k = absurd (readable_refused fof.formula (form.NotCoherent n) h.0.read.readable k.1)
  refused_behind_one ManyGoals TooWide h (inl k) = absurd (readable_refused fof.formula form.TooWide h.0.read.readable k.1)
  refused_behind_one ManyGoals TooWide h (inr k) = absurd (k.1 h.0.places)
  refused_behind_one ManyGoals ManyGoals h k = refl
  refused_behind_one ManyGoals TooManyForms h k = absurd (h.1 k.1)
  refused_behind_one ManyGoals Memory h k = absurd k
  refused_behind_one TooManyForms TooManyConjectures h k = absurd (not_both (is_second p fof) k h.0.read.first)
  refused_behind_one TooManyForms (NotCoherent n) h k = absurd (readable_refused fof.formula (form.NotCoherent n) h.0.read.readable k.1)
  refused_behind_one TooManyForms TooWide h (inl k) = absurd (readable_refused fof.formula form.TooWide h.0.read.readable k.1)
  refused_behind_one TooManyForms TooWide h (inr k) = absurd (k.1 h.0.places)
  refused_behind_one TooManyForms ManyGoals h k = absurd (k.1 h.1)
  refused_behind_one TooManyForms TooManyForms h k = refl
  refused_behind_one TooManyForms Memory h k = absurd k
  refused_behind_one Memory b h k = absurd h

-- formulas in order

-- what is given after a front, and then after the rest
pub after_formulas-append : (p : Progress) (xs ys : List Fof) → after_formulas p (xs ++ ys) ≡ after_formulas (after_formulas p xs) ys
after_formulas-append p [] ys = refl
after_formulas-append p (x ∷ xs) ys = after_formulas-append (after_formula p x) xs ys

-- a front that is taken, and then the rest
pub taken_append : (p : Progress) (xs ys : List Fof) → AreTaken p xs → AreTaken (after_formulas p xs) ys → AreTaken p (xs ++ ys)
taken_append p [] ys h k = k
taken_append p (x ∷ xs) ys h k = (h.0, taken_append (after_formula p x) xs ys h.1 k)

-- one formula more
pub taken_more : (p : Progress) (xs : List Fof) (x : Fof) → AreTaken p xs → IsTaken (after_formulas p xs) x → AreTaken p (xs ++ x ∷ [])
taken_more p xs x h k = taken_append p xs (x ∷ []) h (k, tt)

-- no formula of those that are taken is refused behind those before it
taken_never : (p : Progress) (front : List Fof) (fof : Fof) (rest : List Fof) (why : TaskWhy) → AreTaken p (front ++ fof ∷ rest)
    → IsRefusedBehind (after_formulas p front) fof why → ⊥
taken_never p [] fof rest why t h = taken_refused p fof why t.0 h
taken_never p (x ∷ front) fof rest why t h = taken_never (after_formula p x) front fof rest why t.1 h

-- two refusals are of one formula
record IsSameFault (m n : ℕ) (v w : TaskWhy) : Type 0 where
  pub formulas : m ≡ n
  pub whys : v ≡ w

-- the first members of two lists that are the same
heads_same : {x y : Fof} {xs ys : List Fof} → x ∷ xs ≡ y ∷ ys → x ≡ y
heads_same e = cc

-- and the rests
tails_same : {x y : Fof} {xs ys : List Fof} → x ∷ xs ≡ y ∷ ys → xs ≡ ys
tails_same e = cc

-- the first formula that is refused is one
fault_one : (p : Progress) (a b : List Fof) (x y : Fof) (xs ys : List Fof) (v w : TaskWhy) → a ++ x ∷ xs ≡ b ++ y ∷ ys → AreTaken p a → AreTaken p b
    → IsRefusedBehind (after_formulas p a) x v → IsRefusedBehind (after_formulas p b) y w → IsSameFault (length a) (length b) v w
fault_one p [] [] x y xs ys v w e s t h k = record {
  formulas = refl;
  whys = refused_behind_one p y v w (subst (λ z. IsRefusedBehind p z v) (heads_same e) h) k;
}
fault_one p [] (c ∷ b) x y xs ys v w e s t h k = absurd (taken_refused p c v t.0 (subst (λ z. IsRefusedBehind p z v) (heads_same e) h))
fault_one p (d ∷ a) [] x y xs ys v w e s t h k = absurd (taken_refused p d w s.0 (subst (λ z. IsRefusedBehind p z w) (sym (heads_same e)) k))
fault_one p (d ∷ a) (c ∷ b) x y xs ys v w e s t h k =
    let same : d ≡ c = heads_same e in
    let q = after_formula p d in
    let r = fault_one q a b x y xs ys v w (tails_same e) s.1 (subst (λ z. AreTaken (after_formula p z) b) (sym same) t.1) h
    (subst (λ z. IsRefusedBehind (after_formulas (after_formula p z) b) y w) (sym same) k) in
    record { formulas = ap suc r.formulas; whys = r.whys }

-- problems

-- a problem has one task
pub one_task : (problem : List Fof) (a b : CitedTask) → IsTaskOf problem a → IsTaskOf problem b → a ≡ b
one_task problem a b h k = h.task_is ∙ sym k.task_is

-- one refusal
pub one_task_refusal : (problem : List Fof) (a b : TaskRefusal) → IsTaskFault problem a → IsTaskFault problem b → a ≡ b
one_task_refusal problem a b h k =
    let same = fault_one nothing_read h.front k.front h.fof k.fof h.rest k.rest a.why b.why (sym h.problem_is ∙ k.problem_is) h.taken k.taken h.why k.why in
    let formulas : a.formula ≡ b.formula = h.formula ∙ ap (λ (n : ℕ). n + 1) same.formulas ∙ sym k.formula in
    λ i. record { formula = formulas i; why = same.whys i }

-- and never both
pub task_not_refused : (problem : List Fof) (task : CitedTask) (refusal : TaskRefusal) → IsTaskOf problem task → IsTaskFault problem refusal → ⊥
task_not_refused problem task refusal h k =
    taken_never nothing_read k.front k.fof k.rest refusal.why (subst (AreTaken nothing_read) k.problem_is h.taken) k.why

-- answers

-- the refusal for want of memory
abbrev pub want : TaskRefusal
want = record { formula = 0; why = Memory }

module _ (problem : List Fof) where
  -- a task is the exact answer
  pub exact_task : (task : CitedTask) → IsTaskOf problem task → Exact (IsTaskOf problem) (IsTaskFault problem) want (Ok task)
  exact_task task is = exact_value (IsTaskOf problem) (IsTaskFault problem) want (one_task problem) (one_task_refusal problem) (task_not_refused problem) task is

  -- so is a refusal
  pub exact_fault : (refusal : TaskRefusal) → (refusal ≡ want) ⊎ IsTaskFault problem refusal → Exact (IsTaskOf problem) (IsTaskFault problem) want (Err refusal)
  exact_fault refusal is = exact_refusal (IsTaskOf problem) (IsTaskFault problem) want (one_task problem) (one_task_refusal problem) (task_not_refused problem) refusal is
