-- What is told of a formula in one pass decides whether it is read or refused.
use Rattle.std.proofs.Common.{◌≡◌, ℕ, ◌≤◌, ◌<◌, min, inl, inr, Bool, true, false, nat_le, List, [], ◌∷◌, Option, Some, None, refl, ap, sym, ◌∙◌, subst, arith}
use Rattle.std.proofs.lemmas.Bool.Decides.{nat_tests}
use Rattle.std.specs.List.{AllByRecursion}
use Rattle.text_core.specs.Lists.{IsAmong}
use Rattle.text_core.proofs.Laws.{each_map}
use Rattle.logic_core.specs.Allowed.{IsBoundIn}
use Rattle.logic_core.specs.declared.formula.Formula.{Formula}
use Rattle.coherent_form.specs.Counts.{AreSmall, most, saturated, rule_counts}
use Rattle.coherent_form.specs.Offending.{IsCoherent, Offends, rule_offenders}
use Rattle.coherent_form.specs.Surveys.{first_told, first_of, account_of}
use Rattle.coherent_form.specs.Wide.{IsReadable, IsWide, told}
use Rattle.coherent_form.specs.declared.counts.Counts.{Counts}
use Rattle.coherent_form.specs.declared.survey.Account.{Account}
use Rattle.coherent_form.proofs.Counting.{small_narrow, narrow_small}

-- no first node is told where there is none

-- the lesser of a node and another is some node
some_or_none : (m : ℕ) (o : Option ℕ) → first_told (Some m) o ≡ None → ⊥
some_or_none m (Some n) e = absurd (cc)
some_or_none m None e = absurd (cc)

-- where no first node is told, there is none
first_of_none : (xs : List ℕ) → first_of xs ≡ None → xs ≡ []
first_of_none [] e = refl
first_of_none (x ∷ xs) e = absurd (some_or_none (min x most) (first_of xs) e)

-- the node that is told is the first one

record First (xs : List ℕ) (node : ℕ) : Type 0 where
  pub first : ℕ
  pub among : IsAmong first xs
  pub least : AllByRecursion (λ other. first ≤ other) xs
  pub is : node ≡ min first most

-- a node alone is the first
first_alone : (x node : ℕ) (xs : List ℕ) → xs ≡ [] → min x most ≡ node → First (x ∷ xs) node
first_alone x node xs none is = subst (λ ys. First (x ∷ ys) node) (sym none) (record { first = x; among = inl refl; least = (let e : x ≤ x = omega arith in e, tt); is = sym is })

-- the first of a node and some others
first_two : (x node : ℕ) (xs : List ℕ) (m : ℕ) → First xs m → min (min x most) m ≡ node → First (x ∷ xs) node
first_two x node xs m h is = go (nat_le x h.first) refl
  where
    go : (b : Bool) → nat_le x h.first ≡ b → First (x ∷ xs) node
    go true le =
        let before : x ≤ h.first = grind (arith, nat_tests) in
        record {
          first = x;
          among = inl refl;
          least = (let e : x ≤ x = omega arith in e, each_map {Q = λ other. x ≤ other} (λ other l. let k : h.first ≤ other = l in omega arith) xs h.least);
          is = (let e = h.is in omega arith);
        }
    go false gt =
        let after : h.first < x = grind (arith, nat_tests) in
        record {
          first = h.first;
          among = inr h.among;
          least = (let e : h.first ≤ x = omega arith in e, h.least);
          is = (let e = h.is in omega arith);
        }

-- the first node that is told is the first one
first_of_some : (xs : List ℕ) (node : ℕ) → first_of xs ≡ Some node → First xs node
first_of_some [] node e = absurd (cc)
first_of_some (x ∷ xs) node e = by_rest x node xs (first_of xs) refl e (first_of_some xs)
  where
    by_rest : (y n : ℕ) (ys : List ℕ) (o : Option ℕ) → first_of ys ≡ o → first_told (Some (min y most)) o ≡ Some n → ((m : ℕ) → first_of ys ≡ Some m → First ys m) → First (y ∷ ys) n
    by_rest y n ys (Some m) rest is later = first_two y n ys m (later m rest) (let same : min (min y most) m ≡ n = cc in same)
    by_rest y n ys None rest is later = first_alone y n ys (first_of_none ys rest) (let same : min y most ≡ n = cc in same)

-- counts are small where those that are told are

-- counts are small where those that are told are
small_told : (c : Counts) → AreSmall (saturated c) → AreSmall c
small_told c h =
    let a = h.forms in let b = h.variables in let d = h.atoms in let e = h.arguments in
    record { forms = omega arith; variables = omega arith; atoms = omega arith; arguments = omega arith }

-- and the other way round
told_small : (c : Counts) → AreSmall c → AreSmall (saturated c)
told_small c h =
    let a = h.forms in let b = h.variables in let d = h.atoms in let e = h.arguments in
    record { forms = omega arith; variables = omega arith; atoms = omega arith; arguments = omega arith }

module _ (f : Formula) (account : Account) (is : account ≡ account_of f) where
  -- a node that is told
  pub offends_told : (node : ℕ) → account.rule.offender ≡ Some node → (first : ℕ) × Offends f first × (node ≡ told first)
  offends_told node e =
      let h = first_of_some (rule_offenders f) node (sym (ap (λ a. a.rule.offender) is) ∙ e) in
      (h.first, record { offends = h.among; first = h.least }, h.is)

  -- no node that is told
  coherent_told : account.rule.offender ≡ None → IsCoherent f
  coherent_told e = first_of_none (rule_offenders f) (sym (ap (λ a. a.rule.offender) is) ∙ e)

  module _ (closed : IsBoundIn [] f) (none : account.rule.offender ≡ None) where
    -- no node and small counts
    pub readable_told : AreSmall account.rule.counts → IsReadable f
    readable_told small = record {
      coherent = coherent_told none;
      narrow = λ tables. small_narrow tables f closed (small_told (rule_counts f) (subst AreSmall (ap (λ a. a.rule.counts) is) small));
    }

    -- no node and counts that are not small
    pub wide_told : (AreSmall account.rule.counts → ⊥) → IsWide f
    wide_told large = record {
      coherent = coherent_told none;
      wide = λ tables narrow. large (subst AreSmall (sym (ap (λ a. a.rule.counts) is)) (told_small (rule_counts f) (narrow_small tables f closed narrow)));
    }
